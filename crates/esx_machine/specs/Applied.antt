-- Machines after events that they accepted, and a read that they accept.
use Rattle.std.specs.Prelude.{◌≡◌, ℕ, List, [], ◌∷◌}
use Rattle.esx_types.specs.Ranges.{IsConfig}
use Rattle.esx_types.specs.declared.config.Config.{Config}
use Rattle.esx_events.specs.declared.event.Answer.{Answer}
use Rattle.esx_events.specs.declared.event.Event.{Event}
use Rattle.esx_events.specs.declared.event.Event.TheVariants.{Read}
use Rattle.esx_model.specs.declared.scene.Scene.{Scene}
use Rattle.esx_model.specs.Memory.{own_events}
use Rattle.esx_model.specs.Replay.{opening, next}
use Rattle.esx_machine.specs.Machine.{Kept, Back, Shows, Accepts}

-- a machine as it is opened for a site
pub record IsOpened (c : Config) (k : Kept) : Type 0 where
  pub config : IsConfig c
  pub same : k.config ≡ c
  pub shows : Shows k (opening c)

-- what a machine promises of an event that it accepts, whatever scene it shows
abbrev pub IsApplied : Kept → Event → Answer → Back → Kept → Type 0
IsApplied old e a r new = (t : Scene) → Shows old t → Accepts old new a r (next old.config t e)

-- it accepted these events, one after another
abbrev pub AreApplied : List Event → Kept → Kept → Type 0
AreApplied [] old new = old ≡ new
AreApplied (e ∷ es) old new = (k : Kept) × (a : Answer) × (r : Back) × IsApplied old e a r k × AreApplied es k new

-- A machine of a site that accepted these events, and then a read of some bytes.
pub record ReadsAfter (c : Config) (es : List Event) (n page at len : ℕ) (a : Answer) : Type 0 where
  pub first : Kept
  pub opened : IsOpened c first
  pub last : Kept
  pub applied : AreApplied es first last
  pub back : Back
  pub after : Kept
  pub reads : IsApplied last (Read n page at len) a back after

-- two machines of a site answer one read alike, if the same events name its virtual machine, without scans, swap outs, samples and shares
abbrev pub DoMachinesReadAlike : Type 0
DoMachinesReadAlike = (c : Config) (es fs : List Event) (n page at len : ℕ) (a b : Answer) → own_events n es ≡ own_events n fs → ReadsAfter c es n page at len a → ReadsAfter c fs n page at len b → a ≡ b
