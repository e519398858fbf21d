-- Isolation: what a machine reads is made by its own events alone.
use Rattle.std.specs.Prelude.{◌≡◌, ℕ, ◌<◌, List, None, Ok}
use Rattle.esx_types.specs.declared.config.TheConstants.{VM_NUMBERS}
use Rattle.esx_types.specs.declared.config.Config.{Config}
use Rattle.esx_types.specs.Ranges.{IsConfig}
use Rattle.esx_events.specs.declared.event.Answer.{Answer}
use Rattle.esx_events.specs.declared.event.Event.{Event}
use Rattle.esx_events.specs.declared.event.Event.TheVariants.{Read}
use Rattle.esx_model.specs.declared.scene.Scene.{Scene}
use Rattle.esx_model.specs.Replay.{next, run}
use Rattle.esx_model.specs.sound.Sound.{IsSound}
use Rattle.esx_model.specs.Memory.{memory_at, memory_after, memory_along, own_events}

-- an accepted event does to each machine's memory what it does of itself, to one that it does not name nothing
abbrev pub IsEachMemoryOwn : Type 0
IsEachMemoryOwn = (c : Config) (t : Scene) (e : Event) (r : Answer × Scene) (n : ℕ) → IsSound c t.site → n < VM_NUMBERS → next c t e ≡ Ok r →
    memory_at c r.1.site n ≡ memory_after c n e (memory_at c t.site n)

-- so a machine's memory after a path is what its own events make, without scans, swap outs, samples and shares
abbrev pub IsMemoryMadeAlone : Type 0
IsMemoryMadeAlone = (c : Config) (es : List Event) (t : Scene) (n : ℕ) → IsConfig c → n < VM_NUMBERS → run c es ≡ Ok t →
    memory_at c t.site n ≡ memory_along c n (own_events n es) None

-- Two paths of a site, and a read of a machine that is accepted after both.
pub record ReadTwice (c : Config) (es fs : List Event) (n page at len : ℕ) (a b : Answer) : Type 0 where
  pub one : Scene
  pub other : Scene
  pub runs : run c es ≡ Ok one
  pub runs_too : run c fs ≡ Ok other
  pub after : Scene
  pub after_too : Scene
  pub reads : next c one (Read n page at len) ≡ Ok (a, after)
  pub reads_too : next c other (Read n page at len) ≡ Ok (b, after_too)

-- if the same events name the machine, without scans, swap outs, samples and shares, it answers the same
abbrev pub IsIsolated : Type 0
IsIsolated = (c : Config) (es fs : List Event) (n page at len : ℕ) (a b : Answer) → IsConfig c → own_events n es ≡ own_events n fs → ReadTwice c es fs n page at len a b → a ≡ b
