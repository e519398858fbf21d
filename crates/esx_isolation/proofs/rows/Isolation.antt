-- A worked example, by computation: two paths with the same own events of a machine, and a read that both accept.
use Rattle.std.specs.Prelude.{◌≡◌, ℕ, List, [], ◌∷◌, ◌++◌, Result, Ok, Err}
use Rattle.std.proofs.Common.{refl}
use Rattle.esx_events.specs.declared.event.Answer.TheVariants.{Bytes}
use Rattle.esx_events.specs.declared.event.Event.{Event}
use Rattle.esx_events.specs.declared.event.Event.TheVariants.{Admit, Start, Read, Write, Scan}
use Rattle.esx_events.specs.declared.event.Refusal.{Refusal}
use Rattle.esx_model.specs.declared.scene.Scene.{Scene}
use Rattle.esx_model.specs.Memory.{own_events}
use Rattle.esx_model.specs.Replay.{opening, run}
use Rattle.esx_model.proofs.rows.Guests.{small}
use Rattle.esx_model.proofs.rows.Replies.{spec, replies_of}
use Rattle.esx_isolation.specs.Isolation.{ReadTwice}

scene_in : Result Scene (ℕ × Refusal) → Scene
scene_in (Err e) = opening small
scene_in (Ok t) = t

unfoldable scene_then : List Event → Scene
unfolding scene_in replies_of
scene_then es = scene_in (run small es)

-- beside a machine that shares its page and then writes equal bytes no more
abbrev beside : List Event
beside = Admit 0 (spec 1 6 1 1000 0) ∷ Admit 1 (spec 1 4 1 1000 0) ∷ Start 0 ∷ Start 1 ∷ Write 0 0 0 (42 ∷ []) ∷ Write 1 0 0 (42 ∷ []) ∷ Scan 1 0 ∷ Scan 0 0 ∷ Write 1 0 0 (43 ∷ []) ∷ []

-- with nobody else there
abbrev alone : List Event
alone = Admit 0 (spec 1 6 1 1000 0) ∷ Start 0 ∷ Write 0 0 0 (42 ∷ []) ∷ []

own_alike : own_events 0 beside ≡ own_events 0 alone
own_alike = refl

read_twice : ReadTwice small beside alone 0 0 0 2 (Bytes (42 ∷ 0 ∷ [])) (Bytes (42 ∷ 0 ∷ []))
unfolding scene_then
read_twice = record {
  one = scene_then beside;
  other = scene_then alone;
  runs = refl;
  runs_too = refl;
  after = scene_then (beside ++ Read 0 0 0 2 ∷ []);
  after_too = scene_then (alone ++ Read 0 0 0 2 ∷ []);
  reads = refl;
  reads_too = refl;
}
