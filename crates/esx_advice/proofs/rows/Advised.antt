-- Worked examples, by computation: scenes on paths at which something is advised, and what comes of it.
use Rattle.std.specs.Prelude.{◌≡◌, ℕ, List, [], ◌∷◌, ◌++◌, Result, Ok, Err}
use Rattle.std.proofs.Common.{refl, arith}
use Rattle.esx_types.specs.Ranges.{IsConfig}
use Rattle.esx_events.specs.declared.call.Help.TheVariants as helps
use Rattle.esx_events.specs.declared.event.Answer.TheVariants as answers
use Rattle.esx_events.specs.declared.event.Event.{Event}
use Rattle.esx_events.specs.declared.event.Event.TheVariants.{Admit, Start, Read, Rebalance, SwapOut, Replace}
use Rattle.esx_events.specs.declared.event.Refusal.{Refusal}
use Rattle.esx_model.specs.declared.scene.Scene.{Scene}
use Rattle.esx_model.specs.Advice.{advice}
use Rattle.esx_model.specs.Debts.{debt_of, IsOnPath}
use Rattle.esx_model.specs.Replay.{opening, next, run}
use Rattle.esx_model.proofs.rows.Guests.{small}
use Rattle.esx_model.proofs.rows.Replies.{spec, replies_of}

small_fine : IsConfig small
small_fine = record {
  least_frames = omega arith;
  most_frames = omega arith;
  least_page = omega arith;
  most_page = omega arith;
  whole_page = refl;
  most_slots = omega arith;
  most_tau = omega arith;
  least_low = omega arith;
  low_hard = omega arith;
  hard_soft = omega arith;
  soft_high = omega arith;
  most_high = omega arith;
  least_nodes = omega arith;
  most_nodes = omega arith;
}

scene_in : Result Scene (ℕ × Refusal) → Scene
scene_in (Err e) = opening small
scene_in (Ok t) = t

unfoldable scene_then : List Event → Scene
unfolding scene_in replies_of
scene_then es = scene_in (run small es)

-- A machine has read seven of its pages: targets are to be set anew,
abbrev pressed : List Event
pressed = Admit 0 (spec 1 8 1 1000 0) ∷ Start 0 ∷ Read 0 0 0 1 ∷ Read 0 1 0 1 ∷ Read 0 2 0 1 ∷ Read 0 3 0 1 ∷ Read 0 4 0 1 ∷ Read 0 5 0 1 ∷ Read 0 6 0 1 ∷ []

on_path : IsOnPath small (scene_then pressed)
unfolding scene_then
on_path = record { config = small_fine; path = pressed; runs = refl }

anew : advice small (scene_then pressed) 0 7 ≡ Ok helps.Rebalance
unfolding scene_then
anew = refl

-- and then it pages out.
out : advice small (scene_then (pressed ++ Rebalance ∷ [])) 0 7 ≡ Ok (helps.SwapOut 0)
unfolding scene_then
out = refl

lower : (debt_of small (scene_then (pressed ++ Rebalance ∷ [])) ≡ 14) × (debt_of small (scene_then (pressed ++ Rebalance ∷ SwapOut 0 0 ∷ [])) ≡ 12)
unfolding scene_then
lower = (refl, refl)

-- Two machines have their least, and no frame is free: a page has to make room for another of its machine, which may then be written.
abbrev full : List Event
full =
    Admit 0 (spec 3 6 1 1000 0) ∷ Admit 1 (spec 3 6 1 1000 0) ∷ Start 0 ∷ Start 1 ∷ Read 0 0 0 1 ∷ Read 0 1 0 1 ∷ Read 0 2 0 1 ∷ Read 1 0 0 1 ∷ Read 1 1 0 1 ∷ Read 1 2 0 1 ∷ []

replaces : (advice small (scene_then full) 0 3 ≡ Ok helps.Replace) × (next small (scene_then full) (Replace 0 3 1) ≡ Ok (answers.Replaced 1 0 3, scene_then (full ++ Replace 0 3 1 ∷ [])))
unfolding scene_then
replaces = (refl, refl)

goes : advice small (scene_then (full ++ Replace 0 3 1 ∷ [])) 0 3 ≡ Ok helps.Go
unfolding scene_then
goes = refl
