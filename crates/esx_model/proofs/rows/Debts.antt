-- Worked examples, by computation: what may still be reclaimed after each of some events, and events that were advised.
use Rattle.std.specs.Prelude.{◌≡◌, ℕ, List, [], ◌∷◌, ◌++◌, Result, Ok, Err}
use Rattle.std.proofs.Common.{refl}
use Rattle.esx_types.specs.declared.config.Config.{Config}
use Rattle.esx_events.specs.declared.event.Event.{Event}
use Rattle.esx_events.specs.declared.event.Event.TheVariants.{Admit, Start, Read, Write, Scan, Rebalance, SwapOut}
use Rattle.esx_events.specs.declared.event.Answer.{Answer}
use Rattle.esx_events.specs.declared.event.Answer.TheVariants as answers
use Rattle.esx_events.specs.declared.call.Help.TheVariants as helps
use Rattle.esx_events.specs.declared.event.Refusal.{Refusal}
use Rattle.esx_model.specs.declared.scene.Scene.{Scene}
use Rattle.esx_model.specs.Show.{shown}
use Rattle.esx_model.specs.Readings.{debt}
use Rattle.esx_model.specs.Advice.{advice}
use Rattle.esx_model.specs.Debts.{debt_of, AreAdvised}
use Rattle.esx_model.specs.Replay.{opening, next, run}
use Rattle.esx_model.proofs.rows.Replies.{site, spec, replies_of}

debt_then : Config → Result (Answer × Scene) Refusal → (Scene → List ℕ) → List ℕ
debt_then c (Err e) go = []
debt_then c (Ok r) go = debt (shown c r.1) ∷ go r.1

debts_from : Config → List Event → Scene → List ℕ
unfolding debt_then
debts_from c [] t = []
debts_from c (e ∷ es) t = debt_then c (next c t e) (λ u. debts_from c es u)

unfoldable debts : Config → List Event → List ℕ
unfolding debts_from replies_of
debts c es = debts_from c es (opening c)

-- a page in a frame of its own counts twice, and a page that leaves for a slot not at all
paged_out : debts (site 8 16 8 75 6 4 2 1 16777216) (Admit 0 (spec 1 8 1 1000 0) ∷ Start 0 ∷ Read 0 0 0 1 ∷ Read 0 1 0 1 ∷ Read 0 2 0 1 ∷ Read 0 3 0 1 ∷ Read 0 4 0 1 ∷ Read 0 5 0 1 ∷ Read 0 6 0 1 ∷ Rebalance ∷ SwapOut 0 0 ∷ SwapOut 0 0 ∷ [])
    ≡ 0 ∷ 0 ∷ 2 ∷ 4 ∷ 6 ∷ 8 ∷ 10 ∷ 12 ∷ 14 ∷ 14 ∷ 12 ∷ 10 ∷ []
unfolding debts
paged_out = refl

-- pages that share a frame count once each, and the frame once
shared : debts (site 20 16 8 75 6 4 2 1 16777216) (Admit 0 (spec 2 6 1 1000 0) ∷ Start 0 ∷ Write 0 0 0 (42 ∷ []) ∷ Write 0 1 0 (42 ∷ []) ∷ Scan 0 0 ∷ Scan 0 1 ∷ Read 0 2 0 1 ∷ [])
    ≡ 0 ∷ 0 ∷ 2 ∷ 4 ∷ 4 ∷ 3 ∷ 5 ∷ []
unfolding debts
shared = refl

-- The scene after a path.
scene_in : Config → Result Scene (ℕ × Refusal) → Scene
scene_in c (Err e) = opening c
scene_in c (Ok t) = t

unfoldable scene_then : Config → List Event → Scene
unfolding scene_in replies_of
scene_then c es = scene_in c (run c es)

abbrev small : Config
small = site 8 16 8 75 6 4 2 1 16777216

-- a machine has read seven of its pages, and no frame is free
abbrev pressed : List Event
pressed = Admit 0 (spec 1 8 1 1000 0) ∷ Start 0 ∷ Read 0 0 0 1 ∷ Read 0 1 0 1 ∷ Read 0 2 0 1 ∷ Read 0 3 0 1 ∷ Read 0 4 0 1 ∷ Read 0 5 0 1 ∷ Read 0 6 0 1 ∷ []

abbrev out_once : List Event
out_once = pressed ++ Rebalance ∷ SwapOut 0 0 ∷ []

abbrev out_twice : List Event
out_twice = pressed ++ Rebalance ∷ SwapOut 0 0 ∷ SwapOut 0 0 ∷ []

abbrev out_thrice : List Event
out_thrice = pressed ++ Rebalance ∷ SwapOut 0 0 ∷ SwapOut 0 0 ∷ SwapOut 0 0 ∷ []

-- Four advised events lead to the answer to go for an eighth, where thirty would be within the bound.
advised : AreAdvised small 0 7 (Rebalance ∷ SwapOut 0 0 ∷ SwapOut 0 0 ∷ SwapOut 0 0 ∷ []) (scene_then small pressed) (scene_then small out_thrice)
unfolding scene_then
advised = (
  scene_then small (pressed ++ Rebalance ∷ []),
  record { help = helps.Rebalance; given = refl; named = refl; answer = answers.Rebalanced 5 5; goes = refl },
  (
    scene_then small out_once,
    record { help = helps.SwapOut 0; given = refl; named = (0, refl); answer = answers.PagedOut 0 0; goes = refl },
    (
      scene_then small out_twice,
      record { help = helps.SwapOut 0; given = refl; named = (0, refl); answer = answers.PagedOut 1 1; goes = refl },
      (scene_then small out_thrice, record { help = helps.SwapOut 0; given = refl; named = (0, refl); answer = answers.PagedOut 2 2; goes = refl }, refl),
    ),
  ),
)

debt_before : debt_of small (scene_then small pressed) ≡ 14
unfolding scene_then
debt_before = refl

go_after : advice small (scene_then small out_thrice) 0 7 ≡ Ok helps.Go
unfolding scene_then
go_after = refl
