-- Losses counted one after another.
use Rattle.std.proofs.Common.{◌≡◌, ℕ, zero, suc, ◌+◌, ◌<◌, ◌≤◌, ◌&&◌, Bool, List, [], ◌∷◌, ◌++◌, length, take, get_or, count_by, sum_by, sym, ap, ◌∙◌, arith}
use Rattle.std.proofs.lemmas.List.{take_more}
use Rattle.std.proofs.lemmas.List.Sums.{count_by-le-length, sum_by_push}
use Rattle.esx_types.specs.declared.level.Level.{Level}
use Rattle.esx_story.specs.declared.story.Loss.{Loss}
use Rattle.esx_sums.specs.declared.losses.LevelLosses.{LevelLosses}
use Rattle.esx_sums.specs.declared.losses.Returns.{Returns}
use Rattle.esx_sums.specs.Losses.{is_balloon, is_swap, is_replace, is_drop, comes, level_losses, with_loss, is_in_life, is_some, is_near, waits_in, came_back, with_return, AreFewLosses}
use Rattle.esx_sums.proofs.Lists.{count_push}

take_short : (losses : List Loss) (i : ℕ) → length (take i losses) ≤ i
take_short [] zero = omega arith
take_short [] (suc i) = omega arith
take_short (l ∷ losses) zero = omega arith
take_short (l ∷ losses) (suc i) = (let rest = take_short losses i in omega (arith, rest))

losses_push : (level : Level) (losses : List Loss) (l : Loss) → level_losses level (losses ++ l ∷ []) ≡ with_loss (level_losses level losses) l
losses_push level losses l =
    let a = count_push (comes level is_balloon) losses l in
    let b = count_push (comes level is_swap) losses l in
    let c = count_push (comes level is_replace) losses l in
    let d = count_push (comes level is_drop) losses l in
    ap (λ k. sums k (count_by (comes level is_swap) later) (count_by (comes level is_replace) later) (count_by (comes level is_drop) later)) a
    ∙ ap (λ k. sums (with_loss before l).balloon k (count_by (comes level is_replace) later) (count_by (comes level is_drop) later)) b
    ∙ ap (λ k. sums (with_loss before l).balloon (with_loss before l).swap k (count_by (comes level is_drop) later)) c
    ∙ ap (λ k. sums (with_loss before l).balloon (with_loss before l).swap (with_loss before l).replace k) d
  where
    later : List Loss
    later = losses ++ l ∷ []

    before : LevelLosses
    before = level_losses level losses

    sums : ℕ → ℕ → ℕ → ℕ → LevelLosses
    sums a b c d = record { level = level; balloon = a; swap = b; replace = c; drop = d }

pub losses_next : (level : Level) (losses : List Loss) (i : ℕ) (l : Loss) → i < length losses → l ≡ get_or losses i l → level_losses level (take (i + 1) losses) ≡ with_loss (level_losses level (take i losses)) l
losses_next level losses i l below is =
    ap (level_losses level) (take_more losses i l below ∙ ap (λ (y : Loss). take i losses ++ y ∷ []) (sym is)) ∙ losses_push level (take i losses) l

pub losses_few : (level : Level) (losses : List Loss) (k : ℕ) → length losses ≤ k → AreFewLosses k (level_losses level losses)
losses_few level losses k few =
    let a = count_by-le-length (comes level is_balloon) losses in
    let b = count_by-le-length (comes level is_swap) losses in
    let c = count_by-le-length (comes level is_replace) losses in
    let d = count_by-le-length (comes level is_drop) losses in
    record { balloon = omega (arith, a, few); swap = omega (arith, b, few); replace = omega (arith, c, few); drop = omega (arith, d, few) }

-- some of them at the front
pub few_taken : (losses : List Loss) (i : ℕ) → i ≤ 4294967294 → length (take i losses) ≤ 4294967294
few_taken losses i few = (let long = take_short losses i in omega (arith, long, few))

returns_push : (n life : ℕ) (losses : List Loss) (l : Loss) → came_back n life (losses ++ l ∷ []) ≡ with_return n life (came_back n life losses) l
returns_push n life losses l =
    ap (λ k. sums k (count_by soon later) (sum_by (waits_in n life) later)) (count_push back losses l)
    ∙ ap (λ k. sums (with_return n life before l).back k (sum_by (waits_in n life) later)) (count_push soon losses l)
    ∙ ap (λ k. sums (with_return n life before l).back (with_return n life before l).soon k) (sum_by_push (waits_in n life) losses l)
  where
    later : List Loss
    later = losses ++ l ∷ []

    before : Returns
    before = came_back n life losses

    back : Loss → Bool
    back y = is_in_life n life y && is_some y.back

    soon : Loss → Bool
    soon y = is_in_life n life y && is_near y.at y.back

    sums : ℕ → ℕ → ℕ → Returns
    sums a b c = record { back = a; soon = b; waits = c }

pub returns_next : (n life : ℕ) (losses : List Loss) (i : ℕ) (l : Loss) → i < length losses → l ≡ get_or losses i l → came_back n life (take (i + 1) losses) ≡ with_return n life (came_back n life (take i losses)) l
returns_next n life losses i l below is =
    ap (came_back n life) (take_more losses i l below ∙ ap (λ (y : Loss). take i losses ++ y ∷ []) (sym is)) ∙ returns_push n life (take i losses) l
