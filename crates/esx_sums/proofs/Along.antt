-- A path with one more event: the lives of a machine, and what was met in each.
use Rattle.std.proofs.Common.{zero, suc, ◌≡◌, ℕ, ◌+◌, ◌<◌, ◌≤◌, ◌==◌, ◌&&◌, Bool, true, false, cond, List, [], ◌∷◌, ◌++◌, length, take, refl, ap, ◌∙◌, arith}
use Rattle.std.specs.List.{AllByRecursion}
use Rattle.std.proofs.lemmas.List.{take-append-le}
use Rattle.std.proofs.lemmas.List.Sums.{sum_by-cons}
use Rattle.esx_events.specs.declared.event.Refusal.{Refusal}
use Rattle.esx_model.specs.declared.scene.Scene.{Scene}
use Rattle.esx_model.proofs.Callers.{eqb_same, eqb_other}
use Rattle.esx_story.specs.Moments.{Moment}
use Rattle.esx_story.specs.Counts.{admits, life_from}
use Rattle.esx_sums.specs.Lives.{lives_then, kept_if, lived_from, lived, lives, end_from}
use Rattle.esx_story.specs.Waits.{Met}
use Rattle.esx_sums.specs.Mets.{is_access_of, is_met_in, met_in}

pub end_more : (t : Scene) (ms : List Moment) (x : Moment) → end_from t (ms ++ x ∷ []) ≡ x.after
end_more t [] x = refl
end_more t (m ∷ ms) x = end_more m.after ms x

-- Lives.

pub lives_more : (n : ℕ) (ms : List Moment) (x : Moment) (k : ℕ) → life_from n (ms ++ x ∷ []) k ≡ lives_then n (life_from n ms k) x
lives_more n [] x k = refl
lives_more n (m ∷ ms) x k = lives_more n ms x (lives_then n k m)

then_rise : (n k : ℕ) (m : Moment) → k ≤ lives_then n k m
then_rise n k m = by (admits n m.event)
  where
    by : (b : Bool) → k ≤ cond b (k + 1) k
    by true = omega arith
    by false = omega arith

pub lives_rise : (n : ℕ) (ms : List Moment) (k : ℕ) → k ≤ life_from n ms k
lives_rise n [] k = omega arith
lives_rise n (m ∷ ms) k = (let one = then_rise n k m in let rest = lives_rise n ms (lives_then n k m) in omega (arith, one, rest))

lives_front : (n : ℕ) (ms : List Moment) (k j : ℕ) → life_from n (take j ms) k ≤ life_from n ms k
lives_front n [] k zero = omega arith
lives_front n [] k (suc j) = omega arith
lives_front n (m ∷ ms) k zero = lives_rise n (m ∷ ms) k
lives_front n (m ∷ ms) k (suc j) = lives_front n ms (lives_then n k m) j

then_most : (n k : ℕ) (m : Moment) → lives_then n k m ≤ k + 1
then_most n k m = by (admits n m.event)
  where
    by : (b : Bool) → cond b (k + 1) k ≤ k + 1
    by true = omega arith
    by false = omega arith

pub lives_few : (n : ℕ) (ms : List Moment) (k : ℕ) → life_from n ms k ≤ k + length ms
lives_few n [] k = omega arith
lives_few n (m ∷ ms) k = (let one = then_most n k m in let rest = lives_few n ms (lives_then n k m) in omega (arith, one, rest))

-- no moment is of a life that has not begun
none_later : (n l k : ℕ) (ms : List Moment) → life_from n ms k < l → lived_from n l k ms ≡ []
none_later n l k [] h = refl
none_later n l k (m ∷ ms) h =
    let k2 = lives_then n k m in
    let rise = lives_rise n ms k2 in
    ap (λ b. kept_if b m (lived_from n l k2 ms)) (eqb_other k2 l (λ e. omega (arith, e, h, rise))) ∙ none_later n l k2 ms h

cons_if : (t : Bool) (m x : Moment) (ys : List Moment) → m ∷ cond t (ys ++ x ∷ []) ys ≡ cond t ((m ∷ ys) ++ x ∷ []) (m ∷ ys)
cons_if true m x ys = refl
cons_if false m x ys = refl

kept_more : (b t : Bool) (m x : Moment) (ys zs : List Moment) → zs ≡ cond t (ys ++ x ∷ []) ys → kept_if b m zs ≡ cond t (kept_if b m ys ++ x ∷ []) (kept_if b m ys)
kept_more true t m x ys zs rest = ap (λ zs. m ∷ zs) rest ∙ cons_if t m x ys
kept_more false t m x ys zs rest = rest

pub lived_more : (n l k : ℕ) (ms : List Moment) (x : Moment) → lived_from n l k (ms ++ x ∷ []) ≡ cond (life_from n (ms ++ x ∷ []) k == l) (lived_from n l k ms ++ x ∷ []) (lived_from n l k ms)
lived_more n l k [] x = by (lives_then n k x == l)
  where
    by : (b : Bool) → kept_if b x [] ≡ cond b (x ∷ []) []
    by true = refl
    by false = refl
lived_more n l k (m ∷ ms) x =
    kept_more (lives_then n k m == l) (life_from n (ms ++ x ∷ []) (lives_then n k m) == l) m x (lived_from n l (lives_then n k m) ms) (lived_from n l (lives_then n k m) (ms ++ x ∷ []))
    (lived_more n l (lives_then n k m) ms x)

-- the moments of its present life before one more
abbrev pub before : ℕ → List Moment → Moment → List Moment
before n ms x = cond (admits n x.event) [] (lived n (lives n ms) ms)

was_before : (n : ℕ) (ms : List Moment) (x : Moment) → lived n (lives n (ms ++ x ∷ [])) ms ≡ before n ms x
was_before n ms x = ap (λ l. lived n l ms) (lives_more n ms x 0) ∙ by (admits n x.event)
  where
    by : (b : Bool) → lived n (cond b (lives n ms + 1) (lives n ms)) ms ≡ cond b [] (lived n (lives n ms) ms)
    by true = none_later n (lives n ms + 1) 0 ms (omega arith)
    by false = refl

pub lived_now : (n : ℕ) (ms : List Moment) (x : Moment) → lived n (lives n (ms ++ x ∷ [])) (ms ++ x ∷ []) ≡ before n ms x ++ x ∷ []
lived_now n ms x =
    let l = lives n (ms ++ x ∷ []) in
    lived_more n l 0 ms x ∙ ap (λ b. cond b (lived n l ms ++ x ∷ []) (lived n l ms)) (eqb_same l) ∙ ap (λ xs. xs ++ x ∷ []) (was_before n ms x)

-- a life that is over stays as it was
pub lived_past : (n l : ℕ) (ms : List Moment) (x : Moment) → l < lives n (ms ++ x ∷ []) → lived n l (ms ++ x ∷ []) ≡ lived n l ms
lived_past n l ms x past =
    lived_more n l 0 ms x ∙ ap (λ b. cond b (lived n l ms ++ x ∷ []) (lived n l ms)) (eqb_other (lives n (ms ++ x ∷ [])) l (λ e. omega (arith, e, past)))

kept_short : (b : Bool) (m : Moment) (ys : List Moment) (k : ℕ) → length ys ≤ k → length (kept_if b m ys) ≤ suc k
kept_short true m ys k less = omega (arith, less)
kept_short false m ys k less = omega (arith, less)

lived_short_from : (n l k : ℕ) (ms : List Moment) → length (lived_from n l k ms) ≤ length ms
lived_short_from n l k [] = omega arith
lived_short_from n l k (m ∷ ms) = kept_short (lives_then n k m == l) m (lived_from n l (lives_then n k m) ms) (length ms) (lived_short_from n l (lives_then n k m) ms)

pub lived_short : (n l : ℕ) (ms : List Moment) → length (lived n l ms) ≤ length ms
lived_short n l ms = lived_short_from n l 0 ms

-- Refusals.

pub met_same : (why : Refusal → Bool) (n l : ℕ) (ms : List Moment) (x : Moment) (mets : List Met) → AllByRecursion (λ (m : Met). m.at ≤ length ms) mets
    → met_in why n l (ms ++ x ∷ []) mets ≡ met_in why n l ms mets
met_same why n l ms x [] early = refl
met_same why n l ms x (m ∷ mets) early =
    let a = sum_by-cons (λ (m : Met). cond (is_met_in why n l (ms ++ x ∷ []) m) 1 0) m mets in
    let b = sum_by-cons (λ (m : Met). cond (is_met_in why n l ms m) 1 0) m mets in
    let same : cond (is_met_in why n l (ms ++ x ∷ []) m) 1 0 ≡ cond (is_met_in why n l ms m) 1 0 =
    ap (λ (zs : List Moment). let r : ℕ = cond ((is_access_of n m.access && why m.refusal) && (lives n zs == l)) 1 0 in r) (take-append-le m.at ms (x ∷ []) early.0) in
    let rest = met_same why n l ms x mets early.1 in
    omega (arith, a, b, same, rest)

and_false : (a : Bool) → (a && false) ≡ false
and_false true = refl
and_false false = refl

met_none : (why : Refusal → Bool) (n l : ℕ) (ms : List Moment) (mets : List Met) → lives n ms < l → met_in why n l ms mets ≡ 0
met_none why n l ms [] later = refl
met_none why n l ms (m ∷ mets) later =
    let a = sum_by-cons (λ (m : Met). cond (is_met_in why n l ms m) 1 0) m mets in
    let front = lives_front n ms 0 m.at in
    let no : (lives n (take m.at ms) == l) ≡ false = eqb_other (lives n (take m.at ms)) l (λ e. omega (arith, e, front, later)) in
    let none : cond (is_met_in why n l ms m) 1 0 ≡ 0 =
    ap (λ b. let r : ℕ = cond ((is_access_of n m.access && why m.refusal) && b) 1 0 in r) no ∙ ap (λ b. let r : ℕ = cond b 1 0 in r) (and_false (is_access_of n m.access && why m.refusal)) in
    let rest = met_none why n l ms mets later in
    omega (arith, a, none, rest)

pub met_now : (why : Refusal → Bool) (n : ℕ) (ms : List Moment) (x : Moment) (mets : List Met) → AllByRecursion (λ (m : Met). m.at ≤ length ms) mets
    → met_in why n (lives n (ms ++ x ∷ [])) (ms ++ x ∷ []) mets ≡ cond (admits n x.event) 0 (met_in why n (lives n ms) ms mets)
met_now why n ms x mets early = met_same why n (lives n (ms ++ x ∷ [])) ms x mets early ∙ ap (λ l. met_in why n l ms mets) (lives_more n ms x 0) ∙ by (admits n x.event)
  where
    by : (b : Bool) → met_in why n (cond b (lives n ms + 1) (lives n ms)) ms mets ≡ cond b 0 (met_in why n (lives n ms) ms mets)
    by true = met_none why n (lives n ms + 1) ms mets (omega arith)
    by false = refl
