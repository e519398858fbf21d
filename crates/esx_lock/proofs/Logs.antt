-- Beginnings of logs, and the callers of lines.
use Rattle.std.proofs.Common.{◌≡◌, ℕ, ◌≤◌, ◌<◌, true, false, true≢false, List, [], ◌∷◌, ◌++◌, length, refl, ap, sym, ◌∙◌, subst, arith, append_assoc, append-nil}
use Rattle.std.proofs.lemmas.List.{append_cancel_left}
use mathlib.Core.List.{IsPrefix}
use Rattle.esx_types.specs.declared.ids.Ids.{Ids}
use Rattle.esx_events.specs.declared.call.Line.{Line}
use Rattle.esx_types.specs.Ids.{has}
use Rattle.esx_lock.specs.Logs.{Callers, OthersOf, Follows}

module _ (P : ℕ → Type 0) where
  pub callers_append : (xs ys : List Line) → Callers P xs → Callers P ys → Callers P (xs ++ ys)
  callers_append [] ys p q = q
  callers_append (x ∷ xs) ys p q = (p.0, callers_append xs ys p.1 q)

  pub callers_left : (xs ys : List Line) → Callers P (xs ++ ys) → Callers P xs
  callers_left [] ys p = tt
  callers_left (x ∷ xs) ys p = (p.0, callers_left xs ys p.1)

  pub callers_right : (xs ys : List Line) → Callers P (xs ++ ys) → Callers P ys
  callers_right [] ys p = p
  callers_right (x ∷ xs) ys p = callers_right xs ys p.1

  pub callers_map : (Q : ℕ → Type 0) → ((k : ℕ) → P k → Q k) → (xs : List Line) → Callers P xs → Callers Q xs
  callers_map Q f [] p = tt
  callers_map Q f (x ∷ xs) p = (f x.caller p.0, callers_map Q f xs p.1)

  pub callers_both : (Q R : ℕ → Type 0) → ((k : ℕ) → P k → Q k → R k) → (xs : List Line) → Callers P xs → Callers Q xs → Callers R xs
  callers_both Q R f [] p q = tt
  callers_both Q R f (x ∷ xs) p q = (f x.caller p.0 q.0, callers_both Q R f xs p.1 q.1)

  -- no line meets what cannot be
  pub callers_never : ((k : ℕ) → P k → ⊥) → (xs : List Line) → Callers P xs → xs ≡ []
  callers_never never [] p = refl
  callers_never never (x ∷ xs) p = absurd (never x.caller p.0)

pub prefix_shorter : (xs ys zs : List Line) → IsPrefix xs zs → IsPrefix ys zs → length xs ≤ length ys → IsPrefix xs ys
prefix_shorter [] ys zs p q le = (ys, refl)
prefix_shorter (x ∷ xs) [] zs p q le = absurd (omega arith)
prefix_shorter (x ∷ xs) (y ∷ ys) [] p q le = absurd (cc (p.1))
prefix_shorter (x ∷ xs) (y ∷ ys) (z ∷ zs) p q le =
    let heads : x ≡ y = cc (p.1, q.1) in
    let rest = prefix_shorter xs ys zs (p.0, cc (p.1)) (q.0, cc (q.1)) (omega arith) in
    (rest.0, cc (heads, rest.1))

pub prefix_trans : (xs ys zs : List Line) → IsPrefix xs ys → IsPrefix ys zs → IsPrefix xs zs
prefix_trans xs ys zs p q = (p.0 ++ q.0, sym (append_assoc xs p.0 q.0) ∙ (ap (λ w. w ++ q.0) p.1 ∙ q.1))

module _ (n : ℕ) where
  pub prefix_of : (ids : Ids) (xs ys : List Line) → Follows n ids xs ys → IsPrefix xs ys
  prefix_of ids xs ys f = (f.0, f.1)

  pub follows_self : (ids : Ids) (xs : List Line) → Follows n ids xs xs
  follows_self ids xs = ([], append-nil xs, tt)

  -- the log goes on with lines of others
  pub follows_more : (ids : Ids) (xs ys new : List Line) → Follows n ids xs ys → OthersOf n ids new → Follows n ids xs (ys ++ new)
  follows_more ids xs ys new f none = (f.0 ++ new, sym (append_assoc xs f.0 new) ∙ ap (λ w. w ++ new) f.1, callers_append (λ k. (k < n) × (has ids k ≡ false)) f.0 new f.2 none)

  -- of two beginnings of a log, what the shorter one says of the longer
  pub follows_shorter : (ids jds : Ids) (xs ys zs : List Line) → Follows n ids xs zs → Follows n jds ys zs → length xs ≤ length ys → Follows n ids xs ys
  follows_shorter ids jds xs ys zs f g le =
      let p = prefix_shorter xs ys zs (f.0, f.1) (g.0, g.1) le in
      let same : p.0 ++ g.0 ≡ f.0 = append_cancel_left xs (p.0 ++ g.0) f.0 (sym (append_assoc xs p.0 g.0) ∙ (ap (λ w. w ++ g.0) p.1 ∙ (g.1 ∙ sym f.1))) in
      (p.0, p.1, callers_left (λ k. (k < n) × (has ids k ≡ false)) p.0 g.0 (subst (OthersOf n ids) (sym same) f.2))

  -- and what the longer one adds to: the log has no later line of either
  pub follows_either : (ids jds all : Ids) (xs ys zs : List Line) → Follows n ids xs zs → Follows n jds ys zs → length xs ≤ length ys
      → ((k : ℕ) → has ids k ≡ false → has jds k ≡ false → has all k ≡ false) → Follows n all ys zs
  follows_either ids jds all xs ys zs f g le out =
      let p = prefix_shorter xs ys zs (f.0, f.1) (g.0, g.1) le in
      let same : p.0 ++ g.0 ≡ f.0 = append_cancel_left xs (p.0 ++ g.0) f.0 (sym (append_assoc xs p.0 g.0) ∙ (ap (λ w. w ++ g.0) p.1 ∙ (g.1 ∙ sym f.1))) in
      let ours = callers_right (λ k. (k < n) × (has ids k ≡ false)) p.0 g.0 (subst (OthersOf n ids) (sym same) f.2) in
      (g.0, g.1, callers_both (λ k. (k < n) × (has ids k ≡ false)) (λ k. (k < n) × (has jds k ≡ false)) (λ k. (k < n) × (has all k ≡ false)) (λ k a b. (a.0, out k a.1 b.1)) g.0 ours g.2)

  pub follows_fewer : (ids jds : Ids) (xs ys : List Line) → ((k : ℕ) → has ids k ≡ false → has jds k ≡ false) → Follows n ids xs ys → Follows n jds xs ys
  follows_fewer ids jds xs ys out f = (f.0, f.1, callers_map (λ k. (k < n) × (has ids k ≡ false)) (λ k. (k < n) × (has jds k ≡ false)) (λ k a. (a.0, out k a.1)) f.0 f.2)

  pub follows_trans : (ids : Ids) (xs ys zs : List Line) → Follows n ids xs ys → Follows n ids ys zs → Follows n ids xs zs
  follows_trans ids xs ys zs f g = (f.0 ++ g.0, sym (append_assoc xs f.0 g.0) ∙ (ap (λ w. w ++ g.0) f.1 ∙ g.1), callers_append (λ k. (k < n) × (has ids k ≡ false)) f.0 g.0 f.2 g.2)

  -- where the callers are all, nobody is left to write
  pub follows_whole : (ids : Ids) (xs ys : List Line) → ((k : ℕ) → k < n → has ids k ≡ true) → Follows n ids xs ys → ys ≡ xs
  follows_whole ids xs ys whole f =
      let none : f.0 ≡ [] = callers_never (λ k. (k < n) × (has ids k ≡ false)) (λ k p. true≢false (sym (whole k p.0) ∙ p.1)) f.0 f.2 in
      sym f.1 ∙ (ap (λ (l : List Line). xs ++ l) none ∙ append-nil xs)
