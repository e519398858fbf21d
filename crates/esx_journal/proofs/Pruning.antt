-- Nodes that are dropped, with all below them.
use Rattle.std.proofs.Common.{◌≡◌, ◌≢◌, ℕ, zero, suc, ◌+◌, ◌≤◌, ◌==◌, ◌||◌, ◌&&◌, Bool, true, false, not, cond, List, [], ◌∷◌, ◌++◌, length, refl, sym, ap, ◌∙◌, arith, Some, ◌⊎◌, inl, inr}
use Rattle.std.proofs.lemmas.Bool.Decides.{eqb_tells}
use Rattle.std.proofs.lemmas.Bool.{eqb-true}
use Rattle.esx_model.specs.Tree.{Node, Move, Up, Down, parent, alive, path, on_way, at, last_descent, IsTree, IsWalk}
use Rattle.esx_model.specs.Branching.{dropped, standing_below}
use Rattle.esx_journal.proofs.Paths.{alive_zero, newest, way_new, way_old, alive_new, alive_old, way_below}

pub dropped_length : (n : ℕ) (nodes : List Node) → length (dropped n nodes) ≡ length nodes
unfolding dropped
dropped_length n [] = refl
dropped_length n (x ∷ older) = (let i = dropped_length n older in omega arith)

pub dropped_parent : (n : ℕ) (nodes : List Node) (m : ℕ) → parent (dropped n nodes) m ≡ parent nodes m
unfolding dropped parent
dropped_parent n [] m = refl
dropped_parent n (x ∷ older) m = ap (λ k. cond (m == k + 1) x.parent (parent (dropped n older) m)) (dropped_length n older) ∙ ap (λ p. cond (m == length older + 1) x.parent p) (dropped_parent n older m)

pub dropped_path : (n : ℕ) (nodes : List Node) (m : ℕ) → path (dropped n nodes) m ≡ path nodes m
unfolding dropped path
dropped_path n [] m = refl
dropped_path n (x ∷ older) m = ap (λ k. cond (m == k + 1) (path (dropped n older) x.parent ++ x.event ∷ []) (path (dropped n older) m)) (dropped_length n older)
    ∙ ap (λ p. cond (m == length older + 1) (p ++ x.event ∷ []) (path (dropped n older) m)) (dropped_path n older x.parent)
    ∙ ap (λ p. cond (m == length older + 1) (path older x.parent ++ x.event ∷ []) p) (dropped_path n older m)

pub dropped_way : (n : ℕ) (nodes : List Node) (c m : ℕ) → on_way (dropped n nodes) c m ≡ on_way nodes c m
unfolding dropped on_way
dropped_way n [] c m = refl
dropped_way n (x ∷ older) c m = ap (λ k. cond (c == k + 1) ((m == c) || on_way (dropped n older) x.parent m) (on_way (dropped n older) c m)) (dropped_length n older)
    ∙ ap (λ p. cond (c == length older + 1) ((m == c) || p) (on_way (dropped n older) c m)) (dropped_way n older x.parent m)
    ∙ ap (λ p. cond (c == length older + 1) ((m == c) || on_way older x.parent m) p) (dropped_way n older c m)

pub dropped_tree : (n : ℕ) (nodes : List Node) → IsTree nodes → IsTree (dropped n nodes)
unfolding dropped
dropped_tree n [] tree = tt
dropped_tree n (x ∷ older) tree = ((let l = dropped_length n older in let t = tree.0 in omega arith), dropped_tree n older tree.1)

pub dropped_at : (n : ℕ) (nodes : List Node) (walk : List Move) → at (dropped n nodes) walk ≡ at nodes walk
unfolding at
dropped_at n nodes [] = refl
dropped_at n nodes (Up ∷ w) = ap (parent (dropped n nodes)) (dropped_at n nodes w) ∙ dropped_parent n nodes (at nodes w)
dropped_at n nodes (Down k ∷ w) = refl

pub dropped_last : (n : ℕ) (nodes : List Node) (walk : List Move) (m : ℕ) → last_descent (dropped n nodes) walk m ≡ last_descent nodes walk m
unfolding last_descent
dropped_last n nodes [] m = refl
dropped_last n nodes (Up ∷ w) m = dropped_last n nodes w m
dropped_last n nodes (Down k ∷ w) m = ap (λ p. cond (m == p) (Some k) (last_descent (dropped n nodes) w m)) (dropped_parent n nodes k) ∙ ap (λ o. cond (m == parent nodes k) (Some k) o) (dropped_last n nodes w m)

pub dropped_walk : (n : ℕ) (nodes : List Node) (walk : List Move) → IsWalk nodes walk → IsWalk (dropped n nodes) walk
dropped_walk n nodes [] ok = tt
dropped_walk n nodes (Up ∷ w) ok = dropped_walk n nodes w ok
dropped_walk n nodes (Down k ∷ w) ok = (ok.0, (let l = dropped_length n nodes in let f = ok.1 in omega arith), dropped_parent n nodes k ∙ ok.2 ∙ sym (dropped_at n nodes w), dropped_walk n nodes w ok.3)

-- what stands afterwards
pub dropped_alive : (n : ℕ) (nodes : List Node) (m : ℕ) → alive (dropped n nodes) m ≡ (alive nodes m && not (on_way nodes m n))
unfolding dropped alive on_way
dropped_alive n [] m = refl
dropped_alive n (x ∷ older) m = ap (λ k. cond (m == k + 1) (x.alive && not (on_way (x ∷ older) (length older + 1) n)) (alive (dropped n older) m)) (dropped_length n older)
    ∙ ap (λ a. cond (m == length older + 1) (x.alive && not (on_way (x ∷ older) (length older + 1) n)) a) (dropped_alive n older m)
    ∙ of (eqb_tells m (length older + 1))
  where
    of : (((m == (length older + 1)) ≡ true) × (m ≡ length older + 1)) ⊎ (((m == (length older + 1)) ≡ false) × (m ≢ length older + 1))
        → cond (m == length older + 1) (x.alive && not (on_way (x ∷ older) (length older + 1) n)) (alive older m && not (on_way older m n))
        ≡ (cond (m == length older + 1) x.alive (alive older m) && not (cond (m == length older + 1) ((n == m) || on_way older x.parent n) (on_way older m n)))
    of (inl e) = ap (λ b. cond b (x.alive && not (on_way (x ∷ older) (length older + 1) n)) (alive older m && not (on_way older m n))) e.0
        ∙ ap (λ k. x.alive && not k) (way_new x older (length older + 1) n refl ∙ ap (λ k. (n == k) || on_way older x.parent n) (sym e.1))
        ∙ sym (ap (λ b. cond b x.alive (alive older m) && not (cond b ((n == m) || on_way older x.parent n) (on_way older m n))) e.0)
    of (inr e) = ap (λ b. cond b (x.alive && not (on_way (x ∷ older) (length older + 1) n)) (alive older m && not (on_way older m n))) e.0
        ∙ sym (ap (λ b. cond b x.alive (alive older m) && not (cond b ((n == m) || on_way older x.parent n) (on_way older m n))) e.0)

pub both_true : (a b : Bool) → (a && b) ≡ true → (a ≡ true) × (b ≡ true)
both_true true b h = (refl, h)
both_true false b h = cc

pub not_by : (b : Bool) → not b ≡ true → b ≡ false
not_by true h = cc
not_by false h = refl

-- a node that stands afterwards stood before, and is not below the dropped one
pub stands_after : (n : ℕ) (nodes : List Node) (m : ℕ) → alive (dropped n nodes) m ≡ true → (alive nodes m ≡ true) × (on_way nodes m n ≡ false)
stands_after n nodes m h = (let b = both_true (alive nodes m) (not (on_way nodes m n)) (sym (dropped_alive n nodes m) ∙ h) in (b.0, not_by (on_way nodes m n) b.1))

pub still_stands : (n : ℕ) (nodes : List Node) (m : ℕ) → alive nodes m ≡ true → on_way nodes m n ≡ false → alive (dropped n nodes) m ≡ true
still_stands n nodes m up off = dropped_alive n nodes m ∙ ap (λ a. a && not (on_way nodes m n)) up ∙ ap (λ a. not a) off

or_tells : (a b : Bool) → (a || b) ≡ true → (a ≡ true) ⊎ (b ≡ true)
or_tells true b h = inl refl
or_tells false b h = inr h

pub or_true : (a b : Bool) → b ≡ true → (a || b) ≡ true
or_true true b h = refl
or_true false b h = h

-- what is on the way of a node on a way is on that way
pub way_through : (nodes : List Node) (c m a : ℕ) → IsTree nodes → c ≤ length nodes → on_way nodes c m ≡ true → on_way nodes m a ≡ true → on_way nodes c a ≡ true
unfolding on_way
way_through [] c m a tree fits h k = cc
way_through (x ∷ older) c m a tree fits h k = of (newest c (length older) (omega arith)) (λ u v. way_through older x.parent m a tree.1 tree.0 u v) (λ f u v. way_through older c m a tree.1 f u v)
  where
    here_or_up : c ≡ length older + 1 → ((m == c) ≡ true) ⊎ (on_way older x.parent m ≡ true) → (on_way older x.parent m ≡ true → on_way older m a ≡ true → on_way older x.parent a ≡ true) → on_way (x ∷ older) c a ≡ true
    here_or_up e (inl s) up = ap (λ y. on_way (x ∷ older) y a) (sym (eqb-true m c s)) ∙ k
    here_or_up e (inr s) up = (let b = way_below older x.parent m tree.1 tree.0 s in let t = tree.0 in
        way_new x older c a e ∙ or_true (a == c) (on_way older x.parent a) (up s (sym (way_old x older m a (omega arith)) ∙ k)))

    of : (c ≡ length older + 1) ⊎ (c ≤ length older) → (on_way older x.parent m ≡ true → on_way older m a ≡ true → on_way older x.parent a ≡ true)
        → (c ≤ length older → on_way older c m ≡ true → on_way older m a ≡ true → on_way older c a ≡ true) → on_way (x ∷ older) c a ≡ true
    of (inl e) up go = here_or_up e (or_tells (m == c) (on_way older x.parent m) (sym (way_new x older c m e) ∙ h)) up
    of (inr f) up go = (let was = sym (way_old x older c m f) ∙ h in let b = way_below older c m tree.1 f was in
        way_old x older c a f ∙ go f was (sym (way_old x older m a (omega arith)) ∙ k))

-- How many are dropped.

-- how many nodes below a number stand and are the dropped one or below it
unfoldable pub under : List Node → ℕ → ℕ → ℕ
under nodes n zero = 0
under nodes n (suc k) = cond (alive nodes k && on_way nodes k n) 1 0 + under nodes n k

under_old : (x : Node) (older : List Node) (n k : ℕ) → k ≤ length older + 1 → under (x ∷ older) n k ≡ under older n k
unfolding under
under_old x older n zero h = refl
under_old x older n (suc k) h = ap (λ a. cond (a && on_way (x ∷ older) k n) 1 0 + under (x ∷ older) n k) (alive_old x older k (omega arith))
    ∙ ap (λ w. cond (alive older k && w) 1 0 + under (x ∷ older) n k) (way_old x older k n (omega arith))
    ∙ ap (λ u. cond (alive older k && on_way older k n) 1 0 + u) (under_old x older n k (omega arith))

pub under_all : (nodes : List Node) (n : ℕ) → under nodes n (length nodes + 1) ≡ standing_below n nodes
unfolding under standing_below alive
under_all [] n = refl
under_all (x ∷ older) n =
    let k : ℕ = length older + 1 in
    let size : length (x ∷ older) + 1 ≡ suc k = omega arith in
    ap (under (x ∷ older) n) size ∙ ap (λ a. cond (a && on_way (x ∷ older) k n) 1 0 + under (x ∷ older) n k) (alive_new x older k refl)
    ∙ ap (λ u. cond (x.alive && on_way (x ∷ older) k n) 1 0 + u) (under_old x older n k (omega arith) ∙ under_all older n)

-- no more than there are
pub under_most : (nodes : List Node) (n k : ℕ) → under nodes n (suc k) ≤ k
unfolding under
under_most nodes n zero = none (alive nodes 0) (on_way nodes 0 n) (alive_zero nodes)
  where
    none : (a w : Bool) → a ≡ false → cond (a && w) 1 0 + 0 ≤ 0
    none true w h = cc
    none false w h = omega arith
under_most nodes n (suc k) = (let i = under_most nodes n k in let z = one (alive nodes (suc k) && on_way nodes (suc k) n) in omega arith)
  where
    one : (b : Bool) → cond b 1 0 ≤ 1
    one true = omega arith
    one false = omega arith

pub false_by : (b : Bool) → (b ≡ true → ⊥) → b ≡ false
false_by true h = absurd (h refl)
false_by false h = refl

pub and_false : (a : Bool) → (a && false) ≡ false
and_false true = refl
and_false false = refl
