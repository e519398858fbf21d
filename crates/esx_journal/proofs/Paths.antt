-- A tree's numbers, paths and ways.
use Rattle.std.proofs.Common.{◌≡◌, ◌≢◌, ℕ, zero, suc, ◌+◌, ◌<◌, ◌≤◌, ◌==◌, ◌||◌, Bool, true, false, cond, List, [], ◌∷◌, ◌++◌, length, refl, sym, ap, ◌∙◌, arith, length-append, Some, ◌⊎◌, inl, inr}
use Rattle.std.proofs.lemmas.Bool.Decides.{eqb_tells}
use Rattle.std.proofs.lemmas.Bool.{eq-eqb, eqb-true}
use Rattle.esx_events.specs.declared.event.Event.{Event}
use Rattle.esx_model.specs.Tree.{Node, Move, Up, Down, parent, alive, path, on_way, at, IsTree, IsWalk}
use Rattle.esx_journal.specs.Children.{child_of_number}

-- each number but 0 is that of a child
pub some_child : (n : ℕ) → 0 < n → child_of_number n ≡ Some n
some_child zero some = absurd (omega arith)
some_child (suc n) some = refl

pub newest : (n k : ℕ) → n ≤ k + 1 → (n ≡ k + 1) ⊎ (n ≤ k)
newest n k h = elim (eqb_tells n (k + 1)) as (λ _. (n ≡ k + 1) ⊎ (n ≤ k)) [ inl e ↦ inl e.1 | inr e ↦ inr (let f = e.1 in omega arith) ]

pub is_other : (n k : ℕ) → n ≢ k → (n == k) ≡ false
is_other n k h = elim (eqb_tells n k) as (λ _. (n == k) ≡ false) [ inl e ↦ absurd (h e.1) | inr e ↦ e.0 ]

pub is_older : (n k : ℕ) → n ≤ k → (n == (k + 1)) ≡ false
is_older n k h = is_other n (k + 1) (λ e. omega arith)

pub parent_new : (x : Node) (older : List Node) (n : ℕ) → n ≡ length older + 1 → parent (x ∷ older) n ≡ x.parent
unfolding parent
parent_new x older n e = ap (λ b. cond b x.parent (parent older n)) (eq-eqb n (length older + 1) e)

pub parent_old : (x : Node) (older : List Node) (n : ℕ) → n ≤ length older → parent (x ∷ older) n ≡ parent older n
unfolding parent
parent_old x older n h = ap (λ b. cond b x.parent (parent older n)) (is_older n (length older) h)

pub alive_new : (x : Node) (older : List Node) (n : ℕ) → n ≡ length older + 1 → alive (x ∷ older) n ≡ x.alive
unfolding alive
alive_new x older n e = ap (λ b. cond b x.alive (alive older n)) (eq-eqb n (length older + 1) e)

pub alive_old : (x : Node) (older : List Node) (n : ℕ) → n ≤ length older → alive (x ∷ older) n ≡ alive older n
unfolding alive
alive_old x older n h = ap (λ b. cond b x.alive (alive older n)) (is_older n (length older) h)

pub path_new : (x : Node) (older : List Node) (n : ℕ) → n ≡ length older + 1 → path (x ∷ older) n ≡ path older x.parent ++ x.event ∷ []
unfolding path
path_new x older n e = ap (λ b. cond b (path older x.parent ++ x.event ∷ []) (path older n)) (eq-eqb n (length older + 1) e)

pub path_old : (x : Node) (older : List Node) (n : ℕ) → n ≤ length older → path (x ∷ older) n ≡ path older n
unfolding path
path_old x older n h = ap (λ b. cond b (path older x.parent ++ x.event ∷ []) (path older n)) (is_older n (length older) h)

pub way_new : (x : Node) (older : List Node) (c n : ℕ) → c ≡ length older + 1 → on_way (x ∷ older) c n ≡ ((n == c) || on_way older x.parent n)
unfolding on_way
way_new x older c n e = ap (λ b. cond b ((n == c) || on_way older x.parent n) (on_way older c n)) (eq-eqb c (length older + 1) e)

pub way_old : (x : Node) (older : List Node) (c n : ℕ) → c ≤ length older → on_way (x ∷ older) c n ≡ on_way older c n
unfolding on_way
way_old x older c n h = ap (λ b. cond b ((n == c) || on_way older x.parent n) (on_way older c n)) (is_older c (length older) h)

pub parent_below : (nodes : List Node) (n : ℕ) → IsTree nodes → 0 < n → n ≤ length nodes → parent nodes n < n
parent_below [] n tree some fits = absurd (omega arith)
parent_below (x ∷ older) n tree some fits = of (newest n (length older) (omega arith)) (λ h. parent_below older n tree.1 some h)
  where
    of : (n ≡ length older + 1) ⊎ (n ≤ length older) → (n ≤ length older → parent older n < n) → parent (x ∷ older) n < n
    of (inl e) more = (let p = parent_new x older n e in let h = tree.0 in omega arith)
    of (inr h) more = (let p = parent_old x older n h in let q = more h in omega arith)

-- a path is its parent's path and one event
pub path_child : (nodes : List Node) (n : ℕ) → IsTree nodes → 0 < n → n ≤ length nodes → (e : Event) × (path nodes n ≡ path nodes (parent nodes n) ++ e ∷ [])
path_child [] n tree some fits = absurd (omega arith)
path_child (x ∷ older) n tree some fits = of (newest n (length older) (omega arith)) (λ h. path_child older n tree.1 some h)
  where
    of : (n ≡ length older + 1) ⊎ (n ≤ length older) → (n ≤ length older → (e : Event) × (path older n ≡ path older (parent older n) ++ e ∷ [])) → (e : Event) × (path (x ∷ older) n ≡ path (x ∷ older) (parent (x ∷ older) n) ++ e ∷ [])
    of (inl e) go = (x.event, path_new x older n e ∙ ap (λ es. es ++ x.event ∷ []) (sym (path_old x older x.parent tree.0) ∙ ap (path (x ∷ older)) (sym (parent_new x older n e))))
    of (inr h) go = (let more = go h in let p = parent_old x older n h in let q = parent_below older n tree.1 some h in
        (more.0, path_old x older n h ∙ more.1 ∙ ap (λ es. es ++ more.0 ∷ []) (sym (path_old x older (parent older n) (omega arith)) ∙ ap (path (x ∷ older)) (sym p))))

pub way_child : (nodes : List Node) (c n : ℕ) → IsTree nodes → 0 < c → c ≤ length nodes → on_way nodes c n ≡ ((n == c) || on_way nodes (parent nodes c) n)
way_child [] c n tree some fits = absurd (omega arith)
way_child (x ∷ older) c n tree some fits = of (newest c (length older) (omega arith)) (λ h. way_child older c n tree.1 some h)
  where
    of : (c ≡ length older + 1) ⊎ (c ≤ length older) → (c ≤ length older → on_way older c n ≡ ((n == c) || on_way older (parent older c) n)) → on_way (x ∷ older) c n ≡ ((n == c) || on_way (x ∷ older) (parent (x ∷ older) c) n)
    of (inl e) go = way_new x older c n e ∙ ap (λ b. (n == c) || b) (sym (way_old x older x.parent n tree.0) ∙ ap (λ p. on_way (x ∷ older) p n) (sym (parent_new x older c e)))
    of (inr h) go = (let p = parent_old x older c h in let q = parent_below older c tree.1 some h in
        way_old x older c n h ∙ go h ∙ ap (λ b. (n == c) || b) (sym (way_old x older (parent older c) n (omega arith)) ∙ ap (λ p. on_way (x ∷ older) p n) (sym p)))

or_tells : (a b : Bool) → (a || b) ≡ true → (a ≡ true) ⊎ (b ≡ true)
or_tells true b h = inl refl
or_tells false b h = inr h

-- a way goes through older nodes alone
pub way_below : (nodes : List Node) (c n : ℕ) → IsTree nodes → c ≤ length nodes → on_way nodes c n ≡ true → n ≤ c
unfolding on_way
way_below [] c n tree fits h = cc
way_below (x ∷ older) c n tree fits h = of (newest c (length older) (omega arith)) (λ e. way_below older x.parent n tree.1 tree.0 e) (λ k e. way_below older c n tree.1 k e)
  where
    deep : (n ≡ c) ⊎ (n ≤ x.parent) → c ≡ length older + 1 → n ≤ c
    deep (inl e) k = omega arith
    deep (inr e) k = (let t = tree.0 in omega arith)

    split : ((n == c) ≡ true) ⊎ (on_way older x.parent n ≡ true) → (on_way older x.parent n ≡ true → n ≤ x.parent) → (n ≡ c) ⊎ (n ≤ x.parent)
    split (inl e) up = inl (eqb-true n c e)
    split (inr e) up = inr (up e)

    of : (c ≡ length older + 1) ⊎ (c ≤ length older) → (on_way older x.parent n ≡ true → n ≤ x.parent) → (c ≤ length older → on_way older c n ≡ true → n ≤ c) → n ≤ c
    of (inl e) up go = deep (split (or_tells (n == c) (on_way older x.parent n) (sym (way_new x older c n e) ∙ h)) up) e
    of (inr k) up go = go k (sym (way_old x older c n k) ∙ h)

pub way_above : (nodes : List Node) (c : ℕ) → IsTree nodes → 0 < c → c ≤ length nodes → on_way nodes (parent nodes c) c ≡ false
way_above nodes c tree some fits = of (on_way nodes (parent nodes c) c) (λ e. (let p = parent_below nodes c tree some fits in let b = way_below nodes (parent nodes c) c tree (omega arith) e in absurd (omega arith)))
  where
    of : (b : Bool) → (b ≡ true → ⊥) → b ≡ false
    of true h = absurd (h refl)
    of false h = refl

pub way_self : (nodes : List Node) (c : ℕ) → IsTree nodes → 0 < c → c ≤ length nodes → on_way nodes c c ≡ true
way_self nodes c tree some fits = way_child nodes c c tree some fits ∙ ap (λ b. b || on_way nodes (parent nodes c) c) (eq-eqb c c refl)

pub way_same : (nodes : List Node) (c n : ℕ) → IsTree nodes → 0 < c → c ≤ length nodes → n ≢ c → on_way nodes c n ≡ on_way nodes (parent nodes c) n
way_same nodes c n tree some fits h = way_child nodes c n tree some fits ∙ ap (λ b. b || on_way nodes (parent nodes c) n) (is_other n c h)

pub path_zero : (nodes : List Node) → path nodes 0 ≡ []
unfolding path
path_zero [] = refl
path_zero (x ∷ older) = path_old x older 0 (omega arith) ∙ path_zero older

-- no path has more events than its number
pub path_short : (nodes : List Node) (n : ℕ) → IsTree nodes → n ≤ length nodes → length (path nodes n) ≤ n
unfolding path
path_short [] n tree fits = omega arith
path_short (x ∷ older) n tree fits = of (newest n (length older) (omega arith)) (path_short older x.parent tree.1 tree.0) (λ h. path_short older n tree.1 h)
  where
    of : (n ≡ length older + 1) ⊎ (n ≤ length older) → length (path older x.parent) ≤ x.parent → (n ≤ length older → length (path older n) ≤ n) → length (path (x ∷ older) n) ≤ n
    of (inl e) q go = (let p = ap length (path_new x older n e) in let l = length-append (path older x.parent) (x.event ∷ []) in let t = tree.0 in omega arith)
    of (inr h) q go = (let p = ap length (path_old x older n h) in let r = go h in omega arith)

pub parent_zero : (nodes : List Node) → parent nodes 0 ≡ 0
unfolding parent
parent_zero [] = refl
parent_zero (x ∷ older) = parent_old x older 0 (omega arith) ∙ parent_zero older

pub way_zero : (nodes : List Node) (n : ℕ) → on_way nodes 0 n ≡ false
unfolding on_way
way_zero [] n = refl
way_zero (x ∷ older) n = way_old x older 0 n (omega arith) ∙ way_zero older n

pub alive_zero : (nodes : List Node) → alive nodes 0 ≡ false
unfolding alive
alive_zero [] = refl
alive_zero (x ∷ older) = alive_old x older 0 (omega arith) ∙ alive_zero older

pub parent_fits : (nodes : List Node) (n : ℕ) → IsTree nodes → n ≤ length nodes → parent nodes n ≤ length nodes
parent_fits nodes zero tree fits = (let p = parent_zero nodes in omega arith)
parent_fits nodes (suc n) tree fits = (let p = parent_below nodes (suc n) tree (omega arith) fits in omega arith)

-- where a walk ends
pub walk_ends : (nodes : List Node) (walk : List Move) → IsTree nodes → IsWalk nodes walk → at nodes walk ≤ length nodes
unfolding at parent
walk_ends nodes [] tree walk = omega arith
walk_ends nodes (Up ∷ w) tree walk = parent_fits nodes (at nodes w) tree (walk_ends nodes w tree walk)
walk_ends nodes (Down n ∷ w) tree walk = walk.1

-- a node that stands was made
pub alive_fits : (nodes : List Node) (n : ℕ) → alive nodes n ≡ true → n ≤ length nodes
unfolding alive
alive_fits [] n h = cc
alive_fits (x ∷ older) n h = of (eqb_tells n (length older + 1)) (λ e. alive_fits older n e)
  where
    of : (((n == (length older + 1)) ≡ true) × (n ≡ length older + 1)) ⊎ (((n == (length older + 1)) ≡ false) × (n ≢ length older + 1)) → (alive older n ≡ true → n ≤ length older) → n ≤ length (x ∷ older)
    of (inl e) f = (let k = e.1 in omega arith)
    of (inr e) f = (let k = f (sym (ap (λ b. cond b x.alive (alive older n)) e.0) ∙ h) in omega arith)
