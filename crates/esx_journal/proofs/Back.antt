-- Several moves up, and the way back down.
use Rattle.std.proofs.Common.{◌≡◌, ◌≢◌, ℕ, zero, suc, ◌+◌, ◌-◌, ◌<◌, ◌≤◌, ◌==◌, ◌||◌, Bool, true, false, cond, List, [], ◌∷◌, length, length-append, take, refl, sym, ap, ◌∙◌, subst, arith, Some, ◌⊎◌, inl, inr}
use Rattle.std.proofs.lemmas.List.{take-append-le}
use Rattle.std.proofs.lemmas.Grind.{common_steps}
use Rattle.std.proofs.lemmas.Bool.Decides.{eqb_tells}
use Rattle.std.proofs.lemmas.Bool.{eq-eqb, eqb-true}
use Rattle.esx_events.specs.declared.event.Event.{Event}
use Rattle.esx_model.specs.Tree.{Node, Move, Up, Down, parent, path, on_way, at, last_descent, IsTree, IsWalk}
use Rattle.esx_model.specs.History.{History, cursor, here, up_once, if_alive, undone, undo, jumped}
use Rattle.esx_journal.specs.Turns.{above}
use Rattle.esx_journal.specs.Ways.{ups}
use Rattle.esx_journal.proofs.Paths.{newest, is_other, way_new, way_old, parent_below, parent_fits, parent_zero, path_child, path_zero, way_child, way_self, way_below, way_zero, walk_ends}
use Rattle.esx_journal.proofs.Moves.{Looked, looks_further, undo_some}

pub above_parent : (nodes : List Node) (k c : ℕ) → above nodes k (parent nodes c) ≡ parent nodes (above nodes k c)
unfolding above
above_parent nodes zero c = refl
above_parent nodes (suc k) c = above_parent nodes k (parent nodes c)

pub undone_is : (k : ℕ) (m : History) → undone k m ≡ record m { walk = ups k m.walk }
unfolding undone up_once ups
undone_is zero m = refl
undone_is (suc k) m = ap up_once (undone_is k m)

pub at_ups : (nodes : List Node) (k : ℕ) (walk : List Move) → at nodes (ups k walk) ≡ above nodes k (at nodes walk)
unfolding at ups above
at_ups nodes zero walk = refl
at_ups nodes (suc k) walk = ap (parent nodes) (at_ups nodes k walk) ∙ sym (above_parent nodes k (at nodes walk))

pub lasts_ups : (nodes : List Node) (k : ℕ) (walk : List Move) (n : ℕ) → last_descent nodes (ups k walk) n ≡ last_descent nodes walk n
unfolding last_descent ups
lasts_ups nodes zero walk n = refl
lasts_ups nodes (suc k) walk n = lasts_ups nodes k walk n

pub walk_ups : (nodes : List Node) (k : ℕ) (walk : List Move) → IsWalk nodes walk → IsWalk nodes (ups k walk)
unfolding ups
walk_ups nodes zero walk ok = ok
walk_ups nodes (suc k) walk ok = walk_ups nodes k walk ok

take_all : (es : List Event) (n : ℕ) → length es ≤ n → take n es ≡ es
take_all es n h = grind (arith, common_steps)

-- a node with a path is not the opening
some_path : (nodes : List Node) (c : ℕ) → 0 < length (path nodes c) → 0 < c
some_path nodes zero h = (let p = ap length (path_zero nodes) in omega arith)
some_path nodes (suc c) h = omega arith

-- the path to a node above is the path without its last events
pub path_above : (nodes : List Node) (k c : ℕ) → IsTree nodes → c ≤ length nodes → k ≤ length (path nodes c) → path nodes (above nodes k c) ≡ take (length (path nodes c) - k) (path nodes c)
unfolding above
path_above nodes zero c tree fits h = sym (take_all (path nodes c) (length (path nodes c) - 0) (omega arith))
path_above nodes (suc k) c tree fits h =
    let some = some_path nodes c (omega arith) in
    let long = path_child nodes c tree some fits in
    let pp = path nodes (parent nodes c) in
    let size = ap length long.1 in
    let l = length-append pp (long.0 ∷ []) in
    let more = path_above nodes k (parent nodes c) tree (parent_fits nodes c tree fits) (omega arith) in
    let n : length pp - k ≡ length (path nodes c) - suc k = omega arith in
    more ∙ ap (λ x. take x pp) n ∙ sym (take-append-le (length (path nodes c) - suc k) pp (long.0 ∷ []) (omega arith)) ∙ ap (λ p. take (length (path nodes c) - suc k) p) (sym long.1)

or_true : (a b : Bool) → b ≡ true → (a || b) ≡ true
or_true true b h = refl
or_true false b h = h

or_tells : (a b : Bool) → (a || b) ≡ true → (a ≡ true) ⊎ (b ≡ true)
or_tells true b h = inl refl
or_tells false b h = inr h

-- the nodes above are on the way
pub way_up : (nodes : List Node) (k c : ℕ) → IsTree nodes → c ≤ length nodes → k < length (path nodes c) → on_way nodes c (above nodes k c) ≡ true
unfolding above
way_up nodes zero c tree fits h = way_self nodes c tree (some_path nodes c h) fits
way_up nodes (suc k) c tree fits h =
    let some = some_path nodes c (omega arith) in
    let long = path_child nodes c tree some fits in
    let size = ap length long.1 in
    let l = length-append (path nodes (parent nodes c)) (long.0 ∷ []) in
    way_child nodes c (above nodes k (parent nodes c)) tree some fits
    ∙ or_true (above nodes k (parent nodes c) == c) (on_way nodes (parent nodes c) (above nodes k (parent nodes c))) (way_up nodes k (parent nodes c) tree (parent_fits nodes c tree fits) (omega arith))

-- a node on a way is not the opening
way_some : (nodes : List Node) (c n : ℕ) → IsTree nodes → c ≤ length nodes → on_way nodes c n ≡ true → 0 < n
way_some nodes zero n tree fits on = (let z = sym (way_zero nodes n) ∙ on in cc)
way_some [] (suc c) n tree fits on = absurd (omega arith)
way_some (x ∷ older) (suc c) n tree fits on = of (newest (suc c) (length older) (omega arith)) (λ e. way_some older x.parent n tree.1 tree.0 e) (λ k e. way_some older (suc c) n tree.1 k e)
  where
    split : ((n == suc c) ≡ true) ⊎ (on_way older x.parent n ≡ true) → (on_way older x.parent n ≡ true → 0 < n) → 0 < n
    split (inl e) up = (let k = eqb-true n (suc c) e in omega arith)
    split (inr e) up = up e

    of : (suc c ≡ length older + 1) ⊎ (suc c ≤ length older) → (on_way older x.parent n ≡ true → 0 < n) → (suc c ≤ length older → on_way older (suc c) n ≡ true → 0 < n) → 0 < n
    of (inl e) up go = split (or_tells (n == suc c) (on_way older x.parent n) (sym (way_new x older (suc c) n e) ∙ on)) up
    of (inr k) up go = go k (sym (way_old x older (suc c) n k) ∙ on)

-- a node's way begins with its parent's
pub way_longer : (nodes : List Node) (c n : ℕ) → IsTree nodes → c ≤ length nodes → on_way nodes (parent nodes c) n ≡ true → on_way nodes c n ≡ true
way_longer nodes zero n tree fits on = ap (λ x. on_way nodes x n) (sym (parent_zero nodes)) ∙ on
way_longer nodes (suc c) n tree fits on = way_child nodes (suc c) n tree (omega arith) fits ∙ or_true (n == suc c) (on_way nodes (parent nodes (suc c)) n) on

pub way_from_above : (nodes : List Node) (k c n : ℕ) → IsTree nodes → c ≤ length nodes → on_way nodes (above nodes k c) n ≡ true → on_way nodes c n ≡ true
unfolding above
way_from_above nodes zero c n tree fits on = on
way_from_above nodes (suc k) c n tree fits on = way_longer nodes c n tree fits (way_from_above nodes k (parent nodes c) n tree (parent_fits nodes c tree fits) on)

-- the last descent went to each node on the cursor's way
pub last_on_way : (nodes : List Node) (walk : List Move) (n : ℕ) → IsTree nodes → IsWalk nodes walk → on_way nodes (at nodes walk) n ≡ true → last_descent nodes walk (parent nodes n) ≡ Some n
unfolding at last_descent
last_on_way nodes [] n tree ok on = (let z = sym (way_zero nodes n) ∙ on in cc)
last_on_way nodes (Up ∷ w) n tree ok on = last_on_way nodes w n tree ok (way_longer nodes (at nodes w) n tree (walk_ends nodes w tree ok) on)
last_on_way nodes (Down k ∷ w) n tree ok on = of (eqb_tells n k) (λ e. last_on_way nodes w n tree ok.3 e)
  where
    of : (((n == k) ≡ true) × (n ≡ k)) ⊎ (((n == k) ≡ false) × (n ≢ k)) → (on_way nodes (at nodes w) n ≡ true → last_descent nodes w (parent nodes n) ≡ Some n)
        → cond (parent nodes n == parent nodes k) (Some k) (last_descent nodes w (parent nodes n)) ≡ Some n
    of (inl e) more = ap (λ b. cond b (Some k) (last_descent nodes w (parent nodes n))) (eq-eqb (parent nodes n) (parent nodes k) (ap (parent nodes) e.1)) ∙ ap (λ x. Some x) (sym e.1)
    of (inr e) more = (
        let before : on_way nodes (parent nodes k) n ≡ true = sym (way_child nodes k n tree ok.0 ok.1 ∙ ap (λ b. b || on_way nodes (parent nodes k) n) e.0) ∙ on in
        let fits = parent_fits nodes k tree ok.1 in
        let below = way_below nodes (parent nodes k) n tree fits before in
        let some = way_some nodes (parent nodes k) n tree fits before in
        let less = parent_below nodes n tree some (omega arith) in
        ap (λ b. cond b (Some k) (last_descent nodes w (parent nodes n))) (is_other (parent nodes n) (parent nodes k) (λ z. omega arith)) ∙ more (ap (λ x. on_way nodes x n) (sym ok.2) ∙ before))

-- steps down lead back to where the cursor was
pub looks_back : (m : History) (c i j : ℕ) → ((k : ℕ) → k < i → if_alive m.nodes (last_descent m.nodes m.walk (parent m.nodes (above m.nodes k c))) ≡ Some (above m.nodes k c))
    → Looked m j (above m.nodes i c) → Looked m (i + j) c
unfolding above
looks_back m c zero j lasts l = (let P : ℕ → Type 0 = λ n. Looked m n c in let e : j ≡ zero + j = omega arith in subst P e l)
looks_back m c (suc i) j lasts l =
    let P : ℕ → Type 0 = λ n. Looked m n c in
    let Q : ℕ → Type 0 = λ x. Looked m j x in
    let there : Looked m j (parent m.nodes (above m.nodes i c)) = subst Q (above_parent m.nodes i c) l in
    let next = looks_further m j (parent m.nodes (above m.nodes i c)) (above m.nodes i c) there (lasts i (omega arith)) in
    let e : i + (j + 1) ≡ suc i + j = omega arith in
    subst P e (looks_back m c i (j + 1) (λ k b. lasts k (omega arith)) next)

-- the history after an undo
abbrev pub gone_up : ℕ → History → History
gone_up k m = record m { walk = ups k m.walk; jumps = m.jumps + 1 }

pub undo_is : (k : ℕ) (m : History) → k ≤ length (here m) → undo k m ≡ Some (gone_up k m)
undo_is k m h = undo_some k m h ∙ ap (λ x. Some (jumped x)) (undone_is k m)

-- the path after an undo
pub here_up : (m : History) (k : ℕ) → IsTree m.nodes → IsWalk m.nodes m.walk → k ≤ length (here m) → here (gone_up k m) ≡ take (length (here m) - k) (here m)
here_up m k tree walk deep = ap (path m.nodes) (at_ups m.nodes k m.walk) ∙ path_above m.nodes k (cursor m) tree (walk_ends m.nodes m.walk tree walk) deep
