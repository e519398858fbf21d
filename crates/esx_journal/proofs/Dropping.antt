-- The rows of nodes that are dropped.
use Rattle.std.proofs.Common.{◌≡◌, ◌≢◌, ℕ, zero, suc, ◌<◌, ◌≤◌, ◌==◌, ◌||◌, ◌&&◌, Bool, true, false, not, cond, List, [], ◌∷◌, length, slice_index_or, refl, sym, ap, ◌∙◌, subst, arith, ◌⊎◌, inl, inr, Ok, Err}
use Rattle.std.proofs.lemmas.Bool.Decides.{eqb_tells}
use Rattle.esx_events.specs.declared.event.Event.{Event}
use Rattle.esx_events.specs.declared.event.Refusal.TheVariants.{NoSuchNode, OnPath}
use Rattle.esx_machine.specs.Machine as machines
use Rattle.esx_machine.specs.Machine.{Back}
use Rattle.esx_model.specs.Tree.{Node, Move, Up, Down, parent, alive, path, on_way, at, IsTree}
use Rattle.esx_model.specs.History.{History, cursor, here}
use Rattle.esx_model.specs.Branching.{dropped, standing_below, stands, is_on_path, prune}
use Rattle.esx_journal.specs.Rows.{Row}
use Rattle.esx_journal.specs.Row.{AreNodes, Drops, emptied, bare}
use Rattle.esx_journal.specs.Journal.{Kept, Leads, IsRow, IsAccepted, AreDescents, Aims, kept_after}
use Rattle.esx_journal.proofs.Paths.{is_other, way_child, way_below, way_self, alive_fits, alive_zero}
use Rattle.esx_journal.proofs.Steps.{cursor_fits}
use Rattle.esx_journal.proofs.Pruning.{dropped_length, dropped_parent, dropped_path, dropped_way, dropped_tree, dropped_at, dropped_last, dropped_walk, dropped_alive, stands_after, still_stands, way_through, and_false, false_by}

-- what a journal's rows tell
pub nodes_of : (j : Kept) (m : History) (aim : List Move) → Aims j m aim → AreNodes j.rows m.nodes
nodes_of j m aim h = record { tree = h.tree; size = h.size; up = λ n d f. (h.each n d f).up; live = λ n d f. (h.each n d f).live; whole = h.whole }

-- What is kept of the history with fewer nodes.

dropped_descents : (n : ℕ) (nodes : List Node) (aim : List Move) → AreDescents nodes aim → AreDescents (dropped n nodes) aim
dropped_descents n nodes [] ok = tt
dropped_descents n nodes (Up ∷ w) ok = dropped_descents n nodes w ok
dropped_descents n nodes (Down k ∷ w) ok = (ok.0, (let l = dropped_length n nodes in let f = ok.1 in omega arith), dropped_descents n nodes w ok.2)

abbrev pub without : ℕ → History → History
without n m = record m { nodes = dropped n m.nodes }

row_stays : (m : History) (aim : List Move) (n c x : ℕ) (row : Row) (b : Bool) → on_way m.nodes x n ≡ b → IsRow m aim c x row → IsRow (without n m) aim c x (cond b (emptied row) row)
row_stays m aim n c x row true on old = record {
  up = old.up ∙ sym (dropped_parent n m.nodes x);
  last = old.last ∙ sym (dropped_last n m.nodes aim x);
  live = sym (dropped_alive n m.nodes x ∙ ap (λ w. alive m.nodes x && not w) on ∙ and_false (alive m.nodes x));
  accepted = (let P : List Event → Type 0 = IsAccepted m.config in subst P (sym (dropped_path n m.nodes x)) old.accepted);
  back = λ r e. cc;
}
row_stays m aim n c x row false on old = record {
  up = old.up ∙ sym (dropped_parent n m.nodes x);
  last = old.last ∙ sym (dropped_last n m.nodes aim x);
  live = old.live ∙ and_true (alive m.nodes x) ∙ sym (dropped_alive n m.nodes x ∙ ap (λ w. alive m.nodes x && not w) on);
  accepted = (let P : List Event → Type 0 = IsAccepted m.config in subst P (sym (dropped_path n m.nodes x)) old.accepted);
  back = λ r e. (
      let above : path (dropped n m.nodes) (parent (dropped n m.nodes) x) ≡ path m.nodes (parent m.nodes x) = dropped_path n m.nodes (parent (dropped n m.nodes) x) ∙ ap (path m.nodes) (dropped_parent n m.nodes x) in
      let B : machines.Kept → Type 0 = λ y. Leads (on_way m.nodes c x) r y (kept_after m.config (path m.nodes (parent m.nodes x))) in
      let C : machines.Kept → Type 0 = λ y. Leads (on_way m.nodes c x) r (kept_after m.config (path (dropped n m.nodes) x)) y in
      let W : Bool → Type 0 = λ t. Leads t r (kept_after m.config (path (dropped n m.nodes) x)) (kept_after m.config (path (dropped n m.nodes) (parent (dropped n m.nodes) x))) in
      subst W (sym (dropped_way n m.nodes c x)) (subst C (ap (kept_after m.config) (sym above)) (subst B (ap (kept_after m.config) (sym (dropped_path n m.nodes x))) (old.back r e))));
}
  where
    and_true : (y : Bool) → y ≡ (y && true)
    and_true true = refl
    and_true false = refl

-- nothing is asked of a row's first child
row_bare : (m : History) (aim : List Move) (c x : ℕ) (row : Row) → IsRow m aim c x row → IsRow m aim c x (bare row)
row_bare m aim c x row h = record { up = h.up; last = h.last; live = h.live; accepted = h.accepted; back = h.back }

row_whole : (m : History) (aim : List Move) (c x : ℕ) (row : Row) → IsRow m aim c x (bare row) → IsRow m aim c x row
row_whole m aim c x row h = record { up = h.up; last = h.last; live = h.live; accepted = h.accepted; back = h.back }

pub pruned : (j : Kept) (rows : List Row) (m : History) (aim : List Move) (n gone : ℕ) → Aims j m aim → Drops gone j.rows rows m.nodes n → on_way m.nodes (cursor m) n ≡ false → n ≤ length m.nodes
    → Aims (record j { rows = rows }) (without n m) aim
pruned j rows m aim n gone h drops off fits =
    let c = dropped_at n m.nodes m.walk in
    let l = dropped_length n m.nodes in
    let path_is : here (without n m) ≡ here m = dropped_path n m.nodes (at (dropped n m.nodes) m.walk) ∙ ap (path m.nodes) c in
    record {
      limit = h.limit;
      tree = dropped_tree n m.nodes h.tree;
      walk = dropped_walk n m.nodes m.walk h.walk;
      lasts = dropped_descents n m.nodes aim h.lasts;
      size = (let s = h.size in let t = drops.size in omega arith);
      place = h.place ∙ sym c;
      deep = h.deep ∙ ap length (sym path_is);
      shows = h.shows ∙ ap (kept_after m.config) (sym path_is);
      names = h.names;
      whole = λ x up. of x (stands_after n m.nodes x up);
      way = λ x on. (
          let was : on_way m.nodes (cursor m) x ≡ true = sym (dropped_way n m.nodes (cursor m) x) ∙ ap (λ y. on_way (dropped n m.nodes) y x) (sym c) ∙ on in
          still_stands n m.nodes x (h.way x was) (false_by (on_way m.nodes x n) (λ w. (let z = sym off ∙ way_through m.nodes (cursor m) x n h.tree (cursor_fits j m aim h) was w in cc))));
      each = λ x d f. row_whole (without n m) aim (cursor (without n m)) x (slice_index_or rows x d) (let P : Row → Type 0 = IsRow (without n m) aim (cursor (without n m)) x in
          let Q : ℕ → Type 0 = λ y. IsRow (without n m) aim y x (bare (cond (on_way m.nodes x n) (emptied (slice_index_or j.rows x d)) (slice_index_or j.rows x d))) in
          let within : x ≤ length m.nodes = omega arith in
          subst P (sym (drops.each x d within)) (subst Q (sym c) (row_bare (without n m) aim (cursor m) x (cond (on_way m.nodes x n) (emptied (slice_index_or j.rows x d)) (slice_index_or j.rows x d))
          (row_stays m aim n (cursor m) x (slice_index_or j.rows x d) (on_way m.nodes x n) refl (h.each x d within)))));
    }
  where
    still : (p : ℕ) → ((p == 0) || alive m.nodes p) ≡ true → on_way m.nodes p n ≡ false → ((p == 0) || alive (dropped n m.nodes) p) ≡ true
    still zero up away = refl
    still (suc p) up away = (let no = is_other (suc p) 0 (λ e. omega arith) in
        ap (λ b. b || alive (dropped n m.nodes) (suc p)) no ∙ still_stands n m.nodes (suc p) (sym (ap (λ b. b || alive m.nodes (suc p)) no) ∙ up) away)

    or_no : (a b : Bool) → (a || b) ≡ false → b ≡ false
    or_no true b e = cc
    or_no false b e = e

    of : (x : ℕ) → (alive m.nodes x ≡ true) × (on_way m.nodes x n ≡ false) → ((parent (dropped n m.nodes) x == 0) || alive (dropped n m.nodes) (parent (dropped n m.nodes) x)) ≡ true
    of x up = (
        let f = alive_fits m.nodes x up.0 in
        let some : 0 < x = some_by x up.0 in
        ap (λ p. (p == 0) || alive (dropped n m.nodes) p) (dropped_parent n m.nodes x)
        ∙ still (parent m.nodes x) (h.whole x up.0) (or_no (n == x) (on_way m.nodes (parent m.nodes x) n) (sym (way_child m.nodes x n h.tree some f) ∙ up.1)))
      where
        some_by : (y : ℕ) → alive m.nodes y ≡ true → 0 < y
        some_by zero e = (let z = sym (alive_zero m.nodes) ∙ e in cc)
        some_by (suc y) e = omega arith

-- the climb from the cursor met the node, or passed it
pub on_path_is : (nodes : List Node) (x n : ℕ) → IsTree nodes → x ≤ length nodes → x ≤ n → (x == n) ≡ ((n == 0) || on_way nodes x n)
on_path_is nodes x zero tree fits h = (let z : x ≡ 0 = omega arith in ap (λ y. y == 0) z)
on_path_is nodes x (suc n) tree fits h = of (eqb_tells x (suc n)) ∙ ap (λ b. b || on_way nodes x (suc n)) (sym (is_other (suc n) 0 (λ e. omega arith)))
  where
    of : (((x == suc n) ≡ true) × (x ≡ suc n)) ⊎ (((x == suc n) ≡ false) × (x ≢ suc n)) → (x == suc n) ≡ on_way nodes x (suc n)
    of (inl e) = e.0 ∙ sym (ap (λ y. on_way nodes x y) (sym e.1) ∙ way_self nodes x tree (let k = e.1 in omega arith) fits)
    of (inr e) = e.0 ∙ sym (false_by (on_way nodes x (suc n)) (λ on. (let b = way_below nodes x (suc n) tree fits on in let k = e.1 in absurd (omega arith))))

pub prune_none : (n : ℕ) (h : History) → stands h n ≡ false → prune n h ≡ Err NoSuchNode
unfolding prune
prune_none n h e = ap (λ b. cond (not b) (Err NoSuchNode) (cond (is_on_path h n) (Err OnPath) (Ok (standing_below n h.nodes, without n h)))) e

pub prune_refused : (n : ℕ) (h : History) → stands h n ≡ true → is_on_path h n ≡ true → prune n h ≡ Err OnPath
unfolding prune
prune_refused n h e on = ap (λ b. cond (not b) (Err NoSuchNode) (cond (is_on_path h n) (Err OnPath) (Ok (standing_below n h.nodes, without n h)))) e
    ∙ ap (λ b. cond b (Err OnPath) (Ok (standing_below n h.nodes, without n h))) on

pub prune_done : (n : ℕ) (h : History) → stands h n ≡ true → is_on_path h n ≡ false → prune n h ≡ Ok (standing_below n h.nodes, without n h)
unfolding prune
prune_done n h e on = ap (λ b. cond (not b) (Err NoSuchNode) (cond (is_on_path h n) (Err OnPath) (Ok (standing_below n h.nodes, without n h)))) e
    ∙ ap (λ b. cond b (Err OnPath) (Ok (standing_below n h.nodes, without n h))) on

no_part : (a b : Bool) → (a || b) ≡ false → (a ≡ false) × (b ≡ false)
no_part true b e = cc
no_part false b e = (refl, e)

-- a node off the path is not the opening
pub off_path : (h : History) (n : ℕ) → is_on_path h n ≡ false → (0 < n) × (on_way h.nodes (cursor h) n ≡ false)
off_path h zero e = cc
off_path h (suc n) e = (omega arith, (no_part (suc n == 0) (on_way h.nodes (cursor h) (suc n)) e).1)
