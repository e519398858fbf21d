-- Several moves.
use Rattle.std.proofs.Common.{◌≡◌, ◌≢◌, ℕ, zero, suc, ◌+◌, ◌<◌, ◌≤◌, ◌==◌, true, false, cond, List, [], ◌∷◌, length, length-append, slice_index_or, is_some, refl, sym, ap, ◌∙◌, arith, Option, Some, None, option_map, ◌⊎◌, inl, inr, add-one}
use Rattle.std.proofs.lemmas.Bool.Decides.{eqb_tells, nat_tests}
use Rattle.esx_model.specs.Tree.{Move, Down, parent, path, at, last_descent, IsTree, IsWalk}
use Rattle.esx_model.specs.History.{History, cursor, here, up_once, down_once, down_to, child, if_alive, undone, redone, undo, redo, then_go, jumped}
use Rattle.esx_journal.specs.Rows.{Row}
use Rattle.esx_journal.specs.Row.{LastsFit, kept_child, child_at}
use Rattle.esx_journal.specs.Children.{child_of_number}
use Rattle.esx_journal.specs.Journal.{Kept, Holds, Aims}
use Rattle.esx_journal.proofs.Paths.{walk_ends, path_short, path_child}
use Rattle.esx_journal.proofs.Steps.{cursor_fits, descents_of, cursor_of_child, same_descents, chosen, IsChild}

pub undone_more : (k : ℕ) (m : History) → undone (k + 1) m ≡ up_once (undone k m)
unfolding undone
undone_more k m = rw add-one refl

pub redone_more : (k : ℕ) (m : History) → redone (k + 1) m ≡ then_go (redone k m) down_once
unfolding redone
redone_more k m = rw add-one refl

pub undo_none : (k : ℕ) (m : History) → length (here m) < k → undo k m ≡ None
unfolding undo
undo_none k m h = grind (arith, nat_tests)

pub undo_some : (k : ℕ) (m : History) → k ≤ length (here m) → undo k m ≡ Some (jumped (undone k m))
unfolding undo
undo_some k m h = grind (arith, nat_tests)

-- the journal keeps nothing of the count of jumps
pub holds_jumped : (j : Kept) (m : History) → Holds j m → Holds j (jumped m)
holds_jumped j m h = record {
  limit = h.limit;
  tree = h.tree;
  walk = h.walk;
  lasts = h.lasts;
  size = h.size;
  place = h.place;
  deep = h.deep;
  shows = h.shows;
  names = h.names;
  whole = h.whole;
  way = h.way;
  each = λ n d fits. (let row = h.each n d fits in record { up = row.up; last = row.last; live = row.live; accepted = row.accepted; back = row.back });
}

pub depth_small : (j : Kept) (m : History) (aim : List Move) → Aims j m aim → j.depth ≤ length m.nodes
depth_small j m aim h = (let s = path_short m.nodes (cursor m) h.tree (cursor_fits j m aim h) in let f = cursor_fits j m aim h in let d = h.deep in omega arith)

-- a child is one deeper than the cursor
pub depth_below : (j : Kept) (m : History) (aim : List Move) (n : ℕ) → Aims j m aim → IsChild m aim n → j.depth + 1 ≤ length m.nodes
depth_below j m aim n h k =
    let long = path_child m.nodes n h.tree k.some k.fits in
    let a = ap length long.1 in
    let l = length-append (path m.nodes (parent m.nodes n)) (long.0 ∷ []) in
    let u = ap (λ x. length (path m.nodes x)) k.up in
    let s = path_short m.nodes n h.tree k.fits in
    let f = k.fits in
    let d = h.deep in
    omega arith

pub lasts_fit : (j : Kept) (m : History) (aim : List Move) → Aims j m aim → LastsFit j.rows
lasts_fit j m aim h at d below = of (slice_index_or j.rows at d).last refl
  where
    of : (n : ℕ) → (slice_index_or j.rows at d).last ≡ n → n < length j.rows
    of zero e = omega arith
    of (suc n) e = (
        let s = h.size in
        let row = h.each at d (omega arith) in
        let k = cursor_of_child m.nodes aim at (suc n) h.lasts (sym row.last ∙ ap child_of_number e) in
        let f = k.2 in
        omega arith)

-- what the rows say of a node's child
pub child_kept : (j : Kept) (m : History) (aim : List Move) (x : ℕ) (d : Row) → Aims j m aim → x ≤ length m.nodes → child_at j.rows x d ≡ if_alive m.nodes (last_descent m.nodes aim x)
child_kept j m aim x d h fits = ap (kept_child j.rows d) (h.each x d fits).last ∙ of (last_descent m.nodes aim x) (λ c e. (cursor_of_child m.nodes aim x c h.lasts e).2)
  where
    of : (o : Option ℕ) → ((c : ℕ) → o ≡ Some c → c ≤ length m.nodes) → kept_child j.rows d o ≡ if_alive m.nodes o
    of None f = refl
    of (Some c) f = ap (λ b. cond b (Some c) None) (h.each c d (f c refl)).live

-- a child that the rows name has a row
pub child_within : (j : Kept) (m : History) (aim : List Move) (x n : ℕ) (d : Row) → Aims j m aim → x < length j.rows → child_at j.rows x d ≡ Some n → n < length j.rows
child_within j m aim x n d h fits e =
    let s = h.size in
    let o = chosen m.nodes (last_descent m.nodes aim x) n (sym (child_kept j m aim x d h (omega arith)) ∙ e) in
    let k = cursor_of_child m.nodes aim x n h.lasts o.0 in
    let f = k.2 in
    omega arith

-- k nodes down there is the node x
pub record Looked (m : History) (k x : ℕ) : Type 0 where
  pub walk : List Move
  pub gives : redone k m ≡ Some (record m { walk = walk })
  pub place : at m.nodes walk ≡ x
  pub lasts : (n : ℕ) → last_descent m.nodes walk n ≡ last_descent m.nodes m.walk n
  pub walks : IsWalk m.nodes walk

pub looks_first : (j : Kept) (m : History) → Holds j m → Looked m 0 j.cursor
unfolding redone
looks_first j m h = record { walk = m.walk; gives = refl; place = sym h.place; lasts = λ n. refl; walks = h.walk }

pub looked_fits : (m : History) (k x : ℕ) → IsTree m.nodes → Looked m k x → x ≤ length m.nodes
looked_fits m k x tree l = (let w = walk_ends m.nodes l.walk tree l.walks in let p = l.place in omega arith)

child_there : (m : History) (k x : ℕ) → (l : Looked m k x) → child (record m { walk = l.walk }) ≡ if_alive m.nodes (last_descent m.nodes m.walk x)
unfolding child
child_there m k x l = ap (if_alive m.nodes) (l.lasts (at m.nodes l.walk) ∙ ap (last_descent m.nodes m.walk) l.place)

next_there : (m : History) (k x : ℕ) (l : Looked m k x) → redone (k + 1) m ≡ option_map (down_to (record m { walk = l.walk })) (child (record m { walk = l.walk }))
unfolding down_once
next_there m k x l = redone_more k m ∙ ap (λ o. then_go o down_once) l.gives

-- one more node down
pub looks_further : (m : History) (k x n : ℕ) → Looked m k x → if_alive m.nodes (last_descent m.nodes m.walk x) ≡ Some n → Looked m (k + 1) n
unfolding at child
looks_further m k x n l e =
    let w : History = record m { walk = l.walk } in
    let c : child w ≡ Some n = child_there m k x l ∙ e in
    let o = chosen m.nodes (last_descent m.nodes l.walk (at m.nodes l.walk)) n c in
    let f = cursor_of_child m.nodes l.walk (at m.nodes l.walk) n (descents_of m.nodes l.walk l.walks) o.0 in
    record {
      walk = Down n ∷ l.walk;
      gives = next_there m k x l ∙ ap (option_map (down_to w)) c;
      place = refl;
      lasts = λ y. same_descents m.nodes l.walk n (ap (last_descent m.nodes l.walk) f.0 ∙ o.0) y ∙ l.lasts y;
      walks = (f.1, f.2, f.0, l.walks);
    }

pub looks_on : (j : Kept) (m : History) (k x n : ℕ) (d : Row) → Holds j m → Looked m k x → child_at j.rows x d ≡ Some n → Looked m (k + 1) n
looks_on j m k x n d h l e = looks_further m k x n l (sym (child_kept j m m.walk x d h (looked_fits m k x h.tree l)) ∙ e)

pub looks_end : (j : Kept) (m : History) (k x : ℕ) (d : Row) → Holds j m → Looked m k x → child_at j.rows x d ≡ None → redone (k + 1) m ≡ None
looks_end j m k x d h l e = next_there m k x l ∙ ap (option_map (down_to (record m { walk = l.walk }))) (child_there m k x l ∙ sym (child_kept j m m.walk x d h (looked_fits m k x h.tree l)) ∙ e)

pub redone_stops : (m : History) (i k : ℕ) → i ≤ k → redone i m ≡ None → redone k m ≡ None
unfolding redone
redone_stops m i zero h e = (let z : i ≡ 0 = omega arith in ap (λ x. redone x m) (sym z) ∙ e)
redone_stops m i (suc k) h e = of (eqb_tells i (suc k)) (λ f. redone_stops m i k f e)
  where
    of : (((i == suc k) ≡ true) × (i ≡ suc k)) ⊎ (((i == suc k) ≡ false) × (i ≢ suc k)) → (i ≤ k → redone k m ≡ None) → redone (suc k) m ≡ None
    of (inl x) f = ap (λ y. redone y m) (sym x.1) ∙ e
    of (inr x) f = ap (λ o. then_go o down_once) (f (let y = x.1 in omega arith))

-- the last of several steps down
pub record Stepped (m after : History) (k : ℕ) : Type 0 where
  pub before : History
  pub gives : redone k m ≡ Some before
  pub node : ℕ
  pub is : child before ≡ Some node
  pub same : down_to before node ≡ after

pub redone_back : (m after : History) (k : ℕ) → redone (k + 1) m ≡ Some after → Stepped m after k
unfolding down_once
redone_back m after k e = of (redone k m) refl (sym (redone_more k m) ∙ e)
  where
    down : (w : History) → redone k m ≡ Some w → (c : Option ℕ) → child w ≡ c → option_map (down_to w) c ≡ Some after → Stepped m after k
    down w r None s f = cc
    down w r (Some n) s f = record { before = w; gives = r; node = n; is = s; same = (let g : Some (down_to w n) ≡ Some after = f in cc) }

    of : (o : Option History) → redone k m ≡ o → then_go o down_once ≡ Some after → Stepped m after k
    of None r f = cc
    of (Some w) r f = down w r (child w) refl f

-- what the rows say of the cursor's child
pub child_aimed : (j : Kept) (m : History) (aim : List Move) (d : Row) → Aims j m aim → child_at j.rows j.cursor d ≡ if_alive m.nodes (last_descent m.nodes aim (cursor m))
child_aimed j m aim d h = ap (λ x. child_at j.rows x d) h.place ∙ child_kept j m aim (cursor m) d h (cursor_fits j m aim h)

pub none_by : (o : Option History) → is_some o ≡ false → o ≡ None
none_by None e = refl
none_by (Some m) e = cc

pub some_by : (o : Option History) → is_some o ≡ true → (m : History) × (o ≡ Some m)
some_by None e = cc
some_by (Some m) e = (m, refl)

pub redo_none : (k : ℕ) (m : History) → redone k m ≡ None → redo k m ≡ None
unfolding redo
redo_none k m e = ap (option_map jumped) e

pub redo_some : (k : ℕ) (m w : History) → redone k m ≡ Some w → redo k m ≡ Some (jumped w)
unfolding redo
redo_some k m w e = ap (option_map jumped) e
