-- Single moves.
use Rattle.std.proofs.Common.{◌≡◌, ◌≢◌, ℕ, ◌+◌, ◌<◌, ◌≤◌, ◌==◌, ◌||◌, zero, suc, Bool, true, false, cond, List, [], ◌∷◌, length, length-append, slice_set, slice_index_or, is_some, refl, sym, ap, ◌∙◌, subst, arith, Option, Some, None, ◌⊎◌, inl, inr}
use Rattle.std.proofs.lemmas.Bool.Decides.{eqb_tells}
use Rattle.esx_machine.specs.Machine as machines
use Rattle.esx_machine.specs.Machine.{Back}
use Rattle.esx_machine.specs.Machine.{Trades}
use Rattle.esx_model.specs.Tree.{Node, Move, Up, Down, parent, alive, path, on_way, at, last_descent, IsWalk}
use Rattle.esx_model.specs.History.{History, cursor, up_once, down_to, child, if_alive}
use Rattle.esx_journal.specs.Rows.{Row}
use Rattle.esx_journal.specs.Row.{FlipsAt, Flipped}
use Rattle.esx_journal.specs.Journal.{Kept, Leads, IsRow, AreDescents, Aims, Holds, kept_after}
use Rattle.esx_journal.proofs.Lists.{set_there, set_elsewhere, set_length}
use Rattle.esx_journal.proofs.Paths.{path_child, way_same, way_self, way_above, way_child, walk_ends, path_zero}

abbrev pub state : History → ℕ → machines.Kept
state m n = kept_after m.config (path m.nodes n)

-- Every row, after the record of the node c was flipped and the cursor went over the edge above c.
pub rows_after : (m : History) (walk aim : List Move) (rows : List Row) (from to c : ℕ) (d : Row) (b : Back) → c < length rows
    → ((n : ℕ) → n ≢ c → on_way m.nodes from n ≡ on_way m.nodes to n)
    → is_some (slice_index_or rows c d).back ≡ true
    → Leads (on_way m.nodes to c) b (state m c) (state m (parent m.nodes c))
    → ((n : ℕ) (e : Row) → n ≤ length m.nodes → IsRow m aim from n (slice_index_or rows n e))
    → (n : ℕ) (e : Row) → n ≤ length m.nodes → IsRow (record m { walk = walk }) aim to n (slice_index_or (slice_set rows c (record (slice_index_or rows c d) { back = Some b })) n e)
rows_after m walk aim rows from to c d b fits ways live leads each n e below = of (eqb_tells n c)
  where
    new : Row
    new = record (slice_index_or rows c d) { back = Some b }

    there : n ≡ c → IsRow (record m { walk = walk }) aim to n (record (slice_index_or rows c d) { back = Some b })
    there k = (let old : IsRow m aim from n (slice_index_or rows n d) = each n d below in
        let at_c : IsRow m aim from c (slice_index_or rows c d) = (let P : ℕ → Type 0 = λ x. IsRow m aim from x (slice_index_or rows x d) in subst P k old) in
        let P : ℕ → Type 0 = λ x. IsRow (record m { walk = walk }) aim to x (record (slice_index_or rows c d) { back = Some b }) in
        let made : IsRow (record m { walk = walk }) aim to c (record (slice_index_or rows c d) { back = Some b }) = record {
          up = at_c.up;
          last = at_c.last;
          live = sym live ∙ at_c.live;
          accepted = at_c.accepted;
          back = λ r h. (let same : b ≡ r = cc in let Q : Back → Type 0 = λ x. Leads (on_way m.nodes to c) x (state m c) (state m (parent m.nodes c)) in subst Q same leads);
        } in
        subst P (sym k) made)

    elsewhere : n ≢ c → IsRow (record m { walk = walk }) aim to n (slice_index_or rows n e)
    elsewhere k = (let old = each n e below in record {
      up = old.up;
      last = old.last;
      live = old.live;
      accepted = old.accepted;
      back = λ r h. (let Q : Bool → Type 0 = λ x. Leads x r (state m n) (state m (parent m.nodes n)) in subst Q (ways n k) (old.back r h));
    })

    of : (((n == c) ≡ true) × (n ≡ c)) ⊎ (((n == c) ≡ false) × (n ≢ c)) → IsRow (record m { walk = walk }) aim to n (slice_index_or (slice_set rows c (record (slice_index_or rows c d) { back = Some b })) n e)
    of (inl k) = (let P : Row → Type 0 = IsRow (record m { walk = walk }) aim to n in subst P (sym (set_there rows c n (record (slice_index_or rows c d) { back = Some b }) e fits k.1)) (there k.1))
    of (inr k) = (let P : Row → Type 0 = IsRow (record m { walk = walk }) aim to n in subst P (sym (set_elsewhere rows c n (record (slice_index_or rows c d) { back = Some b }) e k.1)) (elsewhere k.1))

some_back : (o : Option Back) → is_some o ≡ true → (b : Back) × (o ≡ Some b)
some_back (Some b) h = (b, refl)
some_back None h = cc

or_true : (a b : Bool) → b ≡ true → (a || b) ≡ true
or_true true b h = refl
or_true false b h = h

pub cursor_fits : (j : Kept) (m : History) (aim : List Move) → Aims j m aim → cursor m ≤ length m.nodes
cursor_fits j m aim h = walk_ends m.nodes m.walk h.tree h.walk

pub cursor_some : (j : Kept) (m : History) (aim : List Move) → Aims j m aim → 0 < j.depth → 0 < cursor m
cursor_some j m aim h deep = of (cursor m) refl
  where
    of : (c : ℕ) → c ≡ cursor m → 0 < c
    of zero e = (let p = ap (λ x. length (path m.nodes x)) e in let q = ap length (path_zero m.nodes) in let k = h.deep in omega arith)
    of (suc c) e = omega arith

-- the record on the cursor's edge leads up
leads_up : (j : Kept) (m : History) (aim : List Move) → Aims j m aim → 0 < cursor m → (d : Row) (b : Back) → (slice_index_or j.rows (cursor m) d).back ≡ Some b
    → Trades b j.machine (state m (parent m.nodes (cursor m)))
leads_up j m aim h some d b e =
    let c = cursor m in
    let fits = cursor_fits j m aim h in
    let row = h.each c d fits in
    let P : Bool → Type 0 = λ x. Leads x b (state m c) (state m (parent m.nodes c)) in
    let t : Trades b (state m c) (state m (parent m.nodes c)) = subst P (way_self m.nodes c h.tree some fits) (row.back b e) in
    let Q : machines.Kept → Type 0 = λ x. Trades b x (state m (parent m.nodes c)) in
    subst Q (sym h.shows) t

pub flips_up : (j : Kept) (m : History) (aim : List Move) → Aims j m aim → 0 < j.depth → FlipsAt j.rows j.cursor j.machine
flips_up j m aim h deep = λ d b e. (state m (parent m.nodes (cursor m)), leads_up j m aim h (cursor_some j m aim h deep) d b (ap (λ x. (slice_index_or j.rows x d).back) (sym h.place) ∙ e))

pub went_up : (j new : Kept) (m : History) (aim : List Move) (d : Row) → Aims j m aim → 0 < j.depth
    → ((there : machines.Kept) (e : Row) (b : Back) → (slice_index_or j.rows j.cursor e).back ≡ Some b → Trades b j.machine there → Flipped j.machine new.machine j.rows new.rows j.cursor there e)
    → new.cursor ≡ (slice_index_or new.rows j.cursor d).parent → new.depth + 1 ≡ j.depth → new.nodes ≡ j.nodes → new.marks ≡ j.marks
    → Aims new (up_once m) aim
unfolding up_once at
went_up j new m aim d h deep flips cursor_is depth_is limit_is marks_are =
    let c = cursor m in
    let p = parent m.nodes c in
    let some : 0 < c = cursor_some j m aim h deep in
    let fits : c ≤ length m.nodes = cursor_fits j m aim h in
    let row = h.each c d fits in
    let live : is_some (slice_index_or j.rows c d).back ≡ true = row.live ∙ h.way c (way_self m.nodes c h.tree some fits) in
    let b = some_back (slice_index_or j.rows c d).back live in
    let P : ℕ → Type 0 = λ x. (there : machines.Kept) (e : Row) (b : Back) → (slice_index_or j.rows x e).back ≡ Some b → Trades b j.machine there → Flipped j.machine new.machine j.rows new.rows x there e in
    let f : Flipped j.machine new.machine j.rows new.rows c (state m p) d = subst P h.place flips (state m p) d b.0 b.1 (leads_up j m aim h some d b.0 b.1) in
    let room : c < length j.rows = (let s = h.size in omega arith) in
    let up_is : (slice_index_or new.rows c d).parent ≡ p = ap (λ rows. (slice_index_or rows c d).parent) f.rows
    ∙ ap (λ (r : Row). r.parent) (set_there j.rows c c (record (slice_index_or j.rows c d) { back = Some f.back }) d room refl) ∙ row.up in
    let Q : machines.Kept → Type 0 = λ x. Trades f.back (state m p) x in
    let back_down : Trades f.back (state m p) (state m c) = subst Q h.shows f.trades in
    let W : Bool → Type 0 = λ x. Leads x f.back (state m c) (state m p) in
    let rows_are = rows_after m (Up ∷ m.walk) aim j.rows c p c d f.back room (λ n k. way_same m.nodes c n h.tree some fits k) live
    (subst W (sym (way_above m.nodes c h.tree some fits)) back_down) h.each in
    let long = path_child m.nodes c h.tree some fits in
    let R : List Row → Type 0 = λ rows. (n : ℕ) (e : Row) → n ≤ length m.nodes → IsRow (record m { walk = Up ∷ m.walk }) aim p n (slice_index_or rows n e) in
    record {
      limit = limit_is ∙ h.limit;
      tree = h.tree;
      walk = h.walk;
      lasts = h.lasts;
      size = ap length f.rows ∙ set_length j.rows c (record (slice_index_or j.rows c d) { back = Some f.back }) ∙ h.size;
      place = cursor_is ∙ ap (λ x. (slice_index_or new.rows x d).parent) h.place ∙ up_is;
      deep = (let a = ap length long.1 in let l = length-append (path m.nodes p) (long.0 ∷ []) in let k = h.deep in omega arith);
      shows = f.arrives;
      names = marks_are ∙ h.names;
      whole = h.whole;
      way = λ n on. h.way n (way_child m.nodes c n h.tree some fits ∙ or_true (n == c) (on_way m.nodes p n) on);
      each = subst R (sym f.rows) rows_are;
    }

-- each move down of a walk goes to a node that was made
pub descents_of : (nodes : List Node) (walk : List Move) → IsWalk nodes walk → AreDescents nodes walk
descents_of nodes [] ok = tt
descents_of nodes (Up ∷ w) ok = descents_of nodes w ok
descents_of nodes (Down n ∷ w) ok = (ok.0, ok.1, descents_of nodes w ok.3)

pub cursor_of_child : (nodes : List Node) (walk : List Move) (p n : ℕ) → AreDescents nodes walk → last_descent nodes walk p ≡ Some n → (parent nodes n ≡ p) × (0 < n) × (n ≤ length nodes)
unfolding last_descent
cursor_of_child nodes [] p n ok h = cc
cursor_of_child nodes (Up ∷ w) p n ok h = cursor_of_child nodes w p n ok h
cursor_of_child nodes (Down k ∷ w) p n ok h = of (eqb_tells p (parent nodes k)) (λ e. cursor_of_child nodes w p n ok.2 e)
  where
    here_it_is : p ≡ parent nodes k → k ≡ n → (parent nodes n ≡ p) × (0 < n) × (n ≤ length nodes)
    here_it_is e same = (let Q : ℕ → Type 0 = λ x. (parent nodes x ≡ p) × (0 < x) × (x ≤ length nodes) in subst Q same (sym e, ok.0, ok.1))

    of : (((p == parent nodes k) ≡ true) × (p ≡ parent nodes k)) ⊎ (((p == parent nodes k) ≡ false) × (p ≢ parent nodes k))
        → (last_descent nodes w p ≡ Some n → (parent nodes n ≡ p) × (0 < n) × (n ≤ length nodes)) → (parent nodes n ≡ p) × (0 < n) × (n ≤ length nodes)
    of (inl e) more = here_it_is e.1 (let s : Some k ≡ Some n = sym (ap (λ b. cond b (Some k) (last_descent nodes w p)) e.0) ∙ h in cc)
    of (inr e) more = more (sym (ap (λ b. cond b (Some k) (last_descent nodes w p)) e.0) ∙ h)

-- a descent to the child where the last one went changes no last descent
pub same_descents : (nodes : List Node) (walk : List Move) (n : ℕ) → last_descent nodes walk (parent nodes n) ≡ Some n → (x : ℕ) → last_descent nodes (Down n ∷ walk) x ≡ last_descent nodes walk x
unfolding last_descent
same_descents nodes walk n h x = of (eqb_tells x (parent nodes n))
  where
    of : (((x == parent nodes n) ≡ true) × (x ≡ parent nodes n)) ⊎ (((x == parent nodes n) ≡ false) × (x ≢ parent nodes n)) → last_descent nodes (Down n ∷ walk) x ≡ last_descent nodes walk x
    of (inl e) = ap (λ b. cond b (Some n) (last_descent nodes walk x)) e.0 ∙ sym (ap (last_descent nodes walk) e.1 ∙ h)
    of (inr e) = ap (λ b. cond b (Some n) (last_descent nodes walk x)) e.0

pub chosen : (nodes : List Node) (o : Option ℕ) (n : ℕ) → if_alive nodes o ≡ Some n → (o ≡ Some n) × (alive nodes n ≡ true)
chosen nodes None n h = cc
chosen nodes (Some k) n h = of (alive nodes k) refl (λ e. e)
  where
    of : (b : Bool) → b ≡ alive nodes k → (cond (alive nodes k) (Some k) None ≡ Some n → cond (alive nodes k) (Some k) None ≡ Some n) → (Some k ≡ Some n) × (alive nodes n ≡ true)
    of true e f = (let s : Some k ≡ Some n = ap (λ b. cond b (Some k) None) e ∙ h in (s, (let t : k ≡ n = cc in ap (alive nodes) (sym t) ∙ sym e)))
    of false e f = (let s : None ≡ Some n = ap (λ b. cond b (Some k) None) e ∙ h in cc)

-- the child where a redo goes
pub record IsChild (m : History) (aim : List Move) (n : ℕ) : Type 0 where
  pub last : last_descent m.nodes aim (parent m.nodes n) ≡ Some n
  pub live : alive m.nodes n ≡ true
  pub up : parent m.nodes n ≡ cursor m
  pub some : 0 < n
  pub fits : n ≤ length m.nodes

pub is_child : (m : History) (aim : List Move) (n : ℕ) → AreDescents m.nodes aim → if_alive m.nodes (last_descent m.nodes aim (cursor m)) ≡ Some n → IsChild m aim n
is_child m aim n walks e =
    let c = chosen m.nodes (last_descent m.nodes aim (cursor m)) n e in
    let k = cursor_of_child m.nodes aim (cursor m) n walks c.0 in
    record { last = ap (last_descent m.nodes aim) k.0 ∙ c.0; live = c.1; up = k.0; some = k.1; fits = k.2 }

leads_down : (j : Kept) (m : History) (aim : List Move) (n : ℕ) → Aims j m aim → IsChild m aim n → (d : Row) (b : Back) → (slice_index_or j.rows n d).back ≡ Some b → Trades b j.machine (state m n)
leads_down j m aim n h k d b e =
    let row = h.each n d k.fits in
    let off : on_way m.nodes (cursor m) n ≡ false = ap (λ x. on_way m.nodes x n) (sym k.up) ∙ way_above m.nodes n h.tree k.some k.fits in
    let P : Bool → Type 0 = λ x. Leads x b (state m n) (state m (parent m.nodes n)) in
    let t : Trades b (state m (parent m.nodes n)) (state m n) = subst P off (row.back b e) in
    let Q : machines.Kept → Type 0 = λ x. Trades b x (state m n) in
    subst Q (ap (state m) k.up ∙ sym h.shows) t

pub flips_down : (j : Kept) (m : History) (aim : List Move) (n : ℕ) → Aims j m aim → IsChild m aim n → FlipsAt j.rows n j.machine
flips_down j m aim n h k = λ d b e. (state m n, leads_down j m aim n h k d b e)

pub went_down : (j new : Kept) (m : History) (aim : List Move) (n : ℕ) (d : Row) → Aims j m aim → IsChild m aim n
    → ((there : machines.Kept) (e : Row) (b : Back) → (slice_index_or j.rows n e).back ≡ Some b → Trades b j.machine there → Flipped j.machine new.machine j.rows new.rows n there e)
    → new.cursor ≡ n → new.depth ≡ j.depth + 1 → new.nodes ≡ j.nodes → new.marks ≡ j.marks
    → Aims new (down_to m n) aim
unfolding at
went_down j new m aim n d h k flips cursor_is depth_is limit_is marks_are =
    let p = cursor m in
    let row = h.each n d k.fits in
    let live : is_some (slice_index_or j.rows n d).back ≡ true = row.live ∙ k.live in
    let b = some_back (slice_index_or j.rows n d).back live in
    let f : Flipped j.machine new.machine j.rows new.rows n (state m n) d = flips (state m n) d b.0 b.1 (leads_down j m aim n h k d b.0 b.1) in
    let room : n < length j.rows = (let s = h.size in let t = k.fits in omega arith) in
    let Q : machines.Kept → Type 0 = λ x. Trades f.back (state m n) x in
    let back_up : Trades f.back (state m n) (state m (parent m.nodes n)) = subst Q (h.shows ∙ ap (state m) (sym k.up)) f.trades in
    let W : Bool → Type 0 = λ x. Leads x f.back (state m n) (state m (parent m.nodes n)) in
    let ways : (x : ℕ) → x ≢ n → on_way m.nodes p x ≡ on_way m.nodes n x = λ x o. ap (λ y. on_way m.nodes y x) (sym k.up) ∙ sym (way_same m.nodes n x h.tree k.some k.fits o) in
    let rows_are = rows_after m (Down n ∷ m.walk) aim j.rows p n n d f.back room ways live
    (subst W (sym (way_self m.nodes n h.tree k.some k.fits)) back_up) h.each in
    let long = path_child m.nodes n h.tree k.some k.fits in
    let R : List Row → Type 0 = λ rows. (x : ℕ) (e : Row) → x ≤ length m.nodes → IsRow (down_to m n) aim n x (slice_index_or rows x e) in
    record {
      limit = limit_is ∙ h.limit;
      tree = h.tree;
      walk = (k.some, k.fits, k.up, h.walk);
      lasts = h.lasts;
      size = ap length f.rows ∙ set_length j.rows n (record (slice_index_or j.rows n d) { back = Some f.back }) ∙ h.size;
      place = cursor_is;
      deep = (let a = ap length long.1 in let l = length-append (path m.nodes (parent m.nodes n)) (long.0 ∷ []) in let q = h.deep in let u = ap (λ x. length (path m.nodes x)) k.up in omega arith);
      shows = f.arrives;
      names = marks_are ∙ h.names;
      whole = h.whole;
      way = way_down;
      each = subst R (sym f.rows) rows_are;
    }
  where
    way_down : (x : ℕ) → on_way m.nodes n x ≡ true → alive m.nodes x ≡ true
    way_down x on = of (eqb_tells x n)
      where
        of : (((x == n) ≡ true) × (x ≡ n)) ⊎ (((x == n) ≡ false) × (x ≢ n)) → alive m.nodes x ≡ true
        of (inl e) = ap (alive m.nodes) e.1 ∙ k.live
        of (inr e) = h.way x (ap (λ y. on_way m.nodes y x) (sym k.up) ∙ sym (way_same m.nodes n x h.tree k.some k.fits e.1) ∙ on)

-- two walks with the same last descents are kept by the same rows
pub aims_same : (j : Kept) (m : History) (aim other : List Move) → Aims j m aim → AreDescents m.nodes other → ((n : ℕ) → last_descent m.nodes other n ≡ last_descent m.nodes aim n) → Aims j m other
aims_same j m aim other h walks same = record {
  limit = h.limit;
  tree = h.tree;
  walk = h.walk;
  lasts = walks;
  size = h.size;
  place = h.place;
  deep = h.deep;
  shows = h.shows;
  names = h.names;
  whole = h.whole;
  way = h.way;
  each = λ n d fits. (let row = h.each n d fits in record { up = row.up; last = row.last ∙ sym (same n); live = row.live; accepted = row.accepted; back = row.back });
}

-- one move of an undo
pub holds_up : (j : Kept) (m : History) → Aims j (up_once m) m.walk → Holds j (up_once m)
unfolding up_once last_descent
holds_up j m h = aims_same j (up_once m) m.walk (Up ∷ m.walk) h h.lasts (λ n. refl)

-- one step of a redo
pub holds_down : (j : Kept) (m : History) (n : ℕ) → IsChild m m.walk n → Aims j (down_to m n) m.walk → Holds j (down_to m n)
holds_down j m n k h = aims_same j (down_to m n) m.walk (Down n ∷ m.walk) h (k.some, k.fits, h.lasts) (same_descents m.nodes m.walk n k.last)

pub child_by : (m : History) (n : ℕ) → child m ≡ Some n → if_alive m.nodes (last_descent m.nodes m.walk (cursor m)) ≡ Some n
unfolding child
child_by m n e = e
