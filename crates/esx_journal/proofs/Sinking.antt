-- Several moves down to a node.
use Rattle.std.proofs.Common.{◌≡◌, ◌≢◌, ℕ, zero, suc, ◌+◌, ◌-◌, ◌<◌, ◌≤◌, ◌==◌, ◌||◌, Bool, true, false, cond, List, [], ◌∷◌, ◌++◌, length, length-append, slice_set, slice_index_or, refl, sym, ap, ◌∙◌, subst, arith, Option, Some, None, Ok, Err, nat_lt, ◌⊎◌, inl, inr}
use Rattle.std.proofs.lemmas.Bool.Decides.{eqb_tells, nat_tests}
use Rattle.std.proofs.lemmas.Bool.{eq-eqb}
use Rattle.esx_events.specs.declared.event.Refusal.TheVariants.{NoSuchNode}
use Rattle.esx_model.specs.Tree.{Node, Move, Up, Down, parent, alive, path, at, last_descent, IsTree}
use Rattle.esx_model.specs.History.{History, cursor, if_alive, jumped}
use Rattle.esx_model.specs.Tree.{line, way}
use Rattle.esx_model.specs.Branching.{stands, gone_to, goto}
use Rattle.esx_journal.specs.Turns.{above}
use Rattle.esx_journal.specs.Rows.{Row}
use Rattle.esx_journal.specs.Journal.{Kept, IsRow, Aims, Holds}
use Rattle.esx_journal.specs.Ways.{ups, downs, Climbed}
use Rattle.esx_journal.proofs.Lists.{set_there, set_elsewhere, set_length}
use Rattle.esx_journal.proofs.Paths.{alive_fits, is_other, path_child, parent_below, parent_zero, some_child}
use Rattle.esx_journal.proofs.Steps.{cursor_fits, descents_of, aims_same}
use Rattle.esx_journal.proofs.Back.{above_parent, lasts_ups}
use Rattle.esx_journal.proofs.Ways.{way_from, way_to, way_none}

pub parent_le : (nodes : List Node) (n : ℕ) → IsTree nodes → n ≤ length nodes → parent nodes n ≤ n
parent_le nodes zero tree fits = (let p = parent_zero nodes in omega arith)
parent_le nodes (suc n) tree fits = (let p = parent_below nodes (suc n) tree (omega arith) fits in omega arith)

pub above_le : (nodes : List Node) (k n : ℕ) → IsTree nodes → n ≤ length nodes → above nodes k n ≤ n
unfolding above
above_le nodes zero n tree fits = omega arith
above_le nodes (suc k) n tree fits = (let p = parent_le nodes n tree fits in let q = above_le nodes k (parent nodes n) tree (omega arith) in omega arith)

-- one more move down, before the others
pub downs_more : (nodes : List Node) (k n : ℕ) (w : List Move) → downs nodes (suc k) n w ≡ downs nodes k n (Down (above nodes k n) ∷ w)
unfolding downs above
downs_more nodes zero n w = refl
downs_more nodes (suc k) n w = ap (λ s. Down n ∷ s) (downs_more nodes k (parent nodes n) w)

-- the child of a node above the goal is below its own child's parent
apart : (nodes : List Node) (b p : ℕ) → IsTree nodes → p ≤ length nodes → 0 < b → b ≤ p → parent nodes b ≢ p
apart nodes b p tree fits some h = λ e. (let q = parent_below nodes b tree some (omega arith) in omega arith)

swapped : (s t : Bool) (x y o : Option ℕ) → (s ≡ true → t ≡ false) → cond s x (cond t y o) ≡ cond t y (cond s x o)
swapped true t x y o h = sym (ap (λ u. cond u y x) (h refl))
swapped false t x y o h = refl

true_by : (x y : ℕ) → (x == y) ≡ true → x ≡ y
true_by x y h = of (eqb_tells x y)
  where
    of : (((x == y) ≡ true) × (x ≡ y)) ⊎ (((x == y) ≡ false) × (x ≢ y)) → x ≡ y
    of (inl e) = e.1
    of (inr e) = (let z = sym h ∙ e.0 in cc)

-- the order in which the last children are set does not matter
pub downs_lasts : (nodes : List Node) (k n x : ℕ) (w : List Move) → IsTree nodes → n ≤ length nodes → 0 < above nodes k n
    → last_descent nodes (Down (above nodes k n) ∷ downs nodes k n w) x ≡ last_descent nodes (downs nodes k n (Down (above nodes k n) ∷ w)) x
unfolding downs above last_descent
downs_lasts nodes zero n x w tree fits some = refl
downs_lasts nodes (suc k) n x w tree fits some =
    let p = parent nodes n in
    let b = above nodes k p in
    let below = parent_le nodes n tree fits in
    let le = above_le nodes k p tree (omega arith) in
    let no : (x == parent nodes b) ≡ true → (x == p) ≡ false = λ e. is_other x p (λ f. apart nodes b p tree (omega arith) some le (sym (true_by x (parent nodes b) e) ∙ f)) in
    swapped (x == parent nodes b) (x == p) (Some b) (Some n) (last_descent nodes (downs nodes k p w) x) no
    ∙ ap (λ o. cond (x == p) (Some n) o) (downs_lasts nodes k p x w tree (omega arith) some)

-- the last children lead along the moves down
pub downs_next : (nodes : List Node) (i k n : ℕ) (w : List Move) → IsTree nodes → n ≤ length nodes → i < k → 0 < above nodes i n
    → last_descent nodes (downs nodes k n w) (parent nodes (above nodes i n)) ≡ Some (above nodes i n)
unfolding downs above last_descent
downs_next nodes i zero n w tree fits h some = absurd (omega arith)
downs_next nodes zero (suc k) n w tree fits h some = ap (λ b. cond b (Some n) (last_descent nodes (downs nodes k (parent nodes n) w) (parent nodes n))) (eq-eqb (parent nodes n) (parent nodes n) refl)
downs_next nodes (suc i) (suc k) n w tree fits h some =
    let p = parent nodes n in
    let b = above nodes i p in
    let below = parent_le nodes n tree fits in
    let le = above_le nodes i p tree (omega arith) in
    ap (λ t. cond t (Some n) (last_descent nodes (downs nodes k p w) (parent nodes b))) (is_other (parent nodes b) p (apart nodes b p tree (omega arith) some le))
    ∙ downs_next nodes i k p w tree (omega arith) (omega arith) some

-- moves up before them change no last child
pub downs_ups : (nodes : List Node) (k n r x : ℕ) (w : List Move) → last_descent nodes (downs nodes k n (ups r w)) x ≡ last_descent nodes (downs nodes k n w) x
unfolding downs last_descent
downs_ups nodes zero n r x w = lasts_ups nodes r w x
downs_ups nodes (suc k) n r x w = ap (λ o. cond (x == parent nodes n) (Some n) o) (downs_ups nodes k (parent nodes n) r x w)

-- the nodes above a node that stands
above_stands : (nodes : List Node) (k n : ℕ) → ((m : ℕ) → alive nodes m ≡ true → ((parent nodes m == 0) || alive nodes (parent nodes m)) ≡ true) → ((n == 0) || alive nodes n) ≡ true
    → ((above nodes k n == 0) || alive nodes (above nodes k n)) ≡ true
unfolding above
above_stands nodes zero n whole h = h
above_stands nodes (suc k) n whole h = above_stands nodes k (parent nodes n) whole (of n h)
  where
    of : (m : ℕ) → ((m == 0) || alive nodes m) ≡ true → ((parent nodes m == 0) || alive nodes (parent nodes m)) ≡ true
    of zero up = ap (λ p. (p == 0) || alive nodes p) (parent_zero nodes)
    of (suc m) up = whole (suc m) (sym (ap (λ b. b || alive nodes (suc m)) (is_other (suc m) 0 (λ e. omega arith))) ∙ up)

pub alive_of : (nodes : List Node) (n : ℕ) → 0 < n → ((n == 0) || alive nodes n) ≡ true → alive nodes n ≡ true
alive_of nodes n some h = sym (ap (λ b. b || alive nodes n) (is_other n 0 (λ e. omega arith))) ∙ h

pub above_alive : (nodes : List Node) (k n : ℕ) → ((m : ℕ) → alive nodes m ≡ true → ((parent nodes m == 0) || alive nodes (parent nodes m)) ≡ true) → ((n == 0) || alive nodes n) ≡ true
    → 0 < above nodes k n → alive nodes (above nodes k n) ≡ true
above_alive nodes k n whole h some = alive_of nodes (above nodes k n) some (above_stands nodes k n whole h)

pub at_downs : (nodes : List Node) (k n i : ℕ) (w : List Move) → at nodes w ≡ above nodes k n → i ≤ k → at nodes (downs nodes i (above nodes (k - i) n) w) ≡ above nodes (k - i) n
unfolding at downs
at_downs nodes k n zero w e h = (let z : k ≡ k - 0 = omega arith in e ∙ ap (λ i. above nodes i n) z)
at_downs nodes k n (suc i) w e h = refl

-- On the climb: the cursor came up so far, and the way from the node x down to the goal is that of the last children.
pub record Climbing (h : History) (goal : ℕ) (j : Kept) (x down : ℕ) : Type 0 where
  pub rise : ℕ
  pub aim : List Move
  pub holds : Aims j (record h { walk = ups rise h.walk }) aim
  pub fits : goal ≤ length h.nodes
  pub place : x ≡ above h.nodes down goal
  pub way : way (line h.nodes (cursor h)) (line h.nodes goal) ++ h.walk ≡ downs h.nodes down goal (way (line h.nodes j.cursor) (line h.nodes x) ++ ups rise h.walk)
  pub some : (i : ℕ) → i < down → 0 < above h.nodes i goal
  pub lasts : (n : ℕ) → last_descent h.nodes aim n ≡ last_descent h.nodes (downs h.nodes down goal h.walk) n

pub climb_first : (h : History) (goal : ℕ) (j : Kept) → Holds j h → goal < length j.rows → Climbing h goal j goal 0
unfolding ups downs above
climb_first h goal j holds fits = record {
  rise = 0;
  aim = h.walk;
  holds = holds;
  fits = (let s = holds.size in omega arith);
  place = refl;
  way = ap (λ n. way (line h.nodes n) (line h.nodes goal) ++ h.walk) (sym holds.place);
  some = λ i f. absurd (omega arith);
  lasts = λ n. refl;
}

-- the cursor climbs
pub climb_up : (h : History) (goal : ℕ) (j new : Kept) (x down : ℕ) → (c : Climbing h goal j x down) → x < j.cursor → Aims new (record h { walk = Up ∷ ups c.rise h.walk }) c.aim → Climbing h goal new x down
unfolding ups at
climb_up h goal j new x down c less holds =
    let fits = cursor_fits j (record h { walk = ups c.rise h.walk }) c.aim c.holds in
    let was = c.holds.place in
    let now : new.cursor ≡ parent h.nodes j.cursor = holds.place ∙ ap (parent h.nodes) (sym c.holds.place) in
    record {
      rise = suc c.rise;
      aim = c.aim;
      holds = holds;
      fits = c.fits;
      place = c.place;
      way = c.way ∙ ap (downs h.nodes down goal) (way_from h.nodes j.cursor x (ups c.rise h.walk) c.holds.tree (omega arith) less
          ∙ ap (λ n. way (line h.nodes n) (line h.nodes x) ++ Up ∷ ups c.rise h.walk) (sym now));
      some = c.some;
      lasts = c.lasts;
    }

-- the goal's side climbs
pub climb_aim : (h : History) (goal : ℕ) (j new : Kept) (x down p : ℕ) → (c : Climbing h goal j x down) → j.cursor < x → new.cursor ≡ j.cursor
    → (p ≡ parent h.nodes x) × Aims new (record h { walk = ups c.rise h.walk }) (Down x ∷ c.aim) → Climbing h goal new p (down + 1)
unfolding above last_descent
climb_aim h goal j new x down p c less same aims =
    let tree = c.holds.tree in
    let le = above_le h.nodes down goal tree c.fits in
    let place = c.place in
    let fits : x ≤ length h.nodes = (let f = c.fits in omega arith) in
    let i : suc down ≡ down + 1 = omega arith in
    let w : List Move = ups c.rise h.walk in
    let rest : List Move = way (line h.nodes j.cursor) (line h.nodes (parent h.nodes x)) ++ w in
    record {
      rise = c.rise;
      aim = Down x ∷ c.aim;
      holds = aims.1;
      fits = c.fits;
      place = aims.0 ∙ ap (parent h.nodes) c.place ∙ sym (above_parent h.nodes down goal) ∙ ap (λ k. above h.nodes k goal) i;
      way = c.way ∙ ap (downs h.nodes down goal) (way_to h.nodes j.cursor x w tree fits less ∙ ap (λ n. Down n ∷ rest) c.place)
          ∙ sym (downs_more h.nodes down goal rest) ∙ ap (λ k. downs h.nodes k goal rest) i
          ∙ ap (λ n. downs h.nodes (down + 1) goal (way (line h.nodes j.cursor) (line h.nodes n) ++ w)) (sym aims.0)
          ∙ ap (λ n. downs h.nodes (down + 1) goal (way (line h.nodes n) (line h.nodes p) ++ w)) (sym same);
      some = λ k f. of k f (eqb_tells k down);
      lasts = λ n. ap (λ o. cond (n == parent h.nodes x) (Some x) o) (c.lasts n)
          ∙ ap (λ y. cond (n == parent h.nodes y) (Some y) (last_descent h.nodes (downs h.nodes down goal h.walk) n)) c.place
          ∙ downs_lasts h.nodes down goal n h.walk tree c.fits (omega arith)
          ∙ ap (λ s. last_descent h.nodes s n) (sym (downs_more h.nodes down goal h.walk)) ∙ ap (λ k. last_descent h.nodes (downs h.nodes k goal h.walk) n) i;
    }
  where
    of : (k : ℕ) → k < down + 1 → (((k == down) ≡ true) × (k ≡ down)) ⊎ (((k == down) ≡ false) × (k ≢ down)) → 0 < above h.nodes k goal
    of k f (inl e) = (let q = ap (λ i. above h.nodes i goal) e.1 in let r = c.place in omega arith)
    of k f (inr e) = c.some k (let q = e.1 in omega arith)

-- both sides have met
pub climbed : (h : History) (goal : ℕ) (j : Kept) (x down : ℕ) → Climbing h goal j x down → j.cursor ≡ x → Climbed h goal j down
climbed h goal j x down c met = record {
  rise = c.rise;
  aim = c.aim;
  holds = c.holds;
  place = met ∙ c.place;
  way = c.way ∙ ap (downs h.nodes down goal) (ap (λ n. way (line h.nodes n) (line h.nodes x) ++ ups c.rise h.walk) met ∙ way_none (line h.nodes x) (ups c.rise h.walk));
  some = c.some;
  lasts = c.lasts;
}

-- a cursor that is not at the opening is deep
pub depth_some : (j : Kept) (m : History) (aim : List Move) → Aims j m aim → 0 < j.cursor → 0 < j.depth
depth_some j m aim h some =
    let p = h.place in
    let long = path_child m.nodes (cursor m) h.tree (omega arith) (cursor_fits j m aim h) in
    let a = ap length long.1 in
    let l = length-append (path m.nodes (parent m.nodes (cursor m))) (long.0 ∷ []) in
    let d = h.deep in
    omega arith

-- the rows, with a node as its parent's last child
pub aims_at : (j : Kept) (m : History) (aim : List Move) (n p : ℕ) (row d : Row) → Aims j m aim → 0 < n → n ≤ length m.nodes → p ≡ parent m.nodes n → row ≡ slice_index_or j.rows p d
    → Aims (record j { rows = slice_set j.rows p (record row { last = n }) }) m (Down n ∷ aim)
unfolding last_descent
aims_at j m aim n p row d h some fits up is =
    let new : Row = record row { last = n } in
    let below = parent_below m.nodes n h.tree some fits in
    let s = h.size in
    let room : p < length j.rows = omega arith in
    record {
      limit = h.limit;
      tree = h.tree;
      walk = h.walk;
      lasts = (some, fits, h.lasts);
      size = set_length j.rows p new ∙ h.size;
      place = h.place;
      deep = h.deep;
      shows = h.shows;
      names = h.names;
      whole = h.whole;
      way = h.way;
      each = λ x e within. of x e within room (eqb_tells x p);
    }
  where
    there : (x : ℕ) → x ≤ length m.nodes → x ≡ p → IsRow m (Down n ∷ aim) (cursor m) x (record row { last = n })
    there x within k =
        let old : IsRow m aim (cursor m) x (slice_index_or j.rows x d) = h.each x d within in
        let same : slice_index_or j.rows x d ≡ row = ap (λ i. slice_index_or j.rows i d) k ∙ sym is in
        let P : Row → Type 0 = IsRow m aim (cursor m) x in
        let at_x : IsRow m aim (cursor m) x row = subst P same old in
        record {
          up = at_x.up;
          last = some_child n some ∙ sym (ap (λ b. cond b (Some n) (last_descent m.nodes aim x)) (eq-eqb x (parent m.nodes n) (k ∙ up)));
          live = at_x.live;
          accepted = at_x.accepted;
          back = at_x.back;
        }

    elsewhere : (x : ℕ) (e : Row) → x ≤ length m.nodes → x ≢ p → IsRow m (Down n ∷ aim) (cursor m) x (slice_index_or j.rows x e)
    elsewhere x e within k =
        let old : IsRow m aim (cursor m) x (slice_index_or j.rows x e) = h.each x e within in
        record {
          up = old.up;
          last = old.last ∙ sym (ap (λ b. cond b (Some n) (last_descent m.nodes aim x)) (is_other x (parent m.nodes n) (λ f. k (f ∙ sym up))));
          live = old.live;
          accepted = old.accepted;
          back = old.back;
        }

    of : (x : ℕ) (e : Row) → x ≤ length m.nodes → p < length j.rows → (((x == p) ≡ true) × (x ≡ p)) ⊎ (((x == p) ≡ false) × (x ≢ p))
        → IsRow m (Down n ∷ aim) (cursor m) x (slice_index_or (slice_set j.rows p (record row { last = n })) x e)
    of x e within room (inl k) = (let P : Row → Type 0 = IsRow m (Down n ∷ aim) (cursor m) x in subst P (sym (set_there j.rows p x (record row { last = n }) e room k.1)) (there x within k.1))
    of x e within room (inr k) = (let P : Row → Type 0 = IsRow m (Down n ∷ aim) (cursor m) x in subst P (sym (set_elsewhere j.rows p x (record row { last = n }) e k.1)) (elsewhere x e within k.1))

-- after so many moves down
abbrev pub sunk : (h : History) (goal : ℕ) (j : Kept) (down : ℕ) → Climbed h goal j down → ℕ → History
sunk h goal j down c gone = record h { walk = downs h.nodes gone (above h.nodes (down - gone) goal) (ups c.rise h.walk) }

-- the child of the cursor's node on the way to the goal
pub sinks_to : (h : History) (goal : ℕ) (j now : Kept) (down gone : ℕ) → (c : Climbed h goal j down) → stands h goal ≡ true → goal ≤ length h.nodes → gone < down → Aims now (sunk h goal j down c gone) c.aim
    → if_alive h.nodes (last_descent h.nodes c.aim (cursor (sunk h goal j down c gone))) ≡ Some (above h.nodes (down - gone - 1) goal)
unfolding above
sinks_to h goal j now down gone c up fits less holds =
    let i : ℕ = down - gone - 1 in
    let n : suc i ≡ down - gone = omega arith in
    let b = above h.nodes i goal in
    let some = c.some i (omega arith) in
    let place : cursor (sunk h goal j down c gone) ≡ parent h.nodes b
    = at_downs h.nodes down goal gone (ups c.rise h.walk) (sym c.holds.place ∙ c.place) (omega arith) ∙ ap (λ k. above h.nodes k goal) (sym n) ∙ above_parent h.nodes i goal in
    ap (if_alive h.nodes) (ap (last_descent h.nodes c.aim) place ∙ c.lasts (parent h.nodes b) ∙ downs_next h.nodes i down goal h.walk c.holds.tree fits (omega arith) some)
    ∙ ap (λ t. cond t (Some b) None) (above_alive h.nodes i goal c.holds.whole up some)

pub sinks_on : (h : History) (goal : ℕ) (j new : Kept) (down gone : ℕ) → (c : Climbed h goal j down) → gone < down
    → Aims new (record (sunk h goal j down c gone) { walk = Down (above h.nodes (down - gone - 1) goal) ∷ (sunk h goal j down c gone).walk }) c.aim
    → Aims new (sunk h goal j down c (gone + 1)) c.aim
unfolding downs above
sinks_on h goal j new down gone c less holds =
    let i : ℕ = down - gone - 1 in
    let w : List Move = ups c.rise h.walk in
    let n : suc i ≡ down - gone = omega arith in
    let m : down - (gone + 1) ≡ i = omega arith in
    let g : gone + 1 ≡ suc gone = omega arith in
    let walk : Down (above h.nodes i goal) ∷ downs h.nodes gone (above h.nodes (down - gone) goal) w ≡ downs h.nodes (gone + 1) (above h.nodes (down - (gone + 1)) goal) w
    = ap (λ x. Down (above h.nodes i goal) ∷ downs h.nodes gone x w) (ap (λ k. above h.nodes k goal) (sym n) ∙ above_parent h.nodes i goal)
    ∙ ap (λ k. downs h.nodes k (above h.nodes i goal) w) (sym g) ∙ ap (λ k. downs h.nodes (gone + 1) (above h.nodes k goal) w) (sym m) in
    let P : List Move → Type 0 = λ x. Aims new (record h { walk = x }) c.aim in
    subst P walk holds

-- at the goal
pub sunk_home : (h : History) (goal : ℕ) (j new : Kept) (down : ℕ) → (c : Climbed h goal j down) → Aims new (sunk h goal j down c down) c.aim → Holds new (gone_to goal h)
unfolding above
sunk_home h goal j new down c holds =
    let z : down - down ≡ 0 = omega arith in
    let w : List Move = ups c.rise h.walk in
    let there : downs h.nodes down (above h.nodes (down - down) goal) w ≡ way (line h.nodes (cursor h)) (line h.nodes goal) ++ h.walk = ap (λ k. downs h.nodes down (above h.nodes k goal) w) z ∙ sym c.way in
    let P : List Move → Type 0 = λ x. Aims new (record h { walk = x }) c.aim in
    let arrived : Aims new (gone_to goal h) c.aim = subst P there holds in
    aims_same new (gone_to goal h) c.aim (way (line h.nodes (cursor h)) (line h.nodes goal) ++ h.walk) arrived (descents_of h.nodes (way (line h.nodes (cursor h)) (line h.nodes goal) ++ h.walk) arrived.walk)
    (λ n. ap (λ s. last_descent h.nodes s n) c.way ∙ downs_ups h.nodes down goal c.rise n h.walk ∙ sym (c.lasts n))

pub goto_none : (n : ℕ) (h : History) → stands h n ≡ false → goto n h ≡ Err NoSuchNode
unfolding goto
goto_none n h e = ap (λ b. cond b (Ok (jumped (gone_to n h))) (Err NoSuchNode)) e

pub goto_some : (n : ℕ) (h : History) → stands h n ≡ true → goto n h ≡ Ok (jumped (gone_to n h))
unfolding goto
goto_some n h e = ap (λ b. cond b (Ok (jumped (gone_to n h))) (Err NoSuchNode)) e

not_less : (a b : ℕ) → false ≡ nat_lt a b → b ≤ a
not_less a b h = grind (arith, nat_tests)

-- no node stands past the last number
pub none_past : (nodes : List Node) (n : ℕ) → length nodes < n → ((n == 0) || alive nodes n) ≡ false
none_past nodes n h = ap (λ b. b || alive nodes n) (is_other n 0 (λ e. omega arith)) ∙ of (alive nodes n) (λ e. (let f = alive_fits nodes n e in absurd (omega arith)))
  where
    of : (b : Bool) → (b ≡ true → ⊥) → b ≡ false
    of true e = absurd (e refl)
    of false e = refl

pub stands_past : (j : Kept) (h : History) (aim : List Move) (n : ℕ) → Aims j h aim → false ≡ nat_lt n (length j.rows) → false ≡ stands h n
stands_past j h aim n holds e = (let s = holds.size in let f = not_less n (length j.rows) e in sym (none_past h.nodes n (omega arith)))
