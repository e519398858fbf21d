-- The walk along links to children.
use Rattle.std.proofs.Common.{◌≡◌, ◌≢◌, ℕ, zero, suc, ◌+◌, ◌<◌, ◌≤◌, ◌==◌, ◌||◌, true, false, List, length, slice_set, slice_index_or, refl, sym, ap, ◌∙◌, arith, ◌⊎◌, inl, inr}
use Rattle.std.proofs.lemmas.Bool.Decides.{eqb_tells}
use Rattle.esx_model.specs.Tree.{Node, parent, alive, on_way}
use Rattle.esx_journal.specs.Rows.{Row}
use Rattle.esx_journal.specs.Row.{AreNodes, Lost, Drops, emptied}
use Rattle.esx_journal.specs.Children.{AreLinked, parent_of, has_record, first_of, next_of, no_row, unlinked}
use Rattle.esx_journal.proofs.Lists.{set_length}
use Rattle.esx_journal.proofs.Paths.{parent_below, parent_fits, way_same, way_below, way_self}
use Rattle.esx_journal.proofs.Linking.{linked_off, record_elsewhere, record_before, record_off, first_elsewhere}
use Rattle.esx_journal.proofs.Losing.{one_if, parent_stays, some_way, up_way, down_way, emptied_at, linked_emptied, emptied_there, first_emptied, lost_none, lost_here, lost_off, lost_all}
use Rattle.esx_journal.proofs.Pruning.{false_by}

-- So many went of the node and of those below it, and what still has one below it stands under a node that has one.
pub record Dropped (old now : List Row) (nodes : List Node) (node gone : ℕ) : Type 0 where
  pub lost : Lost gone old now nodes node
  pub whole : (n : ℕ) → n ≤ length nodes → on_way nodes n node ≡ true → n ≢ node → has_record now n ≡ true → has_record now (parent nodes n) ≡ true

-- A place on the node or below it, to which first children lead.
pub record IsLed (rows : List Row) (nodes : List Node) (node at : ℕ) : Type 0 where
  pub inside : at ≤ length nodes
  pub way : on_way nodes at node ≡ true
  pub firsts : (n : ℕ) → on_way nodes at n ≡ true → on_way nodes n node ≡ true → n ≢ node → first_of rows (parent nodes n) ≡ n

-- Where the walk is, and what went.
pub record Walking (old now : List Row) (nodes : List Node) (node at gone : ℕ) : Type 0 where
  pub dropped : Dropped old now nodes node gone
  pub led : IsLed now nodes node at

-- nothing went yet
pub walk_first : (old : List Row) (nodes : List Node) (node : ℕ) → AreNodes old nodes → 0 < node → node ≤ length nodes → Walking old old nodes node node 0
walk_first old nodes node a some fits = record {
  dropped = record { lost = lost_none old nodes node; whole = whole };
  led = record {
    inside = fits;
    way = way_self nodes node a.tree some fits;
    firsts = λ n on w ne. (let b = way_below nodes node n a.tree fits on in let c = way_below nodes n node a.tree (omega arith) w in absurd (ne (omega arith)));
  };
}
  where
    whole : (n : ℕ) → n ≤ length nodes → on_way nodes n node ≡ true → n ≢ node → has_record old n ≡ true → has_record old (parent nodes n) ≡ true
    whole n f w ne has = a.live (parent nodes n) no_row (parent_fits nodes n a.tree f) ∙ of (eqb_tells (parent nodes n) 0)
      where
        of : (((parent nodes n == 0) ≡ true) × (parent nodes n ≡ 0)) ⊎ (((parent nodes n == 0) ≡ false) × (parent nodes n ≢ 0)) → alive nodes (parent nodes n) ≡ true
        of (inl e) = (let z = some_way nodes (parent nodes n) node (up_way nodes n node a.tree f w ne) in let k = e.1 in absurd (omega arith))
        of (inr e) = ap (λ b. b || alive nodes (parent nodes n)) (sym e.0) ∙ a.whole n (sym (a.live n no_row f) ∙ has)

-- a step down, to the first child
pub walk_down : (old now : List Row) (nodes : List Node) (node at c gone : ℕ) → AreNodes old nodes → AreLinked now → Walking old now nodes node at gone → c ≡ first_of now at → 0 < c
    → Walking old now nodes node c gone
walk_down old now nodes node at c gone a linked h is some = record {
  dropped = h.dropped;
  led = record {
    inside = fits;
    way = down_way nodes c node a.tree some fits (ap (λ x. on_way nodes x node) parent_is ∙ h.led.way);
    firsts = λ n on w ne. next n on w ne (eqb_tells n c);
  };
}
  where
    there : (first_of now at < length now) × (parent_of now (first_of now at) ≡ at)
    there = linked.first at (omega (arith, h.led.inside, h.dropped.lost.size, a.size)) (omega (arith, is, some))

    fits : c ≤ length nodes
    fits = omega (arith, is, there.0, h.dropped.lost.size, a.size)

    parent_is : parent nodes c ≡ at
    parent_is = sym (parent_stays old now nodes node gone c a h.dropped.lost fits) ∙ ap (parent_of now) is ∙ there.1

    next : (n : ℕ) → on_way nodes c n ≡ true → on_way nodes n node ≡ true → n ≢ node → (((n == c) ≡ true) × (n ≡ c)) ⊎ (((n == c) ≡ false) × (n ≢ c)) → first_of now (parent nodes n) ≡ n
    next n on w ne (inl e) = ap (λ x. first_of now (parent nodes x)) e.1 ∙ ap (first_of now) parent_is ∙ sym is ∙ sym e.1
    next n on w ne (inr e) = h.led.firsts n (ap (λ x. on_way nodes x n) (sym parent_is) ∙ sym (way_same nodes c n a.tree some fits e.1) ∙ on) w ne

-- A record goes, of a node that has no child left.
pub drop_here : (old now : List Row) (nodes : List Node) (node at gone : ℕ) → AreNodes old nodes → AreLinked now → Walking old now nodes node at gone → first_of now at ≡ 0
    → Dropped old (emptied_at now at) nodes node (gone + one_if (has_record now at))
drop_here old now nodes node at gone a linked h none = record {
  lost = lost_here old now nodes node at gone a h.dropped.lost h.led.inside h.led.way;
  whole = whole;
}
  where
    r : Row
    r = emptied (slice_index_or now at no_row)

    inside : at < length now
    inside = omega (arith, h.led.inside, h.dropped.lost.size, a.size)

    whole : (n : ℕ) → n ≤ length nodes → on_way nodes n node ≡ true → n ≢ node → has_record (slice_set now at r) n ≡ true → has_record (slice_set now at r) (parent nodes n) ≡ true
    whole n f w ne has = (
        let was : has_record now n ≡ true = record_before now at r n inside (λ z. cc) has in
        let under_at : parent nodes n ≢ at = (λ e. (let up : parent_of now n ≡ at = parent_stays old now nodes node gone n a h.dropped.lost f ∙ e in
        let first : first_of now (parent_of now n) ≡ 0 = ap (first_of now) up ∙ none in
        let some = some_way nodes n node w in
        let z = sym (linked.past n some (omega (arith, f, h.dropped.lost.size, a.size)) (omega (arith, first, some))) ∙ was in cc)) in
        record_elsewhere now at r (parent nodes n) under_at ∙ h.dropped.whole n f w ne was)

-- Then it is taken off its parent, of which the next child is the first, and the walk goes up.

abbrev pub off_at : List Row → ℕ → ℕ → List Row
off_at now at p = unlinked (emptied_at now at) p (next_of (emptied_at now at) at)

-- What is known of the rows after that, where p is the parent.
pub record IsOff (old now : List Row) (nodes : List Node) (node at gone p : ℕ) : Type 0 where
  pub inside : p < length now
  pub size : length (off_at now at p) ≡ length now
  pub linked : AreLinked (off_at now at p)
  pub walking : Walking old (off_at now at p) nodes node p (gone + one_if (has_record now at))

pub walk_up : (old now : List Row) (nodes : List Node) (node at gone p : ℕ) → AreNodes old nodes → AreLinked now → Walking old now nodes node at gone → first_of now at ≡ 0 → at ≢ node → p ≡ parent_of (emptied_at now at) at
    → IsOff old now nodes node at gone p
walk_up old now nodes node at gone p a linked h none ne is = record {
  inside = fits;
  size = set_length empty p (record (slice_index_or empty p no_row) { first = next_of empty at }) ∙ size;
  linked = linked_off empty p at (linked_emptied now at linked inside) fits_empty first some (emptied_there now at at inside refl);
  walking = record {
    dropped = record {
      lost = lost_off old empty nodes node (gone + one_if (has_record now at)) p (next_of empty at) fits_empty after.lost;
      whole = λ n f w other has. record_off empty p (next_of empty at) fits_empty (parent nodes n) ∙ after.whole n f w other (sym (record_off empty p (next_of empty at) fits_empty n) ∙ has);
    };
    led = record {
      inside = (let f = parent_fits nodes at a.tree led in let e = parent_is in omega arith);
      way = ap (λ x. on_way nodes x node) parent_is ∙ up_way nodes at node a.tree led h.led.way ne;
      firsts = λ n on w other. (
          let on_parent : on_way nodes (parent nodes at) n ≡ true = ap (λ x. on_way nodes x n) (sym parent_is) ∙ on in
          let through : on_way nodes at n ≡ true = down_way nodes at n a.tree some led on_parent in
          let f = parent_fits nodes at a.tree led in
          let e = parent_is in
          let older = way_below nodes p n a.tree (omega arith) on in
          let below = parent_below nodes n a.tree (some_way nodes n node w) (omega arith) in
          first_elsewhere empty p (next_of empty at) (parent nodes n) (λ z. omega arith) ∙ first_emptied now at (parent nodes n) inside ∙ h.led.firsts n through w other);
    };
  };
}
  where
    empty : List Row
    empty = emptied_at now at

    led : at ≤ length nodes
    led = h.led.inside

    some : 0 < at
    some = some_way nodes at node h.led.way

    inside : at < length now
    inside = omega (arith, led, h.dropped.lost.size, a.size)

    size : length empty ≡ length now
    size = set_length now at (emptied (slice_index_or now at no_row))

    after : Dropped old empty nodes node (gone + one_if (has_record now at))
    after = drop_here old now nodes node at gone a linked h none

    parent_is : p ≡ parent nodes at
    parent_is = is ∙ parent_stays old empty nodes node (gone + one_if (has_record now at)) at a after.lost led

    fits : p < length now
    fits = omega (arith, parent_is, parent_fits nodes at a.tree led, h.dropped.lost.size, a.size)

    fits_empty : p < length empty
    fits_empty = omega (arith, fits, size)

    first : first_of empty p ≡ at
    first = first_emptied now at p inside ∙ ap (first_of now) parent_is ∙ h.led.firsts at (way_self nodes at a.tree some led) h.led.way ne

-- All went, once the node did.

none_left : (old now : List Row) (nodes : List Node) (node gone k n : ℕ) → AreNodes old nodes → Dropped old now nodes node gone → has_record now node ≡ false
    → n ≤ k → n ≤ length nodes → on_way nodes n node ≡ true → has_record now n ≡ true → ⊥
none_left old now nodes node gone zero n a h lacks within f w has = (let z = some_way nodes n node w in omega arith)
none_left old now nodes node gone (suc k) n a h lacks within f w has = of (eqb_tells n node) (λ less. none_left old now nodes node gone k (parent nodes n) a h lacks less)
  where
    of : (((n == node) ≡ true) × (n ≡ node)) ⊎ (((n == node) ≡ false) × (n ≢ node))
        → (parent nodes n ≤ k → parent nodes n ≤ length nodes → on_way nodes (parent nodes n) node ≡ true → has_record now (parent nodes n) ≡ true → ⊥) → ⊥
    of (inl e) up = (let z = sym lacks ∙ ap (has_record now) (sym e.1) ∙ has in cc)
    of (inr e) up = (let less = parent_below nodes n a.tree (some_way nodes n node w) f in
        up (omega arith) (parent_fits nodes n a.tree f) (up_way nodes n node a.tree f w e.1) (h.whole n f w e.1 has))

pub walk_ends : (old now : List Row) (nodes : List Node) (node gone : ℕ) → AreNodes old nodes → Dropped old now nodes node gone → has_record now node ≡ false → Drops gone old now nodes node
walk_ends old now nodes node gone a h lacks = lost_all old now nodes node gone (length nodes + 1) a h.lost
    (λ n less f w. false_by (has_record now n) (λ t. none_left old now nodes node gone n n a h lacks (omega arith) f w t)) (omega arith)
