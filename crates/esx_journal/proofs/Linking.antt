-- The links of nodes, as rows change.
use Rattle.std.proofs.Common.{◌≡◌, ◌≢◌, ℕ, zero, suc, ◌+◌, ◌<◌, ◌≤◌, ◌==◌, Bool, true, false, List, [], ◌∷◌, length, slice_set, slice_index_or, is_some, refl, sym, ap, ◌∙◌, arith, ◌⊎◌, inl, inr}
use Rattle.std.proofs.lemmas.Bool.Decides.{eqb_tells}
use Rattle.esx_machine.specs.Machine.{Back}
use Rattle.esx_journal.specs.Rows.{Row}
use Rattle.esx_journal.specs.Row.{row_of, with_child, grown}
use Rattle.esx_journal.specs.Children.{AreLinked, parent_of, has_record, first_of, next_of, no_row, unlinked}
use Rattle.esx_journal.proofs.Lists.{set_there, set_elsewhere, set_length, pushed_there, pushed_set, pushed_elsewhere, pushed_length}
use Rattle.esx_journal.proofs.Pruning.{false_by}

order : (a b : ℕ) → (a < b) ⊎ (b ≤ a)
order a zero = inr (omega arith)
order zero (suc b) = inl (omega arith)
order (suc a) (suc b) = next (order a b)
  where
    next : (a < b) ⊎ (b ≤ a) → (suc a < suc b) ⊎ (suc b ≤ suc a)
    next (inl h) = inl (omega arith)
    next (inr h) = inr (omega arith)

-- A row that changes.

-- what a changed row has as before, each row has as before
pub part_set : {B : Type 0} (part : Row → B) (rows : List Row) (at : ℕ) (r : Row) (n : ℕ) → at < length rows → part r ≡ part (slice_index_or rows at no_row)
    → part (slice_index_or (slice_set rows at r) n no_row) ≡ part (slice_index_or rows n no_row)
part_set part rows at r n fits same = of (eqb_tells n at)
  where
    of : (((n == at) ≡ true) × (n ≡ at)) ⊎ (((n == at) ≡ false) × (n ≢ at)) → part (slice_index_or (slice_set rows at r) n no_row) ≡ part (slice_index_or rows n no_row)
    of (inl e) = ap part (set_there rows at n r no_row fits e.1) ∙ same ∙ ap (λ k. part (slice_index_or rows k no_row)) (sym e.1)
    of (inr e) = ap part (set_elsewhere rows at n r no_row e.1)

pub record_there : (rows : List Row) (at : ℕ) (r : Row) (n : ℕ) → at < length rows → n ≡ at → has_record (slice_set rows at r) n ≡ is_some r.back
record_there rows at r n fits e = ap (λ (x : Row). is_some x.back) (set_there rows at n r no_row fits e)

pub record_elsewhere : (rows : List Row) (at : ℕ) (r : Row) (n : ℕ) → n ≢ at → has_record (slice_set rows at r) n ≡ has_record rows n
record_elsewhere rows at r n e = ap (λ (x : Row). is_some x.back) (set_elsewhere rows at n r no_row e)

pub record_before : (rows : List Row) (at : ℕ) (r : Row) (n : ℕ) → at < length rows → (is_some r.back ≡ true → has_record rows at ≡ true) → has_record (slice_set rows at r) n ≡ true → has_record rows n ≡ true
record_before rows at r n fits less h = of (eqb_tells n at)
  where
    of : (((n == at) ≡ true) × (n ≡ at)) ⊎ (((n == at) ≡ false) × (n ≢ at)) → has_record rows n ≡ true
    of (inl e) = ap (has_record rows) e.1 ∙ less (sym (record_there rows at r n fits e.1) ∙ h)
    of (inr e) = sym (record_elsewhere rows at r n e.1) ∙ h

none_before : (a b : Bool) → (a ≡ true → b ≡ true) → b ≡ false → a ≡ false
none_before a b less h = false_by a (λ t. (let z = sym h ∙ less t in cc))

-- a row is linked as another, and has no record if that has none
pub record IsLinkedAs (r old : Row) : Type 0 where
  pub up : r.parent ≡ old.parent
  pub first : r.first ≡ old.first
  pub next : r.next ≡ old.next
  pub less : is_some r.back ≡ true → is_some old.back ≡ true

pub linked_set : (rows : List Row) (at : ℕ) (r : Row) → AreLinked rows → at < length rows → IsLinkedAs r (slice_index_or rows at no_row) → AreLinked (slice_set rows at r)
linked_set rows at r h fits alike = record {
  older = λ n some f. (let e = up n in let o = h.older n some (omega (arith, same, f)) in omega arith);
  first = λ p f some. (let o = h.first p (omega (arith, same, f)) (omega (arith, first p, some)) in
      (omega (arith, same, first p, o.0), up (first_of (slice_set rows at r) p) ∙ ap (parent_of rows) (first p) ∙ o.1));
  next = λ c f some. (let o = h.next c (omega (arith, same, f)) (omega (arith, next c, some)) in
      (omega (arith, next c, o.0), up (next_of (slice_set rows at r) c) ∙ ap (parent_of rows) (next c) ∙ o.1 ∙ sym (up c)));
  past = λ c some f beyond. (let e : first_of (slice_set rows at r) (parent_of (slice_set rows at r) c) ≡ first_of rows (parent_of rows c)
      = first (parent_of (slice_set rows at r) c) ∙ ap (first_of rows) (up c) in
      none_before (has_record (slice_set rows at r) c) (has_record rows c) (record_before rows at r c fits alike.less) (h.past c some (omega (arith, same, f)) (omega (arith, e, beyond))));
  between = λ c b f some more fewer same_parent.
      none_before (has_record (slice_set rows at r) b) (has_record rows b) (record_before rows at r b fits alike.less)
      (h.between c b (omega (arith, same, f)) some (omega (arith, next c, more)) fewer (sym (up b) ∙ same_parent ∙ up c));
}
  where
    same : length (slice_set rows at r) ≡ length rows
    same = set_length rows at r

    up : (n : ℕ) → parent_of (slice_set rows at r) n ≡ parent_of rows n
    up n = part_set (λ x. x.parent) rows at r n fits alike.up

    first : (n : ℕ) → first_of (slice_set rows at r) n ≡ first_of rows n
    first n = part_set (λ x. x.first) rows at r n fits alike.first

    next : (n : ℕ) → next_of (slice_set rows at r) n ≡ next_of rows n
    next n = part_set (λ x. x.next) rows at r n fits alike.next

-- The first child of a node is taken off.

pub first_there : (rows : List Row) (p next n : ℕ) → p < length rows → n ≡ p → first_of (unlinked rows p next) n ≡ next
first_there rows p next n fits e = ap (λ (x : Row). x.first) (set_there rows p n (record (slice_index_or rows p no_row) { first = next }) no_row fits e)

pub first_elsewhere : (rows : List Row) (p next n : ℕ) → n ≢ p → first_of (unlinked rows p next) n ≡ first_of rows n
first_elsewhere rows p next n e = ap (λ (x : Row). x.first) (set_elsewhere rows p n (record (slice_index_or rows p no_row) { first = next }) no_row e)

pub record_off : (rows : List Row) (p next : ℕ) → p < length rows → (n : ℕ) → has_record (unlinked rows p next) n ≡ has_record rows n
record_off rows p next fits n = part_set (λ x. is_some x.back) rows p (record (slice_index_or rows p no_row) { first = next }) n fits refl

-- another child, or none, is the first of a node, and no child past it has a record
pub linked_first : (rows : List Row) (p next : ℕ) → AreLinked rows → p < length rows → (0 < next → (next < length rows) × (parent_of rows next ≡ p))
    → ((b : ℕ) → 0 < b → b < length rows → parent_of rows b ≡ p → next < b → has_record rows b ≡ false) → AreLinked (unlinked rows p next)
linked_first rows p next h fits child gone = record {
  older = λ n more f. (let e = up n in let o = h.older n more (omega (arith, same, f)) in omega arith);
  first = λ q f more. first q (omega (arith, same, f)) more (eqb_tells q p);
  next = λ b f more. (let e = after b in let o = h.next b (omega (arith, same, f)) (omega arith) in
      ((let u = o.0 in omega arith), up (next_of less b) ∙ ap (parent_of rows) e ∙ o.1 ∙ sym (up b)));
  past = λ b more f beyond. record_off rows p next fits b ∙ past b more (omega (arith, same, f)) (ap (first_of less) (up b)) beyond (eqb_tells (parent_of rows b) p);
  between = λ a b f more above before alike. (let e = after a in record_off rows p next fits b ∙ h.between a b (omega (arith, same, f)) more (omega arith) before (sym (up b) ∙ alike ∙ up a));
}
  where
    less : List Row
    less = unlinked rows p next

    same : length less ≡ length rows
    same = set_length rows p (record (slice_index_or rows p no_row) { first = next })

    up : (n : ℕ) → parent_of less n ≡ parent_of rows n
    up n = part_set (λ x. x.parent) rows p (record (slice_index_or rows p no_row) { first = next }) n fits refl

    after : (n : ℕ) → next_of less n ≡ next_of rows n
    after n = part_set (λ x. x.next) rows p (record (slice_index_or rows p no_row) { first = next }) n fits refl

    first : (q : ℕ) → q < length rows → 0 < first_of less q → (((q == p) ≡ true) × (q ≡ p)) ⊎ (((q == p) ≡ false) × (q ≢ p))
        → (first_of less q < length less) × (parent_of less (first_of less q) ≡ q)
    first q f more (inl e) = (
        let n : first_of less q ≡ next = first_there rows p next q fits e.1 in
        let o = child (omega (arith, n, more)) in
        (omega (arith, same, n, o.0), up (first_of less q) ∙ ap (parent_of rows) n ∙ o.1 ∙ sym e.1))
    first q f more (inr e) = (
        let n : first_of less q ≡ first_of rows q = first_elsewhere rows p next q e.1 in
        let o = h.first q f (omega (arith, n, more)) in
        (omega (arith, same, n, o.0), up (first_of less q) ∙ ap (parent_of rows) n ∙ o.1))

    past : (b : ℕ) → 0 < b → b < length rows → first_of less (parent_of less b) ≡ first_of less (parent_of rows b) → first_of less (parent_of less b) < b
        → (((parent_of rows b == p) ≡ true) × (parent_of rows b ≡ p)) ⊎ (((parent_of rows b == p) ≡ false) × (parent_of rows b ≢ p)) → has_record rows b ≡ false
    past b more f at beyond (inl e) = (let n : first_of less (parent_of rows b) ≡ next = first_there rows p next (parent_of rows b) fits e.1 in
        gone b more f e.1 (omega (arith, at, n, beyond)))
    past b more f at beyond (inr e) = (let n : first_of less (parent_of rows b) ≡ first_of rows (parent_of rows b) = first_elsewhere rows p next (parent_of rows b) e.1 in
        h.past b more f (omega (arith, at, n, beyond)))

-- the first child is taken off, once it has no record
pub linked_off : (rows : List Row) (p c : ℕ) → AreLinked rows → p < length rows → first_of rows p ≡ c → 0 < c → has_record rows c ≡ false → AreLinked (unlinked rows p (next_of rows c))
linked_off rows p c h fits is some lacks = linked_first rows p (next_of rows c) h fits child gone
  where
    there : (first_of rows p < length rows) × (parent_of rows (first_of rows p) ≡ p)
    there = h.first p fits (omega (arith, is, some))

    inside : c < length rows
    inside = omega (arith, is, there.0)

    up_is : parent_of rows c ≡ p
    up_is = ap (parent_of rows) (sym is) ∙ there.1

    child : 0 < next_of rows c → (next_of rows c < length rows) × (parent_of rows (next_of rows c) ≡ p)
    child more = (let o = h.next c inside more in (omega (arith, o.0, inside), o.1 ∙ up_is))

    gone : (b : ℕ) → 0 < b → b < length rows → parent_of rows b ≡ p → next_of rows c < b → has_record rows b ≡ false
    gone b more f up beyond = of (order c b) (eqb_tells b c)
      where
        of : (c < b) ⊎ (b ≤ c) → (((b == c) ≡ true) × (b ≡ c)) ⊎ (((b == c) ≡ false) × (b ≢ c)) → has_record rows b ≡ false
        of (inr l) (inl s) = ap (has_record rows) s.1 ∙ lacks
        of (inr l) (inr s) = (let k = s.1 in h.between c b inside more beyond (omega arith) (up ∙ sym up_is))
        of (inl l) s = (let q : first_of rows (parent_of rows b) ≡ c = ap (first_of rows) up ∙ is in h.past b more f (omega (arith, q, l)))

-- A node is added.

pub linked_grown : (rows : List Row) (at : ℕ) (b : Back) → AreLinked rows → at < length rows → AreLinked (grown rows at b no_row)
linked_grown rows at b h fits = record {
  older = λ n some f. older n some (newest n (omega (arith, length_is, f)));
  first = λ p f some. first p some (newest p (omega (arith, length_is, f))) (eqb_tells p at);
  next = λ c f some. next c some (newest c (omega (arith, length_is, f)));
  past = λ c some f beyond. past c some (newest c (omega (arith, length_is, f))) (eqb_tells (parent_of after c) at) beyond;
  between = λ c d f some more fewer same. between c d some more fewer same (newest c (omega (arith, length_is, f)));
}
  where
    after : List Row
    after = grown rows at b no_row

    n : ℕ
    n = length rows

    new : Row
    new = row_of at b (first_of rows at)

    above : Row
    above = with_child (slice_index_or rows at no_row) n

    length_is : length after ≡ n + 1
    length_is = pushed_length rows at new above

    newest : (k : ℕ) → k < n + 1 → (k ≡ n) ⊎ (k < n)
    newest k f = of (eqb_tells k n)
      where
        of : (((k == n) ≡ true) × (k ≡ n)) ⊎ (((k == n) ≡ false) × (k ≢ n)) → (k ≡ n) ⊎ (k < n)
        of (inl e) = inl e.1
        of (inr e) = inr (let z = e.1 in omega arith)

    row_new : (k : ℕ) → k ≡ n → slice_index_or after k no_row ≡ new
    row_new k e = pushed_there rows at k new above no_row fits e

    -- what the parent has as before, each old row has as before
    part_old : {B : Type 0} (part : Row → B) (k : ℕ) → k < n → part above ≡ part (slice_index_or rows at no_row) → part (slice_index_or after k no_row) ≡ part (slice_index_or rows k no_row)
    part_old part k f same = of (eqb_tells k at)
      where
        of : (((k == at) ≡ true) × (k ≡ at)) ⊎ (((k == at) ≡ false) × (k ≢ at)) → part (slice_index_or after k no_row) ≡ part (slice_index_or rows k no_row)
        of (inl e) = ap part (pushed_set rows at k new above no_row fits e.1) ∙ same ∙ ap (λ i. part (slice_index_or rows i no_row)) (sym e.1)
        of (inr e) = ap part (pushed_elsewhere rows at k new above no_row f e.1)

    parent_new : (k : ℕ) → k ≡ n → parent_of after k ≡ at
    parent_new k e = ap (λ (x : Row). x.parent) (row_new k e)

    parent_old : (k : ℕ) → k < n → parent_of after k ≡ parent_of rows k
    parent_old k f = part_old (λ x. x.parent) k f refl

    record_old : (k : ℕ) → k < n → has_record after k ≡ has_record rows k
    record_old k f = part_old (λ x. is_some x.back) k f refl

    next_new : (k : ℕ) → k ≡ n → next_of after k ≡ first_of rows at
    next_new k e = ap (λ (x : Row). x.next) (row_new k e)

    next_old : (k : ℕ) → k < n → next_of after k ≡ next_of rows k
    next_old k f = part_old (λ x. x.next) k f refl

    first_at : (k : ℕ) → k ≡ at → first_of after k ≡ n
    first_at k e = ap (λ (x : Row). x.first) (pushed_set rows at k new above no_row fits e)

    first_new : (k : ℕ) → k ≡ n → first_of after k ≡ 0
    first_new k e = ap (λ (x : Row). x.first) (row_new k e)

    first_old : (k : ℕ) → k < n → k ≢ at → first_of after k ≡ first_of rows k
    first_old k f e = ap (λ (x : Row). x.first) (pushed_elsewhere rows at k new above no_row f e)

    older : (k : ℕ) → 0 < k → (k ≡ n) ⊎ (k < n) → parent_of after k < k
    older k some (inl e) = (let p = parent_new k e in omega (arith, p, e, fits))
    older k some (inr f) = (let p = parent_old k f in let o = h.older k some f in omega (arith, p, o))

    first : (p : ℕ) → 0 < first_of after p → (p ≡ n) ⊎ (p < n) → (((p == at) ≡ true) × (p ≡ at)) ⊎ (((p == at) ≡ false) × (p ≢ at))
        → (first_of after p < length after) × (parent_of after (first_of after p) ≡ p)
    first p some (inl e) which = absurd (omega (arith, first_new p e, some))
    first p some (inr f) (inl e) = (let q = first_at p e.1 in (omega (arith, q, length_is), parent_new (first_of after p) q ∙ sym e.1))
    first p some (inr f) (inr e) = (
        let q = first_old p f e.1 in
        let o = h.first p f (omega (arith, q, some)) in
        let inside : first_of after p < n = omega (arith, q, o.0) in
        (omega (arith, inside, length_is), parent_old (first_of after p) inside ∙ ap (parent_of rows) q ∙ o.1))

    next : (c : ℕ) → 0 < next_of after c → (c ≡ n) ⊎ (c < n) → (next_of after c < c) × (parent_of after (next_of after c) ≡ parent_of after c)
    next c some (inl e) = (
        let q = next_new c e in
        let o = h.first at fits (omega (arith, q, some)) in
        let inside : next_of after c < n = omega (arith, q, o.0) in
        (omega (arith, inside, e), parent_old (next_of after c) inside ∙ ap (parent_of rows) q ∙ o.1 ∙ sym (parent_new c e)))
    next c some (inr f) = (
        let q = next_old c f in
        let o = h.next c f (omega (arith, q, some)) in
        let inside : next_of after c < n = omega (arith, q, o.0, f) in
        (omega (arith, q, o.0), parent_old (next_of after c) inside ∙ ap (parent_of rows) q ∙ o.1 ∙ sym (parent_old c f)))

    past : (c : ℕ) → 0 < c → (c ≡ n) ⊎ (c < n) → (((parent_of after c == at) ≡ true) × (parent_of after c ≡ at)) ⊎ (((parent_of after c == at) ≡ false) × (parent_of after c ≢ at))
        → first_of after (parent_of after c) < c → has_record after c ≡ false
    past c some (inl e) which beyond = absurd (omega (arith, first_at (parent_of after c) (parent_new c e), beyond, e))
    past c some (inr f) (inl e) beyond = absurd (omega (arith, first_at (parent_of after c) e.1, beyond, f))
    past c some (inr f) (inr e) beyond = (
        let up = parent_old c f in
        let o = h.older c some f in
        let q : first_of after (parent_of after c) ≡ first_of rows (parent_of rows c) = first_old (parent_of after c) (omega (arith, up, o, f)) e.1 ∙ ap (first_of rows) up in
        record_old c f ∙ h.past c some f (omega (arith, q, beyond)))

    between : (c d : ℕ) → 0 < d → next_of after c < d → d < c → parent_of after d ≡ parent_of after c → (c ≡ n) ⊎ (c < n) → has_record after d ≡ false
    between c d some more fewer same (inl e) = (
        let f : d < n = omega (arith, fewer, e) in
        let up : parent_of rows d ≡ at = sym (parent_old d f) ∙ same ∙ parent_new c e in
        let q : first_of rows (parent_of rows d) ≡ next_of after c = ap (first_of rows) up ∙ sym (next_new c e) in
        record_old d f ∙ h.past d some f (omega (arith, q, more)))
    between c d some more fewer same (inr f) = (
        let g : d < n = omega (arith, fewer, f) in
        record_old d g ∙ h.between c d f some (omega (arith, next_old c f, more)) fewer (sym (parent_old d g) ∙ same ∙ parent_old c f))

-- the opening has no links
pub linked_opening : AreLinked (no_row ∷ [])
linked_opening = record {
  older = λ n some f. absurd (omega (arith, some, f));
  first = λ p f some. absurd (no_first p (omega (arith, f)) some);
  next = λ c f some. absurd (no_next c (omega (arith, f)) some);
  past = λ c some f beyond. absurd (omega (arith, some, f));
  between = λ c b f some more fewer same. absurd (omega (arith, some, fewer, f));
}
  where
    no_first : (p : ℕ) → p ≡ 0 → 0 < first_of (no_row ∷ []) p → ⊥
    no_first p e some = (let z : first_of (no_row ∷ []) p ≡ 0 = ap (first_of (no_row ∷ [])) e in omega arith)

    no_next : (c : ℕ) → c ≡ 0 → 0 < next_of (no_row ∷ []) c → ⊥
    no_next c e some = (let z : next_of (no_row ∷ []) c ≡ 0 = ap (next_of (no_row ∷ [])) e in omega arith)
