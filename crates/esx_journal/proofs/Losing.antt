-- The records that are lost.
use Rattle.std.proofs.Common.{◌≡◌, ◌≢◌, ℕ, zero, suc, ◌+◌, ◌<◌, ◌≤◌, ◌==◌, ◌&&◌, Bool, true, false, not, cond, List, length, slice_set, slice_index_or, is_some, refl, sym, ap, ◌∙◌, arith, Option, Some, None, ◌⊎◌, inl, inr}
use Rattle.std.proofs.lemmas.Bool.Decides.{eqb_tells}
use Rattle.esx_machine.specs.Machine.{Back}
use Rattle.esx_model.specs.Tree.{Node, parent, alive, on_way, IsTree}
use Rattle.esx_journal.specs.Rows.{Row}
use Rattle.esx_journal.specs.Row.{AreNodes, IsLeft, Lost, Drops, emptied, bare, standing}
use Rattle.esx_journal.specs.Children.{AreLinked, parent_of, has_record, first_of, no_row, unlinked}
use Rattle.esx_journal.proofs.Lists.{set_there, set_elsewhere, set_length, any_default}
use Rattle.esx_journal.proofs.Paths.{parent_fits, way_child, way_same, way_zero, alive_zero}
use Rattle.esx_journal.proofs.Linking.{part_set, linked_set, record_there, record_elsewhere, record_off}
use Rattle.esx_journal.proofs.Pruning.{under, under_all, under_most, and_false, or_true}

abbrev pub one_if : Bool → ℕ
one_if b = cond b 1 0

none_back : (o : Option Back) → is_some o ≡ false → o ≡ None
none_back None h = refl
none_back (Some b) h = cc

-- a row without a record is empty already
emptied_is : (r : Row) → is_some r.back ≡ false → emptied r ≡ r
emptied_is r h = ap (λ (b : Option Back). record r { back = b }) (sym (none_back r.back h))

-- Parents stay.

pub parent_stays : (old now : List Row) (nodes : List Node) (node gone n : ℕ) → AreNodes old nodes → Lost gone old now nodes node → n ≤ length nodes → parent_of now n ≡ parent nodes n
parent_stays old now nodes node gone n a h fits = of (h.each n no_row fits) ∙ a.up n no_row fits
  where
    of : IsLeft (slice_index_or now n no_row) (slice_index_or old n no_row) (on_way nodes n node) → parent_of now n ≡ parent_of old n
    of (inl e) = ap (λ (r : Row). r.parent) e
    of (inr e) = ap (λ (r : Row). r.parent) e.0

-- each row's parent is a row
pub parent_inside : (old now : List Row) (nodes : List Node) (node gone n : ℕ) → AreNodes old nodes → Lost gone old now nodes node → n < length now → parent_of now n < length now
parent_inside old now nodes node gone n a h fits =
    let s = a.size in
    let t = h.size in
    let up = parent_stays old now nodes node gone n a h (omega arith) in
    let f = parent_fits nodes n a.tree (omega arith) in
    omega arith

pub some_way : (nodes : List Node) (n node : ℕ) → on_way nodes n node ≡ true → 0 < n
some_way nodes zero node w = (let z = sym (way_zero nodes node) ∙ w in cc)
some_way nodes (suc n) node w = omega arith

-- the way of a node below another goes on at its parent
pub up_way : (nodes : List Node) (n node : ℕ) → IsTree nodes → n ≤ length nodes → on_way nodes n node ≡ true → n ≢ node → on_way nodes (parent nodes n) node ≡ true
up_way nodes n node tree fits w ne = sym (way_same nodes n node tree (some_way nodes n node w) fits (λ e. ne (sym e))) ∙ w

pub down_way : (nodes : List Node) (n node : ℕ) → IsTree nodes → 0 < n → n ≤ length nodes → on_way nodes (parent nodes n) node ≡ true → on_way nodes n node ≡ true
down_way nodes n node tree some fits w = way_child nodes n node tree some fits ∙ or_true (node == n) (on_way nodes (parent nodes n) node) w

-- Rows that are counted, where one is emptied.

standing_early : (rows : List Row) (at : ℕ) (r : Row) (k : ℕ) → k ≤ at → standing (slice_set rows at r) k ≡ standing rows k
unfolding standing
standing_early rows at r zero h = refl
standing_early rows at r (suc k) h = ap (λ b. one_if b + standing (slice_set rows at r) k) (record_elsewhere rows at r k (λ e. omega arith)) ∙ ap (λ s. one_if (has_record rows k) + s) (standing_early rows at r k (omega arith))

standing_set : (rows : List Row) (at : ℕ) (r : Row) (k : ℕ) → at < length rows → at < k → is_some r.back ≡ false → standing (slice_set rows at r) k + one_if (has_record rows at) ≡ standing rows k
unfolding standing
standing_set rows at r zero fits h lacks = absurd (omega arith)
standing_set rows at r (suc k) fits h lacks = of (eqb_tells k at) (λ l. standing_set rows at r k fits l lacks)
  where
    of : (((k == at) ≡ true) × (k ≡ at)) ⊎ (((k == at) ≡ false) × (k ≢ at)) → (at < k → standing (slice_set rows at r) k + one_if (has_record rows at) ≡ standing rows k)
        → one_if (has_record (slice_set rows at r) k) + standing (slice_set rows at r) k + one_if (has_record rows at) ≡ one_if (has_record rows k) + standing rows k
    of (inl e) later = (
        let s = standing_early rows at r k (let z = e.1 in omega arith) in
        let now : one_if (has_record (slice_set rows at r) k) ≡ 0 = ap (λ b. one_if b) (record_there rows at r k fits e.1 ∙ lacks) in
        let was : one_if (has_record rows k) ≡ one_if (has_record rows at) = ap (λ n. one_if (has_record rows n)) e.1 in
        omega arith)
    of (inr e) later = (
        let s = later (let z = e.1 in omega arith) in
        let now : one_if (has_record (slice_set rows at r) k) ≡ one_if (has_record rows k) = ap (λ b. one_if b) (record_elsewhere rows at r k e.1) in
        omega arith)

standing_most : (rows : List Row) (k : ℕ) → has_record rows 0 ≡ false → standing rows (suc k) ≤ k
unfolding standing
standing_most rows zero lacks = (let z : one_if (has_record rows 0) ≡ 0 = ap (λ b. one_if b) lacks in omega arith)
standing_most rows (suc k) lacks = (let i = standing_most rows k lacks in let z = one (has_record rows (suc k)) in omega arith)
  where
    one : (b : Bool) → one_if b ≤ 1
    one true = omega arith
    one false = omega arith

standing_same : (a b : List Row) (k : ℕ) → ((n : ℕ) → has_record a n ≡ has_record b n) → standing a k ≡ standing b k
unfolding standing
standing_same a b zero h = refl
standing_same a b (suc k) h = ap (λ x. one_if x + standing a k) (h k) ∙ ap (λ s. one_if (has_record b k) + s) (standing_same a b k h)

-- no more are lost than there are nodes
pub lost_most : (old now : List Row) (nodes : List Node) (node gone : ℕ) → AreNodes old nodes → Lost gone old now nodes node → gone ≤ length nodes
lost_most old now nodes node gone a h =
    let e : length nodes + 1 ≡ suc (length nodes) = omega arith in
    let most = standing_most old (length nodes) (a.live 0 no_row (omega arith) ∙ alive_zero nodes) in
    let same = ap (standing old) e in
    let c = h.count in
    omega arith

-- A record is lost.

abbrev pub emptied_at : List Row → ℕ → List Row
emptied_at rows at = slice_set rows at (emptied (slice_index_or rows at no_row))

pub linked_emptied : (rows : List Row) (at : ℕ) → AreLinked rows → at < length rows → AreLinked (emptied_at rows at)
linked_emptied rows at h fits = linked_set rows at (emptied (slice_index_or rows at no_row)) h fits (record { up = refl; first = refl; next = refl; less = λ z. cc })

pub emptied_there : (rows : List Row) (at n : ℕ) → at < length rows → n ≡ at → has_record (emptied_at rows at) n ≡ false
emptied_there rows at n fits e = record_there rows at (emptied (slice_index_or rows at no_row)) n fits e

pub first_emptied : (rows : List Row) (at n : ℕ) → at < length rows → first_of (emptied_at rows at) n ≡ first_of rows n
first_emptied rows at n fits = part_set (λ x. x.first) rows at (emptied (slice_index_or rows at no_row)) n fits refl

pub lost_none : (old : List Row) (nodes : List Node) (node : ℕ) → Lost 0 old old nodes node
lost_none old nodes node = record { size = refl; each = λ n d f. inl refl; count = omega arith }

pub lost_here : (old now : List Row) (nodes : List Node) (node at gone : ℕ) → AreNodes old nodes → Lost gone old now nodes node → at ≤ length nodes → on_way nodes at node ≡ true
    → Lost (gone + one_if (has_record now at)) old (emptied_at now at) nodes node
lost_here old now nodes node at gone a h within on = record {
  size = set_length now at r ∙ h.size;
  each = λ n d f. of n d f (eqb_tells n at) (h.each n d f);
  count = (let s = standing_set now at r (length nodes + 1) inside (omega (arith, within)) refl in let c = h.count in omega arith);
}
  where
    r : Row
    r = emptied (slice_index_or now at no_row)

    inside : at < length now
    inside = omega (arith, within, h.size, a.size)

    of : (n : ℕ) (d : Row) → n ≤ length nodes → (((n == at) ≡ true) × (n ≡ at)) ⊎ (((n == at) ≡ false) × (n ≢ at))
        → IsLeft (slice_index_or now n d) (slice_index_or old n d) (on_way nodes n node) → IsLeft (slice_index_or (slice_set now at r) n d) (slice_index_or old n d) (on_way nodes n node)
    of n d f (inr e) (inl was) = inl (ap bare (set_elsewhere now at n r d e.1) ∙ was)
    of n d f (inr e) (inr was) = inr (ap bare (set_elsewhere now at n r d e.1) ∙ was.0, was.1)
    of n d f (inl e) was = inr (
      ap bare (set_there now at n r d inside e.1) ∙ ap (λ (x : Row). bare (emptied x)) (any_default now at no_row d inside ∙ ap (λ x. slice_index_or now x d) (sym e.1)) ∙ once was,
      ap (λ x. on_way nodes x node) e.1 ∙ on,
    )
      where
        once : IsLeft (slice_index_or now n d) (slice_index_or old n d) (on_way nodes n node) → bare (emptied (slice_index_or now n d)) ≡ bare (emptied (slice_index_or old n d))
        once (inl q) = ap (λ (x : Row). emptied x) q
        once (inr q) = ap (λ (x : Row). emptied x) q.0

-- Children that a row leads to are no loss.

pub lost_off : (old now : List Row) (nodes : List Node) (node gone p next : ℕ) → p < length now → Lost gone old now nodes node → Lost gone old (unlinked now p next) nodes node
lost_off old now nodes node gone p next fits h = record {
  size = set_length now p r ∙ h.size;
  each = λ n d f. of n d (h.each n d f);
  count = (let s = standing_same (unlinked now p next) now (length nodes + 1) (record_off now p next fits) in let c = h.count in omega arith);
}
  where
    r : Row
    r = record (slice_index_or now p no_row) { first = next }

    rest : (n : ℕ) (d : Row) → (((n == p) ≡ true) × (n ≡ p)) ⊎ (((n == p) ≡ false) × (n ≢ p)) → bare (slice_index_or (unlinked now p next) n d) ≡ bare (slice_index_or now n d)
    rest n d (inl e) = ap bare (set_there now p n r d fits e.1) ∙ ap bare (any_default now p no_row d fits ∙ ap (λ x. slice_index_or now x d) (sym e.1))
    rest n d (inr e) = ap bare (set_elsewhere now p n r d e.1)

    of : (n : ℕ) (d : Row) → IsLeft (slice_index_or now n d) (slice_index_or old n d) (on_way nodes n node) → IsLeft (slice_index_or (unlinked now p next) n d) (slice_index_or old n d) (on_way nodes n node)
    of n d (inl was) = inl (rest n d (eqb_tells n p) ∙ was)
    of n d (inr was) = inr (rest n d (eqb_tells n p) ∙ was.0, was.1)

-- All are lost.

-- neither the node nor any below it has a record, as far as a number
abbrev pub AreGone : List Row → List Node → ℕ → ℕ → Type 0
AreGone now nodes node upto = (n : ℕ) → n < upto → n ≤ length nodes → on_way nodes n node ≡ true → has_record now n ≡ false

pub lost_all : (old now : List Row) (nodes : List Node) (node gone upto : ℕ) → AreNodes old nodes → Lost gone old now nodes node → AreGone now nodes node upto → length nodes < upto → Drops gone old now nodes node
unfolding standing under
lost_all old now nodes node gone upto a h gone_all far = record {
  size = h.size;
  count = (let s = split (length nodes + 1) (omega arith) in let c = h.count in let u = under_all nodes node in omega arith);
  each = λ n d f. of n d f (on_way nodes n node) refl (h.each n d f);
}
  where
    off : (n : ℕ) → n ≤ length nodes → on_way nodes n node ≡ true → has_record now n ≡ false
    off n f w = gone_all n (omega arith) f w

    of : (n : ℕ) (d : Row) → n ≤ length nodes → (b : Bool) → on_way nodes n node ≡ b → IsLeft (slice_index_or now n d) (slice_index_or old n d) (on_way nodes n node)
        → bare (slice_index_or now n d) ≡ bare (cond (on_way nodes n node) (emptied (slice_index_or old n d)) (slice_index_or old n d))
    of n d f true w (inl q) = (
        let s = a.size in
        let t = h.size in
        let gone_now : is_some (slice_index_or now n d).back ≡ false = ap (λ (x : Row). is_some x.back) (any_default now n d no_row (omega arith)) ∙ off n f w in
        q ∙ sym (ap bare (emptied_is (slice_index_or old n d) (ap (λ (x : Row). is_some x.back) (sym q) ∙ gone_now))) ∙ sym (ap (λ b. bare (cond b (emptied (slice_index_or old n d)) (slice_index_or old n d))) w))
    of n d f true w (inr q) = q.0 ∙ sym (ap (λ b. bare (cond b (emptied (slice_index_or old n d)) (slice_index_or old n d))) w)
    of n d f false w (inl q) = q ∙ sym (ap (λ b. bare (cond b (emptied (slice_index_or old n d)) (slice_index_or old n d))) w)
    of n d f false w (inr q) = (let z = sym w ∙ q.1 in cc)

    after : (n : ℕ) → n ≤ length nodes → (b : Bool) → on_way nodes n node ≡ b → has_record now n ≡ (alive nodes n && not b)
    after n f true w = off n f w ∙ sym (and_false (alive nodes n))
    after n f false w = ap (λ (x : Row). is_some x.back) (of n no_row f false w (h.each n no_row f) ∙ ap (λ b. bare (cond b (emptied (slice_index_or old n no_row)) (slice_index_or old n no_row))) w)
        ∙ a.live n no_row f ∙ and_true (alive nodes n)
      where
        and_true : (x : Bool) → x ≡ (x && true)
        and_true true = refl
        and_true false = refl

    parts : (x w : Bool) (s u t : ℕ) → s + u ≡ t → one_if (x && not w) + s + (one_if (x && w) + u) ≡ one_if x + t
    parts true true s u t e = omega arith
    parts true false s u t e = omega arith
    parts false w s u t e = omega arith

    split : (k : ℕ) → k ≤ length nodes + 1 → standing now k + under nodes node k ≡ standing old k
    split zero f = refl
    split (suc k) f = ap (λ b. one_if b + standing now k + (one_if (alive nodes k && on_way nodes k node) + under nodes node k)) (after k (omega arith) (on_way nodes k node) refl)
        ∙ parts (alive nodes k) (on_way nodes k node) (standing now k) (under nodes node k) (standing old k) (split k (omega arith))
        ∙ ap (λ b. one_if b + standing old k) (sym (a.live k no_row (omega arith)))

-- no more are dropped than there are nodes
pub drops_most : (old new : List Row) (nodes : List Node) (node gone : ℕ) → Drops gone old new nodes node → gone ≤ length nodes
drops_most old new nodes node gone h =
    let e : length nodes + 1 ≡ suc (length nodes) = omega arith in
    let most = under_most nodes node (length nodes) in
    let same = ap (under nodes node) e in
    let all = under_all nodes node in
    let c = h.count in
    omega arith
