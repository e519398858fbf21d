-- The pass through the later rows.
use Rattle.std.proofs.Common.{◌≡◌, ◌≢◌, ℕ, ◌+◌, ◌<◌, ◌≤◌, ◌==◌, ◌||◌, ◌&&◌, true, false, not, List, length, slice_index_or, is_some, sym, ap, ◌∙◌, arith, ◌⊎◌, inl, inr}
use Rattle.std.proofs.lemmas.Bool.Decides.{eqb_tells}
use Rattle.esx_model.specs.Tree.{Node, parent, alive, on_way}
use Rattle.esx_journal.specs.Rows.{Row}
use Rattle.esx_journal.specs.Row.{AreNodes, IsLeft, Lost, Drops, emptied, lost_parent}
use Rattle.esx_journal.specs.Children.{AreLinked, parent_of, has_record, no_row, unlinked}
use Rattle.esx_journal.proofs.Paths.{is_other, parent_below, parent_fits, way_below, way_self}
use Rattle.esx_journal.proofs.Linking.{linked_first, record_elsewhere, record_off}
use Rattle.esx_journal.proofs.Losing.{AreGone, one_if, parent_stays, some_way, up_way, down_way, emptied_at, emptied_there, lost_here, lost_off, lost_all}
use Rattle.esx_journal.proofs.Pruning.{both_true, not_by, false_by}

-- What went of the node and of those below it, among them all with a number below one.
pub record Passing (old now : List Row) (nodes : List Node) (node upto gone : ℕ) : Type 0 where
  pub lost : Lost gone old now nodes node
  pub gone_all : AreGone now nodes node upto

-- the node goes first
pub pass_first : (old now : List Row) (nodes : List Node) (node gone : ℕ) → AreNodes old nodes → Lost gone old now nodes node → 0 < node → node ≤ length nodes
    → Passing old (emptied_at now node) nodes node (node + 1) (gone + one_if (has_record now node))
pass_first old now nodes node gone a h some fits = record {
  lost = lost_here old now nodes node node gone a h fits (way_self nodes node a.tree some fits);
  gone_all = λ n less f w. emptied_there now node n (omega (arith, h.size, a.size, fits)) (let b = way_below nodes n node a.tree f w in omega arith);
}

-- one that stood and has no parent left is below the node
gone_below : (old now : List Row) (nodes : List Node) (node at gone : ℕ) → AreNodes old nodes → Lost gone old now nodes node → 0 < at → at ≤ length nodes → lost_parent now at no_row ≡ true → on_way nodes at node ≡ true
gone_below old now nodes node at gone a h some fits tells = down_way nodes at node a.tree some fits (under_parent (h.each p no_row within))
  where
    p : ℕ
    p = parent nodes at

    within : p ≤ length nodes
    within = parent_fits nodes at a.tree fits

    parts : (has_record now at ≡ true) × ((not (parent_of now at == 0) && not (has_record now (parent_of now at))) ≡ true)
    parts = both_true (has_record now at) (not (parent_of now at == 0) && not (has_record now (parent_of now at))) tells

    later : (not (parent_of now at == 0) ≡ true) × (not (has_record now (parent_of now at)) ≡ true)
    later = both_true (not (parent_of now at == 0)) (not (has_record now (parent_of now at))) parts.1

    up : parent_of now at ≡ p
    up = parent_stays old now nodes node gone at a h fits

    some_parent : (p == 0) ≡ false
    some_parent = ap (λ x. x == 0) (sym up) ∙ not_by (parent_of now at == 0) later.0

    lacks : has_record now p ≡ false
    lacks = ap (has_record now) (sym up) ∙ not_by (has_record now (parent_of now at)) later.1

    stood : IsLeft (slice_index_or now at no_row) (slice_index_or old at no_row) (on_way nodes at node) → has_record old at ≡ true
    stood (inl e) = ap (λ (r : Row). is_some r.back) (sym e) ∙ parts.0
    stood (inr e) = (let z = sym (ap (λ (r : Row). is_some r.back) e.0) ∙ parts.0 in cc)

    parent_stood : has_record old p ≡ true
    parent_stood = a.live p no_row within ∙ ap (λ b. b || alive nodes p) (sym some_parent) ∙ a.whole at (sym (a.live at no_row fits) ∙ stood (h.each at no_row fits))

    under_parent : IsLeft (slice_index_or now p no_row) (slice_index_or old p no_row) (on_way nodes p node) → on_way nodes p node ≡ true
    under_parent (inl e) = (let z = sym lacks ∙ ap (λ (r : Row). is_some r.back) e ∙ parent_stood in cc)
    under_parent (inr e) = e.1

-- one that stays is not below the node, or had no record
stays : (old now : List Row) (nodes : List Node) (node at gone : ℕ) → AreNodes old nodes → Passing old now nodes node at gone → node < at → at ≤ length nodes → lost_parent now at no_row ≡ false
    → on_way nodes at node ≡ true → has_record now at ≡ false
stays old now nodes node at gone a h more fits tells on = false_by (has_record now at) (λ has. (let z = sym (told has) ∙ tells in cc))
  where
    p : ℕ
    p = parent nodes at

    on_parent : on_way nodes p node ≡ true
    on_parent = up_way nodes at node a.tree fits on (λ e. omega arith)

    lacks : has_record now p ≡ false
    lacks = h.gone_all p (parent_below nodes at a.tree (omega arith) fits) (parent_fits nodes at a.tree fits) on_parent

    told : has_record now at ≡ true → lost_parent now at no_row ≡ true
    told has = ap (λ b. b && (not (parent_of now at == 0) && not (has_record now (parent_of now at)))) has
        ∙ ap (λ x. not (x == 0) && not (has_record now x)) (parent_stays old now nodes node gone at a h.lost fits)
        ∙ ap (λ b. not b && not (has_record now p)) (is_other p 0 (let s = some_way nodes p node on_parent in λ e. omega arith))
        ∙ ap (λ b. not b) lacks

pub pass_skip : (old now : List Row) (nodes : List Node) (node at gone : ℕ) → AreNodes old nodes → Passing old now nodes node at gone → node < at → at ≤ length nodes → lost_parent now at no_row ≡ false
    → Passing old now nodes node (at + 1) gone
pass_skip old now nodes node at gone a h more fits tells = record { lost = h.lost; gone_all = λ n less f w. of n less f w (eqb_tells n at) }
  where
    of : (n : ℕ) → n < at + 1 → n ≤ length nodes → on_way nodes n node ≡ true → (((n == at) ≡ true) × (n ≡ at)) ⊎ (((n == at) ≡ false) × (n ≢ at)) → has_record now n ≡ false
    of n less f w (inl e) = ap (has_record now) e.1 ∙ stays old now nodes node at gone a h more fits tells (ap (λ x. on_way nodes x node) (sym e.1) ∙ w)
    of n less f w (inr e) = (let k = e.1 in h.gone_all n (omega arith) f w)

pub pass_one : (old now : List Row) (nodes : List Node) (node at gone : ℕ) → AreNodes old nodes → Passing old now nodes node at gone → node < at → at ≤ length nodes → lost_parent now at no_row ≡ true
    → Passing old (emptied_at now at) nodes node (at + 1) (gone + one_if (has_record now at))
pass_one old now nodes node at gone a h more fits tells = record {
  lost = lost_here old now nodes node at gone a h.lost fits (gone_below old now nodes node at gone a h.lost (omega arith) fits tells);
  gone_all = λ n less f w. of n less f w (eqb_tells n at);
}
  where
    of : (n : ℕ) → n < at + 1 → n ≤ length nodes → on_way nodes n node ≡ true → (((n == at) ≡ true) × (n ≡ at)) ⊎ (((n == at) ≡ false) × (n ≢ at)) → has_record (emptied_at now at) n ≡ false
    of n less f w (inl e) = emptied_there now at n (omega (arith, h.lost.size, a.size, fits)) e.1
    of n less f w (inr e) = (let k = e.1 in record_elsewhere now at (emptied (slice_index_or now at no_row)) n e.1 ∙ h.gone_all n (omega arith) f w)

-- all rows were looked at, and the node leads to no child
pub pass_ends : (old now : List Row) (nodes : List Node) (node upto gone : ℕ) → AreNodes old nodes → Passing old now nodes node upto gone → node ≤ length nodes → length nodes < upto
    → Drops gone old (unlinked now node 0) nodes node
pass_ends old now nodes node upto gone a h fits far =
    let inside : node < length now = omega (arith, h.lost.size, a.size, fits) in
    lost_all old (unlinked now node 0) nodes node gone upto a (lost_off old now nodes node gone node 0 inside h.lost)
    (λ n less f w. record_off now node 0 inside n ∙ h.gone_all n less f w) far

-- no child of the node has a record
pub linked_ends : (old now : List Row) (nodes : List Node) (node upto gone : ℕ) → AreNodes old nodes → Passing old now nodes node upto gone → AreLinked now → 0 < node → node ≤ length nodes → length nodes < upto
    → AreLinked (unlinked now node 0)
linked_ends old now nodes node upto gone a h linked some fits far = linked_first now node 0 linked (omega (arith, h.lost.size, a.size, fits)) (λ z. absurd (omega arith)) none
  where
    none : (c : ℕ) → 0 < c → c < length now → parent_of now c ≡ node → 0 < c → has_record now c ≡ false
    none c more f up also = (
        let s = a.size in
        let t = h.lost.size in
        let within : c ≤ length nodes = omega arith in
        let parent_is : parent nodes c ≡ node = sym (parent_stays old now nodes node gone c a h.lost within) ∙ up in
        h.gone_all c (omega arith) within (down_way nodes c node a.tree more within (ap (λ x. on_way nodes x node) parent_is ∙ way_self nodes node a.tree some fits)))
