-- A machine that is admitted, and one that goes.
use Rattle.std.proofs.Common.{◌≡◌, zero, suc, ℕ, ◌<◌, Bool, false, List, [], ◌∷◌, length, get_or, set, refl, sym, ap, ◌∙◌, subst, cond, arith, ◌-◌, slice_index, Option, Some, None, is_some, ◌⊎◌, inl, inr, true, nat_lt}
use Rattle.std.proofs.lemmas.List.{get_or-set_same}
use Rattle.esx_types.specs.declared.config.Config.{Config}
use Rattle.esx_types.specs.declared.config.TheConstants.{VM_NUMBERS}
use Rattle.esx_types.specs.declared.vm.VmSpec.{VmSpec}
use Rattle.esx_types.specs.declared.table.FrameRow.TheVariants as frames
use Rattle.esx_events.specs.declared.event.Event.TheVariants.{Admit, Gone}
use Rattle.esx_model.specs.declared.book.VmRow.{VmRow}
use Rattle.esx_model.specs.declared.tables.Tables.{Tables}
use Rattle.esx_model.specs.Tables.{vm_table, standing_of}
use Rattle.esx_model.specs.event.Admission.{admit_gate, admitted}
use Rattle.esx_model.specs.event.Leaving.{gone_gate}
use Rattle.esx_tables.specs.declared.change.Change.{Change}
use Rattle.esx_tables.specs.declared.change.Change.TheVariants.{FrameAt, OfVm, VmAt}
use Rattle.esx_tables.specs.declared.change.VmPart.TheVariants.{OverheadTop}
use Rattle.esx_tables.specs.Changes.{traded, exchanged}
use Rattle.esx_tables.specs.Machines.{vm_traded}
use Rattle.esx_tables.specs.Readings.{row_at}
use Rattle.esx_changes.specs.Planned.{Planned}
use Rattle.esx_plans.specs.plan.Admission.{memory_after, swap_after, admit_plan}
use Rattle.esx_plans.specs.plan.Leaving.{gone_changes, give_back_changes, gone_plan}
use Rattle.esx_machine.specs.Machine.{Kept, IsKept, Back, Exchanges, turned}
use Rattle.esx_records.specs.Small.{places_in}
use Rattle.esx_records.proofs.Modest.{PlansOf, at_row_of, gate_of}
use Rattle.esx_records.proofs.Copied.{pages_of, one_still}
use Rattle.esx_records.proofs.Forms.{turned_changes, kept_stocked}

-- An admission.

-- the place is the machine's, which was empty
record Admits (t : Tables) (n : ℕ) (row : VmRow) (changes : List Change) : Type 0 where
  one : changes ≡ VmAt n (Some row) ∷ []
  empty : row_at t n ≡ None

none_of : (o : Option VmRow) → is_some o ≡ false → o ≡ None
none_of None h = refl
none_of (Some v) h = cc

plan_admits : (c : Config) (t : Tables) (n : ℕ) (spec : VmSpec) → PlansOf (Admits t n (vm_table (admitted spec))) (admit_plan c t n spec)
unfolding admit_plan
plan_admits c t n spec =
    gate_of (Admits t n (vm_table (admitted spec))) (admit_gate c (is_some (row_at t n)) spec (memory_after t spec) (swap_after t spec)) _
    (λ pass. record { one = refl; empty = none_of (row_at t n) pass.0 })

any_default : {X : Type 0} (xs : List X) (i : ℕ) (d e : X) → i < length xs → get_or xs i d ≡ get_or xs i e
any_default [] i d e h = absurd (omega (arith, h))
any_default (x ∷ xs) zero d e h = refl
any_default (x ∷ xs) (suc i) d e h = any_default xs i d e (omega (arith, h))

one_traded : (t : Tables) (n : ℕ) (o : Option VmRow) → ((exchanged t (VmAt n o ∷ [])).1 ≡ VmAt n (get_or t.vms n o) ∷ []) × (row_at (exchanged t (VmAt n o ∷ [])).0 n ≡ get_or (set t.vms n o) n None)
unfolding exchanged traded
one_traded t n o = (refl, refl)

admits : (old new : Kept) (n : ℕ) (spec : VmSpec) (r : Back) (x : Exchanges old new (Admit n spec) r) → Admits old.tables n (vm_table (admitted spec)) x.plan.1
admits old new n spec r x =
    let P : Planned → Type 0 = PlansOf (Admits old.tables n (vm_table (admitted spec))) in
    subst P x.planned (plan_admits old.config old.tables n spec)

pub admitted_given : (old new : Kept) (n : ℕ) (spec : VmSpec) (r : Back) → IsKept old → n < VM_NUMBERS → Exchanges old new (Admit n spec) r → r.changes ≡ VmAt n None ∷ []
admitted_given old new n spec r kept below x =
    let a = admits old new n spec r x in
    let row : Option VmRow = Some (vm_table (admitted spec)) in
    let places = (kept_stocked old kept).places in
    let there : n < length old.tables.vms = omega (arith, below, places) in
    x.changes ∙ ap (λ (cs : List Change). (exchanged old.tables cs).1) a.one ∙ (one_traded old.tables n row).0
    ∙ ap (λ (o : Option VmRow). VmAt n o ∷ []) (any_default old.tables.vms n row None there ∙ a.empty)

pub admitted_flipped : (old new : Kept) (n : ℕ) (spec : VmSpec) (r : Back) → IsKept old → n < VM_NUMBERS → Exchanges old new (Admit n spec) r → (turned r new).changes ≡ VmAt n (row_at new.tables n) ∷ []
admitted_flipped old new n spec r kept below x =
    let a = admits old new n spec r x in
    let row : Option VmRow = Some (vm_table (admitted spec)) in
    let places = (kept_stocked old kept).places in
    let there : n < length old.tables.vms = omega (arith, below, places) in
    let stands : row_at new.tables n ≡ row =
    ap (λ (t : Tables). row_at t n) x.tables ∙ ap (λ (cs : List Change). row_at (exchanged old.tables cs).0 n) a.one ∙ (one_traded old.tables n row).1 ∙ get_or-set_same old.tables.vms n row None there in
    turned_changes old new (Admit n spec) r x ∙ a.one ∙ ap (λ (o : Option VmRow). VmAt n o ∷ []) (sym stands)

-- A machine that goes.

-- its place is left empty, and comes out with the machine
record Goes (t : Tables) (v : VmRow) (changes : List Change) : Type 0 where
  empty : places_in changes ≡ None ∷ []
  full : places_in (exchanged t changes).1 ≡ Some v ∷ []

goes_by : (t : Tables) (n : ℕ) (v : VmRow) → row_at t n ≡ Some v → (overhead : List ℕ) → Goes t v (gone_changes n overhead)
unfolding exchanged traded
goes_by t n v there [] = record { empty = refl; full = ap (λ (o : Option VmRow). o ∷ []) there }
goes_by t n v there (f ∷ fs) = record { empty = refl; full = ap (λ (o : Option VmRow). o ∷ []) there }

-- they do, or there is a machine still
abbrev Leaves : Tables → ℕ → VmRow → List Change → Type 0
Leaves t n v changes = Goes t v changes ⊎ (row_at (exchanged t changes).0 n ≡ None → ⊥)

stands : (o p : Option VmRow) (v : VmRow) → pages_of o ≡ pages_of p → p ≡ Some v → o ≡ None → ⊥
stands o p v same there gone =
    let some : pages_of p ≡ Some v.pages = ap pages_of there in
    let none : pages_of o ≡ None = ap pages_of gone in
    differ (sym none ∙ same ∙ some)
  where
    differ : None ≡ Some v.pages → ⊥
    differ e = cc

frame_goes : (t : Tables) (n f : ℕ) (v : VmRow) → row_at t n ≡ Some v → row_at (exchanged t (FrameAt f frames.Free ∷ OfVm n (OverheadTop None) ∷ [])).0 n ≡ None → ⊥
unfolding exchanged traded
frame_goes t n f v there = stands (get_or (set t.vms n (vm_traded (get_or t.vms n None) (OverheadTop None)).0) n None) (row_at t n) v (one_still t.vms n (OverheadTop None) (λ w. refl)) there

plan_goes : (t : Tables) (n : ℕ) (v : VmRow) → row_at t n ≡ Some v → PlansOf (Leaves t n v) (gone_plan t n)
unfolding gone_plan
plan_goes t n v there = at_row_of (Leaves t n v) (row_at t n) _ (λ w here.
    let same : v ≡ w = one_row (row_at t n) v w there here in
    let P : VmRow → Type 0 = λ u. Leaves t n v (give_back_changes n u) in
    gate_of (Leaves t n v) (gone_gate (standing_of w)) _ (λ _. subst P same (either (nat_lt 1 (length v.overhead)))))
  where
    one_row : (o : Option VmRow) (v w : VmRow) → o ≡ Some v → o ≡ Some w → v ≡ w
    one_row o v w e f = cc

    either : (b : Bool) → Leaves t n v (cond b (FrameAt (slice_index v.overhead (length v.overhead - 1)) frames.Free ∷ OfVm n (OverheadTop None) ∷ []) (gone_changes n v.overhead))
    either true = inr (frame_goes t n (slice_index v.overhead (length v.overhead - 1)) v there)
    either false = inl (goes_by t n v there v.overhead)

left : (t u : Tables) (n : ℕ) (v : VmRow) (changes : List Change) → u ≡ (exchanged t changes).0 → row_at u n ≡ None → Leaves t n v changes → Goes t v changes
left t u n v changes is gone (inl goes) = goes
left t u n v changes is gone (inr stays) = absurd (stays (ap (λ (x : Tables). row_at x n) (sym is) ∙ gone))

goes : (old new : Kept) (n : ℕ) (v : VmRow) (r : Back) (x : Exchanges old new (Gone n) r) → row_at old.tables n ≡ Some v → row_at new.tables n ≡ None → Goes old.tables v x.plan.1
goes old new n v r x there gone =
    let P : Planned → Type 0 = PlansOf (Leaves old.tables n v) in
    left old.tables new.tables n v x.plan.1 x.tables gone (subst P x.planned (plan_goes old.tables n v there))

pub gone_given : (old new : Kept) (n : ℕ) (v : VmRow) (r : Back) → Exchanges old new (Gone n) r → row_at old.tables n ≡ Some v → row_at new.tables n ≡ None → places_in r.changes ≡ Some v ∷ []
gone_given old new n v r x there gone = ap places_in x.changes ∙ (goes old new n v r x there gone).full

pub gone_flipped : (old new : Kept) (n : ℕ) (v : VmRow) (r : Back) → Exchanges old new (Gone n) r → row_at old.tables n ≡ Some v → row_at new.tables n ≡ None
    → places_in (turned r new).changes ≡ None ∷ []
gone_flipped old new n v r x there gone = ap places_in (turned_changes old new (Gone n) r x) ∙ (goes old new n v r x there gone).empty
