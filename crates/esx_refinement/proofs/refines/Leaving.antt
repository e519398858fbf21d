-- The stop, the drop of a page, and the going of a machine.
use Rattle.std.proofs.Common.{◌≡◌, ℕ, ◌+◌, ◌-◌, ◌<◌, ◌≤◌, ◌||◌, ◌==◌, Bool, true, false, nat_lt, List, [], ◌∷◌, length, set, refl, sym, ap, ◌∙◌, subst, arith, cond, Option, Some, None, Ok}
use Rattle.std.proofs.lemmas.Bool.{or_left, eq-eqb}
use Rattle.std.proofs.lemmas.Bool.Decides.{nat_tests}
use Rattle.esx_types.specs.declared.config.Config.{Config}
use Rattle.esx_types.specs.declared.table.FrameRow.TheVariants as frames
use Rattle.esx_types.specs.declared.table.Listing.{Listing}
use Rattle.esx_types.specs.declared.table.MapRow.{MapRow}
use Rattle.esx_types.specs.declared.vm.VmState.{VmState}
use Rattle.esx_types.specs.declared.vm.VmState.TheVariants.{Stopping}
use Rattle.esx_types.specs.Pages as rows
use Rattle.esx_events.specs.declared.event.Answer.TheVariants.{Done, GivenBack, Gone}
use Rattle.esx_model.specs.declared.look.Standing.{Standing}
use Rattle.esx_model.specs.declared.scene.Place.{Place}
use Rattle.esx_model.specs.declared.scene.Place.TheVariants.{Untouched, Here, Out, Lent}
use Rattle.esx_model.specs.declared.scene.Vm.{Vm}
use Rattle.esx_model.specs.declared.scene.Site.{Site}
use Rattle.esx_model.specs.declared.book.VmRow.{VmRow}
use Rattle.esx_model.specs.declared.tables.Tables.{Tables}
use Rattle.esx_model.specs.Places.{is_here, is_out}
use Rattle.esx_model.specs.Site.{vm_at, with_vm, place_at, resident, paged_out}
use Rattle.esx_model.specs.Show.{is_listed, frame_rows}
use Rattle.esx_model.specs.Tables.{raw_place, vm_table, standing_of, tables_of}
use Rattle.esx_model.specs.Moved.{put_vm}
use Rattle.esx_model.specs.event.Outcome.{standing}
use Rattle.esx_model.specs.event.Leaving.{stop_gate, stop, drop_gate, drop_page, gone_gate, without_last, give_back, gone}
use Rattle.esx_model.specs.sound.Machines.{FitsState}
use Rattle.esx_model.specs.sound.Sound.{IsSound}
use Rattle.esx_model.proofs.Callers.{row_only_shown, room_nowhere, not_not, stops, given_back_shown, gone_shown, gone_bare_shown}
use Rattle.esx_tables.specs.declared.change.Change.TheVariants.{FrameAt, OfVm}
use Rattle.esx_tables.specs.declared.change.VmPart.TheVariants.{Facts, Period, OverheadTop}
use Rattle.esx_tables.specs.Machines.{facts_of}
use Rattle.esx_tables.specs.Changes.{traded, exchanged}
use Rattle.esx_refinement.specs.Refinement.{Makes, Refines}
use Rattle.esx_plans.specs.plan.Leaving.{stop_plan, drop_plan, given_back, gone_changes, give_back_changes, gone_plan}
use Rattle.esx_refinement.proofs.Refining.{row_is, needs_vm, passes_same, standing_shown, page_row, makes_shown}
use Rattle.esx_refinement.proofs.Made.{parts_made}
use Rattle.esx_refinement.proofs.Leaves.{below_max, past_stop, page_leaves_made}
use Rattle.esx_refinement.proofs.Overhead.{last_frame, last_listed, off_traded, stays_unlisted}

pub stop_refines : (c : Config) (s : Site) (n : ℕ) → Refines c s (stop_plan (tables_of c s) n) (stop s n)
unfolding stop stop_plan
stop_refines c s n = needs_vm c s n _ _ (λ v there. passes_same c s _ _ _ _ (ap stop_gate (standing_shown v)) (λ pass.
    let w : Vm = record v { state = Stopping; period = None } in
    makes_shown c s Done _ (with_vm s n w) _
    (parts_made (tables_of c s) n (vm_table v) (Facts (record (facts_of (vm_table v)) { state = Stopping }) ∷ Period None ∷ []) (row_is c s n v there))
    (row_only_shown c s n v w there refl refl)))

-- A page is dropped.

abbrev is_kept : MapRow → Bool
is_kept row = rows.is_here row || rows.is_out row

same_kept : (p : Place) → is_kept (raw_place p) ≡ (is_here p || is_out p)
same_kept Untouched = refl
same_kept (Here bytes f shared) = refl
same_kept (Out bytes i) = refl
same_kept (Lent epoch) = refl

drop_gate_same : (v : Vm) (page : ℕ) → drop_gate (standing_of (vm_table v)) page (is_kept (rows.page_at (vm_table v).pages page)) ≡ drop_gate (standing v) page (is_here (place_at v page) || is_out (place_at v page))
drop_gate_same v page =
    ap (λ (m : Standing). drop_gate m page (is_kept (rows.page_at (vm_table v).pages page))) (standing_shown v)
    ∙ ap (λ (b : Bool). drop_gate (standing v) page b) (ap is_kept (page_row v page) ∙ same_kept (place_at v page))

pub drop_refines : (c : Config) (s : Site) (n page : ℕ) → IsSound c s → Refines c s (drop_plan (tables_of c s) n page) (drop_page s n page)
unfolding drop_page drop_plan
drop_refines c s n page sound = needs_vm c s n _ _ (λ v there. passes_same c s _ _ _ _ (drop_gate_same v page) (λ pass.
    (refl, page_leaves_made c s n page v Untouched sound there (below_max v.spec.max page pass.1.0) (past_stop v (stops v.state (not_not _ pass.0))) tt (room_nowhere c s (place_at v page)) refl (λ t. refl))))

-- An overhead frame is given back.

given_back_refines : (c : Config) (s : Site) (n : ℕ) (v : Vm) → IsSound c s → vm_at s n ≡ Some v → v.state ≡ Stopping → nat_lt 1 (length v.overhead) ≡ true
    → Makes c s (FrameAt (last_frame v) frames.Free ∷ OfVm n (OverheadTop None) ∷ []) (with_vm s n (without_last v))
unfolding exchanged traded
given_back_refines c s n v sound there stopping more =
    let f : ℕ = last_frame v in
    let r : VmRow = vm_table v in
    let w : VmRow = vm_table (without_last v) in
    let some : 0 < length v.overhead = grind (arith, nat_tests) in
    let P : VmState → Type 0 = FitsState v in
    let fits = subst P stopping (sound.each n v there).state in
    let most : length v.overhead ≤ v.spec.overhead = fits.0 in
    let first : Tables = record (tables_of c s) { frames = set (frame_rows c.frames s) f frames.Free } in
    let made : (exchanged first (OfVm n (OverheadTop None) ∷ [])).0 ≡ put_vm first n (Some w) =
    parts_made first n r (OverheadTop None ∷ []) (row_is c s n v there)
    ∙ ap (λ (x : List ℕ × Option ℕ). put_vm first n (Some (record r { overhead = x.0 }))) (off_traded v.spec.overhead v.overhead some most) in
    made
    ∙ ap (λ (ls : List Listing). put_vm (record first { listings = ls }) n (Some w)) (sym (stays_unlisted c s n f v there (last_listed v.overhead some)))
    ∙ sym (given_back_shown c s n v sound there some)

-- The machine goes.

few_left : (held : ℕ) → nat_lt 1 held ≡ false → held ≤ 1
few_left held h = grind (arith, nat_tests)

goes_refines : (c : Config) (s : Site) (n : ℕ) (v : Vm) (held : List ℕ) → IsSound c s → vm_at s n ≡ Some v → resident v ≡ 0 → paged_out v ≡ 0 → v.overhead ≡ held → length held ≤ 1
    → Makes c s (gone_changes n held) (record s { vms = set s.vms n None })
unfolding exchanged traded
goes_refines c s n v [] sound there here out is few = sym (gone_bare_shown c s n v sound there here out is)
goes_refines c s n v (f ∷ []) sound there here out is few =
    let listed : is_listed f v.overhead ≡ true = ap (is_listed f) is ∙ or_left (f == f) false (eq-eqb f f refl) in
    ap (λ (ls : List Listing). put_vm (record (tables_of c s) { frames = set (frame_rows c.frames s) f frames.Free; listings = ls }) n None) (sym (stays_unlisted c s n f v there listed))
    ∙ sym (gone_shown c s n f v sound there here out is)
goes_refines c s n v (f ∷ g ∷ held) sound there here out is few = absurd (omega arith)

none_left : (a b : ℕ) → nat_lt 0 (a + b) ≡ false → (a ≡ 0) × (b ≡ 0)
none_left a b h = (grind (arith, nat_tests), grind (arith, nat_tests))

give_back_refines : (c : Config) (s : Site) (n : ℕ) (v : Vm) → IsSound c s → vm_at s n ≡ Some v → v.state ≡ Stopping → nat_lt 0 (resident v + paged_out v) ≡ false
    → Refines c s (Ok (given_back (vm_table v), give_back_changes n (vm_table v))) (give_back s n v)
give_back_refines c s n v sound there stopping none = of (nat_lt 1 (length v.overhead)) refl
  where
    left : (resident v ≡ 0) × (paged_out v ≡ 0)
    left = none_left (resident v) (paged_out v) none

    of : (b : Bool) → nat_lt 1 (length v.overhead) ≡ b
        → Refines c s (Ok (cond b (GivenBack (length v.overhead - 1)) Gone, cond b (FrameAt (last_frame v) frames.Free ∷ OfVm n (OverheadTop None) ∷ []) (gone_changes n v.overhead)))
        (cond b (Ok (GivenBack (length v.overhead - 1), with_vm s n (without_last v))) (Ok (Gone, record s { vms = set s.vms n None })))
    of true e = (refl, given_back_refines c s n v sound there stopping e)
    of false e = (refl, goes_refines c s n v v.overhead sound there left.0 left.1 refl (few_left (length v.overhead) e))

pub gone_refines : (c : Config) (s : Site) (n : ℕ) → IsSound c s → Refines c s (gone_plan (tables_of c s) n) (gone s n)
unfolding gone gone_plan
gone_refines c s n sound = needs_vm c s n _ _ (λ v there. passes_same c s _ _ _ _ (ap gone_gate (standing_shown v)) (λ pass.
    give_back_refines c s n v sound there (stops v.state (not_not _ pass.0)) pass.1.0))
