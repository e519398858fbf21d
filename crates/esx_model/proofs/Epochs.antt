-- An event raises each epoch by one at most.
use Rattle.std.proofs.Common.{zero, suc, ◌≡◌, ℕ, ◌+◌, ◌-◌, ◌≤◌, ◌||◌, Bool, true, false, nat_lt, List, [], ◌∷◌, length, map, get_or, set, take, drop, replicate, refl, ap, subst, arith, cond, Option, Some, None, inl, inr, Ok}
use Rattle.std.specs.List.{AllByRecursion, list_any}
use Rattle.std.specs.Option.{option_map}
use Rattle.esx_types.specs.declared.config.Config.{Config}
use Rattle.esx_types.specs.declared.config.TheConstants.{VM_NUMBERS}
use Rattle.esx_types.specs.declared.vm.VmSpec.{VmSpec}
use Rattle.esx_types.specs.declared.vm.VmState.TheVariants.{Stopping}
use Rattle.esx_types.specs.declared.level.Level.{Level}
use Rattle.esx_types.specs.declared.level.Level.TheVariants.{High, Soft, Hard, Low}
use Rattle.esx_events.specs.declared.event.Answer.{Answer}
use Rattle.esx_events.specs.declared.event.Answer.TheVariants as answers
use Rattle.esx_events.specs.declared.event.Event.{Event}
use Rattle.esx_events.specs.declared.event.Event.TheVariants.{Admit, Start, Read, Write, Ask, Lend, TakeBack, Sample, Rebalance, Scan, SwapOut, Replace, SetShares, SetTax, SetVmTax, Stop, DropPage, Gone}
use Rattle.esx_formulas.specs.declared.activity.Period.{Period}
use Rattle.esx_formulas.specs.Targets.{targets_of}
use Rattle.esx_model.specs.declared.look.Look.{Look}
use Rattle.esx_model.specs.declared.look.Look.TheVariants.{Already, SharedFrame, OtherPage, Changed, OtherBytes, Nothing}
use Rattle.esx_model.specs.declared.scene.Place.{Place}
use Rattle.esx_model.specs.declared.scene.Place.TheVariants as places
use Rattle.esx_model.specs.declared.scene.Vm.{Vm}
use Rattle.esx_model.specs.declared.scene.Site.{Site}
use Rattle.esx_model.specs.declared.scene.Scene.{Scene}
use Rattle.esx_model.specs.declared.book.VmRow.{VmRow}
use Rattle.esx_model.specs.Places.{is_here, is_out, is_shared, contents}
use Rattle.esx_model.specs.Site.{vm_at, with_vm, place_at, lent, least_free, least_slot, free_count}
use Rattle.esx_model.specs.Hints.{with_place, with_change, placed}
use Rattle.esx_model.specs.Tables.{vm_table, tables_of}
use Rattle.esx_model.specs.event.Outcome.{Outcome, standing, goal, running_gate, page_gate}
use Rattle.esx_model.specs.event.Admission.{memory_with, swap_with, reserves_in, admit_gate, admitted, admit}
use Rattle.esx_model.specs.event.Starting.{start_gate, with_overhead, take_overhead, start}
use Rattle.esx_model.specs.event.Access.{access_gate, overwritten, read_frame, write_frame, after_access, settle, read, write}
use Rattle.esx_model.specs.event.Balloon.{is_lent, popped, unless_due, lend_gate, take_back_gate, ask, lend, take_back}
use Rattle.esx_model.specs.event.Sampling.{sample_gate, opened_period, counted_in, counted, sample}
use Rattle.esx_model.specs.event.Rebalancing.{min_of, rows_of, with_targets, at_max, need, share_out, rebalance, shares_gate, set_shares, tax_gate, set_tax, set_vm_tax}
use Rattle.esx_model.specs.event.Sharing.{look, after_look, scan_gate, scan}
use Rattle.esx_model.specs.event.Paging.{victim, swap_out_gate, to_slot, leave_by, leave, swap_out, is_above_min, replace_gate, freed_slot, trade, trade_for, replace}
use Rattle.esx_model.specs.event.Leaving.{stop_gate, stop, drop_gate, drop_page, gone_gate, without_last, gone}
use Rattle.esx_model.specs.Step.{step}
use Rattle.esx_model.proofs.Stepped.{step_of, run_one}
use Rattle.esx_model.specs.Replay.{opening, next, run_from, run}
use Rattle.esx_model.specs.Epochs.{IsEpochWithin, AreEpochsWithin}
use Rattle.esx_model.proofs.Lists.{all_map, all_set, chosen}
use Rattle.esx_model.proofs.Gates.{of_vm, passed, accepted, same_site}

-- What holds of each machine that there may be, and of none.

all_or : {X : Type 0} (P : X → Type 0) (xs : List X) (i : ℕ) (d : X) → AllByRecursion P xs → P d → P (get_or xs i d)
all_or P [] i d h none = none
all_or P (x ∷ xs) zero d h none = h.0
all_or P (x ∷ xs) (suc i) d h none = all_or P xs i d h.1 none

all_none : (k n : ℕ) → AllByRecursion (IsEpochWithin k) (replicate n None)
all_none k zero = tt
all_none k (suc n) = (tt, all_none k n)

at_number : (k : ℕ) (s : Site) (n : ℕ) → AreEpochsWithin k s → IsEpochWithin k (vm_at s n)
at_number k s n within = all_or (IsEpochWithin k) s.vms n None within tt

pub epoch_at : (k : ℕ) (s : Site) (n : ℕ) (v : Vm) → AreEpochsWithin k s → vm_at s n ≡ Some v → v.epoch ≤ k
epoch_at k s n v within there =
    let P : Option Vm → Type 0 = IsEpochWithin k in
    subst P there (at_number k s n within)

one_later : (j k : ℕ) → j ≤ k → (o : Option Vm) → IsEpochWithin j o → IsEpochWithin k o
one_later j k less None h = tt
one_later j k less (Some v) h = omega arith

pub later_within : (j k : ℕ) (s : Site) → j ≤ k → AreEpochsWithin j s → AreEpochsWithin k s
later_within j k s less within = all_map (IsEpochWithin j) (IsEpochWithin k) (one_later j k less) s.vms within

later : (k : ℕ) (s : Site) → AreEpochsWithin k s → AreEpochsWithin (k + 1) s
later k s within = later_within k (k + 1) s (omega arith) within

-- Changes of a site.

with_row : (k : ℕ) (s : Site) (n : ℕ) (w : Vm) → AreEpochsWithin k s → w.epoch ≤ k → AreEpochsWithin k (with_vm s n w)
with_row k s n w within h = all_set (IsEpochWithin k) s.vms n (Some w) within h

changed_one : (k : ℕ) (change : Vm → Vm) (o : Option Vm) → ((v : Vm) → (change v).epoch ≡ v.epoch) → IsEpochWithin k o → IsEpochWithin k (option_map change o)
changed_one k change None same h = tt
changed_one k change (Some v) same h = (let e = same v in omega (arith, e, h))

changed : (k : ℕ) (s : Site) (n : ℕ) (change : Vm → Vm) → ((v : Vm) → (change v).epoch ≡ v.epoch) → AreEpochsWithin k s → AreEpochsWithin k (with_change s n change)
changed k s n change same within = all_set (IsEpochWithin k) s.vms n (option_map change (vm_at s n)) within (changed_one k change (vm_at s n) same (at_number k s n within))

moved : (k : ℕ) (s : Site) (n page : ℕ) (q : Place) → AreEpochsWithin k s → AreEpochsWithin k (placed s n page q)
unfolding placed
moved k s n page q within = all_set (IsEpochWithin k) s.vms n (option_map (with_place page q) (vm_at s n)) within (changed_one k (with_place page q) (vm_at s n) (λ v. refl) (at_number k s n within))

counted_epoch : (page : ℕ) (v : Vm) → (counted page v).epoch ≡ v.epoch
counted_epoch page v = of v.period
  where
    by : (a b : Vm) (t : Bool) → a.epoch ≡ v.epoch → b.epoch ≡ v.epoch → (cond t a b).epoch ≡ v.epoch
    by a b true e f = e
    by a b false e f = f

    of : (o : Option Period) → (counted_in page v o).epoch ≡ v.epoch
    of None = refl
    of (Some p) = by _ _ _ refl refl

accessed : (k : ℕ) (s : Site) (n page : ℕ) (q : Place) → AreEpochsWithin k s → AreEpochsWithin k (after_access s n page q)
accessed k s n page q within =
    changed k (placed (with_change s n (popped page)) n page q) n (counted page) (counted_epoch page)
    (moved k (with_change s n (popped page)) n page q (changed k s n (popped page) (λ v. refl) within))

-- the site of an accepted event
leads : (k : ℕ) (a : Answer) (t : Site) (r : Answer × Site) → accepted a t ≡ Ok r → AreEpochsWithin k t → AreEpochsWithin k r.1
leads k a t r h within =
    let P : Site → Type 0 = AreEpochsWithin k in
    subst P (same_site a t r h) within

-- The events, one by one.

admit_within : (k : ℕ) (c : Config) (s : Site) (n : ℕ) (spec : VmSpec) (r : Answer × Site) → AreEpochsWithin k s → admit c s n spec ≡ Ok r → AreEpochsWithin k r.1
unfolding admit
admit_within k c s n spec r within h =
    let pass = passed (admit_gate c _ spec (memory_with s spec) (swap_with s spec)) _ r h in
    leads k (answers.Admitted (reserves_in c (memory_with s spec) (swap_with s spec))) (with_vm s n (admitted spec)) r pass.1 (with_row k s n (admitted spec) within (omega arith))

start_within : (k : ℕ) (c : Config) (s : Site) (n : ℕ) (r : Answer × Site) → AreEpochsWithin k s → start c s n ≡ Ok r → AreEpochsWithin k r.1
unfolding start
start_within k c s n r within h =
    let m = of_vm (vm_at s n) _ r h in
    let v = m.vm in
    let pass = passed (start_gate (standing v)) _ r m.then in
    of v (epoch_at k s n v within m.there) (least_free c.frames s) pass.1
  where
    of : (v : Vm) → v.epoch ≤ k → (o : Option ℕ) → take_overhead s n v o ≡ Ok r → AreEpochsWithin k r.1
    of v low None e = cc
    of v low (Some f) e = leads k _ (with_vm s n (with_overhead v f)) r e (with_row k s n (with_overhead v f) within low)

settle_within : (k : ℕ) (s : Site) (n page : ℕ) (a : Answer) (bytes : List ℕ) (shared : Bool) (o : Option ℕ) (r : Answer × Site) → AreEpochsWithin k s → settle s n page a bytes shared o ≡ Ok r → AreEpochsWithin k r.1
settle_within k s n page a bytes shared None r within h = cc
settle_within k s n page a bytes shared (Some f) r within h = leads k a (after_access s n page (places.Here bytes f shared)) r h (accessed k s n page (places.Here bytes f shared) within)

read_within : (k : ℕ) (c : Config) (s : Site) (level : Level) (n page at len : ℕ) (r : Answer × Site) → AreEpochsWithin k s → read c s level n page at len ≡ Ok r → AreEpochsWithin k r.1
unfolding read
read_within k c s level n page at len r within h =
    let m = of_vm (vm_at s n) _ r h in
    let v = m.vm in
    let pass = passed (access_gate c level (standing v) page at len) _ r m.then in
    let p = place_at v page in
    settle_within k s n page (answers.Bytes (take len (drop at (contents c p)))) (contents c p) (is_shared p) (read_frame c s p) r within pass.1

write_within : (k : ℕ) (c : Config) (s : Site) (level : Level) (n page at : ℕ) (new : List ℕ) (r : Answer × Site) → AreEpochsWithin k s → write c s level n page at new ≡ Ok r → AreEpochsWithin k r.1
unfolding write
write_within k c s level n page at new r within h =
    let m = of_vm (vm_at s n) _ r h in
    let v = m.vm in
    let pass = passed (access_gate c level (standing v) page at (length new)) _ r m.then in
    let p = place_at v page in
    settle_within k s n page answers.Done (overwritten (contents c p) at new) false (write_frame c s p) r within pass.1

-- a reset raises an epoch by one
due_within : (k : ℕ) (s : Site) (n : ℕ) (v : Vm) (o : Outcome) (r : Answer × Site) → AreEpochsWithin k s → vm_at s n ≡ Some v → unless_due s n v o ≡ Ok r → (o ≡ Ok r → AreEpochsWithin (k + 1) r.1) → AreEpochsWithin (k + 1) r.1
due_within k s n v o r within there h other =
    let w : Vm = record v { epoch = v.epoch + 1; due = false } in
    let low = epoch_at k s n v within there in
    elim (chosen v.due (accepted (answers.Reset (v.epoch + 1)) (with_vm s n w)) o (Ok r) h) [
      | inl x ↦ leads (k + 1) (answers.Reset (v.epoch + 1)) (with_vm s n w) r x.1 (with_row (k + 1) s n w (later k s within) (omega arith))
      | inr x ↦ other x.1
    ]

ask_within : (k : ℕ) (s : Site) (n : ℕ) (r : Answer × Site) → AreEpochsWithin k s → ask s n ≡ Ok r → AreEpochsWithin (k + 1) r.1
unfolding ask
ask_within k s n r within h =
    let m = of_vm (vm_at s n) _ r h in
    let v = m.vm in
    let pass = passed (running_gate (standing v)) _ r m.then in
    due_within k s n v (accepted (answers.Goal (goal (standing v)) (lent v) v.epoch) s) r within m.there pass.1
    (λ e. leads (k + 1) (answers.Goal (goal (standing v)) (lent v) v.epoch) s r e (later k s within))

lend_within : (k : ℕ) (s : Site) (n page : ℕ) (r : Answer × Site) → AreEpochsWithin k s → lend s n page ≡ Ok r → AreEpochsWithin (k + 1) r.1
unfolding lend
lend_within k s n page r within h =
    let m = of_vm (vm_at s n) _ r h in
    let v = m.vm in
    let pass = passed (page_gate (standing v) page) _ r m.then in
    due_within k s n v _ r within m.there pass.1 (λ e.
    let more = passed (lend_gate (is_lent v page) (standing v)) _ r e in
    leads (k + 1) (answers.Lent (lent v + 1) (goal (standing v))) (placed s n page (places.Lent v.epoch)) r more.1 (moved (k + 1) s n page (places.Lent v.epoch) (later k s within)))

take_back_within : (k : ℕ) (s : Site) (n page : ℕ) (r : Answer × Site) → AreEpochsWithin k s → take_back s n page ≡ Ok r → AreEpochsWithin (k + 1) r.1
unfolding take_back
take_back_within k s n page r within h =
    let m = of_vm (vm_at s n) _ r h in
    let v = m.vm in
    let pass = passed (page_gate (standing v) page) _ r m.then in
    due_within k s n v _ r within m.there pass.1 (λ e.
    let more = passed (take_back_gate (is_lent v page)) _ r e in
    leads (k + 1) (answers.TakenBack (lent v - 1)) (placed s n page places.Untouched) r more.1 (moved (k + 1) s n page places.Untouched (later k s within)))

sample_within : (k : ℕ) (s : Site) (n len : ℕ) (words : List ℕ) (r : Answer × Site) → AreEpochsWithin k s → sample s n len words ≡ Ok r → AreEpochsWithin k r.1
unfolding sample
sample_within k s n len words r within h =
    let m = of_vm (vm_at s n) _ r h in
    let v = m.vm in
    let pass = passed (sample_gate (standing v) (length words) len _) _ r m.then in
    let w : Vm = record v { period = Some (opened_period v.spec.max len words) } in
    leads k (answers.Opened len (length words)) (with_vm s n w) r pass.1 (with_row k s n w within (epoch_at k s n v within m.there))

retargeted : (k : ℕ) (vms : List (Option Vm)) (targets : List ℕ) → AllByRecursion (IsEpochWithin k) vms → AllByRecursion (IsEpochWithin k) (with_targets vms targets)
retargeted k [] targets h = tt
retargeted k (None ∷ vms) targets h = (tt, retargeted k vms targets h.1)
retargeted k (Some v ∷ vms) [] h = (h.0, retargeted k vms [] h.1)
retargeted k (Some v ∷ vms) (t ∷ targets) h = (h.0, retargeted k vms targets h.1)

maximal : (k : ℕ) (vms : List (Option Vm)) → AllByRecursion (IsEpochWithin k) vms → AllByRecursion (IsEpochWithin k) (map (option_map at_max) vms)
maximal k [] h = tt
maximal k (None ∷ vms) h = (tt, maximal k vms h.1)
maximal k (Some v ∷ vms) h = (h.0, maximal k vms h.1)

shared_out_within : (k : ℕ) (c : Config) (s : Site) (r : Answer × Site) → AreEpochsWithin k s → share_out c s ≡ Ok r → AreEpochsWithin k r.1
shared_out_within k c s r within h =
    leads k _ (record s { vms = with_targets s.vms (targets_of (rows_of min_of s) (need c s)) }) r h (retargeted k s.vms (targets_of (rows_of min_of s) (need c s)) within)

rebalance_within : (k : ℕ) (c : Config) (s : Site) (level : Level) (r : Answer × Site) → AreEpochsWithin k s → rebalance c s level ≡ Ok r → AreEpochsWithin k r.1
unfolding rebalance
rebalance_within k c s High r within h = leads k (answers.Rebalanced 0 0) (record s { vms = map (option_map at_max) s.vms }) r h (maximal k s.vms within)
rebalance_within k c s Soft r within h = shared_out_within k c s r within h
rebalance_within k c s Hard r within h = shared_out_within k c s r within h
rebalance_within k c s Low r within h = shared_out_within k c s r within h

set_shares_within : (k : ℕ) (s : Site) (n shares : ℕ) (r : Answer × Site) → AreEpochsWithin k s → set_shares s n shares ≡ Ok r → AreEpochsWithin k r.1
unfolding set_shares
set_shares_within k s n shares r within h =
    let m = of_vm (vm_at s n) _ r h in
    let v = m.vm in
    let pass = passed (shares_gate shares) _ r m.then in
    let w : Vm = record v { spec = record v.spec { shares = shares } } in
    leads k answers.Done (with_vm s n w) r pass.1 (with_row k s n w within (epoch_at k s n v within m.there))

set_tax_within : (k : ℕ) (s : Site) (tau : ℕ) (r : Answer × Site) → AreEpochsWithin k s → set_tax s tau ≡ Ok r → AreEpochsWithin k r.1
unfolding set_tax
set_tax_within k s tau r within h =
    let pass = passed (tax_gate tau) _ r h in
    leads k answers.Done (record s { tau = tau }) r pass.1 within

set_vm_tax_within : (k : ℕ) (s : Site) (n tau : ℕ) (r : Answer × Site) → AreEpochsWithin k s → set_vm_tax s n tau ≡ Ok r → AreEpochsWithin k r.1
unfolding set_vm_tax
set_vm_tax_within k s n tau r within h =
    let m = of_vm (vm_at s n) _ r h in
    let v = m.vm in
    let pass = passed (tax_gate tau) _ r m.then in
    let w : Vm = record v { spec = record v.spec { tau = Some tau } } in
    leads k answers.Done (with_vm s n w) r pass.1 (with_row k s n w within (epoch_at k s n v within m.there))

looked_within : (k : ℕ) (s : Site) (n page : ℕ) (bytes : List ℕ) (l : Look) → AreEpochsWithin k s → AreEpochsWithin k (after_look s n page bytes l)
looked_within k s n page bytes Already within = within
looked_within k s n page bytes (SharedFrame f) within = moved k s n page (places.Here bytes f true) within
looked_within k s n page bytes (OtherPage m q f) within = moved k (placed s m q (places.Here bytes f true)) n page (places.Here bytes f true) (moved k s m q (places.Here bytes f true) within)
looked_within k s n page bytes Changed within = within
looked_within k s n page bytes OtherBytes within = within
looked_within k s n page bytes Nothing within = within

scan_within : (k : ℕ) (c : Config) (s : Site) (n page : ℕ) (r : Answer × Site) → AreEpochsWithin k s → scan c s n page ≡ Ok r → AreEpochsWithin k r.1
unfolding scan
scan_within k c s n page r within h =
    let m = of_vm (vm_at s n) _ r h in
    let v = m.vm in
    let p = place_at v page in
    let pass = passed (scan_gate (standing v) page (is_here p)) _ r m.then in
    leads k _ (after_look s n page (contents c p) (look s n page p)) r pass.1 (looked_within k s n page (contents c p) (look s n page p) within)

slotted_within : (k : ℕ) (s : Site) (n page : ℕ) (bytes : List ℕ) (o : Option ℕ) (r : Answer × Site) → AreEpochsWithin k s → to_slot s n page bytes o ≡ Ok r → AreEpochsWithin k r.1
slotted_within k s n page bytes None r within h = cc
slotted_within k s n page bytes (Some slot) r within h = leads k (answers.PagedOut page slot) (placed s n page (places.Out bytes slot)) r h (moved k s n page (places.Out bytes slot) within)

left_within : (k : ℕ) (c : Config) (s : Site) (n page : ℕ) (bytes : List ℕ) (l : Look) (r : Answer × Site) → AreEpochsWithin k s → leave_by c s n page bytes l ≡ Ok r → AreEpochsWithin k r.1
left_within k c s n page bytes (SharedFrame f) r within h = leads k (answers.SharedOut page f) (after_look s n page bytes (SharedFrame f)) r h (looked_within k s n page bytes (SharedFrame f) within)
left_within k c s n page bytes (OtherPage m q f) r within h = leads k (answers.SharedOut page f) (after_look s n page bytes (OtherPage m q f)) r h (looked_within k s n page bytes (OtherPage m q f) within)
left_within k c s n page bytes Already r within h = slotted_within k s n page bytes (least_slot c.slots s) r within h
left_within k c s n page bytes Changed r within h = slotted_within k s n page bytes (least_slot c.slots s) r within h
left_within k c s n page bytes OtherBytes r within h = slotted_within k s n page bytes (least_slot c.slots s) r within h
left_within k c s n page bytes Nothing r within h = slotted_within k s n page bytes (least_slot c.slots s) r within h

swap_out_within : (k : ℕ) (c : Config) (s : Site) (level : Level) (n word : ℕ) (r : Answer × Site) → AreEpochsWithin k s → swap_out c s level n word ≡ Ok r → AreEpochsWithin k r.1
unfolding swap_out
swap_out_within k c s level n word r within h =
    let m = of_vm (vm_at s n) _ r h in
    let v = m.vm in
    let pass = passed (swap_out_gate level (standing v)) _ r m.then in
    of v (victim v word) pass.1
  where
    of : (v : Vm) (o : Option ℕ) → leave c s n v o ≡ Ok r → AreEpochsWithin k r.1
    of v None e = cc
    of v (Some page) e = left_within k c s n page (contents c (place_at v page)) (look s n page (place_at v page)) r within e

traded_within : (k : ℕ) (c : Config) (s : Site) (n page : ℕ) (wanted : Place) (q : ℕ) (p : Place) (o : Option ℕ) (r : Answer × Site) → AreEpochsWithin k s → trade c s n page wanted q p o ≡ Ok r → AreEpochsWithin k r.1
traded_within k c s n page wanted q (places.Here bytes f shared) (Some slot) r within h =
    let one = with_change s n (popped page) in
    let two = placed one n q (places.Out bytes slot) in
    let new : Place = places.Here (contents c wanted) f false in
    leads k (answers.Replaced q slot f) (placed two n page new) r h (moved k two n page new (moved k one n q (places.Out bytes slot) (changed k s n (popped page) (λ v. refl) within)))
traded_within k c s n page wanted q (places.Here bytes f shared) None r within h = cc
traded_within k c s n page wanted q places.Untouched o r within h = cc
traded_within k c s n page wanted q (places.Out bytes i) o r within h = cc
traded_within k c s n page wanted q (places.Lent epoch) o r within h = cc

replace_within : (k : ℕ) (c : Config) (s : Site) (n page word : ℕ) (r : Answer × Site) → AreEpochsWithin k s → replace c s n page word ≡ Ok r → AreEpochsWithin k r.1
unfolding replace
replace_within k c s n page word r within h =
    let m = of_vm (vm_at s n) _ r h in
    let v = m.vm in
    let pass = passed (replace_gate (standing v) page (is_here (place_at v page)) (free_count c.frames s) (list_any is_above_min s.vms)) _ r m.then in
    of v (victim v word) pass.1
  where
    of : (v : Vm) (o : Option ℕ) → trade_for c s n v page o ≡ Ok r → AreEpochsWithin k r.1
    of v None e = cc
    of v (Some q) e = traded_within k c s n page (place_at v page) q (place_at v q) (freed_slot c s (place_at v page)) r within e

stop_within : (k : ℕ) (s : Site) (n : ℕ) (r : Answer × Site) → AreEpochsWithin k s → stop s n ≡ Ok r → AreEpochsWithin k r.1
unfolding stop
stop_within k s n r within h =
    let m = of_vm (vm_at s n) _ r h in
    let v = m.vm in
    let pass = passed (stop_gate (standing v)) _ r m.then in
    let w : Vm = record v { state = Stopping; period = None } in
    leads k answers.Done (with_vm s n w) r pass.1 (with_row k s n w within (epoch_at k s n v within m.there))

drop_page_within : (k : ℕ) (s : Site) (n page : ℕ) (r : Answer × Site) → AreEpochsWithin k s → drop_page s n page ≡ Ok r → AreEpochsWithin k r.1
unfolding drop_page
drop_page_within k s n page r within h =
    let m = of_vm (vm_at s n) _ r h in
    let v = m.vm in
    let pass = passed (drop_gate (standing v) page (is_here (place_at v page) || is_out (place_at v page))) _ r m.then in
    leads k answers.Done (placed s n page places.Untouched) r pass.1 (moved k s n page places.Untouched within)

gone_within : (k : ℕ) (s : Site) (n : ℕ) (r : Answer × Site) → AreEpochsWithin k s → gone s n ≡ Ok r → AreEpochsWithin k r.1
unfolding gone
gone_within k s n r within h =
    let m = of_vm (vm_at s n) _ r h in
    let v = m.vm in
    let pass = passed (gone_gate (standing v)) _ r m.then in
    let bare : Site = record s { vms = set s.vms n None } in
    elim (chosen (nat_lt 1 (length v.overhead)) (accepted (answers.GivenBack (length v.overhead - 1)) (with_vm s n (without_last v))) (accepted answers.Gone bare) (Ok r) pass.1) [
      | inl x ↦ leads k (answers.GivenBack (length v.overhead - 1)) (with_vm s n (without_last v)) r x.1 (with_row k s n (without_last v) within (epoch_at k s n v within m.there))
      | inr x ↦ leads k answers.Gone bare r x.1 (all_set (IsEpochWithin k) s.vms n None within tt)
    ]

-- All events.

step_within : (k : ℕ) (c : Config) (s : Site) (level : Level) (e : Event) (r : Answer × Site) → AreEpochsWithin k s → step c s level e ≡ Ok r → AreEpochsWithin (k + 1) r.1
step_within k c s level (Admit n spec) r within h = admit_within (k + 1) c s n spec r (later k s within) h
step_within k c s level (Start n) r within h = start_within (k + 1) c s n r (later k s within) h
step_within k c s level (Read n page at len) r within h = read_within (k + 1) c s level n page at len r (later k s within) h
step_within k c s level (Write n page at new) r within h = write_within (k + 1) c s level n page at new r (later k s within) h
step_within k c s level (Ask n) r within h = ask_within k s n r within h
step_within k c s level (Lend n page) r within h = lend_within k s n page r within h
step_within k c s level (TakeBack n page) r within h = take_back_within k s n page r within h
step_within k c s level (Sample n len words) r within h = sample_within (k + 1) s n len words r (later k s within) h
step_within k c s level Rebalance r within h = rebalance_within (k + 1) c s level r (later k s within) h
step_within k c s level (Scan n page) r within h = scan_within (k + 1) c s n page r (later k s within) h
step_within k c s level (SwapOut n word) r within h = swap_out_within (k + 1) c s level n word r (later k s within) h
step_within k c s level (Replace n page word) r within h = replace_within (k + 1) c s n page word r (later k s within) h
step_within k c s level (SetShares n shares) r within h = set_shares_within (k + 1) s n shares r (later k s within) h
step_within k c s level (SetTax tau) r within h = set_tax_within (k + 1) s tau r (later k s within) h
step_within k c s level (SetVmTax n tau) r within h = set_vm_tax_within (k + 1) s n tau r (later k s within) h
step_within k c s level (Stop n) r within h = stop_within (k + 1) s n r (later k s within) h
step_within k c s level (DropPage n page) r within h = drop_page_within (k + 1) s n page r (later k s within) h
step_within k c s level (Gone n) r within h = gone_within (k + 1) s n r (later k s within) h

pub event_within : (c : Config) (k : ℕ) (t : Scene) (e : Event) (r : Answer × Scene) → AreEpochsWithin k t.site → next c t e ≡ Ok r → AreEpochsWithin (k + 1) r.1.site
event_within c k t e r within h =
    let s = step_of c t e r h in
    subst (AreEpochsWithin (k + 1)) s.3 (step_within k c t.site t.level e s.0 within s.1)

run_within : (c : Config) (k i : ℕ) (es : List Event) (t u : Scene) → AreEpochsWithin k t.site → run_from c i es t ≡ Ok u → AreEpochsWithin (k + length es) u.site
unfolding run_from
run_within c k i [] t u within h =
    let same : t ≡ u = cc in
    let none : k ≡ k + length {A = Event} [] = omega arith in
    let P : Scene → Type 0 = λ x. AreEpochsWithin k x.site in
    let Q : ℕ → Type 0 = λ n. AreEpochsWithin n u.site in
    subst Q none (subst P same within)
run_within c k i (e ∷ es) t u within h =
    let one = run_one i (next c t e) (λ x. run_from c (i + 1) es x) u h in
    let more = run_within c (k + 1) (i + 1) es one.0.1 u (event_within c k t e one.0 within one.1) one.2 in
    let all : (k + 1) + length es ≡ k + length (e ∷ es) = omega arith in
    let Q : ℕ → Type 0 = λ n. AreEpochsWithin n u.site in
    subst Q all more

pub path_within : (c : Config) (es : List Event) (t : Scene) → run c es ≡ Ok t → AreEpochsWithin (length es) t.site
path_within c es t h =
    let all : 0 + length es ≡ length es = omega arith in
    let Q : ℕ → Type 0 = λ n. AreEpochsWithin n t.site in
    subst Q all (run_within c 0 0 es (opening c) t (all_none 0 VM_NUMBERS) h)

pub each_within : (c : Config) (es : List Event) (t : Scene) (n : ℕ) (v : Vm) → run c es ≡ Ok t → vm_at t.site n ≡ Some v → v.epoch ≤ length es
each_within c es t n v h there = epoch_at (length es) t.site n v (path_within c es t h) there

-- the tables have the epochs of the site
pub shown_within : (c : Config) (k : ℕ) (s : Site) (n : ℕ) (v : VmRow) → AreEpochsWithin k s → get_or (tables_of c s).vms n None ≡ Some v → v.epoch ≤ k
shown_within c k s n v within there = of s.vms n within there
  where
    of : (vms : List (Option Vm)) (i : ℕ) → AllByRecursion (IsEpochWithin k) vms → get_or (map (option_map vm_table) vms) i None ≡ Some v → v.epoch ≤ k
    of [] i h e = cc
    of (None ∷ vms) zero h e = cc
    of (Some x ∷ vms) zero h e = (let same : vm_table x ≡ v = cc in let low = h.0 in let eq = ap (λ (r : VmRow). r.epoch) same in omega arith)
    of (x ∷ vms) (suc i) h e = of vms i h.1 e
