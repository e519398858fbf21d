-- Each event of version 1 does the same by both versions' rules, where the upper bits tell the contents apart that were looked at.
use Rattle.std.proofs.Common.{zero, suc, ◌≡◌, ℕ, ◌+◌, ◌≤◌, Bool, true, false, not, ◌==◌, nat_lt, nat_le, cond, List, [], ◌∷◌, map, get_or, set, length, replicate, take, drop, ◌-◌, ◌&&◌, ◌||◌, is_some, refl, sym, ap, ◌∙◌, subst, Option, Some, None, Result, Ok, Err}
use Rattle.std.proofs.lemmas.Bool.{ltb-false}
use Rattle.std.specs.Option.{option_map}
use Rattle.std.specs.List.{AllByRecursion, list_any}
use Rattle.std.specs.Prelude.{bytes_eq, sum_by, min}
use Rattle.esx_types.specs.declared.config.Config.{Config}
use Rattle.esx_types.specs.declared.config.TheConstants.{VM_NUMBERS}
use Rattle.esx_types.specs.Ranges.{IsConfig}
use Rattle.esx_types.specs.declared.vm.VmState.TheVariants.{Stopping}
use Rattle.esx_types.specs.declared.vm.VmSpec.{VmSpec}
use Rattle.esx_types.specs.declared.level.Level.{Level}
use Rattle.esx_types.specs.declared.level.Level.TheVariants.{High, Soft, Hard, Low}
use Rattle.esx_types.specs.declared.table.Hint.{Hint}
use Rattle.esx_events.specs.declared.event.Event.{Event}
use Rattle.esx_events.specs.declared.event.Event.TheVariants.{Admit, Start, Read, Write, Ask, Lend, TakeBack, Sample, Rebalance, Scan, SwapOut, Replace, SetShares, SetTax, SetVmTax, Stop, DropPage, Gone}
use Rattle.esx_events.specs.declared.event.Answer.{Answer}
use Rattle.esx_events.specs.declared.event.Answer.TheVariants as answers
use Rattle.esx_events.specs.declared.event.Refusal.{Refusal}
use Rattle.esx_events.specs.declared.event.Refusal.TheVariants.{BadSpec, NotRunning, OutOfRange, NotResident}
use Rattle.esx_events.specs.declared.event.Scanned.TheVariants as scanned
use Rattle.esx_model.specs.declared.look.Standing.{Standing}
use Rattle.esx_formulas.specs.declared.activity.Period.{Period}
use Rattle.esx_formulas.specs.declared.targets.Row.{Row}
use Rattle.esx_formulas.specs.Key.{content_key}
use Rattle.esx_formulas.specs.Level.{next_level, high_threshold, margin}
use Rattle.esx_formulas.specs.Targets.{targets_of, spare}
use Rattle.esx_formulas.specs.v1.Targets as v1targets
use Rattle.esx_formulas.specs.Ratio.{tax_of}
use Rattle.esx_formulas.specs.ShareLaws.{AreTaxed}
use Rattle.esx_formulas.proofs.CommonTax.{same_targets}
use Rattle.esx_model.specs.declared.look.Look.{Look}
use Rattle.esx_model.specs.declared.look.Look.TheVariants.{Already, SharedFrame, OtherPage, Changed, OtherBytes, Nothing}
use Rattle.esx_model.specs.declared.scene.Place.{Place}
use Rattle.esx_model.specs.declared.scene.Place.TheVariants.{Untouched, Here, Out, Lent}
use Rattle.esx_model.specs.declared.scene.Vm.{Vm}
use Rattle.esx_model.specs.declared.scene.Site.{Site}
use Rattle.esx_model.specs.declared.scene.Scene.{Scene}
use Rattle.esx_model.specs.Places.{is_here, is_out, is_private, is_shared, contents}
use Rattle.esx_model.specs.Site.{least_free, free_count, least_slot, vm_at, with_vm, place_at, place_of, lent, pages_at, all_places, all_overhead}
use Rattle.esx_model.specs.Hints.{other_hint, with_place, hints_at, with_change, placed, is_hint_of, without_hint}
use Rattle.esx_model.specs.event.Outcome.{is_running, Outcome, Gate, at_vm, or_else, first, unless, standing, goal, running_gate, page_gate}
use Rattle.esx_model.specs.event.Admission.{memory_with, swap_with, admit_gate, reserves_in, admitted, admit}
use Rattle.esx_model.specs.event.Starting.{start_gate, with_overhead, take_overhead, start}
use Rattle.esx_model.specs.event.Access.{access_gate, read_frame, write_frame, after_access, settle, read_at, write_at, overwritten, read, write}
use Rattle.esx_model.specs.event.Balloon.{is_lent, popped, unless_due, ask, lend_gate, lend, take_back_gate, take_back}
use Rattle.esx_model.specs.event.Sampling.{sample_gate, opened_period, sample, counted_in, counted}
use Rattle.esx_model.specs.event.Rebalancing.{rows_from, rows_of, min_of, with_targets, at_max, need, share_out, rebalance, shares_gate, set_shares, set_tax}
use Rattle.esx_model.specs.event.Sharing.{shared_under, look_at_hinted, look_at_hint, look_private, look, hinted, after_look, said_of, looked, scan_gate, scan_place, scan}
use Rattle.esx_model.specs.event.Paging.{victim, swap_out_gate, to_slot, leave_by, leave, swap_out, is_above_min, replace_gate, freed_slot, trade, trade_for, replace}
use Rattle.esx_model.specs.event.Leaving.{stop_gate, stop, drop_gate, drop_page, gone_gate, without_last, gone}
use Rattle.esx_model.specs.Step.{step}
use Rattle.esx_model.specs.Show.{shown, frame_row, slot_row, shared_rows}
use Rattle.esx_model.specs.Replay.{opening, settled, next}
use Rattle.esx_laws.specs.v1.Sharing as v1sharing
use Rattle.esx_laws.specs.v1.Paging as v1paging
use Rattle.esx_laws.specs.v1.Rebalancing as v1rebalancing
use Rattle.esx_laws.specs.v1.Step as v1step
use Rattle.esx_laws.specs.v1.Step.{IsOfVersion1}
use Rattle.esx_laws.specs.v1.Replay as v1
use Rattle.esx_laws.specs.Versions.{cut_hint, cut, cut_scene, bytes_in, bytes_of_hint, looked_from, looked_of_page, looked_of_vm, looked_by, AreApart, AreLooked, scene_after, ArePlayed, Play, answer_of, played, cut_play, cut_book}
use Rattle.esx_laws.proofs.ShortHints.{IsKnown, AreKnown, known_key, key_test, other_cut, with_cut, with_known, without_cut, all_kept, OnHint, all_found}

-- Machines without a tax of their own.

abbrev IsUntaxed : Option Vm → Type 0
IsUntaxed None = Unit {0}
IsUntaxed (Some v) = v.spec.tau ≡ None

abbrev AreUntaxed : List (Option Vm) → Type 0
AreUntaxed vms = AllByRecursion IsUntaxed vms

set_untaxed : (vms : List (Option Vm)) (n : ℕ) (o : Option Vm) → AreUntaxed vms → IsUntaxed o → AreUntaxed (set vms n o)
set_untaxed [] n o all one = tt
set_untaxed (v ∷ vms) zero o all one = (one, all.1)
set_untaxed (v ∷ vms) (suc n) o all one = (all.0, set_untaxed vms n o all.1 one)

untaxed_or : (vms : List (Option Vm)) (n : ℕ) → AreUntaxed vms → IsUntaxed (get_or vms n None)
untaxed_or [] n all = tt
untaxed_or (v ∷ vms) zero all = all.0
untaxed_or (v ∷ vms) (suc n) all = untaxed_or vms n all.1

untaxed_at : (s : Site) (n : ℕ) (v : Vm) → AreUntaxed s.vms → vm_at s n ≡ Some v → v.spec.tau ≡ None
untaxed_at s n v all there = (let P : Option Vm → Type 0 = IsUntaxed in subst P there (untaxed_or s.vms n all))

untaxed_change : (s : Site) (n : ℕ) (change : Vm → Vm) → ((v : Vm) → (change v).spec.tau ≡ v.spec.tau) → AreUntaxed s.vms → AreUntaxed (set s.vms n (option_map change (vm_at s n)))
untaxed_change s n change same all = set_untaxed s.vms n (option_map change (vm_at s n)) all (of (vm_at s n) (untaxed_or s.vms n all))
  where
    of : (o : Option Vm) → IsUntaxed o → IsUntaxed (option_map change o)
    of None h = tt
    of (Some v) h = same v ∙ h

counted_tax : (page : ℕ) (v : Vm) → (counted page v).spec.tau ≡ v.spec.tau
counted_tax page v = of v.period
  where
    by : (a b : Vm) (t : Bool) → a.spec.tau ≡ v.spec.tau → b.spec.tau ≡ v.spec.tau → (cond t a b).spec.tau ≡ v.spec.tau
    by a b true e f = e
    by a b false e f = f

    of : (o : Option Period) → (counted_in page v o).spec.tau ≡ v.spec.tau
    of None = refl
    of (Some p) = by _ _ _ refl refl

retargeted : (vms : List (Option Vm)) (ts : List ℕ) → AreUntaxed vms → AreUntaxed (with_targets vms ts)
retargeted [] ts all = tt
retargeted (None ∷ vms) ts all = (tt, retargeted vms ts all.1)
retargeted (Some v ∷ vms) [] all = (all.0, retargeted vms [] all.1)
retargeted (Some v ∷ vms) (t ∷ ts) all = (all.0, retargeted vms ts all.1)

maximal : (vms : List (Option Vm)) → AreUntaxed vms → AreUntaxed (map (option_map at_max) vms)
maximal [] all = tt
maximal (None ∷ vms) all = (tt, maximal vms all.1)
maximal (Some v ∷ vms) all = (all.0, maximal vms all.1)

rows_taxed : (tau n : ℕ) (vms : List (Option Vm)) → AreUntaxed vms → AreTaxed tau (rows_from tau min_of n vms)
rows_taxed tau n [] all = tt
rows_taxed tau n (None ∷ vms) all = rows_taxed tau (n + 1) vms all.1
rows_taxed tau n (Some v ∷ vms) all = (ap (tax_of tau) all.0, rows_taxed tau (n + 1) vms all.1)

none_untaxed : (n : ℕ) → AreUntaxed (replicate n None)
none_untaxed zero = tt
none_untaxed (suc n) = (tt, none_untaxed n)

-- What is read of a site does not hang on its hints.

free_cut : (frames : ℕ) (s : Site) → least_free frames (cut s) ≡ least_free frames s
unfolding least_free
free_cut frames s = refl

count_cut : (frames : ℕ) (s : Site) → free_count frames (cut s) ≡ free_count frames s
unfolding free_count
count_cut frames s = refl

slot_cut : (slots : ℕ) (s : Site) → least_slot slots (cut s) ≡ least_slot slots s
unfolding least_slot
slot_cut slots s = refl

pages_cut : (f : ℕ) (s : Site) → pages_at f (cut s) ≡ pages_at f s
unfolding pages_at
pages_cut f s = refl

shared_cut : (key : ℕ) (s : Site) → shared_under key (cut s) ≡ shared_under key s
unfolding shared_under all_places
shared_cut key s = refl

rows_cut : (s : Site) → rows_of min_of (cut s) ≡ rows_of min_of s
unfolding rows_of
rows_cut s = refl

hints_cut : (n page : ℕ) (q : Place) (hints : List Hint) → hints_at n page q (map cut_hint hints) ≡ map cut_hint (hints_at n page q hints)
hints_cut n page q hints = of (is_private q)
  where
    of : (t : Bool) → cond t (map cut_hint hints) (without_hint n page (map cut_hint hints)) ≡ map cut_hint (cond t hints (without_hint n page hints))
    of true = refl
    of false = without_cut n page hints

placed_cut : (s : Site) (n page : ℕ) (q : Place) → placed (cut s) n page q ≡ cut (placed s n page q)
unfolding placed
placed_cut s n page q = ap (λ hs. record s { vms = set s.vms n (option_map (with_place page q) (vm_at s n)); hints = hs }) (hints_cut n page q s.hints)

access_cut : (s : Site) (n page : ℕ) (q : Place) → after_access (cut s) n page q ≡ cut (after_access s n page q)
access_cut s n page q = ap (λ t. with_change t n (counted page)) (placed_cut (with_change s n (popped page)) n page q)

said_cut : (t : Site) (l : Look) → said_of (cut t) l ≡ said_of t l
said_cut t Already = refl
said_cut t (SharedFrame f) = ap (scanned.Shared f) (pages_cut f t)
said_cut t (OtherPage m q f) = ap (scanned.Shared f) (pages_cut f t)
said_cut t Changed = refl
said_cut t OtherBytes = refl
said_cut t Nothing = refl

module _ (looked_test : List ℕ → Bool) (apart : AreApart looked_test) where
  -- what version 1's sites keep
  pub record Stands (s : Site) : Type 0 where
    pub known : AreKnown looked_test apart s.hints
    pub untaxed : AreUntaxed s.vms
    pub tau : s.tau ≤ 99

  -- an outcome of version 1, and one of the present rules at the site that is cut
  abbrev Alike : Outcome → Outcome → Type 0
  Alike (Err e) o = o ≡ Err e
  Alike (Ok r) o = (o ≡ Ok (r.0, cut r.1)) × Stands r.1

  alike_at : (o : Option Vm) (f g : Vm → Outcome) → ((v : Vm) → o ≡ Some v → Alike (f v) (g v)) → Alike (at_vm o f) (at_vm o g)
  alike_at None f g h = refl
  alike_at (Some v) f g h = h v refl

  alike_unless : (gate : Gate) (a b : Outcome) → Alike a b → Alike (unless gate a) (unless gate b)
  alike_unless gate a b h = of (first gate)
    where
      of : (o : Option Refusal) → Alike (or_else o a) (or_else o b)
      of None = h
      of (Some e) = refl

  -- the outcome by the present rules is another way to write this one
  alike_by : (a b d : Outcome) → d ≡ b → Alike a b → Alike a d
  alike_by a b d e h = (let P : Outcome → Type 0 = Alike a in subst P (sym e) h)

  placed_keeps : (s : Site) → Stands s → (n page : ℕ) (q : Place) → Stands (placed s n page q)
  unfolding placed
  placed_keeps s stands n page q = record {
    known = of (is_private q);
    untaxed = untaxed_change s n (with_place page q) (λ v. refl) stands.untaxed;
    tau = stands.tau;
  }
    where
      of : (t : Bool) → AreKnown looked_test apart (cond t s.hints (without_hint n page s.hints))
      of true = stands.known
      of false = all_kept (λ (h : Hint). IsKnown looked_test apart h.key) (λ h. not (is_hint_of n page h)) s.hints stands.known

  module _ (s : Site) (stands : Stands s) where
    row : (a : Answer) (n : ℕ) (v w : Vm) → vm_at s n ≡ Some v → w.spec.tau ≡ v.spec.tau → Alike (Ok (a, with_vm s n w)) (Ok (a, with_vm (cut s) n w))
    row a n v w there same = (
      refl,
      record {
        known = stands.known;
        untaxed = set_untaxed s.vms n (Some w) stands.untaxed (same ∙ untaxed_at s n v stands.untaxed there);
        tau = stands.tau;
      },
    )

    same_site : (a : Answer) → Alike (Ok (a, s)) (Ok (a, cut s))
    same_site a = (refl, stands)

    change_stands : (n : ℕ) (change : Vm → Vm) → ((v : Vm) → (change v).spec.tau ≡ v.spec.tau) → Stands (with_change s n change)
    change_stands n change same = record { known = stands.known; untaxed = untaxed_change s n change same stands.untaxed; tau = stands.tau }

    moved : (a : Answer) (n page : ℕ) (q : Place) → Alike (Ok (a, placed s n page q)) (Ok (a, placed (cut s) n page q))
    moved a n page q = (ap (λ t. let o : Outcome = Ok (a, t) in o) (placed_cut s n page q), placed_keeps s stands n page q)

    accessed_stands : (n page : ℕ) (q : Place) → Stands (after_access s n page q)
    accessed_stands n page q =
        let before = change_stands n (popped page) (λ v. refl) in
        let there : Stands (placed (with_change s n (popped page)) n page q) = placed_keeps (with_change s n (popped page)) before n page q in
        record { known = there.known; untaxed = untaxed_change (placed (with_change s n (popped page)) n page q) n (counted page) (counted_tax page) there.untaxed; tau = there.tau }

    due : (n : ℕ) (v : Vm) (a b : Outcome) → vm_at s n ≡ Some v → Alike a b → Alike (unless_due s n v a) (unless_due (cut s) n v b)
    due n v a b there h = of v.due
      where
        of : (t : Bool) → Alike (cond t (Ok (answers.Reset (v.epoch + 1), with_vm s n (record v { epoch = v.epoch + 1; due = false }))) a)
            (cond t (Ok (answers.Reset (v.epoch + 1), with_vm (cut s) n (record v { epoch = v.epoch + 1; due = false }))) b)
        of true = row (answers.Reset (v.epoch + 1)) n v (record v { epoch = v.epoch + 1; due = false }) there refl
        of false = h

    admit_alike : (c : Config) (n : ℕ) (spec : VmSpec) → spec.tau ≡ None → Alike (admit c s n spec) (admit c (cut s) n spec)
    unfolding admit
    admit_alike c n spec none =
        let a : Answer = answers.Admitted (reserves_in c (memory_with s spec) (swap_with s spec)) in
        let fine : Stands (with_vm s n (admitted spec)) = record { known = stands.known; untaxed = set_untaxed s.vms n (Some (admitted spec)) stands.untaxed none; tau = stands.tau } in
        let alike : Alike (Ok (a, with_vm s n (admitted spec))) (Ok (a, with_vm (cut s) n (admitted spec))) = (refl, fine) in
        alike_unless (admit_gate c (is_some (vm_at s n)) spec (memory_with s spec) (swap_with s spec)) (Ok (a, with_vm s n (admitted spec))) (Ok (a, with_vm (cut s) n (admitted spec))) alike

    start_alike : (c : Config) (n : ℕ) → Alike (start c s n) (start c (cut s) n)
    unfolding start
    start_alike c n = alike_at (vm_at s n) _ _ (λ v there. alike_unless (start_gate (standing v)) _ _
        (alike_by (take_overhead s n v (least_free c.frames s)) (take_overhead (cut s) n v (least_free c.frames s)) _ (ap (take_overhead (cut s) n v) (free_cut c.frames s)) (of v there (least_free c.frames s))))
      where
        of : (v : Vm) → vm_at s n ≡ Some v → (o : Option ℕ) → Alike (take_overhead s n v o) (take_overhead (cut s) n v o)
        of v there None = refl
        of v there (Some f) = row _ n v (with_overhead v f) there refl

    settle_alike : (n page : ℕ) (a : Answer) (bytes : List ℕ) (shared : Bool) (o : Option ℕ) → Alike (settle s n page a bytes shared o) (settle (cut s) n page a bytes shared o)
    settle_alike n page a bytes shared None = refl
    settle_alike n page a bytes shared (Some f) =
        (ap (λ t. let o : Outcome = Ok (a, t) in o) (access_cut s n page (Here bytes f shared)), accessed_stands n page (Here bytes f shared))

    read_frame_cut : (c : Config) (p : Place) → read_frame c (cut s) p ≡ read_frame c s p
    read_frame_cut c (Here bytes f shared) = refl
    read_frame_cut c Untouched = free_cut c.frames s
    read_frame_cut c (Out bytes slot) = free_cut c.frames s
    read_frame_cut c (Lent epoch) = free_cut c.frames s

    write_frame_cut : (c : Config) (p : Place) → write_frame c (cut s) p ≡ write_frame c s p
    write_frame_cut c (Here bytes f shared) =
        ap (λ k. cond (shared && nat_lt 1 k) (least_free c.frames (cut s)) (Some f)) (pages_cut f s) ∙ ap (λ o. cond (shared && nat_lt 1 (pages_at f s)) o (Some f)) (free_cut c.frames s)
    write_frame_cut c Untouched = free_cut c.frames s
    write_frame_cut c (Out bytes slot) = free_cut c.frames s
    write_frame_cut c (Lent epoch) = free_cut c.frames s

    read_alike : (c : Config) (level : Level) (n page at len : ℕ) → Alike (read c s level n page at len) (read c (cut s) level n page at len)
    unfolding read
    read_alike c level n page at len = alike_at (vm_at s n) _ _ (λ v there. alike_unless (access_gate c level (standing v) page at len) _ _ (of (place_at v page)))
      where
        of : (p : Place) → Alike (read_at c s n page at len p) (read_at c (cut s) n page at len p)
        of p =
            let a : Answer = answers.Bytes (take len (drop at (contents c p))) in
            alike_by _ _ _ (ap (settle (cut s) n page a (contents c p) (is_shared p)) (read_frame_cut c p)) (settle_alike n page a (contents c p) (is_shared p) (read_frame c s p))

    write_alike : (c : Config) (level : Level) (n page at : ℕ) (new : List ℕ) → Alike (write c s level n page at new) (write c (cut s) level n page at new)
    unfolding write
    write_alike c level n page at new = alike_at (vm_at s n) _ _ (λ v there. alike_unless (access_gate c level (standing v) page at (length new)) _ _ (of (place_at v page)))
      where
        of : (p : Place) → Alike (write_at c s n page at new p) (write_at c (cut s) n page at new p)
        of p = alike_by _ _ _ (ap (settle (cut s) n page answers.Done (overwritten (contents c p) at new) false) (write_frame_cut c p))
            (settle_alike n page answers.Done (overwritten (contents c p) at new) false (write_frame c s p))

    ask_alike : (n : ℕ) → Alike (ask s n) (ask (cut s) n)
    unfolding ask
    ask_alike n = alike_at (vm_at s n) _ _ (λ v there. alike_unless (running_gate (standing v)) _ _ (due n v _ _ there (same_site (answers.Goal (goal (standing v)) (lent v) v.epoch))))

    lend_alike : (n page : ℕ) → Alike (lend s n page) (lend (cut s) n page)
    unfolding lend
    lend_alike n page = alike_at (vm_at s n) _ _ (λ v there. alike_unless (page_gate (standing v) page) _ _
        (due n v _ _ there (alike_unless (lend_gate (is_lent v page) (standing v)) _ _ (moved (answers.Lent (lent v + 1) (goal (standing v))) n page (Lent v.epoch)))))

    take_back_alike : (n page : ℕ) → Alike (take_back s n page) (take_back (cut s) n page)
    unfolding take_back
    take_back_alike n page = alike_at (vm_at s n) _ _ (λ v there. alike_unless (page_gate (standing v) page) _ _
        (due n v _ _ there (alike_unless (take_back_gate (is_lent v page)) _ _ (moved (answers.TakenBack (lent v - 1)) n page Untouched))))

    sample_alike : (n len : ℕ) (words : List ℕ) → Alike (sample s n len words) (sample (cut s) n len words)
    unfolding sample
    sample_alike n len words = alike_at (vm_at s n) _ _ (λ v there. alike_unless (sample_gate (standing v) (length words) len (is_some v.period)) _ _
        (row (answers.Opened len (length words)) n v (record v { period = Some (opened_period v.spec.max len words) }) there refl))

    set_shares_alike : (n shares : ℕ) → Alike (set_shares s n shares) (set_shares (cut s) n shares)
    unfolding set_shares
    set_shares_alike n shares = alike_at (vm_at s n) _ _ (λ v there. alike_unless (shares_gate shares) _ _
        (row answers.Done n v (record v { spec = record v.spec { shares = shares } }) there refl))

    stop_alike : (n : ℕ) → Alike (stop s n) (stop (cut s) n)
    unfolding stop
    stop_alike n = alike_at (vm_at s n) _ _ (λ v there. alike_unless (stop_gate (standing v)) _ _ (row answers.Done n v (record v { state = Stopping; period = None }) there refl))

    drop_alike : (n page : ℕ) → Alike (drop_page s n page) (drop_page (cut s) n page)
    unfolding drop_page
    drop_alike n page = alike_at (vm_at s n) _ _ (λ v there. alike_unless (drop_gate (standing v) page (is_here (place_at v page) || is_out (place_at v page))) _ _ (moved answers.Done n page Untouched))

    gone_alike : (n : ℕ) → Alike (gone s n) (gone (cut s) n)
    unfolding gone
    gone_alike n = alike_at (vm_at s n) _ _ (λ v there. alike_unless (gone_gate (standing v)) _ _ (of v there (nat_lt 1 (length v.overhead))))
      where
        of : (v : Vm) → vm_at s n ≡ Some v → (t : Bool) → Alike (cond t (Ok (answers.GivenBack (length v.overhead - 1), with_vm s n (without_last v))) (Ok (answers.Gone, record s { vms = set s.vms n None })))
            (cond t (Ok (answers.GivenBack (length v.overhead - 1), with_vm (cut s) n (without_last v))) (Ok (answers.Gone, record (cut s) { vms = set s.vms n None })))
        of v there true = row (answers.GivenBack (length v.overhead - 1)) n v (without_last v) there refl
        of v there false = (refl, record { known = stands.known; untaxed = set_untaxed s.vms n None stands.untaxed tt; tau = stands.tau })

    set_tax_alike : (tau : ℕ) → Alike (set_tax s tau) (set_tax (cut s) tau)
    unfolding set_tax
    set_tax_alike tau = of (nat_lt 99 tau) refl
      where
        of : (t : Bool) → nat_lt 99 tau ≡ t → Alike (unless ((t, BadSpec) ∷ []) (Ok (answers.Done, record s { tau = tau }))) (unless ((t, BadSpec) ∷ []) (Ok (answers.Done, record (cut s) { tau = tau })))
        of true e = refl
        of false e = (refl, record { known = stands.known; untaxed = stands.untaxed; tau = ltb-false _ _ e })

    freed_cut : (c : Config) (p : Place) → freed_slot c (cut s) p ≡ freed_slot c s p
    freed_cut c (Out bytes slot) = refl
    freed_cut c Untouched = slot_cut c.slots s
    freed_cut c (Here bytes f shared) = slot_cut c.slots s
    freed_cut c (Lent epoch) = slot_cut c.slots s

    trade_alike : (c : Config) (n page : ℕ) (wanted : Place) (q : ℕ) (p : Place) (o : Option ℕ) → Alike (trade c s n page wanted q p o) (trade c (cut s) n page wanted q p o)
    trade_alike c n page wanted q (Here bytes f shared) (Some slot) =
        let t : Site = with_change s n (popped page) in
        let before : Stands t = change_stands n (popped page) (λ v. refl) in
        let middle : Stands (placed t n q (Out bytes slot)) = placed_keeps t before n q (Out bytes slot) in
        let e : placed (placed (cut t) n q (Out bytes slot)) n page (Here (contents c wanted) f false) ≡ cut (placed (placed t n q (Out bytes slot)) n page (Here (contents c wanted) f false)) =
        ap (λ u. placed u n page (Here (contents c wanted) f false)) (placed_cut t n q (Out bytes slot)) ∙ placed_cut (placed t n q (Out bytes slot)) n page (Here (contents c wanted) f false) in
        (ap (λ u. let o : Outcome = Ok (answers.Replaced q slot f, u) in o) e, placed_keeps (placed t n q (Out bytes slot)) middle n page (Here (contents c wanted) f false))
    trade_alike c n page wanted q (Here bytes f shared) None = refl
    trade_alike c n page wanted q Untouched o = refl
    trade_alike c n page wanted q (Out bytes i) o = refl
    trade_alike c n page wanted q (Lent epoch) o = refl

    replace_alike : (c : Config) (n page word : ℕ) → Alike (replace c s n page word) (replace c (cut s) n page word)
    unfolding replace
    replace_alike c n page word = alike_at (vm_at s n) _ _ (λ v there.
        alike_by _ _ _ (ap (λ k. unless (replace_gate (standing v) page (is_here (place_at v page)) k (list_any is_above_min s.vms)) (trade_for c (cut s) n v page (victim v word))) (count_cut c.frames s))
        (alike_unless (replace_gate (standing v) page (is_here (place_at v page)) (free_count c.frames s) (list_any is_above_min s.vms)) _ _ (of v (victim v word))))
      where
        of : (v : Vm) (o : Option ℕ) → Alike (trade_for c s n v page o) (trade_for c (cut s) n v page o)
        of v None = refl
        of v (Some q) = alike_by _ _ _ (ap (trade c (cut s) n page (place_at v page) q (place_at v q)) (freed_cut c (place_at v page))) (trade_alike c n page (place_at v page) q (place_at v q) (freed_slot c s (place_at v page)))

    need_cut : (c : Config) → need c (cut s) ≡ need c s
    need_cut c = ap (λ k. high_threshold c + margin c - k) (count_cut c.frames s)

    untaxed_rows : AreTaxed s.tau (rows_of min_of s)
    unfolding rows_of
    untaxed_rows = rows_taxed s.tau 0 s.vms stands.untaxed

    shared_out : ℕ → List Row → List ℕ → Outcome
    shared_out k rows ts = Ok (answers.Rebalanced k (min k (sum_by spare rows)), record (cut s) { vms = with_targets s.vms ts })

    share_out_alike : (c : Config) → Alike (v1rebalancing.share_out c s) (share_out c (cut s))
    unfolding shared_out
    share_out_alike c = (
      ap (λ k. shared_out k (rows_of min_of (cut s)) (targets_of (rows_of min_of (cut s)) k)) (need_cut c)
          ∙ ap (λ rs. shared_out (need c s) rs (targets_of rs (need c s))) (rows_cut s)
          ∙ ap (shared_out (need c s) (rows_of min_of s)) (same_targets s.tau (rows_of min_of s) (need c s) stands.tau untaxed_rows),
      record { known = stands.known; untaxed = retargeted s.vms (v1targets.targets_of s.tau (rows_of min_of s) (need c s)) stands.untaxed; tau = stands.tau },
    )

    rebalance_alike : (c : Config) (level : Level) → Alike (v1rebalancing.rebalance c s level) (rebalance c (cut s) level)
    unfolding rebalance v1rebalancing.rebalance
    rebalance_alike c High = (refl, record { known = stands.known; untaxed = maximal s.vms stands.untaxed; tau = stands.tau })
    rebalance_alike c Soft = share_out_alike c
    rebalance_alike c Hard = share_out_alike c
    rebalance_alike c Low = share_out_alike c

    -- The look at hints.

    at_place : (bytes : List ℕ) (h : Hint) (p : Place) → IsKnown looked_test apart h.key → AreLooked looked_test (bytes_in p) → look_at_hinted bytes (cut_hint h) p ≡ v1sharing.look_at_hinted bytes h p
    at_place bytes h (Here others f shared) known at =
        ap (λ t. cond (not t) Changed (cond (bytes_eq bytes others) (OtherPage h.vm h.page f) OtherBytes)) (key_test looked_test apart (content_key others) h.key (known_key looked_test apart others at.0) known)
    at_place bytes h Untouched known at = refl
    at_place bytes h (Out others slot) known at = refl
    at_place bytes h (Lent epoch) known at = refl

    at_hint : (bytes : List ℕ) (o : Option Hint) → OnHint (λ (h : Hint). IsKnown looked_test apart h.key) o → AreLooked looked_test (bytes_of_hint s o) → look_at_hint (cut s) bytes (option_map cut_hint o) ≡ v1sharing.look_at_hint s bytes o
    at_hint bytes None known at = refl
    at_hint bytes (Some h) known at = at_place bytes h (place_of s h.vm h.page) known at

    look_same : (n page : ℕ) (p : Place) → AreLooked looked_test (looked_from s n page p) → look (cut s) n page p ≡ v1sharing.look s n page p
    unfolding look v1sharing.look
    look_same n page Untouched at = refl
    look_same n page (Out bytes slot) at = refl
    look_same n page (Lent epoch) at = refl
    look_same n page (Here bytes f true) at = refl
    look_same n page (Here bytes f false) at = ap (look_private (cut s) n page bytes) (shared_cut (content_key bytes) s) ∙ of (shared_under (content_key bytes) s)
      where
        of : (o : Option Place) → look_private (cut s) n page bytes o ≡ v1sharing.look_private s n page bytes o
        of (Some p) = refl
        of None =
            ap (look_at_hint (cut s) bytes) (other_cut looked_test apart (content_key bytes) n page s.hints (known_key looked_test apart bytes at.0) stands.known)
            ∙ at_hint bytes (other_hint (content_key bytes) n page s.hints) (all_found (λ (h : Hint). IsKnown looked_test apart h.key) (λ h. (h.key == content_key bytes) && not (is_hint_of n page h)) s.hints stands.known) at.1

    both_cut : (n page m q f : ℕ) (bytes : List ℕ) → placed (placed (cut s) m q (Here bytes f true)) n page (Here bytes f true) ≡ cut (placed (placed s m q (Here bytes f true)) n page (Here bytes f true))
    both_cut n page m q f bytes = ap (λ u. placed u n page (Here bytes f true)) (placed_cut s m q (Here bytes f true)) ∙ placed_cut (placed s m q (Here bytes f true)) n page (Here bytes f true)

    both_stands : (n page m q f : ℕ) (bytes : List ℕ) → Stands (placed (placed s m q (Here bytes f true)) n page (Here bytes f true))
    both_stands n page m q f bytes = placed_keeps (placed s m q (Here bytes f true)) (placed_keeps s stands m q (Here bytes f true)) n page (Here bytes f true)

    hinted_cut : (n page : ℕ) (bytes : List ℕ) → looked_test bytes ≡ true → hinted (cut s) n page bytes ≡ cut (v1sharing.hinted s n page bytes)
    hinted_cut n page bytes at = ap (λ hs. record s { hints = hs }) (with_cut looked_test apart (record { key = content_key bytes; vm = n; page = page }) s.hints (known_key looked_test apart bytes at) stands.known)

    hinted_stands : (n page : ℕ) (bytes : List ℕ) → looked_test bytes ≡ true → Stands (v1sharing.hinted s n page bytes)
    hinted_stands n page bytes at = record {
      known = with_known looked_test apart (record { key = content_key bytes; vm = n; page = page }) s.hints (known_key looked_test apart bytes at) stands.known;
      untaxed = stands.untaxed;
      tau = stands.tau;
    }

    after_cut : (n page : ℕ) (bytes : List ℕ) → looked_test bytes ≡ true → (l : Look) → after_look (cut s) n page bytes l ≡ cut (v1sharing.after_look s n page bytes l)
    after_cut n page bytes at Already = refl
    after_cut n page bytes at (SharedFrame f) = placed_cut s n page (Here bytes f true)
    after_cut n page bytes at (OtherPage m q f) = both_cut n page m q f bytes
    after_cut n page bytes at Changed = hinted_cut n page bytes at
    after_cut n page bytes at OtherBytes = refl
    after_cut n page bytes at Nothing = hinted_cut n page bytes at

    after_stands : (n page : ℕ) (bytes : List ℕ) → looked_test bytes ≡ true → (l : Look) → Stands (v1sharing.after_look s n page bytes l)
    after_stands n page bytes at Already = stands
    after_stands n page bytes at (SharedFrame f) = placed_keeps s stands n page (Here bytes f true)
    after_stands n page bytes at (OtherPage m q f) = both_stands n page m q f bytes
    after_stands n page bytes at Changed = hinted_stands n page bytes at
    after_stands n page bytes at OtherBytes = stands
    after_stands n page bytes at Nothing = hinted_stands n page bytes at

    looked_alike : (n page : ℕ) (bytes : List ℕ) → looked_test bytes ≡ true → (l : Look) → Alike (looked l (v1sharing.after_look s n page bytes l)) (looked l (after_look (cut s) n page bytes l))
    looked_alike n page bytes at l =
        let t : Site = v1sharing.after_look s n page bytes l in (
          ap (λ u. let o : Outcome = Ok (answers.Looked (said_of u l), u) in o) (after_cut n page bytes at l) ∙ ap (λ x. let o : Outcome = Ok (answers.Looked x, cut t) in o) (said_cut t l),
          after_stands n page bytes at l,
        )

    refused : (a b : Bool) (x y : Outcome) → Alike (unless ((a, NotRunning) ∷ (b, OutOfRange) ∷ (true, NotResident) ∷ []) x) (unless ((a, NotRunning) ∷ (b, OutOfRange) ∷ (true, NotResident) ∷ []) y)
    refused true b x y = refl
    refused false true x y = refl
    refused false false x y = refl

    scan_at : (c : Config) (n page : ℕ) (m : Standing) (p : Place) → AreLooked looked_test (looked_from s n page p) →
        Alike (unless (scan_gate m page (is_here p)) (v1sharing.scan_place c s n page p)) (unless (scan_gate m page (is_here p)) (scan_place c (cut s) n page p))
    scan_at c n page m (Here bytes f shared) at =
        alike_unless (scan_gate m page true) _ _
        (alike_by (v1sharing.scan_place c s n page (Here bytes f shared)) _ _ (ap (λ l. looked l (after_look (cut s) n page bytes l)) (look_same n page (Here bytes f shared) at))
        (looked_alike n page bytes at.0 (v1sharing.look s n page (Here bytes f shared))))
    scan_at c n page m Untouched at = refused (not (is_running m.state)) (nat_le m.spec.max page) _ _
    scan_at c n page m (Out bytes slot) at = refused (not (is_running m.state)) (nat_le m.spec.max page) _ _
    scan_at c n page m (Lent epoch) at = refused (not (is_running m.state)) (nat_le m.spec.max page) _ _

    looked_there : (n : ℕ) (drawn : Vm → Option ℕ) (v : Vm) → vm_at s n ≡ Some v → AreLooked looked_test (looked_of_vm s n drawn (vm_at s n)) → AreLooked looked_test (looked_of_page s n v (drawn v))
    looked_there n drawn v there at = (let P : Option Vm → Type 0 = λ o. AreLooked looked_test (looked_of_vm s n drawn o) in subst P there at)

    scan_alike : (c : Config) (n page : ℕ) → AreLooked looked_test (looked_by s (Scan n page)) → Alike (v1sharing.scan c s n page) (scan c (cut s) n page)
    unfolding scan v1sharing.scan
    scan_alike c n page at = alike_at (vm_at s n) _ _ (λ v there. scan_at c n page (standing v) (place_at v page) (looked_there n (λ w. Some page) v there at))

    slot_alike : (n page : ℕ) (bytes : List ℕ) (o : Option ℕ) → Alike (to_slot s n page bytes o) (to_slot (cut s) n page bytes o)
    slot_alike n page bytes None = refl
    slot_alike n page bytes (Some slot) = moved (answers.PagedOut page slot) n page (Out bytes slot)

    out_alike : (c : Config) (n page : ℕ) (bytes : List ℕ) → Alike (to_slot s n page bytes (least_slot c.slots s)) (to_slot (cut s) n page bytes (least_slot c.slots (cut s)))
    out_alike c n page bytes = alike_by _ _ _ (ap (to_slot (cut s) n page bytes) (slot_cut c.slots s)) (slot_alike n page bytes (least_slot c.slots s))

    leave_alike : (c : Config) (n page : ℕ) (bytes : List ℕ) (l : Look) → Alike (leave_by c s n page bytes l) (leave_by c (cut s) n page bytes l)
    leave_alike c n page bytes (SharedFrame f) = moved (answers.SharedOut page f) n page (Here bytes f true)
    leave_alike c n page bytes (OtherPage m q f) = (ap (λ u. let o : Outcome = Ok (answers.SharedOut page f, u) in o) (both_cut n page m q f bytes), both_stands n page m q f bytes)
    leave_alike c n page bytes Already = out_alike c n page bytes
    leave_alike c n page bytes Changed = out_alike c n page bytes
    leave_alike c n page bytes OtherBytes = out_alike c n page bytes
    leave_alike c n page bytes Nothing = out_alike c n page bytes

    swap_out_alike : (c : Config) (level : Level) (n word : ℕ) → AreLooked looked_test (looked_by s (SwapOut n word)) → Alike (v1paging.swap_out c s level n word) (swap_out c (cut s) level n word)
    unfolding swap_out v1paging.swap_out
    swap_out_alike c level n word at = alike_at (vm_at s n) _ _ (λ v there. alike_unless (swap_out_gate level (standing v)) _ _ (of v (victim v word) (looked_there n (λ w. victim w word) v there at)))
      where
        of : (v : Vm) (o : Option ℕ) → AreLooked looked_test (looked_of_page s n v o) → Alike (v1paging.leave c s n v o) (leave c (cut s) n v o)
        of v None near = refl
        of v (Some page) near = alike_by _ _ _ (ap (leave_by c (cut s) n page (contents c (place_at v page))) (look_same n page (place_at v page) near))
            (leave_alike c n page (contents c (place_at v page)) (v1sharing.look s n page (place_at v page)))

    step_alike : (c : Config) (level : Level) (e : Event) → IsOfVersion1 e → AreLooked looked_test (looked_by s e) → Alike (v1step.step c s level e) (step c (cut s) level e)
    step_alike c level (Admit n spec) old at = admit_alike c n spec old
    step_alike c level (Start n) old at = start_alike c n
    step_alike c level (Read n page from len) old at = read_alike c level n page from len
    step_alike c level (Write n page from new) old at = write_alike c level n page from new
    step_alike c level (Ask n) old at = ask_alike n
    step_alike c level (Lend n page) old at = lend_alike n page
    step_alike c level (TakeBack n page) old at = take_back_alike n page
    step_alike c level (Sample n len words) old at = sample_alike n len words
    step_alike c level Rebalance old at = rebalance_alike c level
    step_alike c level (Scan n page) old at = scan_alike c n page at
    step_alike c level (SwapOut n word) old at = swap_out_alike c level n word at
    step_alike c level (Replace n page word) old at = replace_alike c n page word
    step_alike c level (SetShares n shares) old at = set_shares_alike n shares
    step_alike c level (SetTax tau) old at = set_tax_alike tau
    step_alike c level (SetVmTax n tau) old at = absurd old
    step_alike c level (Stop n) old at = stop_alike n
    step_alike c level (DropPage n page) old at = drop_alike n page
    step_alike c level (Gone n) old at = gone_alike n

  -- Scenes and plays.

  cut_next : Result (Answer × Scene) Refusal → Result (Answer × Scene) Refusal
  cut_next (Err e) = Err e
  cut_next (Ok r) = Ok (r.0, cut_scene r.1)

  settled_alike : (c : Config) (level : Level) (a b : Outcome) → Alike a b → settled c level b ≡ cut_next (settled c level a)
  unfolding cut_next
  settled_alike c level (Err e) b h = ap (settled c level) h
  settled_alike c level (Ok r) b h =
      ap (settled c level) h.0 ∙ ap (λ k. let o : Result (Answer × Scene) Refusal = Ok (r.0, record { site = cut r.1; level = next_level c level k }) in o) (count_cut c.frames r.1)

  settled_stands : (c : Config) (t : Scene) (a b : Outcome) → Stands t.site → Alike a b → Stands (scene_after t (settled c t.level a)).site
  settled_stands c t (Err e) b stands h = stands
  settled_stands c t (Ok r) b stands h = h.1

  answer_cut : (r : Result (Answer × Scene) Refusal) → answer_of (cut_next r) ≡ answer_of r
  unfolding cut_next
  answer_cut (Err e) = refl
  answer_cut (Ok r) = refl

  scene_cut : (t : Scene) (r : Result (Answer × Scene) Refusal) → scene_after (cut_scene t) (cut_next r) ≡ cut_scene (scene_after t r)
  unfolding cut_next
  scene_cut t (Err e) = refl
  scene_cut t (Ok r) = refl

  next_alike : (c : Config) (t : Scene) (e : Event) → Stands t.site → IsOfVersion1 e → AreLooked looked_test (looked_by t.site e) → next c (cut_scene t) e ≡ cut_next (v1.next c t e)
  unfolding next v1.next
  next_alike c t e stands old at = settled_alike c t.level (v1step.step c t.site t.level e) (step c (cut t.site) t.level e) (step_alike t.site stands c t.level e old at)

  next_stands : (c : Config) (t : Scene) (e : Event) → Stands t.site → IsOfVersion1 e → AreLooked looked_test (looked_by t.site e) → Stands (scene_after t (v1.next c t e)).site
  unfolding v1.next
  next_stands c t e stands old at = settled_stands c t (v1step.step c t.site t.level e) (step c (cut t.site) t.level e) stands (step_alike t.site stands c t.level e old at)

  pub played_alike : (c : Config) (es : List Event) (t : Scene) → Stands t.site → ArePlayed looked_test c es t → played (next c) es (cut_scene t) ≡ cut_play (played (v1.next c) es t)
  unfolding played ArePlayed
  played_alike c [] t stands at = refl
  played_alike c (e ∷ es) t stands at =
      let one : Result (Answer × Scene) Refusal = v1.next c t e in
      let told : Result (Answer × Scene) Refusal → Play = λ m. (answer_of m ∷ (played (next c) es (scene_after (cut_scene t) m)).0, (played (next c) es (scene_after (cut_scene t) m)).1) in
      let along : Result Answer Refusal → Play → Play = λ a p. (a ∷ p.0, p.1) in
      ap told (next_alike c t e stands at.0 at.1)
      ∙ ap (λ a. along a (played (next c) es (scene_after (cut_scene t) (cut_next one)))) (answer_cut one)
      ∙ ap (λ u. along (answer_of one) (played (next c) es u)) (scene_cut t one)
      ∙ ap (along (answer_of one)) (played_alike c es (scene_after t one) (next_stands c t e stands at.0 at.1) at.2)

  pub opened_alike : (c : Config) (es : List Event) → IsConfig c → ArePlayed looked_test c es (opening c) → played (next c) es (opening c) ≡ cut_play (played (v1.next c) es (opening c))
  opened_alike c es fine at = played_alike c es (opening c) (record { known = tt; untaxed = none_untaxed VM_NUMBERS; tau = fine.most_tau }) at

pub books_alike : (c : Config) (t : Scene) → shown c (cut_scene t) ≡ cut_book (shown c t)
unfolding frame_row slot_row shared_rows all_places all_overhead
books_alike c t = refl
