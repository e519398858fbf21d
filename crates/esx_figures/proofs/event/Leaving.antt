-- What the end of a machine changes of pages in shared frames.
use Rattle.std.proofs.Common.{◌≡◌, ◌≤◌, ℕ, ◌+◌, ◌-◌, true, false, ◌||◌, nat_lt, List, [], ◌∷◌, length, set, refl, sym, ap, ◌∙◌, subst, arith, Some, None, Ok, cond, inl, inr, count_by}
use Rattle.std.proofs.lemmas.List.Sums.{sum_by-cons}
use Rattle.std.proofs.lemmas.Bool.Decides.{nat_tests}
use Rattle.esx_types.specs.declared.config.Config.{Config}
use Rattle.esx_types.specs.declared.vm.VmState.TheVariants.{Stopping}
use Rattle.esx_events.specs.declared.event.Answer.{Answer}
use Rattle.esx_events.specs.declared.event.Answer.TheVariants as answers
use Rattle.esx_model.specs.declared.scene.Place.{Place}
use Rattle.esx_model.specs.declared.scene.Place.TheVariants.{Untouched, Here, Out, Lent}
use Rattle.esx_model.specs.declared.scene.Vm.{Vm}
use Rattle.esx_model.specs.declared.scene.Site.{Site}
use Rattle.esx_model.specs.Places.{is_here, is_out, is_shared}
use Rattle.esx_model.specs.Site.{vm_at, with_vm, place_at, resident, paged_out}
use Rattle.esx_model.specs.Hints.{placed}
use Rattle.esx_model.specs.event.Outcome.{standing}
use Rattle.esx_model.specs.event.Leaving.{stop_gate, stop, drop_gate, drop_page, gone_gate, without_last, gone}
use Rattle.esx_model.specs.sound.Sound.{IsSound}
use Rattle.esx_model.proofs.Callers.{one, of_vm, passed, accepted, same_site, chosen, some_below, below_max}
use Rattle.esx_figures.specs.Figures.{shared_pages}
use Rattle.esx_figures.specs.Sharing.{shared_in, has_shared, parted}
use Rattle.esx_figures.proofs.Marks.{Shares, shares_same, shares_parted, same_vm, same_set, put_placed}
use Rattle.esx_figures.proofs.event.Access.{within_places}

pub stop_shares : (s : Site) (n : ℕ) (r : Answer × Site) → stop s n ≡ Ok r → Shares s r.1 None None None
unfolding stop
stop_shares s n r h =
    let own = of_vm (vm_at s n) _ r h in
    let v = own.vm in
    let pass = passed (stop_gate (standing v)) _ r own.then in
    let w : Vm = record v { state = Stopping; period = None } in
    let P : Site → Type 0 = λ t. Shares s t None None None in
    subst P (same_site answers.Done (with_vm s n w) r pass.1) (shares_same s (with_vm s n w) (same_vm s n v w s.hints own.there refl))

pub drop_page_shares : (c : Config) (s : Site) (n page : ℕ) (r : Answer × Site) → IsSound c s → drop_page s n page ≡ Ok r → Shares s r.1 (parted s (Some (n, page))) None None
unfolding drop_page
drop_page_shares c s n page r sound h =
    let own = of_vm (vm_at s n) _ r h in
    let v = own.vm in
    let pass = passed (drop_gate (standing v) page (is_here (place_at v page) || is_out (place_at v page))) _ r own.then in
    let within = within_places c s n page v sound own.there (below_max v.spec.max page pass.0.1.0) in
    let P : Site → Type 0 = λ t. Shares s t (parted s (Some (n, page))) None None in
    subst P (same_site answers.Done (placed s n page Untouched) r pass.1) (shares_parted s (placed s n page Untouched) n (has_shared s n page) (put_placed s n page v Untouched own.there within))

-- a page in a shared frame is in a frame
shared_here : (p : Place) → one (is_shared p) ≤ one (is_here p)
shared_here Untouched = omega arith
shared_here (Here bytes f true) = omega arith
shared_here (Here bytes f false) = omega arith
shared_here (Out bytes i) = omega arith
shared_here (Lent e) = omega arith

pub fewer_shared : (ps : List Place) → count_by is_shared ps ≤ count_by is_here ps
fewer_shared [] = omega arith
fewer_shared (p ∷ ps) =
    let shared = sum_by-cons (λ x. cond (is_shared x) 1 0) p ps in
    let here = sum_by-cons (λ x. cond (is_here x) 1 0) p ps in
    let head = shared_here p in
    let rest = fewer_shared ps in
    omega (arith, shared, here, head, rest)

no_pages : (a b : ℕ) → nat_lt 0 (a + b) ≡ false → a ≡ 0
no_pages a b h = grind (arith, nat_tests)

pub gone_shares : (s : Site) (n : ℕ) (r : Answer × Site) → gone s n ≡ Ok r → Shares s r.1 None None None
unfolding gone
gone_shares s n r h =
    let own = of_vm (vm_at s n) _ r h in
    let v = own.vm in
    let pass = passed (gone_gate (standing v)) _ r own.then in
    let w = without_last v in
    let none : Site = record s { vms = set s.vms n None } in
    let P : Site → Type 0 = λ t. Shares s t None None None in
    let no_here : resident v ≡ 0 = no_pages (resident v) (paged_out v) pass.0.1.0 in
    let fewer = fewer_shared v.places in
    let empty : shared_pages v ≡ 0 = omega (arith, no_here, fewer) in
    elim (chosen (nat_lt 1 (length v.overhead)) (accepted (answers.GivenBack (length v.overhead - 1)) (with_vm s n w)) (accepted answers.Gone none) (Ok r) pass.1) [
      | inl k ↦ subst P (same_site (answers.GivenBack (length v.overhead - 1)) (with_vm s n w) r k.1) (shares_same s (with_vm s n w) (same_vm s n v w s.hints own.there refl))
      | inr k ↦ subst P (same_site answers.Gone none r k.1) (shares_same s none (same_set s n None s.hints s.tau (some_below s.vms n v own.there) (sym (ap shared_in own.there ∙ empty))))
    ]
