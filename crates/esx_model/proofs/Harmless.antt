-- A read changes no page's bytes.
use Rattle.std.proofs.Common.{◌≡◌, ℕ, ◌+◌, ◌<◌, Bool, true, false, nat_le, nat_lt, [], ◌∷◌, ◌++◌, length, take, drop, refl, sym, ap, ◌∙◌, arith, cond, Option, Some, None, Ok, inl, inr, ◌==◌, get_or}
use Rattle.std.proofs.lemmas.List.{get_or-set_same, get_or-set_other}
use Rattle.std.proofs.lemmas.Bool.{cases_eq}
use Rattle.esx_types.specs.declared.config.Config.{Config}
use Rattle.esx_types.specs.declared.level.Level.{Level}
use Rattle.esx_events.specs.declared.event.Answer.{Answer}
use Rattle.esx_events.specs.declared.event.Answer.TheVariants as answers
use Rattle.esx_formulas.specs.declared.activity.Period.{Period}
use Rattle.esx_model.specs.declared.scene.Place.{Place}
use Rattle.esx_model.specs.declared.scene.Place.TheVariants.{Untouched, Here}
use Rattle.esx_model.specs.declared.scene.Vm.{Vm}
use Rattle.esx_model.specs.declared.scene.Site.{Site}
use Rattle.esx_model.specs.Places.{is_shared, contents}
use Rattle.esx_model.specs.Site.{vm_at, with_vm, place_at, place_in, place_of}
use Rattle.esx_model.specs.Hints.{with_place, with_change, hints_at, placed}
use Rattle.esx_model.specs.event.Outcome.{standing}
use Rattle.esx_model.specs.event.Balloon.{popped}
use Rattle.esx_model.specs.event.Sampling.{with_period, counted_in, counted}
use Rattle.esx_model.specs.event.Access.{access_gate, read_frame, after_access, read}
use Rattle.esx_model.specs.sound.Sound.{IsSound}
use Rattle.esx_model.proofs.Lists.{some_below, or_false}
use Rattle.esx_model.proofs.Kept.{place_changed, placed_is, site_with, vm_there, vm_placed_there, with_change_is}
use Rattle.esx_model.proofs.Gates.{of_vm, passed, same_site}
use Rattle.esx_model.proofs.event.Balloon.{below_max}
use Rattle.esx_model.proofs.event.Access.{settled}
use Rattle.esx_formulas.specs.Average.{so_far}

either_places : (v a b : Vm) (t : Bool) → a.places ≡ v.places → b.places ≡ v.places → (cond t a b).places ≡ v.places
either_places v a b true e d = e
either_places v a b false e d = d

counted_places : (page : ℕ) (v : Vm) (o : Option Period) → (counted_in page v o).places ≡ v.places
counted_places page v None = refl
counted_places page v (Some p) = period_places v (record p { accessed = p.accessed ++ page ∷ [] })
  where
    period_places : (v : Vm) (p : Period) → (with_period v p).places ≡ v.places
    period_places v p = of (nat_lt (length p.accessed) p.length)
      where
        of : (t : Bool) → (cond t (record v { period = Some p }) (record v { period = None; closed = v.closed ++ so_far p ∷ [] })).places ≡ v.places
        of true = refl
        of false = refl

-- a page that comes to a frame with the bytes that it reads as
bytes_placed : (c : Config) (s : Site) (n page m k : ℕ) (v : Vm) (f : ℕ) (shared : Bool) → vm_at s n ≡ Some v → page < length v.places
    → contents c (place_of (placed s n page (Here (contents c (place_at v page)) f shared)) m k) ≡ contents c (place_of s m k)
bytes_placed c s n page m k v f shared there within =
    let q : Place = Here (contents c (place_at v page)) f shared in
    let t = site_with s n (with_place page q v) (hints_at n page q s.hints) in
    ap (λ x. contents c (place_of x m k)) (placed_is s n page v q there) ∙ elim (cases_eq k page) [
      | inl e ↦ elim (cases_eq m n) [
        | inl d ↦ ap (λ j. contents c (place_of t j k)) d ∙ ap (λ j. contents c (place_of t n j)) e
            ∙ ap (λ o. contents c (place_in o page)) (get_or-set_same s.vms n (Some (with_place page q v)) None (some_below s.vms n v there))
            ∙ ap (contents c) (get_or-set_same v.places page q Untouched within)
            ∙ ap (λ o. contents c (place_in o page)) (sym there) ∙ ap (λ j. contents c (place_of s n j)) (sym e) ∙ ap (λ j. contents c (place_of s j k)) (sym d)
        | inr other ↦ ap (λ o. contents c (place_in o k)) (get_or-set_other s.vms n m (Some (with_place page q v)) None other)
      ]
      | inr other ↦ ap (contents c) (place_changed s n m k v (with_place page q v) (hints_at n page q s.hints) there (λ d. get_or-set_other v.places page k q Untouched other))
    ]

access_harmless : (c : Config) (s : Site) (n page m k : ℕ) (v : Vm) (f : ℕ) (shared : Bool) → vm_at s n ≡ Some v → page < length v.places
    → contents c (place_of (after_access s n page (Here (contents c (place_at v page)) f shared)) m k) ≡ contents c (place_of s m k)
access_harmless c s n page m k v f shared there within =
    let q : Place = Here (contents c (place_at v page)) f shared in
    let v1 = popped page v in
    let s1 = with_vm s n v1 in
    let there1 = vm_there s n v v1 there in
    let s2 = placed s1 n page q in
    let v2 = with_place page q v1 in
    let there2 = vm_placed_there s1 n page v1 q there1 in
    ap (λ t. contents c (place_of (with_change (placed t n page q) n (counted page)) m k)) (with_change_is s n v (popped page) there)
    ∙ ap (λ t. contents c (place_of t m k)) (with_change_is s2 n v2 (counted page) there2)
    ∙ ap (contents c) (place_changed s2 n m k v2 (counted page v2) s2.hints there2 (λ d. ap (λ ps. get_or ps k Untouched) (counted_places page v2 v2.period)))
    ∙ bytes_placed c s1 n page m k v1 f shared there1 within
    ∙ ap (contents c) (place_changed s n m k v v1 s.hints there (λ d. refl))

pub read_harmless : (c : Config) (s : Site) (level : Level) (n page at len : ℕ) (r : Answer × Site) → IsSound c s → read c s level n page at len ≡ Ok r → (m k : ℕ) → contents c (place_of r.1 m k) ≡ contents c (place_of s m k)
unfolding read
read_harmless c s level n page at len r sound h m k =
    let own = of_vm (vm_at s n) _ r h in
    let v = own.vm in
    let pass = passed (access_gate c level (standing v) page at len) _ r own.then in
    let p = place_at v page in
    let done = settled s n page (answers.Bytes (take len (drop at (contents c p)))) (contents c p) (is_shared p) (read_frame c s p) r pass.1 in
    let fine = sound.each n v own.there in
    let below = below_max v.spec.max page (or_false (nat_le v.spec.max page) (len == 0) (or_false _ (nat_lt c.page (at + len)) pass.0.1.0).0).0 in
    let after = after_access s n page (Here (contents c p) done.0 (is_shared p)) in
    ap (λ t. contents c (place_of t m k)) (sym (same_site (answers.Bytes (take len (drop at (contents c p)))) after r done.2))
    ∙ access_harmless c s n page m k v done.0 (is_shared p) own.there (omega (arith, fine.pages, below))
