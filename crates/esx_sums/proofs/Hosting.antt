-- A page in whose frame another came changed its place so.
use Rattle.std.proofs.Common.{◌≡◌, ℕ, true, false, List, refl, sym, ap, ◌∙◌, subst, arith, cond, Option, Some, None, Ok}
use Rattle.std.proofs.lemmas.Bool.Decides.{nat_tests}
use Rattle.std.proofs.lemmas.List.{get_or-set_same}
use Rattle.esx_types.specs.declared.config.Config.{Config}
use Rattle.esx_types.specs.declared.level.Level.{Level}
use Rattle.esx_events.specs.declared.event.Answer.{Answer}
use Rattle.esx_events.specs.declared.event.Answer.TheVariants as answers
use Rattle.esx_events.specs.declared.event.Event.{Event}
use Rattle.esx_events.specs.declared.event.Event.TheVariants.{Scan, SwapOut}
use Rattle.esx_model.specs.declared.look.Look.{Look}
use Rattle.esx_model.specs.declared.look.Look.TheVariants.{Already, SharedFrame, OtherPage, Changed, OtherBytes, Nothing}
use Rattle.esx_model.specs.declared.scene.Place.{Place}
use Rattle.esx_model.specs.declared.scene.Place.TheVariants as places
use Rattle.esx_model.specs.declared.scene.Vm.{Vm}
use Rattle.esx_model.specs.declared.scene.Site.{Site}
use Rattle.esx_model.specs.declared.scene.Scene.{Scene}
use Rattle.esx_model.specs.Places.{is_here, contents}
use Rattle.esx_model.specs.Site.{vm_at, place_at, place_in, place_of, least_slot}
use Rattle.esx_model.specs.Hints.{is_hint_of, with_place, placed}
use Rattle.esx_model.specs.Replay.{next}
use Rattle.esx_model.specs.event.Outcome.{standing}
use Rattle.esx_model.specs.event.Sharing.{look, after_look, said_of, scan_gate, scan, other_found, found_by}
use Rattle.esx_model.specs.event.Paging.{victim, swap_out_gate, to_slot, leave_by, leave, swap_out}
use Rattle.esx_model.specs.sound.Sound.{IsSound}
use Rattle.esx_model.proofs.Callers.{step_of, of_vm, passed, SeesPage, Sees, look_sees, beside, place_within, vm_placed_there, eqb_same}
use Rattle.esx_story.specs.declared.change.How.TheVariants.{Host}
use Rattle.esx_story.specs.declared.change.Spot.{Spot}
use Rattle.esx_story.specs.declared.change.Spot.TheVariants as spots
use Rattle.esx_story.specs.Spots.{spot_of, how_here, how_of, ends_loans}
use Rattle.esx_story.proofs.event.Access.{outcome_is}
use Rattle.esx_sums.specs.Moving.{page_shared}
use Rattle.esx_sums.specs.Telling.{IsHostHow}
use Rattle.esx_sums.proofs.Moved.{here_spot, was_spot, looked_on}

other_way : (n page m q : ℕ) → is_hint_of n page (record { key = 0; vm = m; page = q }) ≡ false → is_hint_of m q (record { key = 0; vm = n; page = page }) ≡ false
other_way n page m q h = grind (arith, nat_tests)

-- its frame was its own, and serves another too
host_how : (e : Event) (s : Site) (n page : ℕ) (v : Vm) (bytes : List ℕ) (m q f : ℕ) → vm_at s n ≡ Some v → SeesPage s n page bytes m q f
    → how_of e (spot_of s m q) (spot_of (after_look s n page bytes (OtherPage m q f)) m q) ≡ Some Host
host_how e s n page v bytes m q f there sees =
    let p : Place = places.Here bytes f true in
    let w = sees.vm in
    let t = placed s m q p in
    let u = placed t n page p in
    let own = beside s m q w p n page v sees.there there sees.other in
    let there1 = vm_placed_there s m q w p sees.there in
    let within = place_within w.places q (ap is_here sees.place) in
    let back = beside t n page own.vm p m q (with_place q p w) own.there there1 (other_way n page m q sees.other) in
    let was = was_spot s m q w bytes f false sees.there sees.place in
    let is = here_spot (vm_at u m) q bytes f true (ap (λ o. place_in o q) back.there ∙ back.place ∙ get_or-set_same w.places q p places.Untouched within) in
    ap (λ (z : Spot). how_of e z (spot_of u m q)) was ∙ ap (λ (z : Spot). how_of e (spots.Here f false) z) is ∙ ap (λ b. how_here b false true) (eqb_same f)

one_page : (a b : ℕ × ℕ) → Some a ≡ Some b → a ≡ b
one_page a b h = cc

no_page : (a : ℕ × ℕ) → None ≡ Some a → ⊥
no_page a h = cc

host_by : (e : Event) (s : Site) (n page : ℕ) (v : Vm) (bytes : List ℕ) (l : Look) (m q : ℕ) → vm_at s n ≡ Some v → Sees s n page bytes l → other_found l ≡ Some (m, q)
    → how_of e (spot_of s m q) (spot_of (after_look s n page bytes l) m q) ≡ Some Host
host_by e s n page v bytes Already m q there sees h = cc
host_by e s n page v bytes (SharedFrame f) m q there sees h = cc
host_by e s n page v bytes (OtherPage k j f) m q there sees h =
    let after = after_look s n page bytes (OtherPage k j f) in
    let P : (ℕ × ℕ) → Type 0 = λ p. how_of e (spot_of s p.0 p.1) (spot_of after p.0 p.1) ≡ Some Host in
    subst P (one_page (k, j) (m, q) h) (host_how e s n page v bytes k j f there sees)
host_by e s n page v bytes Changed m q there sees h = cc
host_by e s n page v bytes OtherBytes m q there sees h = cc
host_by e s n page v bytes Nothing m q there sees h = cc

-- a page in whose frame another came, by an event between two sites
abbrev IsHosting : Event → Site → (Answer × Site) → Type 0
IsHosting e s x = (m q : ℕ) → found_by s (page_shared e x.0) ≡ Some (m, q) → cond (ends_loans m e x.0) None (how_of e (spot_of s m q) (spot_of x.1 m q)) ≡ Some Host

place_here : (s : Site) (n page : ℕ) (v : Vm) (p : Place) → vm_at s n ≡ Some v → place_at v page ≡ p → look s n page (place_of s n page) ≡ look s n page p
place_here s n page v p there was = ap (look s n page) (ap (λ o. place_in o page) there ∙ was)

scan_hosts : (c : Config) (s : Site) (n page : ℕ) (r : Answer × Site) → IsSound c s → scan c s n page ≡ Ok r → IsHosting (Scan n page) s r
unfolding scan
scan_hosts c s n page r sound h =
    let own = of_vm (vm_at s n) _ r h in
    let v = own.vm in
    let p = place_at v page in
    let pass = passed (scan_gate (standing v) page (is_here p)) _ r own.then in
    subst (IsHosting (Scan n page) s) (outcome_is (answers.Looked (said_of (looked_on c s n page p) (look s n page p))) (looked_on c s n page p) r pass.1)
    (λ m q found. host_by (Scan n page) s n page v (contents c p) (look s n page p) m q own.there (look_sees c s n page p sound) (ap other_found (sym (place_here s n page v p own.there refl)) ∙ found))

none_hosts : (s : Site) (n word page : ℕ) (bytes : List ℕ) (o : Option ℕ) (r : Answer × Site) → to_slot s n page bytes o ≡ Ok r → IsHosting (SwapOut n word) s r
none_hosts s n word page bytes None r h = cc
none_hosts s n word page bytes (Some i) r h =
    subst (IsHosting (SwapOut n word) s) (outcome_is (answers.PagedOut page i) (placed s n page (places.Out bytes i)) r h) (λ m q found. absurd (no_page (m, q) found))

left_hosts : (c : Config) (s : Site) (n word page : ℕ) (v : Vm) (bytes : List ℕ) (l : Look) (r : Answer × Site) → vm_at s n ≡ Some v → look s n page (place_of s n page) ≡ l → Sees s n page bytes l → leave_by c s n page bytes l ≡ Ok r
    → IsHosting (SwapOut n word) s r
left_hosts c s n word page v bytes Already r there is sees h = none_hosts s n word page bytes (least_slot c.slots s) r h
left_hosts c s n word page v bytes (SharedFrame f) r there is sees h =
    subst (IsHosting (SwapOut n word) s) (outcome_is (answers.SharedOut page f) (after_look s n page bytes (SharedFrame f)) r h)
    (λ m q found. host_by (SwapOut n word) s n page v bytes (SharedFrame f) m q there sees (ap other_found (sym is) ∙ found))
left_hosts c s n word page v bytes (OtherPage k j f) r there is sees h =
    subst (IsHosting (SwapOut n word) s) (outcome_is (answers.SharedOut page f) (after_look s n page bytes (OtherPage k j f)) r h)
    (λ m q found. host_by (SwapOut n word) s n page v bytes (OtherPage k j f) m q there sees (ap other_found (sym is) ∙ found))
left_hosts c s n word page v bytes Changed r there is sees h = none_hosts s n word page bytes (least_slot c.slots s) r h
left_hosts c s n word page v bytes OtherBytes r there is sees h = none_hosts s n word page bytes (least_slot c.slots s) r h
left_hosts c s n word page v bytes Nothing r there is sees h = none_hosts s n word page bytes (least_slot c.slots s) r h

leave_hosts : (c : Config) (s : Site) (n word : ℕ) (v : Vm) (o : Option ℕ) (r : Answer × Site) → IsSound c s → vm_at s n ≡ Some v → leave c s n v o ≡ Ok r → IsHosting (SwapOut n word) s r
leave_hosts c s n word v None r sound there h = cc
leave_hosts c s n word v (Some page) r sound there h =
    let p = place_at v page in
    left_hosts c s n word page v (contents c p) (look s n page p) r there (place_here s n page v p there refl) (look_sees c s n page p sound) h

swap_out_hosts : (c : Config) (s : Site) (level : Level) (n word : ℕ) (r : Answer × Site) → IsSound c s → swap_out c s level n word ≡ Ok r → IsHosting (SwapOut n word) s r
unfolding swap_out
swap_out_hosts c s level n word r sound h =
    let own = of_vm (vm_at s n) _ r h in
    let v = own.vm in
    let pass = passed (swap_out_gate level (standing v)) _ r own.then in
    leave_hosts c s n word v (victim v word) r sound own.there pass.1

hosts_by : (c : Config) (t : Scene) (e : Event) (r : Answer × Scene) → IsSound c t.site → next c t e ≡ Ok r → IsHosting e t.site (r.0, r.1.site)
hosts_by c t (Scan n page) r sound h =
    let s = step_of c t (Scan n page) r h in
    let P : Site → Type 0 = λ u. IsHosting (Scan n page) t.site (r.0, u) in
    let Q : Answer → Type 0 = λ a. IsHosting (Scan n page) t.site (a, s.0.1) in
    subst P s.3 (subst Q s.2 (scan_hosts c t.site n page s.0 sound s.1))
hosts_by c t (SwapOut n word) r sound h =
    let s = step_of c t (SwapOut n word) r h in
    let P : Site → Type 0 = λ u. IsHosting (SwapOut n word) t.site (r.0, u) in
    let Q : Answer → Type 0 = λ a. IsHosting (SwapOut n word) t.site (a, s.0.1) in
    subst P s.3 (subst Q s.2 (swap_out_hosts c t.site t.level n word s.0 sound s.1))
hosts_by c t _ r sound h = λ m q found. absurd (no_page (m, q) found)

pub host_is : IsHostHow
host_is c x m q ok found = hosts_by c x.before x.event (x.answer, x.after) ok.0 ok.1 m q found
