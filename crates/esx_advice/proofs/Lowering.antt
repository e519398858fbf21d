-- A page that is paged out lowers the debt.
use Rattle.std.proofs.Common.{◌≡◌, ℕ, ◌<◌, Bool, true, false, List, ◌∷◌, refl, sym, ap, ◌∙◌, subst, arith, Option, Some, None, Ok, ◌==◌, ◌||◌}
use Rattle.std.specs.List.{list_any}
use Rattle.std.proofs.lemmas.List.Folds.{list_any-append}
use Rattle.std.proofs.lemmas.Bool.Decides.{nat_tests}
use Rattle.esx_types.specs.declared.config.Config.{Config}
use Rattle.esx_types.specs.declared.level.Level.{Level}
use Rattle.esx_events.specs.declared.event.Answer.{Answer}
use Rattle.esx_events.specs.declared.event.Answer.TheVariants as answers
use Rattle.esx_model.specs.declared.look.Look.{Look}
use Rattle.esx_model.specs.declared.look.Look.TheVariants.{Already, SharedFrame, OtherPage, Changed, OtherBytes, Nothing}
use Rattle.esx_model.specs.declared.scene.Place.{Place}
use Rattle.esx_model.specs.declared.scene.Place.TheVariants.{Untouched, Here, Out, Lent}
use Rattle.esx_model.specs.declared.scene.Vm.{Vm}
use Rattle.esx_model.specs.declared.scene.Site.{Site}
use Rattle.esx_model.specs.Places.{is_here, is_here_at, contents}
use Rattle.esx_model.specs.Site.{vm_at, place_at, least_slot, all_places, all_overhead}
use Rattle.esx_model.specs.Hints.{placed}
use Rattle.esx_model.specs.event.Outcome.{standing}
use Rattle.esx_model.specs.event.Sharing.{shared_under, look_private, look}
use Rattle.esx_formulas.specs.Key.{content_key}
use Rattle.esx_model.specs.event.Paging.{victim, swap_out_gate, to_slot, leave_by, leave, swap_out}
use Rattle.esx_model.specs.sound.Sound.{IsSound}
use Rattle.esx_model.proofs.Lists as lists
use Rattle.esx_model.proofs.Lists.{eqb_same}
use Rattle.esx_model.proofs.Kept.{placed_changed}
use Rattle.esx_model.proofs.Callers.{of_vm, passed, same_site, drawn_is_here, Sees, look_sees, beside, place_within, share_marked, page_is_in, IsIn, private_alone, apart_frames, frame_below}
use Rattle.esx_model.proofs.Rooms.{is_in_after}
use Rattle.esx_advice.proofs.Weights.{weight, has_page, weight_out, weight_marked, weight_joined}

-- a site whose pages weigh less
abbrev pub Less : Config → Site → Site → Type 0
Less c s t = weight c.frames (all_places t) < weight c.frames (all_places s)

in_has : (ps : List Place) (bytes : List ℕ) (f : ℕ) (shared : Bool) → IsIn ps (Here bytes f shared) → has_page ps f ≡ true
in_has ps bytes f shared i =
    ap (list_any (is_here_at f)) i.is ∙ list_any-append (is_here_at f) i.front (Here bytes f shared ∷ i.back)
    ∙ ap (λ b. has_page i.front f || (b || has_page i.back f)) (eqb_same f) ∙ either (has_page i.front f)
  where
    either : (a : Bool) → (a || true) ≡ true
    either true = refl
    either false = refl

flip_test : (g f : ℕ) (b : Bool) → (f == g) ≡ b → (g == f) ≡ false → (f == g) ≡ false
flip_test g f true e h = (let same : f ≡ g = grind (arith, nat_tests) in let yes : (g == f) ≡ true = grind (arith, nat_tests) in let no = sym yes ∙ h in cc)
flip_test g f false e h = e

out_less : (c : Config) (s : Site) (n page : ℕ) (v : Vm) (bytes old : List ℕ) (g i : ℕ) (shared : Bool) → vm_at s n ≡ Some v → place_at v page ≡ Here bytes g shared → Less c s (placed s n page (Out old i))
out_less c s n page v bytes old g i shared there was =
    let within = place_within v.places page (ap is_here was) in
    let P : Place → Type 0 = λ x. lists.Changed x (Out old i) (all_places s) (all_places (placed s n page (Out old i))) in
    weight_out c.frames bytes old g i shared (all_places s) (all_places (placed s n page (Out old i))) (subst P was (placed_changed s n page v (Out old i) there within))

join_less : (c : Config) (s : Site) (n page : ℕ) (v : Vm) (bytes : List ℕ) (g f : ℕ) → IsSound c s → vm_at s n ≡ Some v → place_at v page ≡ Here bytes g false → IsIn (all_places s) (Here bytes f true) → Less c s (placed s n page (Here bytes f true))
join_less c s n page v bytes g f sound there was i =
    let q : Place = Here bytes f true in
    let within = place_within v.places page (ap is_here was) in
    let P : Place → Type 0 = λ x. lists.Changed x q (all_places s) (all_places (placed s n page q)) in
    let Q : Place → Type 0 = IsIn (all_places s) in
    let own : IsIn (all_places s) (Here bytes g false) = subst Q was (page_is_in s n page v there within) in
    weight_joined c.frames bytes g f (all_places s) (all_places (placed s n page q)) (subst P was (placed_changed s n page v q there within))
    (flip_test g f (f == g) refl (apart_frames c.frames (all_places s) (all_overhead s) bytes bytes g f sound.frames own i))
    (in_has (all_places s) bytes f true i) (private_alone c.frames (all_places s) (all_overhead s) bytes g sound.frames own) (frame_below c s bytes g false sound own)

slot_less : (c : Config) (s : Site) (n page : ℕ) (v : Vm) (bytes old : List ℕ) (g : ℕ) (shared : Bool) (o : Option ℕ) (r : Answer × Site) → vm_at s n ≡ Some v → place_at v page ≡ Here bytes g shared
    → to_slot s n page old o ≡ Ok r → Less c s r.1
slot_less c s n page v bytes old g shared None r there was h = cc
slot_less c s n page v bytes old g shared (Some i) r there was h =
    let P : Site → Type 0 = Less c s in
    subst P (same_site (answers.PagedOut page i) (placed s n page (Out old i)) r h) (out_less c s n page v bytes old g i shared there was)

private_less : (c : Config) (s : Site) (n page : ℕ) (v : Vm) (bytes : List ℕ) (g : ℕ) (l : Look) (r : Answer × Site) → IsSound c s → vm_at s n ≡ Some v → place_at v page ≡ Here bytes g false → Sees s n page bytes l
    → leave_by c s n page bytes l ≡ Ok r → Less c s r.1
private_less c s n page v bytes g Already r sound there was sees h = slot_less c s n page v bytes bytes g false (least_slot c.slots s) r there was h
private_less c s n page v bytes g (SharedFrame f) r sound there was sees h =
    let P : Site → Type 0 = Less c s in
    subst P (same_site (answers.SharedOut page f) (placed s n page (Here bytes f true)) r h) (join_less c s n page v bytes g f sound there was sees)
private_less c s n page v bytes g (OtherPage m q f) r sound there was sees h =
    let p : Place = Here bytes f true in
    let t = placed s m q p in
    let w = sees.vm in
    let sound1 = share_marked c s m q w bytes f sound sees.there sees.place sees.fresh in
    let own = beside s m q w p n page v sees.there there sees.other in
    let within = place_within w.places q (ap is_here sees.place) in
    let P : Place → Type 0 = λ x. lists.Changed x p (all_places s) (all_places t) in
    let ch = subst P sees.place (placed_changed s m q w p sees.there within) in
    let same = weight_marked c.frames bytes f (all_places s) (all_places t) ch in
    let less = join_less c t n page own.vm bytes g f sound1 own.there (own.place ∙ was) (is_in_after (Here bytes f false) p (all_places s) (all_places t) ch) in
    let Q : Site → Type 0 = Less c s in
    subst Q (same_site (answers.SharedOut page f) (placed t n page p) r h) (omega (arith, same, less))
private_less c s n page v bytes g Changed r sound there was sees h = slot_less c s n page v bytes bytes g false (least_slot c.slots s) r there was h
private_less c s n page v bytes g OtherBytes r sound there was sees h = slot_less c s n page v bytes bytes g false (least_slot c.slots s) r there was h
private_less c s n page v bytes g Nothing r sound there was sees h = slot_less c s n page v bytes bytes g false (least_slot c.slots s) r there was h

here_less : (c : Config) (s : Site) (n page : ℕ) (v : Vm) (p : Place) (r : Answer × Site) → IsSound c s → vm_at s n ≡ Some v → place_at v page ≡ p → is_here p ≡ true
    → leave_by c s n page (contents c p) (look s n page p) ≡ Ok r → Less c s r.1
unfolding look
here_less c s n page v Untouched r sound there was here h = cc
here_less c s n page v (Out bytes i) r sound there was here h = cc
here_less c s n page v (Lent e) r sound there was here h = cc
here_less c s n page v (Here bytes g true) r sound there was here h = slot_less c s n page v bytes bytes g true (least_slot c.slots s) r there was h
here_less c s n page v (Here bytes g false) r sound there was here h =
    private_less c s n page v bytes g (look_private s n page bytes (shared_under (content_key bytes) s)) r sound there was (look_sees c s n page (Here bytes g false) sound) h

leave_less : (c : Config) (s : Site) (n : ℕ) (v : Vm) (word : ℕ) (o : Option ℕ) (r : Answer × Site) → IsSound c s → vm_at s n ≡ Some v → victim v word ≡ o → leave c s n v o ≡ Ok r → Less c s r.1
leave_less c s n v word None r sound there drawn h = cc
leave_less c s n v word (Some page) r sound there drawn h = here_less c s n page v (place_at v page) r sound there refl (drawn_is_here v word page drawn).1 h

pub swap_out_less : (c : Config) (s : Site) (level : Level) (n word : ℕ) (r : Answer × Site) → IsSound c s → swap_out c s level n word ≡ Ok r → Less c s r.1
unfolding swap_out
swap_out_less c s level n word r sound h =
    let own = of_vm (vm_at s n) _ r h in
    let v = own.vm in
    let pass = passed (swap_out_gate level (standing v)) _ r own.then in
    leave_less c s n v word (victim v word) r sound own.there refl pass.1
