-- Pages that come to share one frame keep a site sound.
use Rattle.std.proofs.Common.{◌≡◌, ◌≢◌, ℕ, zero, suc, ◌<◌, Bool, true, false, not, List, [], ◌∷◌, length, get_or, count_by, refl, sym, ap, ◌∙◌, subst, arith, cond, Option, Some, None, Ok, inl, inr, ◌==◌}
use Rattle.std.specs.Prelude.{bytes_eq}
use Rattle.std.specs.List.{filter, find, flat_map, AllByRecursion}
use Rattle.std.proofs.lemmas.List.{get_or-set_same, get_or-set_other, length-set}
use Rattle.std.proofs.lemmas.List.Sums.{sum_by-cons}
use Rattle.std.proofs.lemmas.Bool.{cases_eq}
use Rattle.std.proofs.lemmas.Bool.Decides.{nat_tests}
use Rattle.std.proofs.lemmas.Slice.Eq.{bytes_eq-Decides}
use Rattle.esx_types.specs.declared.config.Config.{Config}
use Rattle.esx_types.specs.declared.vm.VmState.{VmState}
use Rattle.esx_types.specs.declared.vm.VmState.TheVariants.{Starting}
use Rattle.esx_events.specs.declared.event.Answer.{Answer}
use Rattle.esx_events.specs.declared.event.Answer.TheVariants as answers
use Rattle.esx_formulas.specs.Key.{content_key, hint_key}
use Rattle.esx_model.specs.declared.look.Look.{Look}
use Rattle.esx_model.specs.declared.look.Look.TheVariants.{Already, SharedFrame, OtherPage, Changed, OtherBytes, Nothing}
use Rattle.esx_types.specs.declared.table.Hint.{Hint}
use Rattle.esx_model.specs.declared.scene.Place.{Place}
use Rattle.esx_model.specs.declared.scene.Place.TheVariants.{Untouched, Here, Out, Lent}
use Rattle.esx_model.specs.declared.scene.Vm.{Vm}
use Rattle.esx_model.specs.declared.scene.Site.{Site}
use Rattle.esx_model.specs.Places.{is_here, is_here_at, is_private, contents}
use Rattle.esx_model.specs.Site.{vm_at, place_at, place_in, place_of, vm_places, all_places, all_overhead}
use Rattle.esx_model.specs.Show.{pages_in, row_of}
use Rattle.esx_model.specs.Hints.{is_hint_of, other_hint, with_place, placed}
use Rattle.esx_model.specs.event.Outcome.{standing}
use Rattle.esx_model.specs.event.Sharing.{is_shared_under, shared_under, look_at_shared, look_at_hinted, look_at_hint, look_private, look, hinted, after_look, said_of, scan_gate, scan}
use Rattle.esx_model.specs.sound.Machines.{IsVm, IsPlace, FitsState}
use Rattle.esx_model.specs.sound.Frames.{key_of_row}
use Rattle.esx_model.specs.sound.Sound.{IsSound}
use Rattle.esx_model.proofs.Lists.{all_append, all_middle, chosen, one, find_passes, find_in, all_map}
use Rattle.esx_model.proofs.Machines.{not_out, not_lent, old_place}
use Rattle.esx_model.proofs.HintsKept.{hints_more, other_hint_private}
use Rattle.esx_model.proofs.Keys.{short_small}
use Rattle.esx_model.proofs.Kept.{placed_sound, placed_is, page_is_in, vm_placed_there}
use Rattle.esx_model.proofs.Rooms.{Room, IsIn, room_to_share, room_shared, private_alone, row_here, shared_row, apart_frames}
use Rattle.esx_model.proofs.Gates.{of_vm, passed, gives, not_not}
use Rattle.esx_model.proofs.event.Balloon.{below_max}
use Rattle.esx_types.specs.declared.vm.VmSpec.{VmSpec}

-- What is found among the pages of a site.

pub none_filtered : {X : Type 0} (p q : X → Bool) (xs : List X) → find p xs ≡ None → find p (filter q xs) ≡ None
none_filtered p q [] h = refl
none_filtered p q (x ∷ xs) h = elim (chosen (p x) (Some x) (find p xs) None h) [
  | inl w ↦ cc
  | inr w ↦ of (q x) w.0 (none_filtered p q xs w.1)
]
  where
    of : (b : Bool) → p x ≡ false → find p (filter q xs) ≡ None → find p (cond b (x ∷ filter q xs) (filter q xs)) ≡ None
    of true e rest = ap (λ t. cond t (Some x) (find p (filter q xs))) e ∙ rest
    of false e rest = rest

-- no frame is shared under a key that no page is shared under
no_row : (key : ℕ) (ps : List Place) → find (is_shared_under key) ps ≡ None → key_of_row (row_of ps) ≢ Some key
no_row key [] h e = cc
no_row key (Untouched ∷ ps) h e = cc
no_row key (Out bytes i ∷ ps) h e = cc
no_row key (Lent d ∷ ps) h e = cc
no_row key (Here bytes f false ∷ ps) h e = cc
no_row key (Here bytes f true ∷ ps) h e =
    let same : content_key bytes ≡ key = cc in
    let test : (content_key bytes == key) ≡ true = grind (arith, nat_tests) in
    let found = ap (λ b. cond b (Some (Here bytes f true)) (find (is_shared_under key) ps)) test in
    let no = sym found ∙ h in cc

pub no_share : (s : Site) (key : ℕ) → shared_under key s ≡ None → (g : ℕ) → key_of_row (row_of (pages_in s g)) ≢ Some key
unfolding shared_under
no_share s key h g = no_row key (pages_in s g) (none_filtered (is_shared_under key) (is_here_at g) (all_places s) h)

-- the frame of a page is the site's
abbrev IsBelow : Config → Place → Type 0
IsBelow c Untouched = Unit {0}
IsBelow c (Here bytes f shared) = f < c.frames
IsBelow c (Out bytes i) = Unit {0}
IsBelow c (Lent e) = Unit {0}

is_below : (c : Config) (e : ℕ) (p : Place) → IsPlace c e p → IsBelow c p
is_below c e Untouched h = tt
is_below c e (Here bytes f shared) h = h.0
is_below c e (Out bytes i) h = tt
is_below c e (Lent d) h = tt

all_below : (c : Config) (vms : List (Option Vm)) → ((n : ℕ) (v : Vm) → get_or vms n None ≡ Some v → IsVm c v) → AllByRecursion (IsBelow c) (flat_map vm_places vms)
all_below c [] each = tt
all_below c (None ∷ os) each = all_below c os (λ n v h. each (suc n) v h)
all_below c (Some v ∷ os) each =
    let fine = each zero v refl in
    all_append (IsBelow c) v.places (flat_map vm_places os) (all_map (IsPlace c v.epoch) (IsBelow c) (is_below c v.epoch) v.places fine.places) (all_below c os (λ n v h. each (suc n) v h))

pub frame_below : (c : Config) (s : Site) (bytes : List ℕ) (f : ℕ) (shared : Bool) → IsSound c s → IsIn (all_places s) (Here bytes f shared) → f < c.frames
unfolding all_places
frame_below c s bytes f shared sound i =
    let P : List Place → Type 0 = AllByRecursion (IsBelow c) in
    all_middle (IsBelow c) i.front i.back (Here bytes f shared) (subst P i.is (all_below c s.vms sound.each))

-- a machine with a page in a frame is past its start
none_here : (ps : List Place) (k : ℕ) → count_by is_here ps ≡ 0 → is_here (get_or ps k Untouched) ≡ true → ⊥
none_here [] k none h = cc
none_here (p ∷ ps) zero none h = (let more = sum_by-cons (λ x. cond (is_here x) 1 0) p ps in let some : one (is_here p) ≡ 1 = ap one h in omega (arith, more, none, some))
none_here (p ∷ ps) (suc k) none h = (let more = sum_by-cons (λ x. cond (is_here x) 1 0) p ps in none_here ps k (omega (arith, more, none)) h)

pub here_past : (c : Config) (v : Vm) (page : ℕ) → IsVm c v → is_here (place_at v page) ≡ true → v.state ≢ Starting
here_past c v page fine here starting =
    let P : VmState → Type 0 = FitsState v in
    none_here v.places page (subst P starting fine.state).1 here

-- a page that is somewhere is one of its machine's
pub place_within : (ps : List Place) (k : ℕ) → is_here (get_or ps k Untouched) ≡ true → k < length ps
place_within [] k h = cc
place_within (p ∷ ps) zero h = omega arith
place_within (p ∷ ps) (suc k) h = (let rest = place_within ps k h in omega arith)

-- What a look tells of the site.

pub record SeesPage (s : Site) (n page : ℕ) (bytes : List ℕ) (m q f : ℕ) : Type 0 where
  pub vm : Vm
  pub there : vm_at s m ≡ Some vm
  pub place : place_at vm q ≡ Here bytes f false
  pub other : is_hint_of n page (record { key = 0; vm = m; page = q }) ≡ false
  pub fresh : (g : ℕ) → key_of_row (row_of (pages_in s g)) ≢ Some (content_key bytes)

abbrev pub Sees : Site → ℕ → ℕ → List ℕ → Look → Type 0
Sees s n page bytes Already = Unit {0}
Sees s n page bytes (SharedFrame f) = IsIn (all_places s) (Here bytes f true)
Sees s n page bytes (OtherPage m q f) = SeesPage s n page bytes m q f
Sees s n page bytes Changed = Unit {0}
Sees s n page bytes OtherBytes = Unit {0}
Sees s n page bytes Nothing = Unit {0}

equal_bytes : (a b : List ℕ) → bytes_eq a b ≡ true → a ≡ b
equal_bytes a b h = grind (bytes_eq-Decides, arith)

sees_shared : (s : Site) (n page : ℕ) (bytes : List ℕ) (p : Place) → IsIn (all_places s) p → is_shared_under (content_key bytes) p ≡ true → Sees s n page bytes (look_at_shared bytes p)
sees_shared s n page bytes Untouched i h = tt
sees_shared s n page bytes (Out others j) i h = tt
sees_shared s n page bytes (Lent e) i h = tt
sees_shared s n page bytes (Here others f false) i h = cc
sees_shared s n page bytes (Here others f true) i h = of (bytes_eq bytes others) refl
  where
    of : (b : Bool) → bytes_eq bytes others ≡ b → Sees s n page bytes (cond b (SharedFrame f) OtherBytes)
    of true e = (let P : List ℕ → Type 0 = λ xs. IsIn (all_places s) (Here xs f true) in subst P (sym (equal_bytes bytes others e)) i)
    of false e = tt

sees_hinted : (s : Site) (n page : ℕ) (bytes : List ℕ) (h : Hint) (o : Option Vm) (p : Place) → vm_at s h.vm ≡ o → place_in o h.page ≡ p → is_private p ≡ true → is_hint_of n page h ≡ false
    → ((g : ℕ) → key_of_row (row_of (pages_in s g)) ≢ Some (content_key bytes)) → Sees s n page bytes (look_at_hinted bytes h p)
sees_hinted s n page bytes h o Untouched there was here other fresh = tt
sees_hinted s n page bytes h o (Out others j) there was here other fresh = tt
sees_hinted s n page bytes h o (Lent e) there was here other fresh = tt
sees_hinted s n page bytes h o (Here others f true) there was here other fresh = cc
sees_hinted s n page bytes h None (Here others f false) there was here other fresh = cc
sees_hinted s n page bytes h (Some v) (Here others f false) there was here other fresh = of (not (hint_key others == h.key)) (bytes_eq bytes others) refl
  where
    of : (a b : Bool) → bytes_eq bytes others ≡ b → Sees s n page bytes (cond a Changed (cond b (OtherPage h.vm h.page f) OtherBytes))
    of true b e = tt
    of false false e = tt
    of false true e = record { vm = v; there = there; place = was ∙ ap (λ xs. Here xs f false) (sym (equal_bytes bytes others e)); other = other; fresh = fresh }

sees_hint : (c : Config) (s : Site) (n page : ℕ) (bytes : List ℕ) (o : Option Hint) → IsSound c s → other_hint (hint_key bytes) n page s.hints ≡ o
    → ((g : ℕ) → key_of_row (row_of (pages_in s g)) ≢ Some (content_key bytes)) → Sees s n page bytes (look_at_hint s bytes o)
sees_hint c s n page bytes None sound found fresh = tt
sees_hint c s n page bytes (Some h) sound found fresh =
    let known = other_hint_private (place_of s) (hint_key bytes) n page s.hints h sound.hints found in
    sees_hinted s n page bytes h (vm_at s h.vm) (place_of s h.vm h.page) refl refl known.1 known.2 fresh

sees_private : (c : Config) (s : Site) (n page : ℕ) (bytes : List ℕ) (o : Option Place) → IsSound c s → shared_under (content_key bytes) s ≡ o → Sees s n page bytes (look_private s n page bytes o)
unfolding shared_under
sees_private c s n page bytes (Some p) sound found =
    let split = find_in (is_shared_under (content_key bytes)) (all_places s) p found in
    sees_shared s n page bytes p (record { front = split.0; back = split.1; is = split.2 }) (find_passes (is_shared_under (content_key bytes)) (all_places s) p found)
sees_private c s n page bytes None sound found = sees_hint c s n page bytes (other_hint (hint_key bytes) n page s.hints) sound refl (no_share s (content_key bytes) found)

pub look_sees : (c : Config) (s : Site) (n page : ℕ) (p : Place) → IsSound c s → Sees s n page (contents c p) (look s n page p)
unfolding look
look_sees c s n page Untouched sound = tt
look_sees c s n page (Out bytes i) sound = tt
look_sees c s n page (Lent e) sound = tt
look_sees c s n page (Here bytes f true) sound = tt
look_sees c s n page (Here bytes f false) sound = sees_private c s n page bytes (shared_under (content_key bytes) s) sound refl

-- Into a frame that is shared with its bytes.

pub share_joined : (c : Config) (s : Site) (n page : ℕ) (v : Vm) (bytes : List ℕ) (g f : ℕ) → IsSound c s → vm_at s n ≡ Some v → page < v.spec.max → place_at v page ≡ Here bytes g false → IsIn (all_places s) (Here bytes f true)
    → IsSound c (placed s n page (Here bytes f true))
share_joined c s n page v bytes g f sound there below was i =
    let fine = sound.each n v there in
    let within : page < length v.places = omega (arith, fine.pages) in
    let P : Place → Type 0 = IsPlace c v.epoch in
    let place : IsPlace c v.epoch (Here bytes g false) = subst P was (old_place c v page fine within) in
    let Q : Place → Type 0 = IsIn (all_places s) in
    let own : IsIn (all_places s) (Here bytes g false) = subst Q was (page_is_in s n page v there within) in
    let row = shared_row c.frames (all_places s) (all_overhead s) bytes f sound.frames i in
    let R : Place → Type 0 = λ p. Room c s p (Here bytes f true) in
    let room = room_shared c s (Here bytes g false) bytes f row.0 (apart_frames c.frames (all_places s) (all_overhead s) bytes bytes g f sound.frames own i)
    (row_here c.frames (all_places s) (all_overhead s) bytes f true sound.frames i).1 row.1 in
    placed_sound c s n page v (Here bytes f true) sound there below (here_past c v page fine (ap is_here was)) (frame_below c s bytes f true sound i, place.1)
    (not_out c v page (Here bytes f true) fine within refl) (not_lent c v page (Here bytes f true) fine within refl) (subst R (sym was) room)

-- A private page is marked to be shared.

pub share_marked : (c : Config) (s : Site) (m q : ℕ) (w : Vm) (bytes : List ℕ) (f : ℕ) → IsSound c s → vm_at s m ≡ Some w → place_at w q ≡ Here bytes f false
    → ((g : ℕ) → key_of_row (row_of (pages_in s g)) ≢ Some (content_key bytes)) → IsSound c (placed s m q (Here bytes f true))
share_marked c s m q w bytes f sound there was fresh =
    let fine = sound.each m w there in
    let within = place_within w.places q (ap is_here was) in
    let P : Place → Type 0 = IsPlace c w.epoch in
    let place : IsPlace c w.epoch (Here bytes f false) = subst P was (old_place c w q fine within) in
    let Q : Place → Type 0 = IsIn (all_places s) in
    let own : IsIn (all_places s) (Here bytes f false) = subst Q was (page_is_in s m q w there within) in
    let R : Place → Type 0 = λ p. Room c s p (Here bytes f true) in
    let room = room_to_share c s bytes f false bytes (private_alone c.frames (all_places s) (all_overhead s) bytes f sound.frames own) (row_here c.frames (all_places s) (all_overhead s) bytes f false sound.frames own).1 fresh in
    placed_sound c s m q w (Here bytes f true) sound there (omega (arith, fine.pages, within)) (here_past c w q fine (ap is_here was)) place
    (not_out c w q (Here bytes f true) fine within refl) (not_lent c w q (Here bytes f true) fine within refl) (subst R (sym was) room)

-- another page of a site after one was placed
pub record IsBeside (t : Site) (n page : ℕ) (v : Vm) : Type 0 where
  pub vm : Vm
  pub there : vm_at t n ≡ Some vm
  pub place : place_at vm page ≡ place_at v page
  pub spec : vm.spec ≡ v.spec

pub beside : (s : Site) (m q : ℕ) (w : Vm) (p : Place) (n page : ℕ) (v : Vm) → vm_at s m ≡ Some w → vm_at s n ≡ Some v → is_hint_of n page (record { key = 0; vm = m; page = q }) ≡ false → IsBeside (placed s m q p) n page v
beside s m q w p n page v there own other = elim (cases_eq n m) [
  | inl e ↦ (let same : Some w ≡ Some v = sym there ∙ ap (vm_at s) (sym e) ∙ own in
      let is : w ≡ v = cc in
      record {
        vm = with_place q p w;
        there = ap (vm_at (placed s m q p)) e ∙ vm_placed_there s m q w p there;
        place = get_or-set_other w.places q page p Untouched (λ d. apart d e) ∙ ap (λ x. place_at x page) is;
        spec = ap (λ (x : Vm). x.spec) is;
      })
  | inr away ↦ record {
    vm = v;
    there = ap (λ t. vm_at t n) (placed_is s m q w p there) ∙ get_or-set_other s.vms m n (Some (with_place q p w)) None away ∙ own;
    place = refl;
    spec = refl;
  }
]
  where
    apart : page ≡ q → n ≡ m → ⊥
    apart d e = grind (arith, nat_tests)

pub share_both : (c : Config) (s : Site) (n page : ℕ) (v : Vm) (bytes : List ℕ) (g m q f : ℕ) → IsSound c s → vm_at s n ≡ Some v → page < v.spec.max → place_at v page ≡ Here bytes g false → SeesPage s n page bytes m q f
    → IsSound c (placed (placed s m q (Here bytes f true)) n page (Here bytes f true))
share_both c s n page v bytes g m q f sound there below was sees =
    let p : Place = Here bytes f true in
    let t = placed s m q p in
    let w = sees.vm in
    let sound1 = share_marked c s m q w bytes f sound sees.there sees.place sees.fresh in
    let own = beside s m q w p n page v sees.there there sees.other in
    let there1 = vm_placed_there s m q w p sees.there in
    let within = place_within w.places q (ap is_here sees.place) in
    let Q : Place → Type 0 = IsIn (all_places t) in
    let fine1 = sound1.each m (with_place q p w) there1 in
    let i : IsIn (all_places t) p = subst Q (get_or-set_same w.places q p Untouched within) (page_is_in t m q (with_place q p w) there1 (let len = length-set w.places q p in omega (arith, len, within))) in
    share_joined c t n page own.vm bytes g f sound1 own.there (let same = ap (λ (x : VmSpec). x.max) own.spec in omega (arith, same, below)) (own.place ∙ was) i

-- A page becomes the hint under its short.

hinted_sound : (c : Config) (s : Site) (n page : ℕ) (v : Vm) (bytes : List ℕ) → IsSound c s → vm_at s n ≡ Some v → is_private (place_at v page) ≡ true → IsSound c (hinted s n page bytes)
unfolding all_places all_overhead
hinted_sound c s n page v bytes sound there here = record {
  vms = sound.vms;
  each = sound.each;
  memory = sound.memory;
  swap = sound.swap;
  tau = sound.tau;
  frames = sound.frames;
  hints = hints_more (place_of s) (record { key = hint_key bytes; vm = n; page = page }) s.hints sound.hints (ap (λ o. is_private (place_in o page)) there ∙ here) (short_small bytes);
}

private_look : (c : Config) (s : Site) (n page : ℕ) (v : Vm) (bytes : List ℕ) (g : ℕ) (l : Look) → IsSound c s → vm_at s n ≡ Some v → page < v.spec.max → place_at v page ≡ Here bytes g false → Sees s n page bytes l
    → IsSound c (after_look s n page bytes l)
private_look c s n page v bytes g Already sound there below was sees = sound
private_look c s n page v bytes g (SharedFrame f) sound there below was sees = share_joined c s n page v bytes g f sound there below was sees
private_look c s n page v bytes g (OtherPage m q f) sound there below was sees = share_both c s n page v bytes g m q f sound there below was sees
private_look c s n page v bytes g Changed sound there below was sees = hinted_sound c s n page v bytes sound there (ap is_private was)
private_look c s n page v bytes g OtherBytes sound there below was sees = sound
private_look c s n page v bytes g Nothing sound there below was sees = hinted_sound c s n page v bytes sound there (ap is_private was)

pub look_sound : (c : Config) (s : Site) (n page : ℕ) (v : Vm) (p : Place) → IsSound c s → vm_at s n ≡ Some v → page < v.spec.max → place_at v page ≡ p → is_here p ≡ true
    → IsSound c (after_look s n page (contents c p) (look s n page p))
unfolding look
look_sound c s n page v Untouched sound there below was here = cc
look_sound c s n page v (Out bytes i) sound there below was here = cc
look_sound c s n page v (Lent e) sound there below was here = cc
look_sound c s n page v (Here bytes f true) sound there below was here = sound
look_sound c s n page v (Here bytes f false) sound there below was here =
    private_look c s n page v bytes f (look_private s n page bytes (shared_under (content_key bytes) s)) sound there below was (sees_private c s n page bytes (shared_under (content_key bytes) s) sound refl)

pub scan_sound : (c : Config) (s : Site) (n page : ℕ) (r : Answer × Site) → IsSound c s → scan c s n page ≡ Ok r → IsSound c r.1
unfolding scan
scan_sound c s n page r sound h =
    let m = of_vm (vm_at s n) _ r h in
    let v = m.vm in
    let p = place_at v page in
    let pass = passed (scan_gate (standing v) page (is_here p)) _ r m.then in
    let after = after_look s n page (contents c p) (look s n page p) in
    gives c (answers.Looked (said_of after (look s n page p))) after r pass.1
    (look_sound c s n page v p sound m.there (below_max v.spec.max page pass.0.1.0) refl (not_not _ pass.0.1.1.0))
