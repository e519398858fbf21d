-- How the page that an event is about moved is told.
use Rattle.std.proofs.Common.{◌≡◌, ℕ, ◌<◌, Bool, true, false, ◌==◌, nat_lt, nat_le, List, [], length, map, get_or, refl, sym, ap, ◌∙◌, subst, arith, cond, Option, Some, None, Result, Ok, Err}
use Rattle.std.specs.Option.{option_map}
use Rattle.std.proofs.Math.ListN as listn
use Rattle.std.proofs.lemmas.Bool.Decides.{nat_tests}
use Rattle.std.proofs.lemmas.List.{get_or-set_same, length-set}
use Rattle.esx_types.specs.declared.config.Config.{Config}
use Rattle.esx_types.specs.declared.level.Level.{Level}
use Rattle.esx_types.specs.declared.table.FrameRow.{FrameRow}
use Rattle.esx_types.specs.declared.table.FrameRow.TheVariants as frames
use Rattle.esx_types.specs.declared.table.MapRow.TheVariants as maps
use Rattle.esx_types.specs.Frames.{frame_at}
use Rattle.esx_types.specs.Pages.{page_at}
use Rattle.esx_events.specs.declared.event.Answer.{Answer}
use Rattle.esx_events.specs.declared.event.Answer.TheVariants as answers
use Rattle.esx_events.specs.declared.event.Event.{Event}
use Rattle.esx_events.specs.declared.event.Event.TheVariants.{Scan, SwapOut, Write}
use Rattle.esx_events.specs.declared.event.Refusal.{Refusal}
use Rattle.esx_events.specs.declared.event.Refusal.TheVariants.{OutOfRange}
use Rattle.esx_events.specs.declared.call.PageState.{PageState}
use Rattle.esx_formulas.specs.declared.activity.Period.{Period}
use Rattle.esx_model.specs.declared.look.Look.{Look}
use Rattle.esx_model.specs.declared.look.Look.TheVariants.{Already, SharedFrame, OtherPage, Changed, OtherBytes, Nothing}
use Rattle.esx_model.specs.declared.scene.Place.{Place}
use Rattle.esx_model.specs.declared.scene.Place.TheVariants as places
use Rattle.esx_model.specs.declared.scene.Vm.{Vm}
use Rattle.esx_model.specs.declared.scene.Site.{Site}
use Rattle.esx_model.specs.declared.scene.Scene.{Scene}
use Rattle.esx_model.specs.Places.{is_here, contents}
use Rattle.esx_model.specs.Site.{vm_at, place_at, place_in, pages_at, least_free, least_slot, all_places, all_overhead}
use Rattle.esx_model.specs.Hints.{with_place, with_change, placed}
use Rattle.esx_model.specs.Replay.{next}
use Rattle.esx_model.specs.Show.{shown, map_row, vm_row, frame_row, frame_rows, row_of, in_frame, pages_in}
use Rattle.esx_model.specs.Readings.{is_hint, state_in, state_at, page_in, page_state}
use Rattle.esx_model.specs.event.Outcome.{standing}
use Rattle.esx_model.specs.event.Balloon.{popped}
use Rattle.esx_model.specs.event.Sampling.{counted_in, counted}
use Rattle.esx_model.specs.event.Access.{access_gate, overwritten, write_frame, after_access, write}
use Rattle.esx_model.specs.event.Sharing.{shared_under, look_private, look, after_look, said_of, scan_gate, scan}
use Rattle.esx_model.specs.event.Paging.{victim, swap_out_gate, to_slot, leave_by, leave, swap_out}
use Rattle.esx_model.specs.sound.Machines.{IsPlace}
use Rattle.esx_model.specs.sound.Sound.{IsSound}
use Rattle.esx_formulas.specs.Key.{content_key}
use Rattle.esx_model.proofs.Callers.{step_of, of_vm, passed, not_not, settled, Sees, look_sees, share_marked, beside, place_within, drawn_is_here, vm_there, vm_placed_there, with_change_is, page_is_in, old_place, IsIn, row_in_rows, row_by, row_here, private_row, shared_row, apart_frames, least_unused, count_in_frame, eqb_same, eqb_other}
use Rattle.esx_story.specs.declared.change.Spot.{Spot}
use Rattle.esx_story.specs.declared.change.Spot.TheVariants as spots
use Rattle.esx_story.specs.declared.change.How.TheVariants.{Share, Cow, Own}
use Rattle.esx_story.specs.declared.change.Change.{Change}
use Rattle.esx_story.specs.Changes.{change}
use Rattle.esx_story.specs.Readings.{named_page, said_before}
use Rattle.esx_story.specs.Spots.{spot, spot_in, spot_of, how_here, how_of, ends_loans}
use Rattle.esx_story.proofs.event.Access.{outcome_is, in_range}
use Rattle.esx_sums.specs.Moving.{page_about, move_by}
use Rattle.esx_sums.specs.Telling.{written_from, moved_by, IsMoveTold}

-- Where a page is in a frame.

pub here_spot : (o : Option Vm) (page : ℕ) (bytes : List ℕ) (f : ℕ) (shared : Bool) → place_in o page ≡ places.Here bytes f shared → spot_in o page ≡ spots.Here f shared
here_spot None page bytes f shared h = cc
here_spot (Some v) page bytes f shared h = ap (spot v.epoch) h

placed_spot : (s : Site) (n page : ℕ) (v : Vm) (bytes : List ℕ) (f : ℕ) (shared : Bool) → vm_at s n ≡ Some v → page < length v.places → spot_of (placed s n page (places.Here bytes f shared)) n page ≡ spots.Here f shared
placed_spot s n page v bytes f shared there within =
    let q : Place = places.Here bytes f shared in
    here_spot (vm_at (placed s n page q) n) page bytes f shared (ap (λ o. place_in o page) (vm_placed_there s n page v q there) ∙ get_or-set_same v.places page q places.Untouched within)

pub was_spot : (s : Site) (n page : ℕ) (v : Vm) (bytes : List ℕ) (f : ℕ) (shared : Bool) → vm_at s n ≡ Some v → place_at v page ≡ places.Here bytes f shared → spot_of s n page ≡ spots.Here f shared
was_spot s n page v bytes f shared there was = here_spot (vm_at s n) page bytes f shared (ap (λ o. place_in o page) there ∙ was)

-- a page that stays in frames
stays_here : (e : Event) (n page g f : ℕ) (sharing shared : Bool) (a b : Spot) → a ≡ spots.Here g sharing → b ≡ spots.Here f shared → move_by n page (how_of e a b) ≡ move_by n page (how_here (g == f) sharing shared)
stays_here e n page g f sharing shared a b was is = ap (λ (z : Spot). move_by n page (how_of e z b)) was ∙ ap (λ (z : Spot). move_by n page (how_of e (spots.Here g sharing) z)) is

same_here : (e : Event) (n page g : ℕ) (shared : Bool) (a : Spot) → a ≡ spots.Here g shared → move_by n page (how_of e a a) ≡ None
same_here e n page g true a was = stays_here e n page g g true true a a was was ∙ ap (λ b. move_by n page (how_here b true true)) (eqb_same g)
same_here e n page g false a was = stays_here e n page g g false false a a was was ∙ ap (λ b. move_by n page (how_here b false false)) (eqb_same g)

-- Looks.

abbrev told_look : ℕ → ℕ → Look → Option Change
told_look n page Already = None
told_look n page (SharedFrame f) = Some (change n page Share)
told_look n page (OtherPage m q f) = Some (change n page Share)
told_look n page Changed = None
told_look n page OtherBytes = None
told_look n page Nothing = None

is_in_site : (s : Site) (n page : ℕ) (v : Vm) (p : Place) → vm_at s n ≡ Some v → page < length v.places → place_at v page ≡ p → IsIn (all_places s) p
is_in_site s n page v p there within was = (let Q : Place → Type 0 = IsIn (all_places s) in subst Q was (page_is_in s n page v there within))

look_moves : (e : Event) (c : Config) (s : Site) (n page : ℕ) (v : Vm) (bytes : List ℕ) (g : ℕ) (l : Look) → IsSound c s → vm_at s n ≡ Some v → place_at v page ≡ places.Here bytes g false → Sees s n page bytes l
    → move_by n page (how_of e (spot_of s n page) (spot_of (after_look s n page bytes l) n page)) ≡ told_look n page l
look_moves e c s n page v bytes g Already sound there was sees = same_here e n page g false (spot_of s n page) (was_spot s n page v bytes g false there was)
look_moves e c s n page v bytes g (SharedFrame f) sound there was sees =
    let within = place_within v.places page (ap is_here was) in
    let apart = apart_frames c.frames (all_places s) (all_overhead s) bytes bytes g f sound.frames (is_in_site s n page v (places.Here bytes g false) there within was) sees in
    stays_here e n page g f false true (spot_of s n page) (spot_of (placed s n page (places.Here bytes f true)) n page) (was_spot s n page v bytes g false there was) (placed_spot s n page v bytes f true there within)
    ∙ ap (λ b. move_by n page (how_here b false true)) apart
look_moves e c s n page v bytes g (OtherPage m q f) sound there was sees =
    let p : Place = places.Here bytes f true in
    let t = placed s m q p in
    let w = sees.vm in
    let sound1 = share_marked c s m q w bytes f sound sees.there sees.place sees.fresh in
    let own = beside s m q w p n page v sees.there there sees.other in
    let there1 = vm_placed_there s m q w p sees.there in
    let within1 = place_within w.places q (ap is_here sees.place) in
    let within = place_within own.vm.places page (ap is_here (own.place ∙ was)) in
    let other = is_in_site t m q (with_place q p w) p there1 (let long = length-set w.places q p in omega (arith, long, within1)) (get_or-set_same w.places q p places.Untouched within1) in
    let apart = apart_frames c.frames (all_places t) (all_overhead t) bytes bytes g f sound1.frames (is_in_site t n page own.vm (places.Here bytes g false) own.there within (own.place ∙ was)) other in
    stays_here e n page g f false true (spot_of s n page) (spot_of (placed t n page p) n page) (was_spot s n page v bytes g false there was) (placed_spot t n page own.vm bytes f true own.there within)
    ∙ ap (λ b. move_by n page (how_here b false true)) apart
look_moves e c s n page v bytes g Changed sound there was sees = same_here e n page g false (spot_of s n page) (was_spot s n page v bytes g false there was)
look_moves e c s n page v bytes g OtherBytes sound there was sees = same_here e n page g false (spot_of s n page) (was_spot s n page v bytes g false there was)
look_moves e c s n page v bytes g Nothing sound there was sees = same_here e n page g false (spot_of s n page) (was_spot s n page v bytes g false there was)

-- how a page moved between two sites
abbrev moves_as : Event → Answer → Site → Site → Option (ℕ × ℕ) → Option Change
moves_as e a s t None = None
moves_as e a s t (Some p) = move_by p.0 p.1 (cond (ends_loans p.0 e a) None (how_of e (spot_of s p.0 p.1) (spot_of t p.0 p.1)))

-- A scan.

scanned_as : (before : Result PageState Refusal) (c : Config) (s : Site) (n page : ℕ) (v : Vm) (bytes : List ℕ) (g : ℕ) (l : Look) → IsSound c s → vm_at s n ≡ Some v → place_at v page ≡ places.Here bytes g false → Sees s n page bytes l
    → moves_as (Scan n page) (answers.Looked (said_of (after_look s n page bytes l) l)) s (after_look s n page bytes l) (Some (n, page)) ≡ moved_by (Scan n page) (answers.Looked (said_of (after_look s n page bytes l) l)) before
scanned_as before c s n page v bytes g Already sound there was sees = look_moves (Scan n page) c s n page v bytes g Already sound there was sees
scanned_as before c s n page v bytes g (SharedFrame f) sound there was sees = look_moves (Scan n page) c s n page v bytes g (SharedFrame f) sound there was sees
scanned_as before c s n page v bytes g (OtherPage m q f) sound there was sees = look_moves (Scan n page) c s n page v bytes g (OtherPage m q f) sound there was sees
scanned_as before c s n page v bytes g Changed sound there was sees = look_moves (Scan n page) c s n page v bytes g Changed sound there was sees
scanned_as before c s n page v bytes g OtherBytes sound there was sees = look_moves (Scan n page) c s n page v bytes g OtherBytes sound there was sees
scanned_as before c s n page v bytes g Nothing sound there was sees = look_moves (Scan n page) c s n page v bytes g Nothing sound there was sees

abbrev pub looked_on : Config → Site → ℕ → ℕ → Place → Site
looked_on c s n page p = after_look s n page (contents c p) (look s n page p)

place_scanned : (before : Result PageState Refusal) (c : Config) (s : Site) (n page : ℕ) (v : Vm) (p : Place) → IsSound c s → vm_at s n ≡ Some v → place_at v page ≡ p → is_here p ≡ true → Sees s n page (contents c p) (look s n page p)
    → moves_as (Scan n page) (answers.Looked (said_of (looked_on c s n page p) (look s n page p))) s (looked_on c s n page p) (Some (n, page))
    ≡ moved_by (Scan n page) (answers.Looked (said_of (looked_on c s n page p) (look s n page p))) before
unfolding look
place_scanned before c s n page v places.Untouched sound there was here sees = cc
place_scanned before c s n page v (places.Out bytes i) sound there was here sees = cc
place_scanned before c s n page v (places.Lent d) sound there was here sees = cc
place_scanned before c s n page v (places.Here bytes f true) sound there was here sees = same_here (Scan n page) n page f true (spot_of s n page) (was_spot s n page v bytes f true there was)
place_scanned before c s n page v (places.Here bytes f false) sound there was here sees =
    scanned_as before c s n page v bytes f (look_private s n page bytes (shared_under (content_key bytes) s)) sound there was sees

scan_told : (before : Result PageState Refusal) (c : Config) (s : Site) (n page : ℕ) (r : Answer × Site) → IsSound c s → scan c s n page ≡ Ok r → moves_as (Scan n page) r.0 s r.1 (Some (n, page)) ≡ moved_by (Scan n page) r.0 before
unfolding scan
scan_told before c s n page r sound h =
    let own = of_vm (vm_at s n) _ r h in
    let v = own.vm in
    let p = place_at v page in
    let pass = passed (scan_gate (standing v) page (is_here p)) _ r own.then in
    let P : (Answer × Site) → Type 0 = λ x. moves_as (Scan n page) x.0 s x.1 (Some (n, page)) ≡ moved_by (Scan n page) x.0 before in
    subst P (outcome_is (answers.Looked (said_of (looked_on c s n page p) (look s n page p))) (looked_on c s n page p) r pass.1)
    (place_scanned before c s n page v p sound own.there refl (not_not _ pass.0.1.1.0) (look_sees c s n page p sound))

-- A page that is to be paged out.

abbrev IsOut : Result PageState Refusal → Site → ℕ → ℕ → (Answer × Site) → Type 0
IsOut before s n word x = moves_as (SwapOut n word) x.0 s x.1 (page_about (SwapOut n word) x.0) ≡ moved_by (SwapOut n word) x.0 before

slot_told : (before : Result PageState Refusal) (s : Site) (n word page : ℕ) (bytes : List ℕ) (o : Option ℕ) (r : Answer × Site) → to_slot s n page bytes o ≡ Ok r → IsOut before s n word r
slot_told before s n word page bytes None r h = cc
slot_told before s n word page bytes (Some i) r h = subst (IsOut before s n word) (outcome_is (answers.PagedOut page i) (placed s n page (places.Out bytes i)) r h) refl

left_as : (before : Result PageState Refusal) (c : Config) (s : Site) (n word page : ℕ) (v : Vm) (bytes : List ℕ) (g : ℕ) (l : Look) (r : Answer × Site) → IsSound c s → vm_at s n ≡ Some v → place_at v page ≡ places.Here bytes g false → Sees s n page bytes l
    → leave_by c s n page bytes l ≡ Ok r → IsOut before s n word r
left_as before c s n word page v bytes g Already r sound there was sees h = slot_told before s n word page bytes (least_slot c.slots s) r h
left_as before c s n word page v bytes g (SharedFrame f) r sound there was sees h =
    subst (IsOut before s n word) (outcome_is (answers.SharedOut page f) (after_look s n page bytes (SharedFrame f)) r h) (look_moves (SwapOut n word) c s n page v bytes g (SharedFrame f) sound there was sees)
left_as before c s n word page v bytes g (OtherPage m q f) r sound there was sees h =
    subst (IsOut before s n word) (outcome_is (answers.SharedOut page f) (after_look s n page bytes (OtherPage m q f)) r h) (look_moves (SwapOut n word) c s n page v bytes g (OtherPage m q f) sound there was sees)
left_as before c s n word page v bytes g Changed r sound there was sees h = slot_told before s n word page bytes (least_slot c.slots s) r h
left_as before c s n word page v bytes g OtherBytes r sound there was sees h = slot_told before s n word page bytes (least_slot c.slots s) r h
left_as before c s n word page v bytes g Nothing r sound there was sees h = slot_told before s n word page bytes (least_slot c.slots s) r h

place_left : (before : Result PageState Refusal) (c : Config) (s : Site) (n word page : ℕ) (v : Vm) (p : Place) (r : Answer × Site) → IsSound c s → vm_at s n ≡ Some v → place_at v page ≡ p → is_here p ≡ true → Sees s n page (contents c p) (look s n page p)
    → leave_by c s n page (contents c p) (look s n page p) ≡ Ok r → IsOut before s n word r
unfolding look
place_left before c s n word page v places.Untouched r sound there was here sees h = cc
place_left before c s n word page v (places.Out bytes i) r sound there was here sees h = cc
place_left before c s n word page v (places.Lent d) r sound there was here sees h = cc
place_left before c s n word page v (places.Here bytes f true) r sound there was here sees h = slot_told before s n word page bytes (least_slot c.slots s) r h
place_left before c s n word page v (places.Here bytes f false) r sound there was here sees h =
    left_as before c s n word page v bytes f (look_private s n page bytes (shared_under (content_key bytes) s)) r sound there was sees h

leave_told : (before : Result PageState Refusal) (c : Config) (s : Site) (n word : ℕ) (v : Vm) (o : Option ℕ) (r : Answer × Site) → IsSound c s → vm_at s n ≡ Some v → victim v word ≡ o → leave c s n v o ≡ Ok r → IsOut before s n word r
leave_told before c s n word v None r sound there drawn h = cc
leave_told before c s n word v (Some page) r sound there drawn h =
    place_left before c s n word page v (place_at v page) r sound there refl (drawn_is_here v word page drawn).1 (look_sees c s n page (place_at v page) sound) h

swap_out_told : (before : Result PageState Refusal) (c : Config) (s : Site) (level : Level) (n word : ℕ) (r : Answer × Site) → IsSound c s → swap_out c s level n word ≡ Ok r → IsOut before s n word r
unfolding swap_out
swap_out_told before c s level n word r sound h =
    let own = of_vm (vm_at s n) _ r h in
    let v = own.vm in
    let pass = passed (swap_out_gate level (standing v)) _ r own.then in
    leave_told before c s n word v (victim v word) r sound own.there refl pass.1

-- A page that is written.

either_places : (v a b : Vm) (t : Bool) → a.places ≡ v.places → b.places ≡ v.places → (cond t a b).places ≡ v.places
either_places v a b true e d = e
either_places v a b false e d = d

counted_places : (page : ℕ) (v : Vm) (o : Option Period) → (counted_in page v o).places ≡ v.places
counted_places page v None = refl
counted_places page v (Some p) = either_places v _ _ _ refl refl

access_spot : (s : Site) (n page : ℕ) (v : Vm) (bytes : List ℕ) (f : ℕ) → vm_at s n ≡ Some v → page < length v.places → spot_of (after_access s n page (places.Here bytes f false)) n page ≡ spots.Here f false
access_spot s n page v bytes f there within =
    let q : Place = places.Here bytes f false in
    let v1 = popped page v in
    let s1 = with_change s n (popped page) in
    let there1 : vm_at s1 n ≡ Some v1 = ap (λ t. vm_at t n) (with_change_is s n v (popped page) there) ∙ vm_there s n v v1 there in
    let v2 = with_place page q v1 in
    let s2 = placed s1 n page q in
    let there2 = vm_placed_there s1 n page v1 q there1 in
    let s3 = with_change s2 n (counted page) in
    let there3 : vm_at s3 n ≡ Some (counted page v2) = ap (λ t. vm_at t n) (with_change_is s2 n v2 (counted page) there2) ∙ vm_there s2 n v2 (counted page v2) there2 in
    here_spot (vm_at s3 n) page bytes f false
    (ap (λ o. place_in o page) there3 ∙ ap (λ (ps : List Place). get_or ps page places.Untouched) (counted_places page v2 v2.period) ∙ get_or-set_same v.places page q places.Untouched within)

abbrev the_state : PageState → Result PageState Refusal
the_state p = Ok p

frame_shown : (c : Config) (s : Site) (bytes : List ℕ) (f : ℕ) (shared : Bool) → IsSound c s → IsIn (all_places s) (places.Here bytes f shared) → frame_row s f ≡ row_of (in_frame f (all_places s))
frame_shown c s bytes f shared sound i =
    row_by s f ∙ ap (λ b. cond b frames.Overhead (row_of (pages_in s f))) (row_here c.frames (all_places s) (all_overhead s) bytes f shared sound.frames i).1

frame_told : (c : Config) (s : Site) (bytes : List ℕ) (f : ℕ) (shared : Bool) → IsSound c s → IsIn (all_places s) (places.Here bytes f shared) → f < c.frames → frame_at (frame_rows c.frames s) f ≡ row_of (in_frame f (all_places s))
frame_told c s bytes f shared sound i below = row_in_rows (frame_row s) c.frames f _ below ∙ frame_shown c s bytes f shared sound i

-- a frame that a page is in is not free
taken : (c : Config) (s : Site) (bytes : List ℕ) (f g : ℕ) → IsSound c s → IsIn (all_places s) (places.Here bytes g true) → least_free c.frames s ≡ Some f → f ≡ g → ⊥
taken c s bytes f g sound i free same =
    let none : in_frame g (all_places s) ≡ [] = ap (λ k. pages_in s k) (sym same) ∙ (least_unused c.frames s f free).pages in
    let row = shared_row c.frames (all_places s) (all_overhead s) bytes g sound.frames i in
    let no : frames.Free ≡ frames.Shared row.0 bytes = sym (ap row_of none) ∙ row.1 in
    cc

one_frame : (a b : ℕ) → Some a ≡ Some b → a ≡ b
one_frame a b h = cc

private_told : (n page g f : ℕ) (hinted : Bool) (bytes : List ℕ) (row : FrameRow) → row ≡ frames.Private bytes → None ≡ written_from n page (the_state (state_in hinted g row))
private_told n page g f true bytes row is = ap (λ (z : FrameRow). written_from n page (the_state (state_in true g z))) (sym is)
private_told n page g f false bytes row is = ap (λ (z : FrameRow). written_from n page (the_state (state_in false g z))) (sym is)

shared_told : (n page g : ℕ) (hinted : Bool) (count : ℕ) (bytes : List ℕ) (row : FrameRow) → row ≡ frames.Shared count bytes → Some (change n page (cond (nat_lt 1 count) Cow Own)) ≡ written_from n page (the_state (state_in hinted g row))
shared_told n page g hinted count bytes row is = ap (λ (z : FrameRow). written_from n page (the_state (state_in hinted g z))) (sym is)

-- its frame is its own, or another that was free
own_or_free : (c : Config) (s : Site) (n page : ℕ) (bytes : List ℕ) (g f : ℕ) (b : Bool) → IsSound c s → IsIn (all_places s) (places.Here bytes g true) → cond b (least_free c.frames s) (Some g) ≡ Some f
    → move_by n page (how_here (g == f) true false) ≡ Some (change n page (cond b Cow Own))
own_or_free c s n page bytes g f true sound i frame = ap (λ b. move_by n page (how_here b true false)) (eqb_other g f (λ e. taken c s bytes f g sound i frame e))
own_or_free c s n page bytes g f false sound i frame = ap (λ k. move_by n page (how_here (g == k) true false)) (sym (one_frame g f frame)) ∙ ap (λ b. move_by n page (how_here b true false)) (eqb_same g)

write_moves : (e : Event) (c : Config) (t : Scene) (n page : ℕ) (v : Vm) (p : Place) (f : ℕ) (b : Spot) → IsSound c t.site → vm_at t.site n ≡ Some v → IsIn (all_places t.site) p → IsPlace c v.epoch p → place_at v page ≡ p → write_frame c t.site p ≡ Some f → b ≡ spots.Here f false
    → move_by n page (how_of e (spot_of t.site n page) b) ≡ written_from n page (the_state (state_at (shown c t) n page (map_row v.epoch p)))
write_moves e c t n page v places.Untouched f b sound there i place was frame is =
    ap (λ (z : Spot). move_by n page (how_of e z b)) (ap (λ o. spot_in o page) there ∙ ap (spot v.epoch) was) ∙ ap (λ (z : Spot). move_by n page (how_of e spots.Untouched z)) is
write_moves e c t n page v (places.Out bytes j) f b sound there i place was frame is =
    ap (λ (z : Spot). move_by n page (how_of e z b)) (ap (λ o. spot_in o page) there ∙ ap (spot v.epoch) was) ∙ ap (λ (z : Spot). move_by n page (how_of e (spots.Out j) z)) is
write_moves e c t n page v (places.Lent d) f b sound there i place was frame is =
    ap (λ (z : Spot). move_by n page (how_of e z b)) (ap (λ o. spot_in o page) there ∙ ap (spot v.epoch) was) ∙ ap (λ (z : Spot). move_by n page (how_of e (spot v.epoch (places.Lent d)) z)) is ∙ lent (d == v.epoch)
  where
    lent : (l : Bool) → move_by n page (how_of e (cond l (spots.Lent d) spots.Untouched) (spots.Here f false)) ≡ written_from n page (the_state (state_at (shown c t) n page (cond l (maps.Lent d) maps.Untouched)))
    lent true = refl
    lent false = refl
write_moves e c t n page v (places.Here bytes g false) f b sound there i place was frame is =
    stays_here e n page g f false false (spot_of t.site n page) b (was_spot t.site n page v bytes g false there was) is
    ∙ ap (λ k. move_by n page (how_here (g == k) false false)) (sym (one_frame g f frame)) ∙ ap (λ z. move_by n page (how_here z false false)) (eqb_same g)
    ∙ private_told n page g f (is_hint (shown c t) n page) bytes (frame_at (frame_rows c.frames t.site) g)
    (frame_told c t.site bytes g false sound i place.0 ∙ private_row c.frames (all_places t.site) (all_overhead t.site) bytes g sound.frames i)
write_moves e c t n page v (places.Here bytes g true) f b sound there i place was frame is =
    let row = shared_row c.frames (all_places t.site) (all_overhead t.site) bytes g sound.frames i in
    let count : row.0 ≡ pages_at g t.site = count_in_frame t.site g row.0 bytes (frame_shown c t.site bytes g true sound i ∙ row.1) in
    stays_here e n page g f true false (spot_of t.site n page) b (was_spot t.site n page v bytes g true there was) is
    ∙ own_or_free c t.site n page bytes g f (nat_lt 1 (pages_at g t.site)) sound i frame
    ∙ ap (λ k. Some (change n page (cond (nat_lt 1 k) Cow Own))) (sym count)
    ∙ shared_told n page g (is_hint (shown c t) n page) row.0 bytes (frame_at (frame_rows c.frames t.site) g) (frame_told c t.site bytes g true sound i place.0 ∙ row.1)

no_less : (max page : ℕ) → page < max → nat_le max page ≡ false
no_less max page h = grind (arith, nat_tests)

-- what the tables say of a page
page_said : (c : Config) (t : Scene) (n page : ℕ) (v : Vm) → vm_at t.site n ≡ Some v → page < v.spec.max → page_state (shown c t) n page ≡ the_state (state_at (shown c t) n page (map_row v.epoch (place_at v page)))
unfolding page_state
page_said c t n page v there below =
    let b = shown c t in
    ap (page_in b n page) (listn.get_or-map (option_map vm_row) t.site.vms n None ∙ ap (option_map vm_row) there)
    ∙ ap (λ (x : Bool). let r : Result PageState Refusal = cond x (Err OutOfRange) (Ok (state_at b n page (page_at (map (map_row v.epoch) v.places) page))) in r) (no_less v.spec.max page below)
    ∙ ap (λ row. the_state (state_at b n page row)) (listn.get_or-map (map_row v.epoch) v.places page places.Untouched)

write_told : (c : Config) (t : Scene) (level : Level) (n page at : ℕ) (new : List ℕ) (r : Answer × Site) → IsSound c t.site → write c t.site level n page at new ≡ Ok r
    → moves_as (Write n page at new) r.0 t.site r.1 (Some (n, page)) ≡ written_from n page (page_state (shown c t) n page)
unfolding write
write_told c t level n page at new r sound h =
    let s = t.site in
    let own = of_vm (vm_at s n) _ r h in
    let v = own.vm in
    let pass = passed (access_gate c level (standing v) page at (length new)) _ r own.then in
    let p = place_at v page in
    let bytes = overwritten (contents c p) at new in
    let done = settled s n page answers.Done bytes false (write_frame c s p) r pass.1 in
    let after = after_access s n page (places.Here bytes done.0 false) in
    let below = in_range page v.spec.max _ _ pass.0.1.0 in
    let fine = sound.each n v own.there in
    let within : page < length v.places = (let pages = fine.pages in omega (arith, pages, below)) in
    let P : (Answer × Site) → Type 0 = λ x. moves_as (Write n page at new) x.0 s x.1 (Some (n, page)) ≡ written_from n page (page_state (shown c t) n page) in
    subst P (outcome_is answers.Done after r done.2)
    (write_moves (Write n page at new) c t n page v p done.0 (spot_of after n page) sound own.there (page_is_in s n page v own.there within) (old_place c v page fine within) refl done.1 (access_spot s n page v bytes done.0 own.there within)
    ∙ ap (written_from n page) (sym (page_said c t n page v own.there below)))

-- Any event.

told_by : (c : Config) (t : Scene) (e : Event) (r : Answer × Scene) → IsSound c t.site → next c t e ≡ Ok r → moves_as e r.0 t.site r.1.site (page_about e r.0) ≡ moved_by e r.0 (said_before (shown c t) (named_page e))
told_by c t (Scan n page) r sound h =
    let e : Event = Scan n page in
    let before = said_before (shown c t) (named_page e) in
    let s = step_of c t e r h in
    let P : Site → Type 0 = λ u. moves_as e r.0 t.site u (Some (n, page)) ≡ moved_by e r.0 before in
    let Q : Answer → Type 0 = λ a. moves_as e a t.site s.0.1 (Some (n, page)) ≡ moved_by e a before in
    subst P s.3 (subst Q s.2 (scan_told before c t.site n page s.0 sound s.1))
told_by c t (SwapOut n word) r sound h =
    let e : Event = SwapOut n word in
    let before = said_before (shown c t) (named_page e) in
    let s = step_of c t e r h in
    let P : Site → Type 0 = λ u. moves_as e r.0 t.site u (page_about e r.0) ≡ moved_by e r.0 before in
    let Q : Answer → Type 0 = λ a. moves_as e a t.site s.0.1 (page_about e a) ≡ moved_by e a before in
    subst P s.3 (subst Q s.2 (swap_out_told before c t.site t.level n word s.0 sound s.1))
told_by c t (Write n page at new) r sound h =
    let e : Event = Write n page at new in
    let before = said_before (shown c t) (named_page e) in
    let s = step_of c t e r h in
    let P : Site → Type 0 = λ u. moves_as e r.0 t.site u (Some (n, page)) ≡ moved_by e r.0 before in
    let Q : Answer → Type 0 = λ a. moves_as e a t.site s.0.1 (Some (n, page)) ≡ moved_by e a before in
    subst P s.3 (subst Q s.2 (write_told c t t.level n page at new s.0 sound s.1))
told_by c t _ r sound h = refl

pub move_told : IsMoveTold
move_told c x ok = told_by c x.before x.event (x.answer, x.after) ok.0 ok.1
