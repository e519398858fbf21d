-- What a scan and a swap out change of pages in shared frames.
use Rattle.std.proofs.Common.{◌≡◌, ℕ, Bool, true, false, refl, sym, ap, ◌∙◌, subst, arith, Option, Some, None, Ok}
use Rattle.std.specs.Option.{option_map}
use Rattle.esx_types.specs.declared.config.Config.{Config}
use Rattle.esx_types.specs.declared.level.Level.{Level}
use Rattle.esx_events.specs.declared.event.Answer.{Answer}
use Rattle.esx_events.specs.declared.event.Answer.TheVariants as answers
use Rattle.esx_events.specs.declared.event.Event.TheVariants as events
use Rattle.esx_model.specs.declared.look.Look.{Look}
use Rattle.esx_model.specs.declared.look.Look.TheVariants.{Already, SharedFrame, OtherPage, Changed, OtherBytes, Nothing}
use Rattle.esx_model.specs.declared.scene.Place.{Place}
use Rattle.esx_model.specs.declared.scene.Place.TheVariants.{Untouched, Here, Out, Lent}
use Rattle.esx_model.specs.declared.scene.Vm.{Vm}
use Rattle.esx_model.specs.declared.scene.Site.{Site}
use Rattle.esx_model.specs.Places.{is_shared, is_here, contents}
use Rattle.esx_model.specs.Site.{vm_at, place_at, place_in, least_slot}
use Rattle.esx_model.specs.Hints.{placed}
use Rattle.esx_model.specs.event.Outcome.{standing}
use Rattle.esx_model.specs.event.Sharing.{look, after_look, said_of, scan_gate, scan, other_found, found_by, hinted}
use Rattle.esx_model.specs.event.Paging.{victim, swap_out_gate, to_slot, leave_by, leave, swap_out, drawn_of}
use Rattle.esx_model.specs.sound.Sound.{IsSound}
use Rattle.esx_model.proofs.Callers.{of_vm, passed, not_not, Sees, look_sees, beside, drawn_is_here, place_within}
use Rattle.esx_story.proofs.event.Access.{outcome_is}
use Rattle.esx_figures.specs.Sharing.{has_shared, parting, parted, joining, hosting, one_of}
use Rattle.esx_figures.proofs.Marks.{Shares, mark, put_placed, shares_same, shares_parted}
use Rattle.esx_figures.proofs.event.Access.{shared_there}

-- what is found makes the page come to share
abbrev finds : Look → Bool
finds Already = false
finds (SharedFrame f) = true
finds (OtherPage m q f) = true
finds Changed = false
finds OtherBytes = false
finds Nothing = false

abbrev host_of : Look → Option ℕ
host_of l = option_map (λ p. p.0) (other_found l)

-- a page that is found to be equal to others was alone in its frame
alone : (s : Site) (n page : ℕ) (p : Place) (l : Look) → look s n page p ≡ l → finds l ≡ true → is_shared p ≡ false
unfolding look
alone s n page Untouched l is found = refl
alone s n page (Out bytes slot) l is found = refl
alone s n page (Lent e) l is found = refl
alone s n page (Here bytes f true) l is found = (let same : finds l ≡ false = ap finds (sym is) in let no : true ≡ false = sym found ∙ same in cc)
alone s n page (Here bytes f false) l is found = refl

look_shares : (c : Config) (s : Site) (n page : ℕ) (v : Vm) (l : Look) → vm_at s n ≡ Some v → is_here (place_at v page) ≡ true → (finds l ≡ true → is_shared (place_at v page) ≡ false) → Sees s n page (contents c (place_at v page)) l
    → Shares s (after_look s n page (contents c (place_at v page)) l) None (mark n (finds l)) (host_of l)
look_shares c s n page v Already there here alone_ sees = shares_same s s (λ m. refl)
look_shares c s n page v (SharedFrame f) there here alone_ sees = λ m.
    let put = put_placed s n page v (Here (contents c (place_at v page)) f true) there (place_within v.places page here) m in
    let was : one_of m (mark n (has_shared s n page)) ≡ 0 = ap (λ b. one_of m (mark n b)) (shared_there s n page v there ∙ alone_ refl) in
    omega (arith, put, was)
look_shares c s n page v (OtherPage k q f) there here alone_ sees = λ m.
    let p : Place = Here (contents c (place_at v page)) f true in
    let t = placed s k q p in
    let w = sees.vm in
    let own = beside s k q w p n page v sees.there there sees.other in
    let one_ = put_placed s k q w p sees.there (place_within w.places q (ap is_here sees.place)) m in
    let was_one : one_of m (mark k (has_shared s k q)) ≡ 0 = ap (λ b. one_of m (mark k b)) (shared_there s k q w sees.there ∙ ap is_shared sees.place) in
    let two = put_placed t n page own.vm p own.there (place_within own.vm.places page (ap is_here own.place ∙ here)) m in
    let was_two : one_of m (mark n (has_shared t n page)) ≡ 0 = ap (λ b. one_of m (mark n b)) (shared_there t n page own.vm own.there ∙ ap is_shared own.place ∙ alone_ refl) in
    omega (arith, one_, was_one, two, was_two)
look_shares c s n page v Changed there here alone_ sees = shares_same s (hinted s n page (contents c (place_at v page))) (λ m. refl)
look_shares c s n page v OtherBytes there here alone_ sees = shares_same s s (λ m. refl)
look_shares c s n page v Nothing there here alone_ sees = shares_same s (hinted s n page (contents c (place_at v page))) (λ m. refl)

-- what a scan answers
joins : (n page : ℕ) (t : Site) (l : Look) → mark n (finds l) ≡ joining (events.Scan n page) (answers.Looked (said_of t l))
joins n page t Already = refl
joins n page t (SharedFrame f) = refl
joins n page t (OtherPage m q f) = refl
joins n page t Changed = refl
joins n page t OtherBytes = refl
joins n page t Nothing = refl

-- the page that is looked at
hosts_there : (s : Site) (n page : ℕ) (v : Vm) → vm_at s n ≡ Some v → host_of (look s n page (place_at v page)) ≡ option_map (λ p. p.0) (found_by s (Some (n, page)))
hosts_there s n page v there = ap (λ o. host_of (look s n page (place_in o page))) (sym there)

pub scan_shares : (c : Config) (s : Site) (n page : ℕ) (r : Answer × Site) → IsSound c s → scan c s n page ≡ Ok r → Shares s r.1 None (joining (events.Scan n page) r.0) (hosting s (events.Scan n page))
unfolding scan
scan_shares c s n page r sound h =
    let own = of_vm (vm_at s n) _ r h in
    let v = own.vm in
    let p = place_at v page in
    let l = look s n page p in
    let pass = passed (scan_gate (standing v) page (is_here p)) _ r own.then in
    let after = after_look s n page (contents c p) l in
    let said : Answer = answers.Looked (said_of after l) in
    let P : (Answer × Site) → Type 0 = λ x. Shares s x.1 None (joining (events.Scan n page) x.0) (hosting s (events.Scan n page)) in
    let Q : Option ℕ → Type 0 = λ o. Shares s after None o (hosting s (events.Scan n page)) in
    let R : Option ℕ → Type 0 = λ o. Shares s after None (mark n (finds l)) o in
    subst P (outcome_is said after r pass.1) (subst Q (joins n page after l) (subst R (hosts_there s n page v own.there)
    (look_shares c s n page v l own.there (not_not _ pass.0.1.1.0) (alone s n page p l refl) (look_sees c s n page p sound))))

slot_shares : (c : Config) (s : Site) (n page word : ℕ) (v : Vm) (o : Option ℕ) (r : Answer × Site) → vm_at s n ≡ Some v → is_here (place_at v page) ≡ true → to_slot s n page (contents c (place_at v page)) o ≡ Ok r
    → Shares s r.1 (parted s (parting (events.SwapOut n word) r.0)) (joining (events.SwapOut n word) r.0) None
slot_shares c s n page word v None r there here h = cc
slot_shares c s n page word v (Some i) r there here h =
    let q : Place = Out (contents c (place_at v page)) i in
    let P : (Answer × Site) → Type 0 = λ x. Shares s x.1 (parted s (parting (events.SwapOut n word) x.0)) (joining (events.SwapOut n word) x.0) None in
    subst P (outcome_is (answers.PagedOut page i) (placed s n page q) r h) (shares_parted s (placed s n page q) n (has_shared s n page) (put_placed s n page v q there (place_within v.places page here)))

leave_shares_by : (c : Config) (s : Site) (n page word : ℕ) (v : Vm) (l : Look) (r : Answer × Site) → vm_at s n ≡ Some v → is_here (place_at v page) ≡ true
    → Shares s (after_look s n page (contents c (place_at v page)) l) None (mark n (finds l)) (host_of l) → leave_by c s n page (contents c (place_at v page)) l ≡ Ok r
    → Shares s r.1 (parted s (parting (events.SwapOut n word) r.0)) (joining (events.SwapOut n word) r.0) (host_of l)
leave_shares_by c s n page word v Already r there here shares h = slot_shares c s n page word v (least_slot c.slots s) r there here h
leave_shares_by c s n page word v (SharedFrame f) r there here shares h =
    let P : (Answer × Site) → Type 0 = λ x. Shares s x.1 (parted s (parting (events.SwapOut n word) x.0)) (joining (events.SwapOut n word) x.0) None in
    subst P (outcome_is (answers.SharedOut page f) (after_look s n page (contents c (place_at v page)) (SharedFrame f)) r h) shares
leave_shares_by c s n page word v (OtherPage m q f) r there here shares h =
    let P : (Answer × Site) → Type 0 = λ x. Shares s x.1 (parted s (parting (events.SwapOut n word) x.0)) (joining (events.SwapOut n word) x.0) (Some m) in
    subst P (outcome_is (answers.SharedOut page f) (after_look s n page (contents c (place_at v page)) (OtherPage m q f)) r h) shares
leave_shares_by c s n page word v Changed r there here shares h = slot_shares c s n page word v (least_slot c.slots s) r there here h
leave_shares_by c s n page word v OtherBytes r there here shares h = slot_shares c s n page word v (least_slot c.slots s) r there here h
leave_shares_by c s n page word v Nothing r there here shares h = slot_shares c s n page word v (least_slot c.slots s) r there here h

-- the page that the word draws is looked at
drawn_hosts : (s : Site) (n word page : ℕ) (v : Vm) → vm_at s n ≡ Some v → victim v word ≡ Some page → host_of (look s n page (place_at v page)) ≡ hosting s (events.SwapOut n word)
drawn_hosts s n word page v there drawn =
    let is : drawn_of n (vm_at s n) word ≡ Some (n, page) = ap (λ o. drawn_of n o word) there ∙ ap (option_map (λ k. (n, k))) drawn in
    hosts_there s n page v there ∙ ap (λ o. option_map (λ p. p.0) (found_by s o)) (sym is)

leave_shares : (c : Config) (s : Site) (n : ℕ) (v : Vm) (word : ℕ) (o : Option ℕ) (r : Answer × Site) → IsSound c s → vm_at s n ≡ Some v → victim v word ≡ o → leave c s n v o ≡ Ok r
    → Shares s r.1 (parted s (parting (events.SwapOut n word) r.0)) (joining (events.SwapOut n word) r.0) (hosting s (events.SwapOut n word))
leave_shares c s n v word None r sound there drawn h = cc
leave_shares c s n v word (Some page) r sound there drawn h =
    let here = (drawn_is_here v word page drawn).1 in
    let p = place_at v page in
    let l = look s n page p in
    let P : Option ℕ → Type 0 = λ x. Shares s r.1 (parted s (parting (events.SwapOut n word) r.0)) (joining (events.SwapOut n word) r.0) x in
    subst P (drawn_hosts s n word page v there drawn)
    (leave_shares_by c s n page word v l r there here (look_shares c s n page v l there here (alone s n page p l refl) (look_sees c s n page p sound)) h)

pub swap_out_shares : (c : Config) (s : Site) (level : Level) (n word : ℕ) (r : Answer × Site) → IsSound c s → swap_out c s level n word ≡ Ok r
    → Shares s r.1 (parted s (parting (events.SwapOut n word) r.0)) (joining (events.SwapOut n word) r.0) (hosting s (events.SwapOut n word))
unfolding swap_out
swap_out_shares c s level n word r sound h =
    let own = of_vm (vm_at s n) _ r h in
    let v = own.vm in
    let pass = passed (swap_out_gate level (standing v)) _ r own.then in
    leave_shares c s n v word (victim v word) r sound own.there refl pass.1
