-- What a read, a write and a replace do to memories.
use Rattle.std.proofs.Common.{◌≡◌, ℕ, Bool, false, List, length, take, drop, map, set, refl, sym, ap, ◌∙◌, subst, Option, Some, None, Ok, ◌||◌}
use Rattle.std.proofs.lemmas.List.{map-set}
use Rattle.std.proofs.Math.Seq.{map-set_same}
use Rattle.std.specs.Option.{option_map}
use Rattle.esx_types.specs.declared.config.Config.{Config}
use Rattle.esx_types.specs.declared.level.Level.{Level}
use Rattle.esx_events.specs.declared.event.Answer.{Answer}
use Rattle.esx_events.specs.declared.event.Answer.TheVariants as answers
use Rattle.esx_model.specs.declared.scene.Place.{Place}
use Rattle.esx_model.specs.declared.scene.Place.TheVariants.{Untouched, Here, Out, Lent}
use Rattle.esx_model.specs.declared.scene.Vm.{Vm}
use Rattle.esx_model.specs.declared.scene.Site.{Site}
use Rattle.esx_model.specs.Places.{is_shared, is_here, contents}
use Rattle.esx_model.specs.Site.{vm_at, place_at, free_count}
use Rattle.std.specs.List.{list_any}
use Rattle.esx_model.specs.Hints.{with_place, with_change, placed}
use Rattle.esx_model.specs.event.Outcome.{standing}
use Rattle.esx_model.specs.event.Balloon.{popped}
use Rattle.esx_model.specs.event.Access.{access_gate, overwritten, read_frame, write_frame, after_access, read, write}
use Rattle.esx_model.specs.event.Paging.{victim, is_above_min, replace_gate, freed_slot, trade, trade_for, replace}
use Rattle.esx_model.proofs.Callers.{of_vm, passed, accepted, same_site, settled, with_change_is, vm_there, vm_placed_there}
use Rattle.esx_model.specs.Memory.{Memory, memory_of, memory_at, cell_of, bytes_at, come, touched, written}
use Rattle.esx_isolation.proofs.Turns.{Has, Turns, has_change, has_placed, has_again, turns_by, memory_there, bytes_are, lent_is, has_access}

-- a page comes with bytes that its machine's memory tells
access_turns : (c : Config) (s : Site) (n page : ℕ) (v : Vm) (bytes : List ℕ) (f : ℕ) (shared : Bool) (told : Memory → List ℕ) (r : Answer × Site) → vm_at s n ≡ Some v → bytes ≡ told (memory_of c v)
    → after_access s n page (Here bytes f shared) ≡ r.1 → Turns c s n (option_map (λ m. come c page (told m) m)) r.1
access_turns c s n page v bytes f shared told r there is after =
    let P : Site → Type 0 = Turns c s n (option_map (λ m. come c page (told m) m)) in
    subst P after (turns_by c s (after_access s n page (Here bytes f shared)) n v (Some (come c page bytes (memory_of c v))) (option_map (λ m. come c page (told m) m)) there
    (has_access c s n page v bytes f shared there) (ap (λ b. Some (come c page b (memory_of c v))) is))

pub read_turns : (c : Config) (s : Site) (level : Level) (n page at len : ℕ) (r : Answer × Site) → read c s level n page at len ≡ Ok r → Turns c s n (option_map (touched c page)) r.1
unfolding read
read_turns c s level n page at len r h =
    let own = of_vm (vm_at s n) _ r h in
    let v = own.vm in
    let pass = passed (access_gate c level (standing v) page at len) _ r own.then in
    let p = place_at v page in
    let said : Answer = answers.Bytes (take len (drop at (contents c p))) in
    let done = settled s n page said (contents c p) (is_shared p) (read_frame c s p) r pass.1 in
    access_turns c s n page v (contents c p) done.0 (is_shared p) (λ m. bytes_at c m page) r own.there (sym (bytes_are c v page))
    (same_site said (after_access s n page (Here (contents c p) done.0 (is_shared p))) r done.2)

-- and what it answers
pub read_tells : (c : Config) (s : Site) (level : Level) (n page at len : ℕ) (r : Answer × Site) → read c s level n page at len ≡ Ok r
    → (m : Memory) × (memory_at c s n ≡ Some m) × (r.0 ≡ answers.Bytes (take len (drop at (bytes_at c m page))))
unfolding read
read_tells c s level n page at len r h =
    let own = of_vm (vm_at s n) _ r h in
    let v = own.vm in
    let pass = passed (access_gate c level (standing v) page at len) _ r own.then in
    let p = place_at v page in
    let said : Answer = answers.Bytes (take len (drop at (contents c p))) in
    let done = settled s n page said (contents c p) (is_shared p) (read_frame c s p) r pass.1 in
    (memory_of c v, memory_there c s n v own.there, sym (same_answer said (after_access s n page (Here (contents c p) done.0 (is_shared p))) r done.2) ∙ ap (λ bytes. answers.Bytes (take len (drop at bytes))) (sym (bytes_are c v page)))
  where
    same_answer : (a : Answer) (t : Site) (r : Answer × Site) → accepted a t ≡ Ok r → a ≡ r.0
    same_answer a t r h = let pair : (a, t) ≡ r = cc in ap (λ (x : Answer × Site). x.0) pair

pub write_turns : (c : Config) (s : Site) (level : Level) (n page at : ℕ) (new : List ℕ) (r : Answer × Site) → write c s level n page at new ≡ Ok r → Turns c s n (option_map (written c page at new)) r.1
unfolding write
write_turns c s level n page at new r h =
    let own = of_vm (vm_at s n) _ r h in
    let v = own.vm in
    let pass = passed (access_gate c level (standing v) page at (length new)) _ r own.then in
    let p = place_at v page in
    let bytes = overwritten (contents c p) at new in
    let done = settled s n page answers.Done bytes false (write_frame c s p) r pass.1 in
    access_turns c s n page v bytes done.0 false (λ m. overwritten (bytes_at c m page) at new) r own.there (ap (λ old. overwritten old at new) (sym (bytes_are c v page)))
    (same_site answers.Done (after_access s n page (Here bytes done.0 false)) r done.2)

-- A page makes room for another of its machine.

trade_is : (c : Config) (v : Vm) (page q : ℕ) (bytes : List ℕ) (f i : ℕ) (shared : Bool) (new : List ℕ) → place_at v q ≡ Here bytes f shared
    → memory_of c (with_place page (Here new f false) (with_place q (Out bytes i) (popped page v))) ≡ come c page new (memory_of c v)
trade_is c v page q bytes f i shared new was =
    ap (λ cells. record (memory_of c (popped page v)) { pages = cells }) (map-set (cell_of c) (set v.places q (Out bytes i)) page (Here new f false))
    ∙ ap (λ cells. record (memory_of c (popped page v)) { pages = set cells page (record { bytes = new; lent = None }) })
    (map-set_same (cell_of c) v.places q (Out bytes i) Untouched (ap (cell_of c) (sym was)))
    ∙ ap (λ b. record (memory_of c v) { due = v.due || b; pages = set (map (cell_of c) v.places) page (record { bytes = new; lent = None }) }) (sym (lent_is c v page))

trade_has : (c : Config) (s : Site) (n page : ℕ) (v : Vm) (q : ℕ) (bytes : List ℕ) (f i : ℕ) (shared : Bool) (new : List ℕ) → vm_at s n ≡ Some v → place_at v q ≡ Here bytes f shared
    → Has c s n (Some (come c page new (memory_of c v))) (placed (placed (with_change s n (popped page)) n q (Out bytes i)) n page (Here new f false))
trade_has c s n page v q bytes f i shared new there was =
    let v1 = popped page v in
    let s1 = with_change s n (popped page) in
    let there1 : vm_at s1 n ≡ Some v1 = ap (λ t. vm_at t n) (with_change_is s n v (popped page) there) ∙ vm_there s n v v1 there in
    let v2 = with_place q (Out bytes i) v1 in
    let s2 = placed s1 n q (Out bytes i) in
    let there2 = vm_placed_there s1 n q v1 (Out bytes i) there1 in
    let v3 = with_place page (Here new f false) v2 in
    let s3 = placed s2 n page (Here new f false) in
    let two = has_again c s s1 s2 n (Some (memory_of c v1)) (Some (memory_of c v2)) (has_change c s n v (popped page) there) (has_placed c s1 n q v1 (Out bytes i) there1) in
    let three = has_again c s s2 s3 n (Some (memory_of c v2)) (Some (memory_of c v3)) two (has_placed c s2 n page v2 (Here new f false) there2) in
    let P : Memory → Type 0 = λ x. Has c s n (Some x) s3 in
    subst P (trade_is c v page q bytes f i shared new was) three

trade_turns : (c : Config) (s : Site) (n page : ℕ) (v : Vm) (q : ℕ) (p : Place) (o : Option ℕ) (r : Answer × Site) → vm_at s n ≡ Some v → place_at v q ≡ p → trade c s n page (place_at v page) q p o ≡ Ok r
    → Turns c s n (option_map (touched c page)) r.1
trade_turns c s n page v q Untouched o r there was h = cc
trade_turns c s n page v q (Out bytes j) o r there was h = cc
trade_turns c s n page v q (Lent e) o r there was h = cc
trade_turns c s n page v q (Here bytes f shared) None r there was h = cc
trade_turns c s n page v q (Here bytes f shared) (Some i) r there was h =
    let new = contents c (place_at v page) in
    let after = placed (placed (with_change s n (popped page)) n q (Out bytes i)) n page (Here new f false) in
    let P : Site → Type 0 = Turns c s n (option_map (touched c page)) in
    subst P (same_site (answers.Replaced q i f) after r h)
    (turns_by c s after n v (Some (come c page new (memory_of c v))) (option_map (touched c page)) there (trade_has c s n page v q bytes f i shared new there was)
    (ap (λ b. Some (come c page b (memory_of c v))) (sym (bytes_are c v page))))

trade_for_turns : (c : Config) (s : Site) (n page : ℕ) (v : Vm) (o : Option ℕ) (r : Answer × Site) → vm_at s n ≡ Some v → trade_for c s n v page o ≡ Ok r → Turns c s n (option_map (touched c page)) r.1
trade_for_turns c s n page v None r there h = cc
trade_for_turns c s n page v (Some q) r there h = trade_turns c s n page v q (place_at v q) (freed_slot c s (place_at v page)) r there refl h

pub replace_turns : (c : Config) (s : Site) (n page word : ℕ) (r : Answer × Site) → replace c s n page word ≡ Ok r → Turns c s n (option_map (touched c page)) r.1
unfolding replace
replace_turns c s n page word r h =
    let own = of_vm (vm_at s n) _ r h in
    let v = own.vm in
    let pass = passed (replace_gate (standing v) page (is_here (place_at v page)) (free_count c.frames s) (list_any is_above_min s.vms)) _ r own.then in
    trade_for_turns c s n page v (victim v word) r own.there pass.1
