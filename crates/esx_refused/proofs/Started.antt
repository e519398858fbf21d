-- What comes of starts, by sums and by the model.
use Rattle.std.proofs.Common.{◌≡◌, ℕ, zero, suc, ◌+◌, ◌≤◌, ◌<◌, nat_lt, nat_le, not, Bool, true, false, cond, List, [], ◌∷◌, ◌++◌, length, length-append, get_or, set, replicate, refl, sym, ap, ◌∙◌, subst, arith, append-nil, Some, None, Result, Ok, Err, inl, inr}
use Rattle.std.specs.List.{AllByRecursion, flat_map}
use Rattle.std.proofs.lemmas.Bool.{cases_lt}
use Rattle.std.proofs.lemmas.Bool.Decides.{nat_tests}
use Rattle.std.proofs.lemmas.List.{get_or-set_same, get_or-set_other}
use Rattle.std.proofs.lemmas.List.Sums.{sum_by-set}
use Rattle.esx_types.specs.declared.config.Config.{Config}
use Rattle.esx_types.specs.declared.config.TheConstants.{VM_NUMBERS}
use Rattle.esx_types.specs.declared.vm.VmState.{VmState}
use Rattle.esx_types.specs.declared.vm.VmState.TheVariants.{Starting, Running}
use Rattle.esx_events.specs.declared.event.Answer.TheVariants as answers
use Rattle.esx_events.specs.declared.event.Event.{Event}
use Rattle.esx_events.specs.declared.event.Event.TheVariants.{Start}
use Rattle.esx_events.specs.declared.event.Refusal.TheVariants.{Full, NotNeeded, NotRunning}
use Rattle.esx_scenario.specs.declared.plan.Guest.{Guest}
use Rattle.esx_model.specs.declared.scene.Vm.{Vm}
use Rattle.esx_model.specs.declared.scene.Site.{Site}
use Rattle.esx_model.specs.Site.{vm_at, with_vm, least_free, memory_reserve, memory_reserved}
use Rattle.esx_model.specs.event.Outcome.{at_vm, or_else, unless, standing, is_running, is_stopping}
use Rattle.esx_model.specs.event.Admission.{admitted}
use Rattle.esx_model.specs.event.Starting.{start_gate, with_overhead, take_overhead, start}
use Rattle.esx_model.specs.History.{History, done}
use Rattle.esx_model.proofs.Callers.{some_below, some_same}
use Rattle.esx_opening.specs.Orders.{of_number, below}
use Rattle.esx_opening.specs.Openings.{starts_of}
use Rattle.esx_refused.specs.declared.coming.RefusedOpening.{RefusedOpening}
use Rattle.esx_refused.specs.Refused.{lack, refused_from}
use Rattle.esx_refused.specs.Promised.{on_good, short_of_nodes, all_started, started_below}
use Rattle.esx_refused.proofs.Histories.{IsAt, refused_full, accepted_so, at_next, goes_on, ends}
use Rattle.esx_refused.proofs.FreeFrames.{IsBare, AreBare, frame_is_free}
use Rattle.esx_refused.proofs.Admitted.{IsRow, numbered, one_number, number_passed}

-- So many nodes are made, no more is promised than there is, and no machine has a page or too many frames.
pub record HasRoom (c : Config) (h : History) (s : Site) (made : ℕ) : Type 0 where
  pub is_at : IsAt c h s made
  pub within : made ≤ c.nodes
  pub bare : AreBare s.vms
  pub memory : memory_reserved s ≤ c.frames

-- A machine that is to take so many overhead frames more.
record Wants (v : Vm) (more : ℕ) : Type 0 where
  starting : 0 < more → v.state ≡ Starting
  frames : length v.overhead + more ≡ v.spec.overhead

-- Machine n has started, and no other has changed.
record HasStarted (c : Config) (h : History) (s : Site) (n more made : ℕ) : Type 0 where
  after : History
  site : Site
  goes : (rest : List Event) → refused_from h (replicate more (Start n) ++ rest) ≡ refused_from after rest
  room : HasRoom c after site made
  others : (k : ℕ) → (k ≡ n → ⊥) → vm_at site k ≡ vm_at s k

-- the nodes are too few, or not
abbrev StartsOrNot : Config → History → Site → ℕ → ℕ → ℕ → Bool → Type 0
StartsOrNot c h s n more made true = (rest : List Event) → refused_from h (replicate more (Start n) ++ rest) ≡ Some (record { vm = n; refusal = Full; lack = lack (c.nodes + 1) c.nodes })
StartsOrNot c h s n more made false = HasStarted c h s n more (made + more)

-- one frame for machine n
module _ (c : Config) (h : History) (s : Site) (n made : ℕ) (v : Vm) (room : HasRoom c h s made) (there : vm_at s n ≡ Some v) where
  full : nat_le c.nodes made ≡ true → (rest : List Event) → refused_from h (Start n ∷ rest) ≡ Some (record { vm = n; refusal = Full; lack = lack (c.nodes + 1) c.nodes })
  full none rest =
      let all : c.nodes ≤ made = grind (arith, nat_tests) in
      let within = room.within in
      let same : made ≡ c.nodes = omega (arith, all, within) in
      ends h (Start n) Full rest (refused_full c h s made room.is_at (Start n) none)
      ∙ ap (λ (d : Config). Some (record { vm = n; refusal = Full; lack = lack (length h.nodes + 1) d.nodes })) room.is_at.config
      ∙ ap (λ (k : ℕ). Some (record { vm = n; refusal = Full; lack = lack (k + 1) c.nodes })) (room.is_at.nodes ∙ same)

  starts_with : (f : ℕ) → least_free c.frames s ≡ Some f → v.state ≡ Starting
      → start c s n ≡ Ok (answers.Started (not (nat_lt (length v.overhead + 1) v.spec.overhead)) f (length v.overhead + 1) v.spec.overhead, with_vm s n (with_overhead v f))
  unfolding start
  starts_with f free starting =
      ap (λ o. at_vm o (λ w. unless (start_gate (standing w)) (take_overhead s n w (least_free c.frames s)))) there
      ∙ ap (λ (state : VmState). or_else (cond (is_running state) (Some NotNeeded) (cond (is_stopping state) (Some NotRunning) None)) (take_overhead s n v (least_free c.frames s))) starting
      ∙ ap (take_overhead s n v) free

  bare_after : (f : ℕ) → length v.overhead < v.spec.overhead → AreBare (with_vm s n (with_overhead v f)).vms
  bare_after f less k w is = elim (cases_lt k n) [
    | inl low ↦ other (λ e. omega (arith, low, e))
    | inr not_low ↦ elim (cases_lt n k) [
      | inl high ↦ other (λ e. omega (arith, high, e))
      | inr not_high ↦ (let same : k ≡ n = omega (arith, not_low, not_high) in here same)
    ]
  ]
    where
      other : (k ≡ n → ⊥) → IsBare w
      other ne = room.bare k w (sym (get_or-set_other s.vms n k (Some (with_overhead v f)) None ne) ∙ is)

      here : k ≡ n → IsBare w
      here same =
          let now : with_overhead v f ≡ w =
          some_same _ _ (sym (get_or-set_same s.vms n (Some (with_overhead v f)) None (some_below s.vms n v there)) ∙ ap (λ m. get_or (set s.vms n (Some (with_overhead v f))) m None) (sym same) ∙ is) in
          let old = room.bare n v there in
          let len = length-append v.overhead (f ∷ []) in
          subst IsBare now (record { overhead = omega (arith, len, less); places = old.places })

  memory_after : (f : ℕ) → memory_reserved (with_vm s n (with_overhead v f)) ≤ c.frames
  memory_after f =
      let sum = sum_by-set memory_reserve s.vms n (Some (with_overhead v f)) None (some_below s.vms n v there) in
      let was : memory_reserve (get_or s.vms n None) ≡ v.spec.min + v.spec.overhead = ap memory_reserve there in
      let old = room.memory in
      omega (arith, sum, was, old)

  room_after : (f : ℕ) → least_free c.frames s ≡ Some f → v.state ≡ Starting → length v.overhead < v.spec.overhead → made + 1 ≤ c.nodes → HasRoom c (done (Start n) h) (with_vm s n (with_overhead v f)) (made + 1)
  room_after f free starting less left = record {
    is_at = at_next c h s made room.is_at (Start n) _ (with_vm s n (with_overhead v f)) (starts_with f free starting);
    within = left;
    bare = bare_after f less;
    memory = memory_after f;
  }

  wants_after : (f more : ℕ) → Wants v (suc more) → Wants (with_overhead v f) more
  wants_after f more wants =
      let frames = wants.frames in
      let len = length-append v.overhead (f ∷ []) in
      record {
        starting = λ some. (let test : nat_lt (length v.overhead + 1) v.spec.overhead ≡ true = still (length v.overhead) v.spec.overhead more frames some in ap (λ b. cond b Starting Running) test);
        frames = omega (arith, frames, len);
      }
    where
      still : (a b m : ℕ) → a + suc m ≡ b → 0 < m → nat_lt (a + 1) b ≡ true
      still a b m e some = grind (arith, nat_tests)

  goes_first : (f : ℕ) → least_free c.frames s ≡ Some f → v.state ≡ Starting → made < c.nodes → (rest : List Event) → refused_from h (Start n ∷ rest) ≡ refused_from (done (Start n) h) rest
  goes_first f free starting left rest =
      let one_left : nat_le c.nodes made ≡ false = grind (arith, nat_tests) in
      goes_on h (Start n) _ rest (accepted_so c h s made room.is_at (Start n) one_left _ (with_vm s n (with_overhead v f)) (starts_with f free starting))

  -- as the other frames come, so do all
  follow : (f more : ℕ) → least_free c.frames s ≡ Some f → v.state ≡ Starting → made < c.nodes → (b : Bool) → StartsOrNot c (done (Start n) h) (with_vm s n (with_overhead v f)) n more (made + 1) b
      → StartsOrNot c h s n (suc more) made b
  follow f more free starting left true later = λ rest. goes_first f free starting left (replicate more (Start n) ++ rest) ∙ later rest
  follow f more free starting left false later = record {
    after = later.after;
    site = later.site;
    goes = λ rest. goes_first f free starting left (replicate more (Start n) ++ rest) ∙ later.goes rest;
    room = (let same : (made + 1) + more ≡ made + suc more = omega arith in subst (λ m. HasRoom c later.after later.site m) same later.room);
    others = λ k ne. later.others k ne ∙ get_or-set_other s.vms n k (Some (with_overhead v f)) None ne;
  }

  none_started : (b : Bool) → nat_lt c.nodes (made + zero) ≡ b → StartsOrNot c h s n zero made b
  none_started true e = (let within = room.within in let over : c.nodes < made + zero = grind (arith, nat_tests) in absurd (omega (arith, within, over)))
  none_started false e = record {
    after = h;
    site = s;
    goes = λ rest. refl;
    room = (let same : made ≡ made + zero = omega arith in subst (λ m. HasRoom c h s m) same room);
    others = λ k ne. refl;
  }

  too_few : (more : ℕ) → c.nodes ≤ made → StartsOrNot c h s n (suc more) made (nat_lt c.nodes (made + suc more))
  too_few more none =
      let over : nat_lt c.nodes (made + suc more) ≡ true = grind (arith, nat_tests) in
      let all : nat_le c.nodes made ≡ true = grind (arith, nat_tests) in
      subst (StartsOrNot c h s n (suc more) made) (sym over) (λ rest. full all (replicate more (Start n) ++ rest))

-- machine n starts, where it is to take so many frames
starts : (c : Config) (more : ℕ) (h : History) (s : Site) (n made : ℕ) (v : Vm) → HasRoom c h s made → vm_at s n ≡ Some v → Wants v more
    → StartsOrNot c h s n more made (nat_lt c.nodes (made + more))
starts c zero h s n made v room there wants = none_started c h s n made v room there (nat_lt c.nodes (made + zero)) refl
starts c (suc more) h s n made v room there wants = elim (cases_lt made c.nodes) [
  | inl left ↦
      (let frames = wants.frames in
      let less : length v.overhead < v.spec.overhead = omega (arith, frames) in
      let starting = wants.starting (omega arith) in
      let free = frame_is_free c s n v room.bare room.memory there less in
      let now = room_after c h s n made v room there free.0 free.1 starting less (omega (arith, left)) in
      let same : (made + 1) + more ≡ made + suc more = omega arith in
      let later = starts c more (done (Start n) h) (with_vm s n (with_overhead v free.0)) n (made + 1) (with_overhead v free.0) now
      (get_or-set_same s.vms n (Some (with_overhead v free.0)) None (some_below s.vms n v there)) (wants_after c h s n made v room there free.0 more wants) in
      subst (λ m. StartsOrNot c h s n (suc more) made (nat_lt c.nodes m)) same (follow c h s n made v room there free.0 more free.1 starting left _ later))
  | inr none ↦ too_few c h s n made v room there more none
]

-- The machines with numbers below n have started, and the others are as they were admitted.
pub record HaveStarted (c : Config) (guests : List Guest) (start : History) (n made : ℕ) : Type 0 where
  pub after : History
  pub site : Site
  pub goes : (rest : List Event) → refused_from start (flat_map starts_of (below n guests) ++ rest) ≡ refused_from after rest
  pub room : HasRoom c after site made
  pub later : (k : ℕ) → n ≤ k → k < VM_NUMBERS → IsRow (vm_at site k) (of_number guests k)

-- they have started, or the nodes are too few for this one of them
abbrev pub Begun : Config → List Guest → History → ℕ → Result ℕ RefusedOpening → Type 0
Begun c guests start n (Ok made) = HaveStarted c guests start n made
Begun c guests start n (Err first) = (rest : List Event) → refused_from start (flat_map starts_of (below n guests) ++ rest) ≡ Some first

module _ (c : Config) (guests : List Guest) (start : History) (n made : ℕ) (lt : n < VM_NUMBERS) (h : HaveStarted c guests start n made) where
  split : (gs : List Guest) → of_number guests n ≡ gs → (rest : List Event) → refused_from start (flat_map starts_of (below (suc n) guests) ++ rest) ≡ refused_from h.after (flat_map starts_of gs ++ rest)
  split gs are = one_number starts_of guests n start gs are h.after h.goes

  one_starts : (g : Guest) → of_number guests n ≡ g ∷ [] → g.vm ≡ n → (b : Bool) → StartsOrNot c h.after h.site g.vm g.spec.overhead made b
      → Begun c guests start (suc n) (cond b (Err (short_of_nodes c g)) (Ok (made + g.spec.overhead)))
  one_starts g are vm true short = λ rest.
      split (g ∷ []) are rest ∙ ap (λ es. refused_from h.after (es ++ rest)) (append-nil (starts_of g)) ∙ short rest
  one_starts g are vm false started = record {
    after = started.after;
    site = started.site;
    goes = λ rest. split (g ∷ []) are rest ∙ ap (λ es. refused_from h.after (es ++ rest)) (append-nil (starts_of g)) ∙ started.goes rest;
    room = started.room;
    later = λ k le low. subst (λ o. IsRow o (of_number guests k)) (sym (started.others k (λ e. omega (arith, le, e, vm)))) (h.later k (omega (arith, le)) low);
  }

  those_start : (gs : List Guest) → of_number guests n ≡ gs → AllByRecursion (λ x. x.vm ≡ n) gs → IsRow (vm_at h.site n) gs → Begun c guests start (suc n) (all_started c made gs)
  unfolding all_started
  those_start [] are all row = record {
    after = h.after;
    site = h.site;
    goes = split [] are;
    room = h.room;
    later = λ k le low. h.later k (omega (arith, le)) low;
  }
  those_start (g ∷ x ∷ gs) are all row = (let no = row.0 in cc)
  those_start (g ∷ []) are all row =
      one_starts g are all.0 _ (starts c g.spec.overhead h.after h.site g.vm made (admitted g.spec) h.room (ap (vm_at h.site) all.0 ∙ row.1) (record { starting = λ some. refl; frames = omega arith }))

more_start : (c : Config) (guests : List Guest) (start : History) (n : ℕ) → n < VM_NUMBERS → (y : Result ℕ RefusedOpening) → Begun c guests start n y
    → Begun c guests start (suc n) (on_good y (λ made. all_started c made (of_number guests n)))
more_start c guests start n lt (Ok made) h = those_start c guests start n made lt h (of_number guests n) refl (numbered n guests) (h.later n (omega arith) lt)
more_start c guests start n lt (Err first) h = λ rest. number_passed starts_of guests n start rest ∙ h (flat_map starts_of (of_number guests n) ++ rest)

nobody_yet : (c : Config) (guests : List Guest) (h : History) (s : Site) (made : ℕ) → HasRoom c h s made → ((k : ℕ) → k < VM_NUMBERS → IsRow (vm_at s k) (of_number guests k)) → HaveStarted c guests h 0 made
unfolding below
nobody_yet c guests h s made room each = record { after = h; site = s; goes = λ rest. refl; room = room; later = λ k le low. each k low }

-- as the sums have it, so the machines start
pub start_below : (c : Config) (guests : List Guest) (h : History) (s : Site) (made : ℕ) → HasRoom c h s made → ((k : ℕ) → k < VM_NUMBERS → IsRow (vm_at s k) (of_number guests k))
    → (n : ℕ) → n ≤ VM_NUMBERS → Begun c guests h n (started_below c made guests n)
unfolding started_below
start_below c guests h s made room each zero le = nobody_yet c guests h s made room each
start_below c guests h s made room each (suc n) le = more_start c guests h n (omega (arith, le)) (started_below c made guests n) (start_below c guests h s made room each n (omega (arith, le)))
