-- What comes of admissions, by sums and by the model.
use Rattle.std.proofs.Common.{◌≡◌, ℕ, zero, suc, ◌+◌, ◌-◌, ◌≤◌, ◌<◌, ◌==◌, nat_lt, nat_le, Bool, true, false, cond, List, [], ◌∷◌, ◌++◌, length, get_or, replicate, sum_by, refl, sym, ap, ◌∙◌, subst, arith, append_assoc, Option, Some, None, Result, Ok, Err, inl, inr}
use Rattle.std.specs.Prelude.{is_some}
use Rattle.std.specs.List.{AllByRecursion, flat_map}
use Rattle.std.proofs.lemmas.Bool.{cases_lt}
use Rattle.std.proofs.lemmas.Bool.Decides.{nat_tests}
use Rattle.std.proofs.lemmas.Grind.{flat_map-append}
use Rattle.std.proofs.lemmas.List.{length-replicate, length-set, get_or-set_same, get_or-set_other}
use Rattle.std.proofs.lemmas.List.Sums.{sum_by-set}
use Rattle.std.proofs.lemmas.List.Folds.{sum_by-replicate}
use Rattle.esx_types.specs.declared.config.Config.{Config}
use Rattle.esx_types.specs.declared.config.TheConstants.{VM_NUMBERS}
use Rattle.esx_events.specs.declared.event.Answer.TheVariants as answers
use Rattle.esx_events.specs.declared.event.Event.{Event}
use Rattle.esx_events.specs.declared.event.Event.TheVariants.{Admit}
use Rattle.esx_events.specs.declared.event.Refusal.{Refusal}
use Rattle.esx_events.specs.declared.event.Refusal.TheVariants.{Full, VmThere, BadSpec, NoMemoryReserve, NoSwapReserve}
use Rattle.esx_scenario.specs.declared.plan.Guest.{Guest}
use Rattle.esx_model.specs.declared.scene.Vm.{Vm}
use Rattle.esx_model.specs.declared.scene.Site.{Site}
use Rattle.esx_model.specs.Site.{vm_at, with_vm, memory_reserve, swap_reserve, memory_reserved, swap_reserved}
use Rattle.esx_model.specs.event.Outcome.{Outcome, first, or_else}
use Rattle.esx_model.specs.event.Admission.{memory_with, swap_with, admit_gate, reserves_in, admitted, admit}
use Rattle.esx_model.specs.Replay.{opening}
use Rattle.esx_model.specs.History.{History, opened, done, scene_at, do_event}
use Rattle.esx_opening.specs.Orders.{of_number, below}
use Rattle.esx_opening.specs.Openings.{admit_of}
use Rattle.esx_refused.specs.declared.coming.Promised.{Promised}
use Rattle.esx_refused.specs.declared.coming.RefusedOpening.{RefusedOpening}
use Rattle.esx_refused.specs.Refused.{admission_lacks, refused_by, refused_from}
use Rattle.esx_refused.specs.Promised.{AreWithin, told, by_gate, node_gate, promised_with, on_good, all_promised, promised_below}
use Rattle.esx_refused.proofs.Histories.{IsAt, at_opening, refused_full, refused_so, accepted_so, at_next, goes_on, ends}

-- The machine with a number, if one has it, as it is admitted.
abbrev pub IsRow : Option Vm → List Guest → Type 0
IsRow o [] = o ≡ None
IsRow o (g ∷ gs) = (gs ≡ []) × (o ≡ Some (admitted g.spec))

-- The machines with numbers below n have come, and so much is promised to them.
pub record HaveCome (c : Config) (guests : List Guest) (n : ℕ) (t : Promised) : Type 0 where
  pub after : History
  pub site : Site
  pub goes : (rest : List Event) → refused_from (opened c) (flat_map admit_of (below n guests) ++ rest) ≡ refused_from after rest
  pub is_at : IsAt c after site t.nodes
  pub rows : length site.vms ≡ VM_NUMBERS
  pub within : AreWithin c t
  pub memory : memory_reserved site ≡ t.memory
  pub swap : swap_reserved site ≡ t.swap
  pub each : (k : ℕ) → k < n → IsRow (vm_at site k) (of_number guests k)
  pub above : (k : ℕ) → n ≤ k → vm_at site k ≡ None

-- they have come, or this one of them is refused, whatever is to follow
abbrev pub Comes : Config → List Guest → ℕ → Result Promised RefusedOpening → Type 0
Comes c guests n (Ok t) = HaveCome c guests n t
Comes c guests n (Err first) = (rest : List Event) → refused_from (opened c) (flat_map admit_of (below n guests) ++ rest) ≡ Some first

no_rows : (n k : ℕ) → get_or {A = Option Vm} (replicate n None) k None ≡ None
no_rows zero k = refl
no_rows (suc n) zero = refl
no_rows (suc n) (suc k) = no_rows n k

no_rows_many : (n : ℕ) → length {A = Option Vm} (replicate n None) ≡ n
no_rows_many n = length-replicate {A = Option Vm} n None

nobody_promised : (f : Option Vm → ℕ) (n : ℕ) → f None ≡ 0 → sum_by f (replicate n None) ≡ 0
nobody_promised f n e = sum_by-replicate f n None ∙ rw e (omega arith)

nobody : (c : Config) (guests : List Guest) → HaveCome c guests 0 (record { nodes = 0; memory = 0; swap = 0 })
unfolding below
nobody c guests = record {
  after = opened c;
  site = (opening c).site;
  goes = λ rest. refl;
  is_at = at_opening c;
  rows = no_rows_many VM_NUMBERS;
  within = record { nodes = omega arith; memory = omega arith; swap = omega arith };
  memory = nobody_promised memory_reserve VM_NUMBERS refl;
  swap = nobody_promised swap_reserve VM_NUMBERS refl;
  each = λ k lt. absurd (omega (arith, lt));
  above = λ k le. no_rows VM_NUMBERS k;
}

-- the events of one number more
module _ (f : Guest → List Event) (guests : List Guest) (n : ℕ) (start : History) where
  pub number_passed : (rest : List Event) → refused_from start (flat_map f (below (suc n) guests) ++ rest) ≡ refused_from start (flat_map f (below n guests) ++ (flat_map f (of_number guests n) ++ rest))
  unfolding below
  number_passed rest =
      ap (λ es. refused_from start (es ++ rest)) (flat_map-append f (below n guests) (of_number guests n))
      ∙ ap (refused_from start) (append_assoc (flat_map f (below n guests)) (flat_map f (of_number guests n)) rest)

  pub one_number : (gs : List Guest) → of_number guests n ≡ gs → (after : History) → ((rest : List Event) → refused_from start (flat_map f (below n guests) ++ rest) ≡ refused_from after rest)
      → (rest : List Event) → refused_from start (flat_map f (below (suc n) guests) ++ rest) ≡ refused_from after (flat_map f gs ++ rest)
  one_number gs are after goes rest = number_passed rest ∙ goes (flat_map f (of_number guests n) ++ rest) ∙ ap (λ l. refused_from after (flat_map f l ++ rest)) are

-- A machine was admitted.
record IsAdmitted (c : Config) (h : History) (s : Site) (t : Promised) (g : Guest) (u : Promised) : Type 0 where
  empty : is_some (vm_at s g.vm) ≡ false
  accepted : (rest : List Event) → refused_from h (Admit g.vm g.spec ∷ rest) ≡ refused_from (done (Admit g.vm g.spec) h) rest
  is_at : IsAt c (done (Admit g.vm g.spec) h) (with_vm s g.vm (admitted g.spec)) u.nodes
  within : AreWithin c u
  memory : u.memory ≡ t.memory + (g.spec.min + g.spec.overhead)
  swap : u.swap ≡ t.swap + (g.spec.max - g.spec.min)

-- a machine is admitted, or refused
abbrev Takes : Config → History → Site → Promised → Guest → Result Promised RefusedOpening → Type 0
Takes c h s t g (Ok u) = IsAdmitted c h s t g u
Takes c h s t g (Err first) = (rest : List Event) → refused_from h (Admit g.vm g.spec ∷ rest) ≡ Some first

-- what a gate lets through
record Passed (c : Config) (there : Bool) (t : Promised) (memory swap : ℕ) : Type 0 where
  node : nat_le c.nodes t.nodes ≡ false
  empty : there ≡ false
  fits : AreWithin c (record { nodes = t.nodes + 1; memory = memory; swap = swap })

below_not : (a b : ℕ) → nat_lt a b ≡ false → b ≤ a
below_not a b h = grind (arith, nat_tests)

one_left : (a b : ℕ) → nat_le a b ≡ false → b + 1 ≤ a
one_left a b h = grind (arith, nat_tests)

passed_gate : (c : Config) (there good : Bool) (b m w : Bool) (t : Promised) (g : Guest) (memory swap : ℕ) → nat_le c.nodes t.nodes ≡ b → nat_lt c.frames memory ≡ m → nat_lt c.slots swap ≡ w
    → cond b (Some Full) (cond there (Some VmThere) (cond good (Some BadSpec) (cond m (Some NoMemoryReserve) (cond w (Some NoSwapReserve) None)))) ≡ None → Passed c there t memory swap
passed_gate c false false false false false t g memory swap e f k is =
    record { node = e; empty = refl; fits = record { nodes = one_left c.nodes t.nodes e; memory = below_not c.frames memory f; swap = below_not c.slots swap k } }
passed_gate c there good true m w t g memory swap e f k is = cc
passed_gate c true good false m w t g memory swap e f k is = cc
passed_gate c false true false m w t g memory swap e f k is = cc
passed_gate c false false false true w t g memory swap e f k is = cc
passed_gate c false false false false true t g memory swap e f k is = cc

module _ (c : Config) (h : History) (s : Site) (t : Promised) (g : Guest) (is_at : IsAt c h s t.nodes) (memory : memory_reserved s ≡ t.memory) (swap : swap_reserved s ≡ t.swap) where
  memory_now : ℕ
  memory_now = t.memory + (g.spec.min + g.spec.overhead)

  swap_now : ℕ
  swap_now = t.swap + (g.spec.max - g.spec.min)

  memory_is : memory_with s g.spec ≡ memory_now
  unfolding memory_now
  memory_is = ap (λ k. k + (g.spec.min + g.spec.overhead)) memory

  swap_is : swap_with s g.spec ≡ swap_now
  unfolding swap_now
  swap_is = ap (λ k. k + (g.spec.max - g.spec.min)) swap

  -- what the model says of the admission
  admits : (o : Option Refusal) → first (admit_gate c (is_some (vm_at s g.vm)) g.spec memory_now swap_now) ≡ o
      → admit c s g.vm g.spec ≡ or_else o (Ok (answers.Admitted (reserves_in c (memory_with s g.spec) (swap_with s g.spec)), with_vm s g.vm (admitted g.spec)))
  unfolding admit
  admits o is =
      let answer : Outcome = Ok (answers.Admitted (reserves_in c (memory_with s g.spec) (swap_with s g.spec)), with_vm s g.vm (admitted g.spec)) in
      ap (λ m. or_else (first (admit_gate c (is_some (vm_at s g.vm)) g.spec m (swap_with s g.spec))) answer) memory_is
      ∙ ap (λ w. or_else (first (admit_gate c (is_some (vm_at s g.vm)) g.spec memory_now w)) answer) swap_is
      ∙ ap (λ x. or_else x answer) is

  told_by : (e : Refusal) → refused_by h (Admit g.vm g.spec) e ≡ Some (told c g (t.nodes + 1) memory_now swap_now e)
  told_by e =
      let tell : Config → ℕ → ℕ → ℕ → Option RefusedOpening = λ d k m w. Some (record { vm = g.vm; refusal = e; lack = admission_lacks d (k + 1) m w e }) in
      ap (λ d. tell d (length h.nodes) (memory_with (scene_at h).site g.spec) (swap_with (scene_at h).site g.spec)) is_at.config
      ∙ ap (λ k. tell c k (memory_with (scene_at h).site g.spec) (swap_with (scene_at h).site g.spec)) is_at.nodes
      ∙ ap (λ x. tell c t.nodes (memory_with x g.spec) (swap_with x g.spec)) is_at.site
      ∙ ap (λ m. tell c t.nodes m (swap_with s g.spec)) memory_is
      ∙ ap (λ w. tell c t.nodes memory_now w) swap_is

  told_so : (e : Refusal) → do_event (Admit g.vm g.spec) h ≡ Err e → (rest : List Event) → refused_from h (Admit g.vm g.spec ∷ rest) ≡ Some (told c g (t.nodes + 1) memory_now swap_now e)
  told_so e is rest = ends h (Admit g.vm g.spec) e rest is ∙ told_by e

  refuses : (b : Bool) (x : Option Refusal) (e : Refusal) → nat_le c.nodes t.nodes ≡ b → first (admit_gate c (is_some (vm_at s g.vm)) g.spec memory_now swap_now) ≡ x → cond b (Some Full) x ≡ Some e
      → do_event (Admit g.vm g.spec) h ≡ Err e
  refuses true x e node is so = (let same : Full ≡ e = cc in refused_full c h s t.nodes is_at (Admit g.vm g.spec) node ∙ ap Err same)
  refuses false x e node is so = refused_so c h s t.nodes is_at (Admit g.vm g.spec) node e (admits x is ∙ ap (λ y. or_else y (Ok (answers.Admitted (reserves_in c (memory_with s g.spec) (swap_with s g.spec)), with_vm s g.vm (admitted g.spec)))) so)

  takes : (o : Option Refusal) → first (node_gate c t (is_some (vm_at s g.vm)) g memory_now swap_now) ≡ o → Takes c h s t g (by_gate c t g memory_now swap_now o)
  unfolding memory_now swap_now
  takes (Some e) is = told_so e (refuses _ _ e refl refl is)
  takes None is =
      let p = passed_gate c (is_some (vm_at s g.vm)) _ _ _ _ t g memory_now swap_now refl refl refl is in
      let passes : first (admit_gate c (is_some (vm_at s g.vm)) g.spec memory_now swap_now) ≡ None =
      ap (λ b. cond b (Some Full) (first (admit_gate c (is_some (vm_at s g.vm)) g.spec memory_now swap_now))) (sym p.node) ∙ is in
      let answer = answers.Admitted (reserves_in c (memory_with s g.spec) (swap_with s g.spec)) in
      record {
        empty = p.empty;
        accepted = λ rest. goes_on h (Admit g.vm g.spec) answer rest (accepted_so c h s t.nodes is_at (Admit g.vm g.spec) p.node answer (with_vm s g.vm (admitted g.spec)) (admits None passes));
        is_at = at_next c h s t.nodes is_at (Admit g.vm g.spec) answer (with_vm s g.vm (admitted g.spec)) (admits None passes);
        within = p.fits;
        memory = refl;
        swap = refl;
      }

  one_comes : (there : Bool) → is_some (vm_at s g.vm) ≡ there → Takes c h s t g (promised_with c t there g)
  unfolding memory_now swap_now
  one_comes there e = subst (λ b. Takes c h s t g (promised_with c t b g)) e (takes _ refl)

no_vm : (o : Option Vm) → is_some o ≡ false → o ≡ None
no_vm None e = refl
no_vm (Some v) e = cc

module _ (s : Site) (n : ℕ) (lt : n < length s.vms) (v : Vm) (none : vm_at s n ≡ None) where
  one_more_promised : (f : Option Vm → ℕ) → f None ≡ 0 → sum_by f (with_vm s n v).vms ≡ sum_by f s.vms + f (Some v)
  one_more_promised f e =
      let sum = sum_by-set f s.vms n (Some v) None lt in
      let was : f (get_or s.vms n None) ≡ 0 = ap f none ∙ e in
      omega arith

module _ (c : Config) (guests : List Guest) (n : ℕ) (t : Promised) (lt : n < VM_NUMBERS) (h : HaveCome c guests n t) where
  inside : n < length h.site.vms
  inside = subst (λ k. n < k) (sym h.rows) lt

  split : (gs : List Guest) → of_number guests n ≡ gs → (rest : List Event) → refused_from (opened c) (flat_map admit_of (below (suc n) guests) ++ rest) ≡ refused_from h.after (flat_map admit_of gs ++ rest)
  split gs are = one_number admit_of guests n (opened c) gs are h.after h.goes

  -- no machine has the number
  none_more : of_number guests n ≡ [] → HaveCome c guests (suc n) t
  none_more are = record {
    after = h.after;
    site = h.site;
    goes = split [] are;
    is_at = h.is_at;
    rows = h.rows;
    within = h.within;
    memory = h.memory;
    swap = h.swap;
    each = λ k less. elim (cases_lt k n) [
      | inl before ↦ h.each k before
      | inr not_before ↦ (let same : n ≡ k = omega (arith, less, not_before) in subst (λ m. IsRow (vm_at h.site m) (of_number guests m)) same (subst (IsRow (vm_at h.site n)) (sym are) (h.above n (omega arith))))
    ];
    above = λ k le. h.above k (omega (arith, le));
  }

  module _ (g : Guest) (vm : g.vm ≡ n) where
    with_it : Site
    with_it = with_vm h.site n (admitted g.spec)

    there_now : vm_at with_it n ≡ Some (admitted g.spec)
    unfolding with_it
    there_now = get_or-set_same h.site.vms n (Some (admitted g.spec)) None inside

    others_stay : (k : ℕ) → (k ≡ n → ⊥) → vm_at with_it k ≡ vm_at h.site k
    unfolding with_it
    others_stay k ne = get_or-set_other h.site.vms n k (Some (admitted g.spec)) None ne

    -- it is the only one
    one_more : (u : Promised) → of_number guests n ≡ g ∷ [] → IsAdmitted c h.after h.site t g u → HaveCome c guests (suc n) u
    unfolding with_it
    one_more u are is = record {
      after = done (Admit g.vm g.spec) h.after;
      site = with_vm h.site n (admitted g.spec);
      goes = λ rest. split (g ∷ []) are rest ∙ is.accepted rest;
      is_at = subst (λ m. IsAt c (done (Admit g.vm g.spec) h.after) (with_vm h.site m (admitted g.spec)) u.nodes) vm is.is_at;
      rows = length-set h.site.vms n (Some (admitted g.spec)) ∙ h.rows;
      within = is.within;
      memory = one_more_promised h.site n inside (admitted g.spec) (h.above n (omega arith)) memory_reserve refl ∙ ap (λ k. k + (g.spec.min + g.spec.overhead)) h.memory ∙ sym is.memory;
      swap = one_more_promised h.site n inside (admitted g.spec) (h.above n (omega arith)) swap_reserve refl ∙ ap (λ k. k + (g.spec.max - g.spec.min)) h.swap ∙ sym is.swap;
      each = λ k less. elim (cases_lt k n) [
        | inl before ↦ subst (λ o. IsRow o (of_number guests k)) (sym (others_stay k (λ e. omega (arith, before, e)))) (h.each k before)
        | inr not_before ↦
            (let same : n ≡ k = omega (arith, less, not_before) in subst (λ m. IsRow (vm_at with_it m) (of_number guests m)) same (subst (IsRow (vm_at with_it n)) (sym are) (refl, there_now)))
      ];
      above = λ k le. others_stay k (λ e. omega (arith, le, e)) ∙ h.above k (omega (arith, le));
    }

    -- a second one is refused
    no_second : (u : Promised) (x : Guest) (later : List Guest) → of_number guests n ≡ g ∷ x ∷ later → x.vm ≡ n → (is : IsAdmitted c h.after h.site t g u)
        → (y : Result Promised RefusedOpening) → Takes c (done (Admit g.vm g.spec) h.after) with_it u x y → Comes c guests (suc n) (on_good y (λ w. all_promised c w true later))
    no_second u x later are same is (Ok w) took =
        let no : is_some (vm_at with_it n) ≡ false = ap (λ k. is_some (vm_at with_it k)) (sym same) ∙ took.empty in
        let yes : is_some (vm_at with_it n) ≡ true = ap is_some there_now in
        cc
    no_second u x later are same is (Err first) took =
        λ rest. split (g ∷ x ∷ later) are rest ∙ is.accepted (flat_map admit_of (x ∷ later) ++ rest) ∙ took (flat_map admit_of later ++ rest)

    after_one : (u : Promised) (gs : List Guest) → of_number guests n ≡ g ∷ gs → AllByRecursion (λ x. x.vm ≡ n) gs → IsAdmitted c h.after h.site t g u → Comes c guests (suc n) (all_promised c u true gs)
    unfolding all_promised with_it
    after_one u [] are all is = one_more u are is
    after_one u (x ∷ later) are all is =
        let now = subst (λ m. IsAt c (done (Admit g.vm g.spec) h.after) (with_vm h.site m (admitted g.spec)) u.nodes) vm is.is_at in
        let memory : memory_reserved (with_vm h.site n (admitted g.spec)) ≡ u.memory =
        one_more_promised h.site n inside (admitted g.spec) (h.above n (omega arith)) memory_reserve refl ∙ ap (λ k. k + (g.spec.min + g.spec.overhead)) h.memory ∙ sym is.memory in
        let swap : swap_reserved (with_vm h.site n (admitted g.spec)) ≡ u.swap =
        one_more_promised h.site n inside (admitted g.spec) (h.above n (omega arith)) swap_reserve refl ∙ ap (λ k. k + (g.spec.max - g.spec.min)) h.swap ∙ sym is.swap in
        let there : is_some (vm_at with_it x.vm) ≡ true = ap (λ k. is_some (vm_at with_it k)) all.0 ∙ ap is_some there_now in
        no_second u x later are all.0 is _ (one_comes c (done (Admit g.vm g.spec) h.after) with_it u x now memory swap true there)

    first_comes : (gs : List Guest) → of_number guests n ≡ g ∷ gs → AllByRecursion (λ x. x.vm ≡ n) gs → (y : Result Promised RefusedOpening) → Takes c h.after h.site t g y
        → Comes c guests (suc n) (on_good y (λ u. all_promised c u true gs))
    first_comes gs are all (Ok u) took = after_one u gs are all took
    first_comes gs are all (Err first) took = λ rest. split (g ∷ gs) are rest ∙ took (flat_map admit_of gs ++ rest)

  those_come : (gs : List Guest) → of_number guests n ≡ gs → AllByRecursion (λ x. x.vm ≡ n) gs → Comes c guests (suc n) (all_promised c t false gs)
  unfolding all_promised
  those_come [] are all = none_more are
  those_come (g ∷ gs) are all =
      first_comes g all.0 gs are all.1 _
      (one_comes c h.after h.site t g h.is_at h.memory h.swap false (ap (λ k. is_some (vm_at h.site k)) all.0 ∙ ap is_some (h.above n (omega arith))))

same_number : (a b : ℕ) → (a == b) ≡ true → a ≡ b
same_number a b e = grind (arith, nat_tests)

numbered_more : (n : ℕ) (g : Guest) (gs : List Guest) (b : Bool) → (g.vm == n) ≡ b → AllByRecursion (λ x. x.vm ≡ n) gs → AllByRecursion (λ x. x.vm ≡ n) (cond b (g ∷ gs) gs)
numbered_more n g gs true e all = (same_number g.vm n e, all)
numbered_more n g gs false e all = all

pub numbered : (n : ℕ) (gs : List Guest) → AllByRecursion (λ g. g.vm ≡ n) (of_number gs n)
numbered n [] = tt
numbered n (g ∷ gs) = numbered_more n g (of_number gs n) (g.vm == n) refl (numbered n gs)

more_come : (c : Config) (guests : List Guest) (n : ℕ) → n < VM_NUMBERS → (y : Result Promised RefusedOpening) → Comes c guests n y
    → Comes c guests (suc n) (on_good y (λ t. all_promised c t false (of_number guests n)))
more_come c guests n lt (Ok t) h = those_come c guests n t lt h (of_number guests n) refl (numbered n guests)
more_come c guests n lt (Err first) h = λ rest. number_passed admit_of guests n (opened c) rest ∙ h (flat_map admit_of (of_number guests n) ++ rest)

-- as the sums have it, so the machines come
pub come_below : (c : Config) (guests : List Guest) (n : ℕ) → n ≤ VM_NUMBERS → Comes c guests n (promised_below c guests n)
unfolding promised_below
come_below c guests zero le = nobody c guests
come_below c guests (suc n) le = more_come c guests n (omega (arith, le)) (promised_below c guests n) (come_below c guests n (omega (arith, le)))
