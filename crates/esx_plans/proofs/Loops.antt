-- A loop over the places of machines: what was made so far, and what is made of the rest.
use Rattle.std.proofs.Common.{◌≡◌, ℕ, zero, suc, ◌+◌, ◌-◌, ◌<◌, ◌≤◌, List, [], ◌∷◌, ◌++◌, length, get_or, drop, replicate, refl, sym, ap, ◌∙◌, append_assoc, Option, Some, None}
use Rattle.std.proofs.lemmas.List.{append-nil, at_drop_more, at_drop_all}
use Rattle.esx_types.specs.declared.config.TheConstants.{VM_NUMBERS}
use Rattle.esx_model.specs.declared.book.VmRow.{VmRow}
use Rattle.esx_tables.specs.Promised.{AreUsed}
use Rattle.esx_plans.specs.plan.Ratios.{numbered}

pub passed_by : {X : Type 0} (make : ℕ → VmRow → X) (vms : List (Option VmRow)) (n : ℕ) (so_far all : List X) → n < length vms → get_or vms n None ≡ None
    → so_far ++ numbered make n (drop n vms) ≡ all → so_far ++ numbered make (n + 1) (drop (n + 1) vms) ≡ all
passed_by {X = X} make vms n so_far all below is h =
    ap (λ (o : Option VmRow). so_far ++ numbered make n (o ∷ drop (n + 1) vms)) (sym is)
    ∙ ap (λ (xs : List X). so_far ++ xs) (sym (at_drop_more (numbered make n) vms n None below)) ∙ h

pub made_of : {X : Type 0} (make : ℕ → VmRow → X) (vms : List (Option VmRow)) (n : ℕ) (v : VmRow) (vm : ℕ) (x : X) (so_far now all : List X) → n < length vms → get_or vms n None ≡ Some v
    → now ≡ so_far ++ x ∷ [] → x ≡ make vm v → vm ≡ n → so_far ++ numbered make n (drop n vms) ≡ all → now ++ numbered make (n + 1) (drop (n + 1) vms) ≡ all
made_of {X = X} make vms n v vm x so_far now all below is pushed made named h =
    let rest : List X = numbered make (n + 1) (drop (n + 1) vms) in
    ap (λ (xs : List X). xs ++ rest) pushed
    ∙ append_assoc so_far (x ∷ []) rest
    ∙ ap (λ (y : X). so_far ++ y ∷ rest) (made ∙ ap (λ (k : ℕ). make k v) named)
    ∙ ap (λ (o : Option VmRow). so_far ++ numbered make n (o ∷ drop (n + 1) vms)) (sym is)
    ∙ ap (λ (xs : List X). so_far ++ xs) (sym (at_drop_more (numbered make n) vms n None below)) ∙ h

pub made_all : {X : Type 0} (make : ℕ → VmRow → X) (vms : List (Option VmRow)) (n : ℕ) (so_far all : List X) → length vms ≤ n → so_far ++ numbered make n (drop n vms) ≡ all → so_far ≡ all
made_all {X = X} make vms n so_far all past h =
    sym (append-nil so_far) ∙ ap (λ (xs : List X). so_far ++ xs) (sym (at_drop_all (numbered make n) vms n past)) ∙ h

-- The places up to the last machine are enough.

blank_makes : {X : Type 0} (make : ℕ → VmRow → X) (n k : ℕ) → numbered make n (replicate k None) ≡ []
blank_makes make n zero = refl
blank_makes make n (suc k) = blank_makes make (n + 1) k

with_blank : {X : Type 0} (make : ℕ → VmRow → X) (n k : ℕ) (used : List (Option VmRow)) → numbered make n (used ++ replicate k None) ≡ numbered make n used
with_blank make n k [] = blank_makes make n k
with_blank make n k (None ∷ used) = with_blank make (n + 1) k used
with_blank {X = X} make n k (Some v ∷ used) = ap (λ (xs : List X). make n v ∷ xs) (with_blank make (n + 1) k used)

pub made_of_used : {X : Type 0} (make : ℕ → VmRow → X) (used all : List (Option VmRow)) → AreUsed used all → numbered make 0 used ≡ numbered make 0 all
made_of_used make used all u = sym (with_blank make 0 (VM_NUMBERS - length used) used) ∙ ap (numbered make 0) u.blank

blank_at : (k n : ℕ) → get_or {A = Option VmRow} (replicate k None) n None ≡ None
blank_at zero n = refl
blank_at (suc k) zero = refl
blank_at (suc k) (suc n) = blank_at k n

with_blank_at : (used : List (Option VmRow)) (k n : ℕ) → get_or (used ++ replicate k None) n None ≡ get_or used n None
with_blank_at [] k n = blank_at k n
with_blank_at (x ∷ used) k zero = refl
with_blank_at (x ∷ used) k (suc n) = with_blank_at used k n

-- the machine with each number
pub used_at : (used all : List (Option VmRow)) → AreUsed used all → (n : ℕ) → get_or all n None ≡ get_or used n None
used_at used all u n = ap (λ (vms : List (Option VmRow)). get_or vms n None) (sym u.blank) ∙ with_blank_at used (VM_NUMBERS - length used) n

-- what is known of each machine
pub each_used : (P : VmRow → Type 0) (used all : List (Option VmRow)) → AreUsed used all → ((n : ℕ) (v : VmRow) → get_or all n None ≡ Some v → P v) → (n : ℕ) (v : VmRow) → get_or used n None ≡ Some v → P v
each_used P used all u each n v h =
    each n v (used_at used all u n ∙ h)
