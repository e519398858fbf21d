-- What is kept beside the places of machines, where none stands, where one comes or goes, and where a part of one changes.
use Rattle.std.proofs.Common.{◌≡◌, ℕ, zero, suc, ◌+◌, ◌-◌, ◌*◌, ◌<◌, ◌≤◌, List, [], ◌∷◌, ◌++◌, length, get_or, set, take, replicate, sum_by, All, Option, Some, None, is_some, true, refl, sym, ap, ◌∙◌, inl, inr, arith}
use Rattle.std.proofs.lemmas.Bool.{cases_lt, cases_eq}
use Rattle.std.proofs.lemmas.List.{length-set, length-replicate, length-take-le, get_or-take, get_or-replicate, get_or_past, get_or-set_same, get_or-set_other}
use Rattle.std.proofs.lemmas.List.Elements.{All-get_or, All-from_get_or, All-set, All-weaker}
use Rattle.std.proofs.lemmas.List.Sums.{sum_by-set, sum_by-le}
use Rattle.std.proofs.lemmas.List.Folds.{sum_by-replicate}
use Rattle.esx_types.specs.declared.config.TheConstants.{VM_NUMBERS}
use Rattle.esx_model.specs.declared.book.VmRow.{VmRow}
use Rattle.esx_tables.specs.declared.change.VmPart.{VmPart}
use Rattle.esx_tables.specs.declared.change.VmPart.TheVariants.{PageAt, Facts, Target, Period, Done, Touched, Averages, OverheadTop}
use Rattle.esx_tables.specs.Machines.{part_traded, vm_traded}
use Rattle.esx_tables.specs.Promised.{memory_of, swap_of, most_of_one, most_of_all, IsFew, AreKept, AreUsed}

-- blank places behind those that are used
all_blank : (rows : List (Option VmRow)) → ((n : ℕ) → get_or rows n None ≡ None) → replicate (length rows) None ≡ rows
all_blank [] blank = refl
all_blank (x ∷ xs) blank =
    ap (λ (o : Option VmRow). o ∷ replicate (length xs) None) (sym (blank 0))
    ∙ ap (λ (l : List (Option VmRow)). x ∷ l) (all_blank xs (λ n. blank (suc n)))

blank_past : (rows : List (Option VmRow)) (used : ℕ) → ((n : ℕ) → used ≤ n → get_or rows n None ≡ None) → take used rows ++ replicate (length rows - used) None ≡ rows
blank_past rows zero past =
    let all : length rows - 0 ≡ length rows = omega arith in
    rw all (all_blank rows (λ n. past n (omega arith)))
blank_past [] (suc used) past = (let none : 0 - suc used ≡ 0 = omega arith in rw none refl)
blank_past (x ∷ xs) (suc used) past =
    let rest : length (x ∷ xs) - suc used ≡ length xs - used = omega arith in
    rw rest (ap (λ (l : List (Option VmRow)). x ∷ l) (blank_past xs used (λ n h. past (suc n) (omega (arith, h)))))

pub used_shown : (rows : List (Option VmRow)) (used memory swap : ℕ) → AreKept rows used memory swap → AreUsed (take used rows) rows
used_shown rows used memory swap k =
    let few : used ≤ length rows = omega (arith, k.few, k.places) in
    let long : length (take used rows) ≡ used = length-take-le used rows few in
    let places : VM_NUMBERS - length (take used rows) ≡ length rows - used = omega (arith, long, k.places) in
    record {
      few = omega (arith, long, k.few);
      blank = rw places (blank_past rows used k.top.past);
      last = λ n h. ap (λ (o : Option VmRow). is_some o) (get_or-take used rows n None (omega (arith, h, long))) ∙ k.top.last n (omega (arith, h, long));
    }

-- What is promised stays where a part of a machine is traded.

record IsLike (o p : Option VmRow) : Type 0 where
  memory : memory_of p ≡ memory_of o
  swap : swap_of p ≡ swap_of o
  there : is_some p ≡ is_some o

part_like : (v : VmRow) (part : VmPart) → IsLike (Some v) (Some (part_traded v part).0)
part_like v (PageAt page row) = record { memory = refl; swap = refl; there = refl }
part_like v (Facts facts) = record { memory = refl; swap = refl; there = refl }
part_like v (Target target) = record { memory = refl; swap = refl; there = refl }
part_like v (Period period) = record { memory = refl; swap = refl; there = refl }
part_like v (Done done) = record { memory = refl; swap = refl; there = refl }
part_like v (Touched mark) = record { memory = refl; swap = refl; there = refl }
part_like v (Averages m) = record { memory = refl; swap = refl; there = refl }
part_like v (OverheadTop frame) = record { memory = refl; swap = refl; there = refl }

vm_like : (o : Option VmRow) (part : VmPart) → IsLike o (vm_traded o part).0
vm_like None part = record { memory = refl; swap = refl; there = refl }
vm_like (Some v) part = part_like v part

like_kept : (rows : List (Option VmRow)) (used memory swap at : ℕ) (o : Option VmRow) → AreKept rows used memory swap → at < used → IsLike (get_or rows at None) o → AreKept (set rows at o) used memory swap
like_kept rows used memory swap at o k below like =
    let there : at < length rows = omega (arith, below, k.few, k.places) in
    let few = All-get_or IsFew rows at None there k.each in
    let frames = sum_by-set memory_of rows at o None there in
    let slots = sum_by-set swap_of rows at o None there in
    record {
      places = length-set rows at o ∙ k.places;
      few = k.few;
      top = record {
        past = λ n h. get_or-set_other rows at n o None (λ e. omega (arith, e, h, below)) ∙ k.top.past n h;
        last = λ n h. elim (cases_eq n at) [
          | inl e ↦ rw e (ap (λ (p : Option VmRow). is_some p) (get_or-set_same rows at o None there) ∙ like.there ∙ rw e at (k.top.last n h))
          | inr ne ↦ ap (λ (p : Option VmRow). is_some p) (get_or-set_other rows at n o None ne) ∙ k.top.last n h
        ];
      };
      each = All-set IsFew rows at o (record { memory = omega (arith, few.memory, like.memory); swap = omega (arith, few.swap, like.swap) }) k.each;
      frames = omega (arith, frames, k.frames, like.memory);
      slots = omega (arith, slots, k.slots, like.swap);
    }

pub part_kept : (rows : List (Option VmRow)) (used memory swap at : ℕ) (part : VmPart) → AreKept rows used memory swap → at < used
    → AreKept (set rows at (vm_traded (get_or rows at None) part).0) used memory swap
part_kept rows used memory swap at part k below = like_kept rows used memory swap at (vm_traded (get_or rows at None) part).0 k below (vm_like (get_or rows at None) part)

-- What is promised where one machine is traded.

frames_few : (rows : List (Option VmRow)) → All IsFew rows → sum_by memory_of rows ≤ length rows * most_of_one
frames_few rows each = sum_by-le memory_of most_of_one rows (All-weaker IsFew (λ o. memory_of o ≤ most_of_one) (λ o h. h.memory) rows each)

slots_few : (rows : List (Option VmRow)) → All IsFew rows → sum_by swap_of rows ≤ length rows * most_of_one
slots_few rows each = sum_by-le swap_of most_of_one rows (All-weaker IsFew (λ o. swap_of o ≤ most_of_one) (λ o h. h.swap) rows each)

pub all_frames_few : (rows : List (Option VmRow)) (used memory swap : ℕ) → AreKept rows used memory swap → memory ≤ most_of_all
all_frames_few rows used memory swap k = (let few = frames_few rows k.each in omega (arith, few, k.frames, k.places))

pub all_slots_few : (rows : List (Option VmRow)) (used memory swap : ℕ) → AreKept rows used memory swap → swap ≤ most_of_all
all_slots_few rows used memory swap k = (let few = slots_few rows k.each in omega (arith, few, k.slots, k.places))

-- the sum without the machine that goes, and with the one that comes, is in its range
pub frames_fit : (rows : List (Option VmRow)) (used memory swap at : ℕ) (o : Option VmRow) → AreKept rows used memory swap → at < length rows → IsFew o
    → (memory_of (get_or rows at None) ≤ memory) × (memory + memory_of o ≤ most_of_all + memory_of (get_or rows at None))
frames_fit rows used memory swap at o k there few =
    let none = sum_by-set memory_of rows at None None there in
    let more = sum_by-set memory_of rows at o None there in
    let all = frames_few (set rows at o) (All-set IsFew rows at o few k.each) in
    (omega (arith, none, k.frames), omega (arith, more, all, length-set rows at o, k.frames, k.places))

pub slots_fit : (rows : List (Option VmRow)) (used memory swap at : ℕ) (o : Option VmRow) → AreKept rows used memory swap → at < length rows → IsFew o
    → (swap_of (get_or rows at None) ≤ swap) × (swap + swap_of o ≤ most_of_all + swap_of (get_or rows at None))
slots_fit rows used memory swap at o k there few =
    let none = sum_by-set swap_of rows at None None there in
    let more = sum_by-set swap_of rows at o None there in
    let all = slots_few (set rows at o) (All-set IsFew rows at o few k.each) in
    (omega (arith, none, k.slots), omega (arith, more, all, length-set rows at o, k.slots, k.places))

-- the place behind the last machine is looked for from above the one that is traded
pub row_kept : (rows : List (Option VmRow)) (used memory swap at : ℕ) (o : Option VmRow) (top later frames slots : ℕ)
    → AreKept rows used memory swap → at < length rows → IsFew o → at < top → used ≤ top → top ≤ VM_NUMBERS
    → later ≤ top → ((n : ℕ) → later ≤ n → n < top → get_or (set rows at o) n None ≡ None) → ((n : ℕ) → n + 1 ≡ later → is_some (get_or (set rows at o) n None) ≡ true)
    → frames + memory_of (get_or rows at None) ≡ memory + memory_of o → slots + swap_of (get_or rows at None) ≡ swap + swap_of o
    → AreKept (set rows at o) later frames slots
row_kept rows used memory swap at o top later frames slots k there few above over within below past last m s =
    let sum = sum_by-set memory_of rows at o None there in
    let out = sum_by-set swap_of rows at o None there in
    record {
      places = length-set rows at o ∙ k.places;
      few = omega (arith, below, within);
      top = record {
        past = λ n h. elim (cases_lt n top) [
          | inl l ↦ past n h l
          | inr g ↦ get_or-set_other rows at n o None (λ e. omega (arith, e, g, above)) ∙ k.top.past n (omega (arith, g, over))
        ];
        last = last;
      };
      each = All-set IsFew rows at o few k.each;
      frames = omega (arith, sum, k.frames, m);
      slots = omega (arith, out, k.slots, s);
    }

abbrev no_rows : List (Option VmRow)
no_rows = replicate VM_NUMBERS None

none_at : (n : ℕ) → get_or no_rows n None ≡ None
none_at n = elim (cases_lt n VM_NUMBERS) [
  | inl h ↦ get_or-replicate VM_NUMBERS n None None h
  | inr h ↦ get_or_past no_rows n None (omega (arith, h, length-replicate {A = Option VmRow} VM_NUMBERS None))
]

-- no machine at any place
pub none_kept : AreKept no_rows 0 0 0
none_kept = record {
  places = length-replicate {A = Option VmRow} VM_NUMBERS None;
  few = omega arith;
  top = record { past = λ n h. none_at n; last = λ n h. absurd (omega (arith, h)) };
  each = All-from_get_or IsFew no_rows None (λ n h. rw (none_at n) (record { memory = omega arith; swap = omega arith }));
  frames = sym (sum_by-replicate memory_of VM_NUMBERS None);
  slots = sym (sum_by-replicate swap_of VM_NUMBERS None);
}
