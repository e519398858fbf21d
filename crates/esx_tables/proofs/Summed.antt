-- Summaries of marks: with one page more, and where a mark turns.
use Rattle.std.proofs.Common.{◌≡◌, ◌<◌, ◌+◌, ◌*◌, ◌/◌, ◌%◌, ◌^◌, ◌||◌, ℕ, eqb, Bool, true, false, not, List, length, get_or, set, take, count_by, All, bit_or, refl, sym, ap, ◌∙◌, arith, cond}
use Rattle.std.specs.List.{list_any}
use Rattle.std.proofs.lemmas.Bool.{both_ways, not-true, eq-eqb, ne_eqb}
use Rattle.std.proofs.lemmas.List.Elements.{All-weaker, All-more}
use Rattle.std.proofs.lemmas.List.Folds.{list_any_none}
use Rattle.std.proofs.lemmas.List.{length-set}
use Rattle.std.proofs.lemmas.List.Sums.{sum_by-set, count_by-le-length}
use Rattle.esx_types.proofs.Bits.{test, set_one}
use Rattle.esx_model.specs.declared.book.Mark.{Mark}
use Rattle.esx_tables.specs.declared.period.Summary.{Summary}
use Rattle.esx_tables.specs.Summaries.{may_name, MayNameMore, IsSummary}

-- a bit set in a list of words
abbrev pub with_bit : List ℕ → ℕ → List ℕ
with_bit words bit = set words (bit / 64) (bit_or (get_or words (bit / 64) 0) (1 * 2 ^ (bit % 64) % 2 ^ 64))

or_true : (b : Bool) → (b || true) ≡ true
or_true true = refl
or_true false = refl

pub bit_same : (words : List ℕ) (bit : ℕ) → bit / 64 < length words → test (with_bit words bit) bit ≡ true
bit_same words bit h = set_one words bit bit h ∙ rw (eq-eqb bit bit refl) (or_true (test words bit))

pub bit_others : (words : List ℕ) (bit k : ℕ) → bit / 64 < length words → test words k ≡ true → test (with_bit words bit) k ≡ true
bit_others words bit k h e = set_one words bit k h ∙ rw e refl

-- a page whose bit is not set is named by no mark
pub unnamed : (s : Summary) (marks : List Mark) (page : ℕ) → IsSummary s marks → may_name s page ≡ false → list_any (λ (m : Mark). eqb page m.page) marks ≡ false
unnamed s marks page is unset =
    list_any_none (λ (m : Mark). eqb page m.page) marks
    (All-weaker (λ (m : Mark). may_name s m.page ≡ true) (λ (m : Mark). eqb page m.page ≡ false)
    (λ m h. ne_eqb page m.page (λ e. both_ways (may_name s page) unset (ap (may_name s) e ∙ h))) marks is.pages)

-- one mark more
pub pages_more : (old new : Summary) (marks : List Mark) (i : ℕ) (d : Mark) → i < length marks → All (λ (m : Mark). may_name old m.page ≡ true) (take i marks) → MayNameMore old new (get_or marks i d).page → All (λ (m : Mark). may_name new m.page ≡ true) (take (i + 1) marks)
pages_more old new marks i d h all more =
    All-more (λ (m : Mark). may_name new m.page ≡ true) marks i d h
    (All-weaker (λ (m : Mark). may_name old m.page ≡ true) (λ (m : Mark). may_name new m.page ≡ true) (λ m e. more.others m.page e) (take i marks) all) more.same

-- where a mark is untouched, fewer are touched than there are
pub fewer_touched : (marks : List Mark) (at : ℕ) (m : Mark) → at < length marks → m ≡ get_or marks at m → not m.touched ≡ true → count_by (λ (x : Mark). x.touched) marks < length marks
fewer_touched marks at m h here untouched =
    let touch : Mark = record { page = 0; touched = true } in
    let was : (get_or marks at m).touched ≡ false = ap (λ (x : Mark). x.touched) (sym here) ∙ not-true m.touched untouched in
    let count : Bool → ℕ = λ b. cond b 1 0 in
    let none : count (get_or marks at m).touched ≡ 0 = ap count was in
    let more = sum_by-set (λ (x : Mark). count x.touched) marks at touch m h in
    omega (arith, none, more, count_by-le-length (λ (x : Mark). x.touched) (set marks at touch), length-set marks at touch)
