-- The debt of a sound site, as a matter of its pages.
use Rattle.std.proofs.Common.{zero, suc, ◌≡◌, ℕ, ◌+◌, ◌≤◌, ◌<◌, Bool, true, false, ◌||◌, List, [], ◌∷◌, length, map, count_by, sum_by, refl, sym, ap, ◌∙◌, subst, arith, cond, Option, Some, None, ◌==◌, inl, inr}
use Rattle.std.specs.List.{flat_map, list_any, range_with_len}
use Rattle.std.specs.Option.{option_map}
use Rattle.std.proofs.lemmas.List.Sums.{sum_by-cons, sum_by-append, sum_by-le-sum_by}
use Rattle.std.proofs.lemmas.List.Folds.{list_any-append}
use Rattle.std.proofs.lemmas.List.Sums.{length-filter}
use Rattle.std.proofs.lemmas.Bool.{cases_eq}
use Rattle.std.proofs.lemmas.Bool.Decides.{nat_tests}
use Rattle.esx_lists.specs.Counts.{one}
use Rattle.esx_types.specs.declared.config.Config.{Config}
use Rattle.esx_types.specs.declared.table.FrameRow.{FrameRow}
use Rattle.esx_types.specs.declared.table.FrameRow.TheVariants as frames
use Rattle.esx_types.specs.declared.table.MapRow.TheVariants as maps
use Rattle.esx_types.specs.Frames.{is_private, is_shared}
use Rattle.esx_types.specs.Pages as rows
use Rattle.esx_model.specs.declared.scene.Place.{Place}
use Rattle.esx_model.specs.declared.scene.Place.TheVariants.{Untouched, Here, Out, Lent}
use Rattle.esx_model.specs.declared.scene.Vm.{Vm}
use Rattle.esx_model.specs.declared.scene.Site.{Site}
use Rattle.esx_model.specs.declared.scene.Scene.{Scene}
use Rattle.esx_model.specs.Places.{is_here_at, is_here}
use Rattle.esx_model.specs.Site.{vm_places, all_places, all_overhead}
use Rattle.esx_model.specs.Show.{row_of, is_listed, in_frame, pages_in, map_row, vm_row, vm_rows, frame_row}
use Rattle.esx_model.specs.Readings.{here_count}
use Rattle.esx_model.specs.sound.Sound.{IsSound}
use Rattle.esx_model.proofs.Lists.{Changed, eqb_same}
use Rattle.esx_model.proofs.Counted.{counted_any, sum_same}
use Rattle.esx_model.proofs.Callers.{row_by, counts_same}
use Rattle.esx_model.specs.Debts.{debt_of}

-- some page is in frame f
abbrev pub has_page : List Place → ℕ → Bool
has_page ps f = list_any (is_here_at f) ps

-- pages in frames, and frames below n that have pages
unfoldable pub weight : ℕ → List Place → ℕ
weight n ps = count_by is_here ps + sum_by (λ f. one (has_page ps f)) (range_with_len 0 n)

-- Pages in frames.

row_here : (e : ℕ) (p : Place) → rows.is_here (map_row e p) ≡ is_here p
row_here e Untouched = refl
row_here e (Here bytes f shared) = refl
row_here e (Out bytes i) = refl
row_here e (Lent d) = of (d == e)
  where
    of : (b : Bool) → rows.is_here (cond b (maps.Lent d) maps.Untouched) ≡ false
    of true = refl
    of false = refl

vm_here : (o : Option Vm) → here_count (option_map vm_row o) ≡ count_by is_here (vm_places o)
vm_here None = refl
vm_here (Some v) = counts_same rows.is_here is_here (map_row v.epoch) (row_here v.epoch) v.places

all_here : (vms : List (Option Vm)) → sum_by here_count (vm_rows vms) ≡ count_by is_here (flat_map vm_places vms)
all_here [] = refl
all_here (o ∷ os) =
    let a = sum_by-cons here_count (option_map vm_row o) (vm_rows os) in
    let b = sum_by-append (λ p. one (is_here p)) (vm_places o) (flat_map vm_places os) in
    let here = vm_here o in
    let rest = all_here os in
    omega (arith, a, b, here, rest)

-- Frames that have pages.

kind_one : (f : ℕ) (b : List ℕ) (g : ℕ) (x shared : Bool) (ps : List Place) → one (is_private (row_of (in_frame f ps))) + one (is_shared (row_of (in_frame f ps))) ≡ one (has_page ps f)
    → one (is_private (row_of (cond x (Here b g shared ∷ in_frame f ps) (in_frame f ps)))) + one (is_shared (row_of (cond x (Here b g shared ∷ in_frame f ps) (in_frame f ps)))) ≡ one (x || has_page ps f)
kind_one f b g true true ps h = refl
kind_one f b g true false ps h = refl
kind_one f b g false shared ps h = h

kind_of : (f : ℕ) (ps : List Place) → one (is_private (row_of (in_frame f ps))) + one (is_shared (row_of (in_frame f ps))) ≡ one (has_page ps f)
kind_of f [] = refl
kind_of f (Untouched ∷ ps) = kind_of f ps
kind_of f (Out b i ∷ ps) = kind_of f ps
kind_of f (Lent e ∷ ps) = kind_of f ps
kind_of f (Here b g shared ∷ ps) = kind_one f b g (g == f) shared ps (kind_of f ps)

row_kind : (c : Config) (s : Site) (f : ℕ) → IsSound c s → one (is_private (frame_row s f)) + one (is_shared (frame_row s f)) ≡ one (has_page (all_places s) f)
row_kind c s f sound =
    let ps = all_places s in
    let P : FrameRow → Type 0 = λ row. one (is_private row) + one (is_shared row) ≡ one (has_page ps f) in
    subst P (sym (row_by s f)) (of (is_listed f (all_overhead s)) refl)
  where
    of : (b : Bool) → is_listed f (all_overhead s) ≡ b → one (is_private (cond b frames.Overhead (row_of (pages_in s f)))) + one (is_shared (cond b frames.Overhead (row_of (pages_in s f)))) ≡ one (has_page (all_places s) f)
    of true e =
        let none = ap (λ ps. one (is_private (row_of ps)) + one (is_shared (row_of ps))) (sound.frames.apart f e) in
        let kind = kind_of f (all_places s) in
        sym none ∙ kind
    of false e = kind_of f (all_places s)

kinds : (h : ℕ → FrameRow) (w : ℕ → Bool) → ((f : ℕ) → one (is_private (h f)) + one (is_shared (h f)) ≡ one (w f)) → (fs : List ℕ)
    → count_by is_private (map h fs) + count_by is_shared (map h fs) ≡ sum_by (λ f. one (w f)) fs
kinds h w same [] = refl
kinds h w same (f ∷ fs) =
    let a = sum_by-cons (λ r. one (is_private r)) (h f) (map h fs) in
    let b = sum_by-cons (λ r. one (is_shared r)) (h f) (map h fs) in
    let d = sum_by-cons (λ g. one (w g)) f fs in
    let e = same f in
    let rest = kinds h w same fs in
    omega (arith, a, b, d, e, rest)

pub debt_is : (c : Config) (t : Scene) → IsSound c t.site → debt_of c t ≡ weight c.frames (all_places t.site)
unfolding weight all_places
debt_is c t sound =
    let here = all_here t.site.vms in
    let rows = kinds (frame_row t.site) (has_page (flat_map vm_places t.site.vms)) (λ f. row_kind c t.site f sound) (range_with_len 0 c.frames) in
    omega (arith, here, rows)

-- What a page's change of place does to it.

any_split : (f : ℕ) (p q : Place) (ps qs : List Place) (ch : Changed p q ps qs)
    → (has_page ps f ≡ (has_page ch.front f || (is_here_at f p || has_page ch.back f))) × (has_page qs f ≡ (has_page ch.front f || (is_here_at f q || has_page ch.back f)))
any_split f p q ps qs ch = (
  ap (list_any (is_here_at f)) ch.before ∙ list_any-append (is_here_at f) ch.front (p ∷ ch.back),
  ap (list_any (is_here_at f)) ch.after ∙ list_any-append (is_here_at f) ch.front (q ∷ ch.back),
)

pub here_split : (p q : Place) (ps qs : List Place) → Changed p q ps qs → count_by is_here qs + one (is_here p) ≡ count_by is_here ps + one (is_here q)
here_split p q ps qs ch =
    let a = ap (count_by is_here) ch.before ∙ sum_by-append (λ x. one (is_here x)) ch.front (p ∷ ch.back) in
    let b = ap (count_by is_here) ch.after ∙ sum_by-append (λ x. one (is_here x)) ch.front (q ∷ ch.back) in
    let d = sum_by-cons (λ x. one (is_here x)) p ch.back in
    let e = sum_by-cons (λ x. one (is_here x)) q ch.back in
    omega (arith, a, b, d, e)

-- no frame has pages that had none
abbrev pub NoMore : List Place → List Place → Type 0
NoMore ps qs = (f : ℕ) → one (has_page qs f) ≤ one (has_page ps f)

fewer_bits : (a b p q : Bool) → (q ≡ true → p ≡ true) → one (a || (q || b)) ≤ one (a || (p || b))
fewer_bits true b p q h = omega arith
fewer_bits false b true true h = omega arith
fewer_bits false true true false h = omega arith
fewer_bits false false true false h = omega arith
fewer_bits false b false true h = (let no = h refl in cc)
fewer_bits false b false false h = omega arith

pub no_more : (p q : Place) (ps qs : List Place) → Changed p q ps qs → ((f : ℕ) → is_here_at f q ≡ true → is_here_at f p ≡ true) → NoMore ps qs
no_more p q ps qs ch h f =
    let s = any_split f p q ps qs ch in
    let before = ap one s.0 in
    let after = ap one s.1 in
    let bits = fewer_bits (has_page ch.front f) (has_page ch.back f) (is_here_at f p) (is_here_at f q) (h f) in
    omega (arith, before, after, bits)

pub sum_within : (g h : ℕ → ℕ) (fs : List ℕ) → ((f : ℕ) → g f ≤ h f) → sum_by g fs ≤ sum_by h fs
sum_within g h fs w = sum_by-le-sum_by g h fs w

pub sum_less : (g h : ℕ → ℕ) (a n k : ℕ) → a ≤ k → k < a + n → ((f : ℕ) → g f ≤ h f) → g k < h k → sum_by g (range_with_len a n) < sum_by h (range_with_len a n)
sum_less g h a zero k from below w less = absurd (omega arith)
sum_less g h a (suc n) k from below w less =
    let x = sum_by-cons g a (range_with_len (a + 1) n) in
    let y = sum_by-cons h a (range_with_len (a + 1) n) in
    elim (cases_eq a k) [
      | inl e ↦ (let P : ℕ → Type 0 = λ j. g j < h j in
          let here = subst P (sym e) less in
          let rest = sum_within g h (range_with_len (a + 1) n) w in
          omega (arith, x, y, here, rest))
      | inr other ↦ (let rest = sum_less g h (a + 1) n k (omega arith) (omega arith) w less in
          let here = w a in
          omega (arith, x, y, here, rest))
    ]

-- a page that leaves its frame for no other
pub weight_out : (n : ℕ) (bytes old : List ℕ) (g i : ℕ) (shared : Bool) (ps qs : List Place) → Changed (Here bytes g shared) (Out old i) ps qs → weight n qs < weight n ps
unfolding weight
weight_out n bytes old g i shared ps qs ch =
    let here = here_split (Here bytes g shared) (Out old i) ps qs ch in
    let less = no_more (Here bytes g shared) (Out old i) ps qs ch (λ f h. cc) in
    let sums = sum_within (λ f. one (has_page qs f)) (λ f. one (has_page ps f)) (range_with_len 0 n) less in
    omega (arith, here, sums)

-- a page that is marked in its frame
pub weight_marked : (n : ℕ) (bytes : List ℕ) (f : ℕ) (ps qs : List Place) → Changed (Here bytes f false) (Here bytes f true) ps qs → weight n qs ≡ weight n ps
unfolding weight
weight_marked n bytes f ps qs ch =
    let here = here_split (Here bytes f false) (Here bytes f true) ps qs ch in
    let same : (x : ℕ) → one (has_page qs x) ≡ one (has_page ps x) = λ x. (let s = any_split x (Here bytes f false) (Here bytes f true) ps qs ch in ap one (s.1 ∙ sym s.0)) in
    let sums = sum_same (λ x. one (has_page qs x)) (λ x. one (has_page ps x)) (range_with_len 0 n) same in
    omega (arith, here, sums)

none_there : (g : ℕ) (xs : List Place) (b : Bool) → has_page xs g ≡ b → count_by (is_here_at g) xs ≡ 0 → has_page xs g ≡ false
none_there g xs true e none = (let some = counted_any (is_here_at g) xs e in absurd (omega (arith, some, none)))
none_there g xs false e none = e

at_frame : (f x : ℕ) → (f == x) ≡ true → f ≡ x
at_frame f x h = grind (arith, nat_tests)

bits_in : (a b p q w : Bool) → w ≡ (a || (p || b)) → (q ≡ true → w ≡ true) → one (a || (q || b)) ≤ one w
bits_in a b p true w e h = (let yes = ap one (h refl) in let most = bit (a || (true || b)) in omega (arith, yes, most))
  where
    bit : (x : Bool) → one x ≤ 1
    bit true = omega arith
    bit false = omega arith
bits_in a b p false w e h = (let same = ap one e in let bits = fewer_bits a b p false (λ k. cc) in omega (arith, same, bits))

-- a private page that joins those of another frame
pub weight_joined : (n : ℕ) (bytes : List ℕ) (g f : ℕ) (ps qs : List Place) → Changed (Here bytes g false) (Here bytes f true) ps qs → (f == g) ≡ false → has_page ps f ≡ true → length (in_frame g ps) ≤ 1 → g < n
    → weight n qs < weight n ps
unfolding weight
weight_joined n bytes g f ps qs ch apart some alone below =
    let p : Place = Here bytes g false in
    let q : Place = Here bytes f true in
    let here = here_split p q ps qs ch in
    let P : ℕ → Type 0 = λ x. has_page ps x ≡ true in
    let less : (x : ℕ) → one (has_page qs x) ≤ one (has_page ps x) = λ x. (
    let s = any_split x p q ps qs ch in
    let after = ap one s.1 in
    let bits = bits_in (has_page ch.front x) (has_page ch.back x) (is_here_at x p) (is_here_at x q) (has_page ps x) s.0 (λ h. subst P (at_frame f x h) some) in
    omega (arith, after, bits)) in
    let count : count_by (is_here_at g) ps ≡ count_by (is_here_at g) ch.front + (1 + count_by (is_here_at g) ch.back) = (
    let a = ap (count_by (is_here_at g)) ch.before ∙ sum_by-append (λ x. one (is_here_at g x)) ch.front (p ∷ ch.back) in
    let b = sum_by-cons (λ x. one (is_here_at g x)) p ch.back in
    let own : one (is_here_at g p) ≡ 1 = ap one (eqb_same g) in
    omega (arith, a, b, own)) in
    let len = length-filter (is_here_at g) ps in
    let front = none_there g ch.front (has_page ch.front g) refl (omega (arith, count, len, alone)) in
    let back = none_there g ch.back (has_page ch.back g) refl (omega (arith, count, len, alone)) in
    let s = any_split g p q ps qs ch in
    let before : has_page ps g ≡ true = s.0 ∙ rw (front, eqb_same g) refl in
    let after : has_page qs g ≡ false = s.1 ∙ rw (front, apart, back) refl in
    let strict : one (has_page qs g) < one (has_page ps g) = (let a = ap one before in let b = ap one after in omega (arith, a, b)) in
    let sums = sum_less (λ x. one (has_page qs x)) (λ x. one (has_page ps x)) 0 n g (omega arith) (omega (arith, below)) less strict in
    omega (arith, here, sums)
