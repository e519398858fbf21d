-- A page that is in a frame stands among those in frames at the place that its word says.
use Rattle.std.proofs.Common.{◌≡◌, ℕ, zero, suc, ◌+◌, ◌<◌, Bool, true, false, List, [], ◌∷◌, length, get_or, take, refl, sym, ap, ◌∙◌, cond, count_by, arith, slice_get, Some, Ok, Err, inl, inr}
use Rattle.std.proofs.Math.Nat.{mod-eq_of_lt}
use Rattle.std.proofs.lemmas.Bool.{cases_lt}
use Rattle.std.proofs.lemmas.List.{get_or_past}
use Rattle.std.proofs.lemmas.List.Sums.{sum_by-cons, sum_by-take-le, count_by_more_no, count_by_more_yes}
use Rattle.esx_events.specs.declared.event.Refusal.{Refusal}
use Rattle.esx_events.specs.declared.event.Refusal.TheVariants.{NotResident}
use Rattle.esx_model.specs.declared.scene.Place.{Place}
use Rattle.esx_model.specs.declared.scene.Place.TheVariants.{Untouched}
use Rattle.esx_model.specs.declared.scene.Vm.{Vm}
use Rattle.esx_model.specs.declared.scene.Site.{Site}
use Rattle.esx_model.specs.Places.{is_here}
use Rattle.esx_model.specs.Site.{vm_at, place_at, resident, here_from}
use Rattle.esx_model.specs.event.Paging.{victim}
use Rattle.esx_model.proofs.Callers.{one, drawn_is_here}
use Rattle.esx_pageout.specs.Word.{here_before, word_in, word_of}

drawn_later : (i page count : ℕ) (p : Place) (ps : List Place) (b : Bool) → slice_get (here_from (i + 1) ps) count ≡ Some (i + 1 + page)
    → slice_get (cond b (i ∷ here_from (i + 1) ps) (here_from (i + 1) ps)) (one b + count) ≡ Some (i + suc page)
drawn_later i page count p ps true h =
    let more : 1 + count ≡ suc count = omega arith in
    let same : i + 1 + page ≡ i + suc page = omega arith in
    ap (slice_get (i ∷ here_from (i + 1) ps)) more ∙ h ∙ ap (λ k. Some k) same
drawn_later i page count p ps false h =
    let none : 0 + count ≡ count = omega arith in
    let same : i + 1 + page ≡ i + suc page = omega arith in
    ap (slice_get (here_from (i + 1) ps)) none ∙ h ∙ ap (λ k. Some k) same

drawn_first : (i : ℕ) (ps : List Place) (b : Bool) → b ≡ true → slice_get (cond b (i ∷ here_from (i + 1) ps) (here_from (i + 1) ps)) 0 ≡ Some (i + 0)
drawn_first i ps true h = (let same : i ≡ i + 0 = omega arith in ap (λ k. Some k) same)
drawn_first i ps false h = cc

drawn_at : (i : ℕ) (ps : List Place) (page : ℕ) → is_here (get_or ps page Untouched) ≡ true → slice_get (here_from i ps) (here_before ps page) ≡ Some (i + page)
drawn_at i [] page h = cc
drawn_at i (p ∷ ps) zero h = drawn_first i ps (is_here p) h
drawn_at i (p ∷ ps) (suc page) h =
    ap (slice_get (here_from i (p ∷ ps))) (sum_by-cons (λ x. one (is_here x)) p (take page ps))
    ∙ drawn_later i page (here_before ps page) p ps (is_here p) (drawn_at (i + 1) ps page h)

pub here_within : (ps : List Place) (page : ℕ) → is_here (get_or ps page Untouched) ≡ true → page < length ps
here_within ps page h = elim (cases_lt page (length ps)) [
  | inl within ↦ within
  | inr past ↦ (let none = ap is_here (get_or_past ps page Untouched past) in absurd (cc))
]

few_before : (ps : List Place) (page : ℕ) → is_here (get_or ps page Untouched) ≡ true → here_before ps page < count_by is_here ps
few_before ps page h =
    let more = count_by_more_yes is_here ps page Untouched (here_within ps page h) h in
    let most = sum_by-take-le (λ x. one (is_here x)) ps (page + 1) in
    omega (arith, more, most)

draws_here : (v : Vm) (page : ℕ) → is_here (place_at v page) ≡ true → (here_before v.places page < resident v) × (victim v (here_before v.places page) ≡ Some page)
draws_here v page here =
    let few = few_before v.places page here in
    let same : 0 + page ≡ page = omega arith in
    (few, ap (slice_get (here_from 0 v.places)) (mod-eq_of_lt few) ∙ drawn_at 0 v.places page here ∙ ap (λ k. Some k) same)

-- How many pages there are before the next one.

pub one_more : (ps : List Place) (i : ℕ) (b : Bool) → i < length ps → b ≡ is_here (get_or ps i Untouched) → b ≡ true → here_before ps i + 1 ≡ here_before ps (i + 1)
one_more ps i b below is here = sym (count_by_more_yes is_here ps i Untouched below (sym is ∙ here))

pub none_more : (ps : List Place) (i : ℕ) (b : Bool) → i < length ps → b ≡ is_here (get_or ps i Untouched) → b ≡ false → here_before ps i ≡ here_before ps (i + 1)
none_more ps i b below is away = sym (count_by_more_no is_here ps i Untouched below (sym is ∙ away))

-- What the word of a page says of it.

no_word : (e : Refusal) (word : ℕ) → Err e ≡ Ok word → ⊥
no_word e word h = cc

word_is : (b : Bool) (count word : ℕ) → cond b (Ok count) (Err NotResident) ≡ Ok word → (b ≡ true) × (count ≡ word)
word_is true count word h = (refl, cc)
word_is false count word h = absurd (no_word NotResident word h)

not_here : (b : Bool) (count : ℕ) (e : Refusal) → cond b (Ok count) (Err NotResident) ≡ Err e → b ≡ false
not_here true count e h = absurd (no_word e count (sym h))
not_here false count e h = refl

pub draws_its_page : (s : Site) (n page word : ℕ) (v : Vm) → vm_at s n ≡ Some v → word_of s n page ≡ Ok word → (word < resident v) × (victim v word ≡ Some page)
draws_its_page s n page word v there h =
    let is = word_is (is_here (place_at v page)) (here_before v.places page) word (ap (λ o. word_in o page) (sym there) ∙ h) in
    let draws = draws_here v page is.0 in
    (omega (arith, is.1, draws.0), ap (victim v) (sym is.1) ∙ draws.1)

pub drawn_by_none : (s : Site) (n page word : ℕ) (e : Refusal) (v : Vm) → vm_at s n ≡ Some v → word_of s n page ≡ Err e → victim v word ≡ Some page → ⊥
drawn_by_none s n page word e v there h drawn =
    let away = not_here (is_here (place_at v page)) (here_before v.places page) e (ap (λ o. word_in o page) (sym there) ∙ h) in
    let here = (drawn_is_here v word page drawn).1 in
    cc
