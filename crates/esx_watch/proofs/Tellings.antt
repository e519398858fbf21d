-- The steps of an event, told machine by machine.
use Rattle.std.proofs.Common.{◌≡◌, ℕ, zero, suc, ◌+◌, ◌-◌, ◌≤◌, max, List, [], ◌∷◌, ◌++◌, length, get_or, append_assoc, refl, sym, ap, ◌∙◌, subst, arith, Option, None}
use Rattle.std.specs.List.{flat_map, range_with_len}
use Rattle.std.proofs.Math.Nat.{le-max_left, le-max_right, max-le}
use Rattle.std.proofs.lemmas.List.{append-nil, length-append}
use Rattle.std.proofs.lemmas.List.Concat.{flat_map-cons}
use Rattle.std.proofs.lemmas.Grind.{flat_map-append}
use Rattle.esx_types.specs.declared.config.TheConstants.{VM_NUMBERS}
use Rattle.esx_events.specs.declared.call.Sum.{Sum}
use Rattle.esx_figures.specs.declared.figures.Figures.{Figures}
use Rattle.esx_figures.specs.declared.steps.Step.{Step}
use Rattle.esx_figures.specs.Steps.{told, site_step, guest_step, guest_told, guests_told, or_site}
use Rattle.esx_watch.specs.Looking.{IsBlankFrom}

range_next : (a n : ℕ) → range_with_len a (suc n) ≡ range_with_len a n ++ (a + n) ∷ []
range_next a zero = ap (λ k. k ∷ []) (let e : a ≡ a + 0 = omega arith in e)
range_next a (suc n) = ap (λ ks. a ∷ ks) (range_next (a + 1) n ∙ ap (λ k. range_with_len (a + 1) n ++ k ∷ []) (let e : a + 1 + n ≡ a + suc n = omega arith in e))

flat_next : {X : Type 0} (f : ℕ → List X) (n : ℕ) → flat_map f (range_with_len 0 (n + 1)) ≡ flat_map f (range_with_len 0 n) ++ f n
flat_next f n =
    ap (λ k. flat_map f (range_with_len 0 k)) (let e : n + 1 ≡ suc n = omega arith in e) ∙ ap (flat_map f) (range_next 0 n) ∙ flat_map-append f (range_with_len 0 n) ((0 + n) ∷ [])
    ∙ ap (λ ys. flat_map f (range_with_len 0 n) ++ ys) (flat_map-cons f (0 + n) [] ∙ append-nil (f (0 + n)) ∙ ap f (let e : 0 + n ≡ n = omega arith in e))

pub none_told : (at : ℕ) (site : Sum) (before after : List (Option Figures)) → guests_told at site before after 0 ≡ []
unfolding guests_told
none_told at site before after = refl

pub one_more : (at : ℕ) (site : Sum) (before after : List (Option Figures)) (n : ℕ) → guests_told at site before after (n + 1) ≡ guests_told at site before after n ++ guest_told at site before after n
unfolding guests_told
one_more at site before after n = flat_next (guest_told at site before after) n

-- as long as before, nothing was added
added_none : (xs ys zs : List Step) → zs ≡ xs ++ ys → length zs ≡ length xs → ys ≡ []
added_none xs [] zs is same = refl
added_none xs (y ∷ ys) zs is same =
    let long = ap length is ∙ length-append xs (y ∷ ys) in
    absurd (omega (arith, long, same))

-- where no machine was told, the site is
pub site_told : (at : ℕ) (before after : Sum) (xs ys zs : List Step) → zs ≡ xs ++ ys → length zs ≡ length xs → zs ++ told (site_step at before after) ≡ xs ++ or_site at before after ys
site_told at before after xs ys zs is same =
    let none = added_none xs ys zs is same in
    let P : List Step → Type 0 = λ ws. zs ++ told (site_step at before after) ≡ xs ++ or_site at before after ws in
    subst P (sym none) (ap (λ ws. ws ++ told (site_step at before after)) (is ∙ ap (λ ws. xs ++ ws) none ∙ append-nil xs))

-- where some were, it is not
pub guests_are_told : (at : ℕ) (before after : Sum) (xs ys zs : List Step) → zs ≡ xs ++ ys → (length zs ≡ length xs → ⊥) → zs ≡ xs ++ or_site at before after ys
guests_are_told at before after xs [] zs is more = absurd (more (ap length (is ∙ append-nil xs)))
guests_are_told at before after xs (y ∷ ys) zs is more = is

-- with one more machine
pub told_next : (at : ℕ) (site : Sum) (before after : List (Option Figures)) (n vm : ℕ) (was is : Option Figures) (step : Option Step) (items now new : List Step) → vm ≡ n → was ≡ get_or before n None → is ≡ get_or after n None
    → step ≡ guest_step at site vm was is → new ≡ now ++ told step → now ≡ items ++ guests_told at site before after n → new ≡ items ++ guests_told at site before after (n + 1)
told_next at site before after n vm was is step items now new same was_is is_is step_is add so_far =
    add ∙ ap (λ o. now ++ told o) (step_is ∙ ap (λ k. guest_step at site k was is) same ∙ ap (λ w. guest_step at site n w is) was_is ∙ ap (guest_step at site n (get_or before n None)) is_is)
    ∙ ap (λ ys. ys ++ guest_told at site before after n) so_far ∙ append_assoc items (guests_told at site before after n) (guest_told at site before after n)
    ∙ ap (λ ys. items ++ ys) (sym (one_more at site before after n))

pub told_first : (at : ℕ) (site : Sum) (before after : List (Option Figures)) (items : List Step) → items ≡ items ++ guests_told at site before after 0
told_first at site before after items = sym (ap (λ ys. items ++ ys) (none_told at site before after) ∙ append-nil items)

guest_none : (at : ℕ) (site : Sum) (before after : List (Option Figures)) (n : ℕ) → get_or before n None ≡ None → get_or after n None ≡ None → guest_told at site before after n ≡ []
guest_none at site before after n was is = ap (λ o. told (guest_step at site n o (get_or after n None))) was ∙ ap (λ o. told (guest_step at site n None o)) is

-- behind the last machine nothing is told
none_behind : (at : ℕ) (site : Sum) (before after : List (Option Figures)) (k j : ℕ) → ((n : ℕ) → k ≤ n → get_or before n None ≡ None) → ((n : ℕ) → k ≤ n → get_or after n None ≡ None)
    → guests_told at site before after (k + j) ≡ guests_told at site before after k
none_behind at site before after k zero was is = ap (guests_told at site before after) (let e : k + 0 ≡ k = omega arith in e)
none_behind at site before after k (suc j) was is =
    ap (guests_told at site before after) (let e : k + suc j ≡ k + j + 1 = omega arith in e) ∙ one_more at site before after (k + j)
    ∙ ap (λ ys. guests_told at site before after (k + j) ++ ys) (guest_none at site before after (k + j) (was (k + j) (omega arith)) (is (k + j) (omega arith)))
    ∙ append-nil (guests_told at site before after (k + j)) ∙ none_behind at site before after k j was is

to_last : (at : ℕ) (site : Sum) (before after : List (Option Figures)) (k n : ℕ) → k ≤ n → ((m : ℕ) → k ≤ m → get_or before m None ≡ None) → ((m : ℕ) → k ≤ m → get_or after m None ≡ None)
    → guests_told at site before after n ≡ guests_told at site before after k
to_last at site before after k n past was is =
    ap (guests_told at site before after) (let e : n ≡ k + (n - k) = omega (arith, past) in e) ∙ none_behind at site before after k (n - k) was is

pub told_whole : (at : ℕ) (site : Sum) (before after : List (Option Figures)) (j k n : ℕ) → IsBlankFrom before j → IsBlankFrom after k → max j k ≤ n → guests_told at site before after n ≡ guests_told at site before after VM_NUMBERS
told_whole at site before after j k n was is past =
    let most_left = le-max_left j k in
    let most_right = le-max_right j k in
    let few_before = was.few in
    let few_after = is.few in
    let few = max-le few_before few_after in
    let blank_before : (m : ℕ) → max j k ≤ m → get_or before m None ≡ None = λ m behind. was.past m (omega (arith, behind, most_left)) in
    let blank_after : (m : ℕ) → max j k ≤ m → get_or after m None ≡ None = λ m behind. is.past m (omega (arith, behind, most_right)) in
    to_last at site before after (max j k) n past blank_before blank_after ∙ sym (to_last at site before after (max j k) VM_NUMBERS few blank_before blank_after)
