-- A survey is told of refusals in order of place.
use Rattle.std.proofs.Common.{◌≡◌, ◌≢◌, ℕ, zero, suc, ◌+◌, ◌<◌, List, [], ◌∷◌, ◌++◌, length, map, take, drop, get_or, refl, sym, ◌∙◌, ap, subst, arith}
use Rattle.std.proofs.lemmas.List.{take_more, drop_more, map-append}
use Rattle.esx_types.specs.declared.config.Config.{Config}
use Rattle.esx_events.specs.declared.event.Event.{Event}
use Rattle.esx_story.specs.Waits as story
use Rattle.esx_survey.specs.Surveys.{Surveyed, IsSurvey}
use Rattle.esx_paths.specs.declared.mets.Met.{Met}
use Rattle.esx_account.specs.Surveying.{met_of, NeverFall}
use Rattle.esx_account.proofs.Placed.{EachWithin}

-- one more is told
pub told_more : (site : Config) (es : List Event) (s : Surveyed) (mets : List Met) (i : ℕ) (m : Met) → i < length mets → m ≡ get_or mets i m → m.at ≡ length es
    → IsSurvey site es (map met_of (take i mets) ++ record { at = length es; access = m.access; refusal = m.refusal } ∷ []) s → IsSurvey site es (map met_of (take (i + 1) mets)) s
told_more site es s mets i m below is at survey =
    let front : List story.Met = map met_of (take i mets) in
    let told : ℕ → story.Met = λ (k : ℕ). record { at = k; access = m.access; refusal = m.refusal } in
    let whole : map met_of (take (i + 1) mets) ≡ front ++ met_of m ∷ [] =
    ap (map met_of) (take_more mets i m below) ∙ map-append met_of (take i mets) (get_or mets i m ∷ []) ∙ ap (λ x. front ++ met_of x ∷ []) (sym is) in
    let P : List story.Met → Type 0 = λ ms. IsSurvey site es ms s in
    subst P (ap (λ k. front ++ told k ∷ []) (sym at) ∙ sym whole) survey

next_is : (mets : List Met) (i : ℕ) (m : Met) → i < length mets → m ≡ get_or mets i m → drop i mets ≡ m ∷ drop (i + 1) mets
next_is mets i m below is = drop_more mets i m below ∙ ap (λ x. x ∷ drop (i + 1) mets) (sym is)

-- the next was met elsewhere, so it and the others come later
pub stops_here : (mets : List Met) (i low : ℕ) (m : Met) → i < length mets → m ≡ get_or mets i m → m.at ≢ low → NeverFall low (drop i mets) → NeverFall (low + 1) (drop i mets)
stops_here mets i low m below is other rise =
    let whole = next_is mets i m below is in
    let first : NeverFall low (m ∷ drop (i + 1) mets) = subst (NeverFall low) whole rise in
    subst (NeverFall (low + 1)) (sym whole) ((let le = first.0 in omega arith), first.1)

-- or it was met here
pub goes_here : (mets : List Met) (i low : ℕ) (m : Met) → i < length mets → m ≡ get_or mets i m → m.at ≡ low → NeverFall low (drop i mets) → NeverFall low (drop (i + 1) mets)
goes_here mets i low m below is at rise =
    let first : NeverFall low (m ∷ drop (i + 1) mets) = subst (NeverFall low) (next_is mets i m below is) rise in
    let P : ℕ → Type 0 = λ k. NeverFall k (drop (i + 1) mets) in
    subst P at first.1

-- where none comes later, all were told
pub all_told : (mets : List Met) (told most : ℕ) → EachWithin most mets → NeverFall (most + 1) (drop told mets) → take told mets ≡ mets
all_told [] zero most within later = refl
all_told [] (suc k) most within later = refl
all_told (m ∷ mets) zero most within later = absurd (let high = later.0 in let low = within.0 in omega arith)
all_told (m ∷ mets) (suc k) most within later = ap (λ ms. m ∷ ms) (all_told mets k most within.1 later)
