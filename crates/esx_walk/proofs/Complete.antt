-- The losses that are told of a path are all that there are, each once, in order.
use Rattle.std.proofs.Common.{◌≡◌, ℕ, ◌<◌, List, [], map, slice_get, sym, ap, ◌∙◌, refl, subst, Option, Some, None, Ok}
use Rattle.std.specs.Option.{option_map}
use Rattle.std.proofs.lemmas.Option.{slice_get-map}
use Rattle.esx_types.specs.declared.config.Config.{Config}
use Rattle.esx_types.specs.Ranges.{IsConfig}
use Rattle.esx_events.specs.declared.event.Event.{Event}
use Rattle.esx_model.specs.declared.scene.Scene.{Scene}
use Rattle.esx_model.specs.Replay.{run}
use Rattle.esx_story.specs.declared.change.How.{How}
use Rattle.esx_story.specs.declared.change.Change.{Change}
use Rattle.esx_story.specs.declared.story.Loss.{Loss}
use Rattle.esx_story.specs.Changes.{change}
use Rattle.esx_story.specs.Moments.{Line, moments}
use Rattle.esx_story.specs.Losses.{losses}
use Rattle.esx_story.specs.Laws.{IsListed, IsRising}
use Rattle.esx_story.specs.Waits.{Met}
use Rattle.esx_story.specs.Story.{told}
use Rattle.esx_story.proofs.Listed.{losses_listed}
use Rattle.esx_story.proofs.Accounts.{losses_told}
use Rattle.esx_walk.specs.Complete.{IsToldLoss, AreAllLosses, AreRising}

-- a loss without what is told of it
abbrev line_of : Loss → Line
line_of l = record { at = l.at; change = l.change }

one_line : (x y : Line) → Some x ≡ Some y → x ≡ y
one_line x y h = cc

no_line : (x : Line) → None ≡ Some x → ⊥
no_line x h = cc

loss_of_line : (o : Option Loss) (x : Line) → option_map line_of o ≡ Some x → (l : Loss) × (o ≡ Some l) × (line_of l ≡ x)
loss_of_line None x h = absurd (no_line x h)
loss_of_line (Some l) x h = (l, refl, one_line (line_of l) x h)

listed_told : (ls : List Loss) (i n page : ℕ) → IsListed (map line_of ls) i n page → IsToldLoss ls i n page
listed_told ls i n page listed =
    let how = listed.0 in
    let k = listed.1.0 in
    let found = loss_of_line (slice_get ls k) (record { at = i; change = change n page how }) (sym (slice_get-map line_of ls k) ∙ listed.1.1) in
    (k, found.0, found.1, ap (λ (x : Line). x.at) found.2, ap (λ (x : Line). x.change.vm) found.2, ap (λ (x : Line). x.change.page) found.2)

line_is : (l : Loss) (i n page : ℕ) → l.at ≡ i → l.change.vm ≡ n → l.change.page ≡ page → line_of l ≡ record { at = i; change = change n page l.change.how }
line_is l i n page at vm same =
    ap (λ (k : ℕ). record (line_of l) { at = k }) at
    ∙ ap (λ (k : ℕ). record (line_of l) { at = i; change = change k l.change.page l.change.how }) vm
    ∙ ap (λ (k : ℕ). record (line_of l) { at = i; change = change n k l.change.how }) same

told_listed : (ls : List Loss) (i n page : ℕ) → IsToldLoss ls i n page → IsListed (map line_of ls) i n page
told_listed ls i n page is =
    let k = is.0 in
    let l = is.1 in
    (l.change.how, (k, slice_get-map line_of ls k ∙ ap (option_map line_of) is.2 ∙ ap (λ (x : Line). Some x) (line_is l i n page is.3 is.4 is.5)))

rising_told : (ls : List Loss) → IsRising (map line_of ls) → AreRising ls
rising_told ls rising j k x y less there other =
    rising j k (line_of x) (line_of y) less (slice_get-map line_of ls j ∙ ap (option_map line_of) there) (slice_get-map line_of ls k ∙ ap (option_map line_of) other)

pub all_told : (c : Config) (es : List Event) (mets : List Met) (t : Scene) → IsConfig c → run c es ≡ Ok t → AreAllLosses (moments c es) (told c (moments c es) mets)
all_told c es mets t good runs i n page =
    let ms = moments c es in
    let ls = told c ms mets in
    let same = losses_told c ms mets in
    let P : List Line → Type 0 = λ lines. IsListed lines i n page in
    let listed = (losses_listed c es t good runs).0 i n page in
    (λ loss. listed_told ls i n page (subst P (sym same) (listed.0 loss)), λ is. listed.1 (subst P same (told_listed ls i n page is)))

pub rising_losses : (c : Config) (es : List Event) (mets : List Met) (t : Scene) → IsConfig c → run c es ≡ Ok t → AreRising (told c (moments c es) mets)
rising_losses c es mets t good runs =
    let ms = moments c es in
    rising_told (told c ms mets) (subst IsRising (sym (losses_told c ms mets)) (losses_listed c es t good runs).1)
