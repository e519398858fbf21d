-- The rows that are told of losses are in their ranges.
use Rattle.std.proofs.Common.{◌≡◌, ℕ, ◌+◌, ◌==◌, Bool, true, false, cond, List, [], ◌∷◌, refl, subst, Option, Some, None, Ok}
use Rattle.std.specs.List.{AllByRecursion, find, fold}
use Rattle.std.specs.Option.{ForSome}
use Rattle.std.proofs.lemmas.List.Elements.{All-from_recursion, All-from_get_or, recursion_from_All}
use Rattle.esx_types.specs.declared.config.Config.{Config}
use Rattle.esx_types.specs.Ranges.{IsConfig}
use Rattle.esx_events.specs.declared.event.Event.{Event}
use Rattle.esx_formulas.specs.declared.targets.Row.{Row}
use Rattle.esx_formulas.specs.Ratio.{claim, IsRow, no_row}
use Rattle.esx_formulas.specs.Targets.{comes_no_later}
use Rattle.esx_model.specs.declared.scene.Site.{Site}
use Rattle.esx_model.specs.declared.scene.Scene.{Scene}
use Rattle.esx_model.specs.Advice.{target_of}
use Rattle.esx_model.specs.Replay.{run}
use Rattle.esx_model.specs.event.Rebalancing.{rows_of}
use Rattle.esx_model.specs.sound.Sound.{IsSound}
use Rattle.esx_model.proofs.Callers.{all_append}
use Rattle.esx_story.specs.declared.story.Loss.{Loss}
use Rattle.esx_story.specs.declared.change.Change.{Change}
use Rattle.esx_story.specs.Hows.{IsAcceptedMoment}
use Rattle.esx_story.specs.Losses.{lost_at}
use Rattle.esx_story.specs.Moments.{Moment, moments}
use Rattle.esx_story.specs.Order.{sooner_row, is_other_above, order, HasGoodRows}
use Rattle.esx_story.specs.Story.{told_at, told_from, told}
use Rattle.esx_story.specs.Waits.{Met}
use Rattle.esx_story.proofs.Listed.{accepted_all}
use Rattle.esx_walk.specs.Complete.{AreGood}
use Rattle.esx_walk.proofs.Rows.{good_rows}

one_row : (x y : Row) → Some x ≡ Some y → x ≡ y
one_row x y h = cc

no_row_there : (x : Row) → None ≡ Some x → ⊥
no_row_there x h = cc

good_one : (row : Row) → IsRow row → ForSome (Some row) IsRow
good_one row good x h = subst IsRow (one_row row x h) good

good_none : ForSome None IsRow
good_none x h = absurd (no_row_there x h)

good_found : (n : ℕ) (rows : List Row) → AllByRecursion IsRow rows → ForSome (find (λ (row : Row). row.vm == n) rows) IsRow
good_found n [] all = good_none
good_found n (row ∷ rows) all = by (good_found n rows all.1) (row.vm == n)
  where
    by : ForSome (find (λ (row : Row). row.vm == n) rows) IsRow → (b : Bool) → ForSome (cond b (Some row) (find (λ (row : Row). row.vm == n) rows)) IsRow
    by rest true = good_one row all.0
    by rest false = rest

good_sooner : (best : Option Row) (row : Row) → ForSome best IsRow → IsRow row → ForSome (sooner_row best row) IsRow
good_sooner None row good own = good_one row own
good_sooner (Some best) row good own = by (comes_no_later (claim best best.pages) (claim row row.pages))
  where
    by : (b : Bool) → ForSome (cond b (Some best) (Some row)) IsRow
    by true = good
    by false = good_one row own

good_step : (n : ℕ) (best : Option Row) (row : Row) → ForSome best IsRow → IsRow row → ForSome (cond (is_other_above n row) (sooner_row best row) best) IsRow
good_step n best row good own = by (is_other_above n row)
  where
    by : (b : Bool) → ForSome (cond b (sooner_row best row) best) IsRow
    by true = good_sooner best row good own
    by false = good

good_next : (n : ℕ) (rows : List Row) (best : Option Row) → AllByRecursion IsRow rows → ForSome best IsRow → ForSome (fold (λ best row. cond (is_other_above n row) (sooner_row best row) best) best rows) IsRow
good_next n [] best all good = good
good_next n (row ∷ rows) best all good = good_next n rows (cond (is_other_above n row) (sooner_row best row) best) all.1 (good_step n best row good all.0)

good_order : (c : Config) (s : Site) (n : ℕ) → IsSound c s → HasGoodRows (order s n)
good_order c s n sound =
    let rows = rows_of target_of s in
    let fine = good_rows c s rows sound refl in
    let all = recursion_from_All IsRow rows (All-from_get_or IsRow rows no_row fine.each) in
    record { own = good_found n rows all; next = good_next n rows None all good_none }

abbrev IsGood : Loss → Type 0
IsGood l = HasGoodRows l.seen.order

good_at : (c : Config) (all : List Moment) (mets : List Met) (i : ℕ) (x : Moment) (o : Option Change) → IsSound c x.before.site → AllByRecursion IsGood (told_at c all mets i x o)
good_at c all mets i x None sound = tt
good_at c all mets i x (Some y) sound = (good_order c x.before.site y.vm sound, tt)

good_from : (c : Config) (all : List Moment) (mets : List Met) (i : ℕ) (some : List Moment) → AllByRecursion (IsAcceptedMoment c) some → AllByRecursion IsGood (told_from c all mets i some)
good_from c all mets i [] fine = tt
good_from c all mets i (x ∷ some) fine =
    all_append IsGood (told_at c all mets i x (lost_at x)) (told_from c all mets (i + 1) some) (good_at c all mets i x (lost_at x) fine.0.0) (good_from c all mets (i + 1) some fine.1)

pub good_losses : (c : Config) (es : List Event) (mets : List Met) (t : Scene) → IsConfig c → run c es ≡ Ok t → AreGood (told c (moments c es) mets)
good_losses c es mets t good runs =
    All-from_recursion IsGood (told c (moments c es) mets) (good_from c (moments c es) mets 1 (moments c es) (accepted_all c es t good runs))
