-- A survey over its path: it may go on, and it goes on.
use Rattle.std.proofs.Common.{◌≡◌, ℕ, ◌+◌, ◌<◌, ◌≤◌, List, [], ◌∷◌, length, ap, ◌∙◌, subst, arith, Option, Some, None}
use Rattle.std.proofs.lemmas.List.{length-append}
use Rattle.esx_types.specs.declared.config.Config.{Config}
use Rattle.esx_events.specs.declared.event.Answer.{Answer}
use Rattle.esx_events.specs.declared.event.Event.{Event}
use Rattle.esx_model.specs.declared.book.Book.{Book}
use Rattle.esx_model.specs.event.Paging.{compared}
use Rattle.esx_model.specs.event.Sharing.{found_by}
use Rattle.esx_model.specs.sound.Sound.{IsSound}
use Rattle.esx_machine.specs.Machine.{book_in}
use Rattle.esx_story.specs.declared.change.Change.{Change}
use Rattle.esx_story.specs.declared.story.Loss.{Loss}
use Rattle.esx_story.specs.Moments.{Moment, moments}
use Rattle.esx_story.specs.Losses.{lost_at}
use Rattle.esx_story.specs.Readings.{named_page, said_before}
use Rattle.esx_story.specs.Story.{told_at, told_from, told}
use Rattle.esx_story.specs.Waits.{Met}
use Rattle.esx_story.proofs.Walked.{path_told}
use Rattle.esx_walk.specs.Walks.{Walked, IsWalk}
use Rattle.esx_sums.specs.Accounts.{IsShort, IsPatient}
use Rattle.esx_survey.specs.declared.before.Before.{Before}
use Rattle.esx_survey.specs.Counting.{IsMade}
use Rattle.esx_survey.specs.Surveys.{Surveyed, MaySurvey, MayRefuse, IsAlong}
use Rattle.esx_survey.proofs.Along.{Went}
use Rattle.esx_survey.proofs.Counted.{book_shown}

-- What it needs to go on.

pub moments_long : (c : Config) (es : List Event) (mets : List Met) (w : Walked) → IsWalk c es mets w → length (moments c es) ≡ length es
moments_long c es mets w walk = (path_told c es walk.scene walk.runs).0

pub short_sums : (s : Surveyed) → MaySurvey s → IsShort s.sums
short_sums s may =
    let long = moments_long may.config may.events may.mets s.walk may.survey.walk in
    let short = may.short in
    record { config = may.config; moments = moments may.config may.events; mets = may.mets; sums = may.survey.sums; short = omega (arith, long, short) }

pub patient_sums : (s : Surveyed) → MayRefuse s → IsPatient s.sums
patient_sums s may = record { config = may.config; moments = moments may.config may.events; mets = may.mets; sums = may.survey.sums; few = may.few }

-- What was read before an event that was made is of the scene before.
pub made_is : (c : Config) (es : List Event) (mets : List Met) (e : Event) (answer : Answer) (w v : Walked) (before : Before) (walk : IsWalk c es mets w) (on : Went c walk.scene e answer v)
    → before.page ≡ said_before (book_in w.machine) (named_page e) → before.equal ≡ found_by walk.scene.site (compared walk.scene.site e) → IsMade c es walk.scene on.after e answer before
made_is c es mets e answer w v before walk on page equal =
    let P : Config → Type 0 = λ q. IsSound q walk.scene.site in
    record {
      runs = walk.runs;
      sound = subst P walk.config walk.shows.sound;
      goes = on.goes;
      page = page ∙ ap (λ (b : Book). said_before b (named_page e)) (book_shown c w.machine walk.scene walk.shows walk.config);
      equal = equal;
    }

-- A path has no more losses than events.

at_most_one : (c : Config) (ms : List Moment) (mets : List Met) (i : ℕ) (x : Moment) (o : Option Change) → length (told_at c ms mets i x o) ≤ 1
at_most_one c ms mets i x None = omega arith
at_most_one c ms mets i x (Some y) = omega arith

told_few : (c : Config) (ms : List Moment) (mets : List Met) (i : ℕ) (some : List Moment) → length (told_from c ms mets i some) ≤ length some
told_few c ms mets i [] = omega arith
told_few c ms mets i (x ∷ some) =
    let one = at_most_one c ms mets i x (lost_at x) in
    let rest = told_few c ms mets (i + 1) some in
    let long = length-append (told_at c ms mets i x (lost_at x)) (told_from c ms mets (i + 1) some) in
    omega (arith, one, rest, long)

pub few_losses : (s : Surveyed) (losses : List Loss) (is : IsAlong s) → losses ≡ told is.config (moments is.config is.events) is.mets → length losses < 4294967296
few_losses s losses is all =
    let few = told_few is.config (moments is.config is.events) is.mets 1 (moments is.config is.events) in
    let same = ap (λ (ls : List Loss). length ls) all in
    let long = moments_long is.config is.events is.mets s.walk is.survey.walk in
    let short = is.short in
    omega (arith, few, same, long, short)
