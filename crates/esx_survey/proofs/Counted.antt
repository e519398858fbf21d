-- What is told of an event that was made is what the sums are to be told.
use Rattle.std.proofs.Common.{◌≡◌, List, refl, sym, ap, ◌∙◌, Option}
use Rattle.esx_types.specs.declared.config.Config.{Config}
use Rattle.esx_types.specs.declared.level.Level.{Level}
use Rattle.esx_events.specs.declared.call.Sum.{Sum}
use Rattle.esx_events.specs.declared.event.Answer.{Answer}
use Rattle.esx_events.specs.declared.event.Event.{Event}
use Rattle.esx_model.specs.declared.scene.Scene.{Scene}
use Rattle.esx_model.specs.declared.tables.Tables.{Tables}
use Rattle.esx_model.specs.Readings.{sum_of}
use Rattle.esx_model.specs.Show.{shown}
use Rattle.esx_model.specs.Tables.{tables_of, book_from}
use Rattle.esx_model.proofs.Callers.{book_read, frames_counted}
use Rattle.esx_machine.specs.Machine.{Kept, Shows, book_in}
use Rattle.esx_story.specs.Moments.{moments}
use Rattle.esx_story.specs.Readings.{lost_by, gained_from}
use Rattle.esx_story.proofs.Enough.{reading_enough}
use Rattle.esx_sums.specs.declared.present.Present.{Present}
use Rattle.esx_sums.specs.declared.sums.Changes.{Changes}
use Rattle.esx_sums.specs.Accounts.{AreAll, IsNext}
use Rattle.esx_sums.specs.Telling.{moved_by, IsMoveTold}
use Rattle.esx_survey.specs.declared.before.Before.{Before}
use Rattle.esx_survey.specs.Changes.{host_by, changes_by}
use Rattle.esx_survey.specs.Counting.{IsMade}
use Rattle.esx_survey.proofs.Along.{moment_of, end_is}
use Rattle.esx_survey.proofs.Hosts.{host_told}

-- the book of a machine that shows a scene
pub book_shown : (c : Config) (k : Kept) (t : Scene) → Shows k t → k.config ≡ c → book_in k ≡ shown c t
book_shown c k t s same =
    ap (λ (x : Tables). book_from x k.level) s.tables ∙ ap (λ (l : Level). book_from (tables_of k.config t.site) l) s.level ∙ book_read k.config t.site t.level s.sound ∙ ap (λ (q : Config). shown q t) same

level_said : (c : Config) (t : Scene) → (sum_of (shown c t)).level ≡ t.level
unfolding sum_of
level_said c t = refl

pub next_is : (c : Config) (es : List Event) (t u : Scene) (e : Event) (answer : Answer) (before : Before) (k : Kept) (changes : Changes) (sum : Sum) (present : List (Option Present)) → IsMoveTold → IsMade c es t u e answer before
    → Shows k u → k.config ≡ c → changes ≡ changes_by e answer before.page before.equal → sum ≡ sum_of (book_in k) → AreAll present u.site
    → IsNext c (moments c es) (moment_of e answer t u) e answer changes sum present
next_is c es t u e answer before k changes sum present moves made shows config changed said stands =
    let enough = reading_enough c t e (answer, u) made.sound made.goes in
    let told : sum ≡ sum_of (shown c u) = said ∙ ap sum_of (book_shown c k u shows config) in
    record {
      before = sym (end_is c es t made.runs);
      made = refl;
      told = refl;
      lost = enough.0 ∙ ap (lost_by e answer) (sym made.page) ∙ sym (ap (λ (y : Changes). y.lost) changed);
      gained = enough.1 ∙ ap (gained_from e) (sym made.page) ∙ sym (ap (λ (y : Changes). y.gained) changed);
      moved = moves c (moment_of e answer t u) (made.sound, made.goes) ∙ ap (moved_by e answer) (sym made.page) ∙ sym (ap (λ (y : Changes). y.moved) changed);
      host = host_told c t e (answer, u) made.goes ∙ ap (host_by e answer) (sym made.equal) ∙ sym (ap (λ (y : Changes). y.host) changed);
      level = ap (λ (z : Sum). z.level) told ∙ level_said c u;
      free = ap (λ (z : Sum). z.free) told ∙ (frames_counted c u).free;
      private = ap (λ (z : Sum). z.private) told;
      shared = ap (λ (z : Sum). z.shared) told;
      stands = stands;
    }
