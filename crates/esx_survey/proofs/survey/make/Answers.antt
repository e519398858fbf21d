use Rattle.std.proofs.Common.{sym, ap, subst, ◌∙◌}
use Rattle.esx_machine.specs.Machine.{Kept, Shows, book_in}
use Rattle.esx_story.specs.Readings.{named_page, said_before}
use Rattle.esx_survey.specs.Counting.{surveyed}
use Rattle.esx_survey.proofs.Along.{went}
use Rattle.esx_survey.proofs.Surveying.{short_sums, made_is}
use Rattle.esx_survey.proofs.survey.make.Goals as goal

pub count-requires-clause-short : goal.count-requires-clause-short
count-requires-clause-short c = short_sums (surveyed c.args.walk.now c.args.sums.now) c.requires.short

pub count-requires-clause-shows : goal.count-requires-clause-shows
count-requires-clause-shows c =
    let may = c.requires.short in
    let on = c.in-Ok.ensures may.config may.events may.mets may.survey.walk in
    let P : Kept → Type 0 = λ k. Shows k on.0.scene in
    (on.0.scene, subst P (sym c.machine-in-Ok.ensures) on.0.shows)

pub returns-in-Ok : goal.returns-in-Ok
returns-in-Ok c = λ site es mets survey. (
    let e = c.args.event.now in
    let answer = c.in-Ok.answer in
    let walk = survey.walk in
    let on = c.in-Ok.ensures site es mets walk in
    let to = went site es mets e answer c.args.walk.now c.go.new.self walk on.0 on.1 in
    let read = c.read_before-before.ensures in
    let P : Kept → Type 0 = λ k. Shows k walk.scene in
    let Q : Kept → Type 0 = λ k. Shows k to.after in
    let made = made_is site es mets e answer c.args.walk.now c.go.new.self c.read_before-before.result walk to
    (read.page ∙ ap (λ (k : Kept). said_before (book_in k) (named_page e)) c.machine.ensures) (read.equal walk.scene (subst P (sym c.machine.ensures) walk.shows)) in
    (record { walk = on.0; sums = c.count.ensures site es mets walk.scene to.after survey.sums made (subst Q (sym c.machine-in-Ok.ensures) to.shows) (ap (λ (k : Kept). k.config) c.machine-in-Ok.ensures ∙ to.config) }, on.1))

pub returns-in-Err : goal.returns-in-Err
returns-in-Err c = λ site es mets survey. (
    let on = c.in-Err.ensures site es mets survey.walk in
    (record { walk = on.0; sums = survey.sums }, on.1))
