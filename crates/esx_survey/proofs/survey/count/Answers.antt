use Rattle.std.proofs.Common.{List, take, sym, subst}
use Rattle.esx_sums.specs.Accounts.{AreAll, IsSums}
use Rattle.esx_sums.specs.Few.{AreSmall}
use Rattle.esx_sums.specs.Kept.{sums_of}
use Rattle.esx_story.specs.Moments.{Moment, moments}
use Rattle.esx_sums.specs.declared.present.Present.{Present}
use Rattle.std.specs.Prelude.{Option}
use Rattle.esx_survey.proofs.Along.{moment_of, moments_more}
use Rattle.esx_survey.proofs.Counted.{next_is}
use Rattle.esx_survey.proofs.Listed.{all_cut, small_cut}
use Rattle.esx_survey.proofs.survey.count.Goals as goal

pub go_on-requires-clause-small : goal.go_on-requires-clause-small
go_on-requires-clause-small c =
    let here = c.requires.shows in
    let P : List (Option Present) → Type 0 = AreSmall in
    small_cut c.numbers.result c.all_present-present.result
    (subst P (sym (c.all_present-present.ensures here.0 here.1)) (c.present_is_small.ensures c.args.machine.now.config here.0.site here.1.sound))

pub returns : goal.returns
returns c = λ site es mets t u sums made shows config. (
    let e = c.args.event.now in
    let answer = c.args.answer.now in
    let n = c.numbers.result in
    let Q : List (Option Present) → Type 0 = λ present. AreAll (take n present) u.site in
    let stands = subst Q (sym (c.all_present-present.ensures u shows)) (all_cut c.args.machine.now.config u.site n shows.sound (λ m behind. c.numbers.ensures.past u m shows behind)) in
    let nexts = next_is site es t u e answer c.args.before.now c.args.machine.now c.changes-changes.result c.sum-sum.result (take n c.all_present-present.result) c.moves_are_told.ensures made shows config
    c.changes-changes.ensures c.sum-sum.ensures.value stands in
    let P : List Moment → Type 0 = λ ms. IsSums site ms mets (sums_of c.go_on.new.self) in
    subst P (sym (moments_more site es t u e answer made.runs made.goes)) (c.go_on.ensures site (moments site es) mets (moment_of e answer t u) sums nexts))
