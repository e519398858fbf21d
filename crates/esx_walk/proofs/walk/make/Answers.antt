use Rattle.std.proofs.Common.{◌≡◌, Result, Ok, sym, ap, subst, ◌∙◌}
use Rattle.esx_types.specs.declared.config.Config.{Config}
use Rattle.esx_events.specs.declared.event.Event.{Event}
use Rattle.esx_events.specs.declared.event.Refusal.{Refusal}
use Rattle.esx_events.specs.declared.call.PageState.{PageState}
use Rattle.esx_model.specs.Replay.{next}
use Rattle.esx_model.specs.sound.Sound.{IsSound}
use Rattle.esx_story.specs.Moments.{moments}
use Rattle.esx_story.specs.Readings.{lost_by, gained_from}
use Rattle.esx_walk.specs.Holding.{given_after}
use Rattle.esx_walk.specs.Looking.{losing, IsPrepared}
use Rattle.esx_walk.specs.Making.{walked}
use Rattle.esx_walk.proofs.Along.{moment_of}
use Rattle.esx_walk.proofs.Walking.{comes_next, walk_more}
use Rattle.esx_walk.proofs.walk.make.Goals as goal

pub returns-in-Ok : goal.returns-in-Ok
returns-in-Ok c = λ site es mets walk ready. (
    let e : Event = c.args.event.now in
    let answer = c.in-Ok.answer in
    let t = walk.scene in
    let x = c.in-Ok.ensures.event t walk.shows in
    let places = (walked c.args.machine.now c.args.account.now).account.places in
    let goes : next site t e ≡ Ok (answer, x.after) = ap (λ (q : Config). next q t e) (sym walk.config) ∙ x.gives in
    let S : Config → Type 0 = λ q. IsSound q t.site in
    let sound : IsSound site t.site = subst S walk.config walk.shows.sound in
    let P : Result PageState Refusal → Type 0 = λ r. IsPrepared site t (losing e r) places c.args.before.seen in
    let nexts = comes_next site t x.after e answer places c.args.before.seen c.given_after-given.result c.lost-lost.result c.gained-gained.result sound goes
    (c.lost-lost.ensures ∙ ap (lost_by e answer) ready.read) (c.gained-gained.ensures ∙ ap (gained_from e) ready.read) (subst P ready.read ready.prepared)
    (c.given_after-given.ensures x.after x.shows ∙ ap (given_after x.after.site) ready.holds) in
    let account = c.go_on.ensures site (moments site es) mets (moment_of e answer t x.after) walk.account nexts in (
      walk_more site es mets e answer (walked c.args.machine.now c.args.account.now) (walked c.apply.new.self c.go_on.new.self) x.after walk goes x.shows (x.config ∙ walk.config) account,
      record { before = t; runs = walk.runs; after = x.after; goes = goes },
    ))
