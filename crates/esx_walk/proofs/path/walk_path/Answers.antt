use Rattle.std.proofs.Common.{◌≡◌, ◌<◌, ◌≤◌, ◌+◌, List, [], ◌∷◌, ◌++◌, length, take, sym, ap, subst, arith, ◌∙◌, inr}
use Rattle.std.proofs.lemmas.List.{take_all}
use Rattle.esx_types.specs.declared.config.TheConstants.{MAX_NODES}
use Rattle.esx_events.specs.declared.event.Event.{Event}
use Rattle.esx_walk.specs.Walks.{IsWalk}
use Rattle.esx_walk.proofs.Paths.{taken, item_there, short_front}
use Rattle.esx_walk.proofs.path.walk_path.Goals as goal

pub loop-at-init : goal.loop-at-init
loop-at-init c = c.in_ok-walk.ensures.opens

pub go-requires : goal.go-requires
go-requires c =
    let es : List Event = c.args.events.now in
    let at = c.loop-at._at in
    let front = short_front es at in
    let short = c.requires.short in
    let below : at < length es = omega arith in
    record { short = record { config = c.args.site; events = take at es; mets = []; walk = c.loop-at.invariant; short = omega (arith, front, short, below) } }

pub loop-at-preserved : goal.loop-at-preserved
loop-at-preserved c =
    let es : List Event = c.args.events.now in
    let at = c.loop-at._at in
    let e : Event = c.index-events-at.result in
    let below : at < length es = omega arith in
    let P : List Event → Type 0 = λ xs. IsWalk c.args.site xs [] c.go.new.self in
    subst P (taken es at e below c.index-events-at.is) (c.in-Ok.ensures c.args.site (take at es) [] c.loop-at.invariant).0

pub returns-clause-goes : goal.returns-clause-goes
returns-clause-goes c =
    let es : List Event = c.args.events.now in
    let P : List Event → Type 0 = λ xs. IsWalk c.args.site xs [] c.loop-at.walk in
    subst P (take_all c.loop-at._at es (omega arith)) c.loop-at.invariant

pub returns-in-Err-clause-stops : goal.returns-in-Err-clause-stops
returns-in-Err-clause-stops c = λ no. (
    let es : List Event = c.args.events.now in
    let at = c.loop-at._at in
    let e : Event = c.index-events-at.result in
    let below : at < length es = omega arith in
    inr (at, e, item_there es at e below c.index-events-at.is, (c.in-Err.ensures c.args.site (take at es) [] c.loop-at.invariant).1 no))
