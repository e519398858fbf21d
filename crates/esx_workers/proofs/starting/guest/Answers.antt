use Rattle.std.proofs.Common.{◌≡◌, List}
use Rattle.std.proofs.lemmas.Result.{IfOk-weaker, on_err_weaker}
use Rattle.esx_events.specs.declared.call.Line.{Line}
use Rattle.esx_door.specs.Own.{lines_of}
use Rattle.esx_workers.specs.declared.end.End.{End}
use Rattle.esx_workers.specs.declared.end.How.TheVariants.{Done}
use Rattle.esx_workers.specs.Runs.{Ended}
use Rattle.esx_workers.specs.Starts.{guest_of}
use Rattle.esx_workers.specs.GuestRuns.{Visited}
use Rattle.esx_workers.proofs.Visits.{ended_visits, broken_visits}
use Rattle.esx_workers.proofs.starting.guest.Goals as goal

pub returns-clause-visits : goal.returns-clause-visits
returns-clause-visits g c =
    let k = g.D.Door.caller c.args.door.now in
    let before : List Line = lines_of k (g.D.Door.seen c.args.door.now) in
    let after : List Line = lines_of k (g.D.Door.seen c.run.new.door) in
    IfOk-weaker c.run.result (λ end. Ended (g.G.Gate.is_open c.args.gate.now) k (guest_of c.args.vm c.args.trace c.args.rng) c.args.turns end before after) (λ end. Visited c.args.vm c.args.trace.now (end.how ≡ Done) before after)
    (λ (end : End) e. ended_visits k c.args.vm c.args.turns c.args.trace c.args.rng end before after e) c.run.ensures.ok

pub returns-clause-visits_in_part : goal.returns-clause-visits_in_part
returns-clause-visits_in_part g c =
    let k = g.D.Door.caller c.args.door.now in
    let before : List Line = lines_of k (g.D.Door.seen c.args.door.now) in
    let after : List Line = lines_of k (g.D.Door.seen c.run.new.door) in
    on_err_weaker c.run.result (λ b. broken_visits k c.args.vm c.args.turns c.args.trace c.args.rng before after b) c.run.ensures.err
