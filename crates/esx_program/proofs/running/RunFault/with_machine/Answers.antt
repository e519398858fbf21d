use Rattle.std.proofs.Common.{◌∙◌, refl, sym}
use Rattle.esx_program.proofs.RunLemmas.{machine_is_named, refused_there}
use Rattle.esx_program.proofs.running.RunFault.with_machine.Goals as goal

pub returns : goal.returns
returns c =
    let e = c.in-Refused.refusal in
    let p = c.args.scenario.now in
    let refused = rw c.in-Refused.is at c.requires in
    let there = refused_there e p c.config.result c.guests.result.now c.config.ensures.same c.guests.ensures.same refused in
    let same = rw c.in-Some.is at (c.refused_opening.ensures.refusal e there) in
    rw c.in-Refused.is
    (c.in-Some.machine, refl, machine_is_named e p c.config.result c.guests.result.now c.config.ensures.same c.guests.ensures.same refused c.in-Some.machine (sym c.in-Some.is ∙ c.refused_opening.ensures.first) same)

pub unreachable-requires : goal.unreachable-requires
unreachable-requires c =
    let e = c.in-Refused.refusal in
    let refused = rw c.in-Refused.is at c.requires in
    let there = refused_there e c.args.scenario.now c.config.result c.guests.result.now c.config.ensures.same c.guests.ensures.same refused in
    rw c.in-None.is at (c.refused_opening.ensures.refusal e there)
