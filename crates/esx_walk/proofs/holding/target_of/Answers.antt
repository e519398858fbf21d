use Rattle.std.proofs.Common.{arith, ap, sym, None}
use Rattle.std.proofs.lemmas.List.{get_or_past}
use Rattle.esx_story.specs.Waits.{left}
use Rattle.esx_walk.proofs.holding.target_of.Goals as goal

pub returns-then-number-ge-VM_NUMBERS : goal.returns-then-number-ge-VM_NUMBERS
returns-then-number-ge-VM_NUMBERS c = λ scene shows. (
    let count = shows.sound.vms in
    sym (ap left (get_or_past scene.site.vms c.args.number None (omega (arith, count)))))
