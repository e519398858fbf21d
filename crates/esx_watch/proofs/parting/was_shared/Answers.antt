use Rattle.std.proofs.Common.{sym, subst}
use Rattle.esx_machine.specs.Machine.{Kept, Shows, Trades}
use Rattle.esx_watch.proofs.parting.was_shared.Goals as goal

pub returns-clause-same : goal.returns-clause-same
returns-clause-same c =
    let h = c.requires in
    let one = c.flip.ensures h.0 h.1 in
    let P : Kept → Type 0 = λ k. Trades c.flip.new.back k c.args.machine.now in
    (c.flip-2.ensures c.args.machine.now (subst P (sym one.0) one.1)).0

pub returns-clause-shared : goal.returns-clause-shared
returns-clause-shared c = λ there scene trades shows. (
    let one = c.flip.ensures there trades in
    let P : Kept → Type 0 = λ k. Shows k scene in
    c.is_shared-shared.ensures scene (subst P (sym one.0) shows))
