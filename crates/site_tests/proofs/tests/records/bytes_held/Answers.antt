use Rattle.std.proofs.Common.{sym, subst}
use Rattle.esx_machine.specs.Machine.{Kept, Trades}
use Rattle.site_tests.proofs.tests.records.bytes_held.Goals as goal

pub returns : goal.returns
returns c =
    let once = c.flip.ensures c.requires.fits.0 c.requires.fits.1 in
    let P : Kept → Type 0 = λ k. Trades c.flip.new.back k c.args.machine.now in
    (c.flip-2.ensures c.args.machine.now (subst P (sym once.0) once.1)).0
