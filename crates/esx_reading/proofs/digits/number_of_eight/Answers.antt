use Rattle.std.proofs.Common.{◌∙◌}
use Rattle.esx_reading.proofs.LaneLemmas.{eight}
use Rattle.esx_reading.proofs.digits.number_of_eight.Goals as goal

pub returns : goal.returns
returns c = λ ds long small same.
    let w = eight c.args.digits ds long small same in
    c.eight_digits.ensures w.a w.b w.c w.d w.small_a w.small_b w.small_c w.small_d w.whole ∙ w.is
