use Rattle.std.proofs.Common.{◌≤◌, ◌∙◌, length, sym, ap, arith}
use Rattle.std.proofs.lemmas.List.{take_all}
use Rattle.esx_explained.specs.declared.telling.TheConstants.{MOST_TOLD}
use Rattle.esx_explained.proofs.telling.told_bytes.Goals as goal

pub returns-then-bytes-le-MOST_TOLD : goal.returns-then-bytes-le-MOST_TOLD
returns-then-bytes-le-MOST_TOLD c =
    let same = ap length c.as_bytes-bytes.ensures.value in
    let le : length c.args.word.now ≤ MOST_TOLD = omega arith in
    c.as_bytes-bytes.ensures.value ∙ sym (take_all MOST_TOLD c.args.word.now le)
