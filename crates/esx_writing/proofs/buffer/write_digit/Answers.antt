use Rattle.std.proofs.Common.{◌+◌, ◌∙◌, ◌++◌, ap, sym, take}
use Rattle.std.proofs.lemmas.Fmt.{decimal_digit}
use Rattle.std.proofs.lemmas.List.{take_more_set}
use Rattle.esx_writing.proofs.buffer.write_digit.Goals as goal

pub returns : goal.returns
returns c =
    take_more_set c.args.bytes.now c.args.count (48 + c.args.digit) c.requires.room
    ∙ ap (λ v. take c.args.count c.args.bytes.now ++ v) (sym (decimal_digit c.args.digit c.requires.digit))
