use Rattle.std.proofs.Common.{◌∙◌, ap, take, replicate, arith}
use Rattle.std.proofs.lemmas.List.{take-replicate}
use Rattle.esx_report.proofs.column.blanks.Goals as goal

pub returns : goal.returns
returns c = ap (λ n. take n (replicate 255 32)) c.from.ensures ∙ take-replicate c.args.count 255 32 (omega arith)
