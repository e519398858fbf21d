use Rattle.std.proofs.Common.{sym, arith, length, ◌-◌, suc, ◌≡◌, ◌∙◌}
use Rattle.std.proofs.Math.Seq.{take-length}
use Rattle.esx_text.proofs.LineLemmas.{line_of_returned, line_of_other}
use Rattle.esx_text.proofs.line.line_length.Goals as goal

pub returns-then-piece-last-eq13-clause-front : goal.returns-then-piece-last-eq13-clause-front
returns-then-piece-last-eq13-clause-front c =
    let some : length c.args.piece.now ≡ suc (length c.args.piece.now - 1) = omega (arith, c.in_default) in
    sym (line_of_returned c.args.piece.now (length c.args.piece.now - 1) some c.if-piece-last-eq13.true)

pub returns-else-piece-last-eq13-clause-front : goal.returns-else-piece-last-eq13-clause-front
returns-else-piece-last-eq13-clause-front c =
    let some : length c.args.piece.now ≡ suc (length c.args.piece.now - 1) = omega (arith, c.in_default) in
    take-length c.args.piece.now ∙ sym (line_of_other c.args.piece.now (length c.args.piece.now - 1) some c.if-piece-last-eq13.false)
