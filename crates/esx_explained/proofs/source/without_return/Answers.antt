use Rattle.std.proofs.Common.{sym, arith, length, ◌-◌, suc, ◌≡◌, ◌∙◌}
use Rattle.esx_text.proofs.LineLemmas.{line_of_returned, line_of_other}
use Rattle.esx_explained.proofs.source.without_return.Goals as goal

pub returns-then-piece-last-eq13 : goal.returns-then-piece-last-eq13
returns-then-piece-last-eq13 c =
    let some : length c.args.piece.now ≡ suc (length c.args.piece.now - 1) = omega (arith, c.in_default) in
    c.split_at.ensures.front ∙ sym (line_of_returned c.args.piece.now (length c.args.piece.now - 1) some c.if-piece-last-eq13.true)

pub returns-else-piece-last-eq13 : goal.returns-else-piece-last-eq13
returns-else-piece-last-eq13 c =
    let some : length c.args.piece.now ≡ suc (length c.args.piece.now - 1) = omega (arith, c.in_default) in
    sym (line_of_other c.args.piece.now (length c.args.piece.now - 1) some c.if-piece-last-eq13.false)
