use Rattle.std.proofs.Common.{sym, ap, ◌∙◌, ◌++◌, codes}
use Rattle.esx_session.proofs.LineLemmas.{is_number, is_behind, same_end}
use Rattle.esx_session.proofs.line.is_end.Goals as goal

pub returns-in-Some : goal.returns-in-Some
returns-in-Some c =
    let h = c.in-Some.ensures.cases in
    is_behind c.args.line.now (codes "end ") c.in-Some.number.now c.args.count c.eq.result
    (h.1.1 ∙ ap (λ v. codes "end " ++ v) (sym h.2))
    (is_number c.in-Some.number.now c.number_of.result c.args.count c.ranges.count.fits c.number_of.ensures.some c.number_of.ensures.none c.eq.result c.eq.ensures)
    same_end
