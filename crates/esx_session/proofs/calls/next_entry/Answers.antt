use Rattle.std.proofs.Common.{◌∙◌, ap, refl, length}
use Rattle.std.proofs.lemmas.Result.{err_from_is_err_and}
use Rattle.esx_session.specs.Reading.{Place}
use Rattle.esx_session.proofs.CallsLemmas.{end_line, late_line, not_end, lacks_entry, ends_early, one_more, first_is_next, second_is_next, entry_is_next}
use Rattle.esx_session.proofs.calls.next_entry.Goals as goal

pub returns-in-None-clause-only : goal.returns-in-None-clause-only
returns-in-None-clause-only c = λ start done is count.
    let at = c.passed.ensures.value ∙ ap (λ (p : Place). p.passed) c.in-None.ensures.left.1 in
    rw at (ends_early c.args.version start c.args.place.now done is c.in-None.ensures.left.0)

pub returns-in-Some-clause-only : goal.returns-in-Some-clause-only
returns-in-Some-clause-only c = λ start done is count.
    let end = c.if-is_end.ensures.0 refl ∙ ap end_line count in
    rw c.passed-in-Some-next.ensures.value (late_line c.args.version start c.args.place.now c.next.new.self c.next-in-Some.new.self done c.in-Some.line.now c.in-Some-next.field-0.now
    is c.in-Some.ensures.left c.in-Some.ensures.passed end c.in-Some-next.ensures.left c.in-Some-next.ensures.passed)

pub returns-in_err-read_entry-in-Some-2-clause-only : goal.returns-in_err-read_entry-in-Some-2-clause-only
returns-in_err-read_entry-in-Some-2-clause-only c = λ start done is count.
    let p = err_from_is_err_and c.from_residual.result c.from_residual.ensures.1 in
    rw (p.1, p.2) (lacks_entry c.args.version c.in_err-read_entry-in-Some-2.field-0.0 start c.args.place.now c.next.new.self done c.in-Some.line.now is
    c.in-Some.ensures.left c.in-Some.ensures.passed c.in-Some.ensures.line
    (not_end c.in-Some.line.now c.is_end.result c.args.count (length done) count c.is_end.ensures c.if-is_end.false)
    c.in_err-read_entry-in-Some-2.ensures.only)

pub returns-clause-some : goal.returns-clause-some
returns-clause-some c = λ start done is.
    one_more c.args.version start c.args.place.now c.next.new.self c.read_entry.new.place done c.in-Some.line.now c.in_ok-read_entry-in-Some-2.field-0 is
    c.in-Some.ensures.left c.in-Some.ensures.passed c.in_ok-read_entry-in-Some-2.ensures.ok

pub returns-in_err-read_entry-in-Some-2-clause-memory : goal.returns-in_err-read_entry-in-Some-2-clause-memory
returns-in_err-read_entry-in-Some-2-clause-memory c = λ wants.
    rw c.in-Some.ensures.left (not_end c.in-Some.line.now c.is_end.result c.args.count c.args.count refl c.is_end.ensures c.if-is_end.false)

pub returns-in-None-clause-near : goal.returns-in-None-clause-near
returns-in-None-clause-near c = λ line is.
    let at = c.passed.ensures.value ∙ ap (λ (p : Place). p.passed) c.in-None.ensures.left.1 in
    first_is_next _ c.args.place.now c.passed.result line at refl is

pub returns-in-Some-clause-near : goal.returns-in-Some-clause-near
returns-in-Some-clause-near c = λ line is.
    second_is_next _ c.args.place.now c.next.new.self c.next-in-Some.new.self c.passed-in-Some-next.result line
    c.in-Some.ensures.passed c.in-Some-next.ensures.passed c.passed-in-Some-next.ensures.value refl is

pub returns-in_err-read_entry-in-Some-2-clause-near : goal.returns-in_err-read_entry-in-Some-2-clause-near
returns-in_err-read_entry-in-Some-2-clause-near c = λ line is.
    let p = err_from_is_err_and c.from_residual.result c.from_residual.ensures.1 in
    entry_is_next c.args.version _ c.in_err-read_entry-in-Some-2.field-0.0 c.args.place.now c.next.new.self c.in-Some.line.now line
    c.in-Some.ensures.passed c.in_err-read_entry-in-Some-2.ensures.only refl (rw (p.1, p.2) at is)
