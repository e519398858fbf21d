use Rattle.std.proofs.Common.{ℕ, List, ap, refl}
use Rattle.std.specs.Prelude.{string_bytes}
use Rattle.esx_writing.proofs.WritingLemmas.{first_failed, puts_after}
use Rattle.esx_report.specs.Why.{happened_head, outcome_text}
use Rattle.esx_report.proofs.happened.put_happened.Goals as goal

pub returns-in_err-put_happened_head-clause-bytes : goal.returns-in_err-put_happened_head-clause-bytes
returns-in_err-put_happened_head-clause-bytes g c =
    let line = c.args.why.now.line in
    let head = happened_head c.as_bytes.result.now line in
    let spelt = ap (λ (command : List ℕ). happened_head command line) c.as_bytes.ensures.value in
    first_failed (g.W.Sink.contents c.args.sink.now) (g.W.Sink.contents c.put_happened_head.new.sink) c.args.held.now c.put_happened_head.new.held
    head (happened_head (string_bytes c.args.why.now.command) line) (outcome_text line.loss.change.how line.loss.slot)
    c.from_residual.result c.from_residual.ensures.0 spelt c.in_err-put_happened_head.ensures.bytes

pub returns-clause-bytes : goal.returns-clause-bytes
returns-clause-bytes g c =
    let line = c.args.why.now.line in
    let head = happened_head c.as_bytes.result.now line in
    let outcome = outcome_text line.loss.change.how line.loss.slot in
    let spelt = ap (λ (command : List ℕ). happened_head command line) c.as_bytes.ensures.value in
    puts_after (g.W.Sink.contents c.args.sink.now) (g.W.Sink.contents c.put_happened_head.new.sink) (g.W.Sink.contents c.put_outcome.new.sink) c.args.held.now c.put_happened_head.new.held c.put_outcome.new.held
    head (happened_head (string_bytes c.args.why.now.command) line) outcome outcome c.put_outcome.result spelt refl c.in_ok-put_happened_head.ensures.bytes c.put_outcome.ensures.bytes
