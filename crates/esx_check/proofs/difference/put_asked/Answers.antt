use Rattle.std.proofs.Common.{◌++◌, ◌∷◌, [], refl}
use Rattle.esx_words.specs.Commands.{spelling}
use Rattle.esx_words.proofs.PrintingLemmas.{puts_same}
use Rattle.esx_writing.proofs.WritingLemmas.{first_failed, passes_stop, puts_after, puts_error}
use Rattle.esx_check.specs.Differences.{asked_text}
use Rattle.esx_check.proofs.DifferenceLemmas.{asked_head, asked_is}
use Rattle.esx_check.proofs.difference.put_asked.Goals as goal

pub returns-in_err-put_pieces-clause-bytes : goal.returns-in_err-put_pieces-clause-bytes
returns-in_err-put_pieces-clause-bytes g c =
    let e = c.args.entry.now in
    puts_same (g.W.Sink.contents c.args.sink.now) (g.W.Sink.contents c.put_pieces.new.sink) c.args.held.now c.put_pieces.new.held
    (asked_head e.caller ++ (spelling e.call ++ 10 ∷ [])) (asked_text e) c.from_residual.result (asked_is e)
    (first_failed (g.W.Sink.contents c.args.sink.now) (g.W.Sink.contents c.put_pieces.new.sink) c.args.held.now c.put_pieces.new.held
    (asked_head e.caller) (asked_head e.caller) (spelling e.call ++ 10 ∷ []) c.from_residual.result c.from_residual.ensures.0 refl
    (rw c.from.ensures at c.in_err-put_pieces.ensures.bytes))

pub returns-in_err-put_command-clause-bytes : goal.returns-in_err-put_command-clause-bytes
returns-in_err-put_command-clause-bytes g c =
    let e = c.args.entry.now in
    puts_same (g.W.Sink.contents c.args.sink.now) (g.W.Sink.contents c.put_command.new.sink) c.args.held.now c.put_command.new.held
    (asked_head e.caller ++ (spelling e.call ++ 10 ∷ [])) (asked_text e) c.from_residual-in_err-put_command.result (asked_is e)
    (puts_error _ _ c.args.held.now c.put_command.new.held _ c.from_residual-in_err-put_command.result c.from_residual-in_err-put_command.ensures.0
    (passes_stop _ _ _ c.args.held.now c.put_pieces.new.held _ (asked_head e.caller) (spelling e.call) (10 ∷ []) refl
    (rw c.from.ensures at c.in_ok-put_pieces.ensures.bytes) c.in_err-put_command.ensures.bytes))

pub returns-clause-bytes : goal.returns-clause-bytes
returns-clause-bytes g c =
    let e = c.args.entry.now in
    puts_same (g.W.Sink.contents c.args.sink.now) (g.W.Sink.contents c.put.new.sink) c.args.held.now c.put.new.held
    (asked_head e.caller ++ (spelling e.call ++ 10 ∷ [])) (asked_text e) c.put.result (asked_is e)
    (puts_after _ (g.W.Sink.contents c.put_pieces.new.sink) _ c.args.held.now c.put_pieces.new.held c.put.new.held
    (asked_head e.caller) (asked_head e.caller) (spelling e.call ++ 10 ∷ []) (spelling e.call ++ 10 ∷ []) c.put.result refl refl
    (rw c.from.ensures at c.in_ok-put_pieces.ensures.bytes)
    (puts_after _ (g.W.Sink.contents c.put_command.new.sink) _ c.put_pieces.new.held c.put_command.new.held c.put.new.held
    (spelling e.call) (spelling e.call) c.as_bytes.result.now (10 ∷ []) c.put.result refl c.as_bytes.ensures.value c.in_ok-put_command.ensures.bytes c.put.ensures.bytes))
