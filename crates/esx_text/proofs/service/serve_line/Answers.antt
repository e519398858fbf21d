use Rattle.std.proofs.Common.{if◌then◌else◌, [], ◌∷◌, ◌++◌, ◌≡◌, ◌∙◌, ap, append_assoc}
use Rattle.esx_text.specs.Lines.{Held, input_bytes, line_of}
use Rattle.esx_text.proofs.ProgressLemmas.{progress_on, progress_line, progress_of}
use Rattle.esx_text.proofs.FaultLemmas.{handed_on, stops_line, stops_of}
use Rattle.esx_text.proofs.service.serve_line.Goals as goal

pub returns-clause-ok : goal.returns-clause-ok
returns-clause-ok g c = λ before known input p.
    let piece = input_bytes c.args.piece in
    let line : Held = record { front = if c.end-whole.result then piece else c.end-whole.new.self.front; long = c.end-whole.new.self.long } in
    let kept : input_bytes c.without_return.result ≡ line_of line.front = c.without_return.ensures ∙ ap line_of (rw c.bytes-2.ensures at c.either.ensures) in
    let more = progress_on c.args.caller before known input c.args.work.now.count piece c.args.work.now.line line c.args.console.now _
    c.requires.clean (rw c.bytes.ensures at c.end-whole.ensures) p in
    progress_of _ _ _ _ _ _ _ _ _ (append_assoc input piece (10 ∷ []))
    (progress_line c.args.caller before known (input ++ piece) c.args.work.now.count line c.clear.new.self c.args.console.now _ _ _
    (λ full keeps. c.in_ok-answer_line.ensures.served full (rw (kept, c.is_long.ensures) keeps))
    c.clear.ensures more)

pub returns-in_err-answer_line-clause-fault : goal.returns-in_err-answer_line-clause-fault
returns-in_err-answer_line-clause-fault g c = handed_on c.from_residual.result c.in_err-answer_line.field-0.0 _ c.from_residual.ensures.1
    (λ before known input later p.
    let piece = input_bytes c.args.piece in
    let line : Held = record { front = if c.end-whole.result then piece else c.end-whole.new.self.front; long = c.end-whole.new.self.long } in
    let kept : input_bytes c.without_return.result ≡ line_of line.front = c.without_return.ensures ∙ ap line_of (rw c.bytes-2.ensures at c.either.ensures) in
    let more = progress_on c.args.caller before known input c.args.work.now.count piece c.args.work.now.line line c.args.console.now _
    c.requires.clean (rw c.bytes.ensures at c.end-whole.ensures) p in
    stops_of _ _ _ _ _ _ _ _ (append_assoc input piece (10 ∷ later))
    (stops_line c.in_err-answer_line.field-0.0 c.args.caller before known (input ++ piece) c.args.work.now.count line c.args.console.now _ _ _ later
    (λ full keeps. c.in_err-answer_line.ensures.served full (rw (kept, c.is_long.ensures) keeps)) more))
