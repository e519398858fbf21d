use Rattle.std.proofs.Common.{ap, ◌∙◌}
use Rattle.esx_model.specs.Console.{Session, next_reply}
use Rattle.esx_replies.specs.Replies.{reply_text}
use Rattle.esx_writing.proofs.WritingLemmas.{appends_more, appends_nothing, front_of_more}
use Rattle.esx_text.proofs.EchoLemmas.{front_behind}
use Rattle.esx_text.proofs.calling.make_call.Goals as goal

pub returns-in-Ok-tell_reply-clause-made : goal.returns-in-Ok-tell_reply-clause-made
returns-in-Ok-tell_reply-clause-made g c = (
  c.in-Ok.ensures.ok,
  appends_more _ _ _ _ _ c.in-Ok-write_echo.ensures.bytes
      (c.in-Ok-tell_reply.ensures.bytes _ _ (c.kept.ensures.lines ∙ ap (λ (s : Session). s.log) c.in-Ok.ensures.ok)),
)

pub returns-in_default-clause-made : goal.returns-in_default-clause-made
returns-in_default-clause-made g c = (c.in_default.ensures.err, appends_nothing _)

pub returns-in_default-write_echo-clause-made : goal.returns-in_default-write_echo-clause-made
returns-in_default-write_echo-clause-made g c =
    (c.in-Ok.ensures.ok, front_of_more _ _ _ (reply_text (next_reply c.args.console.now c.args.call)) c.in_default-write_echo.ensures.bytes)

pub returns-in-Err-clause-made : goal.returns-in-Err-clause-made
returns-in-Err-clause-made g c = (
  c.in-Ok.ensures.ok,
  front_behind _ _ _ _ _ c.in-Ok-write_echo.ensures.bytes (c.in-Err.ensures.bytes _ _ (c.kept.ensures.lines ∙ ap (λ (s : Session). s.log) c.in-Ok.ensures.ok)),
)
