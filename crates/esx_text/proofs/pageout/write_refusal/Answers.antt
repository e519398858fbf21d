use Rattle.std.proofs.Common.{[], refl}
use Rattle.esx_replies.specs.Texts.{refusal_text}
use Rattle.esx_writing.proofs.WritingLemmas.{front_of_more, writes_error}
use Rattle.esx_text.proofs.EchoLemmas.{writes_behind}
use Rattle.esx_text.proofs.pageout.write_refusal.Goals as goal

pub returns-in_err-write_echo-clause-bytes : goal.returns-in_err-write_echo-clause-bytes
returns-in_err-write_echo-clause-bytes g c =
    writes_error _ _ [] _ c.from_residual.result c.from_residual.ensures.0 refl (front_of_more _ _ _ (refusal_text c.args.refusal) c.in_err-write_echo.ensures.bytes)

pub returns-clause-bytes : goal.returns-clause-bytes
returns-clause-bytes g c = writes_behind _ _ _ _ (refusal_text c.args.refusal) c.write_reply.result c.in_ok-write_echo.ensures.bytes c.write_reply.ensures.bytes
