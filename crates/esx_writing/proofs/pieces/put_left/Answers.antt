use Rattle.std.proofs.Common.{◌∙◌, ap, refl}
use Rattle.std.specs.Prelude.{replicate}
use Rattle.esx_writing.proofs.WritingLemmas.{first_failed, puts_after, utf8_both}
use Rattle.esx_writing.proofs.pieces.put_left.Goals as goal

pub returns-in_err-put-clause-bytes : goal.returns-in_err-put-clause-bytes
returns-in_err-put-clause-bytes g c =
    first_failed _ _ c.args.held.now c.put.new.held _ _ _ c.from_residual.result c.from_residual.ensures.0 c.as_bytes.ensures.value c.in_err-put.ensures.bytes

pub returns-clause-bytes : goal.returns-clause-bytes
returns-clause-bytes g c =
    puts_after _ _ _ c.args.held.now c.put.new.held c.put-2.new.held _ _ _ _ c.put-2.result c.as_bytes.ensures.value (c.as_bytes-2.ensures.value ∙ (c.spaces-lacking.ensures ∙ ap (λ n. replicate n 32) c.saturating_sub.ensures)) c.in_ok-put.ensures.bytes c.put-2.ensures.bytes

pub returns-clause-utf8 : goal.returns-clause-utf8
returns-clause-utf8 g c = utf8_both _ _ _ _ refl (c.spaces-lacking.ensures ∙ ap (λ n. replicate n 32) c.saturating_sub.ensures) c.utf8.text c.spaces-lacking.utf8

pub returns-in_err-put-clause-utf8 : goal.returns-in_err-put-clause-utf8
returns-in_err-put-clause-utf8 g c = utf8_both _ _ _ _ refl (c.spaces-lacking.ensures ∙ ap (λ n. replicate n 32) c.saturating_sub.ensures) c.utf8.text c.spaces-lacking.utf8
