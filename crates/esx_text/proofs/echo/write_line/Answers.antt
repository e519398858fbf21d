use Rattle.std.proofs.Common.{[], ◌∷◌, ◌++◌, refl}
use Rattle.esx_writing.proofs.WritingLemmas.{front_of_more, writes_error}
use Rattle.esx_text.proofs.EchoLemmas.{front_behind, writes_behind}
use Rattle.esx_text.proofs.echo.write_line.Goals as goal

pub returns-in_err-put_all-clause-bytes : goal.returns-in_err-put_all-clause-bytes
returns-in_err-put_all-clause-bytes g c =
    writes_error _ _ [] _ c.from_residual.result c.from_residual.ensures.0 refl (front_of_more _ _ (62 ∷ 32 ∷ []) (c.args.line.now ++ 10 ∷ []) c.in_err-put_all.ensures.bytes)

pub returns-in_err-put_all-2-clause-bytes : goal.returns-in_err-put_all-2-clause-bytes
returns-in_err-put_all-2-clause-bytes g c =
    writes_error _ _ [] _ c.from_residual-in_err-put_all-2.result c.from_residual-in_err-put_all-2.ensures.0 refl
    (front_behind _ _ _ (62 ∷ 32 ∷ []) (c.args.line.now ++ 10 ∷ []) c.in_ok-put_all.ensures.bytes (front_of_more _ _ c.args.line.now (10 ∷ []) c.in_err-put_all-2.ensures.bytes))

pub returns-clause-bytes : goal.returns-clause-bytes
returns-clause-bytes g c =
    writes_behind _ _ _ (62 ∷ 32 ∷ []) (c.args.line.now ++ 10 ∷ []) c.put_all-3.result c.in_ok-put_all.ensures.bytes
    (writes_behind _ _ _ c.args.line.now (10 ∷ []) c.put_all-3.result c.in_ok-put_all-2.ensures.bytes c.put_all-3.ensures.bytes)
