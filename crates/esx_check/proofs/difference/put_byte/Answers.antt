use Rattle.std.proofs.Common.{◌∷◌, [], refl}
use Rattle.esx_writing.proofs.WritingLemmas.{first_failed, puts_after}
use Rattle.esx_check.proofs.difference.put_byte.Goals as goal
use Rattle.esx_check.proofs.difference.put_byte.Goals.{then-fresh+in_ok-put, else-fresh}

pub returns-in_err-put-clause-bytes : goal.returns-in_err-put-clause-bytes
returns-in_err-put-clause-bytes g c =
    rw c.if-fresh.true
    (first_failed (g.W.Sink.contents c.args.sink.now) (g.W.Sink.contents c.put.new.sink) c.args.held.now c.put.new.held
    g.S.Sign.text g.S.Sign.text (c.args.byte ∷ []) c.from_residual.result c.from_residual.ensures.0 refl c.in_err-put.ensures.bytes)

pub returns-clause-bytes : goal.returns-clause-bytes
returns-clause-bytes g c =
    elim c.if-fresh.branch [
      | then-fresh+in_ok-put w ↦
          let later = rw (w.sink-is, w.held-is) at c.put-2.ensures.bytes in
          rw w.if-fresh.true
          (puts_after (g.W.Sink.contents c.args.sink.now) (g.W.Sink.contents w.put.new.sink) (g.W.Sink.contents c.put-2.new.sink)
          c.args.held.now w.put.new.held c.put-2.new.held
          g.S.Sign.text g.S.Sign.text (c.args.byte ∷ []) (c.args.byte ∷ []) c.put-2.result refl refl w.in_ok-put.ensures.bytes later)
      | else-fresh w ↦ rw w.if-fresh.false (rw (w.sink-is, w.held-is) at c.put-2.ensures.bytes)
    ]
