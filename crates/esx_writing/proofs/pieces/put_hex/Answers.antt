use Rattle.std.proofs.Common.{◌≡◌, ◌++◌, [], refl, sym, ◌∙◌, ap, append_assoc, arith}
use Rattle.std.proofs.lemmas.List.{take-append-drop}
use Rattle.hex.specs.Hex.{encode_lower}
use Rattle.esx_writing.proofs.WritingLemmas.{passes_nothing, passes_more, passes_stop, puts_error, hex_of_parts, hex_of_nothing}
use Rattle.esx_writing.proofs.pieces.put_hex.Goals as goal

pub loop-rest-init : goal.loop-rest-init
loop-rest-init g c = record { passed = ([], refl, rw hex_of_nothing (passes_nothing _ c.args.held.now)); failures = refl; flushes = refl }

pub loop-rest-preserved : goal.loop-rest-preserved
loop-rest-preserved g c =
    let p = c.loop-rest.invariant.passed in
    let cut : c.loop-rest.rest.now ≡ c.split_at.result.0.now ++ c.split_at.result.1.now =
    rw (c.split_at.ensures.front, c.split_at.ensures.back) (sym (take-append-drop c.min.result c.loop-rest.rest.now)) in
    record {
      passed = (
        p.0 ++ c.split_at.result.0.now,
        p.1 ∙ ap (λ v. p.0 ++ v) cut ∙ sym (append_assoc p.0 c.split_at.result.0.now c.split_at.result.1.now),
        rw (hex_of_parts p.0 c.split_at.result.0.now)
            (passes_more _ _ _ _ c.loop-rest.held _ _ (encode_lower c.split_at.result.0.now) p.2 (rw c.hex_digits.ensures at c.in_ok-put.ensures.bytes)),
      );
      failures = omega (arith, c.in_ok-put.ensures.failures, c.loop-rest.invariant.failures);
      flushes = c.put.ensures.flushes ∙ c.loop-rest.invariant.flushes;
    }

pub returns-in_err-put-clause-bytes : goal.returns-in_err-put-clause-bytes
returns-in_err-put-clause-bytes g c =
    let p = c.loop-rest.invariant.passed in
    let now = c.split_at.result.0.now in
    let later = c.split_at.result.1.now in
    let cut : c.loop-rest.rest.now ≡ now ++ later =
    rw (c.split_at.ensures.front, c.split_at.ensures.back) (sym (take-append-drop c.min.result c.loop-rest.rest.now)) in
    let whole : encode_lower c.args.bytes.now ≡ encode_lower p.0 ++ (encode_lower now ++ encode_lower later) =
    ap encode_lower (p.1 ∙ ap (λ v. p.0 ++ v) cut) ∙ hex_of_parts p.0 (now ++ later) ∙ ap (λ v. encode_lower p.0 ++ v) (hex_of_parts now later) in
    puts_error (g.W.Sink.contents c.args.sink.now) (g.W.Sink.contents c.put.new.sink) c.args.held.now c.put.new.held (encode_lower c.args.bytes.now)
    c.from_residual.result c.from_residual.ensures.0
    (passes_stop _ _ _ c.args.held.now c.loop-rest.held _ (encode_lower p.0) (encode_lower now) (encode_lower later) whole p.2
    (rw c.hex_digits.ensures at c.in_err-put.ensures.bytes))
