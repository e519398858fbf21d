use Rattle.std.proofs.Common.{[], ◌∷◌, ◌++◌, ◌≡◌, ◌∙◌, ap, arith, refl, sym, subst, length, append-nil, append_assoc}
use Rattle.esx_text.specs.Lines.{HasLines, input_bytes}
use Rattle.esx_text.proofs.ProgressLemmas.{progress_on, progress_of, feed_inside, length_behind}
use Rattle.esx_text.proofs.FaultLemmas.{handed_on, stops_of}
use Rattle.esx_text.proofs.service.serve_bytes.Goals as goal

pub loop-piece-init : goal.loop-piece-init
loop-piece-init g c = record {
  progress = ([], sym c.of-rest.ensures, λ before known input start. progress_of _ _ _ _ _ _ _ _ _ (sym (append-nil input)) start);
  failures = refl;
  flushes = refl;
  empty = c.requires.empty;
  ends = subst (HasLines (input_bytes c.of-rest.result)) (sym c.new-ends.ensures) tt;
  count = omega (arith, ap length c.of-rest.ensures);
}

pub loop-piece-preserved : goal.loop-piece-preserved
loop-piece-preserved g c =
    let p = c.loop-piece.invariant.progress in
    let piece = input_bytes c.in-Some.piece in
    let later = input_bytes c.in-Some.later in
    let is : input_bytes c.loop-piece.rest ≡ piece ++ 10 ∷ later = c.in-Some.ensures.parts.1 in
    record {
      progress = (
        p.0 ++ (piece ++ 10 ∷ []),
        p.1 ∙ ap (λ v. p.0 ++ v) is ∙ feed_inside p.0 piece later,
        λ before known input start.
            progress_of _ _ _ _ _ _ _ _ _ (append_assoc input p.0 (piece ++ 10 ∷ []))
            (c.in_ok-serve_line.ensures.ok before known (input ++ p.0) (p.2 before known input start)),
      );
      failures = omega (arith, c.loop-piece.invariant.failures, c.in_ok-serve_line.ensures.failures);
      flushes = c.serve_line.ensures.flushes ∙ c.loop-piece.invariant.flushes;
      empty = c.in_ok-serve_line.ensures.empty;
      ends = c.in-Some.ensures.ends;
      count = omega (arith, c.loop-piece.invariant.count, c.in_ok-serve_line.ensures.count, length_behind (input_bytes c.loop-piece.rest) piece later is);
    }

pub returns-clause-ok : goal.returns-clause-ok
returns-clause-ok g c = λ before known input start.
    let p = c.loop-piece.invariant.progress in
    let rest = input_bytes c.loop-piece.rest in
    progress_of _ _ _ _ _ _ _ _ _ (append_assoc input p.0 rest ∙ ap (λ v. input ++ v) (sym p.1))
    (progress_on c.args.caller before known (input ++ p.0) c.loop-piece.work.count rest c.loop-piece.work.line c.extend.new.self c.loop-piece.console _
    c.in_default.ensures.parts (rw c.bytes.ensures at c.extend.ensures) (p.2 before known input start))

pub returns-in_err-serve_line-clause-fault : goal.returns-in_err-serve_line-clause-fault
returns-in_err-serve_line-clause-fault g c = handed_on c.from_residual.result c.in_err-serve_line.field-0.0 _ c.from_residual.ensures.1
    (λ before known input start.
    let p = c.loop-piece.invariant.progress in
    let piece = input_bytes c.in-Some.piece in
    let later = input_bytes c.in-Some.later in
    let is : input_bytes c.loop-piece.rest ≡ piece ++ 10 ∷ later = c.in-Some.ensures.parts.1 in
    stops_of _ _ _ _ _ _ _ _ (append_assoc input p.0 (piece ++ 10 ∷ later) ∙ ap (λ v. input ++ v) (sym (p.1 ∙ ap (λ v. p.0 ++ v) is)))
    (c.in_err-serve_line.ensures.fault before known (input ++ p.0) later (p.2 before known input start)))
