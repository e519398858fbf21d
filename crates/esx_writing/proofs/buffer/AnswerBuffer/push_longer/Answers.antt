use Rattle.std.proofs.Common.{◌+◌, ◌≤◌, ◌++◌, ◌∙◌, ap, arith, length, decimal, take}
use Rattle.std.proofs.lemmas.Fmt.{length-decimal-le}
use Rattle.std.proofs.lemmas.List.{length-take-le}
use Rattle.esx_writing.proofs.WritingLemmas.{digits_held}
use Rattle.esx_writing.proofs.buffer.AnswerBuffer.push_longer.Goals as goal

pub write_digits-start-requires : goal.write_digits-start-requires
write_digits-start-requires c = (length-decimal-le 20 c.args.number (omega arith) (omega (arith, c.ranges.number.fits)) c.ranges.number.fits, omega arith)

pub returns : goal.returns
returns c =
    let within : c.self.inside.count ≤ length c.deref_mut-2.result.now = omega (arith, c.deref_mut-2.ensures.len, c.self.invariant) in
    let fits : c.self.inside.count + 20 ≤ c.self.inside.bytes.len = omega (arith, c.requires.room, c.self.invariant, ap length c.self.view_is, length-take-le c.self.inside.count c.deref_mut-2.result.now within, ap length (ap (take c.self.inside.count) c.deref_mut-2.ensures.value)) in
    digits_held c.deref_mut-2.result.now _ _ _ _ _ (decimal c.args.number) c.self.inside.count c.write_digits-start.result _ within c.copy_from_slice.ensures.after
    c.write_digits-start.ensures.written c.write_digits-start.ensures.start fits
    ∙ ap (λ v. v ++ decimal c.args.number) (ap (take c.self.inside.count) c.deref_mut-2.ensures.value ∙ c.self.view_is)
