use Rattle.std.proofs.Common.{◌<◌, ◌≤◌, ◌^◌, ◌∷◌, ◌++◌, [], arith, ap, refl, ◌∙◌, decimal, length, length-append}
use Rattle.std.proofs.lemmas.Fmt.{length-decimal-le}
use Rattle.esx_writing.proofs.WritingLemmas.{utf8_both, utf8_number}
use Rattle.esx_session.proofs.printing.put_caller.Goals as goal

pub push-requires : goal.push-requires
push-requires g c =
    let small : c.args.caller < 2 ^ 64 = omega (arith, c.ranges.caller.fits) in
    let few : length (decimal c.args.caller) ≤ 5 = length-decimal-le 5 c.args.caller (omega arith) (omega (arith, c.ranges.caller.fits)) small in
    let long = ap length (c.push_number.ensures ∙ ap (λ n. c.args.held.now ++ decimal n) c.from.ensures) in
    omega (arith, long, length-append c.args.held.now (decimal c.args.caller), few, c.room.ensures, c.if-room-ge-CALLER_ROOM.true, ap length c.as_bytes.ensures.value)

pub returns-then-room-ge-CALLER_ROOM-clause-utf8 : goal.returns-then-room-ge-CALLER_ROOM-clause-utf8
returns-then-room-ge-CALLER_ROOM-clause-utf8 g c =
    utf8_both (decimal c.args.caller) (decimal c.args.caller) c.as_bytes.result.now (32 ∷ []) refl c.as_bytes.ensures.value
    (utf8_number c.args.caller (omega (arith, c.ranges.caller.fits))) c.as_bytes.ensures.utf8
