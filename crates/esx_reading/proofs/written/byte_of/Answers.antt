use Rattle.std.proofs.Common.{◌≡◌, ◌<◌, ◌+◌, ◌*◌, ◌/◌, ◌%◌, ◌∷◌, [], arith, subst}
use Rattle.hex.specs.Hex.{encode_lower}
use Rattle.esx_reading.proofs.HexField.{hex_of_pair, pair_of_hex}
use Rattle.esx_reading.proofs.HexTable.{two_digits}
use Rattle.esx_reading.proofs.written.byte_of.Goals as goal

pub returns-then-byte-ge-NONE-clause-none : goal.returns-then-byte-ge-NONE-clause-none
returns-then-byte-ge-NONE-clause-none c = λ byte small e.
    let h = c.high_of.result in
    let l = c.low_of.result in
    let front = c.high_of.ensures in
    let back = c.low_of.ensures in
    let digits = pair_of_hex c.args.high c.args.low byte e in
    let under : h + l < 256 = two_digits h l front.small back.small (λ s. (front.some s).0) (λ s. (back.some s).0)
    (λ full. front.none full (byte / 16) (omega (arith, small)) digits.0) (λ full. back.none full (byte % 16) (omega arith) digits.1) in
    omega (arith, under, c.if-byte-ge-NONE.true)

pub returns-clause-some : goal.returns-clause-some
returns-clause-some c =
    let h = c.high_of.result in
    let l = c.low_of.result in
    let front = c.high_of.ensures.some (omega (arith, c.if-byte-ge-NONE.false)) in
    let back = c.low_of.ensures.some (omega (arith, c.if-byte-ge-NONE.false)) in
    let same : h / 16 * 16 + l ≡ h + l = omega (arith, front.0) in
    subst (λ n. encode_lower (n ∷ []) ≡ c.args.high ∷ c.args.low ∷ []) same (hex_of_pair c.args.high c.args.low (h / 16) l back.0 front.1 back.1)
