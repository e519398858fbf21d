-- Numbers that are cut off, and how long they are as texts.
use Rattle.std.proofs.Common.{◌≡◌, ◌+◌, ◌*◌, ◌/◌, ◌%◌, ◌<◌, ◌≤◌, ◌^◌, ℕ, length, arith, decimal, ap, length-append}
use Rattle.std.proofs.lemmas.Nat.{le-div, div_below, div-add-mod', mod_below}
use Rattle.std.proofs.lemmas.Fmt.{decimal_digit, length-decimal-le}
use Rattle.esx_writing.specs.Writing.{thousandths_text}
use Rattle.esx_report.specs.Fields.{percent_text}

-- the whole part of a fraction is that of its thousandths
pub whole_of_thousandths : (over under : ℕ) → 0 < under → over / under ≡ 1000 * over / under / 1000
whole_of_thousandths over under some =
    let q = over / under in
    let parts : q * under + over % under ≡ over = div-add-mod' over under in
    let rest : over % under < under = mod_below over under some in
    let low : q * 1000 ≤ 1000 * over / under = le-div (q * 1000) (1000 * over) under some (omega (arith, parts)) in
    let high : 1000 * over / under < q * 1000 + 1000 = div_below (1000 * over) under (q * 1000 + 1000) some (omega (arith, parts, rest)) in
    omega (arith, low, high)

pub few_digits : (n : ℕ) → n < 2 ^ 64 → length (decimal n) ≤ 20
few_digits n small = length-decimal-le 20 n (omega arith) (omega arith) small

digit_length : (n : ℕ) → n < 10 → length (decimal n) ≡ 1
digit_length n small = ap length (decimal_digit n small)

pub thousandths_length : (t : ℕ) → length (thousandths_text t) ≡ length (decimal (t / 1000)) + 4
thousandths_length t =
    let a = digit_length (t / 100 % 10) (mod_below (t / 100) 10 (omega arith)) in
    let b = digit_length (t / 10 % 10) (mod_below (t / 10) 10 (omega arith)) in
    let c = digit_length (t % 10) (mod_below t 10 (omega arith)) in
    simp (length-append, a, b, c) (omega arith)

pub percent_length : (t : ℕ) → length (percent_text t) ≡ length (decimal (t / 10)) + 3
percent_length t =
    let a = digit_length (t % 10) (mod_below t 10 (omega arith)) in
    simp (length-append, a) (omega arith)
