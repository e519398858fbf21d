-- Lines within texts.
use Rattle.std.proofs.Common.{◌≡◌, ◌<◌, ◌≤◌, ◌+◌, ◌^◌, ℕ, List, [], ◌∷◌, ◌++◌, length, drop, arith, ap, ◌∙◌, decimal, length-append}
use Rattle.std.specs.List.{flat_map}
use Rattle.std.proofs.Math.Seq.{drop-append-add}
use Rattle.std.proofs.lemmas.Fmt.{length-decimal-le}
use Rattle.esx_events.specs.declared.call.Line.{Line}
use Rattle.esx_words.specs.Commands.{spelling}
use Rattle.esx_replies.specs.Replies.{reply_text}
use Rattle.esx_session.specs.Sessions.{quoted}
use Rattle.esx_session.specs.Printing.{line_text}
use Rattle.esx_writing.specs.declared.buffer.TheConstants.{DIGITS}

pub short_decimal : (n : ℕ) → n < 2 ^ 64 → length (decimal n) ≤ DIGITS
short_decimal n small = length-decimal-le 20 n (omega arith) (omega (arith, small)) small

-- a line whose call is spelled, and whose reply stands behind one sign
pub spelled_line : (held spelled : List ℕ) (line : Line) → spelled ≡ spelling line.call
    → held ≡ (decimal line.caller ++ 32 ∷ (spelled ++ 10 ∷ [])) ++ quoted (reply_text line.reply) → held ≡ line_text line
spelled_line held spelled line is e = e ∙ ap (λ v. (decimal line.caller ++ 32 ∷ (v ++ 10 ∷ [])) ++ quoted (reply_text line.reply)) is

pub reply_stands : (held head r : List ℕ) (count : ℕ) → count ≡ length head → held ≡ head ++ quoted r → quoted r ≡ 61 ∷ 32 ∷ r → drop (count + 2) held ≡ r
reply_stands held head r count many e one =
    rw (many, e, one) (drop-append-add head (61 ∷ 32 ∷ r) 2)

pub reply_within : (held head r : List ℕ) (count : ℕ) → count ≡ length head → held ≡ head ++ quoted r → quoted r ≡ 61 ∷ 32 ∷ r → count + 2 ≤ length held
reply_within held head r count many e one =
    rw (many, e, one) (omega (arith, length-append head (61 ∷ 32 ∷ r)))

-- what stands in what was held stands behind the text to which that was added
pub behind_within : (old held new : List ℕ) (start at : ℕ) → start ≡ length old → new ≡ old ++ held → at ≤ length held → start + at ≤ length new
behind_within old held new start at is e within = rw (is, e) (omega (arith, within, length-append old held))

pub behind_stands : (old held new r : List ℕ) (start at : ℕ) → start ≡ length old → new ≡ old ++ held → drop at held ≡ r → drop (start + at) new ≡ r
behind_stands old held new r start at is e there = rw (is, e) (drop-append-add old held at ∙ there)

-- each line has a byte at least
line_has_some : (line : Line) → 1 ≤ length (line_text line)
line_has_some line =
    let front = decimal line.caller in
    let back = 32 ∷ (spelling line.call ++ 10 ∷ []) in
    omega (arith, length-append (front ++ back) (quoted (reply_text line.reply)), length-append front back)

pub count_le : (log : List Line) → length log ≤ length (flat_map line_text log)
count_le [] = omega arith
count_le (line ∷ log) = omega (arith, count_le log, line_has_some line, length-append (line_text line) (flat_map line_text log))

-- over an empty buffer a number is short
pub few_digits : (new held : List ℕ) (n caller : ℕ) → new ≡ held ++ decimal n → held ≡ [] → n ≡ caller → caller < 2 ^ 16 → length new ≤ DIGITS
few_digits new held n caller e none is small = rw (e, none, is) (short_decimal caller (omega (arith, small)))

-- one byte and a text more
pub fits_byte : (new held : List ℕ) (b : ℕ) → new ≡ held ++ b ∷ [] → length held ≤ DIGITS → length new ≤ 21
fits_byte new held b e few = rw e (omega (arith, few, length-append held (b ∷ [])))
