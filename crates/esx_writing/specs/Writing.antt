-- What a writer does to a sink, and to the bytes that it holds back.
use Rattle.std.specs.Prelude.{ℕ, List, [], ◌++◌, ◌≡◌, ◌-◌, ◌/◌, ◌%◌, length, replicate, Option, Result, Ok, Err, codes, decimal}
use Rattle.std.specs.Io.KnownBytes.{Appends}
use Rattle.hex.specs.Hex.{encode_lower}
use Rattle.esx_writing.specs.declared.pieces.Piece.{Piece}
use Rattle.esx_writing.specs.declared.pieces.Piece.TheVariants.{Text, Number, Hex, Narrow, Column, State}

-- a front of the text was written
abbrev pub WritesFront : Option (List ℕ) → Option (List ℕ) → List ℕ → Type 0
WritesFront old new text = (front rest : List ℕ) × (text ≡ front ++ rest) × Appends old new front

-- A text was written whole, or at an error a front of it.
abbrev pub Writes : {T E : Type 0} → Option (List ℕ) → Option (List ℕ) → List ℕ → Result T E → Type 0
Writes old new text (Ok done) = Appends old new text
Writes old new text (Err e) = WritesFront old new text

-- What was held and then a text were written, but for what is held now.
abbrev pub Passes : Option (List ℕ) → List ℕ → Option (List ℕ) → List ℕ → List ℕ → Type 0
Passes old before new held text = (front : List ℕ) × (before ++ text ≡ front ++ held) × Appends old new front

-- The same, or at an error a front was written, and nothing is held.
abbrev pub Puts : {T E : Type 0} → Option (List ℕ) → List ℕ → Option (List ℕ) → List ℕ → List ℕ → Result T E → Type 0
Puts old before new held text (Ok done) = Passes old before new held text
Puts old before new held text (Err e) = WritesFront old new (before ++ text) × (held ≡ [])

-- how many writes failed, by what a writer answered
abbrev pub sink_faults : {T E : Type 0} → Result T E → ℕ
sink_faults (Ok done) = 0
sink_faults (Err e) = 1

-- a text that ends, or begins, in a column of some width
abbrev pub right_in : ℕ → List ℕ → List ℕ
right_in width text = replicate (width - length text) 32 ++ text

abbrev pub left_in : ℕ → List ℕ → List ℕ
left_in width text = text ++ replicate (width - length text) 32

-- so many thousandths, with three digits behind the point
abbrev pub thousandths_text : ℕ → List ℕ
thousandths_text n = decimal (n / 1000) ++ (codes "." ++ (decimal (n / 100 % 10) ++ (decimal (n / 10 % 10) ++ decimal (n % 10))))

-- the text of a piece
abbrev pub piece_text : Piece → List ℕ
piece_text (Text text) = text.now
piece_text (Number n) = decimal n
piece_text (Hex bytes) = encode_lower bytes.now
piece_text (Narrow n) = right_in 3 (decimal n)
piece_text (Column n) = right_in 8 (decimal n)
piece_text (State text) = left_in 8 text.now
