-- What can stand behind the first word of a command: a list of kinds, and values of these kinds.
use Rattle.std.specs.Prelude.{ℕ, List, [], ◌∷◌, ◌≡◌, ◌<◌, ◌≤◌, ◌^◌, ◌%◌, ◌⊎◌, length, decimal, map, Option, None, Some, IfSome}
use Rattle.std.specs.List.{AllByRecursion}
use Rattle.hex.specs.Hex.{encode_lower}
use Rattle.esx_types.specs.declared.config.TheConstants.{VM_NUMBERS}
use Rattle.esx_words.specs.declared.operands.TheConstants.{MAX_WORDS}
use Rattle.esx_events.specs.Names.{IsName}
use Rattle.esx_reading.specs.declared.written.TheConstants.{MAX_DIGITS}
use Rattle.esx_reading.specs.Written.{IsWritten}

-- kinds of one word
pub data Kind : Type 0 where
  Machine : Kind
  Number : Kind
  Word : Kind
  Hex : Kind
  Name : Kind

abbrev pub Value : Kind → Type 0
Value Kind.Machine = ℕ
Value Kind.Number = ℕ
Value Kind.Word = ℕ
Value Kind.Hex = List ℕ
Value Kind.Name = List ℕ

-- how a value is spelled
abbrev pub value_word : (kind : Kind) → Value kind → List ℕ
value_word Kind.Machine n = decimal n
value_word Kind.Number n = decimal n
value_word Kind.Word n = decimal n
value_word Kind.Hex bytes = encode_lower bytes
value_word Kind.Name name = name

-- which values a line can have
abbrev pub IsValue : (kind : Kind) → Value kind → Type 0
IsValue Kind.Machine n = n < VM_NUMBERS
IsValue Kind.Number n = n < 2 ^ 32
IsValue Kind.Word n = n < 2 ^ 64
IsValue Kind.Hex bytes = IsWritten bytes
IsValue Kind.Name name = IsName name

-- kinds in their order; `PerhapsNumber` is one number that ends the line, or nothing, and `Words` are up to `MAX_WORDS`
-- numbers that end it
pub data Kinds : Type 0 where
  End : Kinds
  Then : Kind → Kinds → Kinds
  PerhapsNumber : Kinds
  Words : Kinds

abbrev pub Values : Kinds → Type 0
Values Kinds.End = Unit {0}
Values (Kinds.Then kind kinds) = Value kind × Values kinds
Values Kinds.PerhapsNumber = Option ℕ
Values Kinds.Words = List ℕ

-- the words of a number, if there is one
abbrev pub perhaps_number : Option ℕ → List (List ℕ)
perhaps_number None = []
perhaps_number (Some n) = decimal n ∷ []

abbrev pub value_words : (kinds : Kinds) → Values kinds → List (List ℕ)
value_words Kinds.End tt = []
value_words (Kinds.Then kind kinds) (x, xs) = value_word kind x ∷ value_words kinds xs
value_words Kinds.PerhapsNumber n = perhaps_number n
value_words Kinds.Words ws = map decimal ws

-- a number of 32 bits, if there is one
abbrev pub IsPerhapsNumber : Option ℕ → Type 0
IsPerhapsNumber number = IfSome number (λ n. n < 2 ^ 32)

abbrev pub AreValues : (kinds : Kinds) → Values kinds → Type 0
AreValues Kinds.End tt = Unit {0}
AreValues (Kinds.Then kind kinds) (x, xs) = IsValue kind x × AreValues kinds xs
AreValues Kinds.PerhapsNumber n = IsPerhapsNumber n
AreValues Kinds.Words ws = (length ws ≤ MAX_WORDS) × AllByRecursion (λ w. w < 2 ^ 64) ws

-- the first word is that of a value of this kind, and what stands behind it is so
abbrev pub ValueThen : Kind → (List (List ℕ) → Type 0) → List (List ℕ) → Type 0
ValueThen kind P words = (x : Value kind) × (others : List (List ℕ)) × IsValue kind x × (words ≡ value_word kind x ∷ others) × P others

-- no words, or a first one that is a number of 64 bits
abbrev pub MayBeNumbers : List (List ℕ) → Type 0
MayBeNumbers words = (words ≡ []) ⊎ ValueThen Kind.Word (λ others. Unit {0}) words

-- values of these kinds take memory, and the words are those of the values before the one that takes it: for bytes
-- one last word as long as some bytes have digits, for a name that name, and for a sample's words a first one or none
abbrev pub TakeMemory : Kinds → List (List ℕ) → Type 0
TakeMemory Kinds.End words = ⊥
TakeMemory (Kinds.Then Kind.Machine kinds) words = ValueThen Kind.Machine (λ others. TakeMemory kinds others) words
TakeMemory (Kinds.Then Kind.Number kinds) words = ValueThen Kind.Number (λ others. TakeMemory kinds others) words
TakeMemory (Kinds.Then Kind.Word kinds) words = ValueThen Kind.Word (λ others. TakeMemory kinds others) words
TakeMemory (Kinds.Then Kind.Hex kinds) words =
    (digits : List ℕ) × (words ≡ digits ∷ []) × (0 < length digits) × (length digits ≤ MAX_DIGITS) × (length digits % 2 ≡ 0)
TakeMemory (Kinds.Then Kind.Name kinds) words = (name : List ℕ) × IsName name × (words ≡ name ∷ [])
TakeMemory Kinds.PerhapsNumber words = ⊥
TakeMemory Kinds.Words words = MayBeNumbers words
