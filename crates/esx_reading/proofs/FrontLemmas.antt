-- Numbers in front of texts, and what stands behind them.
use Rattle.std.proofs.Common.{◌≡◌, ◌+◌, take, drop, ◌++◌, ◌∷◌, [], ◌<◌, ◌≤◌, ◌^◌, ℕ, List, length, get_or, arith, refl, ap, sym, subst, ◌∙◌, decimal}
use Rattle.std.specs.Str.Parse.{AllDigits, digits_value}
use Rattle.std.proofs.lemmas.List.{get_or-take, take-append-drop, drop_more, length-take-le}
use Rattle.std.proofs.Math.Seq.{take-length}
use Rattle.std.proofs.lemmas.Str.Parse.{IsNumeralModel}
use Rattle.std.proofs.lemmas.Fmt.{decimal-digits_value}
use Rattle.std.proofs.lemmas.List.Splits.{slice_split_none, slice_split_at}
use Rattle.std.proofs.Math.Dec.{eqb}
use Rattle.esx_reading.specs.Fields.{fields}
use Rattle.esx_reading.proofs.FieldLemmas.{no_space_in_decimal}

own : IsNumeralModel (AllDigits 10) (digits_value 10)
own = record { to = λ ds d. d; from = λ ds d. d; same = λ ds d. refl }

-- so many bytes in front are digits that write the number, with no zero that leads
pub record Front (text : List ℕ) (n count : ℕ) : Type 0 where
  pub within : count ≤ length text
  pub some : 0 < count
  pub lead : get_or text 0 0 ≤ 48 → count ≡ 1
  pub small : n < 2 ^ 64
  pub digits : AllDigits 10 (take count text)
  pub value : n ≡ digits_value 10 (take count text)

front_is : (text : List ℕ) (n count : ℕ) → Front text n count → take count text ≡ decimal n
front_is text n count f =
    let front = take count text in
    let long : length front ≡ count = length-take-le count text f.within in
    let first : get_or front 0 0 ≡ get_or text 0 0 = get_or-take count text 0 0 f.some in
    let small : digits_value 10 front < 2 ^ 64 = subst (λ m. m < 2 ^ 64) f.value f.small in
    sym (decimal-digits_value own front f.digits (omega (arith, long, f.some)) (λ low. long ∙ f.lead (omega (arith, first, low))) small)
    ∙ ap decimal (sym f.value)

pub front_alone : (text bytes : List ℕ) (n count : ℕ) → bytes ≡ text → Front bytes n count → count ≡ length bytes → fields text ≡ decimal n ∷ []
front_alone text bytes n count e f end =
    let whole : bytes ≡ decimal n = sym (ap (λ k. take k bytes) end ∙ take-length bytes) ∙ front_is bytes n count f in
    ap fields (sym e ∙ whole) ∙ slice_split_none (λ b. eqb b 32) (decimal n) (no_space_in_decimal n f.small).each

pub front_parted : (text bytes later : List ℕ) (n count : ℕ) → bytes ≡ text → Front bytes n count → count < length bytes → get_or bytes count 0 ≡ 32
    → later ≡ drop (count + 1) text → fields text ≡ decimal n ∷ fields later
front_parted text bytes later n count e f lt space behind =
    let left : drop (count + 1) bytes ≡ later = ap (drop (count + 1)) e ∙ sym behind in
    let back : drop count bytes ≡ 32 ∷ later = drop_more bytes count 0 lt ∙ ap (λ b. b ∷ drop (count + 1) bytes) space ∙ ap (λ l. 32 ∷ l) left in
    let parts : bytes ≡ decimal n ++ 32 ∷ later =
    sym (take-append-drop count bytes) ∙ ap (λ l. l ++ drop count bytes) (front_is bytes n count f) ∙ ap (λ l. decimal n ++ l) back in
    ap fields (sym e ∙ parts) ∙ slice_split_at (λ b. eqb b 32) (decimal n) 32 later (no_space_in_decimal n f.small).each refl
