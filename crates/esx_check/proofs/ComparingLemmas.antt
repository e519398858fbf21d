-- What a comparing sink tells of a text that was written to it.
use Rattle.std.proofs.Common.{◌≡◌, ℕ, ◌+◌, ◌<◌, List, [], ◌∷◌, ◌++◌, Option, None, Some, Result, Ok, Err, Bool, true, false, is_some, IsTrue, ◌↔◌, ◌∙◌, sym, ap, refl, arith, append-nil, append_assoc, length, take, drop, get_or}
use Rattle.std.specs.Prelude.{OnOk}
use Rattle.std.proofs.lemmas.List.{take_more}
use Rattle.std.specs.Bool.{Decides}
use Rattle.std.specs.Cmp.Lexicographic.{pointwise}
use Rattle.std.proofs.lemmas.Slice.Eq.{starts_is}
use Rattle.std.proofs.Math.Seq.{take-append_seam, take-add}
use Rattle.esx_writing.specs.Writing.{Writes, sink_faults}
use Rattle.esx_check.specs.Comparing.{front_and_other}

-- a text that begins with another has it as its front
pub front_of_start : (text other : List ℕ) (eq : ℕ → ℕ → Bool) → ((a b : ℕ) → Decides (eq a b) (a ≡ b))
    → pointwise eq other (take (length other) text) ≡ true → take (length other) text ≡ other
front_of_start text other eq decides same =
    let split = (starts_is decides text other _ refl).0 same in
    ap (take (length other)) split ∙ take-append_seam other (drop (length other) text)

-- A text was written whole, or a front of it, and a write fails only after bytes that the wanted text does not
-- begin with. So what was written is the wanted text exactly where the text is.
pub same_where_written : {T E : Type 0} (r : Result T E) (written text wanted : List ℕ) (failures : ℕ) (answer : Bool)
    → Writes (Some []) (Some written) text r → failures ≡ 0 + sink_faults r
    → (IsTrue answer ↔ (written ≡ wanted)) → (0 < failures → (rest : List ℕ) → wanted ≡ written ++ rest → ⊥)
    → IsTrue answer ↔ (text ≡ wanted)
same_where_written (Ok v) written text wanted failures answer w f same other = (λ t. sym w ∙ same.0 t, λ e. same.1 (w ∙ e))
same_where_written (Err e) written text wanted failures answer w f same other = (
  λ t. absurd (other (omega arith) [] (sym (same.0 t) ∙ sym (append-nil written))),
  λ is. absurd (other (omega arith) w.1 (sym is ∙ w.2 ∙ ap (λ v. v ++ w.1) (sym w.3))),
)

-- and then it was written whole
pub whole_where_same : {T E : Type 0} (r : Result T E) (P : Type 0) (written text wanted : List ℕ) (failures : ℕ) (answer : Bool)
    → OnOk r P → failures ≡ 0 + sink_faults r
    → (IsTrue answer ↔ (written ≡ wanted)) → (0 < failures → (rest : List ℕ) → wanted ≡ written ++ rest → ⊥)
    → IsTrue answer → P
whole_where_same (Ok v) P written text wanted failures answer p f same other = λ _. p
whole_where_same (Err e) P written text wanted failures answer p f same other =
    λ t. absurd (other (omega arith) [] (sym (same.0 t) ∙ sym (append-nil written)))

-- bytes with which the text goes on
pub goes_on : (text : List ℕ) (count : ℕ) (other : Option ℕ) (was rest bytes : List ℕ) (same : ℕ)
    → is_some other ≡ false → was ≡ front_and_other text count other → rest ≡ drop count text → take same bytes ≡ take same rest
    → front_and_other text (count + same) other ≡ was ++ take same bytes
goes_on text count None was rest bytes same none w r e =
    rw (w, e, r) (take-add count same text)
goes_on text count (Some byte) was rest bytes same none w r e = absurd (cc)

-- and one more, with which it does not
pub goes_elsewhere : (text : List ℕ) (count : ℕ) (other : Option ℕ) (was rest bytes : List ℕ) (same : ℕ)
    → is_some other ≡ false → was ≡ front_and_other text count other → rest ≡ drop count text → take same bytes ≡ take same rest
    → same < length bytes → front_and_other text (count + same) (Some (get_or bytes same 0)) ≡ was ++ take (same + 1) bytes
goes_elsewhere text count None was rest bytes same none w r e within =
    ap (λ v. v ++ get_or bytes same 0 ∷ []) (goes_on text count None was rest bytes same none w r e) ∙ append_assoc was (take same bytes) (get_or bytes same 0 ∷ [])
    ∙ ap (λ v. was ++ v) (sym (take_more bytes same 0 within))
goes_elsewhere text count (Some other) was rest bytes same none w r e within = absurd (cc)
