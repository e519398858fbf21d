-- Lines that begin with a question mark, and what is passed on of them.
use Rattle.std.proofs.Common.{◌≡◌, ℕ, Bool, true, false, List, [], ◌∷◌, ◌++◌, ◌==◌, if◌then◌else◌, refl, sym, ◌∙◌, ap, subst, append_assoc, take, length, arith, suc, zero, eq-eqb}
use Rattle.std.specs.Io.KnownBytes.{Appends, Keeps}
use Rattle.std.proofs.Common.{Option, None, Some}
use Rattle.memchr.specs.Find.{Nowhere, Passes, is_byte}
use Rattle.esx_recording.specs.declared.place.Place.{Place}
use Rattle.esx_recording.specs.declared.place.Place.TheVariants.{Start, Question, Other}
use Rattle.esx_recording.specs.Questions.{IsOfOneLine, behind, kept_at, kept_in, line_begun, place_after, place_behind, question_lines, question_lines_from, within}
use Rattle.std.proofs.lemmas.Bool.{ne_eqb}

pub place_joined : (place : Place) (text more : List ℕ) → place_after place (text ++ more) ≡ place_after (place_after place text) more
place_joined place [] more = refl
place_joined place (b ∷ bs) more = place_joined (behind place b) bs more

-- the place behind one byte more
pub place_behind_more : (text : List ℕ) (b : ℕ) → place_after Start (text ++ b ∷ []) ≡ behind (place_after Start text) b
place_behind_more text b = place_joined Start text (b ∷ [])

pub lines_joined : (place : Place) (text more : List ℕ)
    → question_lines_from place (text ++ more) ≡ question_lines_from place text ++ question_lines_from (place_after place text) more
lines_joined place [] more = refl
lines_joined place (b ∷ bs) more =
    ap (λ v. kept_in (within place b) (b ∷ []) ++ v) (lines_joined (behind place b) bs more)
    ∙ sym (append_assoc (kept_in (within place b) (b ∷ [])) (question_lines_from (behind place b) bs) (question_lines_from (place_after place (b ∷ bs)) more))

-- a line that has begun stays the same line
stays_begun : (asks : Bool) (b : ℕ) → within (line_begun asks) b ≡ line_begun asks
stays_begun true b = refl
stays_begun false b = refl

stays : (place : Place) (b c : ℕ) → within (within place b) c ≡ within place b
stays Start b c = stays_begun (b == 63) c
stays Question b c = refl
stays Other b c = refl

goes_on : (place : Place) (b : ℕ) → (b ≡ 10 → ⊥) → behind place b ≡ within place b
goes_on place b ne = ap (λ t. place_behind t (within place b)) (ne_eqb b 10 ne)

kept_last : (place : Place) (b : ℕ) → kept_in place (b ∷ []) ++ [] ≡ kept_in place (b ∷ [])
kept_last Start b = refl
kept_last Question b = refl
kept_last Other b = refl

kept_more : (place : Place) (b : ℕ) (bs : List ℕ) → kept_in place (b ∷ []) ++ kept_in place bs ≡ kept_in place (b ∷ bs)
kept_more Start b bs = refl
kept_more Question b bs = refl
kept_more Other b bs = refl

-- of bytes of one line all is kept, or nothing
pub of_one_line : (place : Place) (bytes : List ℕ) → IsOfOneLine bytes → question_lines_from place bytes ≡ kept_at place bytes
of_one_line place [] one = refl
of_one_line place (b ∷ []) one = kept_last (within place b) b
of_one_line place (b ∷ c ∷ bs) (no_feed, one) =
    ap (λ v. kept_in (within place b) (b ∷ []) ++ v)
    (ap (λ p. question_lines_from p (c ∷ bs)) (goes_on place b no_feed)
    ∙ of_one_line (within place b) (c ∷ bs) one
    ∙ ap (λ p. kept_in p (c ∷ bs)) (stays place b c))
    ∙ kept_more (within place b) b (c ∷ bs)

-- a front of bytes of one line
one_line_front : (bytes : List ℕ) (n : ℕ) → IsOfOneLine bytes → IsOfOneLine (take n bytes)
one_line_front bytes zero one = tt
one_line_front [] (suc n) one = tt
one_line_front (b ∷ []) (suc zero) one = tt
one_line_front (b ∷ []) (suc (suc n)) one = tt
one_line_front (b ∷ c ∷ bs) (suc zero) one = tt
one_line_front (b ∷ c ∷ bs) (suc (suc n)) (no_feed, one) = (no_feed, one_line_front (c ∷ bs) (suc n) one)

-- what is kept of bytes of one line is all of a front of them, or nothing
kept_in_front : (place : Place) (b : ℕ) (bs : List ℕ) (n : ℕ) (asks : Bool) → kept_in place (b ∷ bs) ≡ (if asks then b ∷ bs else [])
    → kept_in place (take (suc n) (b ∷ bs)) ≡ take (suc n) (if asks then b ∷ bs else [])
kept_in_front Start b bs n true e = absurd (cc)
kept_in_front Start b bs n false e = refl
kept_in_front Question b bs n true e = refl
kept_in_front Question b bs n false e = absurd (cc)
kept_in_front Other b bs n true e = absurd (cc)
kept_in_front Other b bs n false e = refl

none_of : (n : ℕ) (asks : Bool) → ◌≡◌ {A = List ℕ} [] (take n (if asks then [] else []))
none_of zero true = refl
none_of zero false = refl
none_of (suc n) true = refl
none_of (suc n) false = refl

kept_front : (place : Place) (bytes : List ℕ) (n : ℕ) (asks : Bool) → kept_at place bytes ≡ (if asks then bytes else [])
    → kept_at place (take n bytes) ≡ take n (if asks then bytes else [])
kept_front place bytes zero asks e = refl
kept_front place [] (suc n) asks e = none_of (suc n) asks
kept_front place (b ∷ bs) (suc n) asks e = kept_in_front (within place b) b bs n asks e

-- a front of bytes of one line was written
front_kept : (text bytes : List ℕ) (n : ℕ) (asks : Bool) → IsOfOneLine bytes → kept_at (place_after Start text) bytes ≡ (if asks then bytes else [])
    → question_lines (text ++ take n bytes) ≡ question_lines text ++ take n (if asks then bytes else [])
front_kept text bytes n asks one e =
    lines_joined Start text (take n bytes)
    ∙ ap (λ v. question_lines text ++ v) (of_one_line (place_after Start text) (take n bytes) (one_line_front bytes n one) ∙ kept_front (place_after Start text) bytes n asks e)

-- no line feed was found before a place
pub one_line_to : (text : List ℕ) (at : ℕ) → Nowhere (Passes (is_byte 10) text) 0 at → IsOfOneLine (take (suc at) text)
one_line_to [] at none = tt
one_line_to (b ∷ []) zero none = tt
one_line_to (b ∷ []) (suc at) none = tt
one_line_to (b ∷ c ∷ bs) zero none = tt
one_line_to (b ∷ c ∷ bs) (suc at) none = (
  λ e. none 0 (omega arith) (omega arith) (eq-eqb b 10 e),
  one_line_to (c ∷ bs) at (λ k low high feed. none (suc k) (omega arith) (omega (arith, high)) feed),
)

-- none was found at all
pub one_line_all : (text : List ℕ) → Nowhere (Passes (is_byte 10) text) 0 (length text) → IsOfOneLine text
one_line_all [] none = tt
one_line_all (b ∷ []) none = tt
one_line_all (b ∷ c ∷ bs) none = (
  λ e. none 0 (omega arith) (omega arith) (eq-eqb b 10 e),
  one_line_all (c ∷ bs) (λ k low high feed. none (suc k) (omega arith) (omega (arith, high)) feed),
)

appends_more : (a b c : Option (List ℕ)) (x y : List ℕ) → Appends a b x → Appends b c y → Appends a c (x ++ y)
appends_more None b c x y p q = tt
appends_more (Some xs) None c x y p q = absurd p
appends_more (Some xs) (Some ys) None x y p q = absurd q
appends_more (Some xs) (Some ys) (Some zs) x y p q = q ∙ ap (λ v. v ++ y) p ∙ append_assoc xs x y

pub appends_kept : (a b c : Option (List ℕ)) (text : List ℕ) → Appends a b text → Keeps b c → Appends a c text
appends_kept None b c text p k = tt
appends_kept (Some xs) None c text p k = absurd p
appends_kept (Some xs) (Some ys) None text p k = absurd k
appends_kept (Some xs) (Some ys) (Some zs) text p k = k ∙ p

-- a front of bytes of one line was taken, and passed on or dropped
pub goes_through : (a b c : Option (List ℕ)) (text bytes : List ℕ) (n : ℕ) (asks : Bool) → IsOfOneLine bytes
    → kept_at (place_after Start text) bytes ≡ (if asks then bytes else [])
    → Appends a b (question_lines text) → Appends b c (take n (if asks then bytes else [])) → Appends a c (question_lines (text ++ take n bytes))
goes_through a b c text bytes n asks one e p q =
    subst (Appends a c) (sym (front_kept text bytes n asks one e)) (appends_more a b c (question_lines text) (take n (if asks then bytes else [])) p q)
