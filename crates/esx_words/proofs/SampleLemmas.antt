-- Words that end a line.
use Rattle.std.proofs.Common.{◌≡◌, ◌<◌, ◌^◌, ◌+◌, ℕ, List, [], ◌∷◌, ◌++◌, length, decimal, refl, ap, sym, ◌∙◌, arith, append-nil}
use Rattle.std.specs.Prelude.{map}
use Rattle.std.specs.List.{AllByRecursion}
use Rattle.esx_reading.proofs.FieldLemmas.{others_of}

abbrev pub AreWords : List ℕ → Type 0
AreWords ws = AllByRecursion (λ w. w < 2 ^ 64) ws

pub one_word_more : (ws : List ℕ) (w : ℕ) (rest all later : List (List ℕ)) → all ≡ map decimal ws ++ rest → rest ≡ decimal w ∷ later
    → all ≡ map decimal (ws ++ w ∷ []) ++ later
one_word_more [] w rest all later e f = e ∙ f
one_word_more (v ∷ ws) w rest all later e f = e ∙ ap (λ r. decimal v ∷ r) (one_word_more ws w rest (map decimal ws ++ rest) later refl f)

pub are_words_more : (ws : List ℕ) (w : ℕ) → AreWords ws → w < 2 ^ 64 → AreWords (ws ++ w ∷ [])
are_words_more [] w h s = (s, tt)
are_words_more (v ∷ ws) w h s = (h.0, are_words_more ws w h.1 s)

-- a line's words that begin with some words read so far
pub record Left (ws all : List ℕ) (rest : List (List ℕ)) : Type 0 where
  pub words : List ℕ
  pub are : AreWords words
  pub same : rest ≡ map decimal words
  pub count : length all ≡ length ws + length words

pub left_of : (ws all : List ℕ) (rest : List (List ℕ)) → AreWords all → map decimal ws ++ rest ≡ map decimal all → Left ws all rest
left_of [] all rest h e = record { words = all; are = h; same = e; count = omega arith }
left_of (w ∷ ws) [] rest h e = absurd (cc)
left_of (w ∷ ws) (v ∷ all) rest h e =
    let l = left_of ws all rest h.1 (others_of _ _ _ _ e) in
    record { words = l.words; are = l.are; same = l.same; count = omega (arith, l.count) }

no_first : (words : List ℕ) (rest : List (List ℕ)) → AreWords words → rest ≡ map decimal words → (rest ≡ [] → ⊥)
    → ((n : ℕ) (others : List (List ℕ)) → n < 2 ^ 64 → rest ≡ decimal n ∷ others → ⊥) → ⊥
no_first [] rest h e some none = some e
no_first (w ∷ words) rest h e some none = none w (map decimal words) h.0 e

-- where no word stands next, the line has no words to its end
pub no_word : (ws all : List ℕ) (whole rest : List (List ℕ)) → AreWords all → whole ≡ map decimal ws ++ rest → whole ≡ map decimal all → (rest ≡ [] → ⊥)
    → ((n : ℕ) (others : List (List ℕ)) → n < 2 ^ 64 → rest ≡ decimal n ∷ others → ⊥) → ⊥
no_word ws all whole rest h e f some none =
    let l = left_of ws all rest h (sym e ∙ f) in no_first l.words rest l.are l.same some none

some_left : (words : List ℕ) (rest : List (List ℕ)) → rest ≡ map decimal words → (rest ≡ [] → ⊥) → 0 < length words
some_left [] rest e some = absurd (some e)
some_left (w ∷ words) rest e some = omega arith

-- there are more words than have been read
pub more_words : (ws all : List ℕ) (whole rest : List (List ℕ)) → AreWords all → whole ≡ map decimal ws ++ rest → whole ≡ map decimal all → (rest ≡ [] → ⊥)
    → length ws < length all
more_words ws all whole rest h e f some =
    let l = left_of ws all rest h (sym e ∙ f) in let s = some_left l.words rest l.same some in omega (arith, l.count, s)

pub all_words : (ws : List ℕ) (whole rest : List (List ℕ)) → whole ≡ map decimal ws ++ rest → rest ≡ [] → whole ≡ map decimal ws
all_words ws whole rest e f = e ∙ ap (λ r. map decimal ws ++ r) f ∙ append-nil (map decimal ws)
