-- The lines of a text, one behind the other.
use Rattle.std.proofs.Common.{◌≡◌, ℕ, Bool, true, false, List, [], ◌∷◌, ◌++◌, ◌==◌, if◌then◌else◌, refl, sym, ◌∙◌, ap, append_assoc, arith, codes, decimal}
use Rattle.std.specs.List.{AllByRecursion, filter, flat_map}
use Rattle.std.proofs.lemmas.List.Elements.{recursion_from_All}
use Rattle.std.proofs.lemmas.Bool.{and_parts}
use Rattle.esx_text.specs.Answers.{unknown_text}
use Rattle.esx_text.specs.Lines.{HasNoFeed}
use Rattle.esx_recording.specs.declared.place.Place.{Place}
use Rattle.esx_recording.specs.declared.place.Place.TheVariants.{Start}
use Rattle.esx_recording.specs.Laws.{KeepsQuestions, asks}
use Rattle.esx_recording.specs.Questions.{IsOfOneLine, kept_at, kept_in, line_begun, place_after, question_lines, question_lines_from}
use Rattle.esx_recording.proofs.ByteLemmas.{decimal_lacks, is_other, lacks}
use Rattle.esx_recording.proofs.QuestionLemmas.{lines_joined, of_one_line, place_behind_more}

-- no line feed stands in the bytes
abbrev Lacks : List ℕ → Type 0
Lacks = AllByRecursion (λ b. b ≡ 10 → ⊥)

of_one : (bytes : List ℕ) → Lacks bytes → IsOfOneLine bytes
of_one [] lacks = tt
of_one (b ∷ []) lacks = tt
of_one (b ∷ c ∷ bs) (no_feed, others) = (no_feed, of_one (c ∷ bs) others)

-- a line and its feed
of_one_ended : (bytes : List ℕ) → Lacks bytes → IsOfOneLine (bytes ++ 10 ∷ [])
of_one_ended [] lacks = tt
of_one_ended (b ∷ []) (no_feed, others) = (no_feed, tt)
of_one_ended (b ∷ c ∷ bs) (no_feed, others) = (no_feed, of_one_ended (c ∷ bs) others)

kept_begun : (begins : Bool) (bytes : List ℕ) → kept_in (line_begun begins) bytes ≡ (if begins then bytes else [])
kept_begun true bytes = refl
kept_begun false bytes = refl

kept_rest : (bytes : List ℕ) → kept_at Start bytes ≡ (if asks bytes then bytes else [])
kept_rest [] = refl
kept_rest (b ∷ bs) = kept_begun (b == 63) (b ∷ bs)

kept_ended : (bytes : List ℕ) → kept_at Start (bytes ++ 10 ∷ []) ≡ (if asks bytes then bytes ++ 10 ∷ [] else [])
kept_ended [] = refl
kept_ended (b ∷ bs) = kept_begun (b == 63) (b ∷ bs ++ 10 ∷ [])

-- a first line, and a text behind it
first_kept : (line more : List ℕ) → Lacks line → question_lines ((line ++ 10 ∷ []) ++ more) ≡ (if asks line then line ++ 10 ∷ [] else []) ++ question_lines more
first_kept line more lacks =
    lines_joined Start (line ++ 10 ∷ []) more
    ∙ ap (λ (v : List ℕ). v ++ question_lines_from (place_after Start (line ++ 10 ∷ [])) more) (of_one_line Start (line ++ 10 ∷ []) (of_one_ended line lacks) ∙ kept_ended line)
    ∙ ap (λ (p : Place). (if asks line then line ++ 10 ∷ [] else []) ++ question_lines_from p more) (place_behind_more line 10)

filtered : (begins : Bool) (line rest : List ℕ) (others : List (List ℕ))
    → (if begins then line ++ 10 ∷ [] else []) ++ (flat_map (λ line. line ++ 10 ∷ []) others ++ rest) ≡ flat_map (λ line. line ++ 10 ∷ []) (if begins then line ∷ others else others) ++ rest
filtered true line rest others = sym (append_assoc (line ++ 10 ∷ []) (flat_map (λ line. line ++ 10 ∷ []) others) rest)
filtered false line rest others = refl

lines_kept : (ended : List (List ℕ)) (rest : List ℕ) → AllByRecursion HasNoFeed ended → HasNoFeed rest
    → question_lines (flat_map (λ line. line ++ 10 ∷ []) ended ++ rest) ≡ flat_map (λ line. line ++ 10 ∷ []) (filter asks ended) ++ (if asks rest then rest else [])
lines_kept [] rest each last = of_one_line Start rest (of_one rest (recursion_from_All (λ b. b ≡ 10 → ⊥) rest last)) ∙ kept_rest rest
lines_kept (line ∷ ended) rest (here, each) last =
    ap question_lines (append_assoc (line ++ 10 ∷ []) (flat_map (λ line. line ++ 10 ∷ []) ended) rest)
    ∙ first_kept line (flat_map (λ line. line ++ 10 ∷ []) ended ++ rest) (recursion_from_All (λ b. b ≡ 10 → ⊥) line here)
    ∙ ap (λ (v : List ℕ). (if asks line then line ++ 10 ∷ [] else []) ++ v) (lines_kept ended rest each last)
    ∙ filtered (asks line) line (if asks rest then rest else []) (filter asks ended)

pub keeps_questions : (text : List ℕ) → KeepsQuestions text
keeps_questions text ended rest e = rw e.whole (lines_kept ended rest (recursion_from_All HasNoFeed ended e.each) e.last)

feed_is_feed : is_other 10 10 ≡ true → ⊥
feed_is_feed e = cc

lacks_feeds : (bytes : List ℕ) → lacks 10 bytes ≡ true → Lacks bytes
lacks_feeds [] h = tt
lacks_feeds (b ∷ bs) h =
    let p = and_parts (is_other 10 b) (lacks 10 bs) h in
    (λ e. feed_is_feed (rw e at p.0), lacks_feeds bs p.1)

pub keeps_unknown : (number : ℕ) → question_lines (unknown_text number) ≡ unknown_text number
keeps_unknown number =
    let text = codes "? line " ++ decimal number in
    of_one_line Start (unknown_text number) (of_one_ended text (lacks_feeds text (decimal_lacks 10 (λ d small e. omega (arith, e)) number)))
