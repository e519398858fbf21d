-- The lines of a text, one by one.
use Rattle.std.proofs.Common.{◌≡◌, ◌≢◌, ◌<◌, ◌≤◌, ◌-◌, ℕ, zero, suc, List, Bool, true, false, inl, inr, [], ◌∷◌, ◌++◌, length, get_or, take, arith, refl, sym, ap, ◌∙◌, cond}
use Rattle.std.specs.Prelude.{Option, None, Some, MatchOption}
use Rattle.std.specs.Borrow.{Bor}
use Rattle.std.specs.List.{All, AllByRecursion, slice_split, onto_first, position_or_len, before_first, after_first}
use Rattle.std.specs.Option as option
use Rattle.std.specs.Str.Lines.{lines, lines_of_parts, strip_carriage_return}
use Rattle.std.proofs.Math.Dec.{eqb}
use Rattle.std.proofs.lemmas.Grind.{common_steps}
use Rattle.std.proofs.Math.Seq.{take-length}
use Rattle.std.proofs.lemmas.Bool.{cases_lt}
use Rattle.std.proofs.lemmas.Bool.Decides.{Decides-eqb, not_from_Decides}
use Rattle.std.proofs.lemmas.List.{get_or-take}
use Rattle.std.proofs.lemmas.List.Elements.{All-weaker, recursion_from_All}
use Rattle.std.proofs.lemmas.List.Splits.{slice_split_at, slice_split_first, slice_split_none, slice_split-cons_yes, slice_split-cons_no, length-slice_split}
use Rattle.std.proofs.lemmas.List.Sums.{fails_before_first}
use Rattle.esx_reading.proofs.FieldLemmas.{no_match}
use Rattle.esx_session.specs.Reading.{HasNoFeed, Quotes, LeavesReply}
use Rattle.esx_session.proofs.QuoteLemmas.{tests_feed}

pub parts_cons : (x : List ℕ) (parts : List (List ℕ)) → 0 < length parts → lines_of_parts (x ∷ parts) ≡ strip_carriage_return x ∷ lines_of_parts parts
parts_cons x [] l = absurd (omega (arith, l))
parts_cons x (y ∷ more) l = refl

pub next_line : (text line later : List ℕ) → position_or_len (λ b. eqb b 10) text < length text
    → line ≡ before_first (λ b. eqb b 10) text → later ≡ after_first (λ b. eqb b 10) text → lines text ≡ strip_carriage_return line ∷ lines later
next_line text line later within f b = rw (f, b) (ap lines_of_parts (slice_split_first (λ b. eqb b 10) text 0 within)
    ∙ parts_cons (before_first (λ b. eqb b 10) text) (slice_split (λ b. eqb b 10) (after_first (λ b. eqb b 10) text))
    (omega (arith, length-slice_split (λ b. eqb b 10) (after_first (λ b. eqb b 10) text))))

no_feed_from : (text : List ℕ) → All (λ b. eqb b 10 ≡ false) text → HasNoFeed text
no_feed_from text h = recursion_from_All (λ b. b ≡ 10 → ⊥) text (λ k d lt. not_from_Decides _ (Decides-eqb _ 10) (h k d lt))

pub first_feed : (text : List ℕ) → HasNoFeed (before_first (λ b. eqb b 10) text)
first_feed text = no_feed_from (before_first (λ b. eqb b 10) text) (λ k d lt.
    let below : k < position_or_len (λ b. eqb b 10) text = grind (arith, common_steps) in
    ap (λ b. eqb b 10) (get_or-take (position_or_len (λ b. eqb b 10) text) text k d below) ∙ fails_before_first (λ b. eqb b 10) text k d below)

-- the carriage return at the end of a line
split_last : (b : ℕ) (l : List ℕ) → b ∷ l ≡ take (length l) (b ∷ l) ++ get_or (b ∷ l) (length l) 0 ∷ []
split_last b [] = refl
split_last b (c ∷ l) = ap (λ t. b ∷ t) (split_last c l)

pub strip_returned : (x : List ℕ) → strip_carriage_return (x ++ 13 ∷ []) ≡ x
strip_returned x =
    let last : get_or (x ++ 13 ∷ []) (length (x ++ 13 ∷ []) - 1) 0 ≡ 13 = grind (arith, common_steps) in
    let front : take (length (x ++ 13 ∷ []) - 1) (x ++ 13 ∷ []) ≡ x = grind (arith, common_steps) in
    ap (λ b. cond (eqb b 13) (take (length (x ++ 13 ∷ []) - 1) (x ++ 13 ∷ [])) (x ++ 13 ∷ [])) last ∙ front

pub strip_other : (l : List ℕ) → ((front : List ℕ) → l ≢ front ++ 13 ∷ []) → strip_carriage_return l ≡ l
strip_other [] none = refl
strip_other (b ∷ l) none =
    let len : length (b ∷ l) - 1 ≡ length l = omega arith in
    rw len (ap (λ t. cond t (take (length l) (b ∷ l)) (b ∷ l)) (no_match (get_or (b ∷ l) (length l) 0) 13
    (λ e. none (take (length l) (b ∷ l)) (split_last b l ∙ ap (λ v. take (length l) (b ∷ l) ++ v ∷ []) e))))

-- as a suffix is taken off, where it stands
pub stripped : (line : Bor (List ℕ)) (r : Option (Bor (List ℕ))) → MatchOption r ((front : List ℕ) → line.now ≢ front ++ 13 ∷ []) (λ x. line.now ≡ x.now ++ 13 ∷ [])
    → strip_carriage_return line.now ≡ (option.unwrap_or r line).now
stripped line None none = strip_other line.now none
stripped line (Some x) is = ap strip_carriage_return is ∙ strip_returned x.now

front_feed : (x y : List ℕ) → HasNoFeed (x ++ y) → HasNoFeed x
front_feed [] y h = tt
front_feed (b ∷ x) y h = (h.0, front_feed x y h.1)

pub stripped_feed : (line : Bor (List ℕ)) (r : Option (Bor (List ℕ))) → MatchOption r ((front : List ℕ) → line.now ≢ front ++ 13 ∷ []) (λ x. line.now ≡ x.now ++ 13 ∷ [])
    → HasNoFeed line.now → HasNoFeed (option.unwrap_or r line).now
stripped_feed line None none h = h
stripped_feed line (Some x) is h = front_feed x.now (13 ∷ []) (rw (sym is) h)

-- a text that is cut at its first line feed, or has none
no_feed : (text : List ℕ) → All (λ b. b ≡ 10 → ⊥) text → All (λ b. eqb b 10 ≡ false) text
no_feed text h = All-weaker (λ b. b ≡ 10 → ⊥) (λ b. eqb b 10 ≡ false) (λ b ne. no_match b 10 ne) text h

pub cut_line : (text line later : List ℕ) → All (λ b. b ≡ 10 → ⊥) line → text ≡ line ++ 10 ∷ later → lines text ≡ strip_carriage_return line ∷ lines later
cut_line text line later none e = ap lines e ∙ ap lines_of_parts (slice_split_at (λ b. eqb b 10) line 10 later (no_feed line none) refl)
    ∙ parts_cons line (slice_split (λ b. eqb b 10) later) (omega (arith, length-slice_split (λ b. eqb b 10) later))

pub uncut_line : (text : List ℕ) → All (λ b. b ≡ 10 → ⊥) text → eqb (length text) 0 ≡ false → lines text ≡ text ∷ []
uncut_line text none some = ap lines_of_parts (slice_split_none (λ b. eqb b 10) text (no_feed text none)) ∙ ap (λ t. cond t [] (text ∷ [])) some

pub feed_by_recursion : (text : List ℕ) → All (λ b. b ≡ 10 → ⊥) text → HasNoFeed text
feed_by_recursion text h = recursion_from_All (λ b. b ≡ 10 → ⊥) text h

-- a text whose first byte is not that of a reply's line
feed_in_front : (k : ℕ) (l : List ℕ) → HasNoFeed l → HasNoFeed (take k l)
feed_in_front zero l h = tt
feed_in_front (suc k) [] h = tt
feed_in_front (suc k) (b ∷ l) h = (h.0, feed_in_front k l h.1)

first_in_front : (k n : ℕ) (l : List ℕ) → get_or (take k l) 0 0 ≡ suc n → get_or l 0 0 ≡ suc n
first_in_front zero n l e = absurd (cc)
first_in_front (suc k) n [] e = e
first_in_front (suc k) n (b ∷ l) e = e

front_or_all : (t : Bool) (l : List ℕ) → (k : ℕ) × (cond t (take (length l - 1) l) l ≡ take k l)
front_or_all true l = (length l - 1, refl)
front_or_all false l = (length l, sym (take-length l))

no_quote : (k : ℕ) (line rest text : List ℕ) → line ≡ take k rest → (get_or rest 0 0 ≡ 61 → ⊥) → Quotes line text → ⊥
no_quote k line rest text e other is = other (first_in_front k 60 rest (ap (λ l. get_or l 0 0) (sym e) ∙ ap (λ l. get_or l 0 0) is.quoted))

leaves_cut : (rest : List ℕ) → position_or_len (λ b. eqb b 10) rest < length rest → (get_or rest 0 0 ≡ 61 → ⊥) → LeavesReply (lines rest)
leaves_cut rest within other =
    let line = before_first (λ b. eqb b 10) rest in
    let front = front_or_all (eqb (get_or line (length line - 1) 0) 13) line in
    let feed : HasNoFeed (strip_carriage_return line) = rw front.1 (feed_in_front front.0 line (first_feed rest)) in
    rw (next_line rest line (after_first (λ b. eqb b 10) rest) within refl refl)
    (feed, λ text is. no_quote front.0 (strip_carriage_return line) line text front.1 (λ e. other (first_in_front (position_or_len (λ b. eqb b 10) rest) 60 rest e)) is)

leaves_last : (rest : List ℕ) → length rest ≤ position_or_len (λ b. eqb b 10) rest → (get_or rest 0 0 ≡ 61 → ⊥) → LeavesReply (lines rest)
leaves_last [] past other = tt
leaves_last (b ∷ l) past other =
    let none : All (λ x. x ≡ 10 → ⊥) (b ∷ l) = λ k d lt. not_from_Decides _ (Decides-eqb _ 10) (fails_before_first (λ x. eqb x 10) (b ∷ l) k d (omega (arith, lt, past))) in
    rw (uncut_line (b ∷ l) none (no_match (length (b ∷ l)) 0 (λ e. omega (arith, e)))) (feed_by_recursion (b ∷ l) none, λ text is. no_quote (length (b ∷ l)) (b ∷ l) (b ∷ l) text (sym (take-length (b ∷ l))) other is)

pub leaves_other : (rest : List ℕ) → (get_or rest 0 0 ≡ 61 → ⊥) → LeavesReply (lines rest)
leaves_other rest other = elim (cases_lt (position_or_len (λ b. eqb b 10) rest) (length rest)) [
  | inl within ↦ leaves_cut rest within other
  | inr past ↦ leaves_last rest past other
]

-- no line of a text has a feed
front_feeds : (x : ℕ) (parts : List (List ℕ)) → (x ≡ 10 → ⊥) → AllByRecursion HasNoFeed parts → AllByRecursion HasNoFeed (onto_first x parts)
front_feeds x [] other h = ((other, tt), tt)
front_feeds x (part ∷ parts) other h = ((other, h.0), h.1)

parts_feed : (text : List ℕ) → AllByRecursion HasNoFeed (slice_split (λ b. eqb b 10) text)
parts_feed [] = (tt, tt)
parts_feed (b ∷ text) = elim (tests_feed b) [
  | inl is ↦ rw (slice_split-cons_yes (λ x. eqb x 10) b text is.0) (tt, parts_feed text)
  | inr is ↦ rw (slice_split-cons_no (λ x. eqb x 10) b text is.0) (front_feeds b (slice_split (λ x. eqb x 10) text) is.1 (parts_feed text))
]

stripped_part : (line : List ℕ) → HasNoFeed line → HasNoFeed (strip_carriage_return line)
stripped_part line h = let front = front_or_all (eqb (get_or line (length line - 1) 0) 13) line in rw front.1 (feed_in_front front.0 line h)

last_feed : (t : Bool) (line : List ℕ) → HasNoFeed line → AllByRecursion HasNoFeed (cond t [] (line ∷ []))
last_feed true line h = tt
last_feed false line h = (h, tt)

lines_of_parts_feed : (parts : List (List ℕ)) → AllByRecursion HasNoFeed parts → AllByRecursion HasNoFeed (lines_of_parts parts)
lines_of_parts_feed [] h = tt
lines_of_parts_feed (x ∷ []) h = last_feed (eqb (length x) 0) x h.0
lines_of_parts_feed (x ∷ y ∷ parts) h = (stripped_part x h.0, lines_of_parts_feed (y ∷ parts) h.1)

pub lines_feed : (text : List ℕ) → AllByRecursion HasNoFeed (lines text)
lines_feed text = lines_of_parts_feed (slice_split (λ b. eqb b 10) text) (parts_feed text)
