-- Lines answered one after another.
use Rattle.std.proofs.Common.{◌≡◌, ℕ, Bool, true, false, List, [], ◌∷◌, ◌++◌, ◌<◌, ◌≤◌, ◌+◌, refl, sym, ◌∙◌, ap, append_assoc, append-nil, length, arith, Option, Some, None, map, length-append, take}
use Rattle.std.specs.Io.KnownBytes.{Appends, Consumes, IsAtEnd}
use Rattle.std.proofs.lemmas.List.Elements.{All-nil}
use Rattle.std.proofs.lemmas.List.{length-map, map-append}
use Rattle.esx_model.specs.Console.{Session}
use Rattle.esx_text.specs.Lines.{HasNoFeed, line_of, last_line, lines, Keeps, Held, Holds, IsHeld}
use Rattle.esx_text.specs.declared.echo.Manner.{Manner}
use Rattle.esx_text.specs.Echo.{echo_in}
use Rattle.esx_text.specs.Answers.{IsAnswered, AreAnswered, Progress, AnswersIn}
use Rattle.esx_writing.proofs.WritingLemmas.{appends_more, appends_nothing}
use Rattle.esx_text.proofs.LineLemmas.{ends_more, ends_on, ended_keeps, last_keeps}

pub answered_more : (manner : Manner) (n k caller : ℕ) (before : Session) (xs : List (List ℕ)) (text : List ℕ) (middle : Session) (line last : List ℕ) (after : Session)
    → k ≡ n + length xs → AreAnswered manner n caller before xs text middle → IsAnswered k caller middle line last after
    → AreAnswered manner n caller before (xs ++ line ∷ []) (text ++ (echo_in manner line ++ last)) after
answered_more manner n k caller before [] text middle line last after e (t, m) a =
    let same : k ≡ n = omega arith in
    (last, [], after, rw same at (rw m at a), (refl, refl), ap (λ v. v ++ (echo_in manner line ++ last)) t ∙ sym (append-nil (echo_in manner line ++ last)))
answered_more manner n k caller before (x ∷ xs) text middle line last after e (first, rest, log, i, others, t) a = (
  first,
  rest ++ (echo_in manner line ++ last),
  log,
  i,
  answered_more manner (n + 1) k caller log xs rest middle line last after (omega (arith, e)) others a,
  ap (λ v. v ++ (echo_in manner line ++ last)) t ∙ append_assoc (echo_in manner x ++ first) rest (echo_in manner line ++ last),
)

pub progress_on : {manner : Manner} (caller : ℕ) (before : Session) (known : Option (List ℕ)) (input : List ℕ) (count : ℕ) (more : List ℕ) (line line' : Held) (now : Session) (new : Option (List ℕ))
    → HasNoFeed more → ((piece : List ℕ) → Holds line piece → Holds line' (piece ++ more))
    → Progress manner caller before known input count line now new → Progress manner caller before known (input ++ more) count line' now new
progress_on caller before known input count more line line' now new none holds p = record {
  ended = p.ended;
  rest = p.rest ++ more;
  text = p.text;
  split = ends_on input p.ended p.rest more none p.split;
  holds = holds p.rest p.holds;
  count_is = p.count_is;
  answered = p.answered;
  written = p.written;
}

-- the same over an equal input
pub progress_of : {manner : Manner} (caller : ℕ) (before : Session) (known : Option (List ℕ)) (input input' : List ℕ) (count : ℕ) (line : Held) (now : Session) (new : Option (List ℕ))
    → input ≡ input' → Progress manner caller before known input count line now new → Progress manner caller before known input' count line now new
progress_of caller before known input input' count line now new e p = rw e at p

-- a front with its line feed, and the rest
pub feed_inside : (front piece later : List ℕ) → front ++ (piece ++ 10 ∷ later) ≡ (front ++ (piece ++ 10 ∷ [])) ++ later
feed_inside front piece later = simp append_assoc

pub length_behind : (rest piece later : List ℕ) → rest ≡ piece ++ 10 ∷ later → length later + 1 ≤ length rest
length_behind rest piece later e = omega (arith, ap length e, length-append piece (10 ∷ later))

pub progress_line : {manner : Manner} (caller : ℕ) (before : Session) (known : Option (List ℕ)) (input : List ℕ) (count : ℕ) (line line' : Held) (now after : Session) (new new' : Option (List ℕ))
    → ((full : List ℕ) → Keeps (line_of line.front) line.long full → (text : List ℕ) × IsAnswered (count + 1) caller now full text after × Appends new new' (echo_in manner full ++ text))
    → Holds line' []
    → Progress manner caller before known input count line now new → Progress manner caller before known (input ++ 10 ∷ []) (count + 1) line' after new'
progress_line {manner} caller before known input count line line' now after new new' served empty p =
    let s = served (line_of p.rest) (ended_keeps line.front line.long p.rest p.holds) in
    record {
      ended = p.ended ++ p.rest ∷ [];
      rest = [];
      text = p.text ++ (echo_in manner (line_of p.rest) ++ s.0);
      split = ends_more input p.ended p.rest p.split;
      holds = empty;
      count_is = omega (arith, p.count_is, length-append p.ended (p.rest ∷ []));
      answered = rw map-append (answered_more manner 1 (count + 1) caller before (map line_of p.ended) p.text now (line_of p.rest) s.0 after
          (omega (arith, p.count_is, length-map p.ended line_of)) p.answered s.1);
      written = appends_more known new new' p.text (echo_in manner (line_of p.rest) ++ s.0) p.written s.2;
    }

pub consumes_more : (a b c : Option (List ℕ)) (x y : List ℕ) → Consumes a b x → Consumes b c y → Consumes a c (x ++ y)
consumes_more None b c x y p q = tt
consumes_more (Some xs) None c x y p q = absurd p
consumes_more (Some xs) (Some ys) None x y p q = q
consumes_more (Some xs) (Some ys) (Some zs) x y p q = p ∙ ap (λ v. x ++ v) q ∙ sym (append_assoc x y zs)

pub consumes_nothing : (a : Option (List ℕ)) → Consumes a a []
consumes_nothing None = tt
consumes_nothing (Some xs) = refl

pub progress_start : {manner : Manner} (caller : ℕ) (before : Session) (known : Option (List ℕ)) (line : Held) → Holds line [] → Progress manner caller before known [] 0 line before known
progress_start caller before known line holds = record {
  ended = [];
  rest = [];
  text = [];
  split = record { whole = refl; each = All-nil HasNoFeed; last = All-nil (λ b. b ≡ 10 → ⊥) };
  holds = holds;
  count_is = refl;
  answered = (refl, refl);
  written = appends_nothing known;
}

none_held : (front : List ℕ) (long : Bool) (rest : List ℕ) → length front ≡ 0 → IsHeld front long rest → rest ≡ []
none_held [] true rest e h = absurd (omega (arith, h.3))
none_held [] false rest e h = h.0
none_held (b ∷ bs) long rest e h = absurd (omega (arith, e))

pub some_held : (front : List ℕ) (long : Bool) (rest : List ℕ) → (length front ≡ 0 → ⊥) → IsHeld front long rest → last_line rest ≡ rest ∷ []
some_held [] long rest some h = absurd (some refl)
some_held (b ∷ bs) true rest some h = rw h.1 refl
some_held (b ∷ bs) false rest some h = rw h.0 refl

pub answers_ended : {manner : Manner} (caller count : ℕ) (before now : Session) (unread left known new : Option (List ℕ)) (input : List ℕ) (line : Held)
    → Consumes unread left input → IsAtEnd left → length line.front ≡ 0 → Progress manner caller before known input count line now new
    → AnswersIn manner caller count before now unread left known new
answers_ended caller count before now unread left known new input line read end empty p =
    let none = none_held line.front line.long p.rest empty p.holds in
    let all : lines p.ended p.rest ≡ map line_of p.ended = rw none (append-nil (map line_of p.ended)) in
    record {
      input = input;
      text = p.text;
      read = read;
      end = end;
      serves = record {
        ended = p.ended;
        rest = p.rest;
        split = p.split;
        answered = rw all p.answered;
        count_is = rw all (p.count_is ∙ sym (length-map p.ended line_of));
      };
      written = p.written;
    }

pub answers_last : {manner : Manner} (caller count : ℕ) (before now after : Session) (unread left known new new' : Option (List ℕ)) (input : List ℕ) (line : Held)
    → Consumes unread left input → IsAtEnd left → (length line.front ≡ 0 → ⊥) → Progress manner caller before known input count line now new
    → ((full : List ℕ) → Keeps line.front line.long full → (text : List ℕ) × IsAnswered (count + 1) caller now full text after × Appends new new' (echo_in manner full ++ text))
    → AnswersIn manner caller (count + 1) before after unread left known new'
answers_last {manner} caller count before now after unread left known new new' input line read end some p served =
    let s = served p.rest (last_keeps line.front line.long p.rest p.holds) in
    let all : lines p.ended p.rest ≡ map line_of p.ended ++ p.rest ∷ [] = ap (λ v. map line_of p.ended ++ v) (some_held line.front line.long p.rest some p.holds) in
    record {
      input = input;
      text = p.text ++ (echo_in manner p.rest ++ s.0);
      read = read;
      end = end;
      serves = record {
        ended = p.ended;
        rest = p.rest;
        split = p.split;
        answered = rw all (answered_more manner 1 (count + 1) caller before (map line_of p.ended) p.text now p.rest s.0 after
            (omega (arith, p.count_is, length-map p.ended line_of)) p.answered s.1);
        count_is = rw all (omega (arith, p.count_is, length-map p.ended line_of, length-append (map line_of p.ended) (p.rest ∷ [])));
      };
      written = appends_more known new new' p.text (echo_in manner p.rest ++ s.0) p.written s.2;
    }

-- a read of nothing, with room, is the end
pub read_nothing : (a b left : Option (List ℕ)) (input : List ℕ) (given : ℕ) (room : List ℕ) → given ≡ 0 → 0 < length room
    → Consumes a b input → Consumes b left (take given room) × (given ≡ 0 → 0 < length room → IsAtEnd left) → Consumes a left input × IsAtEnd left
read_nothing a b left input given room none some p (q, end) =
    let more : Consumes b left [] = rw none at q in
    (rw append-nil at (consumes_more a b left input [] p more), end none some)
