-- What stands after a fault.
use Rattle.std.proofs.Common.{◌≡◌, ℕ, List, [], ◌∷◌, ◌++◌, ◌+◌, inl, inr, refl, sym, ◌∙◌, ap, append_assoc, append-nil, length, arith, Option, Result, Ok, Err, map}
use Rattle.std.specs.List.{flat_map}
use Rattle.std.specs.Result.{IfErr, IsErrAnd}
use Rattle.std.proofs.lemmas.Bool.{cases_eq}
use Rattle.std.proofs.lemmas.Grind.{flat_map-append}
use Rattle.std.proofs.lemmas.List.{length-map, map-append}
use Rattle.std.proofs.lemmas.List.Elements.{All-nil, All-cons, All-append, All-head, All-tail}
use Rattle.esx_model.specs.Console.{Session}
use Rattle.esx_text.specs.declared.fault.ServeFault.{ServeFault}
use Rattle.esx_text.specs.declared.fault.ServeFault.TheVariants.{Read, Write, OutOfMemory}
use Rattle.esx_text.specs.Lines.{HasNoFeed, EndsIn, line_of, Keeps, Held}
use Rattle.esx_text.specs.declared.echo.Manner.{Manner}
use Rattle.esx_text.specs.Echo.{echo_in}
use Rattle.esx_text.specs.Answers.{IsAnswered, IsServed, Progress, Stops, StopsLast}
use Rattle.esx_writing.proofs.WritingLemmas.{appends_more}
use Rattle.esx_text.proofs.LineLemmas.{ended_keeps, last_keeps}
use Rattle.esx_text.proofs.ProgressLemmas.{some_held}

abbrev ended_by_feed : List ℕ → List ℕ
ended_by_feed piece = piece ++ 10 ∷ []

pub record Split (text : List ℕ) : Type 0 where
  pub ended : List (List ℕ)
  pub rest : List ℕ
  pub ends : EndsIn text ended rest

onto : (b : ℕ) (text : List ℕ) (ended : List (List ℕ)) (rest : List ℕ) → (b ≡ 10 → ⊥) → EndsIn text ended rest → Split (b ∷ text)
onto b text [] rest other e = record {
  ended = [];
  rest = b ∷ rest;
  ends = record { whole = ap (λ v. b ∷ v) e.whole; each = e.each; last = All-cons (λ c. c ≡ 10 → ⊥) b rest other e.last };
}
onto b text (piece ∷ ended) rest other e = record {
  ended = (b ∷ piece) ∷ ended;
  rest = rest;
  ends = record {
    whole = ap (λ v. b ∷ v) e.whole;
    each = All-cons HasNoFeed (b ∷ piece) ended (All-cons (λ c. c ≡ 10 → ⊥) b piece other (All-head HasNoFeed piece ended e.each)) (All-tail HasNoFeed piece ended e.each);
    last = e.last;
  };
}

-- each text has ended pieces and a rest
pub split_of : (text : List ℕ) → Split text
split_of [] = record { ended = []; rest = []; ends = record { whole = refl; each = All-nil HasNoFeed; last = All-nil (λ b. b ≡ 10 → ⊥) } }
split_of (b ∷ text) =
    let s = split_of text in
    elim (cases_eq b 10) [
      | inl feed ↦ record {
        ended = [] ∷ s.ended;
        rest = s.rest;
        ends = record {
          whole = rw feed (ap (λ v. 10 ∷ v) s.ends.whole);
          each = All-cons HasNoFeed [] s.ended (All-nil (λ c. c ≡ 10 → ⊥)) s.ends.each;
          last = s.ends.last;
        };
      }
      | inr other ↦ onto b text s.ended s.rest other s.ends
    ]

regroup : (f r f' r' : List ℕ) → (f ++ r) ++ 10 ∷ (f' ++ r') ≡ (f ++ ((r ++ 10 ∷ []) ++ f')) ++ r'
regroup f r f' r' = simp append_assoc

pub ends_then : (text : List ℕ) (ended : List (List ℕ)) (rest later : List ℕ) (ended' : List (List ℕ)) (rest' : List ℕ)
    → EndsIn text ended rest → EndsIn later ended' rest' → EndsIn (text ++ 10 ∷ later) (ended ++ rest ∷ ended') rest'
ends_then text ended rest later ended' rest' e e' = record {
  whole = ap (λ v. v ++ 10 ∷ later) e.whole ∙ ap (λ v. (flat_map ended_by_feed ended ++ rest) ++ 10 ∷ v) e'.whole
      ∙ regroup (flat_map ended_by_feed ended) rest (flat_map ended_by_feed ended') rest'
      ∙ ap (λ v. v ++ rest') (sym (flat_map-append ended_by_feed ended (rest ∷ ended')));
  each = All-append HasNoFeed ended (rest ∷ ended') e.each (All-cons HasNoFeed rest ended' e.last e'.each);
  last = e'.last;
}

lines_then : (ended : List (List ℕ)) (rest : List ℕ) (ended' : List (List ℕ))
    → map line_of (ended ++ rest ∷ ended') ≡ map line_of ended ++ line_of rest ∷ map line_of ended'
lines_then ended rest ended' = map-append line_of ended (rest ∷ ended')

numbered : (m n caller : ℕ) (log : Session) (line text : List ℕ) (after : Session) → m ≡ n → IsAnswered m caller log line text after → IsAnswered n caller log line text after
numbered m n caller log line text after e a = rw e at a

pub stops_line : {manner : Manner} (fault : ServeFault) (caller : ℕ) (before : Session) (known : Option (List ℕ)) (input : List ℕ) (count : ℕ) (line : Held) (now after : Session) (new new' : Option (List ℕ)) (later : List ℕ)
    → ((full : List ℕ) → Keeps (line_of line.front) line.long full → IsServed (echo_in manner full) (count + 1) caller now full after new new' (Err fault))
    → Progress manner caller before known input count line now new → Stops manner fault caller before after (input ++ 10 ∷ later) known new'
stops_line Read caller before known input count line now after new new' later served p =
    absurd (served (line_of p.rest) (ended_keeps line.front line.long p.rest p.holds))
stops_line Write caller before known input count line now after new new' later served p =
    let s = served (line_of p.rest) (ended_keeps line.front line.long p.rest p.holds) in
    let more = split_of later in
    record {
      ended = p.ended ++ p.rest ∷ more.ended;
      rest = more.rest;
      split = ends_then input p.ended p.rest later more.ended more.rest p.split more.ends;
      stop = inl (record {
        done = map line_of p.ended;
        line = line_of p.rest;
        others = map line_of more.ended;
        text = p.text;
        middle = now;
        last = s.0;
        front = s.2.0;
        rest = s.2.1;
        lines_are = lines_then p.ended p.rest more.ended;
        answered = p.answered;
        answered_last = numbered (count + 1) (length (map line_of p.ended) + 1) caller now (line_of p.rest) s.0 after (omega (arith, p.count_is, length-map p.ended line_of)) s.1;
        last_is = s.2.2;
        written = appends_more known new new' p.text s.2.0 p.written s.2.3;
      });
    }
stops_line OutOfMemory caller before known input count line now after new new' later served p =
    let s = served (line_of p.rest) (ended_keeps line.front line.long p.rest p.holds) in
    let more = split_of later in
    record {
      ended = p.ended ++ p.rest ∷ more.ended;
      rest = more.rest;
      split = ends_then input p.ended p.rest later more.ended more.rest p.split more.ends;
      stop = record {
        done = map line_of p.ended;
        line = line_of p.rest;
        others = map line_of more.ended;
        text = p.text;
        lines_are = lines_then p.ended p.rest more.ended;
        may_want = s.1;
        answered = rw s.0 p.answered;
        written = rw append-nil at (appends_more known new new' p.text [] p.written s.2);
      };
    }

pub stops_last : {manner : Manner} (fault : ServeFault) (caller : ℕ) (before : Session) (known : Option (List ℕ)) (input : List ℕ) (count : ℕ) (line : Held) (now after : Session) (new new' : Option (List ℕ))
    → (length line.front ≡ 0 → ⊥)
    → ((full : List ℕ) → Keeps line.front line.long full → IsServed (echo_in manner full) (count + 1) caller now full after new new' (Err fault))
    → Progress manner caller before known input count line now new → StopsLast manner fault caller before after input known new'
stops_last Read caller before known input count line now after new new' some served p =
    absurd (served p.rest (last_keeps line.front line.long p.rest p.holds))
stops_last Write caller before known input count line now after new new' some served p =
    let s = served p.rest (last_keeps line.front line.long p.rest p.holds) in
    record {
      ended = p.ended;
      rest = p.rest;
      split = p.split;
      was_read = λ is. absurd (cc);
      stop = inl (record {
        done = map line_of p.ended;
        line = p.rest;
        others = [];
        text = p.text;
        middle = now;
        last = s.0;
        front = s.2.0;
        rest = s.2.1;
        lines_are = ap (λ v. map line_of p.ended ++ v) (some_held line.front line.long p.rest some p.holds);
        answered = p.answered;
        answered_last = numbered (count + 1) (length (map line_of p.ended) + 1) caller now p.rest s.0 after (omega (arith, p.count_is, length-map p.ended line_of)) s.1;
        last_is = s.2.2;
        written = appends_more known new new' p.text s.2.0 p.written s.2.3;
      });
    }
stops_last OutOfMemory caller before known input count line now after new new' some served p =
    let s = served p.rest (last_keeps line.front line.long p.rest p.holds) in
    record {
      ended = p.ended;
      rest = p.rest;
      split = p.split;
      was_read = λ is. absurd (cc);
      stop = record {
        done = map line_of p.ended;
        line = p.rest;
        others = [];
        text = p.text;
        lines_are = ap (λ v. map line_of p.ended ++ v) (some_held line.front line.long p.rest some p.holds);
        may_want = s.1;
        answered = rw s.0 p.answered;
        written = rw append-nil at (appends_more known new new' p.text [] p.written s.2);
      };
    }

-- the same over an equal input
pub stops_of : {manner : Manner} (fault : ServeFault) (caller : ℕ) (before after : Session) (input input' : List ℕ) (old new : Option (List ℕ))
    → input ≡ input' → Stops manner fault caller before after input old new → Stops manner fault caller before after input' old new
stops_of fault caller before after input input' old new e s = rw e at s

-- the exit of a `?` that hands on the error as it is
pub handed_on : {T E : Type 0} (r : Result T E) (x : E) (Q : E → Type 0) → IsErrAnd r (λ e. e ≡ x) → Q x → IfErr r Q
handed_on (Ok v) x Q h q = tt
handed_on (Err e) x Q h q = rw h q
