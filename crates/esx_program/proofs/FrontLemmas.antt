-- A front of what a run wrote came out.
use Rattle.std.proofs.Common.{◌≡◌, ◌⊎◌, inl, inr, ℕ, List, [], ◌∷◌, ◌++◌, ◌+◌, Option, Some, refl, sym, ◌∙◌, ap, subst, append_assoc, append-nil, length, map, arith}
use Rattle.std.specs.Io.KnownBytes.{IsAtEnd}
use Rattle.esx_model.specs.Console.{Session}
use Rattle.esx_text.specs.Answers.{MayWantMemory, IsAnswered, AreAnswered, StopsAt, Stops, StopsLast, EndsEarlyIn}
use Rattle.esx_text.specs.Echo.{echo_in}
use Rattle.esx_text.specs.Lines.{line_of, lines}
use Rattle.esx_text.specs.declared.echo.Manner.{Manner}
use Rattle.esx_text.specs.declared.fault.ServeFault.TheVariants.{Write}
use Rattle.esx_program.proofs.OutgoingLemmas.{first_none}

-- where a front of two texts ends: in the first, or in the second
data Ends (xs ys vs ws : List ℕ) : Type 0 where
  within : (zs : List ℕ) → vs ≡ xs ++ zs → Ends xs ys vs ws
  behind : (zs : List ℕ) → xs ≡ vs ++ zs → zs ++ ys ≡ ws → Ends xs ys vs ws

ends_more : (x a : ℕ) (xs ys vs ws : List ℕ) → x ≡ a → Ends xs ys vs ws → Ends (x ∷ xs) ys (a ∷ vs) ws
ends_more x a xs ys vs ws e (within zs f) = within zs (cc)
ends_more x a xs ys vs ws e (behind zs f g) = behind zs (cc) g

ends : (xs ys vs ws : List ℕ) → xs ++ ys ≡ vs ++ ws → Ends xs ys vs ws
ends [] ys vs ws e = within vs refl
ends (x ∷ xs) ys [] ws e = behind (x ∷ xs) refl e
ends (x ∷ xs) ys (a ∷ vs) ws e = ends_more x a xs ys vs ws (cc) (ends xs ys vs ws (cc))

-- lines from number n on were answered, and of the last of them a front, which makes this text
record CutFrom (manner : Manner) (n caller : ℕ) (before : Session) (all : List (List ℕ)) (out : List ℕ) : Type 0 where
  pub done : List (List ℕ)
  pub line : List ℕ
  pub others : List (List ℕ)
  pub text : List ℕ
  pub middle : Session
  pub last : List ℕ
  pub front : List ℕ
  pub rest : List ℕ
  pub after : Session
  pub lines_are : all ≡ done ++ line ∷ others
  pub answered : AreAnswered manner n caller before done text middle
  pub answered_last : IsAnswered (length done + n) caller middle line last after
  pub last_is : echo_in manner line ++ last ≡ front ++ rest
  pub is : out ≡ text ++ front

-- in the first line
cut_first : (manner : Manner) (n caller : ℕ) (before : Session) (line : List ℕ) (all : List (List ℕ)) (first out rest : List ℕ) (after : Session)
    → IsAnswered n caller before line first after → echo_in manner line ++ first ≡ out ++ rest → CutFrom manner n caller before (line ∷ all) out
cut_first manner n caller before line all first out rest after answered e = record {
  done = [];
  line = line;
  others = all;
  text = [];
  middle = before;
  last = first;
  front = out;
  rest = rest;
  after = after;
  lines_are = refl;
  answered = (refl, refl);
  answered_last = subst (λ (k : ℕ). IsAnswered k caller before line first after) (omega arith) answered;
  last_is = e;
  is = refl;
}

-- behind the first line
cut_later : (manner : Manner) (n caller : ℕ) (before : Session) (line : List ℕ) (all : List (List ℕ)) (first out rest : List ℕ) (middle : Session)
    → IsAnswered n caller before line first middle → out ≡ (echo_in manner line ++ first) ++ rest → CutFrom manner (n + 1) caller middle all rest
    → CutFrom manner n caller before (line ∷ all) out
cut_later manner n caller before line all first out rest middle answered e c = record {
  done = line ∷ c.done;
  line = c.line;
  others = c.others;
  text = (echo_in manner line ++ first) ++ c.text;
  middle = c.middle;
  last = c.last;
  front = c.front;
  rest = c.rest;
  after = c.after;
  lines_are = ap (λ v. line ∷ v) c.lines_are;
  answered = (first, c.text, middle, answered, c.answered, refl);
  answered_last = subst (λ (k : ℕ). IsAnswered k caller c.middle c.line c.last c.after) (omega arith) c.answered_last;
  last_is = c.last_is;
  is = e ∙ ap (λ v. (echo_in manner line ++ first) ++ v) c.is ∙ sym (append_assoc (echo_in manner line ++ first) c.text c.front);
}

cut_either : (manner : Manner) (n caller : ℕ) (before : Session) (line : List ℕ) (all : List (List ℕ)) (first rest out ys : List ℕ) (middle : Session)
    → IsAnswered n caller before line first middle → Ends out ys (echo_in manner line ++ first) rest
    → ((zs : List ℕ) → zs ++ ys ≡ rest → CutFrom manner (n + 1) caller middle all zs) → CutFrom manner n caller before (line ∷ all) out
cut_either manner n caller before line all first rest out ys middle answered (within zs e) later = cut_first manner n caller before line all first out zs middle answered e
cut_either manner n caller before line all first rest out ys middle answered (behind zs e f) later =
    cut_later manner n caller before line all first out zs middle answered e (later zs f)

-- a front of the answers to some lines ends in one of them
cut_answers : (manner : Manner) (done others : List (List ℕ)) (n caller : ℕ) (before : Session) (line : List ℕ) (text out ys : List ℕ) (after : Session)
    → AreAnswered manner n caller before (line ∷ done) text after → out ++ ys ≡ text → CutFrom manner n caller before (line ∷ (done ++ others)) out
cut_answers manner [] others n caller before line text out ys after (first, rest, middle, answered, more, is) e =
    cut_first manner n caller before line others first out ys middle answered
    (sym (append-nil (echo_in manner line ++ first)) ∙ ap (λ v. (echo_in manner line ++ first) ++ v) (sym more.0) ∙ sym is ∙ sym e)
cut_answers manner (next ∷ done) others n caller before line text out ys after (first, rest, middle, answered, more, is) e =
    cut_either manner n caller before line (next ∷ (done ++ others)) first rest out ys middle answered (ends out ys (echo_in manner line ++ first) rest (e ∙ is))
    (λ zs f. cut_answers manner done others (n + 1) caller middle next rest zs ys after more f)

-- where a run stops once only a front of what it wrote came out
abbrev StopsFront : Manner → ℕ → Session → List (List ℕ) → List ℕ → Type 0
StopsFront manner caller before all out = (after : Session) × StopsAt manner Write caller before after all (Some []) (Some out)

stops_cut : (manner : Manner) (caller : ℕ) (before : Session) (all : List (List ℕ)) (out : List ℕ) → CutFrom manner 1 caller before all out → StopsFront manner caller before all out
stops_cut manner caller before all out c = (
  c.after,
  inl
      (record {
        done = c.done;
        line = c.line;
        others = c.others;
        text = c.text;
        middle = c.middle;
        last = c.last;
        front = c.front;
        rest = c.rest;
        lines_are = c.lines_are;
        answered = c.answered;
        answered_last = c.answered_last;
        last_is = c.last_is;
        written = c.is;
      }),
)

-- an answer was cut
cut_again : (manner : Manner) (caller : ℕ) (before : Session) (done others : List (List ℕ)) (line text last front rest out ys : List ℕ) (middle after : Session)
    → AreAnswered manner 1 caller before done text middle → IsAnswered (length done + 1) caller middle line last after → echo_in manner line ++ last ≡ front ++ rest
    → Ends out ys text front → CutFrom manner 1 caller before (done ++ line ∷ others) out
cut_again manner caller before done others line text last front rest out ys middle after answered answered_last is (behind zs e f) = record {
  done = done;
  line = line;
  others = others;
  text = text;
  middle = middle;
  last = last;
  front = zs;
  rest = ys ++ rest;
  after = after;
  lines_are = refl;
  answered = answered;
  answered_last = answered_last;
  last_is = is ∙ ap (λ v. v ++ rest) (sym f) ∙ append_assoc zs ys rest;
  is = e;
}
cut_again manner caller before [] others line text last front rest out ys middle after answered answered_last is (within zs e) =
    let none : out ≡ [] = first_none out zs (sym e ∙ answered.0) in
    record {
      done = [];
      line = line;
      others = others;
      text = [];
      middle = middle;
      last = last;
      front = [];
      rest = echo_in manner line ++ last;
      after = after;
      lines_are = refl;
      answered = (refl, answered.1);
      answered_last = answered_last;
      last_is = refl;
      is = none;
    }
cut_again manner caller before (first ∷ done) others line text last front rest out ys middle after answered answered_last is (within zs e) =
    cut_answers manner done (line ∷ others) 1 caller before first text out zs middle answered (sym e)

-- all lines were answered
all_front : (manner : Manner) (caller : ℕ) (before after : Session) (all : List (List ℕ)) (text out ys : List ℕ)
    → AreAnswered manner 1 caller before all text after → out ++ ys ≡ text → StopsFront manner caller before all out
all_front manner caller before after [] text out ys answered e =
    (after, inr (inl ([], (refl, answered.1), first_none out ys (e ∙ answered.0))))
all_front manner caller before after (line ∷ done) text out ys answered e =
    stops_cut manner caller before (line ∷ done) out (rw (append-nil done) at (cut_answers manner done [] 1 caller before line text out ys after answered e))

-- memory was wanting for a line
wants_front : (manner : Manner) (caller : ℕ) (before after : Session) (done : List (List ℕ)) (line : List ℕ) (others : List (List ℕ)) (text out ys : List ℕ)
    → MayWantMemory line → AreAnswered manner 1 caller before done text after → out ++ ys ≡ text → StopsFront manner caller before (done ++ line ∷ others) out
wants_front manner caller before after [] line others text out ys wants answered e = (
  after,
  inr
      (inr
      (record {
        done = [];
        line = line;
        others = others;
        text = [];
        lines_are = refl;
        may_want = wants;
        answered = (refl, answered.1);
        written = first_none out ys (e ∙ answered.0);
      })),
)
wants_front manner caller before after (first ∷ done) line others text out ys wants answered e =
    stops_cut manner caller before (first ∷ (done ++ line ∷ others)) out (cut_answers manner done (line ∷ others) 1 caller before first text out ys after answered e)

stops_front : (manner : Manner) (caller : ℕ) (before after : Session) (all : List (List ℕ)) (out ys : List ℕ)
    → StopsAt manner Write caller before after all (Some []) (Some (out ++ ys)) → StopsFront manner caller before all out
stops_front manner caller before after all out ys (inl c) =
    rw c.lines_are
    (stops_cut manner caller before (c.done ++ c.line ∷ c.others) out
    (cut_again manner caller before c.done c.others c.line c.text c.last c.front c.rest out ys c.middle after c.answered c.answered_last c.last_is (ends out ys c.text c.front c.written)))
stops_front manner caller before after all out ys (inr (inl (text, answered, written))) = all_front manner caller before after all text out ys answered written
stops_front manner caller before after all out ys (inr (inr w)) =
    rw w.lines_are (wants_front manner caller before after w.done w.line w.others w.text out ys w.may_want w.answered w.written)

faults_front : (manner : Manner) (caller : ℕ) (before after : Session) (input : List ℕ) (left : Option (List ℕ)) (out ys : List ℕ)
    → Stops manner Write caller before after input (Some []) (Some (out ++ ys)) ⊎ (IsAtEnd left × StopsLast manner Write caller before after input (Some []) (Some (out ++ ys)))
    → (last : Session) × (Stops manner Write caller before last input (Some []) (Some out) ⊎ (IsAtEnd left × StopsLast manner Write caller before last input (Some []) (Some out)))
faults_front manner caller before after input left out ys (inl s) =
    let front = stops_front manner caller before after (map line_of s.ended) out ys s.stop in
    (front.0, inl (record { ended = s.ended; rest = s.rest; split = s.split; stop = front.1 }))
faults_front manner caller before after input left out ys (inr (end, s)) =
    let front = stops_front manner caller before after (lines s.ended s.rest) out ys s.stop in
    (front.0, inr (end, record { ended = s.ended; rest = s.rest; split = s.split; was_read = s.was_read; stop = front.1 }))

-- a run whose last write failed, where only a front of what it wrote came out
pub early_front : (manner : Manner) (caller : ℕ) (before after : Session) (unread left : Option (List ℕ)) (calls calls' : ℕ) (out ys : List ℕ)
    → EndsEarlyIn manner Write caller before after unread left calls calls' (Some []) (Some (out ++ ys))
    → (last : Session) × EndsEarlyIn manner Write caller before last unread left calls calls' (Some []) (Some out)
early_front manner caller before after unread left calls calls' out ys (inl w) = let never = w.memory in absurd (cc)
early_front manner caller before after unread left calls calls' out ys (inr f) =
    let front = faults_front manner caller before after f.input left out ys f.stops in
    (front.0, inr (record { input = f.input; read = f.read; stops = front.1 }))
