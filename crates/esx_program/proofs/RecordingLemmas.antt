-- A recording through a buffer.
use Rattle.std.proofs.Common.{◌≡◌, ◌∙◌, ℕ, List, [], ◌++◌, Some, Result, Ok, Err, ap, subst, append-nil}
use Rattle.std.specs.Result.{IfErr, IfOk}
use Rattle.std.specs.Io.KnownBytes.{Appends}
use Rattle.esx_types.specs.declared.config.Config.{Config}
use Rattle.esx_model.specs.Console.{Session}
use Rattle.esx_console.specs.Calls.{opened_session}
use Rattle.esx_text.specs.declared.echo.Manner.TheVariants.{Plain}
use Rattle.esx_text.specs.declared.fault.ServeFault.{ServeFault}
use Rattle.esx_text.specs.declared.fault.ServeFault.TheVariants.{Read, Write, OutOfMemory}
use Rattle.esx_text.specs.Answers.{Answers, EndsEarly}
use Rattle.esx_text.specs.States.{LeavesStreams, SinkState, SourceState}
use Rattle.esx_recording.specs.declared.recording.Made.{Made}
use Rattle.esx_recording.specs.Questions.{question_lines}
use Rattle.esx_recording.specs.Recording.{EndsMaking, Makes}
use Rattle.esx_program.proofs.FrontLemmas.{early_front}
use Rattle.esx_program.proofs.OutgoingLemmas.{first_none, leaves_alike, second_none}

-- what is taken in front of a sink, and what of it waits
abbrev in_front : SinkState → List ℕ → List ℕ → SinkState
in_front errors written waits = record { contents = Some (written ++ waits); waiting = errors.waiting ++ waits; failures = errors.failures; flushes = errors.flushes }

-- nothing waits
all_out : (written waits : List ℕ) → waits ≡ [] → written ++ waits ≡ written
all_out written waits none = ap (λ v. written ++ v) none ∙ append-nil written

streams_behind : (r : Result ℕ ServeFault) (unread left : SourceState) (errors errors' : SinkState) (written waits : List ℕ)
    → LeavesStreams r unread left (in_front errors [] []) (in_front errors' written waits) → LeavesStreams r unread left errors errors'
streams_behind r unread left errors errors' written waits s =
    leaves_alike r unread left (Some []) (Some (written ++ waits)) (errors.waiting ++ []) (errors'.waiting ++ waits) errors errors' s (first_none errors'.waiting waits)

pub makes_behind : (r : Result Made ServeFault) (site : Config) (unread left : SourceState) (errors errors' : SinkState) (written waits : List ℕ)
    → IfOk r (λ made. Answers 0 made.lines (opened_session site) made.console unread.remaining left.remaining (Some []) (Some (written ++ waits)))
    → IfOk r (λ made. LeavesStreams (Ok made.lines) unread left (in_front errors [] []) (in_front errors' written waits))
    → Appends errors.contents errors'.contents (question_lines written) → IfOk r (λ made. Makes site made.lines made.console unread left errors errors')
makes_behind (Ok made) site unread left errors errors' written waits served s told = record {
  answers = written;
  served = subst (λ (t : List ℕ). Answers 0 made.lines (opened_session site) made.console unread.remaining left.remaining (Some []) (Some t))
      (all_out written waits (second_none errors'.waiting waits (s.sent (λ e. cc)))) served;
  told = told;
  streams = streams_behind (Ok made.lines) unread left errors errors' written waits s;
}
makes_behind (Err e) site unread left errors errors' written waits served s told = tt

-- what was taken of the answers where a run ended early, and what of it came out
early_behind : (e : ServeFault) (site : Config) (unread left : SourceState) (errors' : SinkState) (written waits : List ℕ) (after : Session)
    → EndsEarly e 0 (opened_session site) after unread.remaining left.remaining unread.calls left.calls (Some []) (Some (written ++ waits))
    → ((e ≡ Write → ⊥) → errors'.waiting ++ waits ≡ [])
    → (last : Session) × EndsEarly e 0 (opened_session site) last unread.remaining left.remaining unread.calls left.calls (Some []) (Some written)
early_behind Read site unread left errors' written waits after ends sent =
    (after, rw (all_out written waits (second_none errors'.waiting waits (sent (λ e. cc)))) at ends)
early_behind Write site unread left errors' written waits after ends sent =
    early_front Plain 0 (opened_session site) after unread.remaining left.remaining unread.calls left.calls written waits ends
early_behind OutOfMemory site unread left errors' written waits after ends sent =
    (after, rw (all_out written waits (second_none errors'.waiting waits (sent (λ e. cc)))) at ends)

pub ends_behind : (r : Result Made ServeFault) (site : Config) (unread left : SourceState) (errors errors' : SinkState) (written waits : List ℕ)
    → IfErr r (λ e. (after : Session) × EndsEarly e 0 (opened_session site) after unread.remaining left.remaining unread.calls left.calls (Some []) (Some (written ++ waits)))
    → IfErr r (λ e. LeavesStreams (Err e) unread left (in_front errors [] []) (in_front errors' written waits))
    → Appends errors.contents errors'.contents (question_lines written) → IfErr r (λ e. EndsMaking e site unread left errors errors')
ends_behind (Ok made) site unread left errors errors' written waits ends s told = tt
ends_behind (Err e) site unread left errors errors' written waits ends s told =
    let early = early_behind e site unread left errors' written waits ends.0 ends.1 (λ other. s.sent (λ h. other (cc))) in
    record {
      after = early.0;
      answers = written;
      ends = early.1;
      told = told;
      streams = streams_behind (Err e) unread left errors errors' written waits s;
    }

-- the run ended at once, with no buffer
pub ends_at_once : (e : ServeFault) (site : Config) (unread : SourceState) (errors errors' : SinkState) (written : List ℕ)
    → EndsEarly e 0 (opened_session site) (opened_session site) unread.remaining unread.remaining unread.calls unread.calls (Some []) (Some written)
    → LeavesStreams (Err e) unread unread (record { contents = Some []; waiting = errors.waiting; failures = errors.failures; flushes = errors.flushes })
    (record { contents = Some written; waiting = errors'.waiting; failures = errors'.failures; flushes = errors'.flushes })
    → Appends errors.contents errors'.contents (question_lines written) → EndsMaking e site unread unread errors errors'
ends_at_once e site unread errors errors' written ends s told = record {
  after = opened_session site;
  answers = written;
  ends = ends;
  told = told;
  streams = leaves_alike (Err e) unread unread (Some []) (Some written) errors.waiting errors'.waiting errors errors' s (λ none. none);
}
