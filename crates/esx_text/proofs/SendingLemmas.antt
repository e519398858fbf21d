-- What stands after the answers that wait were handed on, and after that failed.
use Rattle.std.proofs.Common.{◌≡◌, ℕ, List, [], ◌+◌, ◌⊎◌, inl, inr, refl, arith, ◌∙◌, Option, None, Some, Result, Ok, Err, map}
use Rattle.std.specs.Io.KnownBytes.{Keeps, Appends, Consumes}
use Rattle.std.specs.Option.{ok_or}
use Rattle.std.specs.Result.{IfOk, IfErr, OnOk, IsErrAnd, IsErrOf}
use Rattle.std.proofs.lemmas.List.Elements.{All-nil}
use Rattle.esx_model.specs.Console.{Session}
use Rattle.esx_text.specs.declared.fault.ServeFault.{ServeFault}
use Rattle.esx_text.specs.declared.fault.ServeFault.TheVariants.{Read, Write, OutOfMemory}
use Rattle.esx_text.specs.Lines.{HasNoFeed, line_of, lines, Held}
use Rattle.esx_text.specs.declared.echo.Manner.{Manner}
use Rattle.esx_text.specs.Answers.{Progress, AnswersIn, WantsMemory, Stops, FaultsIn, EndsEarlyIn, Ends, Reaches, ends_found, fault_writes, read_faults}
use Rattle.esx_text.specs.States.{LeavesStreams, SinkState, SourceState}
use Rattle.esx_writing.proofs.WritingLemmas.{appends_nothing}
use Rattle.esx_text.proofs.ProgressLemmas.{consumes_nothing}

pub appends_kept : (a b c : Option (List ℕ)) (x : List ℕ) → Appends a b x → Keeps b c → Appends a c x
appends_kept None b c x p k = tt
appends_kept (Some xs) None c x p k = absurd p
appends_kept (Some xs) (Some ys) None x p k = absurd k
appends_kept (Some xs) (Some ys) (Some zs) x p k = k ∙ p

pub progress_kept : {manner : Manner} (caller : ℕ) (before : Session) (known : Option (List ℕ)) (input : List ℕ) (count : ℕ) (line : Held) (now : Session) (new new' : Option (List ℕ))
    → Keeps new new' → Progress manner caller before known input count line now new → Progress manner caller before known input count line now new'
progress_kept caller before known input count line now new new' k p = record {
  ended = p.ended;
  rest = p.rest;
  text = p.text;
  split = p.split;
  holds = p.holds;
  count_is = p.count_is;
  answered = p.answered;
  written = appends_kept known new new' p.text p.written k;
}

pub answers_kept : {manner : Manner} (caller count : ℕ) (before after : Session) (unread left old new new' : Option (List ℕ))
    → Keeps new new' → AnswersIn manner caller count before after unread left old new → AnswersIn manner caller count before after unread left old new'
answers_kept caller count before after unread left old new new' k a = record {
  input = a.input;
  text = a.text;
  read = a.read;
  end = a.end;
  serves = a.serves;
  written = appends_kept old new new' a.text a.written k;
}

wants_kept : {manner : Manner} (caller : ℕ) (before after : Session) (all : List (List ℕ)) (old new new' : Option (List ℕ))
    → Keeps new new' → WantsMemory manner caller before after all old new → WantsMemory manner caller before after all old new'
wants_kept caller before after all old new new' k w = record {
  done = w.done;
  line = w.line;
  others = w.others;
  text = w.text;
  lines_are = w.lines_are;
  may_want = w.may_want;
  answered = w.answered;
  written = appends_kept old new new' w.text w.written k;
}

pub read_kept : {manner : Manner} (caller : ℕ) (before after : Session) (unread left old new new' : Option (List ℕ))
    → Keeps new new' → FaultsIn manner Read caller before after unread left old new → FaultsIn manner Read caller before after unread left old new'
read_kept caller before after unread left old new new' k f = record {
  input = f.input;
  read = f.read;
  stops = elim f.stops [
    | inl s ↦ inl (record { ended = s.ended; rest = s.rest; split = s.split; stop = (s.stop.0, s.stop.1, appends_kept old new new' s.stop.0 s.stop.2 k) })
    | inr (end, s) ↦ absurd (s.was_read refl)
  ];
}

pub memory_kept : {manner : Manner} (caller : ℕ) (before after : Session) (unread left old new new' : Option (List ℕ))
    → Keeps new new' → FaultsIn manner OutOfMemory caller before after unread left old new → FaultsIn manner OutOfMemory caller before after unread left old new'
memory_kept caller before after unread left old new new' k f = record {
  input = f.input;
  read = f.read;
  stops = elim f.stops [
    | inl s ↦ inl (record { ended = s.ended; rest = s.rest; split = s.split; stop = wants_kept caller before after (map line_of s.ended) old new new' k s.stop })
    | inr (end, s) ↦ inr (
      end,
      record {
        ended = s.ended;
        rest = s.rest;
        split = s.split;
        was_read = s.was_read;
        stop = wants_kept caller before after (lines s.ended s.rest) old new new' k s.stop;
      },
    )
  ];
}

pub consumes_kept : (a b c : Option (List ℕ)) (x : List ℕ) → Consumes a b x → Keeps b c → Consumes a c x
consumes_kept None b c x p k = tt
consumes_kept (Some xs) None c x p k = absurd p
consumes_kept (Some xs) (Some ys) None x p k = absurd k
consumes_kept (Some xs) (Some ys) (Some zs) x p k = rw k p

-- reading is at fault, and all that ended before was answered
pub progress_unread : {manner : Manner} (caller : ℕ) (before : Session) (known : Option (List ℕ)) (input : List ℕ) (count : ℕ) (line : Held) (now : Session) (new : Option (List ℕ))
    → Progress manner caller before known input count line now new → Stops manner Read caller before now input known new
progress_unread caller before known input count line now new p = record {
  ended = p.ended;
  rest = p.rest;
  split = p.split;
  stop = (p.text, p.answered, p.written);
}

-- the answers so far were not all handed on
pub progress_unsent : {manner : Manner} (caller : ℕ) (before : Session) (known : Option (List ℕ)) (input : List ℕ) (count : ℕ) (line : Held) (now : Session) (new new' : Option (List ℕ))
    → Keeps new new' → Progress manner caller before known input count line now new → Stops manner Write caller before now input known new'
progress_unsent caller before known input count line now new new' k p = record {
  ended = p.ended;
  rest = p.rest;
  split = p.split;
  stop = inr (inl (p.text, p.answered, appends_kept known new new' p.text p.written k));
}

pub answers_unsent : {manner : Manner} (caller count : ℕ) (before after : Session) (unread left old new new' : Option (List ℕ))
    → Keeps new new' → AnswersIn manner caller count before after unread left old new → FaultsIn manner Write caller before after unread left old new'
answers_unsent caller count before after unread left old new new' k a =
    let s = a.serves in
    record {
      input = a.input;
      read = a.read;
      stops = inr (
        a.end,
        record {
          ended = s.ended;
          rest = s.rest;
          split = s.split;
          was_read = λ is. absurd (cc);
          stop = inr (inl (a.text, s.answered, appends_kept old new new' a.text a.written k));
        },
      );
    }

pub read_unsent : {manner : Manner} (caller : ℕ) (before after : Session) (unread left old new new' : Option (List ℕ))
    → Keeps new new' → FaultsIn manner Read caller before after unread left old new → FaultsIn manner Write caller before after unread left old new'
read_unsent caller before after unread left old new new' k f = record {
  input = f.input;
  read = f.read;
  stops = elim f.stops [
    | inl s ↦ inl (record {
      ended = s.ended;
      rest = s.rest;
      split = s.split;
      stop = inr (inl (s.stop.0, s.stop.1, appends_kept old new new' s.stop.0 s.stop.2 k));
    })
    | inr (end, s) ↦ absurd (s.was_read refl)
  ];
}

pub memory_unsent : {manner : Manner} (caller : ℕ) (before after : Session) (unread left old new new' : Option (List ℕ))
    → Keeps new new' → FaultsIn manner OutOfMemory caller before after unread left old new → FaultsIn manner Write caller before after unread left old new'
memory_unsent caller before after unread left old new new' k f = record {
  input = f.input;
  read = f.read;
  stops = elim f.stops [
    | inl s ↦ inl (record {
      ended = s.ended;
      rest = s.rest;
      split = s.split;
      stop = inr (inr (wants_kept caller before after (map line_of s.ended) old new new' k s.stop));
    })
    | inr (end, s) ↦ inr (
      end,
      record {
        ended = s.ended;
        rest = s.rest;
        split = s.split;
        was_read = λ is. absurd (cc);
        stop = inr (inr (wants_kept caller before after (lines s.ended s.rest) old new new' k s.stop));
      },
    )
  ];
}

-- nothing was read
pub at_once : {manner : Manner} (caller : ℕ) (before : Session) (unread : Option (List ℕ)) (calls : ℕ) (known new : Option (List ℕ))
    → Keeps known new → EndsEarlyIn manner OutOfMemory caller before before unread unread calls calls known new
at_once caller before unread calls known new k = inl (record {
  memory = refl;
  session = refl;
  no_read = refl;
  nothing_read = refl;
  nothing_written = appends_kept known known new [] (appends_nothing known) k;
})

-- nor handed on
pub unsent_at_once : {manner : Manner} (caller : ℕ) (before : Session) (unread : Option (List ℕ)) (calls : ℕ) (known new : Option (List ℕ))
    → Keeps known new → EndsEarlyIn manner Write caller before before unread unread calls calls known new
unsent_at_once caller before unread calls known new k = inr (record {
  input = [];
  read = consumes_nothing unread;
  stops = inl (record {
    ended = [];
    rest = [];
    split = record { whole = refl; each = All-nil HasNoFeed; last = All-nil (λ b. b ≡ 10 → ⊥) };
    stop = inr (inl ([], (refl, refl), appends_kept known known new [] (appends_nothing known) k));
  });
})

-- the exit of a `?` that hands on the fault as it is
pub reaches_err : {manner : Manner} (r : Result (Option ℕ) ServeFault) (e : ServeFault) (caller : ℕ) (before after : Session) (unread left old new : Option (List ℕ))
    → IsErrAnd r (λ f. f ≡ e) → FaultsIn manner e caller before after unread left old new → Reaches manner r caller before after unread left old new
reaches_err (Ok v) e caller before after unread left old new h f = absurd h
reaches_err (Err d) e caller before after unread left old new h f = rw h f

pub ends_err : {manner : Manner} (r : Result ℕ ServeFault) (e : ServeFault) (caller : ℕ) (before after : Session) (unread left old new : Option (List ℕ))
    → IsErrAnd r (λ f. f ≡ e) → FaultsIn manner e caller before after unread left old new → Ends manner r caller before after unread left old new
ends_err (Ok n) e caller before after unread left old new h f = absurd h
ends_err (Err d) e caller before after unread left old new h f = rw h f

-- the last answers were not all handed on
pub reaches_unsent : {manner : Manner} (served : Result (Option ℕ) ServeFault) (found : Option ℕ) (caller : ℕ) (before after : Session) (unread left old new new' : Option (List ℕ))
    → served ≡ Ok found → Keeps new new' → Reaches manner served caller before after unread left old new → FaultsIn manner Write caller before after unread left old new'
reaches_unsent served None caller before after unread left old new new' is k r = read_unsent caller before after unread left old new new' k (rw is at r)
reaches_unsent served (Some n) caller before after unread left old new new' is k r = answers_unsent caller n before after unread left old new new' k (rw is at r)

-- they were
pub reaches_sent : (manner : Manner) (served : Result (Option ℕ) ServeFault) (found : Option ℕ) (result : Result ℕ ServeFault) (caller : ℕ) (before after : Session) (unread left old new new' : Option (List ℕ))
    → served ≡ Ok found → result ≡ ok_or found Read → Keeps new new' → Reaches manner served caller before after unread left old new → Ends manner result caller before after unread left old new'
reaches_sent manner served None result caller before after unread left old new new' is was k r = rw was (read_kept caller before after unread left old new new' k (rw is at r))
reaches_sent manner served (Some n) result caller before after unread left old new new' is was k r = rw was (answers_kept caller n before after unread left old new new' k (rw is at r))

pub ends_ok : (manner : Manner) (r : Result ℕ ServeFault) (caller : ℕ) (before after : Session) (unread left old new : Option (List ℕ))
    → Ends manner r caller before after unread left old new → IfOk r (λ n. AnswersIn manner caller n before after unread left old new)
ends_ok manner (Ok n) caller before after unread left old new f = f
ends_ok manner (Err e) caller before after unread left old new f = tt

pub ends_fault : (manner : Manner) (r : Result ℕ ServeFault) (caller : ℕ) (before after : Session) (unread left : Option (List ℕ)) (calls calls' : ℕ) (old new : Option (List ℕ))
    → Ends manner r caller before after unread left old new → IfErr r (λ e. EndsEarlyIn manner e caller before after unread left calls calls' old new)
ends_fault manner (Ok n) caller before after unread left calls calls' old new f = tt
ends_fault manner (Err e) caller before after unread left calls calls' old new f = inr f

-- reading is at fault once, or the input had no end
pub unread_once : (r : Result (Option ℕ) ServeFault) (failures failures' calls calls' : ℕ)
    → IsErrOf r Read ⊎ (r ≡ Ok None) → failures' ≡ failures + read_faults r → (r ≡ Ok None → calls' ≡ calls)
    → (failures' ≡ failures + 1) ⊎ ((failures' ≡ failures) × (calls' ≡ calls))
unread_once (Ok None) failures failures' calls calls' why f e = inr (omega (arith, f), e refl)
unread_once (Ok (Some n)) failures failures' calls calls' (inl why) f e = absurd (cc)
unread_once (Ok (Some n)) failures failures' calls calls' (inr why) f e = absurd (cc)
unread_once (Err Read) failures failures' calls calls' why f e = inl f
unread_once (Err Write) failures failures' calls calls' (inl why) f e = absurd (cc)
unread_once (Err Write) failures failures' calls calls' (inr why) f e = absurd (cc)
unread_once (Err OutOfMemory) failures failures' calls calls' (inl why) f e = absurd (cc)
unread_once (Err OutOfMemory) failures failures' calls calls' (inr why) f e = absurd (cc)

-- a number of lines comes of one
pub counted : (served : Result (Option ℕ) ServeFault) (found : Option ℕ) (result : Result ℕ ServeFault)
    → served ≡ Ok found → result ≡ ok_or found Read → IfOk result (λ count. served ≡ Ok (Some count))
counted served None result is was = rw was tt
counted served (Some n) result is was = rw was is

-- one read gave nothing where the end was found
pub found_end : (r : Result ℕ ServeFault) (served : Result (Option ℕ) ServeFault) (empty empty' : ℕ)
    → IfOk r (λ count. served ≡ Ok (Some count)) → IfOk served (λ found. empty' ≡ empty + ends_found found) → OnOk r (empty' ≡ empty + 1)
found_end (Ok n) served empty empty' is found = rw is at found
found_end (Err e) served empty empty' is found = tt

-- and none where reading was at fault
pub found_no_end : (served : Result (Option ℕ) ServeFault) (empty empty' : ℕ)
    → IsErrOf served Read ⊎ (served ≡ Ok None) → (IsErrOf served Read → empty' ≡ empty) → IfOk served (λ found. empty' ≡ empty + ends_found found) → empty' ≡ empty
found_no_end served empty empty' (inl why) none found = none why
found_no_end served empty empty' (inr why) none found = let f = rw why at found in omega (arith, f)

-- a run that gave up before the first read
pub streams_at_once : (e : ServeFault) (unread : SourceState) (out out' : SinkState) → (e ≡ Read → ⊥) → out'.failures ≡ out.failures + fault_writes e
    → out'.flushes + fault_writes e ≡ out.flushes + 1 → ((e ≡ Write → ⊥) → out'.waiting ≡ []) → LeavesStreams (Err e) unread unread out out'
streams_at_once Read unread out out' read write flushes sent = absurd (read refl)
streams_at_once Write unread out out' read write flushes sent = record {
  found = tt;
  not_found = λ h. refl;
  ends = omega arith;
  reads = omega arith;
  pieces = omega arith;
  each = record { input = []; read = consumes_nothing unread.remaining; each = omega arith };
  read = λ h. absurd (cc);
  no_read_fault = λ h. refl;
  write = write;
  flushes = omega (arith, flushes);
  sent = λ h. absurd (h (cc));
}
streams_at_once OutOfMemory unread out out' read write flushes sent = record {
  found = tt;
  not_found = λ h. refl;
  ends = omega arith;
  reads = omega arith;
  pieces = omega arith;
  each = record { input = []; read = consumes_nothing unread.remaining; each = omega arith };
  read = λ h. absurd (cc);
  no_read_fault = λ h. refl;
  write = write;
  flushes = omega (arith, flushes);
  sent = λ h. sent (λ is. cc);
}
