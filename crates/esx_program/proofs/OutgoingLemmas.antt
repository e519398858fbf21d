-- Bytes that are taken, wait and are written.
use Rattle.std.proofs.Common.{◌≡◌, ℕ, List, [], ◌∷◌, ◌++◌, Option, None, Some, refl, sym, ◌∙◌, ap, append_assoc, append-nil, take, drop, ◌+◌, ◌-◌, ◌<◌, Result, Ok, Err, min, arith}
use Rattle.std.specs.Prelude.{if◌then◌else◌, ◌==◌, ◌&&◌, nat_lt}
use Rattle.std.proofs.lemmas.List.{take-append-drop}
use Rattle.std.specs.Result.{IfOk, IfErr, IsErrOf}
use Rattle.std.specs.Io.KnownBytes.{Appends, Keeps, append_known}
use Rattle.esx_types.specs.Ends.{write_failures}
use Rattle.esx_writing.specs.Writing.{Writes}
use Rattle.std.proofs.lemmas.Grind.{common_steps}
use Rattle.esx_types.specs.declared.config.Config.{Config}
use Rattle.esx_model.specs.Console.{Session}
use Rattle.esx_text.specs.declared.fault.ServeFault.{ServeFault}
use Rattle.esx_text.specs.declared.fault.ServeFault.TheVariants.{Read, Write, OutOfMemory}
use Rattle.esx_text.specs.Answers.{AnswersIn, EndsEarlyIn}
use Rattle.esx_text.specs.States.{LeavesStreams, SinkState, SourceState}
use Rattle.esx_program.specs.declared.outgoing.TheConstants.{ROOM}
use Rattle.esx_program.specs.Site.{at_opening}
use Rattle.esx_program.specs.Streams.{ComesOut, IsServed, Sends}
use Rattle.esx_text.specs.declared.echo.Manner.{Manner}

pub appends_nothing : (a : Option (List ℕ)) → Appends a a []
appends_nothing None = tt
appends_nothing (Some xs) = sym (append-nil xs)

appends_more : (a b c : Option (List ℕ)) (x y : List ℕ) → Appends a b x → Appends b c y → Appends a c (x ++ y)
appends_more None b c x y p q = tt
appends_more (Some xs) None c x y p q = absurd p
appends_more (Some xs) (Some ys) None x y p q = q
appends_more (Some xs) (Some ys) (Some zs) x y p q = q ∙ ap (λ v. v ++ y) p ∙ append_assoc xs x y

pub sends_more : (a b c : Option (List ℕ)) (waited waits : List ℕ) (n : ℕ)
    → Sends a b waited waits → Appends b c (take n waits) → Sends a c waited (drop n waits)
sends_more a b c waited waits n s p = (
  s.0 ++ take n waits,
  s.1 ∙ ap (λ v. s.0 ++ v) (sym (take-append-drop n waits)) ∙ sym (append_assoc s.0 (take n waits) (drop n waits)),
  appends_more a b c s.0 (take n waits) s.2 p,
)

-- what was taken, and then some more
pub takes_more : (a b : Option (List ℕ)) (waited waits more : List ℕ)
    → Sends a b waited waits → Appends (append_known a waited) (append_known b (waits ++ more)) more
takes_more None b waited waits more s = tt
takes_more (Some xs) None waited waits more s = absurd s.2
takes_more (Some xs) (Some ys) waited waits more s =
    let whole : ys ++ waits ≡ xs ++ waited = ap (λ v. v ++ waits) s.2 ∙ append_assoc xs s.0 waits ∙ ap (λ v. xs ++ v) (sym s.1) in
    sym (append_assoc ys waits more) ∙ ap (λ v. v ++ more) whole

pub takes_none : (a b c : Option (List ℕ)) (waited waits : List ℕ)
    → Sends a b waited waits → Keeps b c → Keeps (append_known a waited) (append_known c waits)
takes_none None b c waited waits s k = tt
takes_none (Some xs) None c waited waits s k = absurd s.2
takes_none (Some xs) (Some ys) None waited waits s k = absurd k
takes_none (Some xs) (Some ys) (Some zs) waited waits s k =
    ap (λ v. v ++ waits) (k ∙ s.2) ∙ append_assoc xs s.0 waits ∙ ap (λ v. xs ++ v) (sym s.1)

pub keeps_all : (a : Option (List ℕ)) → Keeps a a
keeps_all None = tt
keeps_all (Some xs) = refl

-- what was written before a flush
pub appends_kept : (a b c : Option (List ℕ)) (text : List ℕ) → Appends a b text → Keeps b c → Appends a c text
appends_kept None b c text p k = tt
appends_kept (Some xs) None c text p k = absurd p
appends_kept (Some xs) (Some ys) None text p k = absurd k
appends_kept (Some xs) (Some ys) (Some zs) text p k = k ∙ p

pub writes_kept : {T E : Type 0} (r : Result T E) (a b c : Option (List ℕ)) (text : List ℕ) → Appends a b text → Keeps b c → Writes a c text r
writes_kept (Ok v) a b c text p k = appends_kept a b c text p k
writes_kept (Err e) a b c text p k = (text, [], sym (append-nil text), appends_kept a b c text p k)

pub appends_known : (a : Option (List ℕ)) (waits : List ℕ) → Appends a (append_known a waits) waits
appends_known None waits = tt
appends_known (Some xs) waits = refl

pub first_none : (xs ys : List ℕ) → xs ++ ys ≡ [] → xs ≡ []
first_none [] ys e = refl
first_none (x ∷ xs) ys e = absurd (cc)

pub second_none : (xs ys : List ℕ) → xs ++ ys ≡ [] → ys ≡ []
second_none [] ys e = e
second_none (x ∷ xs) ys e = absurd (cc)

-- nothing waits
pub none_wait : (a : Option (List ℕ)) (waits : List ℕ) → waits ≡ [] → append_known a waits ≡ a
none_wait None waits e = refl
none_wait (Some xs) waits e = rw e (ap Some (append-nil xs))

-- a write that took some did not fail
pub took_some : {E : Type 0} (given n m k : ℕ) (r : Result ℕ E) → r ≡ Ok n → (n ≡ 0 → ⊥) → m ≡ k + write_failures given r → m ≡ k
took_some given n m k r is some e = let f = rw is at e in grind (arith, common_steps)

-- with room, none is taken only of none
pub took_all : (given count held : ℕ) → held < ROOM → count ≡ min given (ROOM - held) → ◌≡◌ {A = ℕ} (if nat_lt 0 given && (count == 0) then 1 else 0) 0
took_all given count held room is = grind (arith, common_steps)

comes_out_whole : (fault : ServeFault) (a : Option (List ℕ)) → ComesOut fault a a
comes_out_whole Read a = refl
comes_out_whole Write a = ([], appends_nothing a)
comes_out_whole OutOfMemory a = refl

-- with nothing waiting at both ends of a run
comes_out : (manner : Manner) (fault : ServeFault) (caller : ℕ) (session : Session) (unread left : Option (List ℕ)) (calls calls' : ℕ) (a b : Option (List ℕ)) (first last : List ℕ)
    → first ≡ [] → ((fault ≡ Write → ⊥) → last ≡ [])
    → (after : Session) × EndsEarlyIn manner fault caller session after unread left calls calls' (append_known a first) (append_known b last)
    → (after : Session) × (taken : Option (List ℕ)) × EndsEarlyIn manner fault caller session after unread left calls calls' a taken × ComesOut fault taken b
comes_out manner Read caller session unread left calls calls' a b first last e f (after, s) =
    (after, b, rw (none_wait a first e) at (rw (none_wait b last (f (λ h. cc))) at s), refl)
comes_out manner Write caller session unread left calls calls' a b first last e f (after, s) =
    (after, append_known b last, rw (none_wait a first e) at s, (last, appends_known b last))
comes_out manner OutOfMemory caller session unread left calls calls' a b first last e f (after, s) =
    (after, b, rw (none_wait a first e) at (rw (none_wait b last (f (λ h. cc))) at s), refl)

fault_comes_out : (manner : Manner) (r : Result ℕ ServeFault) (caller : ℕ) (session : Session) (unread left : Option (List ℕ)) (calls calls' : ℕ) (a b : Option (List ℕ)) (first last : List ℕ)
    → first ≡ [] → ((IsErrOf r Write → ⊥) → last ≡ [])
    → IfErr r (λ e. (after : Session) × EndsEarlyIn manner e caller session after unread left calls calls' (append_known a first) (append_known b last))
    → IfErr r (λ e. (after : Session) × (taken : Option (List ℕ)) × EndsEarlyIn manner e caller session after unread left calls calls' a taken × ComesOut e taken b)
fault_comes_out manner (Ok n) caller session unread left calls calls' a b first last e f s = tt
fault_comes_out manner (Err d) caller session unread left calls calls' a b first last e f s = comes_out manner d caller session unread left calls calls' a b first last e (λ other. f (λ h. other (cc))) s

answers_come_out : (manner : Manner) (r : Result ℕ ServeFault) (caller : ℕ) (session : Session) (unread left : Option (List ℕ)) (a b : Option (List ℕ)) (first last : List ℕ)
    → first ≡ [] → ((IsErrOf r Write → ⊥) → last ≡ [])
    → IfOk r (λ n. (after : Session) × AnswersIn manner caller n session after unread left (append_known a first) (append_known b last))
    → IfOk r (λ n. (after : Session) × AnswersIn manner caller n session after unread left a b)
answers_come_out manner (Ok n) caller session unread left a b first last e f (after, s) =
    (after, rw (none_wait a first e) at (rw (none_wait b last (f (λ h. cc))) at s))
answers_come_out manner (Err d) caller session unread left a b first last e f s = tt

-- a sink, and what waits before it
abbrev buffered : SinkState → List ℕ → SinkState
buffered out waits = record { contents = append_known out.contents waits; waiting = out.waiting ++ waits; failures = out.failures; flushes = out.flushes }

-- the streams were left so, whatever the sink took, and where nothing waits behind it
pub leaves_alike : (r : Result ℕ ServeFault) (unread left : SourceState) (known known' : Option (List ℕ)) (waits waits' : List ℕ) (out out' : SinkState)
    → LeavesStreams r unread left (record { contents = known; waiting = waits; failures = out.failures; flushes = out.flushes })
    (record { contents = known'; waiting = waits'; failures = out'.failures; flushes = out'.flushes })
    → (waits' ≡ [] → out'.waiting ≡ []) → LeavesStreams r unread left out out'
leaves_alike r unread left known known' waits waits' out out' s none = record {
  found = s.found;
  not_found = s.not_found;
  ends = s.ends;
  reads = s.reads;
  pieces = s.pieces;
  each = s.each;
  read = s.read;
  no_read_fault = s.no_read_fault;
  write = s.write;
  flushes = s.flushes;
  sent = λ h. none (s.sent h);
}

-- a site was served through a buffer
pub served_through : (manner : Manner) (r : Result ℕ ServeFault) (site : Config) (unread left : SourceState) (out out' : SinkState) (first last : List ℕ) → first ≡ []
    → IfOk r (λ n. (after : Session) × AnswersIn manner 0 n (at_opening site) after unread.remaining left.remaining (append_known out.contents first) (append_known out'.contents last))
    → IfErr r (λ e. (after : Session) × EndsEarlyIn manner e 0 (at_opening site) after unread.remaining left.remaining unread.calls left.calls
    (append_known out.contents first) (append_known out'.contents last))
    → LeavesStreams r unread left (buffered out first) (buffered out' last) → IsServed manner site r unread left out out'
served_through manner r site unread left out out' first last none ok fault s =
    let sent : (IsErrOf r Write → ⊥) → last ≡ [] = λ h. second_none out'.waiting last (s.sent h) in
    record {
      ok = answers_come_out manner r 0 (at_opening site) unread.remaining left.remaining out.contents out'.contents first last none sent ok;
      fault = fault_comes_out manner r 0 (at_opening site) unread.remaining left.remaining unread.calls left.calls out.contents out'.contents first last none sent fault;
      streams = leaves_alike r unread left (append_known out.contents first) (append_known out'.contents last) (out.waiting ++ first) (out'.waiting ++ last) out out' s (first_none out'.waiting last);
    }

-- there was no memory for the buffer
pub served_at_once : (manner : Manner) (e : ServeFault) (site : Config) (unread : SourceState) (out out' : SinkState)
    → EndsEarlyIn manner e 0 (at_opening site) (at_opening site) unread.remaining unread.remaining unread.calls unread.calls out.contents out'.contents
    → LeavesStreams (Err e) unread unread out out' → IsServed manner site (Err e) unread unread out out'
served_at_once manner e site unread out out' early s =
    record { ok = tt; fault = (at_opening site, out'.contents, early, comes_out_whole e out'.contents); streams = s }
