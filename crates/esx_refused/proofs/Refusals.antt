-- The machine that is told is that of the call that the opening was refused at.
use Rattle.std.proofs.Common.{◌≡◌, ℕ, zero, suc, true, List, [], ◌∷◌, ◌++◌, replicate, refl, sym, ap, ◌∙◌, subst, Option, Some, None, Result, Ok, Err, IfSome, IfNone}
use Rattle.std.specs.Prelude.{IsSomeAnd}
use Rattle.std.proofs.lemmas.Bool.{false≢true}
use Rattle.std.specs.List.{AllByRecursion, flat_map}
use Rattle.esx_types.specs.declared.config.Config.{Config}
use Rattle.esx_events.specs.declared.event.Answer.{Answer}
use Rattle.esx_events.specs.declared.event.Event.{Event}
use Rattle.esx_events.specs.declared.event.Event.TheVariants.{Admit, Start}
use Rattle.esx_events.specs.declared.event.Refusal.{Refusal}
use Rattle.esx_events.specs.declared.call.Call.TheVariants as calls
use Rattle.esx_events.specs.declared.call.Said.TheVariants as said
use Rattle.esx_scenario.specs.declared.plan.Guest.{Guest}
use Rattle.esx_model.specs.Memory.{names}
use Rattle.esx_model.specs.Guests.{is_opening}
use Rattle.esx_model.specs.History.{History, opened, do_event}
use Rattle.esx_model.specs.Console.{Session, history, history_from, outcome, event_outcome, next_reply, lined}
use Rattle.esx_model.proofs.Callers.{eqb_same, all_append}
use Rattle.esx_console.specs.Calls.{opened_session}
use Rattle.esx_console.proofs.Logs.{lined_history}
use Rattle.esx_opening.specs.Orders.{in_order}
use Rattle.esx_opening.specs.Openings.{IsAccepted, AreAccepted, IsRefusedAt, admit_of, starts_of, opening_events}
use Rattle.esx_refused.specs.declared.coming.RefusedOpening.{RefusedOpening}
use Rattle.esx_refused.specs.Refused.{refused_by, refused_or, refused_from, first_refused, IsRefusedOf}

-- What is said to an event, and what it leads to.

said_refused : (x e : Refusal) → said.Refused x ≡ said.Refused e → x ≡ e
said_refused x e is = cc

heard_refused : (h : History) (r : Result (Answer × History) Refusal) (e : Refusal) → (event_outcome h r).0 ≡ said.Refused e → r ≡ Err e
heard_refused h (Ok r) e is = (let no = is in cc)
heard_refused h (Err x) e is = ap Err (said_refused x e is)

heard_done : (h : History) (r : Result (Answer × History) Refusal) (a : Answer) → (event_outcome h r).0 ≡ said.Done a → (q : Answer × History) × (r ≡ Ok q)
heard_done h (Ok q) a is = (q, refl)
heard_done h (Err x) a is = (let no = is in cc)

refused_event : (s : Session) (event : Event) (e : Refusal) → (next_reply s (calls.Do event)).said ≡ said.Refused e → do_event event (history s) ≡ Err e
unfolding next_reply outcome
refused_event s event e is = heard_refused (history s) (do_event event (history s)) e is

done_event : (s : Session) (event : Event) → IsAccepted (next_reply s (calls.Do event)) → (q : Answer × History) × (do_event event (history s) ≡ Ok q)
unfolding next_reply outcome
done_event s event is = heard_done (history s) (do_event event (history s)) is.0 is.1

reply_refused : (s : Session) (event : Event) (e : Refusal) → do_event event (history s) ≡ Err e → (next_reply s (calls.Do event)).said ≡ said.Refused e
unfolding next_reply outcome
reply_refused s event e is = ap (λ r. (event_outcome (history s) r).0) is

reply_done : (s : Session) (event : Event) (q : Answer × History) → do_event event (history s) ≡ Ok q → IsAccepted (next_reply s (calls.Do event))
unfolding next_reply outcome
reply_done s event q is = (q.0, ap (λ r. (event_outcome (history s) r).0) is)

history_done : (s : Session) (event : Event) (q : Answer × History) → do_event event (history s) ≡ Ok q → history (lined s 0 (calls.Do event)) ≡ q.1
unfolding outcome
history_done s event q is = lined_history s 0 (calls.Do event) ∙ ap (λ r. (event_outcome (history s) r).1) is

-- The first of some events that is refused.

from_done : (s : Session) (event : Event) (later : List Event) (q : Answer × History) → do_event event (history s) ≡ Ok q
    → refused_from (history s) (event ∷ later) ≡ refused_from (history (lined s 0 (calls.Do event))) later
unfolding refused_from
from_done s event later q is =
    ap (λ r. refused_or (history s) event r (λ h. refused_from h later)) is ∙ ap (λ h. refused_from h later) (sym (history_done s event q is))

from_refused : (s : Session) (event : Event) (later : List Event) (e : Refusal) → do_event event (history s) ≡ Err e → refused_from (history s) (event ∷ later) ≡ refused_by (history s) event e
unfolding refused_from
from_refused s event later e is = ap (λ r. refused_or (history s) event r (λ h. refused_from h later)) is

abbrev pub AreOpening : List Event → Type 0
AreOpening events = AllByRecursion (λ e. is_opening e ≡ true) events

-- an admission or a start that is refused is told with its machine and its refusal
record Tells (o : Option RefusedOpening) (event : Event) (e : Refusal) : Type 0 where
  machine : RefusedOpening
  is : o ≡ Some machine
  refusal : machine.refusal ≡ e
  named : names machine.vm event ≡ true

tells : (h : History) (event : Event) (e : Refusal) → is_opening event ≡ true → Tells (refused_by h event e) event e
tells h (Admit n spec) e is = record { machine = _; is = refl; refusal = refl; named = eqb_same n }
tells h (Start n) e is = record { machine = _; is = refl; refusal = refl; named = eqb_same n }
tells h event e is = absurd (false≢true is)

-- the refusal is told
refused_before : (s at : Session) (before : List Event) (event : Event) (later : List Event) (e : Refusal) → AreOpening (before ++ event ∷ later) → AreAccepted before s at
    → (next_reply at (calls.Do event)).said ≡ said.Refused e → (m : RefusedOpening) × (refused_from (history s) (before ++ event ∷ later) ≡ Some m) × (m.refusal ≡ e)
unfolding AreAccepted
refused_before s at [] event later e are accepted refused =
    let here : do_event event (history s) ≡ Err e = refused_event s event e (ap (λ (x : Session). (next_reply x (calls.Do event)).said) (sym accepted) ∙ refused) in
    let told = tells (history s) event e are.0 in
    (told.machine, from_refused s event later e here ∙ told.is, told.refusal)
refused_before s at (x ∷ before) event later e are accepted refused =
    let one = done_event s x accepted.0 in
    let rest = refused_before (lined s 0 (calls.Do x)) at before event later e are.1 accepted.1 refused in
    (rest.0, from_done s x (before ++ event ∷ later) one.0 one.1 ∙ rest.1, rest.2)

-- what comes of events in turn: all are accepted, or one is refused and is told
abbrev pub Ends : List Event → Session → Option RefusedOpening → Type 0
Ends events s None = (t : Session) × AreAccepted events s t
Ends events s (Some m) = (at : IsRefusedAt events s m.refusal) × (names m.vm at.event ≡ true)

ends_on : (event : Event) (later : List Event) (s : Session) → IsAccepted (next_reply s (calls.Do event)) → (o : Option RefusedOpening) → Ends later (lined s 0 (calls.Do event)) o → Ends (event ∷ later) s o
unfolding AreAccepted
ends_on event later s is None rest = (rest.0, (is, rest.1))
ends_on event later s is (Some m) rest = (
  record {
    before = event ∷ rest.0.before;
    event = rest.0.event;
    later = rest.0.later;
    are = ap (λ es. event ∷ es) rest.0.are;
    at = rest.0.at;
    accepted = (is, rest.0.accepted);
    refused = rest.0.refused;
  },
  rest.1,
)

ends_here : (event : Event) (later : List Event) (s : Session) (e : Refusal) → (next_reply s (calls.Do event)).said ≡ said.Refused e → (o : Option RefusedOpening) → Tells o event e → Ends (event ∷ later) s o
unfolding AreAccepted
ends_here event later s e is o told =
    let at : IsRefusedAt (event ∷ later) s told.machine.refusal =
    record { before = []; event = event; later = later; are = refl; at = s; accepted = refl; refused = is ∙ ap said.Refused (sym told.refusal) } in
    subst (Ends (event ∷ later) s) (sym told.is) (at, told.named)

ends_next : (event : Event) (later : List Event) (s : Session) → is_opening event ≡ true → (r : Result (Answer × History) Refusal) → do_event event (history s) ≡ r
    → Ends later (lined s 0 (calls.Do event)) (refused_from (history (lined s 0 (calls.Do event))) later) → Ends (event ∷ later) s (refused_from (history s) (event ∷ later))
ends_next event later s opens (Ok q) is rest = subst (Ends (event ∷ later) s) (sym (from_done s event later q is)) (ends_on event later s (reply_done s event q is) _ rest)
ends_next event later s opens (Err e) is rest =
    let told = tells (history s) event e opens in
    ends_here event later s e (reply_refused s event e is) _ (record { machine = told.machine; is = from_refused s event later e is ∙ told.is; refusal = told.refusal; named = told.named })

none_left : (s : Session) → Ends [] s (refused_from (history s) [])
unfolding refused_from AreAccepted
none_left s = (s, refl)

ends_so : (events : List Event) (s : Session) → AreOpening events → Ends events s (refused_from (history s) events)
ends_so [] s are = none_left s
ends_so (event ∷ later) s are = ends_next event later s are.0 _ refl (ends_so later (lined s 0 (calls.Do event)) are.1)

-- The opening of a site.

many_starts : (n k : ℕ) → AreOpening (replicate k (Start n))
many_starts n zero = tt
many_starts n (suc k) = (refl, many_starts n k)

all_start : (gs : List Guest) → AreOpening (flat_map starts_of gs)
all_start [] = tt
all_start (g ∷ gs) = all_append (λ e. is_opening e ≡ true) (starts_of g) (flat_map starts_of gs) (many_starts g.vm g.spec.overhead) (all_start gs)

all_come : (gs : List Guest) → AreOpening (flat_map admit_of gs)
all_come [] = tt
all_come (g ∷ gs) = (refl, all_come gs)

opens : (guests : List Guest) → AreOpening (opening_events guests)
opens guests = all_append (λ e. is_opening e ≡ true) (flat_map admit_of (in_order guests)) (flat_map starts_of (in_order guests)) (all_come (in_order guests)) (all_start (in_order guests))

history_opened : (c : Config) → history (opened_session c) ≡ opened c
unfolding history_from
history_opened c = refl

first_is : (c : Config) (guests : List Guest) → refused_from (history (opened_session c)) (opening_events guests) ≡ first_refused c guests
first_is c guests = ap (λ h. refused_from h (opening_events guests)) (history_opened c)

-- what is found
module _ (c : Config) (guests : List Guest) (found : Option RefusedOpening) (is : found ≡ first_refused c guests) where
  ends_found : Ends (opening_events guests) (opened_session c) found
  ends_found = subst (Ends (opening_events guests) (opened_session c)) (first_is c guests ∙ sym is) (ends_so (opening_events guests) (opened_session c) (opens guests))

  pub found_refusal : (e : Refusal) → IsRefusedAt (opening_events guests) (opened_session c) e → IsSomeAnd found (λ m. m.refusal ≡ e)
  found_refusal e at =
      let events : List Event = at.before ++ at.event ∷ at.later in
      let told = refused_before (opened_session c) at.at at.before at.event at.later e (subst AreOpening (sym at.are) (opens guests)) at.accepted at.refused in
      let first : found ≡ Some told.0 = is ∙ sym (first_is c guests) ∙ ap (refused_from (history (opened_session c))) (sym at.are) ∙ told.1 in
      subst (λ o. IsSomeAnd o (λ m. m.refusal ≡ e)) (sym first) told.2

  pub found_machine : IfSome found (λ m. IsRefusedOf c guests m)
  found_machine = machine found ends_found
    where
      machine : (o : Option RefusedOpening) → Ends (opening_events guests) (opened_session c) o → IfSome o (λ m. IsRefusedOf c guests m)
      machine None e = tt
      machine (Some m) e = e

  pub none_found : IfNone found ((t : Session) × AreAccepted (opening_events guests) (opened_session c) t)
  none_found = none found ends_found
    where
      none : (o : Option RefusedOpening) → Ends (opening_events guests) (opened_session c) o → IfNone o ((t : Session) × AreAccepted (opening_events guests) (opened_session c) t)
      none None e = e
      none (Some m) e = tt
