-- The calls of a session without their replies make the same events.
use Rattle.std.proofs.Common.{◌≡◌, ℕ, zero, suc, ◌<◌, List, [], ◌∷◌, ◌++◌, length, map, get_or, slice_get, Option, Some, None, refl, sym, ◌∙◌, ap, append_assoc, append-nil, is_some}
use Rattle.std.specs.Prelude.{option_map, IsSome}
use Rattle.std.specs.List.{AllByRecursion}
use Rattle.std.proofs.lemmas.List.{map-append, length-map}
use Rattle.std.proofs.lemmas.Option.{slice_get-map, slice_get-get_or}
use Rattle.esx_types.specs.declared.config.Config.{Config}
use Rattle.esx_events.specs.declared.event.Event.{Event}
use Rattle.esx_events.specs.declared.call.Call.{Call}
use Rattle.esx_events.specs.declared.call.Line.{Line}
use Rattle.esx_model.specs.Console.{Session, next_reply, lined}
use Rattle.esx_console.specs.Calls.{Asked, opened_session, lined_all}
use Rattle.esx_session.specs.declared.session.Entry.{Entry}
use Rattle.esx_session.specs.declared.session.Request.{Request}
use Rattle.esx_session.specs.Sessions.{request}
use Rattle.esx_check.specs.Again.{asked, made}
use Rattle.esx_paths.specs.declared.way.Waypoint.{Waypoint}
use Rattle.esx_paths.specs.Paths as paths
use Rattle.esx_paths.specs.Paths.{line_numbered, event_of, event_by}
use Rattle.esx_account.specs.Asking.{call_asked, event_in, event_asked}
use Rattle.esx_account.specs.Surveying.{AreEvents}

abbrev call_in : Line → Call
call_in x = x.call

abbrev call_by : Asked → Call
call_by x = x.call

abbrev call_at : Entry → Call
call_at e = e.call

abbrev call_wanted : Request → Call
call_wanted r = r.call

-- the calls of a log are those that were made, in their order
all_calls : (s : Session) (xs : List Asked) → map call_in (lined_all s xs).log ≡ map call_in s.log ++ map call_by xs
unfolding lined_all
all_calls s [] = sym (append-nil (map call_in s.log))
all_calls s (x ∷ xs) =
    let line : Line = record { caller = x.caller; call = x.call; reply = next_reply s x.call } in
    all_calls (lined s x.caller x.call) xs
    ∙ ap (λ calls. calls ++ map call_by xs) (map-append call_in s.log (line ∷ []))
    ∙ append_assoc (map call_in s.log) (x.call ∷ []) (map call_by xs)

calls_asked : (entries : List Entry) → map call_by (map asked entries) ≡ map call_at entries
calls_asked [] = refl
calls_asked (e ∷ entries) = ap (λ calls. e.call ∷ calls) (calls_asked entries)

calls_wanted : (entries : List Entry) → map call_wanted (map request entries) ≡ map call_at entries
calls_wanted [] = refl
calls_wanted (e ∷ entries) = ap (λ calls. e.call ∷ calls) (calls_wanted entries)

made_calls : (site : Config) (entries : List Entry) → map call_in (made site entries).log ≡ map call_at entries
unfolding made
made_calls site entries = all_calls (opened_session site) (map asked entries) ∙ calls_asked entries

-- as many as the session has entries
pub log_long : (site : Config) (entries : List Entry) → length (made site entries).log ≡ length entries
log_long site entries = sym (length-map (made site entries).log call_in) ∙ ap length (made_calls site entries) ∙ length-map entries call_at

-- the event of the call that has a number, in a list of calls
abbrev numbered : List Call → ℕ → Option Event
numbered calls zero = None
numbered calls (suc k) = event_in (slice_get calls k)

by_line : (o : Option Line) → paths.event_in o ≡ event_in (option_map call_in o)
by_line None = refl
by_line (Some x) = refl

by_log : (log : List Line) (number : ℕ) → paths.event_in (line_numbered log number) ≡ numbered (map call_in log) number
by_log log zero = refl
by_log log (suc k) = by_line (slice_get log k) ∙ ap event_in (sym (slice_get-map call_in log k))

by_requests : (requests : List Request) (number : ℕ) → event_asked requests number ≡ numbered (map call_wanted requests) number
by_requests requests zero = refl
by_requests requests (suc k) = ap event_in (sym (slice_get-map call_wanted requests k))

same_event : (site : Config) (entries : List Entry) (number : ℕ) → event_asked (map request entries) number ≡ event_by (made site entries) number
same_event site entries number =
    by_requests (map request entries) number
    ∙ ap (λ calls. numbered calls number) (calls_wanted entries ∙ sym (made_calls site entries))
    ∙ sym (by_log (made site entries).log number)

-- the events of the calls of some waypoints
pub same_events : (site : Config) (entries : List Entry) (requests : List Request) (waypoints : List Waypoint) → requests ≡ map request entries
    → map (λ (w : Waypoint). event_asked requests w.call) waypoints ≡ map (λ (w : Waypoint). event_by (made site entries) w.call) waypoints
same_events site entries requests [] calls = refl
same_events site entries requests (w ∷ waypoints) calls =
    ap (λ o. o ∷ map (λ (w : Waypoint). event_asked requests w.call) waypoints) (ap (λ rs. event_asked rs w.call) calls ∙ same_event site entries w.call)
    ∙ ap (λ os. event_by (made site entries) w.call ∷ os) (same_events site entries requests waypoints calls)

-- The event of a waypoint.

some_event : (o : Option Event) (found : Option Event) → option_map (λ (e : Event). Some e) o ≡ Some found → (e : Event) × (o ≡ Some e) × (found ≡ Some e)
some_event None found is = cc
some_event (Some e) found is = (e, refl, (let same : Some e ≡ found = cc in sym same))

event_there : (requests : List Request) (waypoints : List Waypoint) (es : List Event) (i : ℕ) (d : Waypoint)
    → AreEvents requests waypoints es → i < length waypoints
    → (e : Event) × (slice_get es i ≡ Some e) × (event_asked requests (get_or waypoints i d).call ≡ Some e)
event_there requests waypoints es i d events below =
    let of : Waypoint → Option Event = λ (v : Waypoint). event_asked requests v.call in
    let some : Event → Option Event = λ (e : Event). Some e in
    some_event (slice_get es i) (event_asked requests (get_or waypoints i d).call)
    (sym (slice_get-map some es i) ∙ ap (λ os. slice_get os i) (sym events) ∙ slice_get-map of waypoints i ∙ ap (option_map of) (slice_get-get_or waypoints i d below))

pub event_is_asked : (requests : List Request) (waypoints : List Waypoint) (es : List Event) (i : ℕ) (d : Waypoint)
    → AreEvents requests waypoints es → i < length waypoints → IsSome (event_asked requests (get_or waypoints i d).call)
event_is_asked requests waypoints es i d events below = ap is_some (event_there requests waypoints es i d events below).2

-- and what is asked is the event of the path
pub event_is : (requests : List Request) (waypoints : List Waypoint) (es : List Event) (i : ℕ) (d : Waypoint) (e : Event)
    → AreEvents requests waypoints es → i < length waypoints → event_asked requests (get_or waypoints i d).call ≡ Some e → slice_get es i ≡ Some e
event_is requests waypoints es i d e events below asked = (let there = event_there requests waypoints es i d events below in there.1 ∙ sym there.2 ∙ asked)

-- Each waypoint's call is one of those that were made.

a_call : (o : Option Call) (e : Event) → event_in o ≡ Some e → IsSome o
a_call None e is = cc
a_call (Some call) e is = refl

pub all_asked : (requests : List Request) (waypoints : List Waypoint) (es : List Event) → AreEvents requests waypoints es
    → AllByRecursion (λ (w : Waypoint). IsSome (call_asked requests w.call)) waypoints
all_asked requests [] es events = tt
all_asked requests (w ∷ waypoints) [] events = cc
all_asked requests (w ∷ waypoints) (e ∷ es) events =
    let of : Waypoint → Option Event = λ (v : Waypoint). event_asked requests v.call in
    let some : Event → Option Event = λ (x : Event). Some x in
    let whole : of w ∷ map of waypoints ≡ Some e ∷ map some es = events in
    let parts = both (of w) (Some e) (map of waypoints) (map some es) whole in
    (a_call (call_asked requests w.call) e parts.0, all_asked requests waypoints es parts.1)
  where
    both : (x y : Option Event) (xs ys : List (Option Event)) → x ∷ xs ≡ y ∷ ys → (x ≡ y) × (xs ≡ ys)
    both x y xs ys e = ((cc), (cc))
