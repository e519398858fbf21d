-- What comes of a run, and what comes out of it.
use Rattle.std.proofs.Common.{◌≡◌, ◌∙◌, ◌<◌, ◌≤◌, ◌+◌, ◌++◌, ℕ, List, [], Option, None, Some, Result, Ok, Err, length, slice_get, get_or, refl, ap, subst, sym, Bool, true, false, if◌then◌else◌, ⊎_elim, arith, flat_map, map}
use Rattle.std.proofs.lemmas.Option.{slice_get_cases, slice_get_within}
use Rattle.std.specs.Prelude.{MatchOption, is_some}
use Rattle.std.specs.Result.{IfErr, OnOk}
use Rattle.std.specs.Io.KnownBytes.{Appends, Keeps, append_known}
use Rattle.esx_types.specs.declared.ends.SinkFailed.{SinkFailed}
use Rattle.esx_types.specs.declared.config.Config.{Config}
use Rattle.esx_events.specs.declared.call.Line.{Line}
use Rattle.esx_events.specs.declared.event.Refusal.{Refusal}
use Rattle.esx_model.specs.Console.{Session}
use Rattle.esx_console.specs.Calls.{opened_session}
use Rattle.esx_scenario.specs.Plans.{Plan}
use Rattle.esx_refused.specs.declared.coming.RefusedOpening.{RefusedOpening}
use Rattle.esx_refused.specs.Refused.{first_refused}
use Rattle.esx_scenario.specs.declared.plan.Guest.{Guest}
use Rattle.esx_opening.specs.Openings.{opening_events, IsRefusedAt}
use Rattle.esx_opening.specs.Orders.{in_order}
use Rattle.esx_opening.specs.declared.opening.SiteFault.{SiteFault}
use Rattle.esx_opening.specs.declared.opening.SiteFault.TheVariants as site
use Rattle.esx_workers.specs.declared.end.End.{End}
use Rattle.esx_work.specs.Runs.{RunsOn}
use Rattle.esx_work.specs.Sites.{IsRunOf}
use Rattle.esx_writing.specs.Writing.{Writes, WritesFront, sink_faults}
use Rattle.esx_session.specs.Sessions.{session_text, logged}
use Rattle.esx_text.specs.States.{SinkState}
use Rattle.esx_program.specs.declared.ends.Ending.{Ending}
use Rattle.esx_program.specs.declared.ends.Name.{Name}
use Rattle.esx_program.specs.declared.running.RunFault.{RunFault}
use Rattle.esx_program.specs.declared.running.RunFault.TheVariants.{Refused, RefusedAt, Write, OutOfMemory}
use Rattle.esx_program.specs.Ends.{endings, ending_text, workers_named}
use Rattle.esx_program.specs.Runs.{AreTold, IsNamedTo, IsPlayed, IsRefusedOpening, IsWithMachine, NotPlayed, Plays, RefusesMachine, RunStops, StopsTelling, fault_of, told_session, written_as}
use Rattle.esx_program.proofs.OutgoingLemmas.{appends_known, none_wait, second_none, writes_kept}

-- the session of a console, whose site and log are told
pub writes_session : {E : Type 0} (r : Result (Unit {0}) E) (a b c : Option (List ℕ)) (site site' : Config) (log log' : List Line) → site' ≡ site → log' ≡ log
    → Appends a b (session_text site' (map logged log')) → Keeps b c → Writes a c (session_text site (map logged log)) r
writes_session r a b c site site' log log' s l p k = writes_kept r a b c (session_text site (map logged log))
    (subst (λ (z : Config). Appends a b (session_text z (map logged log))) s (subst (λ (z : List Line). Appends a b (session_text site' (map logged z))) l p)) k

pub session_comes_out : {E : Type 0} (r : Result (Unit {0}) E) (a b : Option (List ℕ)) (first more last text : List ℕ)
    → first ≡ [] → OnOk r (more ++ last ≡ []) → Writes (append_known a first) (append_known b last) text r → OnOk r (Appends a b text)
session_comes_out (Ok v) a b first more last text e s w = rw (none_wait a first e) at (rw (none_wait b last (second_none more last s)) at w)
session_comes_out (Err d) a b first more last text e s w = tt

pub front_comes_out : {E : Type 0} (r : Result (Unit {0}) E) (a b : Option (List ℕ)) (first last text : List ℕ)
    → first ≡ [] → Writes (append_known a first) (append_known b last) text r → IfErr r (λ e. (taken : Option (List ℕ)) × WritesFront a taken text × (rest : List ℕ) × Appends b taken rest)
front_comes_out (Ok v) a b first last text e w = tt
front_comes_out (Err d) a b first last text e w = (append_known b last, rw (none_wait a first e) at w, last, appends_known b last)

-- there is a gate for each worker
pub all_run : {G : Type 0} (gates : List G) (p : Plan) (opened : Session) (n : ℕ) (ends : List End) (console : Session) → length gates ≡ n → length ends ≡ n
    → RunsOn opened n (λ k e lines. (gate : G) → slice_get gates k ≡ Some gate → IsRunOf p (Unit {0}) k e lines) ends console
    → RunsOn opened n (λ k e lines. IsRunOf p (Unit {0}) k e lines) ends console
all_run {G = G} gates p opened n ends console many same on = record {
  site = on.site;
  later = on.later;
  log = on.log;
  below = on.below;
  runs = λ k e at.
      let lt : k < length ends = slice_get_within ends k e at in
      let low : k < length gates = omega (arith, lt, many, same) in
      let gate = gate_at k low in
      on.runs k e at gate.0 gate.1;
}
  where
    gate_at : (k : ℕ) → k < length gates → (x : G) × (slice_get gates k ≡ Some x)
    gate_at k lt = ⊎_elim
        (λ (t : (x : G) × (k < length gates) × (slice_get gates k ≡ Some x) × (get_or gates k x ≡ x)). (t.0, t.2))
        (λ (t : (length gates ≤ k) × (slice_get gates k ≡ None)). let past : length gates ≤ k = t.0 in absurd (omega arith))
        (slice_get_cases gates k).1

-- a site that was not opened
pub not_opened : (f : SiteFault) (p : Plan) → ((e : Refusal) → f ≡ site.Refused e → IsRefusedOpening p e) → NotPlayed (fault_of f) p
not_opened (site.Refused e) p told = told e refl
not_opened site.OutOfMemory p told = tt

-- the ends of the workers of a scenario
pub endings_told : (all : List Ending) (names names' : List Name) (ends ends' : List End) (guests guests' : List Guest) → all ≡ endings names' ends' → names' ≡ names → ends' ≡ ends
    → names ≡ workers_named (in_order guests') → guests' ≡ guests → all ≡ endings (workers_named (in_order guests)) ends
endings_told all names names' ends ends' guests guests' is n e named same =
    is ∙ (ap (λ (v : List Name). endings v ends') (n ∙ (named ∙ ap (λ (v : List Guest). workers_named (in_order v)) same)) ∙ ap (λ (v : List End). endings (workers_named (in_order guests)) v) e)

-- where there was no run
nothing_told : (e : RunFault) (p : Plan) (errors out : SinkState) → NotPlayed e p → RunStops e p errors errors out out
nothing_told (Refused x) p errors out n = (n, refl, refl)
nothing_told (RefusedAt x machine) p errors out n = absurd n
nothing_told Write p errors out n = absurd n
nothing_told OutOfMemory p errors out n = (refl, refl)

-- the machine that was found is that of the scenario, and the refusal is its own
module _ (e : Refusal) (p : Plan) (site : Config) (guests : List Guest) (is_site : site ≡ p.site) (are_guests : guests ≡ p.guests) (refused : IsRefusedOpening p e) where
  pub refused_there : IsRefusedAt (opening_events guests) (opened_session site) e
  refused_there = subst (λ (c : Config). IsRefusedAt (opening_events guests) (opened_session c) e) (sym is_site)
      (subst (λ (gs : List Guest). IsRefusedAt (opening_events gs) (opened_session p.site) e) (sym are_guests) refused)

  pub machine_is_named : (machine : RefusedOpening) → Some machine ≡ first_refused site guests → machine.refusal ≡ e → RefusesMachine p e machine
  machine_is_named machine first same = (refused, ap (λ (c : Config). first_refused c p.guests) (sym is_site) ∙ (ap (first_refused site) (sym are_guests) ∙ sym first), same)

-- there was no run for the same cause, where its machine is named
with_machine_told : (fault told : RunFault) (p : Plan) (errors out : SinkState) → NotPlayed fault p → IsWithMachine p fault told → RunStops told p errors errors out out × IsNamedTo true told
with_machine_told (Refused e) told p errors out n w = rw w.1 ((w.2, refl, refl), refl)
with_machine_told (RefusedAt e machine) told p errors out n w = absurd n
with_machine_told Write told p errors out n w = absurd n
with_machine_told OutOfMemory told p errors out n w = rw w ((refl, refl), tt)

without_machine_told : (fault : RunFault) (p : Plan) → NotPlayed fault p → IsNamedTo false fault
without_machine_told (Refused e) p n = refl
without_machine_told (RefusedAt e machine) p n = absurd n
without_machine_told Write p n = absurd n
without_machine_told OutOfMemory p n = tt

pub stops_unplayed : {A : Type 0} (to : Option A) (fault told : RunFault) (p : Plan) (errors out : SinkState) → NotPlayed fault p → MatchOption to (told ≡ fault) (λ _. IsWithMachine p fault told)
    → RunStops told p errors errors out out × IsNamedTo (is_some to) told
stops_unplayed None fault told p errors out n is = rw is (nothing_told fault p errors out n, without_machine_told fault p n)
stops_unplayed (Some x) fault told p errors out n w = with_machine_told fault told p errors out n w

-- a failed write names no machine
pub write_named : (b : Bool) (r : Result (Unit {0}) RunFault) (stops : RunFault → Type 0) → IfErr r (λ e. (e ≡ Write) × stops e) → IfErr r (λ e. IsNamedTo b e)
write_named b (Ok v) stops s = tt
write_named b (Err e) stops s = rw s.0 tt

-- what came out of a buffer of a session
module _ (console : Session) (out out' : SinkState) where
  pub session_told_ok : (r : Result (Unit {0}) SinkFailed) → OnOk r (Appends out.contents out'.contents (told_session console))
      → out'.failures ≡ out.failures + sink_faults r → out'.flushes + sink_faults r ≡ out.flushes + 1 → OnOk r (out'.waiting ≡ [])
      → OnOk (written_as r) (Appends out.contents out'.contents (told_session console) × (out'.failures ≡ out.failures) × (out'.flushes ≡ out.flushes + 1) × (out'.waiting ≡ []))
  session_told_ok (Ok v) told failures flushes sent = (told, omega (arith, failures), omega (arith, flushes), sent)
  session_told_ok (Err e) told failures flushes sent = tt

  pub session_told_err : (r : Result (Unit {0}) SinkFailed)
      → IfErr r (λ e. (taken : Option (List ℕ)) × WritesFront out.contents taken (told_session console) × (rest : List ℕ) × Appends out'.contents taken rest)
      → out'.failures ≡ out.failures + sink_faults r → out'.flushes + sink_faults r ≡ out.flushes + 1
      → IfErr (written_as r) (λ e. (e ≡ Write) × StopsTelling console out out')
  session_told_err (Ok v) stops failures flushes = tt
  session_told_err (Err e) stops failures flushes =
      (refl, record { taken = stops.0; front = stops.1; rest = stops.2; out_of_it = stops.3; failures = failures; flushes = omega (arith, flushes) })

module _ (p : Plan) (console : Session) (ends : List End) (played : IsPlayed p console ends) (all : List Ending) (are : all ≡ endings (workers_named (in_order p.guests)) ends)
    (errors errors' : SinkState) (told : Result (Unit {0}) SinkFailed) (ends_told : Writes errors.contents errors'.contents (flat_map ending_text all) told)
    (failures : errors'.failures ≡ errors.failures + sink_faults told) (flushes : errors'.flushes + sink_faults told ≡ errors.flushes + 1) (sent : OnOk told (errors'.waiting ≡ [])) (out out' : SinkState) where
  ends_are_told : AreTold p ends errors errors'
  ends_are_told = record {
    ended = told;
    written = subst (λ (l : List Ending). Writes errors.contents errors'.contents (flat_map ending_text l) told) are ends_told;
    failures = failures;
    flushes = flushes;
    sent = sent;
  }

  pub plays : (r : Result (Unit {0}) RunFault) → OnOk r (Appends out.contents out'.contents (told_session console) × (out'.failures ≡ out.failures) × (out'.flushes ≡ out.flushes + 1) × (out'.waiting ≡ []))
      → OnOk r (Plays p errors errors' out out')
  plays (Ok v) s = record { console = console; ends = ends; played = played; told = ends_are_told; session_told = s.0; failures = s.1; flushes = s.2; sent = s.3 }
  plays (Err e) s = tt

  stops_at : (e : RunFault) → e ≡ Write → StopsTelling console out out' → RunStops e p errors errors' out out'
  stops_at e is stops_telling = rw is (record { console = console; ends = ends; played = played; told = ends_are_told; stops = stops_telling })

  pub stops : (r : Result (Unit {0}) RunFault) → IfErr r (λ e. (e ≡ Write) × StopsTelling console out out') → IfErr r (λ e. RunStops e p errors errors' out out')
  stops (Ok v) s = tt
  stops (Err e) s = stops_at e s.0 s.1
