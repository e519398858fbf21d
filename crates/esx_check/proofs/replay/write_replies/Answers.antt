use Rattle.std.proofs.Common.{Err, ◌≡◌, ◌∷◌, [], length-append, sym, ◌∙◌, ap, refl, rules, arith}
use Rattle.std.proofs.lemmas.List.{nil_from_length}
use Rattle.esx_check.specs.Again.{made}
use Rattle.esx_check.proofs.ReplayLemmas.{nothing_replayed, one_more_replayed, stops_at_request, all_replayed, stops_at_table, writes_table, handed_on}
use Rattle.esx_check.proofs.replay.write_replies.Goals as goal

pub loop-request-init : goal.loop-request-init
loop-request-init g c = record {
  can_next = tt;
  is_finite = tt;
  few = omega (arith, c.requires.none);
  held = c.requires.empty;
  so_far = λ site entries answers are. nothing_replayed site entries _ _ _ _ answers are (search rules);
  failures = refl;
  flushes = refl;
}

pub loop-request-preserved : goal.loop-request-preserved
loop-request-preserved g c =
    let inv = c.loop-request.invariant in
    let step : c.loop-request.request-iterator.rest.items ≡ c.in-Some.request ∷ c.next.new.self.rest.items = c.in-Some.ensures.steps.0 in
    let is = c.in_ok-written.ensures in
    record {
      can_next = tt;
      is_finite = tt;
      few = omega (arith, is.few, inv.few, length-append c.loop-request.yielded (c.in-Some.request ∷ []));
      held = is.empty;
      so_far = λ site entries answers are.
          let so_far = inv.so_far site entries answers are in
          one_more_replayed site entries _ _ c.in-Some.request _ _ _ _ so_far step _ is.made (is.written (made site so_far.done) so_far.answers);
      failures = omega (arith, is.failures, inv.failures);
      flushes = is.flushes ∙ inv.flushes;
    }

pub returns-in_err-written-clause-fault : goal.returns-in_err-written-clause-fault
returns-in_err-written-clause-fault g c = λ site entries answers are.
    let so_far = c.loop-request.invariant.so_far site entries answers are in
    let step : c.loop-request.request-iterator.rest.items ≡ c.in-Some.request ∷ c.next.new.self.rest.items = c.in-Some.ensures.steps.0 in
    let stops = c.in_err-written.ensures in
    handed_on c.from_residual.result c.in_err-written.field-0.0 _ c.from_residual.ensures.1
    (stops_at_request site entries _ _ c.in-Some.request _ _ _ _ so_far step c.in_err-written.field-0.0 (stops.fault (made site so_far.done) so_far.answers)
    (λ is. record { may = stops.room (ap Err is); comes = stops.there (made site so_far.done) so_far.answers (ap Err is) }))

pub returns-clause-ok : goal.returns-clause-ok
returns-clause-ok g c = λ site entries answers are.
    let so_far = c.loop-request.invariant.so_far site entries answers are in
    let none : c.loop-request.request-iterator.rest.items ≡ [] = nil_from_length _ (sym c.loop-request.request-iterator.rest.ok.0 ∙ c.in-None.ensures.steps.0) in
    writes_table c.write_reply_to.result site entries so_far.done _ _ _ _
    (all_replayed site entries _ _ _ _ so_far none) refl so_far.written (c.write_reply_to.ensures.written (made site so_far.done) so_far.answers)

pub returns-clause-fault : goal.returns-clause-fault
returns-clause-fault g c = λ site entries answers are.
    let so_far = c.loop-request.invariant.so_far site entries answers are in
    let none : c.loop-request.request-iterator.rest.items ≡ [] = nil_from_length _ (sym c.loop-request.request-iterator.rest.ok.0 ∙ c.in-None.ensures.steps.0) in
    stops_at_table c.write_reply_to.result site entries so_far.done _ _ _ _
    (all_replayed site entries _ _ _ _ so_far none) refl so_far.written (c.write_reply_to.ensures.fault (made site so_far.done) so_far.answers)
