use Rattle.std.proofs.Common.{flat_map, arith, ◌∙◌}
use Rattle.esx_report.specs.Guests.{guest_row}
use Rattle.esx_writing.proofs.WritingLemmas.{passes_more, passes_same, passes_stop, puts_error, flat_item_at, flat_item_more}
use Rattle.esx_report.proofs.csv_tables.put_guest_rows.Goals as goal

pub returns-in_err-put_guest-clause-bytes : goal.returns-in_err-put_guest-clause-bytes
returns-in_err-put_guest-clause-bytes g c =
    puts_error (g.W.Sink.contents c.args.sink.now) (g.W.Sink.contents c.put_guest.new.sink) c.args.held.now c.put_guest.new.held
    (flat_map guest_row c.args.guests.now) c.from_residual.result c.from_residual.ensures.0
    (passes_stop _ _ _ c.args.held.now c.loop-guest.held _ _ _ _
    (flat_item_at guest_row c.args.guests.now c.loop-guest.guest-index c.guest-item.result c.loop-guest-test.true c.guest-item.is) c.loop-guest.invariant.passed
    c.in_err-put_guest.ensures.bytes)

pub loop-guest-preserved : goal.loop-guest-preserved
loop-guest-preserved g c = record {
  passed = passes_same _ _ c.args.held.now c.put_guest.new.held _ _ (flat_item_more guest_row c.args.guests.now c.loop-guest.guest-index c.guest-item.result c.loop-guest-test.true c.guest-item.is)
      (passes_more _ _ _ c.args.held.now c.loop-guest.held _ _ _ c.loop-guest.invariant.passed c.in_ok-put_guest.ensures.bytes);
  failures = omega (arith, c.in_ok-put_guest.ensures.failures, c.loop-guest.invariant.failures);
  flushes = c.put_guest.ensures.flushes ∙ c.loop-guest.invariant.flushes;
}
