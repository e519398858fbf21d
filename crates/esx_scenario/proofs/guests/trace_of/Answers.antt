use Rattle.std.proofs.Common.{true, false, sym, refl, arith, le-leb}
use Rattle.toml.specs.View.{view, items_view}
use Rattle.esx_scenario.specs.declared.guests.TheConstants.{MOST_LINES}
use Rattle.esx_scenario.specs.Guests.{count_items}
use Rattle.esx_scenario.proofs.GuestLemmas.{no_trace, trace_array, trace_kind, count_is, not_leb}
use Rattle.esx_scenario.proofs.guests.trace_of.Goals as goal

pub returns-in_default-clause-exact : goal.returns-in_default-clause-exact
returns-in_default-clause-exact c = rw c.new.ensures (sym (no_trace _ _ _ (rw c.in_default.is refl)))

pub returns-then-len-le-MOST_LINES-clause-exact : goal.returns-then-len-le-MOST_LINES-clause-exact
returns-then-len-le-MOST_LINES-clause-exact c =
    let fits = le-leb (count_items (items_view c.in-Some-as_array.values.now.items)) MOST_LINES (omega (arith, count_is c.in-Some-as_array.values.now.items, c.len.ensures, c.if-len-le-MOST_LINES.true)) in
    rw (c.in-Some.is, trace_array c.args.size c.args.pages (view c.in-Some.value.now) _ true c.in-Some-as_array.ensures fits, ← c.as_slice.ensures.value) c.lines_of.ensures.exact

pub returns-else-len-le-MOST_LINES-clause-exact : goal.returns-else-len-le-MOST_LINES-clause-exact
returns-else-len-le-MOST_LINES-clause-exact c =
    let past = not_leb (count_items (items_view c.in-Some-as_array.values.now.items)) MOST_LINES (omega (arith, count_is c.in-Some-as_array.values.now.items, c.len.ensures, c.if-len-le-MOST_LINES.false)) in
    rw (c.in-Some.is, trace_array c.args.size c.args.pages (view c.in-Some.value.now) _ false c.in-Some-as_array.ensures past) refl

pub returns-in-None-clause-exact : goal.returns-in-None-clause-exact
returns-in-None-clause-exact c = rw c.in-Some.is (sym (trace_kind _ _ _ c.in-None.ensures))
