use Rattle.std.proofs.Common.{◌+◌, ◌*◌, List, sym, subst, arith}
use Rattle.esx_types.specs.declared.config.TheConstants.{MAX_NODES}
use Rattle.esx_sums.specs.declared.tally.Tally.{Tally}
use Rattle.esx_sums.specs.Few.{AreFew}
use Rattle.esx_sums.proofs.Few.{few_in, begun_few, counted_few, moved_few, hosted_few, accessed_few}
use Rattle.esx_sums.proofs.tallies.tally_all.Goals as goal

pub count-requires : goal.count-requires
count-requires c =
    let k = 2 * MAX_NODES in
    let Begun : List Tally → Type 0 = AreFew (k + 1) in
    let begun : AreFew (k + 1) c.begin.new.now = subst Begun (sym c.begin.ensures) (begun_few k c.args.now.now c.args.event.now c.requires) in
    few_in (k + 1) 4294967294 c.begin.new.now (omega arith) begun

pub count-requires-2 : goal.count-requires-2
count-requires-2 c =
    let k = 2 * MAX_NODES in
    let Begun : List Tally → Type 0 = AreFew (k + 1) in
    let begun : AreFew (k + 1) c.begin.new.now = subst Begun (sym c.begin.ensures) (begun_few k c.args.now.now c.args.event.now c.requires) in
    let Gained : List Tally → Type 0 = AreFew (k + 1 + 1) in
    let gained : AreFew (k + 1 + 1) c.count.new.now = subst Gained (sym c.count.ensures) (counted_few (k + 1) c.begin.new.now c.args.changes.now.gained begun) in
    few_in (k + 1 + 1) 4294967294 c.count.new.now (omega arith) gained

pub shift-requires : goal.shift-requires
shift-requires c =
    let k = 2 * MAX_NODES in
    let Begun : List Tally → Type 0 = AreFew (k + 1) in
    let begun : AreFew (k + 1) c.begin.new.now = subst Begun (sym c.begin.ensures) (begun_few k c.args.now.now c.args.event.now c.requires) in
    let Gained : List Tally → Type 0 = AreFew (k + 1 + 1) in
    let gained : AreFew (k + 1 + 1) c.count.new.now = subst Gained (sym c.count.ensures) (counted_few (k + 1) c.begin.new.now c.args.changes.now.gained begun) in
    let Lost : List Tally → Type 0 = AreFew (k + 1 + 1 + 1) in
    let lost : AreFew (k + 1 + 1 + 1) c.count-2.new.now = subst Lost (sym c.count-2.ensures) (counted_few (k + 1 + 1) c.count.new.now c.args.changes.now.lost gained) in
    few_in (k + 1 + 1 + 1) 4294967294 c.count-2.new.now (omega arith) lost

pub host-requires : goal.host-requires
host-requires c =
    let k = 2 * MAX_NODES in
    let Begun : List Tally → Type 0 = AreFew (k + 1) in
    let begun : AreFew (k + 1) c.begin.new.now = subst Begun (sym c.begin.ensures) (begun_few k c.args.now.now c.args.event.now c.requires) in
    let Gained : List Tally → Type 0 = AreFew (k + 1 + 1) in
    let gained : AreFew (k + 1 + 1) c.count.new.now = subst Gained (sym c.count.ensures) (counted_few (k + 1) c.begin.new.now c.args.changes.now.gained begun) in
    let Lost : List Tally → Type 0 = AreFew (k + 1 + 1 + 1) in
    let lost : AreFew (k + 1 + 1 + 1) c.count-2.new.now = subst Lost (sym c.count-2.ensures) (counted_few (k + 1 + 1) c.count.new.now c.args.changes.now.lost gained) in
    let Moved : List Tally → Type 0 = AreFew (k + 1 + 1 + 1 + 1) in
    let moved : AreFew (k + 1 + 1 + 1 + 1) c.shift.new.now = subst Moved (sym c.shift.ensures) (moved_few (k + 1 + 1 + 1) c.count-2.new.now c.args.changes.now.moved lost) in
    few_in (k + 1 + 1 + 1 + 1) 4294967294 c.shift.new.now (omega arith) moved

pub access-requires : goal.access-requires
access-requires c =
    let k = 2 * MAX_NODES in
    let Begun : List Tally → Type 0 = AreFew (k + 1) in
    let begun : AreFew (k + 1) c.begin.new.now = subst Begun (sym c.begin.ensures) (begun_few k c.args.now.now c.args.event.now c.requires) in
    let Gained : List Tally → Type 0 = AreFew (k + 1 + 1) in
    let gained : AreFew (k + 1 + 1) c.count.new.now = subst Gained (sym c.count.ensures) (counted_few (k + 1) c.begin.new.now c.args.changes.now.gained begun) in
    let Lost : List Tally → Type 0 = AreFew (k + 1 + 1 + 1) in
    let lost : AreFew (k + 1 + 1 + 1) c.count-2.new.now = subst Lost (sym c.count-2.ensures) (counted_few (k + 1 + 1) c.count.new.now c.args.changes.now.lost gained) in
    let Moved : List Tally → Type 0 = AreFew (k + 1 + 1 + 1 + 1) in
    let moved : AreFew (k + 1 + 1 + 1 + 1) c.shift.new.now = subst Moved (sym c.shift.ensures) (moved_few (k + 1 + 1 + 1) c.count-2.new.now c.args.changes.now.moved lost) in
    let Hosted : List Tally → Type 0 = AreFew (k + 1 + 1 + 1 + 1 + 1) in
    let hosted : AreFew (k + 1 + 1 + 1 + 1 + 1) c.host.new.now = subst Hosted (sym c.host.ensures) (hosted_few (k + 1 + 1 + 1 + 1) c.shift.new.now c.args.changes.now.host moved) in
    few_in (k + 1 + 1 + 1 + 1 + 1) 4294967294 c.host.new.now (omega arith) hosted

pub stand-requires : goal.stand-requires
stand-requires c =
    let k = 2 * MAX_NODES in
    let Begun : List Tally → Type 0 = AreFew (k + 1) in
    let begun : AreFew (k + 1) c.begin.new.now = subst Begun (sym c.begin.ensures) (begun_few k c.args.now.now c.args.event.now c.requires) in
    let Gained : List Tally → Type 0 = AreFew (k + 1 + 1) in
    let gained : AreFew (k + 1 + 1) c.count.new.now = subst Gained (sym c.count.ensures) (counted_few (k + 1) c.begin.new.now c.args.changes.now.gained begun) in
    let Lost : List Tally → Type 0 = AreFew (k + 1 + 1 + 1) in
    let lost : AreFew (k + 1 + 1 + 1) c.count-2.new.now = subst Lost (sym c.count-2.ensures) (counted_few (k + 1 + 1) c.count.new.now c.args.changes.now.lost gained) in
    let Moved : List Tally → Type 0 = AreFew (k + 1 + 1 + 1 + 1) in
    let moved : AreFew (k + 1 + 1 + 1 + 1) c.shift.new.now = subst Moved (sym c.shift.ensures) (moved_few (k + 1 + 1 + 1) c.count-2.new.now c.args.changes.now.moved lost) in
    let Hosted : List Tally → Type 0 = AreFew (k + 1 + 1 + 1 + 1 + 1) in
    let hosted : AreFew (k + 1 + 1 + 1 + 1 + 1) c.host.new.now = subst Hosted (sym c.host.ensures) (hosted_few (k + 1 + 1 + 1 + 1) c.shift.new.now c.args.changes.now.host moved) in
    let Accessed : List Tally → Type 0 = AreFew (k + 1 + 1 + 1 + 1 + 1 + 1) in
    let accessed : AreFew (k + 1 + 1 + 1 + 1 + 1 + 1) c.access.new.now = subst Accessed (sym c.access.ensures) (accessed_few (k + 1 + 1 + 1 + 1 + 1) c.host.new.now c.args.event.now hosted) in
    few_in (k + 1 + 1 + 1 + 1 + 1 + 1) 4294967294 c.access.new.now (omega arith) accessed
