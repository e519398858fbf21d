use Rattle.std.proofs.Common.{◌∙◌, sym, ap, arith, length, ◌-◌, ◌<◌}
use Rattle.std.proofs.Math.Facts.{Fits-lt-pow}
use Rattle.std.proofs.lemmas.List.{drop_all}
use Rattle.esx_journal.specs.Marks.{number_of}
use Rattle.esx_journal.proofs.NameNumbers.{number_none, number_more, number_below, number_fits, product_fits}
use Rattle.esx_journal.proofs.numbers.number_of.Goals as goal

pub loop-done-init : goal.loop-done-init
loop-done-init c = (sym (ap number_of (drop_all (length c.args.bytes.now - 0) c.args.bytes.now (omega arith)) ∙ number_none), omega arith)

pub overflow_mul-number : goal.overflow_mul-number
overflow_mul-number c = product_fits c.loop-done.number c.loop-done.done c.loop-done.invariant.1 (let within = c.loop-done-test.true in let few = c.requires in omega arith)

byte : (c : goal.After-from) → c.from.result < 256
byte c = (let same = c.from.ensures in let below = Fits-lt-pow (c.type_inv.bytes (length c.args.bytes.now - 1 - c.loop-done.done)) in omega arith)

pub overflow_add-number : goal.overflow_add-number
overflow_add-number c = number_fits c.loop-done.number c.from.result c.loop-done.done c.loop-done.invariant.1 (byte c) (let within = c.loop-done-test.true in let few = c.requires in omega arith)

pub loop-done-preserved : goal.loop-done-preserved
loop-done-preserved c =
    let old = c.loop-done.invariant.0 in
    let same = c.from.ensures in
    let more = number_more c.args.bytes.now c.loop-done.done c.loop-done-test.true in
    (omega arith, number_below c.loop-done.number c.from.result c.loop-done.done c.loop-done.invariant.1 (byte c))
