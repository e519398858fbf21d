use Rattle.esx_words.proofs.OperandLemmas.{no_machine, no_number, no_place, no_drawn, no_drawn_place, no_range, no_spec, no_written, no_sampled}
use Rattle.esx_words.proofs.event.event_of.Goals as goal

pub returns-in-None-clause-only : goal.returns-in-None-clause-only
returns-in-None-clause-only c = rw c.in-Admit.is (no_spec c.args.fields.now c.in-None.ensures.none)

pub returns-in-None-machine-clause-only : goal.returns-in-None-machine-clause-only
returns-in-None-machine-clause-only c = rw c.in-Machine.is (no_machine c.args.fields.now c.in-None-machine.ensures.none)

pub returns-in-None-place-clause-only : goal.returns-in-None-place-clause-only
returns-in-None-place-clause-only c = rw c.in-Place.is (no_place c.args.fields.now c.in-None-place.ensures.none)

pub returns-in-None-range-clause-only : goal.returns-in-None-range-clause-only
returns-in-None-range-clause-only c = rw c.in-Read.is (no_range c.args.fields.now c.in-None-range.ensures.none)

pub returns-in-None-drawn-clause-only : goal.returns-in-None-drawn-clause-only
returns-in-None-drawn-clause-only c = rw c.in-SwapOut.is (no_drawn c.args.fields.now c.in-None-drawn.ensures.none)

pub returns-in-None-drawn_place-clause-only : goal.returns-in-None-drawn_place-clause-only
returns-in-None-drawn_place-clause-only c = rw c.in-Replace.is (no_drawn_place c.args.fields.now c.in-None-drawn_place.ensures.none)

pub returns-in-None-number-clause-only : goal.returns-in-None-number-clause-only
returns-in-None-number-clause-only c = rw c.in-SetTax.is (no_number c.args.fields.now c.in-None-number.ensures.none)

pub returns-in-None-2-clause-only : goal.returns-in-None-2-clause-only
returns-in-None-2-clause-only c = rw c.in-Write.is (no_written c.args.fields.now (rw c.in-None-2.is at c.in_ok-vm-in-Write.ensures.only))

pub returns-in-None-3-clause-only : goal.returns-in-None-3-clause-only
returns-in-None-3-clause-only c = rw c.in-Sample.is (no_sampled c.args.fields.now (rw c.in-None-3.is at c.in_ok-vm-in-Sample.ensures.only))
