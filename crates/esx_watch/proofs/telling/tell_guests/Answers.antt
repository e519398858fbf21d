use Rattle.std.proofs.Common.{◌++◌, arith, refl, ap, ◌∙◌}
use Rattle.esx_watch.proofs.Tellings.{told_first, told_next, told_whole}
use Rattle.esx_watch.proofs.telling.tell_guests.Goals as goal

pub loop-number-init : goal.loop-number-init
loop-number-init c = record {
  told = told_first c.args.at c.args.site c.args.before.now c.args.after.now c.args.steps.now.items;
  len = omega arith;
  capacity = refl;
}

pub loop-number-preserved : goal.loop-number-preserved
loop-number-preserved c = record {
  told = told_next c.args.at c.args.site c.args.before.now c.args.after.now c.loop-number.number c.new-vm.result c.at-was.result c.at-is.result c.guest_step.result
      c.args.steps.now.items c.loop-number.steps.items c.tell.new.steps.items c.new-vm.ensures.value c.at-was.ensures c.at-is.ensures c.guest_step.ensures c.tell.ensures.told c.loop-number.invariant.told;
  len = omega (arith, c.tell.ensures.len, c.loop-number.invariant.len);
  capacity = c.tell.ensures.capacity ∙ c.loop-number.invariant.capacity;
}

pub returns-clause-told : goal.returns-clause-told
returns-clause-told c =
    let end = c.max-last.ensures in
    let over = c.loop-number-test.false in
    c.loop-number.invariant.told
    ∙ ap (λ ys. c.args.steps.now.items ++ ys) (told_whole c.args.at c.args.site c.args.before.now c.args.after.now c.numbers-numbers_before.result c.numbers-numbers_now.result c.loop-number.number
    c.numbers-numbers_before.ensures c.numbers-numbers_now.ensures (omega (arith, end, over)))
