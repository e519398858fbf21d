use Rattle.std.proofs.Common.{ℕ, arith, length-set, ap, ◌∙◌, Option, None, option_map}
use Rattle.std.proofs.lemmas.List.{length-replicate}
use Rattle.esx_types.specs.declared.config.TheConstants.{VM_NUMBERS}
use Rattle.esx_model.specs.Site.{vm_at}
use Rattle.esx_sums.specs.declared.present.Present.{Present}
use Rattle.esx_sums.specs.Sums.{present_of}
use Rattle.esx_survey.proofs.Listed.{told_none, told_more, told_all}
use Rattle.esx_survey.proofs.present.all_present.Goals as goal

pub loop-number-init : goal.loop-number-init
loop-number-init c = record {
  told = λ scene shows. told_none c.args.machine.now.config scene.site shows.sound;
  long = length-replicate {A = Option Present} VM_NUMBERS None;
}

pub loop-number-preserved : goal.loop-number-preserved
loop-number-preserved c = record {
  told = λ scene shows. told_more c.args.machine.now.config scene.site c.loop-number.number c.present_at.result c.loop-number.present shows.sound (let few = c.numbers-number-end.ensures.few in let below = c.loop-number-test.true in omega (arith, few, below))
      (c.present_at.ensures scene shows ∙ ap (λ (n : ℕ). option_map present_of (vm_at scene.site n)) c.new.ensures.value) (c.loop-number.invariant.told scene shows);
  long = length-set c.loop-number.present c.loop-number.number c.present_at.result ∙ c.loop-number.invariant.long;
}

pub returns : goal.returns
returns c = λ scene shows. told_all scene.site c.loop-number.number c.loop-number.present
    (λ m behind. c.numbers-number-end.ensures.past scene m shows (let over = c.loop-number-test.false in omega (arith, behind, over))) (c.loop-number.invariant.told scene shows)
