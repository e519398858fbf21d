use Rattle.std.proofs.Common.{ℕ, arith, length-set, sym, ap, ◌∙◌, Option, None, option_map}
use Rattle.std.proofs.lemmas.List.{length-replicate, get_or-set_other}
use Rattle.esx_types.specs.declared.config.TheConstants.{VM_NUMBERS}
use Rattle.esx_model.specs.Site.{vm_at}
use Rattle.esx_figures.specs.declared.figures.Figures.{Figures}
use Rattle.esx_figures.specs.Figures.{figures}
use Rattle.esx_figures.specs.Sharing.{shared_of}
use Rattle.esx_watch.specs.Shifting.{shared_at}
use Rattle.esx_watch.proofs.Going.{shared_is}
use Rattle.esx_watch.proofs.Listed.{told_none, told_more, told_all, blank_at}
use Rattle.esx_watch.proofs.looking.all_figures.Goals as goal

pub loop-number-init : goal.loop-number-init
loop-number-init c = record {
  told = λ scene shows is. told_none c.args.machine.now.config scene.site shows.sound;
  long = length-replicate {A = Option Figures} VM_NUMBERS None;
  past = λ n behind. blank_at VM_NUMBERS n;
}

pub loop-number-preserved : goal.loop-number-preserved
loop-number-preserved c = record {
  told = λ scene shows is. told_more c.args.machine.now.config scene.site c.loop-number.number c.figures_of.result c.loop-number.all shows.sound (let few = c.numbers-numbers.ensures.few in let below = c.loop-number-test.true in omega (arith, few, below))
      (c.figures_of.ensures scene shows (c.shared_at-count.ensures ∙ ap (λ xs. shared_at xs c.loop-number.number) is ∙ shared_is scene.site c.loop-number.number ∙ sym (ap (shared_of scene.site) c.new.ensures.value))
      ∙ ap (λ (n : ℕ). option_map figures (vm_at scene.site n)) c.new.ensures.value) (c.loop-number.invariant.told scene shows is);
  long = length-set c.loop-number.all c.loop-number.number c.figures_of.result ∙ c.loop-number.invariant.long;
  past = λ n behind. get_or-set_other c.loop-number.all c.loop-number.number n c.figures_of.result None (λ e. (let below = c.loop-number-test.true in omega (arith, below, behind, e)))
      ∙ c.loop-number.invariant.past n behind;
}

pub returns : goal.returns
returns c = λ scene shows is. told_all scene.site c.loop-number.number c.loop-number.all
    (λ m behind. c.numbers-numbers.ensures.past scene m shows (let over = c.loop-number-test.false in omega (arith, behind, over))) (c.loop-number.invariant.told scene shows is)
