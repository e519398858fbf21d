use Rattle.std.proofs.Common.{◌≡◌, ◌≤◌, ℕ, length, get_or, None}
use Rattle.esx_types.specs.declared.config.TheConstants.{VM_NUMBERS}
use Rattle.esx_model.specs.declared.scene.Scene.{Scene}
use Rattle.esx_machine.specs.Machine.{Shows}
use Rattle.esx_watch.specs.Logs.{all_shared}
use Rattle.esx_watch.proofs.Listed.{told_to}
use Rattle.esx_watch.proofs.looking.all_figures.Given as goal

abbrev pub invariant-loop-number : goal.invariant-loop-number
invariant-loop-number l = record {
  told : (scene : Scene) → Shows l.machine scene → l.shared ≡ all_shared scene.site → l.all ≡ told_to l.number scene.site.vms;
  long : length l.all ≡ VM_NUMBERS;
  past : (n : ℕ) → l.numbers ≤ n → get_or l.all n None ≡ None;
}
