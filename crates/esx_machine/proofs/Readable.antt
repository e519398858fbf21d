-- What the tables of every sound site have on which questions rest.
use Rattle.std.proofs.Common.{◌≡◌, ℕ, refl, sym, ◌∙◌, subst, arith, Option, Some, None}
use Rattle.std.specs.Option.{option_map}
use Rattle.std.proofs.lemmas.List.{length-map}
use Rattle.esx_types.specs.declared.config.Config.{Config}
use Rattle.esx_model.specs.declared.book.VmRow.{VmRow}
use Rattle.esx_model.specs.declared.scene.Vm.{Vm}
use Rattle.esx_model.specs.declared.scene.Site.{Site}
use Rattle.esx_model.specs.Site.{vm_at}
use Rattle.esx_model.specs.declared.tables.Tables.{Tables}
use Rattle.esx_model.specs.Tables.{vm_table, tables_of}
use Rattle.esx_model.specs.sound.Machines.{IsVm}
use Rattle.esx_model.specs.sound.Sound.{IsSound}
use Rattle.esx_tables.specs.Readings.{row_at}
use Rattle.esx_changes.specs.Activity.{IsTold}
use Rattle.esx_refinement.proofs.Refining.{row_there}
use Rattle.esx_refinement.proofs.refines.Rebalancing.{told_fits}
use Rattle.esx_machine.specs.Machine.{Kept, IsKept}
use Rattle.esx_machine.specs.Questions.{IsReadable, AreReadable}

row_readable : (c : Config) (v : Vm) → IsVm c v → IsReadable (vm_table v)
row_readable c v fine = record {
  least_shares = fine.good.least_shares;
  most_shares = fine.good.most_shares;
  most_target = (let low = fine.most_target in let max = fine.good.most_max in omega arith);
  most_tau = fine.good.most_tau;
  period = told_fits v.spec.max v.period fine.period;
}

-- the machine of a row
some_row : (o : Option Vm) (row : VmRow) → option_map vm_table o ≡ Some row → (v : Vm) × (o ≡ Some v) × (row ≡ vm_table v)
some_row None row h = cc
some_row (Some v) row h = (v, refl, cc)

sound_readable : (c : Config) (s : Site) → IsSound c s → AreReadable (tables_of c s)
sound_readable c s sound = record {
  vms = length-map s.vms (option_map vm_table) ∙ sound.vms;
  each = λ n row there.
      let found = some_row (vm_at s n) row (sym (row_there c s n) ∙ there) in
      subst IsReadable (sym found.2) (row_readable c found.0 (sound.each n found.0 found.1));
  tau = sound.tau;
}

pub kept_readable : (k : Kept) → IsKept k → AreReadable k.tables
kept_readable k kept = subst AreReadable (sym kept.shows) (sound_readable k.config kept.site kept.sound)

-- what the open period of a machine tells is in its range
pub told_there : (t : Tables) (n : ℕ) (v : VmRow) → AreReadable t → row_at t n ≡ Some v → IsTold v.period
told_there t n v readable there = (readable.each n v there).period
