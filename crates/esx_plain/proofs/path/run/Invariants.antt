use Rattle.std.proofs.Common.{◌≡◌, drop}
use Rattle.esx_model.specs.sound.Sound.{IsSound}
use Rattle.esx_model.specs.Replay.{run, run_from}
use Rattle.esx_plain.proofs.path.run.Given as goal

abbrev pub invariant-loop-index : goal.invariant-loop-index
invariant-loop-index l = record {
  rest : run_from l.config l.index (drop l.index l.events) l.scene ≡ run l.config l.events;
  sound : IsSound l.config l.scene.site;
}
