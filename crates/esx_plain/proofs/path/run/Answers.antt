use Rattle.std.proofs.Common.{◌+◌, drop, arith, sym, ap, ◌∙◌, subst}
use Rattle.esx_model.specs.declared.scene.Scene.{Scene}
use Rattle.esx_model.specs.sound.Sound.{IsSound}
use Rattle.esx_model.specs.Replay.{run, run_from, after_one}
use Rattle.esx_model.proofs.Callers.{opening_sound, every_event_sound}
use Rattle.esx_plain.proofs.Paths.{run_more, run_none, fault_runs}
use Rattle.esx_plain.proofs.path.run.Goals as goal

pub loop-index-init : goal.loop-index-init
loop-index-init c =
    let config = c.args.config.now in
    let is = c.in-Ok.ensures in
    record {
      rest = ap (run_from config 0 c.args.events.now) is;
      sound = (let P : Scene → Type 0 = λ t. IsSound config t.site in subst P (sym is) (opening_sound config c.requires));
    }

pub returns-in-Err : goal.returns-in-Err
returns-in-Err c =
    let config = c.args.config.now in
    let events = c.args.events.now in
    let steps = c.in-Err.ensures.steps in
    let more = run_more config events c.loop-index.index c.index-events-index.result c.loop-index.scene (omega arith) c.index-events-index.is in
    record { runs = rw c.fault_at.ensures (fault_runs c.loop-index.index c.in-Err.refusal (run config events) (λ other. sym c.loop-index.invariant.rest ∙ more ∙ ap (λ o. after_one c.loop-index.index o (run_from config (c.loop-index.index + 1) (drop (c.loop-index.index + 1) events))) (steps.0 other))); sound = tt }

pub loop-index-preserved : goal.loop-index-preserved
loop-index-preserved c =
    let config = c.args.config.now in
    let events = c.args.events.now in
    let ensured = c.in-Ok-next.ensures in
    let more = run_more config events c.loop-index.index c.index-events-index.result c.loop-index.scene (omega arith) c.index-events-index.is in
    record {
      rest = sym (ap (λ o. after_one c.loop-index.index o (run_from config (c.loop-index.index + 1) (drop (c.loop-index.index + 1) events))) ensured.steps) ∙ sym more ∙ c.loop-index.invariant.rest;
      sound = every_event_sound config c.loop-index.scene c.index-events-index.result (c.in-Ok-next.field-0-0, c.in-Ok-next.after) c.loop-index.invariant.sound ensured.steps;
    }

pub returns : goal.returns
returns c = record {
  runs = sym c.loop-index.invariant.rest ∙ run_none c.args.config.now c.args.events.now c.loop-index.index c.loop-index.scene (omega arith);
  sound = c.loop-index.invariant.sound;
}
