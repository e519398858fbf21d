use Rattle.esx_model.proofs.Callers.{every_event_sound}
use Rattle.random_paths.proofs.plain.sound_next.Goals as goal

pub returns-in-Ok : goal.returns-in-Ok
returns-in-Ok c =
    every_event_sound c.args.config.now c.args.scene c.args.event.now (c.in-Ok.answer, c.in-Ok.after) c.requires.sound c.in-Ok.ensures
