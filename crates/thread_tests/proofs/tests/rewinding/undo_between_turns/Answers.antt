use Rattle.esx_desk.proofs.Crosses.{crosses}
use Rattle.thread_tests.proofs.tests.rewinding.undo_between_turns.Goals as goal

pub join-visited-requires-send-F : goal.join-visited-requires-send-F
join-visited-requires-send-F g c κs within = search crosses depth 40
