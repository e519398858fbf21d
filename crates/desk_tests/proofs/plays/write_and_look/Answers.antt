use Rattle.esx_desk.proofs.Crosses.{crosses}
use Rattle.desk_tests.proofs.plays.write_and_look.Goals as goal

pub join-written-requires-send-F : goal.join-written-requires-send-F
join-written-requires-send-F g c κs within = search crosses depth 40
