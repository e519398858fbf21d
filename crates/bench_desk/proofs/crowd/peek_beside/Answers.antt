use Rattle.esx_desk.proofs.Crosses.{crosses}
use Rattle.bench_desk.proofs.crowd.peek_beside.Goals as goal

pub join-submitted-requires-send-F : goal.join-submitted-requires-send-F
join-submitted-requires-send-F g c κs within = search crosses depth 40
