use Rattle.esx_desk.proofs.Crosses.{crosses}
use Rattle.desk_tests.proofs.crowd.work_at_once.Goals as goal

pub map_vec-requires-sync-F : goal.map_vec-requires-sync-F
map_vec-requires-sync-F g c κs within = search crosses depth 30
