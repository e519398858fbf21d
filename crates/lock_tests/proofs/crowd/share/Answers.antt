use Rattle.lock_tests.proofs.Opened.{idle_passes}
use Rattle.lock_tests.proofs.crowd.share.Goals as goal

pub submit_at_once-requires-after_bounds : goal.submit_at_once-requires-after_bounds
submit_at_once-requires-after_bounds g c κs within = idle_passes c.in_ok-lock.lock c.args.callers _ _ c.in_ok-lock.passes.items c.in_ok-lock.ensures.passes.1
