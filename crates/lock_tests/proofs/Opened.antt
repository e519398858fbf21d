-- The passes that a lock opens with are idle.
use Rattle.std.proofs.Common.{ℕ, List, All, get_or}
use Rattle.std.proofs.lemmas.Option.{slice_get-get_or}
use Rattle.esx_types.specs.declared.config.Config.{Config}
use Rattle.esx_events.specs.declared.call.Line.{Line}
use Rattle.esx_lock.specs.Passes.{LockView, Known, AreOpened}
use Rattle.lock_tests.specs.Passes.{IsIdle}

pub idle_passes : (lock : LockView) (n : ℕ) (site : Config) (log : List Line) (passes : List Known) → AreOpened lock.table n site log passes → All (IsIdle lock) passes
idle_passes lock n site log passes are = λ k d lt.
    let opened = are k (get_or passes k d) (slice_get-get_or passes k d lt) in
    (opened.0, opened.1.2)
