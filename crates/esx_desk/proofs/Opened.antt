-- The passes that a desk opens with are its own.
use Rattle.std.proofs.Common.{◌≡◌, ◌∙◌, ℕ, sym, List, All, get_or}
use Rattle.std.proofs.lemmas.Option.{slice_get-get_or}
use Rattle.esx_types.specs.declared.config.Config.{Config}
use Rattle.esx_events.specs.declared.call.Line.{Line}
use Rattle.esx_lock.specs.Passes.{LockView, Known, AreOpened}
use Rattle.esx_desk.specs.Told.{IsOf}

pub own_passes : (desk : LockView) (n : ℕ) (site : Config) (log : List Line) (passes : List Known) → desk.callers ≡ n → AreOpened desk.table n site log passes → All (IsOf desk) passes
own_passes desk n site log passes callers are = λ k d lt.
    let opened = are k (get_or passes k d) (slice_get-get_or passes k d lt) in
    (opened.0, opened.1.2, opened.1.3 ∙ sym callers)
