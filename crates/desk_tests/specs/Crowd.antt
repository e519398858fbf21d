-- Passes of one desk.
use Rattle.std.specs.Prelude.{List, All}
use Rattle.esx_lock.specs.Passes.{LockView, Known}
use Rattle.esx_desk.specs.Told.{IsOf}
use Rattle.desk_tests.specs.declared.crowd.Worked.{Worked}

abbrev pub AreOf : LockView → List Known → Type 0
AreOf desk = All (IsOf desk)

abbrev pub AreBack : LockView → List Worked → Type 0
AreBack desk = All (λ w. IsOf desk w.pass)
