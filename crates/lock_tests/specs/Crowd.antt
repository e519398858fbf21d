-- Passes of one lock.
use Rattle.std.specs.Prelude.{List, All}
use Rattle.esx_lock.specs.Passes.{LockView, Known}
use Rattle.lock_tests.specs.Passes.{IsIdle}

-- each of the passes is one of this lock, and does not hold it
abbrev pub AreIdle : LockView → List Known → Type 0
AreIdle lock = All (IsIdle lock)
