-- What a migration of a session comes to.
use Rattle.std.specs.Prelude.{◌≡◌, List, length, map}
use Rattle.esx_types.specs.declared.config.Config.{Config}
use Rattle.esx_model.specs.Console.{Session, IsLegal}
use Rattle.esx_session.specs.declared.session.Entry.{Entry}
use Rattle.esx_session.specs.Sessions.{logged}
use Rattle.esx_check.specs.declared.check.Checked.TheVariants as checked
use Rattle.esx_check.specs.declared.migration.MigrateFault.{MigrateFault}
use Rattle.esx_check.specs.declared.migration.MigrateFault.TheVariants.{Differs, OutOfMemory}
use Rattle.esx_check.specs.Again.{made}
use Rattle.esx_check.specs.Checks.{Checks}

-- The console is that of this site, at which the calls of these entries were made in their order, and each has its reply. Its log is legal, and tells the entries.
pub record Migrates (site : Config) (entries : List Entry) (console : Session) : Type 0 where
  pub opened : console.site ≡ site
  pub calls : console ≡ made site entries
  pub same : Checks site entries (checked.Same (length entries))
  pub legal : IsLegal console
  pub told : map logged console.log ≡ entries

-- The call of this number is the first with another reply, or memory ran out.
abbrev pub NotMigrated : Config → List Entry → MigrateFault → Type 0
NotMigrated site entries (Differs number) = Checks site entries (checked.Differs number)
NotMigrated site entries OutOfMemory = Unit {0}
