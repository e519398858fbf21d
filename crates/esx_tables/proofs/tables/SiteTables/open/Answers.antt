use Rattle.std.proofs.Common.{refl}
use Rattle.esx_tables.proofs.Opening.{opening_shown}
use Rattle.esx_tables.proofs.tables.SiteTables.open.Goals as goal

pub returns-clause-rows : goal.returns-clause-rows
returns-clause-rows c = rw (c.in_ok-new.ensures, c.in_ok-new-2.ensures, c.in_ok-none.ensures, c.in_ok-new-3.ensures) refl

pub returns-clause-shows : goal.returns-clause-shows
returns-clause-shows c = rw (c.in_ok-new.ensures, c.in_ok-new-2.ensures, c.in_ok-none.ensures, c.in_ok-new-3.ensures) (opening_shown c.args.config.now)
