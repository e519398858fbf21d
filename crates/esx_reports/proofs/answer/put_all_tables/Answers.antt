use Rattle.std.proofs.Common.{sym, subst}
use Rattle.esx_report.specs.Losses.{AreGoodLines}
use Rattle.esx_reports.proofs.answer.put_all_tables.Goals as goal

pub put_report-requires : goal.put_report-requires
put_report-requires g c = subst AreGoodLines (sym c.told-told.ensures.losses) c.requires
