use Rattle.std.proofs.Common.{ap, refl}
use Rattle.esx_report.specs.Guests.{guests_csv}
use Rattle.esx_report.specs.Losses.{losses_csv}
use Rattle.esx_report.specs.SiteTable.{site_csv}
use Rattle.esx_reports.proofs.answer.put_table.Goals as goal

pub returns-in-Losses-clause-bytes : goal.returns-in-Losses-clause-bytes
returns-in-Losses-clause-bytes g c = rw c.in-Losses.is (losses_csv c.as_slice.result.now, ap losses_csv c.as_slice.ensures, c.put_losses.ensures.bytes)

pub returns-in-Guests-clause-bytes : goal.returns-in-Guests-clause-bytes
returns-in-Guests-clause-bytes g c = rw c.in-Guests.is (guests_csv c.as_slice-in-Guests.result.now, ap guests_csv c.as_slice-in-Guests.ensures, c.put_guests.ensures.bytes)

pub returns-in-Site-clause-bytes : goal.returns-in-Site-clause-bytes
returns-in-Site-clause-bytes g c = (let put = c.put_site_table.ensures.bytes in rw c.in-Site.is (site_csv put.0, (put.0, put.1, refl), put.2))
