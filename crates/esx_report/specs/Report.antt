-- The whole text of a report.
use Rattle.std.specs.Prelude.{ℕ, List, ◌++◌, length, flat_map}
use Rattle.esx_sums.specs.declared.guest.Guest.{Guest}
use Rattle.esx_sums.specs.declared.level.Levels.{Levels}
use Rattle.esx_sums.specs.declared.site.SiteSums.{SiteSums}
use Rattle.esx_report.specs.declared.losses.LossLine.{LossLine}
use Rattle.esx_report.specs.declared.told.LossesByLevel.{LossesByLevel}
use Rattle.esx_report.specs.declared.told.Told.{Told}
use Rattle.esx_report.specs.Guests.{guest_heading, guest_line}
use Rattle.esx_report.specs.LossTable.{loss_heading, loss_line}
use Rattle.esx_report.specs.Site.{report_head, opened_line, path_line, site_heading, first_level_line, level_line, free_line, pages_line, saved_line, slots_line, guests_title, guests_note, level_losses_heading, level_losses_line, losses_heading, report_end}

-- the first lines
abbrev pub report_begin : Told → List ℕ
report_begin t = report_head ++ (opened_line t.opened ++ path_line t.path)

-- a path begins at level high, of which no entering is told
abbrev pub level_lines : Levels → ℕ → List ℕ
level_lines l events = first_level_line l.high events ++ (level_line l.soft events ++ (level_line l.hard events ++ level_line l.low events))

abbrev pub site_lines : SiteSums → List ℕ
site_lines s = free_line s ++ (pages_line s ++ (saved_line s ++ slots_line s))

abbrev pub site_text : Told → List ℕ
site_text t = site_heading ++ (level_lines t.levels t.path.events ++ site_lines t.site)

abbrev pub guests_text : List Guest → List ℕ
guests_text guests = guests_title ++ (guest_heading ++ (flat_map guest_line guests ++ guests_note))

abbrev pub losses_by_level : LossesByLevel → List ℕ
losses_by_level b = level_losses_heading ++ (level_losses_line b.high ++ (level_losses_line b.soft ++ (level_losses_line b.hard ++ level_losses_line b.low)))

abbrev pub losses_text : List LossLine → List ℕ
losses_text lines = losses_heading (length lines) ++ (loss_heading ++ flat_map loss_line lines)

abbrev pub report_text : Told → List ℕ
report_text t = report_begin t ++ (site_text t ++ (guests_text t.guests.now ++ (losses_by_level t.by_level ++ (losses_text t.losses.now ++ report_end))))
