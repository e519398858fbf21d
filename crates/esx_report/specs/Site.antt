-- The lines of a report that tell of the site.
use Rattle.std.specs.Prelude.{ℕ, List, ◌++◌, ◌+◌, ◌-◌, codes, decimal, max}
use Rattle.esx_writing.specs.Writing.{right_in, left_in}
use Rattle.esx_report.specs.declared.field.Field.{Field}
use Rattle.esx_report.specs.declared.field.Field.TheVariants as fields
use Rattle.esx_report.specs.declared.site.Opened.{Opened}
use Rattle.esx_report.specs.declared.site.PathSums.{PathSums}
use Rattle.esx_sums.specs.declared.level.LevelSums.{LevelSums}
use Rattle.esx_sums.specs.declared.site.SiteSums.{SiteSums}
use Rattle.esx_sums.specs.declared.losses.LevelLosses.{LevelLosses}
use Rattle.esx_report.specs.Fields.{field_text, level_text}

-- what sharing saves at the end
abbrev pub saved : SiteSums → ℕ
saved s = s.pages - (s.private + s.shared)

-- what sharing saved after an event, on the average
abbrev pub mean_saved : SiteSums → Field
mean_saved s = fields.Fraction s.saved_sum (max s.events 1)

abbrev pub opened_line : Opened → List ℕ
opened_line o = codes "frames " ++ (decimal o.frames ++ (codes " page " ++ (decimal o.page ++ (codes " slots " ++ (decimal o.slots ++ (codes " levels " ++ (decimal o.high ++ (codes " " ++ (decimal o.soft ++ (codes " " ++ (decimal o.hard ++ (codes " " ++ (decimal o.low ++ (codes " margin " ++ (decimal o.margin ++ (codes "\n"))))))))))))))))

abbrev pub path_line : PathSums → List ℕ
path_line p = codes "path events " ++ (decimal p.events ++ (codes " of " ++ (decimal p.made ++ (codes " made, to node " ++ (decimal p.node ++ (codes "; calls " ++ (decimal p.calls ++ (codes ", refused on the path " ++ (decimal p.refused ++ (codes ", elsewhere " ++ (decimal p.elsewhere ++ (codes "\n"))))))))))))

abbrev pub first_level_line : LevelSums → ℕ → List ℕ
first_level_line s events = codes "  " ++ (left_in 5 (level_text s.level) ++ (codes " " ++ (right_in 12 (decimal s.events) ++ (codes " " ++ (right_in 6 (field_text (codes "-") (fields.Percent s.events events)) ++ (codes "\n"))))))

abbrev pub level_line : LevelSums → ℕ → List ℕ
level_line s events = codes "  " ++ (left_in 5 (level_text s.level) ++ (codes " " ++ (right_in 12 (decimal s.events) ++ (codes " " ++ (right_in 6 (field_text (codes "-") (fields.Percent s.events events)) ++ (codes " " ++ (right_in 8 (decimal s.entered) ++ (codes "\n"))))))))

abbrev pub free_line : SiteSums → List ℕ
free_line s = codes "  free least " ++ (decimal s.least_free.number ++ (codes " at " ++ (decimal s.least_free.event ++ (codes ", now " ++ (decimal s.free ++ (codes "\n"))))))

abbrev pub pages_line : SiteSums → List ℕ
pages_line s = codes "  pages in frames most " ++ (decimal s.most_pages.number ++ (codes " at " ++ (decimal s.most_pages.event ++ (codes ", now " ++ (decimal s.pages ++ (codes " in " ++ (decimal (s.private + s.shared) ++ (codes " frames\n"))))))))

abbrev pub saved_line : SiteSums → List ℕ
saved_line s = codes "  saved by sharing most " ++ (decimal s.most_saved.number ++ (codes " at " ++ (decimal s.most_saved.event ++ (codes ", mean " ++ (field_text (codes "-") (mean_saved s) ++ (codes ", now " ++ (decimal (saved s) ++ (codes "\n"))))))))

abbrev pub slots_line : SiteSums → List ℕ
slots_line s = codes "  slots most " ++ (decimal s.most_slots.number ++ (codes " at " ++ (decimal s.most_slots.event ++ (codes ", now " ++ (decimal s.out ++ (codes "; rebalanced " ++ (decimal s.rebalances ++ (codes " times, " ++ (decimal s.revoked ++ (codes " pages revoked\n"))))))))))

abbrev pub level_losses_line : LevelLosses → List ℕ
level_losses_line s = codes "  " ++ (left_in 5 (level_text s.level) ++ (codes " " ++ (right_in 7 (decimal s.balloon) ++ (codes " " ++ (right_in 7 (decimal s.swap) ++ (codes " " ++ (right_in 7 (decimal s.replace) ++ (codes " " ++ (right_in 7 (decimal s.drop) ++ (codes "\n"))))))))))

abbrev pub losses_heading : ℕ → List ℕ
losses_heading count = codes "\nlosses " ++ (decimal count ++ (codes "\n"))

abbrev pub report_head : List ℕ
report_head = codes "esx report 1\n"

abbrev pub site_heading : List ℕ
site_heading = codes "\nsite\n  level       events   part  entered\n"

abbrev pub guests_title : List ℕ
guests_title = codes "\nguests\n"

abbrev pub guests_note : List ℕ
guests_note = codes "  each row: first + popped + swapin - lost = here\n\n"

abbrev pub level_losses_heading : List ℕ
level_losses_heading = codes "losses by level and mechanism\n  level  balloon    swap replace    drop\n"

abbrev pub report_end : List ℕ
report_end = codes "end\n"
