-- The table of the site's names and values.
use Rattle.std.specs.Prelude.{ℕ, List, ◌++◌, codes, decimal}
use Rattle.esx_report.specs.declared.field.Field.TheVariants as fields
use Rattle.esx_report.specs.declared.site.PathSums.{PathSums}
use Rattle.esx_sums.specs.declared.level.LevelSums.{LevelSums}
use Rattle.esx_sums.specs.declared.site.SiteSums.{SiteSums}
use Rattle.esx_report.specs.Fields.{field_text}
use Rattle.esx_report.specs.Site.{saved, mean_saved}

abbrev pub path_values : PathSums → List ℕ
path_values p = codes "events," ++ (decimal p.events ++ (codes "\n" ++ (codes "events_made," ++ (decimal p.made ++ (codes "\n" ++ (codes "node," ++ (decimal p.node ++ (codes "\n" ++ (codes "calls," ++ (decimal p.calls ++ (codes "\n" ++ (codes "refused_on_path," ++ (decimal p.refused ++ (codes "\n" ++ (codes "refused_elsewhere," ++ (decimal p.elsewhere ++ (codes "\n")))))))))))))))))

abbrev pub events_value : LevelSums → List ℕ
events_value s = field_text (codes "-") (fields.Level s.level) ++ (codes "_events," ++ (decimal s.events ++ (codes "\n")))

abbrev pub entered_value : LevelSums → List ℕ
entered_value s = field_text (codes "-") (fields.Level s.level) ++ (codes "_entered," ++ (decimal s.entered ++ (codes "\n")))

abbrev pub extreme_values : SiteSums → List ℕ
extreme_values s = codes "least_free," ++ (decimal s.least_free.number ++ (codes "\n" ++ (codes "least_free_event," ++ (decimal s.least_free.event ++ (codes "\n" ++ (codes "most_pages_here," ++ (decimal s.most_pages.number ++ (codes "\n" ++ (codes "most_pages_here_event," ++ (decimal s.most_pages.event ++ (codes "\n" ++ (codes "most_saved," ++ (decimal s.most_saved.number ++ (codes "\n" ++ (codes "most_saved_event," ++ (decimal s.most_saved.event ++ (codes "\n" ++ (codes "mean_saved," ++ (field_text (codes "-") (mean_saved s) ++ (codes "\n" ++ (codes "most_slots," ++ (decimal s.most_slots.number ++ (codes "\n" ++ (codes "most_slots_event," ++ (decimal s.most_slots.event ++ (codes "\n" ++ (codes "rebalances," ++ (decimal s.rebalances ++ (codes "\n" ++ (codes "revoked," ++ (decimal s.revoked ++ (codes "\n"))))))))))))))))))))))))))))))))

abbrev pub refused_value : ℕ → ℕ → List ℕ
refused_value number count = codes "refused_" ++ (decimal number ++ (codes "," ++ (decimal count ++ (codes "\n"))))

abbrev pub end_values : SiteSums → List ℕ
end_values s = codes "pages_here," ++ (decimal s.pages ++ (codes "\n" ++ (codes "pages_shared," ++ (decimal s.shared ++ (codes "\n" ++ (codes "pages_sharing," ++ (decimal (saved s) ++ (codes "\n"))))))))

abbrev pub site_head : List ℕ
site_head = codes "name,value\n"
