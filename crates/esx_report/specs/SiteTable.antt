-- The whole table of the site's names and values.
use Rattle.std.specs.Prelude.{ℕ, List, [], ◌++◌, ◌==◌, flat_map, if◌then◌else◌}
use Rattle.std.specs.List.{enumerate_from}
use Rattle.esx_sums.specs.declared.level.Levels.{Levels}
use Rattle.esx_report.specs.declared.told.Told.{Told}
use Rattle.esx_report.specs.Values.{path_values, events_value, entered_value, extreme_values, refused_value, end_values, site_head}

abbrev pub events_values : Levels → List ℕ
events_values l = events_value l.high ++ (events_value l.soft ++ (events_value l.hard ++ events_value l.low))

-- a path begins at level high, of which no entering is told
abbrev pub entered_values : Levels → List ℕ
entered_values l = entered_value l.soft ++ (entered_value l.hard ++ entered_value l.low)

-- how many calls were refused by a number, if any were
abbrev pub refusal_value : ℕ × ℕ → List ℕ
refusal_value p = if p.1 == 0 then [] else refused_value p.0 p.1

-- how many by each number, from 0 up
abbrev pub refused_values : List ℕ → List ℕ
refused_values counts = flat_map refusal_value (enumerate_from 0 counts)

abbrev pub site_csv : Told → List ℕ
site_csv t = site_head ++ (path_values t.path ++ (events_values t.levels ++ (entered_values t.levels ++ (extreme_values t.site ++ (refused_values t.refusals.now ++ end_values t.site)))))
