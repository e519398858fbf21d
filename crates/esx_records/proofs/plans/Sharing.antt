-- A scan.
use Rattle.std.proofs.Common.{ℕ, Option, Some, None, arith}
use Rattle.std.specs.List.{position_from}
use Rattle.esx_types.specs.declared.config.Config.{Config}
use Rattle.esx_types.specs.declared.table.MapRow.{MapRow}
use Rattle.esx_types.specs.declared.table.MapRow.TheVariants as maps
use Rattle.esx_types.specs.Frames.{frame_at}
use Rattle.esx_types.specs.Listings.{is_hinted_under}
use Rattle.esx_types.specs.Pages.{is_here, page_at}
use Rattle.esx_formulas.specs.Key.{short_of}
use Rattle.esx_model.specs.declared.look.Look.{Look}
use Rattle.esx_model.specs.declared.look.Look.TheVariants.{Already, SharedFrame, OtherPage, Changed, OtherBytes, Nothing}
use Rattle.esx_model.specs.declared.tables.Tables.{Tables}
use Rattle.esx_model.specs.Tables.{standing_of}
use Rattle.esx_model.specs.event.Sharing.{scan_gate}
use Rattle.esx_tables.specs.Readings.{row_at}
use Rattle.esx_sharing.specs.Sharing.{hint_changes, look_changes, key_in, look_in, scan_row, scan_plan}
use Rattle.esx_records.proofs.Modest.{IsModest, PlansModest, at_row_modest, any_gate}

hint_modest : (c : Config) (n page f short : ℕ) (o : Option ℕ) → IsModest c 0 (hint_changes n page f short o)
hint_modest c n page f short None =
    record { bytes = omega arith; pages = omega arith; rows = omega arith; marks = omega arith; turned = omega arith; targets = omega arith; machines = omega arith }
hint_modest c n page f short (Some g) =
    record { bytes = omega arith; pages = omega arith; rows = omega arith; marks = omega arith; turned = omega arith; targets = omega arith; machines = omega arith }

pub look_modest : (c : Config) (t : Tables) (n page f key : ℕ) (l : Look) → IsModest c 0 (look_changes t n page f key l)
look_modest c t n page f key Already =
    record { bytes = omega arith; pages = omega arith; rows = omega arith; marks = omega arith; turned = omega arith; targets = omega arith; machines = omega arith }
look_modest c t n page f key (SharedFrame g) =
    record { bytes = omega arith; pages = omega arith; rows = omega arith; marks = omega arith; turned = omega arith; targets = omega arith; machines = omega arith }
look_modest c t n page f key (OtherPage m q g) =
    record { bytes = omega arith; pages = omega arith; rows = omega arith; marks = omega arith; turned = omega arith; targets = omega arith; machines = omega arith }
look_modest c t n page f key Changed = hint_modest c n page f (short_of key) (position_from (is_hinted_under (short_of key)) 0 t.listings)
look_modest c t n page f key OtherBytes =
    record { bytes = omega arith; pages = omega arith; rows = omega arith; marks = omega arith; turned = omega arith; targets = omega arith; machines = omega arith }
look_modest c t n page f key Nothing = hint_modest c n page f (short_of key) (position_from (is_hinted_under (short_of key)) 0 t.listings)

scan_modest : (c : Config) (t : Tables) (n page : ℕ) (row : MapRow) → PlansModest c 0 (scan_row t n page row)
scan_modest c t n page maps.Untouched = tt
scan_modest c t n page (maps.Here f) = look_modest c t n page f (key_in (frame_at t.frames f)) (look_in t n page (frame_at t.frames f))
scan_modest c t n page (maps.Out i) = tt
scan_modest c t n page (maps.Lent e) = tt

pub scan_small : (c : Config) (t : Tables) (n page : ℕ) → PlansModest c 0 (scan_plan t n page)
unfolding scan_plan
scan_small c t n page = at_row_modest c 0 (row_at t n) _ (λ v there.
    any_gate c 0 (scan_gate (standing_of v) page (is_here (page_at v.pages page))) (scan_row t n page (page_at v.pages page)) (scan_modest c t n page (page_at v.pages page)))
