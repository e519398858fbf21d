-- The tables of guests.
use Rattle.std.specs.Prelude.{ℕ, List, [], ◌∷◌, ◌++◌, ◌+◌, codes, flat_map}
use Rattle.esx_report.specs.declared.field.Field.{Field}
use Rattle.esx_report.specs.declared.field.Field.TheVariants as fields
use Rattle.esx_report.specs.declared.column.Cell.{Cell}
use Rattle.esx_report.specs.declared.column.Cell.TheVariants.{Right}
use Rattle.esx_sums.specs.declared.guest.Guest.{Guest}
use Rattle.esx_report.specs.Rows.{csv_row, table_row}
use Rattle.esx_report.specs.Losses.{number_field}

abbrev pub guest_head : List ℕ
guest_head = codes "vm,life,reads,writes,first,pop,swapin,balloon,swap,replace,drop,share,host,cow,own,back,soon,waits,held,short,above,below,events,sum_here,most,here,target\n"

abbrev pub guest_fields : Guest → List Field
guest_fields g =
    fields.Number g.vm ∷ fields.Number g.life ∷ fields.Number g.reads ∷ fields.Number g.writes
    ∷ fields.Number g.counts.first ∷ fields.Number g.counts.popped ∷ fields.Number g.counts.swapped_in
    ∷ fields.Number g.counts.balloon ∷ fields.Number g.counts.swapped_out ∷ fields.Number g.counts.replaced ∷ fields.Number g.counts.dropped
    ∷ fields.Number g.share ∷ fields.Number g.host ∷ fields.Number g.cow ∷ fields.Number g.own
    ∷ fields.Number g.back ∷ fields.Number g.soon ∷ fields.Number g.waits ∷ fields.Number g.held ∷ fields.Number g.short
    ∷ fields.Number g.above ∷ fields.Number g.below ∷ fields.Number g.events ∷ fields.Number g.sum_here ∷ fields.Number g.most
    ∷ fields.Number g.here ∷ number_field g.target ∷ []

abbrev pub guest_row : Guest → List ℕ
guest_row g = csv_row (guest_fields g)

-- the whole table of guests
abbrev pub guests_csv : List Guest → List ℕ
guests_csv guests = guest_head ++ flat_map guest_row guests

abbrev pub guest_heading : List ℕ
guest_heading = codes " vm life  accesses   first  popped  swapin    lost balloon    swap replace    drop    back   soon  waits  shared    cow   held  short  above   most   here target\n"

abbrev pub guest_cells : Guest → List Cell
guest_cells g =
    Right 3 (fields.Number g.vm) ∷ Right 4 (fields.Number g.life) ∷ Right 9 (fields.Number (g.reads + g.writes))
    ∷ Right 7 (fields.Number g.counts.first) ∷ Right 7 (fields.Number g.counts.popped) ∷ Right 7 (fields.Number g.counts.swapped_in)
    ∷ Right 7 (fields.Number (g.counts.balloon + g.counts.swapped_out + g.counts.replaced + g.counts.dropped))
    ∷ Right 7 (fields.Number g.counts.balloon) ∷ Right 7 (fields.Number g.counts.swapped_out) ∷ Right 7 (fields.Number g.counts.replaced) ∷ Right 7 (fields.Number g.counts.dropped)
    ∷ Right 7 (fields.Number g.back) ∷ Right 6 (fields.Number g.soon) ∷ Right 6 (fields.Number g.waits) ∷ Right 7 (fields.Number g.share) ∷ Right 6 (fields.Number g.cow)
    ∷ Right 6 (fields.Number g.held) ∷ Right 6 (fields.Number g.short) ∷ Right 6 (fields.Percent g.above g.events)
    ∷ Right 6 (fields.Number g.most) ∷ Right 6 (fields.Number g.here) ∷ Right 6 (number_field g.target) ∷ []

abbrev pub guest_line : Guest → List ℕ
guest_line g = table_row (guest_cells g)
