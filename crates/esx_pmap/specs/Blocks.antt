-- Pages by blocks.
use Rattle.std.specs.Prelude.{ℕ, ◌*◌, List, drop, take}
use Rattle.esx_types.specs.declared.table.MapRow.{MapRow}
use Rattle.esx_types.specs.Pages.{resident_count}
use Rattle.esx_pmap.specs.declared.map.TheConstants.{BLOCK}

-- how many of a block of pages are in a frame
abbrev pub block_count : List MapRow → ℕ → ℕ
block_count rows b = resident_count (take BLOCK (drop (b * BLOCK) rows))
