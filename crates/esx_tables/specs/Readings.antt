-- What plans read of the tables, and the tables of a site with no machines.
use Rattle.std.specs.Prelude.{ℕ, Option, None, slice_index_or, replicate}
use Rattle.esx_types.specs.declared.config.Config.{Config}
use Rattle.esx_types.specs.declared.config.TheConstants.{VM_NUMBERS}
use Rattle.esx_types.specs.declared.table.FrameRow.TheVariants as frames
use Rattle.esx_types.specs.declared.table.SlotRow.TheVariants as slots
use Rattle.esx_types.specs.declared.table.Listing.TheVariants as listings
use Rattle.esx_model.specs.declared.book.VmRow.{VmRow}
use Rattle.esx_model.specs.declared.tables.Tables.{Tables}

-- the row of the machine with a number, if there is one
abbrev pub row_at : Tables → ℕ → Option VmRow
row_at t n = slice_index_or t.vms n None

abbrev pub empty_tables : Config → Tables
empty_tables c = record {
  frames = replicate c.frames frames.Free;
  slots = replicate c.slots slots.Free;
  vms = replicate VM_NUMBERS None;
  listings = replicate c.frames listings.Unlisted;
  tau = c.tau;
}
