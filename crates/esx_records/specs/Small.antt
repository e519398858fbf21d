-- How much a record holds at most.
use Rattle.std.specs.Prelude.{ℕ, ◌≤◌, List, [], ◌∷◌, length, Option}
use Rattle.std.specs.List.{flat_map}
use Rattle.esx_types.specs.declared.config.Config.{Config}
use Rattle.esx_types.specs.declared.config.TheConstants.{MAX_SAMPLE, VM_NUMBERS}
use Rattle.esx_events.specs.declared.event.Event.{Event}
use Rattle.esx_events.specs.declared.event.Event.TheVariants.{Admit, Start, Read, Write, Ask, Lend, TakeBack, Sample, Rebalance, Scan, SwapOut, Replace, SetShares, SetTax, SetVmTax, Stop, DropPage, Gone}
use Rattle.esx_model.specs.declared.book.VmRow.{VmRow}
use Rattle.esx_tables.specs.declared.change.Change.{Change}
use Rattle.esx_tables.specs.declared.change.Change.TheVariants.{FrameAt, MarkAt, BytesAt, ListingAt, SlotAt, FrameWithSlot, OfVm, VmAt, TaxIs}
use Rattle.esx_tables.specs.Sizes.{size_of}

-- the place of a machine that a change holds, with the machine and its page map or with none
abbrev pub place_in : Change → List (Option VmRow)
place_in (VmAt n row) = row ∷ []
place_in (FrameAt f row) = []
place_in (MarkAt f mark) = []
place_in (BytesAt f offset bytes) = []
place_in (ListingAt f listing) = []
place_in (SlotAt i row) = []
place_in (FrameWithSlot f i) = []
place_in (OfVm n part) = []
place_in (TaxIs tau) = []

-- those of all changes
abbrev pub places_in : List Change → List (Option VmRow)
places_in changes = flat_map place_in changes

-- how many machines an event moves at most into its record, or out of it
abbrev pub machines_moved : Event → ℕ
machines_moved (Admit n spec) = 1
machines_moved (Gone n) = 1
machines_moved (Start n) = 0
machines_moved (Read n page at len) = 0
machines_moved (Write n page at new) = 0
machines_moved (Ask n) = 0
machines_moved (Lend n page) = 0
machines_moved (TakeBack n page) = 0
machines_moved (Sample n len words) = 0
machines_moved Rebalance = 0
machines_moved (Scan n page) = 0
machines_moved (SwapOut n word) = 0
machines_moved (Replace n page word) = 0
machines_moved (SetShares n shares) = 0
machines_moved (SetTax tau) = 0
machines_moved (SetVmTax n tau) = 0
machines_moved (Stop n) = 0
machines_moved (DropPage n page) = 0

-- One page of bytes, 10 rows, `MAX_SAMPLE` sample marks and a target of each machine at most; and at most so many machines, each with its page map.
pub record IsSmall (c : Config) (most : ℕ) (changes : List Change) : Type 0 where
  pub bytes : (size_of changes).bytes ≤ c.page
  pub rows : (size_of changes).rows ≤ 10
  pub marks : (size_of changes).marks ≤ MAX_SAMPLE
  pub targets : (size_of changes).targets ≤ VM_NUMBERS
  pub machines : length (places_in changes) ≤ most
