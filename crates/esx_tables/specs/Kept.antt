-- What changes keep of the tables, and where a change has no place.
use Rattle.std.specs.Prelude.{◌≡◌, ◌≤◌, length}
use Rattle.esx_model.specs.declared.tables.Tables.{Tables}
use Rattle.esx_tables.specs.declared.change.Change.{Change}
use Rattle.esx_tables.specs.declared.change.Change.TheVariants.{FrameAt, MarkAt, BytesAt, ListingAt, SlotAt, FrameWithSlot, OfVm, VmAt, TaxIs}

-- as many frames, slots, places of machines and listings
pub record SameSizes (t u : Tables) : Type 0 where
  pub frames : length u.frames ≡ length t.frames
  pub slots : length u.slots ≡ length t.slots
  pub vms : length u.vms ≡ length t.vms
  pub listings : length u.listings ≡ length t.listings

-- the tables have no such place
abbrev pub IsPast : Tables → Change → Type 0
IsPast t (FrameAt f row) = length t.frames ≤ f
IsPast t (MarkAt f mark) = length t.frames ≤ f
IsPast t (BytesAt f offset bytes) = length t.frames ≤ f
IsPast t (ListingAt f listing) = length t.listings ≤ f
IsPast t (SlotAt i row) = length t.slots ≤ i
IsPast t (FrameWithSlot f i) = length t.slots ≤ i
IsPast t (OfVm n part) = length t.vms ≤ n
IsPast t (VmAt n row) = length t.vms ≤ n
IsPast t (TaxIs tau) = ⊥
