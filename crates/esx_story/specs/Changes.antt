-- Changes: a page of a machine comes into a frame or leaves it.
use Rattle.std.specs.Prelude.{ℕ, Bool, true, false, ◌==◌, Option, Some, None}
use Rattle.esx_model.specs.declared.scene.Site.{Site}
use Rattle.esx_model.specs.declared.scene.Vm.{Vm}
use Rattle.esx_model.specs.Places.{is_here}
use Rattle.esx_model.specs.Site.{vm_at, place_of, resident}
pub use Rattle.esx_story.specs.declared.change.How.{How}
pub use Rattle.esx_story.specs.declared.change.How.TheVariants.{Balloon, Swap, Replaced, Dropped, First, Pop, SwapIn, Share, Host, Cow, Own, LentAway, TakenBack, DroppedOut}
pub use Rattle.esx_story.specs.declared.change.Change.{Change}

abbrev pub change : ℕ → ℕ → How → Change
change n page how = record { vm = n; page = page; how = how }

-- the page of machine n is in a frame
abbrev pub has_here : Site → ℕ → ℕ → Bool
has_here s n page = is_here (place_of s n page)

-- how many pages of machine n are in frames
abbrev pub resident_in : Option Vm → ℕ
resident_in None = 0
resident_in (Some v) = resident v

abbrev pub resident_of : Site → ℕ → ℕ
resident_of s n = resident_in (vm_at s n)

-- the change is of machine n
abbrev pub is_of : ℕ → Option Change → Bool
is_of n None = false
is_of n (Some x) = x.vm == n

-- so a page leaves its frame
abbrev pub is_leaving : How → Bool
is_leaving Balloon = true
is_leaving Swap = true
is_leaving Replaced = true
is_leaving Dropped = true
is_leaving _ = false

-- so a page comes into a frame
abbrev pub is_coming : How → Bool
is_coming First = true
is_coming Pop = true
is_coming SwapIn = true
is_coming _ = false
