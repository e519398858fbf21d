-- The index over listings. No public clause cites this module.
use Rattle.std.specs.Prelude.{◌≡◌, ℕ, ◌%◌, ◌<◌, ◌≤◌, ◌^◌, List, length, Option, Some, None, Bool, true, false, count_by, vec_capacity}
use Rattle.std.specs.Int.{IsPowerOfTwo}
use Rattle.esx_types.specs.declared.table.Listing.{Listing}
use Rattle.esx_types.specs.declared.table.Listing.TheVariants.{Unlisted, Shared, Hinted}
use Rattle.esx_keys.specs.declared.entry.Kind.{Kind}
use Rattle.esx_keys.specs.declared.entry.Kind.TheVariants.{Shared as SharedKind, Hint as HintKind}
use Rattle.esx_keys.specs.declared.index.Index.{Index}
use Rattle.esx_keys.specs.Chains.{IsChained, link_at}
use Rattle.esx_types.specs.Listings.{listing_at, is_shared_under, is_hinted_under}

-- what a look-up of a kind looks for
abbrev pub is_under : Kind → ℕ → Listing → Bool
is_under SharedKind key listing = is_shared_under key listing
is_under HintKind key listing = is_hinted_under key listing

-- something stands there
abbrev pub is_listed : Listing → Bool
is_listed Unlisted = false
is_listed (Shared key) = true
is_listed (Hinted vm page key) = true

-- so many frames stand under keys
abbrev pub IsCounted : List Listing → ℕ → Type 0
IsCounted listings listed = listed ≡ count_by is_listed listings

-- the chain of a listing among so many
abbrev pub chain_of : ℕ → Listing → Option ℕ
chain_of heads Unlisted = None
chain_of heads (Shared key) = Some (key % heads)
chain_of heads (Hinted vm page key) = Some (key % heads)

-- the chain of each frame
abbrev pub frame_chain : ℕ → List Listing → ℕ → Option ℕ
frame_chain heads listings frame = chain_of heads (listing_at listings frame)

-- the same in an index
abbrev pub chain_in : Index → ℕ → Option ℕ
chain_in index = frame_chain (length index.heads.items) index.listings

-- the frame that a place of a chain leads to
abbrev pub link_in : Index → ℕ → Option ℕ → ℕ
link_in index = link_at index.heads.items index.next

-- no frame stands under a key
abbrev pub IsEmpty : List Listing → Type 0
IsEmpty listings = (frame : ℕ) → listing_at listings frame ≡ Unlisted

-- the frames that stand under keys are chained, each in the chain of its key; there is room for all chains,
-- and all are there once a frame stands under a key
pub record IsIndex (index : Index) : Type 0 where
  pub fits : length index.listings < 2 ^ 32
  pub links : length index.next ≡ length index.listings
  pub power : IsPowerOfTwo (length index.heads.items)
  pub chained : IsChained (length index.listings) (chain_in index) index.heads.items index.next
  pub chains : IsPowerOfTwo index.chains
  pub few : length index.heads.items ≤ index.chains
  pub whole : length index.heads.items < index.chains → IsEmpty index.listings
  pub room : index.chains ≤ vec_capacity index.heads

-- as many frames and chains as before
pub record SameSizes (before now : Index) : Type 0 where
  pub heads : length now.heads.items ≡ length before.heads.items
  pub next : length now.next ≡ length before.next
  pub listings : now.listings ≡ before.listings
  pub chains : now.chains ≡ before.chains
  pub room : vec_capacity now.heads ≡ vec_capacity before.heads
