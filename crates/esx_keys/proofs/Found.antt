-- What a look-up that finds a frame, or none, tells of what stands there.
use Rattle.std.proofs.Common.{◌≡◌, ℕ, ◌<◌, Bool, true, List, length, Option, Some, None, IfSome, IfNone, sym, ◌∙◌, inl, inr}
use Rattle.std.proofs.lemmas.Bool.{cases_lt, false≢true, eqb-true, eq-eqb}
use Rattle.std.specs.List.{position_from}
use Rattle.std.proofs.Math.ListN.{get_or-eq_default}
use Rattle.esx_lists.proofs.Positions.{none_passes, first_found}
use Rattle.esx_types.specs.declared.table.Listing.{Listing}
use Rattle.esx_types.specs.declared.table.Listing.TheVariants.{Unlisted, Shared, Hinted}
use Rattle.esx_types.specs.Listings.{listing_at, is_shared_under, is_hinted_under, IsSharedUnder, IsHintedUnder}

shared_is : (key : ℕ) (x : Listing) → is_shared_under key x ≡ true → IsSharedUnder key x
shared_is key Unlisted e = false≢true e
shared_is key (Shared own) e = eqb-true own key e
shared_is key (Hinted vm page own) e = false≢true e

is_shared : (key : ℕ) (x : Listing) → IsSharedUnder key x → is_shared_under key x ≡ true
is_shared key Unlisted h = absurd h
is_shared key (Shared own) h = eq-eqb own key h
is_shared key (Hinted vm page own) h = absurd h

hinted_is : (key : ℕ) (x : Listing) → is_hinted_under key x ≡ true → IsHintedUnder key x
hinted_is key Unlisted e = false≢true e
hinted_is key (Shared own) e = false≢true e
hinted_is key (Hinted vm page own) e = eqb-true own key e

is_hinted : (key : ℕ) (x : Listing) → IsHintedUnder key x → is_hinted_under key x ≡ true
is_hinted key Unlisted h = absurd h
is_hinted key (Shared own) h = absurd h
is_hinted key (Hinted vm page own) h = eq-eqb own key h

-- what stands at a frame that a look-up found, and that no frame passes where it found none
pub record Tells (test : Listing → Bool) (Is : Listing → Type 0) (listings : List Listing) (o : Option ℕ) : Type 0 where
  pub found : IfSome o (λ frame. Is (listing_at listings frame))
  pub within : IfSome o (λ frame. frame < length listings)
  pub none : IfNone o ((frame : ℕ) → Is (listing_at listings frame) → ⊥)

tells : (test : Listing → Bool) (Is : Listing → Type 0) (means : (x : Listing) → test x ≡ true → Is x) (tests : (x : Listing) → Is x → test x ≡ true) (nothing : Is Unlisted → ⊥) (listings : List Listing) (o : Option ℕ) → o ≡ position_from test 0 listings → Tells test Is listings o
tells test Is means tests nothing listings None e = record {
  found = tt;
  within = tt;
  none = λ frame is. elim (cases_lt frame (length listings)) [
    | inl l ↦ false≢true (sym (none_passes test listings Unlisted (sym e) frame l) ∙ tests _ is)
    | inr m ↦ nothing (rw (get_or-eq_default listings Unlisted m) at is)
  ];
}
tells test Is means tests nothing listings (Some frame) e =
    let at = first_found test listings frame Unlisted (sym e) in
    record { found = means _ at.1; within = at.0; none = tt }

pub tells_shared : (key : ℕ) (listings : List Listing) (o : Option ℕ) → o ≡ position_from (is_shared_under key) 0 listings → Tells (is_shared_under key) (IsSharedUnder key) listings o
tells_shared key listings o e = tells (is_shared_under key) (IsSharedUnder key) (shared_is key) (is_shared key) (λ h. h) listings o e

pub tells_hinted : (key : ℕ) (listings : List Listing) (o : Option ℕ) → o ≡ position_from (is_hinted_under key) 0 listings → Tells (is_hinted_under key) (IsHintedUnder key) listings o
tells_hinted key listings o e = tells (is_hinted_under key) (IsHintedUnder key) (hinted_is key) (is_hinted key) (λ h. h) listings o e
