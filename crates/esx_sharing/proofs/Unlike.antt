-- Where no listed frame has the bytes of a page, it goes to a slot when it leaves its frame.
use Rattle.std.proofs.Common.{◌≡◌, ◌≢◌, ℕ, Bool, true, false, List, Option, Some, None, refl, sym, ap, ◌∙◌, if◌then◌else◌, ◌&&◌, ◌==◌}
use Rattle.std.specs.List.{position_from}
use Rattle.std.specs.Str.{bytes_eq}
use Rattle.std.proofs.lemmas.Slice.Eq.{bytes_eq-Decides}
use Rattle.esx_types.specs.declared.table.FrameRow.{FrameRow}
use Rattle.esx_types.specs.declared.table.FrameRow.TheVariants as frames
use Rattle.esx_types.specs.declared.table.Listing.{Listing}
use Rattle.esx_types.specs.declared.table.Listing.TheVariants.{Unlisted, Shared, Hinted}
use Rattle.esx_types.specs.Frames.{bytes_of, frame_at}
use Rattle.esx_types.specs.Listings.{listing_at, is_shared_under, is_hinted_under}
use Rattle.esx_types.specs.Slots.{least_slot}
use Rattle.esx_formulas.specs.Key.{content_key, hint_key}
use Rattle.esx_lists.proofs.Positions.{first_found}
use Rattle.esx_model.specs.declared.look.Look.{Look}
use Rattle.esx_model.specs.declared.look.Look.TheVariants.{Changed, OtherBytes, Nothing}
use Rattle.esx_model.specs.declared.tables.Tables.{Tables}
use Rattle.esx_sharing.specs.Sharing.{look_at_hinted, look_at_hint, look_by_key, look_in}
use Rattle.esx_sharing.specs.Paging.{leave_frame, leave_by, to_slot}

-- what a page goes to a slot for
abbrev Goes : Tables → ℕ → ℕ → ℕ → FrameRow → Look → Type 0
Goes t n page f row look = to_slot n page f row (least_slot t.slots) ≡ leave_by t n page f row look

either : (t : Tables) (n page f : ℕ) (row : FrameRow) (b : Bool) (x y : Look) → Goes t n page f row x → Goes t n page f row y → Goes t n page f row (if b then x else y)
either t n page f row true x y one other = one
either t n page f row false x y one other = other

unlike : (bytes others : List ℕ) → others ≢ bytes → bytes_eq bytes others ≡ false
unlike bytes others other = is_not (bytes_eq bytes others) ((bytes_eq-Decides bytes others).0)
  where
    is_not : (b : Bool) → (b ≡ true → bytes ≡ others) → b ≡ false
    is_not true same = absurd (other (sym (same refl)))
    is_not false same = refl

-- a frame that stands under something
there : (under : Listing → Bool) (listings : List Listing) (g : ℕ) → under Unlisted ≡ false → position_from under 0 listings ≡ Some g → listing_at listings g ≢ Unlisted
there under listings g none found = λ unlisted.
    let passes : under (listing_at listings g) ≡ true = (first_found under listings g Unlisted found).1 in
    let fails : under (listing_at listings g) ≡ false = ap under unlisted ∙ none in
    cc

by_hint : (t : Tables) (n page f : ℕ) (row : FrameRow) (bytes : List ℕ) (short : ℕ) (others : List ℕ) (g : ℕ) (listing : Listing) → bytes_eq bytes others ≡ false
    → Goes t n page f row (look_at_hinted n page bytes short others g listing)
by_hint t n page f row bytes short others g Unlisted differs = refl
by_hint t n page f row bytes short others g (Shared own) differs = refl
by_hint t n page f row bytes short others g (Hinted m q own) differs =
    rw differs (either t n page f row ((m == n) && (q == page)) Nothing (if hint_key others == short then OtherBytes else Changed) refl
    (either t n page f row (hint_key others == short) OtherBytes Changed refl refl))

module _ (t : Tables) (n page f : ℕ) (bytes : List ℕ) (none : (other : ℕ) → listing_at t.listings other ≢ Unlisted → bytes_of (frame_at t.frames other) ≢ bytes) where
  by_hinted : (hinted : Option ℕ) → position_from (is_hinted_under (hint_key bytes)) 0 t.listings ≡ hinted → Goes t n page f (frames.Private bytes) (look_at_hint t n page bytes (hint_key bytes) hinted)
  by_hinted None is = refl
  by_hinted (Some g) is =
      by_hint t n page f (frames.Private bytes) bytes (hint_key bytes) (bytes_of (frame_at t.frames g)) g (listing_at t.listings g)
      (unlike bytes (bytes_of (frame_at t.frames g)) (none g (there (is_hinted_under (hint_key bytes)) t.listings g refl is)))

  by_shared : (found : Option ℕ) → position_from (is_shared_under (content_key bytes)) 0 t.listings ≡ found → Goes t n page f (frames.Private bytes) (look_by_key t n page bytes (content_key bytes) found)
  by_shared None is = by_hinted (position_from (is_hinted_under (hint_key bytes)) 0 t.listings) refl
  by_shared (Some g) is = rw (unlike bytes (bytes_of (frame_at t.frames g)) (none g (there (is_shared_under (content_key bytes)) t.listings g refl is))) refl

pub leaves_unlike : (t : Tables) (n page f : ℕ) (row : FrameRow) → ((other : ℕ) → listing_at t.listings other ≢ Unlisted → bytes_of (frame_at t.frames other) ≢ bytes_of row)
    → to_slot n page f row (least_slot t.slots) ≡ leave_frame t n page f row
unfolding look_in
leaves_unlike t n page f frames.Free none = refl
leaves_unlike t n page f frames.Overhead none = refl
leaves_unlike t n page f (frames.Shared count bytes) none = refl
leaves_unlike t n page f (frames.Private bytes) none = by_shared t n page f bytes none (position_from (is_shared_under (content_key bytes)) 0 t.listings) refl
