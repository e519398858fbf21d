-- What the frames that were used tell of all: behind them nothing stands.
use Rattle.std.proofs.Common.{◌≡◌, ℕ, ◌-◌, ◌<◌, ◌≤◌, List, length, replicate, get_or, refl, sym, ap, ◌∙◌, inl, inr, arith}
use Rattle.std.proofs.lemmas.Bool.{cases_lt}
use Rattle.std.proofs.lemmas.List.{get_or-append_right, get_or-replicate, get_or_append_left, get_or_past, get_or_read, length-append, length-replicate}
use Rattle.esx_types.specs.declared.table.Listing.{Listing}
use Rattle.esx_types.specs.declared.table.Listing.TheVariants.{Unlisted}
use Rattle.esx_types.specs.Listings.{listing_at}
use Rattle.esx_grown.specs.Grown.{grown}

pub unlisted_at : (n i : ℕ) → listing_at (replicate n Unlisted) i ≡ Unlisted
unlisted_at n i =
    elim (cases_lt i n) [
      | inl l ↦ get_or-replicate n i Unlisted Unlisted l
      | inr past ↦ get_or_past (replicate n Unlisted) i Unlisted (omega (arith, length-replicate n Unlisted))
    ]

pub used_within : (used all : List Listing) (len : ℕ) → all ≡ grown Unlisted used len → length used ≤ length all
used_within used all len e = omega (arith, ap length e, length-append used (replicate (len - length used) Unlisted))

pub used_is : (used all : List Listing) (len at : ℕ) (x : Listing) → all ≡ grown Unlisted used len → at < length used → x ≡ get_or used at x → x ≡ listing_at all at
used_is used all len at x e below read =
    get_or_read used at x below read Unlisted ∙ sym (ap (λ xs. listing_at xs at) e ∙ get_or_append_left used _ Unlisted at below)

pub unused_is : (used all : List Listing) (len at : ℕ) → all ≡ grown Unlisted used len → length used ≤ at → listing_at all at ≡ Unlisted
unused_is used all len at e past =
    ap (λ xs. listing_at xs at) e ∙ get_or-append_right used (replicate (len - length used) Unlisted) (length used) at Unlisted refl past
    ∙ unlisted_at (len - length used) (at - length used)
