-- How far a walk along a chain has come.
use Rattle.std.proofs.Common.{◌≡◌, ℕ, ◌+◌, ◌%◌, ◌<◌, true, false, length, Some, None, get_or, sym, ap, ◌∙◌, inl, inr, arith, below_more}
use Rattle.std.proofs.lemmas.Bool.{cases_Bool, cases_lt, false≢true, eqb-true}
use Rattle.std.specs.List.{position_from}
use Rattle.esx_lists.proofs.Positions.{first_is, first_is_none}
use Rattle.esx_types.specs.declared.table.Listing.{Listing}
use Rattle.esx_types.specs.declared.table.Listing.TheVariants.{Unlisted, Shared, Hinted}
use Rattle.esx_keys.specs.declared.index.Index.{Index}
use Rattle.esx_keys.specs.declared.entry.Kind.{Kind}
use Rattle.esx_keys.specs.declared.entry.Kind.TheVariants.{Shared as SharedKind, Hint as HintKind}
use Rattle.esx_keys.specs.Chains.{Leads}
use Rattle.esx_types.specs.Listings.{listing_at}
use Rattle.esx_keys.specs.Index.{is_under, chain_of, chain_in, IsIndex}

-- no frame before this one is what is looked for, and this one is in its chain
pub record Walked (index : Index) (kind : Kind) (key at : ℕ) : Type 0 where
  pub before : (k : ℕ) → k < at → is_under kind key (listing_at index.listings k) ≡ false
  pub here : at < length index.listings → chain_in index at ≡ Some (key % length index.heads.items)

-- what stands under a key is in its chain
chain_under : (heads key : ℕ) (kind : Kind) (listing : Listing) → is_under kind key listing ≡ true → chain_of heads listing ≡ Some (key % heads)
chain_under heads key SharedKind Unlisted e = absurd (false≢true e)
chain_under heads key SharedKind (Shared own) e = ap (λ k. Some (k % heads)) (eqb-true own key e)
chain_under heads key SharedKind (Hinted vm page own) e = absurd (false≢true e)
chain_under heads key HintKind Unlisted e = absurd (false≢true e)
chain_under heads key HintKind (Shared own) e = absurd (false≢true e)
chain_under heads key HintKind (Hinted vm page own) e = ap (λ k. Some (k % heads)) (eqb-true own key e)

-- past frames that are not in the chain the walk is as far
walked_on : (index : Index) (kind : Kind) (key i to : ℕ) → ((k : ℕ) → k < i → is_under kind key (listing_at index.listings k) ≡ false) → Leads (length index.listings) (chain_in index) (key % length index.heads.items) i to → Walked index kind key to
walked_on index kind key i to before leads = record {
  before = λ k below. elim (cases_lt k i) [
    | inl l ↦ before k l
    | inr m ↦ elim (cases_Bool (is_under kind key (listing_at index.listings k))) [
      | inl hit ↦ absurd (leads.skips k m below (chain_under (length index.heads.items) key kind (listing_at index.listings k) hit))
      | inr missed ↦ missed
    ]
  ];
  here = leads.lands;
}

pub walk_starts : (index : Index) (kind : Kind) (key : ℕ) → IsIndex index → key % length index.heads.items < length index.heads.items → Walked index kind key (get_or index.heads.items (key % length index.heads.items) 0)
walk_starts index kind key sound inside =
    walked_on index kind key 0 _ (λ k below. absurd (omega arith)) (sound.chained (key % length index.heads.items) None inside tt)

-- the step past a frame that is not what is looked for
pub record GoesOn (index : Index) (kind : Kind) (key at to : ℕ) : Type 0 where
  pub walked : Walked index kind key to
  pub up : at < to

pub walk_goes_on : (index : Index) (kind : Kind) (key at : ℕ) → IsIndex index → key % length index.heads.items < length index.heads.items → at < length index.listings → Walked index kind key at → is_under kind key (listing_at index.listings at) ≡ false → GoesOn index kind key at (get_or index.next at 0)
walk_goes_on index kind key at sound inside below walk missed =
    let leads = sound.chained (key % length index.heads.items) (Some at) inside (walk.here below) in
    record {
      walked = walked_on index kind key (at + 1) _ (below_more _ _ walk.before missed) leads;
      up = omega (arith, leads.onward);
    }

pub walk_finds : (index : Index) (kind : Kind) (key at : ℕ) → at < length index.listings → Walked index kind key at → is_under kind key (listing_at index.listings at) ≡ true → Some at ≡ position_from (is_under kind key) 0 index.listings
walk_finds index kind key at below walk hit = sym (first_is (is_under kind key) index.listings at Unlisted below hit walk.before)

-- the walk ends past the frames that were used
pub walk_ends : (index : Index) (kind : Kind) (key at : ℕ) → listing_at index.listings at ≡ Unlisted → Walked index kind key at → None ≡ position_from (is_under kind key) 0 index.listings
walk_ends index kind key at unlisted walk =
    elim (cases_lt at (length index.listings)) [
      | inl l ↦
          let here : None ≡ Some (key % length index.heads.items) = sym (ap (chain_of (length index.heads.items)) unlisted) ∙ walk.here l in
          absurd (cc)
      | inr past ↦ sym (first_is_none (is_under kind key) index.listings Unlisted (λ k below. walk.before k (omega arith)))
    ]
