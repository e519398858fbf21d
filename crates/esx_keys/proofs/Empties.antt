-- Chains where no frame stands under a key, and that others may stand behind them then.
use Rattle.std.proofs.Common.{◌≡◌, ℕ, ◌+◌, ◌-◌, ◌++◌, ◌∷◌, [], ◌<◌, ◌≤◌, List, length, replicate, Option, Some, None, get_or, refl, sym, ap, ◌∙◌, inl, inr, arith}
use Rattle.std.proofs.lemmas.Bool.{cases_lt}
use Rattle.std.proofs.lemmas.List.{append-nil, get_or-append_right, get_or-replicate, get_or_append_left, length-append, length-replicate}
use Rattle.esx_types.specs.declared.table.Listing.{Listing}
use Rattle.esx_types.specs.declared.table.Listing.TheVariants.{Unlisted}
use Rattle.esx_keys.specs.Chains.{IsChained}
use Rattle.esx_keys.specs.Index.{IsEmpty, chain_of, frame_chain}
use Rattle.esx_keys.proofs.Used.{unlisted_at}

-- no number is in a chain, and no head names one below n
pub IsChained-none : (n : ℕ) (group : ℕ → Option ℕ) (heads next : List ℕ) → ((k : ℕ) → group k ≡ None) → ((b : ℕ) → b < length heads → n ≤ get_or heads b 0) → IsChained n group heads next
IsChained-none n group heads next none past b None small h = record {
  onward = omega arith;
  skips = λ k from below here. let x : None ≡ Some b = sym (none k) ∙ here in cc;
  lands = λ l. let m = past b small in absurd (omega arith);
}
IsChained-none n group heads next none past b (Some k) small h =
    let x : None ≡ Some b = sym (none k) ∙ h in
    absurd (cc)

-- no head names a number where none is in a chain
heads_past : (n : ℕ) (group : ℕ → Option ℕ) (heads next : List ℕ) → ((k : ℕ) → group k ≡ None) → IsChained n group heads next → (b : ℕ) → b < length heads → n ≤ get_or heads b 0
heads_past n group heads next none chained b small =
    elim (cases_lt (get_or heads b 0) n) [
      | inl l ↦
          let here : None ≡ Some b = sym (none (get_or heads b 0)) ∙ (chained b None small tt).lands l in
          absurd (cc)
      | inr m ↦ m
    ]

more_past : (n m no_frame : ℕ) (heads : List ℕ) → n ≤ no_frame → ((b : ℕ) → b < length heads → n ≤ get_or heads b 0) → (b : ℕ) → b < length (heads ++ replicate m no_frame) → n ≤ get_or (heads ++ replicate m no_frame) b 0
more_past n m no_frame heads large past b small =
    elim (cases_lt b (length heads)) [
      | inl l ↦ omega (arith, get_or_append_left heads (replicate m no_frame) 0 b l, past b l)
      | inr behind ↦
          let all : length (heads ++ replicate m no_frame) ≡ length heads + m = length-append heads (replicate m no_frame) ∙ ap (λ k. length heads + k) (length-replicate m no_frame) in
          omega (arith, get_or-append_right heads (replicate m no_frame) (length heads) b 0 refl behind, get_or-replicate m (b - length heads) no_frame 0 (omega arith))
    ]

no_chains : (heads : ℕ) (listings : List Listing) → IsEmpty listings → (k : ℕ) → frame_chain heads listings k ≡ None
no_chains heads listings empty k = ap (chain_of heads) (empty k)

-- more heads that name no frame may stand behind, at least where no frame stands under a key
pub IsChained-more : (n m no_frame : ℕ) (listings : List Listing) (heads next : List ℕ) → n ≤ no_frame → (0 < m → IsEmpty listings) → IsChained n (frame_chain (length heads) listings) heads next → IsChained n (frame_chain (length (heads ++ replicate m no_frame)) listings) (heads ++ replicate m no_frame) next
IsChained-more n m no_frame listings heads next large empty chained =
    elim (cases_lt 0 m) [
      | inl l ↦
          let none = no_chains (length heads) listings (empty l) in
          IsChained-none n _ _ next (no_chains _ listings (empty l)) (more_past n m no_frame heads large (heads_past n _ heads next none chained))
      | inr z ↦
          let nothing : m ≡ 0 = omega arith in
          let same : heads ++ replicate m no_frame ≡ heads = ap (λ k. heads ++ replicate k no_frame) nothing ∙ append-nil heads in
          rw same chained
    ]

-- one head that names no frame is enough at first
pub IsChained-new : (frames no_frame : ℕ) (next : List ℕ) → frames ≤ no_frame → IsChained frames (frame_chain 1 (replicate frames Unlisted)) (no_frame ∷ []) next
IsChained-new frames no_frame next large =
    let head : (b : ℕ) → b < 1 → frames ≤ get_or (no_frame ∷ []) b 0 = λ b small. let first : b ≡ 0 = omega arith in rw first large in
    IsChained-none frames _ (no_frame ∷ []) next (no_chains 1 _ (unlisted_at frames)) head
