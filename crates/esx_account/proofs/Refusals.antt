-- The refusals so far, and those of one more reason.
use Rattle.std.proofs.Common.{◌≡◌, ℕ, ◌+◌, List, [], ◌∷◌, ◌++◌, refl, sym, ◌∙◌, ap, arith}
use Rattle.std.proofs.lemmas.List.FromFn.{map-range_with_len_more}
use Rattle.esx_story.specs.Waits as story
use Rattle.esx_sums.specs.Mets.{refused_with}
use Rattle.esx_account.specs.Account.{refusals_below}

pub none_below : (mets : List story.Met) → [] ≡ refusals_below 0 mets
unfolding refusals_below
none_below mets = refl

one_more : (k : ℕ) (mets : List story.Met) → refusals_below k mets ++ refused_with k mets ∷ [] ≡ refusals_below (k + 1) mets
unfolding refusals_below
one_more k mets = sym (map-range_with_len_more (λ (number : ℕ). refused_with number mets) 0 k k (omega arith))

pub one_more_reason : (k : ℕ) (mets : List story.Met) (before after : List ℕ) (count : ℕ) → after ≡ before ++ count ∷ [] → before ≡ refusals_below k mets → count ≡ refused_with k mets → after ≡ refusals_below (k + 1) mets
one_more_reason k mets before after count pushed so_far counted =
    pushed ∙ ap (λ counts. counts ++ count ∷ []) so_far ∙ ap (λ n. refusals_below k mets ++ n ∷ []) counted ∙ one_more k mets
