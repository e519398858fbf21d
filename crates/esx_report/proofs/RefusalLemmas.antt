-- How many calls were refused by each number.
use Rattle.std.proofs.Common.{◌≡◌, ◌+◌, ◌<◌, ◌≤◌, ◌++◌, ℕ, List, length, get_or, take, drop, flat_map, ap, sym, subst, arith, ◌∙◌}
use Rattle.std.specs.List.{enumerate_from}
use Rattle.std.proofs.lemmas.List.{take_all}
use Rattle.std.proofs.lemmas.List.FromFn.{length-enumerate_from, get_or-enumerate_from}
use Rattle.esx_writing.proofs.WritingLemmas.{flat_parts_at, flat_parts_more}
use Rattle.esx_report.specs.SiteTable.{refusal_value, refused_values}

counted : (counts : List ℕ) (i : ℕ) → i < length counts → get_or (enumerate_from 0 counts) i (0, 0) ≡ (i, get_or counts i 0)
counted counts i there =
    let place : 0 + i ≡ i = omega arith in
    get_or-enumerate_from 0 counts i (0, 0) there ∙ ap (λ (n : ℕ). (n, get_or counts i 0)) place

within : (counts : List ℕ) (i : ℕ) → i < length counts → i < length (enumerate_from 0 counts)
within counts i there = subst (λ (n : ℕ). i < n) (sym (length-enumerate_from 0 counts)) there

pub refusals_at : (counts : List ℕ) (i : ℕ) → i < length counts
    → refused_values counts ≡ flat_map refusal_value (take i (enumerate_from 0 counts)) ++ (refusal_value (i, get_or counts i 0) ++ flat_map refusal_value (drop (i + 1) (enumerate_from 0 counts)))
refusals_at counts i there =
    let all = enumerate_from 0 counts in
    flat_parts_at refusal_value all i (0, 0) (within counts i there)
    ∙ ap (λ (p : ℕ × ℕ). flat_map refusal_value (take i all) ++ (refusal_value p ++ flat_map refusal_value (drop (i + 1) all))) (counted counts i there)

pub refusals_more : (counts : List ℕ) (i : ℕ) → i < length counts
    → flat_map refusal_value (take (i + 1) (enumerate_from 0 counts)) ≡ flat_map refusal_value (take i (enumerate_from 0 counts)) ++ refusal_value (i, get_or counts i 0)
refusals_more counts i there =
    let all = enumerate_from 0 counts in
    flat_parts_more refusal_value all i (0, 0) (within counts i there) ∙ ap (λ (p : ℕ × ℕ). flat_map refusal_value (take i all) ++ refusal_value p) (counted counts i there)

pub refusals_all : (counts : List ℕ) (i : ℕ) → length counts ≤ i → refused_values counts ≡ flat_map refusal_value (take i (enumerate_from 0 counts))
refusals_all counts i past = ap (flat_map refusal_value) (sym (take_all i (enumerate_from 0 counts) (subst (λ (n : ℕ). n ≤ i) (sym (length-enumerate_from 0 counts)) past)))
