-- A sample period that opens.
use Rattle.std.proofs.Common.{◌≡◌, ℕ, ◌≤◌, ◌&&◌, nat_le, Bool, true, false, not, List, length, map, refl, arith, is_some}
use Rattle.std.proofs.lemmas.Bool.Decides.{nat_tests}
use Rattle.std.proofs.lemmas.List.{length-map}
use Rattle.esx_types.specs.declared.config.Config.{Config}
use Rattle.esx_types.specs.declared.config.TheConstants.{MAX_LENGTH, MAX_SAMPLE}
use Rattle.esx_model.specs.declared.book.Mark.{Mark}
use Rattle.esx_model.specs.declared.tables.Tables.{Tables}
use Rattle.esx_model.specs.Tables.{standing_of}
use Rattle.esx_model.specs.event.Sampling.{are_good_words, sample_gate}
use Rattle.esx_tables.specs.Readings.{row_at}
use Rattle.esx_plans.specs.plan.Sampling.{drawn, sample_plan}
use Rattle.esx_records.proofs.Modest.{PlansModest, at_row_modest, gate_modest}

middle : (a b d e : Bool) → not (a && b && d && e) ≡ false → b ≡ true
middle true true d e h = refl
middle true false d e h = cc
middle false b d e h = cc

within : (count : ℕ) → nat_le count MAX_SAMPLE ≡ true → count ≤ MAX_SAMPLE
within count h = grind (arith, nat_tests)

few_words : (count len : ℕ) → not (are_good_words count len) ≡ false → count ≤ MAX_SAMPLE
few_words count len h = within count (middle (nat_le 1 count) (nat_le count MAX_SAMPLE) (nat_le 1 len) (nat_le len MAX_LENGTH) h)

pub sample_small : (c : Config) (t : Tables) (n len : ℕ) (words : List ℕ) → PlansModest c 0 (sample_plan t n len words)
unfolding sample_plan
sample_small c t n len words = at_row_modest c 0 (row_at t n) _ (λ v there. gate_modest c 0 (sample_gate (standing_of v) (length words) len (is_some v.period)) _ (λ pass.
    let few = few_words (length words) len pass.1.0 in
    let marks : List Mark = map (drawn v.spec.max) words in
    let same : length marks ≡ length words = length-map words (drawn v.spec.max) in
    record { bytes = omega arith; pages = omega arith; rows = omega arith; marks = omega (arith, few, same); turned = omega arith; targets = omega arith; machines = omega arith }))
