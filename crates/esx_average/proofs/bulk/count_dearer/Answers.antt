use Rattle.std.proofs.Common.{◌≡◌, ℕ, ◌+◌, ◌<◌, ◌≤◌, List, length, slice_index, get_or, set, ◌∙◌, inl, inr, arith, get_or-set_same, get_or-set_other}
use Rattle.std.proofs.lemmas.Bool.{cases_eq}
use Rattle.std.proofs.lemmas.Grind.{common_steps}
use Rattle.esx_types.specs.declared.config.TheConstants.{VM_NUMBERS}
use Rattle.esx_formulas.specs.Ratio.{row_at}
use Rattle.esx_average.specs.Bulk.{kept}
use Rattle.esx_average.proofs.RowLaws.{rows_few}
use Rattle.esx_average.proofs.bulk.count_dearer.Goals as goal

-- one more row keeps what it is to keep
keeps_more : (keeps : List ℕ) (i v k : ℕ) (f : ℕ → ℕ) → i < length keeps → ((j : ℕ) → j < i → get_or keeps j 0 ≡ f j) → v ≡ f i → k < i + 1 →
    get_or (set keeps i v) k 0 ≡ f k
keeps_more keeps i v k f fits before here p =
    elim (cases_eq k i) [
      | inl e ↦ rw e (get_or-set_same keeps i v 0 fits ∙ here)
      | inr ne ↦ get_or-set_other keeps i k v 0 ne ∙ before k (omega arith)
    ]

pub bounds-keeps-i : goal.bounds-keeps-i
bounds-keeps-i c = omega (arith, rows_few c.args.rows.now c.requires.rows)

pub overflow_add-count : goal.overflow_add-count
overflow_add-count c =
    omega (arith, rows_few c.args.rows.now c.requires.rows, c.loop-i.invariant.most, c.requires.most c.loop-i.i (omega (arith, c.requires.count)))

pub returns-clause-most : goal.returns-clause-most
returns-clause-most c = omega (arith, rows_few c.args.rows.now c.requires.rows, c.loop-i.invariant.most)

pub loop-i-preserved : goal.loop-i-preserved
loop-i-preserved c =
    let few : length c.args.rows.now ≤ VM_NUMBERS = rows_few c.args.rows.now c.requires.rows in
    let here : c.kept-stays.result ≡ kept (row_at c.args.rows.now c.loop-i.i) c.args.limit (slice_index c.args.targets.now c.loop-i.i) = grind (arith, common_steps) in
    record {
      value = grind (arith, common_steps);
      most = omega (arith, c.loop-i.invariant.most, c.requires.most c.loop-i.i (omega (arith, c.requires.count)));
      each = λ k p. keeps_more c.loop-i.keeps c.loop-i.i c.kept-stays.result k (λ j. kept (row_at c.args.rows.now j) c.args.limit (slice_index c.args.targets.now j))
          (omega (arith, few)) c.loop-i.invariant.each here p;
    }
