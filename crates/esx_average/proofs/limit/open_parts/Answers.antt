use Rattle.std.proofs.Common.{arith, ◌≡◌, ◌∙◌, ap, sym, length}
use Rattle.std.proofs.lemmas.List.Elements.{All-set, AllWithin-more_set}
use Rattle.std.proofs.lemmas.List.{length-set}
use Rattle.esx_types.specs.declared.config.TheConstants.{VM_NUMBERS}
use Rattle.esx_average.specs.Bulk.{IsAbove, IsPart}
use Rattle.esx_average.proofs.limit.open_parts.Goals.{then-row-pages, else-row-pages}
use Rattle.esx_average.proofs.RowLaws.{rows_few}
use Rattle.esx_average.proofs.limit.open_parts.Goals as goal

pub bounds-parts-count : goal.bounds-parts-count
bounds-parts-count c = omega (arith, rows_few c.args.rows.now c.requires.rows, c.loop-i.invariant.few)

pub loop-i-preserved : goal.loop-i-preserved
loop-i-preserved c = elim c.if-row-pages.branch [
  | then-row-pages w ↦ record {
    few = omega (arith, w.count-is, c.loop-i.invariant.few);
    parts = rw w.parts-is (All-set IsPart c.loop-i.parts c.loop-i.count _
        (record { rate = w.rate.ensures.most; pages = c.requires.most c.loop-i.i (omega (arith, c.requires.count, c.loop-i-test.true)) }) c.loop-i.invariant.parts);
    above = let long : length c.loop-i.parts ≡ VM_NUMBERS = sym (length-set c.loop-i.parts c.loop-i.count _) ∙ ap length (sym w.parts-is) ∙ c.if-row-pages.array_long in
        rw w.parts-is (rw w.count-is (AllWithin-more_set c.loop-i.parts c.loop-i.count _
        (omega (arith, long, rows_few c.args.rows.now c.requires.rows, c.loop-i.invariant.few, c.loop-i-test.true)) IsAbove c.loop-i.invariant.above w.if-row-pages.true));
  }
  | else-row-pages w ↦ record {
    few = omega (arith, w.count-is, c.loop-i.invariant.few);
    parts = rw w.parts-is c.loop-i.invariant.parts;
    above = rw w.parts-is (rw w.count-is c.loop-i.invariant.above);
  }
]
