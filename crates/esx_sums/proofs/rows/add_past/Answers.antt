use Rattle.std.proofs.Common.{◌++◌, List, map, take, append_assoc, sym, ap, ◌∙◌}
use Rattle.std.specs.List.{filter}
use Rattle.esx_sums.specs.declared.guest.Guest.{Guest}
use Rattle.esx_sums.specs.Accounts.{is_over_of}
use Rattle.esx_sums.specs.Rows.{over_row, own_rows}
use Rattle.esx_sums.proofs.RowsMade.{past_next}
use Rattle.esx_sums.proofs.rows.add_past.Goals as goal

pub loop-at-preserved : goal.loop-at-preserved
loop-at-preserved c =
    let n = c.args.vm in
    let f = over_row c.args.losses.now in
    let o = c.index-past-at.result in
    let front = map f (filter (is_over_of n) (take c.loop-at._at c.args.past.now)) in
    let own = own_rows n c.args.losses.now o in
    c.in_ok-add_over.ensures ∙ ap (λ (gs : List Guest). gs ++ own) c.loop-at.invariant ∙ append_assoc c.args.rows.now.items front own
    ∙ ap (λ (gs : List Guest). c.args.rows.now.items ++ gs) (sym (past_next n f c.args.past.now c.loop-at._at o c.loop-at-test.true c.index-past-at.is))
