use Rattle.std.proofs.Common.{◌<◌, ◌++◌, ◌∷◌, [], length, sym, ap, ◌∙◌, arith}
use Rattle.esx_keys.proofs.Rows.{shared_from-push, shared_from-same}
use Rattle.esx_keys.proofs.order.shared_rows.Goals as goal
use Rattle.esx_keys.proofs.order.shared_rows.Goals.{in-Some+in_ok-push, in_default}

pub loop-frame-preserved : goal.loop-frame-preserved
loop-frame-preserved c =
    let listings = c.args.listings.now in
    let below : c.loop-frame.frame < length listings = omega arith in
    elim c.match-shared_row.branch [
      | in-Some+in_ok-push w ↦
          ap (λ rows. rows.items) w.rows-is ∙ w.in_ok-push.ensures.items ∙ ap (λ rows. rows ++ w.in-Some.row ∷ []) c.loop-frame.invariant
          ∙ sym (shared_from-push listings c.loop-frame.frame c.index-listings-frame.result w.in-Some.row below c.index-listings-frame.is (sym w.in-Some.is ∙ c.shared_row.ensures))
      | in_default w ↦
          ap (λ rows. rows.items) w.rows-is ∙ c.loop-frame.invariant
          ∙ sym (shared_from-same listings c.loop-frame.frame c.index-listings-frame.result below c.index-listings-frame.is (sym w.in_default.is ∙ c.shared_row.ensures))
    ]
