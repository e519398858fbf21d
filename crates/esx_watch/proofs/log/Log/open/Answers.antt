use Rattle.std.proofs.Common.{◌++◌, ◌∷◌, [], ap, ◌∙◌}
use Rattle.esx_watch.proofs.Going.{log_is}
use Rattle.esx_watch.proofs.log.Log.open.Goals as goal

pub returns : goal.returns
returns c = log_is c.args.site _ _ _ (c.from_vec.ensures ∙ c.in_ok-shared.ensures) c.nobody-guests.ensures
    (c.in_ok-push.ensures.items ∙ ap (λ xs. xs ++ c.opening_step-first.result ∷ []) c.new-steps.ensures.items ∙ ap (λ x. x ∷ []) c.opening_step-first.ensures)
