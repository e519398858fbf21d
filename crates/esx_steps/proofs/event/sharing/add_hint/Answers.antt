use Rattle.std.proofs.Common.{◌≡◌, ap, ◌∙◌, length, nat_le, unwrap_or, arith}
use Rattle.std.specs.List.{insert, position_from}
use Rattle.esx_types.specs.declared.table.Hint.{Hint}
use Rattle.esx_steps.proofs.KeyPlaces.{insert_placed}
use Rattle.esx_steps.proofs.event.sharing.add_hint.Goals as goal

pub returns : goal.returns
returns c =
    let hints = c.args.hints.now.items in
    let new = c.args.new in
    let test = λ (own : Hint). nat_le new.key own.key in
    c.in_ok-insert.ensures.items
    ∙ ap (λ k. insert hints k new) (c.unwrap_or-at.ensures ∙ ap (λ o. unwrap_or o c.len.result) (c.first_from.ensures.place ∙ ap (position_from test 0) c.deref.ensures.value)
    ∙ ap (unwrap_or (position_from test 0 hints)) (let len : c.len.result ≡ length hints = omega arith in len))
    ∙ insert_placed (λ (h : Hint). h.key) new hints
