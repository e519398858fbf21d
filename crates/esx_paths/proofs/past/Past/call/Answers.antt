use Rattle.std.proofs.Common.{◌≡◌, refl, sym, ◌∙◌, ap, subst, ◌+◌, ◌++◌, arith}
use Rattle.std.specs.Prelude.{option_map}
use Rattle.std.specs.Option.{option_to_list}
use Rattle.std.proofs.lemmas.Result.{err_from_is_err_and}
use Rattle.esx_events.specs.declared.call.Stand.{Stand}
use Rattle.esx_model.specs.History.{cursor}
use Rattle.esx_model.specs.Console.{history, lined}
use Rattle.esx_check.proofs.GateLemmas.{on_err}
use Rattle.esx_paths.specs.declared.makers.Maker.{Maker}
use Rattle.esx_paths.specs.Makers.{made_if, refused_at}
use Rattle.esx_paths.specs.Pasts.{Kept, IsPastOf, IsKept}
use Rattle.esx_paths.proofs.Keeping.{next_past, same_kept, if_ok_err}
use Rattle.esx_paths.proofs.past.Past.call.Goals as goal

pub returns-in_default-clause-err : goal.returns-in_default-clause-err
returns-in_default-clause-err c = refl

pub invariant_of-self : goal.invariant_of-self
invariant_of-self c = subst IsKept (sym (same_kept _ _ _ _ _ _ _ _ refl c.take_room.ensures.makers c.take_room.ensures.refused)) c.self.invariant

pub returns-in_err-take_room-clause-ok : goal.returns-in_err-take_room-clause-ok
returns-in_err-take_room-clause-ok c = if_ok_err c.from_residual.result _ _ (err_from_is_err_and c.from_residual.result c.from_residual.ensures.1).1

pub returns-in_err-take_room-clause-lined : goal.returns-in_err-take_room-clause-lined
returns-in_err-take_room-clause-lined c = if_ok_err c.from_residual.result _ _ (err_from_is_err_and c.from_residual.result c.from_residual.ensures.1).1

pub returns-in_err-take_room-clause-count : goal.returns-in_err-take_room-clause-count
returns-in_err-take_room-clause-count c = if_ok_err c.from_residual.result _ _ (err_from_is_err_and c.from_residual.result c.from_residual.ensures.1).1

pub returns-in_err-take_room-clause-err : goal.returns-in_err-take_room-clause-err
returns-in_err-take_room-clause-err c = on_err c.from_residual.result (same_kept _ _ _ _ _ _ _ _ refl c.take_room.ensures.makers c.take_room.ensures.refused ∙ c.self.view_is)

pub call-requires : goal.call-requires
call-requires c = omega (arith, c.self.invariant.few, c.in-Some.ensures.0)

pub invariant_of-self-in_err-reply : goal.invariant_of-self-in_err-reply
invariant_of-self-in_err-reply c =
    subst IsKept (sym (same_kept _ _ _ _ _ _ _ _ c.in_err-reply.ensures.err c.take_room.ensures.makers c.take_room.ensures.refused)) c.self.invariant

pub returns-in_err-reply-clause-ok : goal.returns-in_err-reply-clause-ok
returns-in_err-reply-clause-ok c = if_ok_err c.from_residual-in_err-reply.result _ _ (err_from_is_err_and c.from_residual-in_err-reply.result c.from_residual-in_err-reply.ensures.1).1

pub returns-in_err-reply-clause-lined : goal.returns-in_err-reply-clause-lined
returns-in_err-reply-clause-lined c = if_ok_err c.from_residual-in_err-reply.result _ _ (err_from_is_err_and c.from_residual-in_err-reply.result c.from_residual-in_err-reply.ensures.1).1

pub returns-in_err-reply-clause-count : goal.returns-in_err-reply-clause-count
returns-in_err-reply-clause-count c = if_ok_err c.from_residual-in_err-reply.result _ _ (err_from_is_err_and c.from_residual-in_err-reply.result c.from_residual-in_err-reply.ensures.1).1

pub returns-in_err-reply-clause-err : goal.returns-in_err-reply-clause-err
returns-in_err-reply-clause-err c =
    on_err c.from_residual-in_err-reply.result
    (same_kept _ _ _ _ _ _ _ _ c.in_err-reply.ensures.err c.take_room.ensures.makers c.take_room.ensures.refused ∙ c.self.view_is)

pub note_maker-requires : goal.note_maker-requires
note_maker-requires c = c.in_ok-take_room.ensures.room.0

pub note_refused-requires : goal.note_refused-requires
note_refused-requires c = c.in_ok-take_room.ensures.room.1

pub returns-clause-ok : goal.returns-clause-ok
returns-clause-ok c = λ s is.
    let P : Kept → Type 0 = λ k. IsPastOf k s in
    c.in_ok-reply.ensures.ok s (subst P (sym c.self.view_is) is).answers

pub returns-clause-lined : goal.returns-clause-lined
returns-clause-lined c = λ s is.
    let P : Kept → Type 0 = λ k. IsPastOf k s in
    let old = subst P (sym c.self.view_is) is in
    let node = c.stand-node.result.node in
    let number = c.in-Some.number in
    let call = c.args.call.now in
    let made : Maker = record { parent = node; call = number; caller = c.args.caller } in
    let before = c.self.inside.makers.items in
    let others = c.self.inside.refused.items in
    let at : node ≡ cursor (history s) = ap (λ (stand : Stand). stand.node) (c.stand-node.ensures s old.answers) in
    let rows = c.note_maker.ensures ∙ ap (λ l. l ++ made_if c.is_done.result made) c.take_room.ensures.makers ∙ ap (λ b. before ++ made_if b made) c.is_done.ensures in
    let refused = c.note_refused.ensures ∙ ap (λ l. l ++ option_to_list (option_map (refused_at node number call) c.refusal_in.result)) c.take_room.ensures.refused
    ∙ ap (λ o. others ++ option_to_list (option_map (refused_at node number call) o)) c.refusal_in.ensures in
    next_past s _ c.call.new.self node number c.args.caller call c.in_ok-reply.reply _ _ old (c.in_ok-reply.ensures.lined s c.args.caller old.answers) at c.in-Some.ensures.1
    (c.in_ok-reply.ensures.ok s old.answers) rows refused

pub invariant_of-self-2 : goal.invariant_of-self-2
invariant_of-self-2 c =
    let kept = c.self.invariant in
    let P : Kept → Type 0 = λ k. IsPastOf k kept.session in
    record {
      session = lined kept.session c.args.caller c.args.call.now;
      is_past = returns-clause-lined c kept.session (subst P c.self.view_is kept.is_past);
      few = omega (arith, kept.few, c.in-Some.ensures.1, c.in_ok-reply.ensures.few);
    }

pub returns-clause-count : goal.returns-clause-count
returns-clause-count c = c.in-Some.ensures.1 ∙ ap (λ (k : Kept). k.calls + 1) c.self.view_is
