-- What is gathered of a session with one more call.
use Rattle.std.proofs.Common.{◌≡◌, ℕ, ◌+◌, List, ◌++◌, length, sym, ◌∙◌, ap, arith}
use Rattle.std.specs.Prelude.{option_map}
use Rattle.std.specs.Option.{option_to_list}
use Rattle.esx_events.specs.declared.call.Call.{Call}
use Rattle.esx_events.specs.declared.call.Line.{Line}
use Rattle.esx_events.specs.declared.call.Said.{Said}
use Rattle.esx_model.specs.History.{opened, cursor}
use Rattle.esx_model.specs.Console.{Session, history, outcome, next_reply, lined}
use Rattle.esx_paths.specs.declared.makers.Maker.{Maker}
use Rattle.esx_paths.specs.declared.makers.RefusedCall.{RefusedCall}
use Rattle.esx_paths.specs.Makers.{is_done, refusal_in, made_if, refused_at, maker_of, refusal_of, makers, refusals}
use Rattle.esx_paths.proofs.Sessions.{gathered_end}

-- the call's line
abbrev last : Session → ℕ → Call → Line
last s caller call = record { caller = caller; call = call; reply = next_reply s call }

abbrev making : ℕ → ℕ → ℕ → Said → List Maker
making node number caller said = made_if (is_done said) (record { parent = node; call = number; caller = caller })

abbrev refusing : ℕ → ℕ → Call → Said → List RefusedCall
refusing node number call said = option_to_list (option_map (refused_at node number call) (refusal_in said))

pub makers_lined : (s : Session) (caller node number : ℕ) (call : Call) (said : Said) (before rows : List Maker)
    → node ≡ cursor (history s) → number ≡ length s.log + 1 → said ≡ (outcome (history s) call).0 → before ≡ makers s
    → rows ≡ before ++ made_if (is_done said) (record { parent = node; call = number; caller = caller }) → rows ≡ makers (lined s caller call)
makers_lined s caller node number call said before rows at numbered is same pushed =
    let first : number ≡ 1 + length s.log = omega arith in
    pushed ∙ ap (λ l. l ++ making node number caller said) same ∙ ap (λ y. makers s ++ making node number caller y) is
    ∙ ap (λ n. makers s ++ making n number caller (outcome (history s) call).0) at ∙ ap (λ n. makers s ++ making (cursor (history s)) n caller (outcome (history s) call).0) first
    ∙ sym (gathered_end maker_of (opened s.site) 1 s.log (last s caller call))

pub refusals_lined : (s : Session) (caller node number : ℕ) (call : Call) (said : Said) (before rows : List RefusedCall)
    → node ≡ cursor (history s) → number ≡ length s.log + 1 → said ≡ (outcome (history s) call).0 → before ≡ refusals s
    → rows ≡ before ++ option_to_list (option_map (refused_at node number call) (refusal_in said)) → rows ≡ refusals (lined s caller call)
refusals_lined s caller node number call said before rows at numbered is same pushed =
    let first : number ≡ 1 + length s.log = omega arith in
    pushed ∙ ap (λ l. l ++ refusing node number call said) same ∙ ap (λ y. refusals s ++ refusing node number call y) is
    ∙ ap (λ n. refusals s ++ refusing n number call (outcome (history s) call).0) at ∙ ap (λ n. refusals s ++ refusing (cursor (history s)) n call (outcome (history s) call).0) first
    ∙ sym (gathered_end refusal_of (opened s.site) 1 s.log (last s caller call))
