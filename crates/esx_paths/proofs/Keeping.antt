-- What is kept of a session with no call, and with one more.
use Rattle.std.proofs.Common.{◌≡◌, refl, sym, ◌∙◌, ap, ℕ, ◌+◌, List, [], ◌∷◌, ◌++◌, length, length-append, Result, Ok, Err}
use Rattle.std.specs.Result.{IfOk}
use Rattle.std.specs.Prelude.{option_map}
use Rattle.std.specs.Option.{option_to_list}
use Rattle.esx_types.specs.declared.config.Config.{Config}
use Rattle.esx_events.specs.declared.call.Call.{Call}
use Rattle.esx_events.specs.declared.call.Reply.{Reply}
use Rattle.esx_model.specs.History.{cursor}
use Rattle.esx_model.specs.Console.{Session, history, outcome, next_reply, lined}
use Rattle.esx_console.specs.Calls.{opened_session}
use Rattle.esx_console.specs.Unlogged as unlogged
use Rattle.esx_console.specs.Unlogged.{AnswersAs}
use Rattle.esx_paths.specs.declared.makers.Maker.{Maker}
use Rattle.esx_paths.specs.declared.makers.RefusedCall.{RefusedCall}
use Rattle.esx_paths.specs.Makers.{gathered, is_done, refusal_in, made_if, refused_at}
use Rattle.esx_paths.specs.Pasts.{Kept, IsPastOf}
use Rattle.esx_paths.proofs.Lined.{makers_lined, refusals_lined}

pub first_past : (site : Config) (console : unlogged.Kept) → AnswersAs console (opened_session site)
    → IsPastOf (record { site = site; console = console; calls = 0; makers = []; refused = [] }) (opened_session site)
unfolding gathered
first_past site console answers = record { opened = refl; answers = answers; counted = refl; made = refl; refused = refl }

pub next_past : (s : Session) (past : Kept) (console : unlogged.Kept) (node number caller : ℕ) (call : Call) (reply : Reply) (rows : List Maker) (refused : List RefusedCall)
    → IsPastOf past s → AnswersAs console (lined s caller call) → node ≡ cursor (history s) → number ≡ past.calls + 1 → reply ≡ next_reply s call
    → rows ≡ past.makers ++ made_if (is_done reply.said) (record { parent = node; call = number; caller = caller })
    → refused ≡ past.refused ++ option_to_list (option_map (refused_at node number call) (refusal_in reply.said))
    → IsPastOf (record { site = past.site; console = console; calls = number; makers = rows; refused = refused }) (lined s caller call)
unfolding next_reply
next_past s past console node number caller call reply rows refused is answers at numbered told rows_are refused_are =
    let said_is : reply.said ≡ (outcome (history s) call).0 = ap (λ (r : Reply). r.said) told in
    let count : number ≡ length s.log + 1 = numbered ∙ ap (λ n. n + 1) is.counted in
    record {
      opened = is.opened;
      answers = answers;
      counted = count ∙ sym (length-append s.log (record { caller = caller; call = call; reply = next_reply s call } ∷ []));
      made = makers_lined s caller node number call reply.said past.makers rows at count said_is is.made rows_are;
      refused = refusals_lined s caller node number call reply.said past.refused refused at count said_is is.refused refused_are;
    }

-- what is kept where each part is the same
pub same_kept : (site : Config) (calls : ℕ) (old console : unlogged.Kept) (makers rows : List Maker) (refused others : List RefusedCall) → console ≡ old → rows ≡ makers → others ≡ refused
    → ◌≡◌ {A = Kept} (record { site = site; console = console; calls = calls; makers = rows; refused = others }) (record { site = site; console = old; calls = calls; makers = makers; refused = refused })
same_kept site calls old console makers rows refused others e f g =
    ap (λ k. record { site = site; console = k; calls = calls; makers = rows; refused = others }) e
    ∙ ap (λ m. record { site = site; console = old; calls = calls; makers = m; refused = others }) f
    ∙ ap (λ r. record { site = site; console = old; calls = calls; makers = makers; refused = r }) g

-- what is said of an answer where there is none
pub if_ok_err : {T E : Type 0} (r : Result T E) (e : E) (P : T → Type 0) → r ≡ Err e → IfOk r P
if_ok_err (Ok v) e P is = (let no : ⊥ = cc in absurd no)
if_ok_err (Err x) e P is = tt
