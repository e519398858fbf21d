-- Worked examples, by computation: the lines of a guest among others', and what its reads answer.
use Rattle.std.specs.Prelude.{◌≡◌, ℕ, true, List, [], ◌∷◌, ◌++◌, map}
use Rattle.std.specs.List.{AllByRecursion}
use Rattle.std.proofs.Common.{refl}
use Rattle.esx_types.specs.declared.config.Config.{Config}
use Rattle.esx_events.specs.declared.event.Event.{Event}
use Rattle.esx_events.specs.declared.event.Event.TheVariants as events
use Rattle.esx_events.specs.declared.event.Answer.TheVariants as answers
use Rattle.esx_events.specs.declared.event.Scanned.TheVariants as scanned
use Rattle.esx_events.specs.declared.event.Refusal.TheVariants as refusals
use Rattle.esx_events.specs.declared.call.Call.{Call}
use Rattle.esx_events.specs.declared.call.Call.TheVariants as calls
use Rattle.esx_events.specs.declared.call.Help.TheVariants as helps
use Rattle.esx_events.specs.declared.call.Line.{Line}
use Rattle.esx_events.specs.declared.call.Said.{Said}
use Rattle.esx_events.specs.declared.call.Said.TheVariants as said
use Rattle.esx_model.specs.Alone.{reads_from, alone}
use Rattle.esx_model.specs.Guests.{Send, Advise, Follow, left_of, stage_of, IsGuestRun, left_after, reads_answered, DoesOrAsks, Opens, Leaves, lines_by, NeverFull}
use Rattle.esx_model.proofs.rows.Replies.{site, spec, reserved, reply, replies_of}

abbrev pub small : Config
small = site 8 16 8 75 6 4 2 1 16777216

abbrev pub line : ℕ → Call → Said → Line
line caller call told = record { caller = caller; call = call; reply = reply 0 told }

-- Caller 0 is a guest of machine 0. Caller 1 shares the guest's page, writes its own of equal bytes, fills the site, and pages the guest's page out.
abbrev pub trace : List Event
trace = events.Write 0 0 0 (42 ∷ []) ∷ events.Read 0 1 0 1 ∷ events.Read 0 2 0 1 ∷ events.Read 0 0 0 2 ∷ []

abbrev pub opening : List Line
opening =
    line 2 (calls.Do (events.Admit 0 (spec 1 6 1 1000 0))) (said.Done (answers.Admitted (reserved 2 8 5 8)))
    ∷ line 2 (calls.Do (events.Admit 1 (spec 1 4 1 1000 0))) (said.Done (answers.Admitted (reserved 4 8 8 8)))
    ∷ line 2 (calls.Do (events.Start 0)) (said.Done (answers.Started true 0 1 1))
    ∷ line 2 (calls.Do (events.Start 1)) (said.Done (answers.Started true 1 1 1)) ∷ []

abbrev pub later : List Line
later =
    line 0 (calls.Do (events.Write 0 0 0 (42 ∷ []))) (said.Done answers.Done)
    ∷ line 1 (calls.Do (events.Write 1 0 0 (42 ∷ []))) (said.Done answers.Done)
    ∷ line 1 (calls.Do (events.Scan 1 0)) (said.Done (answers.Looked scanned.Hinted))
    ∷ line 1 (calls.Do (events.Scan 0 0)) (said.Done (answers.Looked (scanned.Shared 3 2)))
    ∷ line 1 (calls.Do (events.Write 1 0 0 (43 ∷ []))) (said.Done answers.Done)
    ∷ line 1 (calls.Do (events.Read 1 1 0 1)) (said.Done (answers.Bytes (0 ∷ [])))
    ∷ line 1 (calls.Do (events.Read 1 2 0 1)) (said.Done (answers.Bytes (0 ∷ [])))
    ∷ line 1 (calls.Do (events.Read 1 3 0 1)) (said.Done (answers.Bytes (0 ∷ [])))
    ∷ line 0 (calls.Do (events.Read 0 1 0 1)) (said.Done (answers.Bytes (0 ∷ [])))
    ∷ line 0 (calls.Do (events.Read 0 2 0 1)) (said.Refused refusals.Short)
    ∷ line 0 (calls.Advise 0 2) (said.Help helps.Rebalance)
    ∷ line 0 (calls.Do events.Rebalance) (said.Done (answers.Rebalanced 5 4))
    ∷ line 0 (calls.Do (events.Read 0 2 0 1)) (said.Refused refusals.Held)
    ∷ line 1 (calls.Do (events.SwapOut 0 0)) (said.Done (answers.PagedOut 0 0))
    ∷ line 1 (calls.Do (events.SwapOut 1 0)) (said.Done (answers.PagedOut 0 1))
    ∷ line 0 (calls.Advise 0 2) (said.Help helps.Go)
    ∷ line 1 (calls.Do (events.SwapOut 1 7)) (said.Done (answers.PagedOut 2 2))
    ∷ line 0 (calls.Do (events.Read 0 2 0 1)) (said.Done (answers.Bytes (0 ∷ [])))
    ∷ line 0 (calls.Do (events.Read 0 0 0 2)) (said.Done (answers.Bytes (42 ∷ 0 ∷ []))) ∷ []

-- the log is one of a console
pub answered : replies_of small (map (λ (x : Line). x.call) (opening ++ later)) ≡ map (λ (x : Line). x.reply) (opening ++ later)
unfolding replies_of
answered = refl

-- The guest's lines are a run of its trace: an access that has to wait is sent again, after advice and what it names,
pub runs : IsGuestRun 0 trace Send (lines_by 0 later)
runs = (refl, (refl, (refl, (refl, ((events.Rebalance, refl, refl), (refl, (refl, (refl, (refl, tt)))))))))

-- which was gone through,
pub gone_through : left_after trace Send (lines_by 0 later) ≡ []
gone_through = refl

pub never_full : NeverFull (lines_by 0 later)
never_full = ((λ h. cc), ((λ h. cc), ((λ h. cc), ((λ h. cc), ((λ h. cc), ((λ h. cc), ((λ h. cc), ((λ h. cc), ((λ h. cc), tt)))))))))

-- and its reads answer what they answer alone.
reads : reads_answered (lines_by 0 later) ≡ (0 ∷ []) ∷ (0 ∷ []) ∷ (42 ∷ 0 ∷ []) ∷ []
reads = refl

pub reads_alone : alone small trace ≡ reads_answered (lines_by 0 later)
unfolding reads_from
reads_alone = refl

-- What is left of a trace, and what comes next, after each kind of reply.
waits : (left_of trace Send (said.Refused refusals.Held) ≡ trace) × (stage_of trace Send (said.Refused refusals.Held) ≡ Advise)
waits = (refl, refl)

passes_over : (left_of trace Send (said.Refused refusals.NotRunning) ≡ events.Read 0 1 0 1 ∷ events.Read 0 2 0 1 ∷ events.Read 0 0 0 2 ∷ []) × (stage_of trace Send (said.Refused refusals.NotRunning) ≡ Send)
passes_over = (refl, refl)

lends_once : left_of (events.Lend 0 0 ∷ trace) Send (said.Refused refusals.Held) ≡ trace
lends_once = refl

follows : (stage_of trace Advise (said.Help (helps.SwapOut 1)) ≡ Follow (helps.SwapOut 1)) × (stage_of trace Advise (said.Help helps.Replace) ≡ Follow helps.Replace) × (stage_of trace Advise (said.Help helps.Go) ≡ Send) × (stage_of trace Advise (said.Refused refusals.NoVm) ≡ Send)
follows = (refl, refl, refl, refl)

sends_again : (left_of trace (Follow helps.Rebalance) (said.Refused refusals.Full) ≡ trace) × (stage_of trace (Follow helps.Rebalance) (said.Refused refusals.Full) ≡ Send)
sends_again = (refl, refl)

-- It may stop after any line, and an event out of order is none of its lines.
stops : IsGuestRun 0 trace Send (line 0 (calls.Do (events.Write 0 0 0 (42 ∷ []))) (said.Done answers.Done) ∷ [])
stops = (refl, tt)

out_of_order : IsGuestRun 0 trace Send (line 0 (calls.Do (events.Read 0 1 0 1)) (said.Done (answers.Bytes (0 ∷ []))) ∷ []) → ⊥
out_of_order run = (let no = run.0 in cc)

not_advised : IsGuestRun 0 trace (Follow helps.Rebalance) (line 0 (calls.Do (events.Replace 0 1 0)) (said.Done (answers.Replaced 0 0 2)) ∷ []) → ⊥
not_advised run = (let no = run.0.1 in let named = run.0.2 in cc)

-- What opens a log; what others may do to the guest's machine, and what nobody may do.
pub opens : AllByRecursion (λ x. Opens x.call) opening
opens = (refl, (refl, (refl, (refl, tt))))

opens_no_read : Opens (calls.Do (events.Read 0 0 0 1)) → ⊥
opens_no_read h = cc

pub does : AllByRecursion (λ x. DoesOrAsks x.call) later
does = (tt, (tt, (tt, (tt, (tt, (tt, (tt, (tt, (tt, (tt, (tt, (tt, (tt, (tt, (tt, (tt, (tt, (tt, (tt, tt)))))))))))))))))))

nobody_undoes : (DoesOrAsks (calls.Undo 1) → ⊥) × (DoesOrAsks (calls.Redo 1) → ⊥) × (DoesOrAsks (calls.Goto 1) → ⊥) × (DoesOrAsks (calls.Visit []) → ⊥) × (DoesOrAsks (calls.Prune 1) → ⊥)
nobody_undoes = (λ h. h, λ h. h, λ h. h, λ h. h, λ h. h)

others_share : Leaves 0 (calls.Do (events.Scan 0 0)) × Leaves 0 (calls.Do (events.SwapOut 0 7)) × Leaves 0 (calls.Do (events.Sample 0 1 (0 ∷ []))) × Leaves 0 (calls.Do (events.SetShares 0 1)) × Leaves 0 (calls.Do (events.Write 1 0 0 (1 ∷ [])))
others_share = (λ h. refl, λ h. refl, λ h. refl, λ h. refl, λ h. (let no = h in cc))

abbrev IsForbidden : Event → Type 0
IsForbidden e = Leaves 0 (calls.Do e) → ⊥

others_may_not : IsForbidden (events.Write 0 0 0 (1 ∷ [])) × IsForbidden (events.Read 0 0 0 1) × IsForbidden (events.Lend 0 0) × IsForbidden (events.Replace 0 0 0) × IsForbidden (events.Stop 0) × IsForbidden (events.DropPage 0 0) × IsForbidden (events.Gone 0)
others_may_not = (λ h. (let no = h refl in cc), λ h. (let no = h refl in cc), λ h. (let no = h refl in cc), λ h. (let no = h refl in cc), λ h. (let no = h refl in cc), λ h. (let no = h refl in cc), λ h. (let no = h refl in cc))
