-- The names that a console tells are names, and so the replies of a log are told as they are.
use Rattle.std.proofs.Common.{◌≡◌, ℕ, zero, suc, true, false, if◌then◌else◌, List, [], ◌∷◌, ◌++◌, Option, None, Some, Result, Ok, Err, refl, sym, subst, length, map, nat_lt, nat_le}
use Rattle.std.specs.Prelude.{option_map, not, find}
use Rattle.std.specs.List.{AllByRecursion, list_any}
use Rattle.esx_events.specs.Names.{IsName}
use Rattle.esx_events.specs.declared.event.Event.{Event}
use Rattle.esx_events.specs.declared.event.Answer.{Answer}
use Rattle.esx_events.specs.declared.event.Refusal.{Refusal}
use Rattle.esx_events.specs.declared.event.Refusal.TheVariants.{NothingToUndo, NothingToRedo, NoSuchNode, NameTaken, OnPath, Full}
use Rattle.esx_events.specs.declared.call.Activity.{Activity}
use Rattle.esx_events.specs.declared.call.Call.{Call}
use Rattle.esx_events.specs.declared.call.Call.TheVariants as calls
use Rattle.esx_events.specs.declared.call.Help.{Help}
use Rattle.esx_events.specs.declared.call.Line.{Line}
use Rattle.esx_events.specs.declared.call.NameRow.{NameRow}
use Rattle.esx_events.specs.declared.call.PageState.{PageState}
use Rattle.esx_events.specs.declared.call.Reply.{Reply}
use Rattle.esx_model.specs.declared.scene.Scene.{Scene}
use Rattle.esx_model.specs.Replay.{next}
use Rattle.esx_model.specs.Readings.{page_state, activity}
use Rattle.esx_model.specs.Advice.{advice}
use Rattle.esx_model.specs.History.{History, opened, cursor, here, scene_at, book_at, done, answered, do_event, up_once, child, down_to, down_once, then_go, undone, redone, jumped, undo, redo}
use Rattle.esx_model.specs.Branching.{stands, gone_to, goto, named, go_to_mark, visit, mark, is_on_path, standing_below, dropped, prune}
use Rattle.esx_model.specs.Console.{Session, event_outcome, move_outcome, goto_outcome, mark_outcome, prune_outcome, page_said, activity_said, help_said, outcome, after, reply_to, AreReplies, IsLegal}
use Rattle.esx_words.specs.Commands.{IsInRange}
use Rattle.esx_replies.specs.Told.{HasNames, IsReplyTold}
use Rattle.esx_session.specs.Sessions.{logged, IsEntry, IsSession, HasNoReturn}
use Rattle.esx_check.specs.Checks.{IsAsked, IsPrintable}

abbrev AreNames : List NameRow → Type 0
AreNames = AllByRecursion (λ row. IsName row.name)

-- events and moves give no names
answered_marks : (e : Event) (h : History) (r : Result (Answer × Scene) Refusal) → (event_outcome h (answered e h r)).1.marks ≡ h.marks
unfolding done
answered_marks e h (Ok r) = refl
answered_marks e h (Err r) = refl

event_marks : (e : Event) (h : History) → (event_outcome h (do_event e h)).1.marks ≡ h.marks
unfolding do_event
event_marks e h =
    elim (nat_le h.config.nodes (length h.nodes)) as (λ v. (event_outcome h (if v then Err Full else answered e h (next h.config (scene_at h) e))).1.marks ≡ h.marks) [
      | true ↦ refl
      | false ↦ answered_marks e h (next h.config (scene_at h) e)
    ]

undone_marks : (k : ℕ) (h : History) → (undone k h).marks ≡ h.marks
unfolding undone up_once
undone_marks zero h = refl
undone_marks (suc k) h = undone_marks k h

undo_marks : (k : ℕ) (h : History) → (move_outcome NothingToUndo h (undo k h)).1.marks ≡ h.marks
unfolding undo
undo_marks k h =
    elim (nat_lt (length (here h)) k) as (λ v. (move_outcome NothingToUndo h (if v then None else Some (jumped (undone k h)))).1.marks ≡ h.marks) [
      | true ↦ refl
      | false ↦ undone_marks k h
    ]

abbrev HasMarks : List NameRow → Option History → Type 0
HasMarks rows None = Unit {0}
HasMarks rows (Some h) = h.marks ≡ rows

down_marks : (h : History) (n : Option ℕ) → HasMarks h.marks (option_map (down_to h) n)
down_marks h None = tt
down_marks h (Some n) = refl

then_marks : (rows : List NameRow) (o : Option History) → HasMarks rows o → HasMarks rows (then_go o down_once)
unfolding down_once
then_marks rows None is = tt
then_marks rows (Some h) is = subst (λ r. HasMarks r (down_once h)) is (down_marks h (child h))

redone_marks : (k : ℕ) (h : History) → HasMarks h.marks (redone k h)
unfolding redone
redone_marks zero h = refl
redone_marks (suc k) h = then_marks h.marks (redone k h) (redone_marks k h)

moved_marks : (h : History) (o : Option History) → HasMarks h.marks o → (move_outcome NothingToRedo h (option_map jumped o)).1.marks ≡ h.marks
moved_marks h None is = refl
moved_marks h (Some x) is = is

redo_marks : (k : ℕ) (h : History) → (move_outcome NothingToRedo h (redo k h)).1.marks ≡ h.marks
unfolding redo
redo_marks k h = moved_marks h (redone k h) (redone_marks k h)

goto_marks : (n : ℕ) (h : History) → (goto_outcome h (goto n h)).1.marks ≡ h.marks
unfolding goto
goto_marks n h =
    elim (stands h n) as (λ v. (goto_outcome h (if v then Ok (jumped (gone_to n h)) else Err NoSuchNode)).1.marks ≡ h.marks) [
      | true ↦ refl
      | false ↦ refl
    ]

named_marks : (h : History) (o : Option NameRow) → (goto_outcome h (go_to_mark o h)).1.marks ≡ h.marks
named_marks h None = refl
named_marks h (Some m) = goto_marks m.node h

visit_marks : (name : List ℕ) (h : History) → (goto_outcome h (visit name h)).1.marks ≡ h.marks
unfolding visit
visit_marks name h = named_marks h (find (named name) h.marks)

prune_marks : (n : ℕ) (h : History) → (prune_outcome h (prune n h)).1.marks ≡ h.marks
unfolding prune
prune_marks n h =
    elim (not (stands h n)) as (λ v. (prune_outcome h (if v then Err NoSuchNode else (if is_on_path h n then Err OnPath else Ok (standing_below n h.nodes, record h { nodes = dropped n h.nodes })))).1.marks ≡ h.marks) [
      | true ↦ refl
      | false ↦ elim (is_on_path h n) as (λ v. (prune_outcome h (if v then Err OnPath else Ok (standing_below n h.nodes, record h { nodes = dropped n h.nodes }))).1.marks ≡ h.marks) [
        | true ↦ refl
        | false ↦ refl
      ]
    ]

one_name_more : (rows : List NameRow) (row : NameRow) → AreNames rows → IsName row.name → AreNames (rows ++ row ∷ [])
one_name_more [] row all is = (is, tt)
one_name_more (x ∷ rows) row all is = (all.0, one_name_more rows row all.1 is)

mark_names : (name : List ℕ) (h : History) → AreNames h.marks → IsName name → AreNames (mark_outcome name h (mark name h)).1.marks
unfolding mark
mark_names name h all is =
    elim (list_any (named name) h.marks) as (λ v. AreNames (mark_outcome name h (if v then Err NameTaken else Ok (record h { marks = h.marks ++ record { name = name; node = cursor h } ∷ [] }))).1.marks) [
      | true ↦ all
      | false ↦ one_name_more h.marks (record { name = name; node = cursor h }) all is
    ]

same_names : (rows marks : List NameRow) → marks ≡ rows → AreNames rows → AreNames marks
same_names rows marks e all = subst AreNames (sym e) all

-- after any call all names are names still
names_stay : (h : History) (call : Call) → AreNames h.marks → IsInRange call → AreNames (after h call).marks
unfolding outcome
names_stay h (calls.Do e) all range = same_names h.marks _ (event_marks e h) all
names_stay h (calls.Undo k) all range = same_names h.marks _ (undo_marks k h) all
names_stay h (calls.Redo k) all range = same_names h.marks _ (redo_marks k h) all
names_stay h (calls.Goto n) all range = same_names h.marks _ (goto_marks n h) all
names_stay h (calls.Visit name) all range = same_names h.marks _ (visit_marks name h) all
names_stay h (calls.Mark name) all range = mark_names name h all range.0
names_stay h (calls.Prune n) all range = same_names h.marks _ (prune_marks n h) all
names_stay h (calls.WhatIf es) all range = all
names_stay h calls.Table all range = all
names_stay h (calls.OfVm n) all range = all
names_stay h (calls.Advise n page) all range = all
names_stay h calls.Marks all range = all
names_stay h calls.Sum all range = all
names_stay h (calls.OfPage n page) all range = all
names_stay h calls.Stand all range = all

-- what is said has names alone
event_said : (h : History) (r : Result (Answer × History) Refusal) → HasNames (event_outcome h r).0
event_said h (Ok r) = tt
event_said h (Err e) = tt

move_said : (e : Refusal) (h : History) (o : Option History) → HasNames (move_outcome e h o).0
move_said e h None = tt
move_said e h (Some x) = tt

goto_said : (h : History) (r : Result History Refusal) → HasNames (goto_outcome h r).0
goto_said h (Ok x) = tt
goto_said h (Err e) = tt

mark_said : (name : List ℕ) (h : History) (r : Result History Refusal) → IsName name → HasNames (mark_outcome name h r).0
mark_said name h (Ok x) is = is
mark_said name h (Err e) is = tt

prune_said : (h : History) (r : Result (ℕ × History) Refusal) → HasNames (prune_outcome h r).0
prune_said h (Ok x) = tt
prune_said h (Err e) = tt

page_has : (r : Result PageState Refusal) → HasNames (page_said r)
page_has (Ok x) = tt
page_has (Err e) = tt

activity_has : (r : Result Activity Refusal) → HasNames (activity_said r)
activity_has (Ok x) = tt
activity_has (Err e) = tt

help_has : (r : Result Help Refusal) → HasNames (help_said r)
help_has (Ok x) = tt
help_has (Err e) = tt

said_names : (h : History) (call : Call) → AreNames h.marks → IsInRange call → HasNames (reply_to h call).said
unfolding outcome
said_names h (calls.Do e) all range = event_said h (do_event e h)
said_names h (calls.Undo k) all range = move_said NothingToUndo h (undo k h)
said_names h (calls.Redo k) all range = move_said NothingToRedo h (redo k h)
said_names h (calls.Goto n) all range = goto_said h (goto n h)
said_names h (calls.Visit name) all range = goto_said h (visit name h)
said_names h (calls.Mark name) all range = mark_said name h (mark name h) range.0
said_names h (calls.Prune n) all range = prune_said h (prune n h)
said_names h (calls.WhatIf es) all range = tt
said_names h calls.Table all range = tt
said_names h (calls.OfVm n) all range = activity_has (activity (book_at h) n)
said_names h (calls.Advise n page) all range = help_has (advice h.config (scene_at h) n page)
said_names h calls.Marks all range = all
said_names h calls.Sum all range = tt
said_names h (calls.OfPage n page) all range = page_has (page_state (book_at h) n page)
said_names h calls.Stand all range = tt

-- the replies of a log have names alone
replies_named : (h : History) (log : List Line) → AreNames h.marks → AreReplies h log → AllByRecursion IsAsked log → AllByRecursion (λ line. HasNames line.reply.said) log
replies_named h [] all are asked = tt
replies_named h (x ∷ later) all are asked = (
  subst (λ (r : Reply). HasNames r.said) (sym are.0) (said_names h x.call all asked.0.call),
  replies_named (after h x.call) later (names_stay h x.call all asked.0.call) are.1 asked.1,
)

entries_told : ((reply : Reply) → IsReplyTold reply) → (log : List Line) → AllByRecursion IsAsked log → AllByRecursion (λ line. HasNames line.reply.said) log
    → AllByRecursion IsEntry (map logged log)
entries_told law [] asked have = tt
entries_told law (x ∷ log) asked have =
    let told = law x.reply have.0 in
    (record { caller = asked.0.caller; call = asked.0.call; reply = told.ended; ascii = told.ascii }, entries_told law log asked.1 have.1)

returns_told : ((reply : Reply) → IsReplyTold reply) → (log : List Line) → AllByRecursion (λ line. HasNames line.reply.said) log
    → AllByRecursion HasNoReturn (map logged log)
returns_told law [] have = tt
returns_told law (x ∷ log) have = ((law x.reply have.0).no_return, returns_told law log have.1)

pub printed_session : ((reply : Reply) → IsReplyTold reply) → (s : Session) → IsLegal s → IsPrintable s → IsSession s.site (map logged s.log)
printed_session law s legal printable = record {
  opened = printable.opened;
  each = entries_told law s.log printable.each (replies_named (opened s.site) s.log tt legal printable.each);
}

pub no_returns : ((reply : Reply) → IsReplyTold reply) → (s : Session) → IsLegal s → IsPrintable s → AllByRecursion HasNoReturn (map logged s.log)
no_returns law s legal printable = returns_told law s.log (replies_named (opened s.site) s.log tt legal printable.each)
