-- Lists of calls, and the turns that are among them.
use Rattle.std.proofs.Common.{◌≡◌, ◌≢◌, refl, sym, ◌∙◌, ap, subst, ℕ, List, [], ◌∷◌, ◌++◌, Option, Some, None, ◌⊎◌, inl, inr, append-nil, append_assoc}
use Rattle.std.specs.List.{AllByRecursion}
use Rattle.esx_types.specs.declared.config.Config.{Config}
use Rattle.esx_events.specs.declared.event.Refusal.{Refusal}
use Rattle.esx_events.specs.declared.event.Refusal.TheVariants.{NothingToUndo, NothingToRedo}
use Rattle.esx_events.specs.declared.call.Call.{Call}
use Rattle.esx_events.specs.declared.call.Call.TheVariants as calls
use Rattle.esx_events.specs.declared.call.Said.TheVariants as said
use Rattle.esx_events.specs.declared.call.Line.{Line}
use Rattle.esx_model.specs.History.{History, undo, redo, then_go}
use Rattle.esx_model.specs.Console.{Session, history, history_from, after, outcome, move_outcome, next_reply, lined, stand_of, AreReplies, IsLegal}
use Rattle.esx_journal.specs.Turns.{Turn, Undo, Redo, turn, turned}
use Rattle.esx_console.specs.Calls.{Asked, opened_session, lined_all, TurnsOrAsks}
use Rattle.esx_console.proofs.Logs.{lined_history, lined_legal}

pub all_legal : (s : Session) (asked : List Asked) → IsLegal s → IsLegal (lined_all s asked)
unfolding lined_all
all_legal s [] legal = legal
all_legal s (x ∷ later) legal = all_legal (lined s x.caller x.call) later (lined_legal s x.caller x.call legal)

pub all_site : (s : Session) (asked : List Asked) → (lined_all s asked).site ≡ s.site
unfolding lined_all
all_site s [] = refl
all_site s (x ∷ later) = all_site (lined s x.caller x.call) later

-- the call of a line, and who made it
pub asked_by : Line → Asked
asked_by x = record { caller = x.caller; call = x.call }

-- what was asked, line by line
pub asked_of : List Line → List Asked
asked_of [] = []
asked_of (x ∷ later) = asked_by x ∷ asked_of later

-- lines whose replies are right are the lines of their calls
lines_of : (site : Config) (log later : List Line) → AreReplies (history (record { site = site; log = log })) later
    → lined_all (record { site = site; log = log }) (asked_of later) ≡ record { site = site; log = log ++ later }
unfolding lined_all asked_of asked_by next_reply
lines_of site log [] are = ap (λ l. record { site = site; log = l }) (sym (append-nil log))
lines_of site log (x ∷ later) are =
    let s : Session = record { site = site; log = log } in
    let line : Line = record { caller = x.caller; call = x.call; reply = next_reply s x.call } in
    let same : line ≡ x = ap (λ r. record { caller = x.caller; call = x.call; reply = r }) (sym are.0) in
    let P : History → Type 0 = λ h. AreReplies h later in
    lines_of site (log ++ line ∷ []) later (subst P (sym (lined_history s x.caller x.call)) are.1)
    ∙ ap (λ l. record { site = site; log = l }) (append_assoc log (line ∷ []) later ∙ ap (λ y. log ++ y ∷ later) same)

pub legal_asked : (s : Session) → IsLegal s → lined_all (opened_session s.site) (asked_of s.log) ≡ s
unfolding history_from
legal_asked s legal = lines_of s.site [] s.log legal

-- an undo that is accepted, and one that is not
pub undo_after : (h t : History) (k : ℕ) → undo k h ≡ Some t → after h (calls.Undo k) ≡ t
unfolding outcome
undo_after h t k e = ap (λ o. (move_outcome NothingToUndo h o).1) e

pub redo_after : (h t : History) (k : ℕ) → redo k h ≡ Some t → after h (calls.Redo k) ≡ t
unfolding outcome
redo_after h t k e = ap (λ o. (move_outcome NothingToRedo h o).1) e

-- what is said to an accepted move
pub said_undone : (s : Session) (t : History) (k : ℕ) → undo k (history s) ≡ Some t → (next_reply s (calls.Undo k)).said ≡ stand_of t
unfolding next_reply outcome
said_undone s t k e = ap (λ o. (move_outcome NothingToUndo (history s) o).0) e

pub said_redone : (s : Session) (t : History) (k : ℕ) → redo k (history s) ≡ Some t → (next_reply s (calls.Redo k)).said ≡ stand_of t
unfolding next_reply outcome
said_redone s t k e = ap (λ o. (move_outcome NothingToRedo (history s) o).0) e

-- a redo that is not refused
pub redo_goes : (s : Session) (k : ℕ) → (next_reply s (calls.Redo k)).said ≢ said.Refused NothingToRedo → (t : History) × (redo k (history s) ≡ Some t)
unfolding next_reply outcome
redo_goes s k told = of (redo k (history s)) refl
  where
    of : (o : Option History) → redo k (history s) ≡ o → (t : History) × (redo k (history s) ≡ Some t)
    of (Some t) e = (t, e)
    of None e = absurd (told (ap (λ o. (move_outcome NothingToRedo (history s) o).0) e))

-- moves that are refused
pub undo_stays : (s : Session) (caller k : ℕ) → undo k (history s) ≡ None → history (lined s caller (calls.Undo k)) ≡ history s
unfolding outcome
undo_stays s caller k e = lined_history s caller (calls.Undo k) ∙ ap (λ o. (move_outcome NothingToUndo (history s) o).1) e

pub undo_told : (s : Session) (k : ℕ) → undo k (history s) ≡ None → (next_reply s (calls.Undo k)).said ≡ said.Refused NothingToUndo
unfolding next_reply outcome
undo_told s k e = ap (λ o. (move_outcome NothingToUndo (history s) o).0) e

pub redo_stays : (s : Session) (caller k : ℕ) → (next_reply s (calls.Redo k)).said ≡ said.Refused NothingToRedo → history (lined s caller (calls.Redo k)) ≡ history s
unfolding next_reply outcome
redo_stays s caller k told = lined_history s caller (calls.Redo k) ∙ of (redo k (history s)) told
  where
    of : (o : Option History) → (move_outcome NothingToRedo (history s) o).0 ≡ said.Refused NothingToRedo → (move_outcome NothingToRedo (history s) o).1 ≡ history s
    of None e = refl
    of (Some t) e = cc

-- such a call is a turn, or changes nothing
abbrev OneTurn : History → Call → Type 0
OneTurn h call = (after h call ≡ h) ⊎ ((x : Turn) × (turn x h ≡ Some (after h call)))

moved : (h : History) (call : Call) (x : Turn) (e : Refusal) (o : Option History) → turn x h ≡ o → after h call ≡ (move_outcome e h o).1 → OneTurn h call
moved h call x e (Some t) is to = inr (x, is ∙ ap (λ t. Some t) (sym to))
moved h call x e None is to = inl to

one_turn : (h : History) (call : Call) → TurnsOrAsks call → OneTurn h call
unfolding outcome
one_turn h (calls.Do e) ok = absurd ok
one_turn h (calls.Undo k) ok = moved h (calls.Undo k) (Undo k) NothingToUndo (undo k h) refl refl
one_turn h (calls.Redo k) ok = moved h (calls.Redo k) (Redo k) NothingToRedo (redo k h) refl refl
one_turn h (calls.Goto n) ok = absurd ok
one_turn h (calls.Visit name) ok = absurd ok
one_turn h (calls.Mark name) ok = absurd ok
one_turn h (calls.Prune n) ok = absurd ok
one_turn h (calls.WhatIf es) ok = inl refl
one_turn h calls.Sum ok = inl refl
one_turn h calls.Table ok = inl refl
one_turn h (calls.OfVm n) ok = inl refl
one_turn h (calls.OfPage n page) ok = inl refl
one_turn h (calls.Advise n page) ok = inl refl
one_turn h calls.Stand ok = inl refl
one_turn h calls.Marks ok = inl refl

-- such calls are turns
pub all_turns : (s : Session) (asked : List Asked) → AllByRecursion (λ x. TurnsOrAsks x.call) asked → (turns : List Turn) × (turned turns (history s) ≡ Some (history (lined_all s asked)))
unfolding lined_all turned
all_turns s [] ok = ([], refl)
all_turns s (x ∷ later) ok = of (one_turn (history s) x.call ok.0) (all_turns (lined s x.caller x.call) later ok.1)
  where
    of : OneTurn (history s) x.call → (turns : List Turn) × (turned turns (history (lined s x.caller x.call)) ≡ Some (history (lined_all s (x ∷ later))))
        → (turns : List Turn) × (turned turns (history s) ≡ Some (history (lined_all s (x ∷ later))))
    of (inl same) more = (more.0, ap (turned more.0) (sym (lined_history s x.caller x.call ∙ same)) ∙ more.1)
    of (inr t) more = (t.0 ∷ more.0, ap (λ o. then_go o (λ u. turned more.0 u)) t.1 ∙ (ap (turned more.0) (sym (lined_history s x.caller x.call)) ∙ more.1))
