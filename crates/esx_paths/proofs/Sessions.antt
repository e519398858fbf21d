-- What is gathered of the calls of a session tells its nodes.
use Rattle.std.proofs.Common.{◌≡◌, ℕ, zero, suc, ◌+◌, ◌<◌, ◌≤◌, true, false, Bool, if◌then◌else◌, List, [], ◌∷◌, ◌++◌, length, Option, None, Some, Result, Ok, Err, refl, sym, ◌∙◌, ap, subst, arith, append_assoc, append-nil, get_or, nat_lt, nat_le, inl, inr, ◌⊎◌}
use Rattle.std.specs.Prelude.{option_map, not, find}
use Rattle.std.specs.List.{list_any}
use Rattle.std.proofs.lemmas.List.{length-append, get_or_at}
use Rattle.esx_events.specs.declared.event.Event.{Event}
use Rattle.esx_events.specs.declared.event.Answer.{Answer}
use Rattle.esx_events.specs.declared.event.Refusal.{Refusal}
use Rattle.esx_events.specs.declared.event.Refusal.TheVariants.{NothingToUndo, NothingToRedo, NoSuchNode, NameTaken, OnPath, Full}
use Rattle.esx_events.specs.declared.call.Activity.{Activity}
use Rattle.esx_events.specs.declared.call.Call.{Call}
use Rattle.esx_events.specs.declared.call.Call.TheVariants as calls
use Rattle.esx_events.specs.declared.call.Help.{Help}
use Rattle.esx_events.specs.declared.call.Line.{Line}
use Rattle.esx_events.specs.declared.call.NameRow.{NameRow}
use Rattle.esx_events.specs.declared.call.PageState.{PageState}
use Rattle.esx_model.specs.declared.scene.Scene.{Scene}
use Rattle.esx_model.specs.Replay.{next}
use Rattle.esx_model.specs.Readings.{page_state, activity}
use Rattle.esx_model.specs.Advice.{advice}
use Rattle.esx_model.specs.Tree.{Node}
use Rattle.esx_model.specs.History.{History, opened, cursor, here, scene_at, book_at, done, answered, do_event, up_once, child, down_to, down_once, then_go, undone, redone, jumped, undo, redo}
use Rattle.esx_model.specs.Branching.{stands, gone_to, goto, named, go_to_mark, visit, mark, is_on_path, standing_below, dropped, prune}
use Rattle.esx_model.specs.Console.{Session, Outcome, event_outcome, move_outcome, goto_outcome, mark_outcome, prune_outcome, page_said, activity_said, help_said, outcome, after, history_from, history}
use Rattle.esx_journal.proofs.Pruning.{dropped_length}
use Rattle.esx_paths.specs.declared.makers.Maker.{Maker}
use Rattle.esx_paths.specs.Makers.{gathered, is_done, made_if, maker_of, makers}
use Rattle.esx_paths.specs.Ways.{nobody, maker_at}
use Rattle.esx_paths.proofs.Told.{IsTold, AreTold, told_more, told_dropped, last_line, line_within, maker_kept}

-- one line more
pub gathered_end : {A : Type 0} (adds : History → ℕ → Line → List A) (h : History) (number : ℕ) (log : List Line) (x : Line)
    → gathered adds h number (log ++ x ∷ []) ≡ gathered adds h number log ++ adds (history_from h log) (number + length log) x
unfolding gathered history_from
gathered_end adds h number [] x =
    let n : number ≡ number + 0 = omega arith in
    append-nil (adds h number x) ∙ ap (λ k. adds h k x) n
gathered_end adds h number (y ∷ log) x =
    let n : number + 1 + length log ≡ number + suc (length log) = omega arith in
    ap (λ l. adds h number y ++ l) (gathered_end adds (after h y.call) (number + 1) log x ∙ ap (λ k. gathered adds (after h y.call) (number + 1) log ++ adds (history_from (after h y.call) log) k x) n)
    ∙ sym (append_assoc (adds h number y) (gathered adds (after h y.call) (number + 1) log) (adds (history_from (after h y.call) log) (number + suc (length log)) x))

-- Nodes that tell no more than others did.
pub record TellsSame (old new : List Node) : Type 0 where
  pub long : length new ≡ length old
  pub told : (log : List Line) (rows : List Maker) → AreTold log rows old → AreTold log rows new

same_nodes : (old new : List Node) → new ≡ old → TellsSame old new
same_nodes old new e = record {
  long = ap length e;
  told = λ log rows told. (let P : List Node → Type 0 = AreTold log rows in subst P (sym e) told);
}

fewer_nodes : (n : ℕ) (old : List Node) → TellsSame old (dropped n old)
fewer_nodes n old = record { long = dropped_length n old; told = λ log rows told. told_dropped log rows n old told }

-- No name was given, or one to the cursor's node.
abbrev pub MarksAs : History → History → Type 0
MarksAs h after = (after.marks ≡ h.marks) ⊎ ((name : List ℕ) × (after.marks ≡ h.marks ++ record { name = name; node = cursor h } ∷ []))

-- What a call comes to that makes no node.
pub record IsQuiet (h : History) (out : Outcome) : Type 0 where
  pub none : is_done out.0 ≡ false
  pub nodes : TellsSame h.nodes out.1.nodes
  pub marks : MarksAs h out.1

-- What a call comes to: an accepted event, or no node.
pub data Comes (h : History) (call : Call) (out : Outcome) : Type 0 where
  Makes : (e : Event) → call ≡ calls.Do e → is_done out.0 ≡ true → out.1.nodes ≡ record { parent = cursor h; event = e; alive = true } ∷ h.nodes → out.1.marks ≡ h.marks → Comes h call out
  Rests : IsQuiet h out → Comes h call out

-- where nodes and names stay
quiet : (h : History) (out : Outcome) → is_done out.0 ≡ false → out.1.nodes ≡ h.nodes → out.1.marks ≡ h.marks → IsQuiet h out
quiet h out none e marks = record { none = none; nodes = same_nodes h.nodes out.1.nodes e; marks = inl marks }

answered_comes : (e : Event) (h : History) (r : Result (Answer × Scene) Refusal) → Comes h (calls.Do e) (event_outcome h (answered e h r))
unfolding done
answered_comes e h (Ok r) = Makes e refl refl refl refl
answered_comes e h (Err r) = Rests (quiet h _ refl refl refl)

event_comes : (e : Event) (h : History) → Comes h (calls.Do e) (event_outcome h (do_event e h))
unfolding do_event
event_comes e h =
    elim (nat_le h.config.nodes (length h.nodes)) as (λ v. Comes h (calls.Do e) (event_outcome h (if v then Err Full else answered e h (next h.config (scene_at h) e)))) [
      | true ↦ Rests (quiet h _ refl refl refl)
      | false ↦ answered_comes e h (next h.config (scene_at h) e)
    ]

undone_nodes : (k : ℕ) (h : History) → ((undone k h).nodes ≡ h.nodes) × ((undone k h).marks ≡ h.marks)
unfolding undone up_once
undone_nodes zero h = (refl, refl)
undone_nodes (suc k) h = undone_nodes k h

undo_quiet : (k : ℕ) (h : History) → IsQuiet h (move_outcome NothingToUndo h (undo k h))
unfolding undo
undo_quiet k h =
    elim (nat_lt (length (here h)) k) as (λ v. IsQuiet h (move_outcome NothingToUndo h (if v then None else Some (jumped (undone k h))))) [
      | true ↦ quiet h _ refl refl refl
      | false ↦ (let same = undone_nodes k h in quiet h _ refl same.0 same.1)
    ]

abbrev HasNodes : List Node → List NameRow → Option History → Type 0
HasNodes nodes rows None = Unit {0}
HasNodes nodes rows (Some h) = (h.nodes ≡ nodes) × (h.marks ≡ rows)

down_nodes : (h : History) (n : Option ℕ) → HasNodes h.nodes h.marks (option_map (down_to h) n)
down_nodes h None = tt
down_nodes h (Some n) = (refl, refl)

then_nodes : (nodes : List Node) (rows : List NameRow) (o : Option History) → HasNodes nodes rows o → HasNodes nodes rows (then_go o down_once)
unfolding down_once
then_nodes nodes rows None is = tt
then_nodes nodes rows (Some h) is = subst (λ r. HasNodes nodes r (down_once h)) is.1 (subst (λ r. HasNodes r h.marks (down_once h)) is.0 (down_nodes h (child h)))

redone_nodes : (k : ℕ) (h : History) → HasNodes h.nodes h.marks (redone k h)
unfolding redone
redone_nodes zero h = (refl, refl)
redone_nodes (suc k) h = then_nodes h.nodes h.marks (redone k h) (redone_nodes k h)

moved_quiet : (h : History) (o : Option History) → HasNodes h.nodes h.marks o → IsQuiet h (move_outcome NothingToRedo h (option_map jumped o))
moved_quiet h None is = quiet h _ refl refl refl
moved_quiet h (Some x) is = quiet h _ refl is.0 is.1

redo_quiet : (k : ℕ) (h : History) → IsQuiet h (move_outcome NothingToRedo h (redo k h))
unfolding redo
redo_quiet k h = moved_quiet h (redone k h) (redone_nodes k h)

goto_quiet : (n : ℕ) (h : History) → IsQuiet h (goto_outcome h (goto n h))
unfolding goto
goto_quiet n h =
    elim (stands h n) as (λ v. IsQuiet h (goto_outcome h (if v then Ok (jumped (gone_to n h)) else Err NoSuchNode))) [
      | true ↦ quiet h _ refl refl refl
      | false ↦ quiet h _ refl refl refl
    ]

named_quiet : (h : History) (o : Option NameRow) → IsQuiet h (goto_outcome h (go_to_mark o h))
named_quiet h None = quiet h _ refl refl refl
named_quiet h (Some m) = goto_quiet m.node h

visit_quiet : (name : List ℕ) (h : History) → IsQuiet h (goto_outcome h (visit name h))
unfolding visit
visit_quiet name h = named_quiet h (find (named name) h.marks)

mark_quiet : (name : List ℕ) (h : History) → IsQuiet h (mark_outcome name h (mark name h))
unfolding mark
mark_quiet name h =
    elim (list_any (named name) h.marks) as (λ v. IsQuiet h (mark_outcome name h (if v then Err NameTaken else Ok (record h { marks = h.marks ++ record { name = name; node = cursor h } ∷ [] })))) [
      | true ↦ quiet h _ refl refl refl
      | false ↦ record { none = refl; nodes = same_nodes h.nodes h.nodes refl; marks = inr (name, refl) }
    ]

prune_quiet : (n : ℕ) (h : History) → IsQuiet h (prune_outcome h (prune n h))
unfolding prune
prune_quiet n h =
    elim (not (stands h n)) as (λ v. IsQuiet h (prune_outcome h (if v then Err NoSuchNode else (if is_on_path h n then Err OnPath else Ok (standing_below n h.nodes, record h { nodes = dropped n h.nodes }))))) [
      | true ↦ quiet h _ refl refl refl
      | false ↦ elim (is_on_path h n) as (λ v. IsQuiet h (prune_outcome h (if v then Err OnPath else Ok (standing_below n h.nodes, record h { nodes = dropped n h.nodes })))) [
        | true ↦ quiet h _ refl refl refl
        | false ↦ record { none = refl; nodes = fewer_nodes n h.nodes; marks = inl refl }
      ]
    ]

page_none : (r : Result PageState Refusal) → is_done (page_said r) ≡ false
page_none (Ok x) = refl
page_none (Err e) = refl

activity_none : (r : Result Activity Refusal) → is_done (activity_said r) ≡ false
activity_none (Ok x) = refl
activity_none (Err e) = refl

help_none : (r : Result Help Refusal) → is_done (help_said r) ≡ false
help_none (Ok x) = refl
help_none (Err e) = refl

pub call_comes : (h : History) (call : Call) → Comes h call (outcome h call)
unfolding outcome
call_comes h (calls.Do e) = event_comes e h
call_comes h (calls.Undo k) = Rests (undo_quiet k h)
call_comes h (calls.Redo k) = Rests (redo_quiet k h)
call_comes h (calls.Goto n) = Rests (goto_quiet n h)
call_comes h (calls.Visit name) = Rests (visit_quiet name h)
call_comes h (calls.Mark name) = Rests (mark_quiet name h)
call_comes h (calls.Prune n) = Rests (prune_quiet n h)
call_comes h (calls.WhatIf es) = Rests (quiet h _ refl refl refl)
call_comes h calls.Table = Rests (quiet h _ refl refl refl)
call_comes h (calls.OfVm n) = Rests (quiet h _ (activity_none (activity (book_at h) n)) refl refl)
call_comes h (calls.Advise n page) = Rests (quiet h _ (help_none (advice h.config (scene_at h) n page)) refl refl)
call_comes h calls.Marks = Rests (quiet h _ refl refl refl)
call_comes h calls.Sum = Rests (quiet h _ refl refl refl)
call_comes h (calls.OfPage n page) = Rests (quiet h _ (page_none (page_state (book_at h) n page)) refl refl)
call_comes h calls.Stand = Rests (quiet h _ refl refl refl)

-- rows for each node, which tell them
pub record Tells (log : List Line) (rows : List Maker) (nodes : List Node) : Type 0 where
  pub long : length rows ≡ length nodes
  pub told : AreTold log rows nodes

-- the calls of the nodes that are told are lines of the log
last_within : (log : List Line) (rows : List Maker) (nodes : List Node) → AreTold log rows nodes → (maker_at rows (length nodes)).call ≤ length log
last_within log rows [] told = omega arith
last_within log rows (x ∷ older) told = line_within log _ told.0.made told.0.at

tells_one : (log : List Line) (rows : List Maker) (h : History) (x : Line) → Tells log rows h.nodes → (out : Outcome) → Comes h x.call out
    → Tells (log ++ x ∷ []) (rows ++ made_if (is_done out.0) (record { parent = cursor h; call = length log + 1; caller = x.caller })) out.1.nodes
tells_one log rows h x tells out (Rests is) =
    let P : Bool → Type 0 = λ b. Tells (log ++ x ∷ []) (rows ++ made_if b (record { parent = cursor h; call = length log + 1; caller = x.caller })) out.1.nodes in
    subst P (sym is.none) (record {
      long = ap length (append-nil rows) ∙ tells.long ∙ sym is.nodes.long;
      told = is.nodes.told (log ++ x ∷ []) (rows ++ []) (told_more log (x ∷ []) rows [] h.nodes (omega (arith, tells.long)) tells.told);
    })
tells_one log rows h x tells out (Makes e call_is accepted nodes_are marks_are) =
    let m : Maker = record { parent = cursor h; call = length log + 1; caller = x.caller } in
    let node : Node = record { parent = cursor h; event = e; alive = true } in
    let row : get_or (rows ++ m ∷ []) (length h.nodes) nobody ≡ m = get_or_at rows m [] nobody (length h.nodes) tells.long in
    let Q : Maker → Type 0 = λ k. IsTold (log ++ x ∷ []) k node in
    let of : IsTold (log ++ x ∷ []) m node = record { made = x; at = last_line log x; event = call_is; caller = refl; parent = refl } in
    let before = last_within log rows h.nodes tells.told in
    let above : maker_at (rows ++ m ∷ []) (length h.nodes) ≡ maker_at rows (length h.nodes) = maker_kept rows (m ∷ []) (length h.nodes) (omega (arith, tells.long)) in
    let later : (maker_at (rows ++ m ∷ []) (length h.nodes)).call < (get_or (rows ++ m ∷ []) (length h.nodes) nobody).call =
    (let a = ap (λ (k : Maker). k.call) above in let r = ap (λ (k : Maker). k.call) row in omega arith) in
    let all : Tells (log ++ x ∷ []) (rows ++ m ∷ []) (node ∷ h.nodes) = record {
      long = length-append rows (m ∷ []) ∙ (let l = tells.long in let n : length rows + 1 ≡ suc (length h.nodes) = omega arith in n);
      told = (subst Q (sym row) of, later, told_more log (x ∷ []) rows (m ∷ []) h.nodes (omega (arith, tells.long)) tells.told);
    } in
    let P : Bool → Type 0 = λ b. Tells (log ++ x ∷ []) (rows ++ made_if b m) out.1.nodes in
    let R : List Node → Type 0 = λ nodes. Tells (log ++ x ∷ []) (rows ++ m ∷ []) nodes in
    subst P (sym accepted) (subst R (sym nodes_are) all)

tells_on : (log : List Line) (rows : List Maker) (h : History) → Tells log rows h.nodes → (later : List Line)
    → Tells (log ++ later) (rows ++ gathered maker_of h (length log + 1) later) (history_from h later).nodes
unfolding gathered history_from
tells_on log rows h tells [] =
    let P : List Line → Type 0 = λ l. Tells l (rows ++ []) h.nodes in
    let Q : List Maker → Type 0 = λ r. Tells log r h.nodes in
    subst P (sym (append-nil log)) (subst Q (sym (append-nil rows)) tells)
tells_on log rows h tells (x ∷ later) =
    let first = tells_one log rows h x tells (outcome h x.call) (call_comes h x.call) in
    let number : length (log ++ x ∷ []) + 1 ≡ length log + 1 + 1 = ap (λ n. n + 1) (length-append log (x ∷ [])) in
    let rest = tells_on (log ++ x ∷ []) (rows ++ maker_of h (length log + 1) x) (after h x.call) first later in
    let P : List Line → Type 0 = λ l. Tells l ((rows ++ maker_of h (length log + 1) x) ++ gathered maker_of (after h x.call) (length (log ++ x ∷ []) + 1) later) (history_from (after h x.call) later).nodes in
    let Q : ℕ → Type 0 = λ n. Tells (log ++ (x ∷ later)) ((rows ++ maker_of h (length log + 1) x) ++ gathered maker_of (after h x.call) n later) (history_from (after h x.call) later).nodes in
    let R : List Maker → Type 0 = λ r. Tells (log ++ (x ∷ later)) r (history_from (after h x.call) later).nodes in
    subst R (append_assoc rows (maker_of h (length log + 1) x) (gathered maker_of (after h x.call) (length log + 1 + 1) later)) (subst Q number (subst P (append_assoc log (x ∷ []) later) rest))

-- the nodes of a session are told
pub session_told : (s : Session) → Tells s.log (makers s) (history s).nodes
session_told s = tells_on [] [] (opened s.site) (record { long = refl; told = tt }) s.log
