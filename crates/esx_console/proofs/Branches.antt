-- Lines of events, and of calls on nodes by their numbers and names.
use Rattle.std.proofs.Common.{◌≡◌, ℕ, Bool, true, false, cond, List, [], ◌∷◌, length, refl, sym, ap, ◌∙◌, nat_le, Result, Ok, Err}
use Rattle.std.specs.List.{All, AllByRecursion}
use Rattle.std.proofs.lemmas.List.Elements.{All-from_recursion, recursion_from_All}
use Rattle.esx_events.specs.declared.event.Event.{Event}
use Rattle.esx_events.specs.declared.event.Answer.{Answer}
use Rattle.esx_events.specs.declared.event.Refusal.{Refusal}
use Rattle.esx_events.specs.declared.event.Refusal.TheVariants.{NoSuchNode, Full}
use Rattle.esx_events.specs.declared.call.NameRow.{NameRow}
use Rattle.esx_events.specs.declared.call.Call.TheVariants as calls
use Rattle.esx_events.specs.declared.call.Said.TheVariants as said
use Rattle.esx_model.specs.declared.scene.Scene.{Scene}
use Rattle.esx_model.specs.Replay.{next}
use Rattle.esx_model.specs.History.{History, cursor, scene_at, done, answered, do_event, jumped}
use Rattle.esx_model.specs.Branching.{stands, gone_to, goto, visit, mark, prune}
use Rattle.esx_model.specs.Console.{Session, history, outcome, event_outcome, goto_outcome, mark_outcome, prune_outcome, next_reply, lined, stand_of}
use Rattle.esx_console.specs.Calls.{said_next}
use Rattle.esx_console.proofs.Logs.{lined_history}

-- An event that is accepted.

answers : (h : History) (e : Event) (a : Answer) (d : Result (Answer × Scene) Refusal) → (event_outcome h (answered e h d)).0 ≡ said.Done a → (event_outcome h (answered e h d)).1 ≡ done e h
answers h e a (Ok r) told = refl
answers h e a (Err x) told = cc

accepts : (h : History) (e : Event) (a : Answer) → (event_outcome h (do_event e h)).0 ≡ said.Done a → (event_outcome h (do_event e h)).1 ≡ done e h
unfolding do_event
accepts h e a told = of (nat_le h.config.nodes (length h.nodes)) told
  where
    of : (b : Bool) → (event_outcome h (cond b (Err Full) (answered e h (next h.config (scene_at h) e)))).0 ≡ said.Done a
        → (event_outcome h (cond b (Err Full) (answered e h (next h.config (scene_at h) e)))).1 ≡ done e h
    of true q = cc
    of false q = answers h e a (next h.config (scene_at h) e) q

pub event_line : (s : Session) (caller : ℕ) (e : Event) (a : Answer) → said_next s (calls.Do e) ≡ said.Done a → history (lined s caller (calls.Do e)) ≡ done e (history s)
unfolding next_reply outcome
event_line s caller e a told = lined_history s caller (calls.Do e) ∙ accepts (history s) e a told

-- A goto to a node that stands.

pub goes : (h : History) (n : ℕ) → stands h n ≡ true → (t : History) × (goto n h ≡ Ok t)
unfolding goto
goes h n up = (jumped (gone_to n h), ap (λ b. cond b (Ok (jumped (gone_to n h))) (Err NoSuchNode)) up)

pub goto_line : (s : Session) (caller n : ℕ) (t : History) → goto n (history s) ≡ Ok t → history (lined s caller (calls.Goto n)) ≡ t
unfolding outcome
goto_line s caller n t e = lined_history s caller (calls.Goto n) ∙ ap (λ d. (goto_outcome (history s) d).1) e

pub goto_told : (s : Session) (n : ℕ) (t : History) → goto n (history s) ≡ Ok t → said_next s (calls.Goto n) ≡ stand_of t
unfolding next_reply outcome
goto_told s n t e = ap (λ d. (goto_outcome (history s) d).0) e

pub goto_missed : (s : Session) (n : ℕ) (x : Refusal) → goto n (history s) ≡ Err x → said_next s (calls.Goto n) ≡ said.Refused x
unfolding next_reply outcome
goto_missed s n x e = ap (λ d. (goto_outcome (history s) d).0) e

-- A visit that is a goto.

abbrev pub IsGoto : History → NameRow → Type 0
IsGoto h row = visit row.name h ≡ goto row.node h

visit_reply : (s : Session) (row : NameRow) → IsGoto (history s) row → next_reply s (calls.Visit row.name) ≡ next_reply s (calls.Goto row.node)
unfolding next_reply outcome
visit_reply s row e = ap (λ d. record { jumps = (goto_outcome (history s) d).1.jumps; said = (goto_outcome (history s) d).0 }) e

visit_line : (s : Session) (caller other : ℕ) (row : NameRow) → IsGoto (history s) row → history (lined s caller (calls.Visit row.name)) ≡ history (lined s other (calls.Goto row.node))
unfolding outcome
visit_line s caller other row e = lined_history s caller (calls.Visit row.name) ∙ ap (λ d. (goto_outcome (history s) d).1) e ∙ sym (lined_history s other (calls.Goto row.node))

each : (P Q : NameRow → Type 0) → ((row : NameRow) → P row → Q row) → (rows : List NameRow) → AllByRecursion P rows → AllByRecursion Q rows
each P Q f [] all = tt
each P Q f (row ∷ rows) all = (f row all.0, each P Q f rows all.1)

all_rows : (P Q : NameRow → Type 0) → ((row : NameRow) → P row → Q row) → (rows : List NameRow) → All P rows → All Q rows
all_rows P Q f rows all = All-from_recursion Q rows (each P Q f rows (recursion_from_All P rows all))

pub visit_replies : (s : Session) → All (IsGoto (history s)) (history s).marks → All (λ (row : NameRow). next_reply s (calls.Visit row.name) ≡ next_reply s (calls.Goto row.node)) (history s).marks
visit_replies s all = all_rows (IsGoto (history s)) (λ (row : NameRow). next_reply s (calls.Visit row.name) ≡ next_reply s (calls.Goto row.node)) (visit_reply s) (history s).marks all

pub visit_lines : (s : Session) (caller other : ℕ) → All (IsGoto (history s)) (history s).marks
    → All (λ (row : NameRow). history (lined s caller (calls.Visit row.name)) ≡ history (lined s other (calls.Goto row.node))) (history s).marks
visit_lines s caller other all =
    all_rows (IsGoto (history s)) (λ (row : NameRow). history (lined s caller (calls.Visit row.name)) ≡ history (lined s other (calls.Goto row.node))) (visit_line s caller other) (history s).marks all

-- A mark and a prune that are accepted.

marks_is : (h : History) (name told : List ℕ) (n : ℕ) (d : Result History Refusal) → (mark_outcome name h d).0 ≡ said.Marked told n → d ≡ Ok (mark_outcome name h d).1
marks_is h name told n (Ok t) e = refl
marks_is h name told n (Err x) e = cc

pub mark_line : (s : Session) (caller : ℕ) (name told : List ℕ) (n : ℕ) → said_next s (calls.Mark name) ≡ said.Marked told n
    → mark name (history s) ≡ Ok (history (lined s caller (calls.Mark name)))
unfolding next_reply outcome
mark_line s caller name told n e = marks_is (history s) name told n (mark name (history s)) e ∙ ap (λ t. Ok t) (sym (lined_history s caller (calls.Mark name)))

prunes_is : (h : History) (k : ℕ) (d : Result (ℕ × History) Refusal) → (prune_outcome h d).0 ≡ said.Pruned k → d ≡ Ok (k, (prune_outcome h d).1)
prunes_is h k (Ok r) e = (let same : r.0 ≡ k = cc in ap (λ x. Ok (x, r.1)) same)
prunes_is h k (Err x) e = cc

pub prune_line : (s : Session) (caller n k : ℕ) → said_next s (calls.Prune n) ≡ said.Pruned k → prune n (history s) ≡ Ok (k, history (lined s caller (calls.Prune n)))
unfolding next_reply outcome
prune_line s caller n k e = prunes_is (history s) k (prune n (history s)) e ∙ ap (λ t. Ok (k, t)) (sym (lined_history s caller (calls.Prune n)))

marks_told : (h : History) (name told : List ℕ) (n : ℕ) (d : Result History Refusal) → (mark_outcome name h d).0 ≡ said.Marked told n → (told ≡ name) × (n ≡ cursor h)
marks_told h name told n (Ok t) e = (let name_is : name ≡ told = cc in sym name_is, let node_is : cursor h ≡ n = cc in sym node_is)
marks_told h name told n (Err x) e = cc

pub mark_told : (s : Session) (name told : List ℕ) (n : ℕ) → said_next s (calls.Mark name) ≡ said.Marked told n → (told ≡ name) × (n ≡ cursor (history s))
unfolding next_reply outcome
mark_told s name told n e = marks_told (history s) name told n (mark name (history s)) e
