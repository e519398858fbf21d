-- The names of a session are of nodes that were made.
use Rattle.std.proofs.Common.{◌≡◌, ℕ, ◌≤◌, List, [], ◌∷◌, ◌++◌, length, Some, sym, ap, subst, arith, append_assoc, append-nil, inl, inr, true, false, Bool, cond}
use Rattle.std.specs.Prelude.{find, bytes_eq, option_map}
use Rattle.std.specs.List.{AllByRecursion}
use Rattle.esx_types.specs.declared.config.Config.{Config}
use Rattle.esx_events.specs.declared.call.Call.{Call}
use Rattle.esx_events.specs.declared.call.Line.{Line}
use Rattle.esx_events.specs.declared.call.NameRow.{NameRow}
use Rattle.esx_model.specs.History.{History, opened, cursor}
use Rattle.esx_model.specs.Branching.{named}
use Rattle.esx_model.specs.Console.{Session, Outcome, outcome, after, history_from, history}
use Rattle.esx_journal.specs.Marks.{node_named}
use Rattle.esx_journal.proofs.Paths.{walk_ends}
use Rattle.esx_journal.proofs.Reaching.{reached_steady}
use Rattle.esx_console.proofs.Logs.{history_end}
use Rattle.esx_paths.proofs.Reached.{session_reached}
use Rattle.esx_paths.proofs.Sessions.{Comes, Makes, Rests, MarksAs, call_comes}

pub cursor_fits : (s : Session) → cursor (history s) ≤ length (history s).nodes
cursor_fits s = (let steady = reached_steady s.site (history s) (session_reached s) in walk_ends (history s).nodes (history s).walk steady.tree steady.walk)

abbrev AreOfNodes : ℕ → List NameRow → Type 0
AreOfNodes count rows = AllByRecursion (λ (row : NameRow). row.node ≤ count) rows

more_nodes : (count more : ℕ) (rows : List NameRow) → count ≤ more → AreOfNodes count rows → AreOfNodes more rows
more_nodes count more [] le all = tt
more_nodes count more (row ∷ rows) le all = (omega (arith, all.0), more_nodes count more rows le all.1)

one_name : (count : ℕ) (rows : List NameRow) (row : NameRow) → AreOfNodes count rows → row.node ≤ count → AreOfNodes count (rows ++ row ∷ [])
one_name count [] row all is = (is, tt)
one_name count (x ∷ rows) row all is = (all.0, one_name count rows row all.1 is)

marked_as : (h after : History) → cursor h ≤ length h.nodes → length h.nodes ≤ length after.nodes → AreOfNodes (length h.nodes) h.marks → MarksAs h after → AreOfNodes (length after.nodes) after.marks
marked_as h after fits grows all (inl same) = (let P : List NameRow → Type 0 = AreOfNodes (length after.nodes) in subst P (sym same) (more_nodes (length h.nodes) (length after.nodes) h.marks grows all))
marked_as h after fits grows all (inr new) =
    let P : List NameRow → Type 0 = AreOfNodes (length after.nodes) in
    subst P (sym new.1) (one_name (length after.nodes) h.marks (record { name = new.0; node = cursor h }) (more_nodes (length h.nodes) (length after.nodes) h.marks grows all) (omega arith))

marked_after : (h : History) (call : Call) (out : Outcome) → Comes h call out → cursor h ≤ length h.nodes → AreOfNodes (length h.nodes) h.marks → AreOfNodes (length out.1.nodes) out.1.marks
marked_after h call out (Makes e is accepted nodes marks) fits all = marked_as h out.1 fits (let l = ap length nodes in omega arith) all (inl marks)
marked_after h call out (Rests is) fits all = marked_as h out.1 fits (let l = is.nodes.long in omega arith) all is.marks

abbrev AreAtNodes : History → Type 0
AreAtNodes h = AreOfNodes (length h.nodes) h.marks

one_line : (c : Config) (log : List Line) (x : Line) → AreAtNodes (history_from (opened c) log) → AreAtNodes (history_from (opened c) (log ++ x ∷ []))
one_line c log x all =
    let h = history_from (opened c) log in
    subst AreAtNodes (sym (history_end (opened c) log x)) (marked_after h x.call (outcome h x.call) (call_comes h x.call) (cursor_fits (record { site = c; log = log })) all)

all_lines : (c : Config) (log later : List Line) → AreAtNodes (history_from (opened c) log) → AreAtNodes (history_from (opened c) (log ++ later))
all_lines c log [] all = rw append-nil all
all_lines c log (x ∷ later) all =
    let P : List Line → Type 0 = λ l. AreAtNodes (history_from (opened c) l) in
    subst P (append_assoc log (x ∷ []) later) (all_lines c (log ++ x ∷ []) later (one_line c log x all))

session_marked : (s : Session) → AreAtNodes (history s)
unfolding history_from
session_marked s = all_lines s.site [] s.log tt

found_fits : (count : ℕ) (name : List ℕ) (rows : List NameRow) (n : ℕ) → AreOfNodes count rows → node_named name rows ≡ Some n → n ≤ count
found_fits count name [] n all e = cc
found_fits count name (row ∷ rows) n all e = of (bytes_eq name row.name) e (λ later. found_fits count name rows n all.1 later)
  where
    of : (b : Bool) → option_map (λ (r : NameRow). r.node) (cond b (Some row) (find (named name) rows)) ≡ Some n → (node_named name rows ≡ Some n → n ≤ count) → n ≤ count
    of true is go = (let same : row.node ≡ n = cc in let h = all.0 in omega arith)
    of false is go = go is

pub named_fits : (s : Session) (name : List ℕ) (n : ℕ) → node_named name (history s).marks ≡ Some n → n ≤ length (history s).nodes
named_fits s name n e = found_fits (length (history s).nodes) name (history s).marks n (session_marked s) e
