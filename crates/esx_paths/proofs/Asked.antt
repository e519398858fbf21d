-- The node that is meant, and its path.
use Rattle.std.proofs.Common.{◌≡◌, refl, sym, ◌∙◌, ap, subst, ℕ, ◌≤◌, Bool, true, false, cond, List, length, nat_le, Option, Some, None, Result, Ok, Err, arith}
use Rattle.std.specs.Option.{ok_or}
use Rattle.std.proofs.lemmas.Bool.{leb-true}
use Rattle.esx_types.specs.declared.config.Config.{Config}
use Rattle.esx_events.specs.declared.event.Refusal.{Refusal}
use Rattle.esx_events.specs.declared.event.Refusal.TheVariants.{NoSuchNode, NoSuchName, OutOfMemory}
use Rattle.esx_model.specs.History.{History, cursor}
use Rattle.esx_model.specs.Console.{Session, history}
use Rattle.esx_journal.specs.Marks.{node_named}
use Rattle.esx_paths.specs.declared.at.At.{At}
use Rattle.esx_paths.specs.declared.at.At.TheVariants.{End, Node, Name}
use Rattle.esx_paths.specs.declared.makers.Maker.{Maker}
use Rattle.esx_paths.specs.declared.makers.RefusedCall.{RefusedCall}
use Rattle.esx_paths.specs.declared.path.Path.{Path}
use Rattle.esx_paths.specs.Makers.{makers}
use Rattle.esx_paths.specs.Pasts.{Kept, IsPastOf}
use Rattle.esx_paths.specs.Paths.{IsPath}
use Rattle.esx_paths.specs.Ats.{node_at, IsPathAt}
use Rattle.esx_paths.specs.Ways.{TellsPath}
use Rattle.esx_paths.proofs.Marked.{cursor_fits, named_fits}
use Rattle.esx_paths.proofs.Sessions.{session_told}
use Rattle.esx_paths.proofs.Whole.{session_path}

-- no memory is wanted to find it
pub never_wants : (at : At) (h : History) → node_at at h ≡ Err OutOfMemory → ⊥
never_wants End h e = cc
never_wants (Node n) h e = of (nat_le n (length h.nodes)) e
  where
    of : (b : Bool) → ◌≡◌ {A = Result ℕ Refusal} (cond b (Ok n) (Err NoSuchNode)) (Err OutOfMemory) → ⊥
    of true is = cc
    of false is = cc
never_wants (Name name) h e = of (node_named name h.marks) e
  where
    of : (o : Option ℕ) → ok_or o NoSuchName ≡ Err OutOfMemory → ⊥
    of None is = cc
    of (Some n) is = cc

-- it was made
pub node_fits : (s : Session) (at : At) (n : ℕ) → Ok n ≡ node_at at (history s) → n ≤ length (history s).nodes
node_fits s End n e = (let same : n ≡ cursor (history s) = cc in let h = cursor_fits s in omega arith)
node_fits s (Node m) n e = of (nat_le m (length (history s).nodes)) refl e
  where
    of : (b : Bool) → nat_le m (length (history s).nodes) ≡ b → ◌≡◌ {A = Result ℕ Refusal} (Ok n) (cond b (Ok m) (Err NoSuchNode)) → n ≤ length (history s).nodes
    of true is same = (let one : n ≡ m = cc in let h = leb-true m (length (history s).nodes) is in omega arith)
    of false is same = (let no : ⊥ = cc in absurd no)
node_fits s (Name name) n e = of (node_named name (history s).marks) refl e
  where
    of : (o : Option ℕ) → node_named name (history s).marks ≡ o → Ok n ≡ ok_or o NoSuchName → n ≤ length (history s).nodes
    of None is same = (let no : ⊥ = cc in absurd no)
    of (Some m) is same = (let one : n ≡ m = cc in let h = named_fits s name m is in omega arith)

-- What is told from what is kept of a session is the path to the node that is meant.
pub tells_at : (s : Session) (past : Kept) (at : At) (node : ℕ) (told : Path) → IsPastOf past s → Ok node ≡ node_at at (history s)
    → TellsPath past.site past.calls past.makers past.refused node told → IsPathAt s at told
tells_at s past at node told is found tells =
    let A : Config → Type 0 = λ c. TellsPath c past.calls past.makers past.refused node told in
    let B : ℕ → Type 0 = λ n. TellsPath s.site n past.makers past.refused node told in
    let C : List Maker → Type 0 = λ m. TellsPath s.site (length s.log) m past.refused node told in
    let D : List RefusedCall → Type 0 = λ r. TellsPath s.site (length s.log) (makers s) r node told in
    let all = subst D is.refused (subst C is.made (subst B is.counted (subst A is.opened tells))) in
    let fits : node ≤ length (makers s) = (let h = node_fits s at node found in let l = (session_told s).long in omega arith) in
    let path = session_path s node told is.answers.journal_holds.tree fits all in
    let P : ℕ → Type 0 = λ n. IsPath s n told in
    (sym found ∙ ap (λ n. Ok n) (sym tells.node_is), subst P (sym tells.node_is) path)
