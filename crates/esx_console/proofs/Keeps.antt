-- What a call keeps of the site, and adds to the jumps.
use Rattle.std.proofs.Common.{◌≡◌, refl, sym, ◌∙◌, ap, subst, ℕ, zero, suc, ◌+◌, Bool, true, false, if◌then◌else◌, List, [], ◌∷◌, Option, Some, None, Result, Ok, Err, option_map, nat_lt, length, arith, find, not, ◌++◌}
use Rattle.esx_events.specs.declared.event.Event.{Event}
use Rattle.esx_events.specs.declared.event.Answer.{Answer}
use Rattle.esx_events.specs.declared.event.Refusal.{Refusal}
use Rattle.esx_events.specs.declared.event.Refusal.TheVariants.{NothingToUndo, NothingToRedo, NoSuchNode, NameTaken, OnPath}
use Rattle.esx_events.specs.declared.call.Call.{Call}
use Rattle.esx_events.specs.declared.call.Call.TheVariants as calls
use Rattle.esx_events.specs.declared.call.Line.{Line}
use Rattle.esx_events.specs.declared.call.NameRow.{NameRow}
use Rattle.std.specs.List.{list_any}
use Rattle.esx_model.specs.declared.scene.Scene.{Scene}
use Rattle.esx_model.specs.Replay.{next}
use Rattle.esx_model.specs.History.{History, opened, here, scene_at, do_event, answered, done, undo, redo, undone, redone, up_once, down_once, down_to, child, then_go, jumped, cursor}
use Rattle.esx_model.specs.Branching.{stands, gone_to, goto, named, go_to_mark, visit, mark, dropped, standing_below, is_on_path, prune}
use Rattle.esx_model.specs.Console.{Session, history, history_from, after, outcome, event_outcome, move_outcome, goto_outcome, mark_outcome, prune_outcome}

-- t has the site of h, and so many jumps more
pub record Keeps (h t : History) (jumps : ℕ) : Type 0 where
  pub site : t.config ≡ h.config
  pub count : t.jumps ≡ h.jumps + jumps

stays : (h : History) → Keeps h h 0
stays h = record { site = refl; count = omega arith }

then_keeps : (h m t : History) (i j n : ℕ) → Keeps h m i → Keeps m t j → n ≡ i + j → Keeps h t n
then_keeps h m t i j n a b e = (let p = a.count in let q = b.count in record { site = b.site ∙ a.site; count = omega arith })

undone_keeps : (k : ℕ) (h : History) → Keeps h (undone k h) 0
unfolding undone up_once
undone_keeps zero h = stays h
undone_keeps (suc k) h = (let e = undone_keeps k h in record { site = e.site; count = e.count })

mapped_some : {A B : Type 0} (f : A → B) (o : Option A) (b : B) → option_map f o ≡ Some b → (a : A) × (o ≡ Some a) × (b ≡ f a)
mapped_some f None b e = cc
mapped_some f (Some a) b e = (a, refl, cc)

down_keeps : (h u : History) → down_once h ≡ Some u → Keeps h u 0
unfolding down_once
down_keeps h u e = (let found = mapped_some (down_to h) (child h) u e in
    record { site = ap (λ (x : History). x.config) found.2; count = ap (λ (x : History). x.jumps) found.2 ∙ omega arith })

went_keeps : (o : Option History) (h u : History) → ((t : History) → o ≡ Some t → Keeps h t 0) → then_go o down_once ≡ Some u → Keeps h u 0
went_keeps None h u before e = cc
went_keeps (Some t) h u before e = then_keeps h t u 0 0 0 (before t refl) (down_keeps t u e) refl

redone_keeps : (k : ℕ) (h u : History) → redone k h ≡ Some u → Keeps h u 0
unfolding redone
redone_keeps zero h u e = (let same : h ≡ u = cc in let P : History → Type 0 = λ x. Keeps h x 0 in subst P same (stays h))
redone_keeps (suc k) h u e = went_keeps (redone k h) h u (λ t. redone_keeps k h t) e

jumped_keeps : (h t : History) → Keeps h t 0 → Keeps h (jumped t) 1
jumped_keeps h t e = (let q = e.count in record { site = e.site; count = omega arith })

chosen_some : {A : Type 0} (b : Bool) (a c : A) → (if b then None else Some a) ≡ Some c → a ≡ c
chosen_some true a c e = cc
chosen_some false a c e = cc

pub undo_keeps : (k : ℕ) (h u : History) → undo k h ≡ Some u → Keeps h u 1
unfolding undo
undo_keeps k h u e =
    let same = chosen_some (nat_lt (length (here h)) k) (jumped (undone k h)) u e in
    let P : History → Type 0 = λ x. Keeps h x 1 in
    subst P same (jumped_keeps h (undone k h) (undone_keeps k h))

pub redo_keeps : (k : ℕ) (h u : History) → redo k h ≡ Some u → Keeps h u 1
unfolding redo
redo_keeps k h u e =
    let found = mapped_some jumped (redone k h) u e in
    let P : History → Type 0 = λ x. Keeps h x 1 in
    subst P (sym found.2) (jumped_keeps h found.0 (redone_keeps k h found.0 found.1))

done_keeps : (e : Event) (h : History) → Keeps h (done e h) 0
unfolding done
done_keeps e h = record { site = refl; count = omega arith }

answered_keeps : (e : Event) (h t : History) (a : Answer) (d : Result (Answer × Scene) Refusal) → answered e h d ≡ Ok (a, t) → Keeps h t 0
answered_keeps e h t a (Ok r) is = (let pair : (r.0, done e h) ≡ (a, t) = cc in
    let same : done e h ≡ t = ap (λ (x : Answer × History). x.1) pair in
    let P : History → Type 0 = λ x. Keeps h x 0 in
    subst P same (done_keeps e h))
answered_keeps e h t a (Err r) is = cc

chosen_ok : {A E : Type 0} (b : Bool) (x : E) (d : Result A E) (a : A) → (if b then Err x else d) ≡ Ok a → d ≡ Ok a
chosen_ok true x d a e = cc
chosen_ok false x d a e = e

pub event_keeps : (e : Event) (h t : History) (a : Answer) → do_event e h ≡ Ok (a, t) → Keeps h t 0
unfolding do_event
event_keeps e h t a is = answered_keeps e h t a (next h.config (scene_at h) e) (chosen_ok _ _ _ _ is)

gone_keeps : (b : Bool) (n : ℕ) (h t : History) → (if b then Ok (jumped (gone_to n h)) else Err NoSuchNode) ≡ Ok t → Keeps h t 1
gone_keeps true n h t e = (let same : jumped (gone_to n h) ≡ t = cc in let P : History → Type 0 = λ x. Keeps h x 1 in subst P same (record { site = refl; count = refl }))
gone_keeps false n h t e = cc

pub goto_keeps : (n : ℕ) (h t : History) → goto n h ≡ Ok t → Keeps h t 1
unfolding goto
goto_keeps n h t e = gone_keeps (stands h n) n h t e

visited_keeps : (o : Option NameRow) (h t : History) → go_to_mark o h ≡ Ok t → Keeps h t 1
visited_keeps None h t e = cc
visited_keeps (Some m) h t e = goto_keeps m.node h t e

pub visit_keeps : (name : List ℕ) (h t : History) → visit name h ≡ Ok t → Keeps h t 1
unfolding visit
visit_keeps name h t e = visited_keeps (find (named name) h.marks) h t e

pub mark_keeps : (name : List ℕ) (h t : History) → mark name h ≡ Ok t → Keeps h t 0 × (cursor t ≡ cursor h)
unfolding mark
mark_keeps name h t e =
    let with_name : History = record h { marks = h.marks ++ record { name = name; node = cursor h } ∷ [] } in
    let P : History → Type 0 = λ x. Keeps h x 0 × (cursor x ≡ cursor h) in
    subst P (of (list_any (named name) h.marks) with_name e) (record { site = refl; count = omega arith }, refl)
  where
    of : (b : Bool) (u : History) → (if b then Err NameTaken else Ok u) ≡ Ok t → u ≡ t
    of true u q = cc
    of false u q = cc

-- a history and how many nodes went
abbrev the_pruned : ℕ × History → Result (ℕ × History) Refusal
the_pruned r = Ok r

pub prune_keeps : (n : ℕ) (h : History) (r : ℕ × History) → prune n h ≡ Ok r → Keeps h r.1 0
unfolding prune
prune_keeps n h r e =
    let without : History = record h { nodes = dropped n h.nodes } in
    let P : ℕ × History → Type 0 = λ x. Keeps h x.1 0 in
    subst P (of (not (stands h n)) (is_on_path h n) (standing_below n h.nodes, without) e) (record { site = refl; count = omega arith })
  where
    of : (a b : Bool) (u : ℕ × History) → (if a then Err NoSuchNode else (if b then Err OnPath else Ok u)) ≡ Ok r → u ≡ r
    of true b u q = cc
    of false true u q = cc
    of false false u q = (let same : the_pruned u ≡ the_pruned r = q in cc)

did_site : (h : History) (e : Event) (d : Result (Answer × History) Refusal) → do_event e h ≡ d → (event_outcome h d).1.config ≡ h.config
did_site h e (Ok r) is = (event_keeps e h r.1 r.0 is).site
did_site h e (Err r) is = refl

undid_site : (h : History) (k : ℕ) (o : Option History) → undo k h ≡ o → (move_outcome NothingToUndo h o).1.config ≡ h.config
undid_site h k (Some t) is = (undo_keeps k h t is).site
undid_site h k None is = refl

redid_site : (h : History) (k : ℕ) (o : Option History) → redo k h ≡ o → (move_outcome NothingToRedo h o).1.config ≡ h.config
redid_site h k (Some t) is = (redo_keeps k h t is).site
redid_site h k None is = refl

went_site : (h : History) (d : Result History Refusal) → ((t : History) → d ≡ Ok t → Keeps h t 1) → (goto_outcome h d).1.config ≡ h.config
went_site h (Ok t) keeps = (keeps t refl).site
went_site h (Err e) keeps = refl

named_site : (h : History) (name : List ℕ) (d : Result History Refusal) → ((t : History) → d ≡ Ok t → Keeps h t 0) → (mark_outcome name h d).1.config ≡ h.config
named_site h name (Ok t) keeps = (keeps t refl).site
named_site h name (Err e) keeps = refl

pruned_site : (h : History) (d : Result (ℕ × History) Refusal) → ((r : ℕ × History) → d ≡ Ok r → Keeps h r.1 0) → (prune_outcome h d).1.config ≡ h.config
pruned_site h (Ok r) keeps = (keeps r refl).site
pruned_site h (Err e) keeps = refl

called_site : (h : History) (call : Call) → (after h call).config ≡ h.config
unfolding outcome
called_site h (calls.Do e) = did_site h e (do_event e h) refl
called_site h (calls.Undo k) = undid_site h k (undo k h) refl
called_site h (calls.Redo k) = redid_site h k (redo k h) refl
called_site h (calls.Goto n) = went_site h (goto n h) (λ t. goto_keeps n h t)
called_site h (calls.Visit name) = went_site h (visit name h) (λ t. visit_keeps name h t)
called_site h (calls.Mark name) = named_site h name (mark name h) (λ t e. (mark_keeps name h t e).0)
called_site h (calls.Prune n) = pruned_site h (prune n h) (λ r. prune_keeps n h r)
called_site h (calls.WhatIf es) = refl
called_site h calls.Sum = refl
called_site h calls.Table = refl
called_site h (calls.OfVm n) = refl
called_site h (calls.OfPage n page) = refl
called_site h (calls.Advise n page) = refl
called_site h calls.Stand = refl
called_site h calls.Marks = refl

logged_site : (h : History) (log : List Line) → (history_from h log).config ≡ h.config
unfolding history_from
logged_site h [] = refl
logged_site h (x ∷ log) = logged_site (after h x.call) log ∙ called_site h x.call

-- a session's history has its site
pub history_site : (s : Session) → (history s).config ≡ s.site
history_site s = logged_site (opened s.site) s.log
