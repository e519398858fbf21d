-- Names and their nodes, in the histories that calls lead to.
use Rattle.std.proofs.Common.{◌≡◌, ℕ, Bool, true, false, cond, List, [], ◌∷◌, ◌++◌, find, refl, sym, ap, ◌∙◌, subst, Option, Some, None, option_map, nat_lt, Ok, Err}
use Rattle.std.specs.List.{All, AllByRecursion}
use Rattle.std.specs.Option.{option_or}
use Rattle.std.proofs.lemmas.List.Folds.{find-append}
use Rattle.std.proofs.lemmas.List.Elements.{All-from_recursion}
use Rattle.esx_types.specs.declared.config.Config.{Config}
use Rattle.esx_events.specs.declared.event.Event.{Event}
use Rattle.esx_events.specs.declared.event.Answer.{Answer}
use Rattle.esx_events.specs.declared.event.Refusal.TheVariants.{NoSuchName}
use Rattle.esx_events.specs.declared.call.NameRow.{NameRow}
use Rattle.esx_model.specs.History.{History, cursor, done, do_event, undone, undo, redo, jumped}
use Rattle.esx_model.specs.Branching.{named, goto, visit, mark}
use Rattle.esx_journal.specs.Marks.{node_named}
use Rattle.esx_journal.specs.Reached.{IsReached, Opened, Did, Undid, Redid, Went, Visited, Named, Pruned}
use Rattle.esx_journal.proofs.Names.{visit_some, visit_none}
use Rattle.esx_journal.proofs.Back.{undone_is}
use Rattle.esx_journal.proofs.Down.{redo_is}
use Rattle.esx_journal.proofs.Reaching.{did_is, gone_is, named_is, reached_steady}
use Rattle.esx_journal.proofs.Visiting.{found_new, names_kept}

-- a row is the first with its name
abbrev Finds : List NameRow → NameRow → Type 0
Finds rows row = find (named row.name) rows ≡ Some row

-- each row of a history is the first with its name
abbrev AreFound : History → Type 0
AreFound h = AllByRecursion (Finds h.marks) h.marks

found_more : (rows : List NameRow) (new row : NameRow) → Finds rows row → Finds (rows ++ new ∷ []) row
found_more rows new row e = find-append (named row.name) rows (new ∷ []) ∙ ap (λ o. option_or o (cond (named row.name new) (Some new) None)) e

all_more : (rows xs : List NameRow) (new : NameRow) → AllByRecursion (Finds rows) xs → Finds (rows ++ new ∷ []) new → AllByRecursion (Finds (rows ++ new ∷ [])) (xs ++ new ∷ [])
all_more rows [] new all last = (last, tt)
all_more rows (x ∷ xs) new all last = (found_more rows new x all.0, all_more rows xs new all.1 last)

-- Names stay through every call but a mark.

kept : (h after : History) → after.marks ≡ h.marks → AreFound h → AreFound after
kept h after same all = (let P : List NameRow → Type 0 = λ rows. AllByRecursion (Finds rows) rows in subst P (sym same) all)

done_marks : (h : History) (e : Event) → (done e h).marks ≡ h.marks
unfolding done
done_marks h e = refl

did_marks : (h after : History) (e : Event) (a : Answer) → do_event e h ≡ Ok (a, after) → after.marks ≡ h.marks
did_marks h after e a q = ap (λ (x : History). x.marks) (sym (did_is h after e a q).2) ∙ done_marks h e

undid_marks : (h after : History) (k : ℕ) → undo k h ≡ Some after → after.marks ≡ h.marks
unfolding undo
undid_marks h after k q = of (nat_lt _ k) q
  where
    of : (b : Bool) → cond b None (Some (jumped (undone k h))) ≡ Some after → after.marks ≡ h.marks
    of true e = cc
    of false e = (let same : jumped (undone k h) ≡ after = cc in ap (λ (x : History). x.marks) (sym same) ∙ ap (λ (x : History). x.marks) (undone_is k h))

redid_marks : (c : Config) (h after : History) (k : ℕ) → IsReached c h → redo k h ≡ Some after → after.marks ≡ h.marks
redid_marks c h after k r q =
    let s = reached_steady c h r in
    let d = redo_is k h after s.tree s.walk q in
    ap (λ (x : History). x.marks) d.is ∙ ap (λ (x : History). x.marks) d.below.is

went_marks : (h after : History) (n : ℕ) → goto n h ≡ Ok after → after.marks ≡ h.marks
went_marks h after n q = ap (λ (x : History). x.marks) (sym (gone_is h after n q).1)

visited_marks : (h after : History) (name : List ℕ) → visit name h ≡ Ok after → after.marks ≡ h.marks
visited_marks h after name q = of (node_named name h.marks) refl
  where
    of : (o : Option ℕ) → node_named name h.marks ≡ o → after.marks ≡ h.marks
    of None e = (let no : Err NoSuchName ≡ Ok after = sym (visit_none name h e) ∙ q in cc)
    of (Some n) e = went_marks h after n (sym (visit_some name h n e) ∙ q)

marked_found : (h after : History) (name : List ℕ) → mark name h ≡ Ok after → AreFound h → AreFound after
marked_found h after name q all =
    let m = named_is h after name q in
    let row : NameRow = record { name = name; node = cursor h } in
    subst AreFound m.1 (all_more h.marks h.marks row all (found_new name h m.0))

reached_found : (c : Config) (h : History) → IsReached c h → AreFound h
reached_found c h Opened = tt
reached_found c h (Did e a m after r q) = kept m h (did_marks m h e a q) (reached_found c m r)
reached_found c h (Undid k m after r q) = kept m h (undid_marks m h k q) (reached_found c m r)
reached_found c h (Redid k m after r q) = kept m h (redid_marks c m h k r q) (reached_found c m r)
reached_found c h (Went n m after r q) = kept m h (went_marks m h n q) (reached_found c m r)
reached_found c h (Visited name m after r q) = kept m h (visited_marks m h name q) (reached_found c m r)
reached_found c h (Named name m after r q) = marked_found m h name q (reached_found c m r)
reached_found c h (Pruned n k m after r q) = kept m h (names_kept m h n k q) (reached_found c m r)

-- each name leads to its node
lead : (h : History) (rows : List NameRow) → AllByRecursion (Finds h.marks) rows → AllByRecursion (λ (row : NameRow). visit row.name h ≡ goto row.node h) rows
lead h [] all = tt
lead h (row ∷ rows) all = (visit_some row.name h row.node (ap (option_map (λ (x : NameRow). x.node)) all.0), lead h rows all.1)

pub names_lead : (c : Config) (h : History) → IsReached c h → All (λ (row : NameRow). visit row.name h ≡ goto row.node h) h.marks
names_lead c h r = All-from_recursion (λ (row : NameRow). visit row.name h ≡ goto row.node h) h.marks (lead h h.marks (reached_found c h r))
