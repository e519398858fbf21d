-- Where gotos lead, and what prunes and names leave.
use Rattle.std.proofs.Common.{◌≡◌, ℕ, Bool, true, false, cond, List, [], ◌∷◌, length, bytes_eq, find, is_some, refl, sym, ap, ◌∙◌, subst, arith, Option, Some, None, option_map, Result, Ok, Err}
use Rattle.std.specs.Prelude.{IfOk, IsOk}
use Rattle.std.proofs.lemmas.List.Folds.{find-append}
use Rattle.std.proofs.lemmas.Slice.Eq.{bytes_eq-Decides}
use Rattle.std.specs.Option.{option_or}
use Rattle.esx_types.specs.declared.config.Config.{Config}
use Rattle.esx_events.specs.declared.event.Refusal.{Refusal}
use Rattle.esx_events.specs.declared.event.Refusal.TheVariants.{NoSuchNode, NameTaken, NoSuchName}
use Rattle.esx_events.specs.declared.call.NameRow.{NameRow}
use Rattle.esx_model.specs.Replay.{run, replay_of}
use Rattle.esx_model.specs.Show.{shown}
use Rattle.esx_model.specs.Tree.{path}
use Rattle.esx_model.specs.History.{History, cursor, here, scene_or, jumped}
use Rattle.esx_model.specs.Tree.{line, way}
use Rattle.esx_model.specs.Branching.{IsShortest, stands, gone_to, goto, visit, mark, prune, named}
use Rattle.esx_journal.specs.Reached.{IsReached}
use Rattle.esx_journal.specs.Marks.{node_named}
use Rattle.esx_journal.specs.Visits.{Visits, TakesOff}
use Rattle.esx_journal.proofs.Names.{with_name, visit_some, mark_taken, mark_free}
use Rattle.esx_journal.proofs.Ways.{way_fewest}
use Rattle.esx_journal.proofs.Sinking.{goto_some, goto_none}
use Rattle.esx_journal.proofs.Pruning.{dropped_length, dropped_path, dropped_at, dropped_alive}
use Rattle.esx_journal.proofs.Dropping.{without}
use Rattle.esx_journal.proofs.Reaching.{IsSteady, reached_steady, goes_there, replayed_here, steady_gone, named_is, pruned_is}

pub shortest_way : (c : Config) (h : History) (n : ℕ) → IsSteady c h → stands h n ≡ true → IsShortest h n (way (line h.nodes (cursor h)) (line h.nodes n))
shortest_way c h n s up = (let there = goes_there c h n s up in record {
  walk = there.walks;
  leads = there.ends;
  fewest = λ others ok ends. (let f = way_fewest h.nodes h.walk others s.tree ok in
      let e = ap (λ m. length (way (line h.nodes (cursor h)) (line h.nodes m))) ends in
      omega arith);
})

pub visits : (c : Config) (h : History) (n : ℕ) → IsReached c h → stands h n ≡ true → IfOk (goto n h) (λ after. Visits h after n)
visits c h n r up =
    let s = reached_steady c h r in
    let there = goes_there c h n s up in
    let events : here (gone_to n h) ≡ path h.nodes n = ap (path h.nodes) there.ends in
    let P : Result History Refusal → Type 0 = λ d. IfOk d (λ after. Visits h after n) in
    subst P (sym (goto_some n h up)) (record {
      rest = refl;
      jumps = refl;
      node = there.ends;
      events = events;
      book = ap (replay_of h.config) (sym events) ∙ replayed_here c (gone_to n h) (steady_gone c h n s up);
      moves = way (line h.nodes (cursor h)) (line h.nodes n);
      walk = refl;
      shortest = shortest_way c h n s up;
    })

self_named : (name : List ℕ) → bytes_eq name name ≡ true
self_named name = (bytes_eq-Decides name name).1 refl

-- the name that was given last is found, where it was free
pub found_new : (name : List ℕ) (h : History) → is_some (node_named name h.marks) ≡ false → find (named name) (with_name name h).marks ≡ Some (record { name = name; node = cursor h })
found_new name h free =
    let row : NameRow = record { name = name; node = cursor h } in
    find-append (named name) h.marks (row ∷ []) ∙ ap (λ o. option_or o (cond (bytes_eq name name) (Some row) None)) (none (find (named name) h.marks) free)
    ∙ ap (λ b. cond b (Some row) None) (self_named name)
  where
    none : (o : Option NameRow) → is_some (option_map (λ (x : NameRow). x.node) o) ≡ false → o ≡ None
    none None e = refl
    none (Some x) e = cc

pub found_last : (name : List ℕ) (h : History) → is_some (node_named name h.marks) ≡ false → node_named name (with_name name h).marks ≡ Some (cursor h)
found_last name h free = ap (option_map (λ (x : NameRow). x.node)) (found_new name h free)

pub visit_after : (h after : History) (name : List ℕ) → mark name h ≡ Ok after → visit name after ≡ goto (cursor h) after
visit_after h after name e =
    let m = named_is h after name e in
    let P : History → Type 0 = λ x. visit name x ≡ goto (cursor h) x in
    subst P m.1 (visit_some name (with_name name h) (cursor h) (found_last name h m.0))

pub taken_after : (h after : History) (name : List ℕ) → mark name h ≡ Ok after → mark name after ≡ Err NameTaken
taken_after h after name e =
    let m = named_is h after name e in
    let P : History → Type 0 = λ x. mark name x ≡ Err NameTaken in
    subst P m.1 (mark_taken name (with_name name h) (ap is_some (found_last name h m.0)))

pub takes_off : (h after : History) (n k : ℕ) → prune n h ≡ Ok (k, after) → TakesOff h after n k
takes_off h after n k e =
    let p = pruned_is h after n k e in
    let node : cursor (without n h) ≡ cursor h = dropped_at n h.nodes h.walk in
    let events : here (without n h) ≡ here h = dropped_path n h.nodes (cursor (without n h)) ∙ ap (path h.nodes) node in
    let P : History → Type 0 = λ x. TakesOff h x n k in
    subst P p.2 (record {
      gone = dropped_alive n h.nodes;
      many = sym p.1;
      numbers = dropped_length n h.nodes;
      paths = dropped_path n h.nodes;
      node = node;
      book = ap (λ es. shown h.config (scene_or h.config (run h.config es))) events;
      rest = refl;
    })

pub names_kept : (h after : History) (n k : ℕ) → prune n h ≡ Ok (k, after) → after.marks ≡ h.marks
names_kept h after n k e = (let p = pruned_is h after n k e in ap (λ (x : History). x.marks) (sym p.2))

goto_named : (h : History) (n : ℕ) → goto n h ≡ Err NoSuchName → ⊥
goto_named h n e = of (stands h n) refl
  where
    of : (b : Bool) → stands h n ≡ b → ⊥
    of true up = (let q : Ok (jumped (gone_to n h)) ≡ Err NoSuchName = sym (goto_some n h up) ∙ e in cc)
    of false up = (let q : Err NoSuchNode ≡ Err NoSuchName = sym (goto_none n h up) ∙ e in cc)

-- a name that leads nowhere is free
pub free_name : (h : History) (name : List ℕ) → visit name h ≡ Err NoSuchName → IsOk (mark name h)
free_name h name e = of (node_named name h.marks) refl
  where
    of : (o : Option ℕ) → node_named name h.marks ≡ o → IsOk (mark name h)
    of None n = (let P : Result History Refusal → Type 0 = IsOk in subst P (sym (mark_free name h (ap is_some n))) refl)
    of (Some k) n = absurd (goto_named h k (sym (visit_some name h k n) ∙ e))
