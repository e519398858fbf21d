-- A new node.
use Rattle.std.proofs.Common.{◌≡◌, ◌≢◌, ℕ, zero, suc, ◌+◌, ◌<◌, ◌≤◌, ◌^◌, ◌==◌, ◌||◌, Bool, true, false, cond, List, [], ◌∷◌, ◌++◌, length, length-append, slice_index_or, is_some, refl, sym, ap, ◌∙◌, subst, arith, Some, None, option_map, ◌⊎◌, inl, inr, Result, Ok, Err, nat_le}
use Rattle.std.specs.Result.{IsOk}
use Rattle.std.proofs.lemmas.Bool.Decides.{eqb_tells, nat_tests}
use Rattle.std.proofs.lemmas.Bool.{eq-eqb}
use Rattle.esx_types.specs.declared.config.Config.{Config}
use Rattle.esx_events.specs.declared.event.Event.{Event}
use Rattle.esx_events.specs.declared.event.Answer.{Answer}
use Rattle.esx_events.specs.declared.event.Refusal.{Refusal}
use Rattle.esx_events.specs.declared.event.Refusal.TheVariants.{Full, OutOfMemory}
use Rattle.esx_model.specs.declared.scene.Scene.{Scene}
use Rattle.esx_model.specs.Replay.{opening, next, run, replay_of, shown_after}
use Rattle.esx_model.specs.Tree.{Node, Move, Up, Down, parent, alive, path, on_way, at, last_descent, IsTree, IsWalk}
use Rattle.esx_model.specs.History.{History, cursor, here, opened, done, answered, do_event, child, if_alive, down_once, down_to, then_go, redone, redo, scene_or, scene_at, book_at}
use Rattle.esx_machine.specs.Machine as machines
use Rattle.esx_machine.specs.Machine.{Back}
use Rattle.esx_machine.specs.Machine.{Shows, Trades, Accepts, Refuses, book_in}
use Rattle.esx_plans.specs.plan.Balloon.{CanEpochsRise}
use Rattle.esx_model.specs.Show.{shown}
use Rattle.esx_model.specs.Epochs.{AreEpochsWithin}
use Rattle.esx_model.proofs.Callers.{later_within, path_within}
use Rattle.esx_journal.specs.Rows.{Row}
use Rattle.esx_journal.specs.Row.{row_of, grown, with_child}
use Rattle.esx_journal.specs.Children.{no_row, child_of_number}
use Rattle.esx_journal.specs.Journal.{Kept, Leads, IsAccepted, IsRow, AreDescents, Aims, Holds, kept_after}
use Rattle.esx_journal.proofs.Lists.{pushed_there, pushed_set, pushed_elsewhere, pushed_length}
use Rattle.esx_journal.proofs.Paths.{newest, alive_fits, way_self, is_other, parent_new, parent_old, alive_new, alive_old, path_new, path_old, way_new, parent_fits, walk_ends, way_below, path_short, some_child}
use Rattle.esx_journal.proofs.Runs.{accepted_push, accepted_open, opens, grown_is, config_after, shows_after, book_shown, can_rise}
use Rattle.esx_journal.proofs.Steps.{cursor_fits, descents_of}
use Rattle.esx_journal.proofs.Moves.{redone_more, redone_stops, redo_none}

-- an old walk in the tree with one more node
pub at_grown : (x : Node) (nodes : List Node) (walk : List Move) → IsTree nodes → IsWalk nodes walk → at (x ∷ nodes) walk ≡ at nodes walk
unfolding at
at_grown x nodes [] tree ok = refl
at_grown x nodes (Up ∷ w) tree ok = ap (parent (x ∷ nodes)) (at_grown x nodes w tree ok) ∙ parent_old x nodes (at nodes w) (walk_ends nodes w tree ok)
at_grown x nodes (Down n ∷ w) tree ok = refl

pub walk_grown : (x : Node) (nodes : List Node) (walk : List Move) → IsTree nodes → IsWalk nodes walk → IsWalk (x ∷ nodes) walk
walk_grown x nodes [] tree ok = tt
walk_grown x nodes (Up ∷ w) tree ok = walk_grown x nodes w tree ok
walk_grown x nodes (Down n ∷ w) tree ok = (ok.0, (let f = ok.1 in omega arith), parent_old x nodes n ok.1 ∙ ok.2 ∙ sym (at_grown x nodes w tree ok.3), walk_grown x nodes w tree ok.3)

descents_grown : (x : Node) (nodes : List Node) (walk : List Move) (n : ℕ) → IsTree nodes → AreDescents nodes walk → last_descent (x ∷ nodes) walk n ≡ last_descent nodes walk n
unfolding last_descent
descents_grown x nodes [] n tree ok = refl
descents_grown x nodes (Up ∷ w) n tree ok = descents_grown x nodes w n tree ok
descents_grown x nodes (Down k ∷ w) n tree ok =
    ap (λ p. cond (n == p) (Some k) (last_descent (x ∷ nodes) w n)) (parent_old x nodes k ok.1) ∙ ap (λ o. cond (n == parent nodes k) (Some k) o) (descents_grown x nodes w n tree ok.2)

-- no descent from a number that no node has
no_descent : (nodes : List Node) (walk : List Move) (n : ℕ) → IsTree nodes → AreDescents nodes walk → length nodes < n → last_descent nodes walk n ≡ None
unfolding last_descent
no_descent nodes [] n tree ok out = refl
no_descent nodes (Up ∷ w) n tree ok out = no_descent nodes w n tree ok out
no_descent nodes (Down k ∷ w) n tree ok out =
    ap (λ b. cond b (Some k) (last_descent nodes w n)) (is_other n (parent nodes k) (λ e. (let f = parent_fits nodes k tree ok.1 in omega arith))) ∙ no_descent nodes w n tree ok.2 out

pub config_is : (j : Kept) (m : History) {aim : List Move} → Aims j m aim → j.machine.config ≡ m.config
config_is j m h = ap (λ (k : machines.Kept). k.config) h.shows ∙ config_after m.config (here m)

-- the cursor's path is accepted
pub accepted_here : (j : Kept) (m : History) {aim : List Move} (d : Row) → Aims j m aim → IsAccepted m.config (here m)
accepted_here j m d h = (h.each (cursor m) d (cursor_fits j m _ h)).accepted

pub shows_here : (j : Kept) (m : History) {aim : List Move} (d : Row) → (h : Aims j m aim) → Shows j.machine (accepted_here j m d h).scene
shows_here j m d h = (let P : machines.Kept → Type 0 = λ k. Shows k (accepted_here j m d h).scene in subst P (sym h.shows) (shows_after m.config (here m) (accepted_here j m d h)))

-- the cursor's path runs to its scene, and the tables show it
pub runs_at : (j : Kept) (m : History) {aim : List Move} (d : Row) → Aims j m aim → run m.config (here m) ≡ Ok (scene_at m)
runs_at j m d h = (let old = accepted_here j m d h in old.runs ∙ ap (λ o. Ok (scene_or m.config o)) (sym old.runs))

-- the machine shows the scene of the cursor's path
pub shows_at : (j : Kept) (m : History) {aim : List Move} (d : Row) → Aims j m aim → Shows j.machine (scene_at m)
shows_at j m d h = (let P : Scene → Type 0 = Shows j.machine in subst P (sym (ap (scene_or m.config) (accepted_here j m d h).runs)) (shows_here j m d h))

-- the book is that of the cursor's path
pub book_here : (j : Kept) (m : History) {aim : List Move} (d : Row) → Aims j m aim → book_in j.machine ≡ book_at m
book_here j m d h = book_shown j.machine (scene_at m) (shows_at j m d h) ∙ ap (λ q. shown q (scene_at m)) (config_is j m h)

pub book_is : (j : Kept) (m : History) {aim : List Move} (d : Row) → Aims j m aim → replay_of m.config (here m) ≡ Ok (book_in j.machine)
book_is j m d h = ap (shown_after m.config) (runs_at j m d h) ∙ ap (λ b. Ok b) (sym (book_here j m d h))

-- no epoch is above the number of nodes
pub epochs_here : (j : Kept) (m : History) {aim : List Move} (d : Row) → Aims j m aim → AreEpochsWithin (length m.nodes) (scene_at m).site
epochs_here j m d h =
    let short = path_short m.nodes (cursor m) h.tree (cursor_fits j m _ h) in
    let fits = cursor_fits j m _ h in
    later_within (length (here m)) (length m.nodes) (scene_at m).site (omega arith) (path_within m.config (here m) (scene_at m) (runs_at j m d h))

-- so each can rise
pub rise_here : (j : Kept) (m : History) {aim : List Move} (d : Row) → Aims j m aim → length m.nodes + 1 < 2 ^ 32 → CanEpochsRise j.machine.tables
rise_here j m d h room = can_rise j.machine (scene_at m) (length m.nodes) (shows_at j m d h) (epochs_here j m d h) room

abbrev pub node_of : History → Event → Node
node_of m e = record { parent = cursor m; event = e; alive = true }

-- moves down stay such where the tree grows
aims_grown : (x : Node) (nodes : List Node) (aim : List Move) → AreDescents nodes aim → AreDescents (x ∷ nodes) aim
aims_grown x nodes [] ok = tt
aims_grown x nodes (Up ∷ w) ok = aims_grown x nodes w ok
aims_grown x nodes (Down n ∷ w) ok = (ok.0, (let f = ok.1 in omega arith), aims_grown x nodes w ok.2)

last_new : (m : History) (aim : List Move) (e : Event) (n : ℕ) → IsTree m.nodes → AreDescents m.nodes aim
    → last_descent (node_of m e ∷ m.nodes) (Down (length m.nodes + 1) ∷ aim) n ≡ cond (n == cursor m) (Some (length m.nodes + 1)) (last_descent m.nodes aim n)
unfolding last_descent
last_new m aim e n tree ok = ap (λ p. cond (n == p) (Some (length m.nodes + 1)) (last_descent (node_of m e ∷ m.nodes) aim n)) (parent_new (node_of m e) m.nodes (length m.nodes + 1) refl)
    ∙ ap (λ o. cond (n == cursor m) (Some (length m.nodes + 1)) o) (descents_grown (node_of m e) m.nodes aim n tree ok)

-- the new node has no child yet
pub none_new : (m : History) (aim : List Move) (e : Event) → IsTree m.nodes → IsWalk m.nodes m.walk → AreDescents m.nodes aim
    → last_descent (node_of m e ∷ m.nodes) (Down (length m.nodes + 1) ∷ aim) (length m.nodes + 1) ≡ None
none_new m aim e tree walk ok =
    let n : ℕ = length m.nodes + 1 in
    let f = walk_ends m.nodes m.walk tree walk in
    last_new m aim e n tree ok ∙ ap (λ t. cond t (Some n) (last_descent m.nodes aim n)) (is_other n (cursor m) (λ z. omega arith)) ∙ no_descent m.nodes aim n tree ok (omega arith)

-- the new row
row_new : (j : Kept) (m : History) {aim : List Move} (e : Event) (b : Back) (k : machines.Kept) (first : ℕ) → (h : Aims j m aim) → IsAccepted m.config (here m ++ e ∷ []) → k ≡ kept_after m.config (here m ++ e ∷ []) → Trades b k j.machine
    → IsRow (done e m) (Down (length m.nodes + 1) ∷ aim) (length m.nodes + 1) (length m.nodes + 1) (row_of j.cursor b first)
unfolding done
row_new j m e b k first h accepted is trades =
    let x : Node = node_of m e in
    let n : ℕ = length m.nodes + 1 in
    let f = cursor_fits j m _ h in
    let up : parent (x ∷ m.nodes) n ≡ cursor m = parent_new x m.nodes n refl in
    let path_is : path (x ∷ m.nodes) n ≡ here m ++ e ∷ [] = path_new x m.nodes n refl in
    let above_is : path (x ∷ m.nodes) (parent (x ∷ m.nodes) n) ≡ here m = ap (path (x ∷ m.nodes)) up ∙ path_old x m.nodes (cursor m) f in
    let on : on_way (x ∷ m.nodes) n n ≡ true = way_new x m.nodes n n refl ∙ ap (λ t. t || on_way m.nodes (cursor m) n) (eq-eqb n n refl) in
    let P : List Event → Type 0 = IsAccepted m.config in
    record {
      up = h.place ∙ sym up;
      last = sym (none_new m _ e h.tree h.walk h.lasts);
      live = sym (alive_new x m.nodes n refl);
      accepted = subst P (sym path_is) accepted;
      back = λ r s. (let same : b ≡ r = cc in
          let A : Back → Type 0 = λ y. Trades y k j.machine in
          let B : machines.Kept → Type 0 = λ y. Trades r y j.machine in
          let C : machines.Kept → Type 0 = λ y. Trades r (kept_after m.config (path (x ∷ m.nodes) n)) y in
          let W : Bool → Type 0 = λ t. Leads t r (kept_after m.config (path (x ∷ m.nodes) n)) (kept_after m.config (path (x ∷ m.nodes) (parent (x ∷ m.nodes) n))) in
          subst W (sym on) (subst C (h.shows ∙ ap (kept_after m.config) (sym above_is)) (subst B (is ∙ ap (kept_after m.config) (sym path_is)) (subst A same trades))));
    }

-- an old row, whose last child may be new
row_old : (j : Kept) (m : History) {aim : List Move} (e : Event) (n : ℕ) (row new : Row) → Aims j m aim → n ≤ length m.nodes → IsRow m aim (cursor m) n row → new.parent ≡ row.parent → new.back ≡ row.back
    → child_of_number new.last ≡ cond (n == cursor m) (Some (length m.nodes + 1)) (child_of_number row.last) → IsRow (done e m) (Down (length m.nodes + 1) ∷ aim) (length m.nodes + 1) n new
unfolding done
row_old j m e n row new h fits old up back last =
    let x : Node = node_of m e in
    let c : ℕ = length m.nodes + 1 in
    let up_is = parent_old x m.nodes n fits in
    let path_is = path_old x m.nodes n fits in
    let above_is : path (x ∷ m.nodes) (parent (x ∷ m.nodes) n) ≡ path m.nodes (parent m.nodes n) = ap (path (x ∷ m.nodes)) up_is ∙ path_old x m.nodes (parent m.nodes n) (parent_fits m.nodes n h.tree fits) in
    let on : on_way (x ∷ m.nodes) c n ≡ on_way m.nodes (cursor m) n = way_new x m.nodes c n refl ∙ ap (λ t. t || on_way m.nodes (cursor m) n) (is_other n c (λ z. omega arith)) in
    let P : List Event → Type 0 = IsAccepted m.config in
    record {
      up = up ∙ old.up ∙ sym up_is;
      last = last ∙ ap (λ o. cond (n == cursor m) (Some c) o) old.last ∙ sym (last_new m _ e n h.tree h.lasts);
      live = ap is_some back ∙ old.live ∙ sym (alive_old x m.nodes n fits);
      accepted = subst P (sym path_is) old.accepted;
      back = λ r s. (
          let B : machines.Kept → Type 0 = λ y. Leads (on_way m.nodes (cursor m) n) r y (kept_after m.config (path m.nodes (parent m.nodes n))) in
          let C : machines.Kept → Type 0 = λ y. Leads (on_way m.nodes (cursor m) n) r (kept_after m.config (path (x ∷ m.nodes) n)) y in
          let W : Bool → Type 0 = λ t. Leads t r (kept_after m.config (path (x ∷ m.nodes) n)) (kept_after m.config (path (x ∷ m.nodes) (parent (x ∷ m.nodes) n))) in
          subst W (sym on) (subst C (ap (kept_after m.config) (sym above_is)) (subst B (ap (kept_after m.config) (sym path_is)) (old.back r (sym back ∙ s)))));
    }

-- where each node on the cursor's way stands, so it is on the way of a new node
pub way_done : (m : History) (e : Event) → IsTree m.nodes → IsWalk m.nodes m.walk → ((n : ℕ) → on_way m.nodes (cursor m) n ≡ true → alive m.nodes n ≡ true)
    → (y : ℕ) → on_way (node_of m e ∷ m.nodes) (length m.nodes + 1) y ≡ true → alive (node_of m e ∷ m.nodes) y ≡ true
way_done m e tree walk way y on = of (eqb_tells y (length m.nodes + 1))
  where
    of : (((y == (length m.nodes + 1)) ≡ true) × (y ≡ length m.nodes + 1)) ⊎ (((y == (length m.nodes + 1)) ≡ false) × (y ≢ length m.nodes + 1)) → alive (node_of m e ∷ m.nodes) y ≡ true
    of (inl k) = alive_new (node_of m e) m.nodes y k.1
    of (inr k) = (
        let before : on_way m.nodes (cursor m) y ≡ true = sym (way_new (node_of m e) m.nodes (length m.nodes + 1) y refl ∙ ap (λ t. t || on_way m.nodes (cursor m) y) k.0) ∙ on in
        let f = walk_ends m.nodes m.walk tree walk in
        let b = way_below m.nodes (cursor m) y tree f before in
        alive_old (node_of m e) m.nodes y (omega arith) ∙ way y before)

-- an old node stands in the tree with one more node
stood : (x : Node) (nodes : List Node) (n : ℕ) → n ≤ length nodes → ((n == 0) || alive nodes n) ≡ true → ((n == 0) || alive (x ∷ nodes) n) ≡ true
stood x nodes n fits h = ap (λ b. (n == 0) || b) (alive_old x nodes n fits) ∙ h

-- the node where a walk ends stands, if its way does
pub end_stands : (nodes : List Node) (c : ℕ) → IsTree nodes → c ≤ length nodes → ((n : ℕ) → on_way nodes c n ≡ true → alive nodes n ≡ true) → ((c == 0) || alive nodes c) ≡ true
end_stands nodes zero tree fits way = refl
end_stands nodes (suc c) tree fits way = ap (λ b. b || alive nodes (suc c)) (is_other (suc c) 0 (λ e. omega arith)) ∙ way (suc c) (way_self nodes (suc c) tree (omega arith) fits)

-- each node that stands is under one that stands, also the new one
pub whole_done : (m : History) (e : Event) → IsTree m.nodes → IsWalk m.nodes m.walk → ((n : ℕ) → on_way m.nodes (cursor m) n ≡ true → alive m.nodes n ≡ true)
    → ((n : ℕ) → alive m.nodes n ≡ true → ((parent m.nodes n == 0) || alive m.nodes (parent m.nodes n)) ≡ true)
    → (n : ℕ) → alive (node_of m e ∷ m.nodes) n ≡ true → ((parent (node_of m e ∷ m.nodes) n == 0) || alive (node_of m e ∷ m.nodes) (parent (node_of m e ∷ m.nodes) n)) ≡ true
whole_done m e tree walk way whole n up = of (newest n (length m.nodes) (let f = alive_fits (node_of m e ∷ m.nodes) n up in omega arith))
  where
    of : (n ≡ length m.nodes + 1) ⊎ (n ≤ length m.nodes) → ((parent (node_of m e ∷ m.nodes) n == 0) || alive (node_of m e ∷ m.nodes) (parent (node_of m e ∷ m.nodes) n)) ≡ true
    of (inl k) = (let f = walk_ends m.nodes m.walk tree walk in
        ap (λ p. (p == 0) || alive (node_of m e ∷ m.nodes) p) (parent_new (node_of m e) m.nodes n k) ∙ stood (node_of m e) m.nodes (cursor m) f (end_stands m.nodes (cursor m) tree f way))
    of (inr k) = (let old : alive m.nodes n ≡ true = sym (alive_old (node_of m e) m.nodes n k) ∙ up in
        ap (λ p. (p == 0) || alive (node_of m e ∷ m.nodes) p) (parent_old (node_of m e) m.nodes n k) ∙ stood (node_of m e) m.nodes (parent m.nodes n) (parent_fits m.nodes n tree k) (whole n old))

grew : (j new : Kept) (m : History) {aim : List Move} (e : Event) (a : Answer) (u : Scene) (b : Back) (d : Row) → (h : Aims j m aim)
    → next m.config (accepted_here j m d h).scene e ≡ Ok (a, u) → Shows new.machine u → new.machine.config ≡ j.machine.config → Trades b new.machine j.machine
    → new.rows ≡ grown j.rows j.cursor b d → new.cursor ≡ length j.rows → new.depth ≡ j.depth + 1 → new.nodes ≡ j.nodes → new.marks ≡ j.marks
    → Aims new (done e m) (Down (length m.nodes + 1) ∷ aim)
unfolding done at
grew j new m {aim = aim} e a u b d h gives shows config trades rows_are cursor_is depth_is limit_is marks_are =
    let x : Node = node_of m e in
    let n : ℕ = length m.nodes + 1 in
    let size = h.size in
    let f = cursor_fits j m _ h in
    let p = h.place in
    let config_here : new.machine.config ≡ m.config = config ∙ config_is j m h in
    let old : IsAccepted m.config (here m) = accepted_here j m d h in
    let accepted : IsAccepted m.config (here m ++ e ∷ []) = accepted_push m.config (here m) old e new.machine a u gives shows config_here in
    let arrives : new.machine ≡ kept_after m.config (here m ++ e ∷ []) = grown_is m.config (here m) old e new.machine a u gives shows config_here in
    let path_is : path (x ∷ m.nodes) n ≡ here m ++ e ∷ [] = path_new x m.nodes n refl in
    let R : List Row → Type 0 = λ rows. (y : ℕ) (z : Row) → y ≤ length (x ∷ m.nodes) → IsRow (done e m) (Down (length m.nodes + 1) ∷ aim) n y (slice_index_or rows y z) in
    let walks : IsWalk (x ∷ m.nodes) (Down n ∷ m.walk) = (omega arith, omega arith, parent_new x m.nodes n refl ∙ sym (at_grown x m.nodes m.walk h.tree h.walk), walk_grown x m.nodes m.walk h.tree h.walk) in
    record {
      limit = limit_is ∙ h.limit;
      tree = (f, h.tree);
      walk = walks;
      lasts = (omega arith, omega arith, aims_grown x m.nodes aim h.lasts);
      size = ap length rows_are ∙ pushed_length j.rows j.cursor (row_of j.cursor b (slice_index_or j.rows j.cursor d).first) (with_child (slice_index_or j.rows j.cursor d) (length j.rows)) ∙ omega arith;
      place = cursor_is ∙ h.size;
      deep = (let q = ap length path_is in let l = length-append (here m) (e ∷ []) in let k = h.deep in omega arith);
      shows = arrives ∙ ap (kept_after m.config) (sym path_is);
      names = marks_are ∙ h.names;
      whole = whole_done m e h.tree h.walk h.way h.whole;
      way = λ y on. way_done m e h.tree h.walk h.way y on;
      each = subst R (sym rows_are) (λ y z below. each_grown accepted arrives y z (eqb_tells y n) (eqb_tells y (cursor m)) below);
    }
  where
    each_grown : IsAccepted m.config (here m ++ e ∷ []) → new.machine ≡ kept_after m.config (here m ++ e ∷ []) → (y : ℕ) (z : Row)
        → (((y == (length m.nodes + 1)) ≡ true) × (y ≡ length m.nodes + 1)) ⊎ (((y == (length m.nodes + 1)) ≡ false) × (y ≢ length m.nodes + 1))
        → (((y == cursor m) ≡ true) × (y ≡ cursor m)) ⊎ (((y == cursor m) ≡ false) × (y ≢ cursor m))
        → y ≤ length (node_of m e ∷ m.nodes) → IsRow (done e m) (Down (length m.nodes + 1) ∷ aim) (length m.nodes + 1) y (slice_index_or (grown j.rows j.cursor b d) y z)
    each_grown accepted arrives y z (inl k) o below = (
        let r = row_new j m e b new.machine (slice_index_or j.rows j.cursor d).first h accepted arrives trades in
        let s = h.size in let f = cursor_fits j m _ h in let p = h.place in
        let P : ℕ → Type 0 = λ q. IsRow (done e m) (Down (length m.nodes + 1) ∷ aim) (length m.nodes + 1) q (row_of j.cursor b (slice_index_or j.rows j.cursor d).first) in
        let Q : Row → Type 0 = λ q. IsRow (done e m) (Down (length m.nodes + 1) ∷ aim) (length m.nodes + 1) y q in
        subst Q (sym (pushed_there j.rows j.cursor y (row_of j.cursor b (slice_index_or j.rows j.cursor d).first) (with_child (slice_index_or j.rows j.cursor d) (length j.rows)) z (omega arith) (omega arith))) (subst P (sym k.1) r))
    each_grown accepted arrives y z (inr k) (inl o) below = (
        let s = h.size in let f = cursor_fits j m _ h in let p = h.place in let t = k.1 in let v = o.1 in
        let old = h.each y d (omega arith) in
        let same : slice_index_or j.rows j.cursor d ≡ slice_index_or j.rows y d = ap (λ i. slice_index_or j.rows i d) (h.place ∙ sym o.1) in
        let Q : Row → Type 0 = λ q. IsRow (done e m) (Down (length m.nodes + 1) ∷ aim) (length m.nodes + 1) y q in
        subst Q (sym (pushed_set j.rows j.cursor y (row_of j.cursor b (slice_index_or j.rows j.cursor d).first) (with_child (slice_index_or j.rows j.cursor d) (length j.rows)) z (omega arith) (omega arith)))
        (row_old j m e y (slice_index_or j.rows y d) (with_child (slice_index_or j.rows j.cursor d) (length j.rows)) h (omega arith) old (ap (λ (q : Row). q.parent) same) (ap (λ (q : Row). q.back) same)
        (ap child_of_number h.size ∙ some_child (length m.nodes + 1) (omega arith) ∙ sym (ap (λ t. cond t (Some (length m.nodes + 1)) (child_of_number (slice_index_or j.rows y d).last)) o.0))))
    each_grown accepted arrives y z (inr k) (inr o) below = (
        let s = h.size in let f = cursor_fits j m _ h in let p = h.place in let t = k.1 in
        let fits : y ≤ length m.nodes = omega arith in
        let old = h.each y z fits in
        let Q : Row → Type 0 = λ q. IsRow (done e m) (Down (length m.nodes + 1) ∷ aim) (length m.nodes + 1) y q in
        subst Q (sym (pushed_elsewhere j.rows j.cursor y (row_of j.cursor b (slice_index_or j.rows j.cursor d).first) (with_child (slice_index_or j.rows j.cursor d) (length j.rows)) z (omega arith) (λ q. o.1 (q ∙ h.place))))
        (row_old j m e y (slice_index_or j.rows y z) (slice_index_or j.rows y z) h fits old refl refl
        (sym (ap (λ t. cond t (Some (length m.nodes + 1)) (child_of_number (slice_index_or j.rows y z).last)) o.0))))

not_full : (limit size : ℕ) → size < limit → nat_le limit size ≡ false
not_full limit size h = grind (arith, nat_tests)

is_full : (limit size : ℕ) → limit ≤ size → nat_le limit size ≡ true
is_full limit size h = grind (arith, nat_tests)

do_is : (m : History) (e : Event) (old : IsAccepted m.config (here m)) → length m.nodes < m.config.nodes → do_event e m ≡ answered e m (next m.config old.scene e)
unfolding do_event
do_is m e old room =
    ap (λ b. cond b (Err Full) (answered e m (next m.config (scene_at m) e))) (not_full m.config.nodes (length m.nodes) room) ∙ ap (λ o. answered e m (next m.config (scene_or m.config o) e)) old.runs

pub full_is : (m : History) (e : Event) → m.config.nodes ≤ length m.nodes → do_event e m ≡ Err Full
unfolding do_event
full_is m e h = ap (λ b. cond b (Err Full) (answered e m (next m.config (scene_at m) e))) (is_full m.config.nodes (length m.nodes) h)

-- what the machine accepts where there is room
pub accepted_is : (j : Kept) (new : machines.Kept) (m : History) {aim : List Move} (e : Event) (a : Answer) (b : Back) (d : Row) → (h : Aims j m aim) → length m.nodes < m.config.nodes
    → ((t : Scene) → Shows j.machine t → Accepts j.machine new a b (next j.machine.config t e)) → do_event e m ≡ Ok (a, done e m)
accepted_is j new m e a b d h room accepts =
    let s = accepted_here j m d h in
    do_is m e s room ∙ ap (answered e m) (ap (λ q. next q s.scene e) (sym (config_is j m h)) ∙ (accepts s.scene (shows_here j m d h)).gives)

-- an accepted event
pub applied : (j new : Kept) (m : History) {aim : List Move} (e : Event) (a : Answer) (b : Back) (d : Row) → (h : Aims j m aim) → length m.nodes < m.config.nodes
    → ((t : Scene) → Shows j.machine t → Accepts j.machine new.machine a b (next j.machine.config t e))
    → new.rows ≡ grown j.rows j.cursor b d → new.cursor ≡ length j.rows → new.depth ≡ j.depth + 1 → new.nodes ≡ j.nodes → new.marks ≡ j.marks
    → Aims new (done e m) (Down (length m.nodes + 1) ∷ aim) × (do_event e m ≡ Ok (a, done e m))
applied j new m e a b d h room accepts rows_are cursor_is depth_is limit_is marks_are =
    let s = accepted_here j m d h in
    let x = accepts s.scene (shows_here j m d h) in
    let gives : next m.config s.scene e ≡ Ok (a, x.after) = ap (λ q. next q s.scene e) (sym (config_is j m h)) ∙ x.gives in (
      grew j new m e a x.after b d h gives x.shows x.config x.back rows_are cursor_is depth_is limit_is marks_are,
      accepted_is j new.machine m e a b d h room accepts,
    )

ok_answered : (e : Event) (m : History) (d : Result (Answer × Scene) Refusal) → IsOk d → IsOk (answered e m d)
ok_answered e m (Ok r) h = refl
ok_answered e m (Err r) h = cc

-- a refused event
pub refused : (j : Kept) (new : machines.Kept) (m : History) {aim : List Move} (e : Event) (r : Refusal) (d : Row) → (h : Aims j m aim) → length m.nodes < m.config.nodes
    → ((t : Scene) → Shows j.machine t → Refuses j.machine new r (next j.machine.config t e)) → (new ≡ j.machine) × (r ≢ OutOfMemory → do_event e m ≡ Err r) × (r ≡ OutOfMemory → IsOk (do_event e m))
refused j new m e r d h room refuses =
    let s = accepted_here j m d h in
    let x = refuses s.scene (shows_here j m d h) in
    let P : Result (Answer × History) Refusal → Type 0 = IsOk in
    let Q : Result (Answer × Scene) Refusal → Type 0 = IsOk in
    let same = ap (λ q. next q s.scene e) (config_is j m h) in (
      x.same,
      λ o. do_is m e s room ∙ ap (answered e m) (sym same ∙ x.why o),
      λ o. subst P (sym (do_is m e s room)) (ok_answered e m (next m.config s.scene e) (subst Q same (x.late o))),
    )

-- the record of an accepted event leads back
pub trades_back : (j : Kept) (new : machines.Kept) (m : History) {aim : List Move} (e : Event) (a : Answer) (b : Back) (d : Row) → (h : Aims j m aim)
    → ((t : Scene) → Shows j.machine t → Accepts j.machine new a b (next j.machine.config t e)) → Trades b new j.machine
trades_back j new m e a b d h accepts = (accepts (accepted_here j m d h).scene (shows_here j m d h)).back

pub opens_with : (new : Kept) (c : Config) → new.machine.config ≡ c → Shows new.machine (opening c) → new.rows ≡ no_row ∷ [] → new.cursor ≡ 0 → new.depth ≡ 0 → new.nodes ≡ c.nodes → new.marks ≡ [] → Holds new (opened c)
unfolding at path on_way parent last_descent alive
opens_with new c config_is shows rows_are cursor_is depth_is limit_is marks_are = record {
  limit = limit_is;
  tree = tt;
  walk = tt;
  lasts = tt;
  size = ap length rows_are ∙ omega arith;
  place = cursor_is;
  deep = depth_is;
  shows = opens new.machine c config_is shows;
  names = marks_are;
  whole = λ n up. cc;
  way = λ n on. cc;
  each = λ n d below. (let z : n ≡ 0 = omega arith in
      let P : ℕ → List Row → Type 0 = λ q rows. IsRow (opened c) [] 0 q (slice_index_or rows q d) in
      subst (λ (rows : List Row). P n rows) (sym rows_are) (subst (λ (q : ℕ). P q (no_row ∷ [])) (sym z) (first d)));
}
  where
    first : (d : Row) → IsRow (opened c) [] 0 0 (slice_index_or (no_row ∷ []) 0 d)
    first d = record { up = refl; last = refl; live = refl; accepted = accepted_open new.machine c config_is shows; back = λ r e. cc }

-- the path of an accepted event
pub here_done : (m : History) (e : Event) → here (done e m) ≡ here m ++ e ∷ []
unfolding done at
here_done m e = path_new (node_of m e) m.nodes (length m.nodes + 1) refl

redone_none : (m : History) → redone 0 m ≡ Some m
unfolding redone
redone_none m = refl

child_done : (m : History) (e : Event) → IsTree m.nodes → IsWalk m.nodes m.walk → child (done e m) ≡ None
unfolding child done at
child_done m e tree walk = ap (if_alive (node_of m e ∷ m.nodes)) (none_new m m.walk e tree walk (descents_of m.nodes m.walk walk))

pub redo_done : (m : History) (e : Event) (k : ℕ) → IsTree m.nodes → IsWalk m.nodes m.walk → 0 < k → redo k (done e m) ≡ None
unfolding down_once
redo_done m e k tree walk some =
    let none : redone 1 (done e m) ≡ None = redone_more 0 (done e m) ∙ ap (λ o. then_go o down_once) (redone_none (done e m)) ∙ ap (option_map (down_to (done e m))) (child_done m e tree walk) in
    redo_none k (done e m) (redone_stops (done e m) 1 k (omega arith) none)
