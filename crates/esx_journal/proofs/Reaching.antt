-- What every history keeps that calls lead to.
use Rattle.std.proofs.Common.{◌≡◌, ◌≢◌, ℕ, zero, suc, ◌+◌, ◌≤◌, ◌==◌, Bool, true, false, cond, List, [], ◌∷◌, ◌++◌, length, refl, sym, ap, ◌∙◌, subst, arith, Option, Some, None, option_map, ◌⊎◌, inl, inr, Result, Ok, Err, is_some, nat_le, nat_lt}
use Rattle.std.proofs.lemmas.Bool.Decides.{eqb_tells}
use Rattle.esx_types.specs.declared.config.Config.{Config}
use Rattle.esx_events.specs.declared.event.Event.{Event}
use Rattle.esx_events.specs.declared.event.Answer.{Answer}
use Rattle.esx_events.specs.declared.event.Refusal.{Refusal}
use Rattle.esx_events.specs.declared.event.Refusal.TheVariants.{NoSuchNode, NameTaken, NoSuchName, OnPath, Full}
use Rattle.esx_model.specs.declared.scene.Scene.{Scene}
use Rattle.esx_model.specs.Replay.{opening, next, run, run_from, replay_of, shown_after}
use Rattle.esx_model.specs.Tree.{Node, alive, path, on_way, at, IsTree, IsWalk}
use Rattle.esx_model.specs.History.{History, cursor, here, opened, done, answered, do_event, scene_or, scene_at, book_at, undone, redone, undo, redo, jumped}
use Rattle.esx_model.specs.Branching.{stands, gone_to, goto, visit, mark, prune, dropped, standing_below, is_on_path}
use Rattle.esx_journal.specs.Marks.{node_named}
use Rattle.esx_journal.specs.Reached.{IsReached, Opened, Did, Undid, Redid, Went, Visited, Named, Pruned}
use Rattle.esx_journal.specs.Turns.{Shortens, Lengthens}
use Rattle.esx_journal.proofs.Names.{visit_some, visit_none, mark_taken, mark_free, with_name}
use Rattle.esx_journal.proofs.Ways.{Arrived, way_leads}
use Rattle.esx_journal.proofs.Sinking.{alive_of, goto_none, goto_some}
use Rattle.esx_journal.proofs.Pruning.{dropped_length, dropped_path, dropped_way, dropped_tree, dropped_at, dropped_walk, stands_after, still_stands, way_through, false_by}
use Rattle.esx_journal.proofs.Dropping.{without, off_path, prune_none, prune_refused, prune_done}
use Rattle.esx_journal.proofs.Paths.{alive_fits, way_zero, newest, parent_new, alive_old, path_new, path_old, way_old, way_below, way_same, walk_ends}
use Rattle.esx_journal.proofs.Runs.{run_one_more}
use Rattle.esx_journal.proofs.Steps.{IsChild, descents_of, is_child, child_by}
use Rattle.esx_journal.proofs.Moves.{redone_back}
use Rattle.esx_journal.proofs.Grows.{node_of, at_grown, walk_grown, way_done}
use Rattle.esx_journal.proofs.Back.{undone_is, at_ups, walk_ups, way_from_above, gone_up, undo_is, here_up}
use Rattle.esx_journal.proofs.Down.{redo_is}

-- a path that no event is refused on
pub record Runs (c : Config) (es : List Event) : Type 0 where
  pub scene : Scene
  pub runs : run c es ≡ Ok scene

-- a tree whose paths run, a walk on it, and ways that stand where their ends do
pub record IsSteady (c : Config) (m : History) : Type 0 where
  pub config : m.config ≡ c
  pub tree : IsTree m.nodes
  pub walk : IsWalk m.nodes m.walk
  pub paths : (n : ℕ) → n ≤ length m.nodes → Runs c (path m.nodes n)
  pub live : (n a : ℕ) → n ≤ length m.nodes → alive m.nodes n ≡ true → on_way m.nodes n a ≡ true → alive m.nodes a ≡ true
  pub way : (n : ℕ) → on_way m.nodes (cursor m) n ≡ true → alive m.nodes n ≡ true

steady_open : (c : Config) → IsSteady c (opened c)
unfolding path run_from on_way
steady_open c = record { config = refl; tree = tt; walk = tt; paths = λ n fits. record { scene = opening c; runs = refl }; live = λ n a fits up on. cc; way = λ n on. cc }

steady_jumped : (c : Config) (m : History) → IsSteady c m → IsSteady c (jumped m)
steady_jumped c m s = record { config = s.config; tree = s.tree; walk = s.walk; paths = s.paths; live = s.live; way = s.way }

steady_up : (c : Config) (m : History) (k : ℕ) → IsSteady c m → IsSteady c (undone k m)
steady_up c m k s = (let P : History → Type 0 = IsSteady c in
    subst P (sym (undone_is k m)) (record {
      config = s.config;
      tree = s.tree;
      walk = walk_ups m.nodes k m.walk s.walk;
      paths = s.paths;
      live = s.live;
      way = λ n on. s.way n (way_from_above m.nodes k (cursor m) n s.tree (walk_ends m.nodes m.walk s.tree s.walk) (ap (λ x. on_way m.nodes x n) (sym (at_ups m.nodes k m.walk)) ∙ on));
    }))

-- the way of a child that stands
way_down : (m : History) (n y : ℕ) → IsTree m.nodes → IsChild m m.walk n → ((a : ℕ) → on_way m.nodes (cursor m) a ≡ true → alive m.nodes a ≡ true) → on_way m.nodes n y ≡ true → alive m.nodes y ≡ true
way_down m n y tree k way on = of (eqb_tells y n)
  where
    of : (((y == n) ≡ true) × (y ≡ n)) ⊎ (((y == n) ≡ false) × (y ≢ n)) → alive m.nodes y ≡ true
    of (inl e) = ap (alive m.nodes) e.1 ∙ k.live
    of (inr e) = way y (ap (λ x. on_way m.nodes x y) (sym k.up) ∙ sym (way_same m.nodes n y tree k.some k.fits e.1) ∙ on)

steady_down : (c : Config) (k : ℕ) (m w : History) → IsSteady c m → redone k m ≡ Some w → IsSteady c w
unfolding redone at
steady_down c zero m w s e = (let same : m ≡ w = cc in let P : History → Type 0 = IsSteady c in subst P same s)
steady_down c (suc k) m w s e =
    let i : k + 1 ≡ suc k = omega arith in
    let last = redone_back m w k (ap (λ x. redone x m) i ∙ e) in
    let before = steady_down c k m last.before s last.gives in
    let n = is_child last.before last.before.walk last.node (descents_of last.before.nodes last.before.walk before.walk) (child_by last.before last.node last.is) in
    let P : History → Type 0 = IsSteady c in
    subst P last.same (record {
      config = before.config;
      tree = before.tree;
      walk = (n.some, n.fits, n.up, before.walk);
      paths = before.paths;
      live = before.live;
      way = λ y on. way_down last.before last.node y before.tree n before.way on;
    })

-- the cursor's path runs to its scene
pub runs_here : (c : Config) (m : History) → IsSteady c m → run m.config (here m) ≡ Ok (scene_at m)
runs_here c m s =
    let r = s.paths (cursor m) (walk_ends m.nodes m.walk s.tree s.walk) in
    let there : run m.config (here m) ≡ Ok r.scene = ap (λ x. run x (here m)) s.config ∙ r.runs in
    there ∙ ap (λ o. Ok (scene_or m.config o)) (sym there)

steady_done : (c : Config) (m : History) (e : Event) (a : Answer) (u : Scene) → IsSteady c m → next m.config (scene_at m) e ≡ Ok (a, u) → IsSteady c (done e m)
unfolding done at
steady_done c m e a u s n =
    let x : Node = record { parent = cursor m; event = e; alive = true } in
    let fits = walk_ends m.nodes m.walk s.tree s.walk in
    let size : ℕ = length m.nodes + 1 in
    record {
      config = s.config;
      tree = (fits, s.tree);
      walk = (omega arith, omega arith, parent_new x m.nodes size refl ∙ sym (at_grown x m.nodes m.walk s.tree s.walk), walk_grown x m.nodes m.walk s.tree s.walk);
      paths = λ y below. of y (newest y (length m.nodes) (omega arith));
      live = λ y b below up on. stands y b (newest y (length m.nodes) (omega arith)) up on;
      way = λ y on. way_done m e s.tree s.walk s.way y on;
    }
  where
    stands : (y b : ℕ) → (y ≡ length m.nodes + 1) ⊎ (y ≤ length m.nodes) → alive (node_of m e ∷ m.nodes) y ≡ true → on_way (node_of m e ∷ m.nodes) y b ≡ true → alive (node_of m e ∷ m.nodes) b ≡ true
    stands y b (inl k) up on = way_done m e s.tree s.walk s.way b (ap (λ x. on_way (node_of m e ∷ m.nodes) x b) (sym k) ∙ on)
    stands y b (inr k) up on = (
        let before : on_way m.nodes y b ≡ true = sym (way_old (node_of m e) m.nodes y b k) ∙ on in
        let under = way_below m.nodes y b s.tree k before in
        alive_old (node_of m e) m.nodes b (omega arith) ∙ s.live y b k (sym (alive_old (node_of m e) m.nodes y k) ∙ up) before)

    grown : Runs c (here m ++ e ∷ [])
    grown = (let r = s.paths (cursor m) (walk_ends m.nodes m.walk s.tree s.walk) in
        let scene_is : scene_at m ≡ r.scene = ap (λ k. scene_or k (run k (here m))) s.config ∙ ap (scene_or c) r.runs in
        let first : next c r.scene e ≡ Ok (a, u) = ap (λ k. next k r.scene e) (sym s.config) ∙ ap (λ t. next m.config t e) (sym scene_is) ∙ n in
        record { scene = u; runs = run_one_more c (here m) e r.scene u a r.runs first })

    of : (y : ℕ) → (y ≡ length m.nodes + 1) ⊎ (y ≤ length m.nodes) → Runs c (path (record { parent = cursor m; event = e; alive = true } ∷ m.nodes) y)
    of y (inl k) = (let P : List Event → Type 0 = Runs c in subst P (sym (path_new (record { parent = cursor m; event = e; alive = true }) m.nodes y k)) grown)
    of y (inr k) = (let P : List Event → Type 0 = Runs c in subst P (sym (path_old (record { parent = cursor m; event = e; alive = true }) m.nodes y k)) (s.paths y k))

-- what an accepted event is
pub did_is : (m after : History) (e : Event) (a : Answer) → do_event e m ≡ Ok (a, after) → (u : Scene) × (next m.config (scene_at m) e ≡ Ok (a, u)) × (done e m ≡ after)
unfolding do_event
did_is m after e a h = of (nat_le m.config.nodes (length m.nodes)) h
  where
    next_is : (r : Result (Answer × Scene) Refusal) → next m.config (scene_at m) e ≡ r → answered e m r ≡ Ok (a, after) → (u : Scene) × (next m.config (scene_at m) e ≡ Ok (a, u)) × (done e m ≡ after)
    next_is (Err x) n q = cc
    next_is (Ok x) n q = (let pair : (x.0, done e m) ≡ (a, after) = cc in
        let same : x.0 ≡ a = ap (λ (p : Answer × History). p.0) pair in
        (x.1, n ∙ ap (λ y. Ok (y, x.1)) same, ap (λ (p : Answer × History). p.1) pair))

    of : (b : Bool) → cond b (Err Full) (answered e m (next m.config (scene_at m) e)) ≡ Ok (a, after) → (u : Scene) × (next m.config (scene_at m) e ≡ Ok (a, u)) × (done e m ≡ after)
    of true q = cc
    of false q = next_is (next m.config (scene_at m) e) refl q

steady_did : (c : Config) (m after : History) (e : Event) (a : Answer) → IsSteady c m → do_event e m ≡ Ok (a, after) → IsSteady c after
steady_did c m after e a s h = (let d = did_is m after e a h in let P : History → Type 0 = IsSteady c in subst P d.2 (steady_done c m e a d.0 s d.1))

steady_undid : (c : Config) (m after : History) (k : ℕ) → IsSteady c m → undo k m ≡ Some after → IsSteady c after
unfolding undo
steady_undid c m after k s h = of (nat_lt (length (here m)) k) h
  where
    of : (b : Bool) → cond b None (Some (jumped (undone k m))) ≡ Some after → IsSteady c after
    of true q = cc
    of false q = (let same : jumped (undone k m) ≡ after = cc in let P : History → Type 0 = IsSteady c in subst P same (steady_jumped c (undone k m) (steady_up c m k s)))

steady_redid : (c : Config) (m after : History) (k : ℕ) → IsSteady c m → redo k m ≡ Some after → IsSteady c after
unfolding redo
steady_redid c m after k s h = of (redone k m) refl h
  where
    of : (o : Option History) → redone k m ≡ o → option_map jumped o ≡ Some after → IsSteady c after
    of None e q = cc
    of (Some w) e q = (let same : jumped w ≡ after = cc in let P : History → Type 0 = IsSteady c in subst P same (steady_jumped c w (steady_down c k m w s e)))

-- the way to a node that stands
stands_way : (c : Config) (m : History) (n : ℕ) → IsSteady c m → stands m n ≡ true → (a : ℕ) → on_way m.nodes n a ≡ true → alive m.nodes a ≡ true
stands_way c m zero s up a on = (let z = sym (way_zero m.nodes a) ∙ on in cc)
stands_way c m (suc n) s up a on = (let live = alive_of m.nodes (suc n) (omega arith) up in s.live (suc n) a (alive_fits m.nodes (suc n) live) live on)

stands_fits : (m : History) (n : ℕ) → stands m n ≡ true → n ≤ length m.nodes
stands_fits m zero up = omega arith
stands_fits m (suc n) up = alive_fits m.nodes (suc n) (alive_of m.nodes (suc n) (omega arith) up)

-- the shortest way leads to the node
pub goes_there : (c : Config) (m : History) (n : ℕ) → IsSteady c m → stands m n ≡ true → Arrived m.nodes (gone_to n m).walk n
goes_there c m n s up = (let f = walk_ends m.nodes m.walk s.tree s.walk in
    way_leads m.nodes (cursor m + n) (cursor m) n m.walk s.tree (omega arith) f (stands_fits m n up) refl s.walk)

pub steady_gone : (c : Config) (m : History) (n : ℕ) → IsSteady c m → stands m n ≡ true → IsSteady c (gone_to n m)
steady_gone c m n s up = (let there = goes_there c m n s up in record {
  config = s.config;
  tree = s.tree;
  walk = there.walks;
  paths = s.paths;
  live = s.live;
  way = λ a on. stands_way c m n s up a (ap (λ x. on_way m.nodes x a) (sym there.ends) ∙ on);
})

-- what an accepted goto is
pub gone_is : (m after : History) (n : ℕ) → goto n m ≡ Ok after → (stands m n ≡ true) × (jumped (gone_to n m) ≡ after)
gone_is m after n h = of (stands m n) refl
  where
    of : (b : Bool) → stands m n ≡ b → (stands m n ≡ true) × (jumped (gone_to n m) ≡ after)
    of true e = (e, (let q : Ok (jumped (gone_to n m)) ≡ Ok after = sym (goto_some n m e) ∙ h in cc))
    of false e = (let q : Err NoSuchNode ≡ Ok after = sym (goto_none n m e) ∙ h in cc)

steady_went : (c : Config) (m after : History) (n : ℕ) → IsSteady c m → goto n m ≡ Ok after → IsSteady c after
steady_went c m after n s h = (let g = gone_is m after n h in let P : History → Type 0 = IsSteady c in subst P g.1 (steady_jumped c (gone_to n m) (steady_gone c m n s g.0)))

steady_visited : (c : Config) (m after : History) (name : List ℕ) → IsSteady c m → visit name m ≡ Ok after → IsSteady c after
steady_visited c m after name s h = of (node_named name m.marks) refl
  where
    of : (o : Option ℕ) → node_named name m.marks ≡ o → IsSteady c after
    of None e = (let q : Err NoSuchName ≡ Ok after = sym (visit_none name m e) ∙ h in cc)
    of (Some n) e = steady_went c m after n s (sym (visit_some name m n e) ∙ h)

-- what an accepted mark is
pub named_is : (m after : History) (name : List ℕ) → mark name m ≡ Ok after → (is_some (node_named name m.marks) ≡ false) × (with_name name m ≡ after)
named_is m after name h = of (is_some (node_named name m.marks)) refl
  where
    of : (b : Bool) → is_some (node_named name m.marks) ≡ b → (is_some (node_named name m.marks) ≡ false) × (with_name name m ≡ after)
    of true e = (let q : Err NameTaken ≡ Ok after = sym (mark_taken name m e) ∙ h in cc)
    of false e = (e, (let q : Ok (with_name name m) ≡ Ok after = sym (mark_free name m e) ∙ h in cc))

steady_named : (c : Config) (m after : History) (name : List ℕ) → IsSteady c m → mark name m ≡ Ok after → IsSteady c after
steady_named c m after name s h = (let P : History → Type 0 = IsSteady c in
    subst P (named_is m after name h).1 (record { config = s.config; tree = s.tree; walk = s.walk; paths = s.paths; live = s.live; way = s.way }))

refused_twice : (r : Refusal) (p : ℕ × History) (d : Result (ℕ × History) Refusal) → d ≡ Err r → d ≡ Ok p → ⊥
refused_twice r p d e h = (let q : Err r ≡ Ok p = sym e ∙ h in cc)

-- what an accepted prune is
pub pruned_is : (m after : History) (n k : ℕ) → prune n m ≡ Ok (k, after) → (is_on_path m n ≡ false) × (standing_below n m.nodes ≡ k) × (without n m ≡ after)
pruned_is m after n k h = of (stands m n) refl (is_on_path m n) refl
  where
    of : (a : Bool) → stands m n ≡ a → (b : Bool) → is_on_path m n ≡ b → (is_on_path m n ≡ false) × (standing_below n m.nodes ≡ k) × (without n m ≡ after)
    of false e b f = absurd (refused_twice NoSuchNode (k, after) (prune n m) (prune_none n m e) h)
    of true e true f = absurd (refused_twice OnPath (k, after) (prune n m) (prune_refused n m e f) h)
    of true e false f = (let q : Ok (standing_below n m.nodes, without n m) ≡ Ok (k, after) = sym (prune_done n m e f) ∙ h in
        let pair : (standing_below n m.nodes, without n m) ≡ (k, after) = cc in
        (f, ap (λ (p : ℕ × History). p.0) pair, ap (λ (p : ℕ × History). p.1) pair))

steady_without : (c : Config) (m : History) (n : ℕ) → IsSteady c m → on_way m.nodes (cursor m) n ≡ false → IsSteady c (without n m)
steady_without c m n s off =
    let l = dropped_length n m.nodes in
    let here_fits = walk_ends m.nodes m.walk s.tree s.walk in
    let P : List Event → Type 0 = Runs c in
    record {
      config = s.config;
      tree = dropped_tree n m.nodes s.tree;
      walk = dropped_walk n m.nodes m.walk s.walk;
      paths = λ y f. subst P (sym (dropped_path n m.nodes y)) (s.paths y (omega arith));
      live = λ y a f up on. (
          let was = stands_after n m.nodes y up in
          let before : on_way m.nodes y a ≡ true = sym (dropped_way n m.nodes y a) ∙ on in
          let fits = alive_fits m.nodes y was.0 in
          still_stands n m.nodes a (s.live y a fits was.0 before) (false_by (on_way m.nodes a n) (λ w. (let z = sym was.1 ∙ way_through m.nodes y a n s.tree fits before w in cc))));
      way = λ y on. (
          let before : on_way m.nodes (cursor m) y ≡ true = sym (dropped_way n m.nodes (cursor m) y) ∙ ap (λ x. on_way (dropped n m.nodes) x y) (sym (dropped_at n m.nodes m.walk)) ∙ on in
          still_stands n m.nodes y (s.way y before) (false_by (on_way m.nodes y n) (λ w. (let z = sym off ∙ way_through m.nodes (cursor m) y n s.tree here_fits before w in cc))));
    }

steady_pruned : (c : Config) (m after : History) (n k : ℕ) → IsSteady c m → prune n m ≡ Ok (k, after) → IsSteady c after
steady_pruned c m after n k s h = (let p = pruned_is m after n k h in let P : History → Type 0 = IsSteady c in subst P p.2 (steady_without c m n s (off_path m n p.0).1))

pub reached_steady : (c : Config) (m : History) → IsReached c m → IsSteady c m
reached_steady c m Opened = steady_open c
reached_steady c m (Did e a h after r q) = steady_did c h m e a (reached_steady c h r) q
reached_steady c m (Undid k h after r q) = steady_undid c h m k (reached_steady c h r) q
reached_steady c m (Redid k h after r q) = steady_redid c h m k (reached_steady c h r) q
reached_steady c m (Went n h after r q) = steady_went c h m n (reached_steady c h r) q
reached_steady c m (Visited name h after r q) = steady_visited c h m name (reached_steady c h r) q
reached_steady c m (Named name h after r q) = steady_named c h m name (reached_steady c h r) q
reached_steady c m (Pruned n k h after r q) = steady_pruned c h m n k (reached_steady c h r) q

-- the replay of the cursor's path
pub replayed_here : (c : Config) (m : History) → IsSteady c m → replay_of m.config (here m) ≡ Ok (book_at m)
replayed_here c m s = ap (shown_after m.config) (runs_here c m s)

-- an undo from a reached history
pub shortens : (c : Config) (m : History) (k : ℕ) → IsReached c m → k ≤ length (here m) → Shortens m k
shortens c m k r deep =
    let s = reached_steady c m r in
    let there : undo k m ≡ Some (gone_up k m) = undo_is k m deep in
    let is = here_up m k s.tree s.walk deep in
    record {
      after = gone_up k m;
      accepted = there;
      rest = refl;
      node = at_ups m.nodes k m.walk;
      events = is;
      book = ap (replay_of m.config) (sym is) ∙ replayed_here c (gone_up k m) (reached_steady c (gone_up k m) (Undid k m (gone_up k m) r there));
    }

-- a redo from a reached history
pub lengthens : (c : Config) (m after : History) (k : ℕ) → IsReached c m → redo k m ≡ Some after → Lengthens m after k
lengthens c m after k r e =
    let s = reached_steady c m r in
    let d = redo_is k m after s.tree s.walk e in
    let b = d.below in
    let is : after ≡ record m { walk = b.walk; jumps = m.jumps + 1 } = d.is ∙ ap jumped b.is in
    let P : History → Type 0 = IsSteady c in
    let there : IsSteady c (record m { walk = b.walk; jumps = m.jumps + 1 }) = subst P is (reached_steady c after (Redid k m after r e)) in
    let Q : History → Type 0 = λ x. Lengthens m x k in
    subst Q (sym is) (record {
      more = b.more;
      many = b.many;
      rest = refl;
      node = b.node;
      standing = there.way;
      events = b.events;
      book = ap (replay_of m.config) (sym b.events) ∙ replayed_here c (record m { walk = b.walk; jumps = m.jumps + 1 }) there;
    })
