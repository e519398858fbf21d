-- Undos and redos keep the last descents, and these with the depth tell the node.
use Rattle.std.proofs.Common.{◌≡◌, ℕ, zero, suc, ◌+◌, ◌-◌, ◌≤◌, Bool, true, false, cond, List, [], ◌∷◌, length, length-append, refl, sym, ap, ◌∙◌, subst, arith, Option, Some, None, sum_by, nat_lt}
use Rattle.std.proofs.lemmas.List.{length-take-le}
use Rattle.std.proofs.lemmas.List.Sums.{sum_by-cons}
use Rattle.std.proofs.lemmas.Bool.Decides.{nat_tests}
use Rattle.esx_model.specs.Replay.{run}
use Rattle.esx_model.specs.Show.{shown}
use Rattle.esx_model.specs.Tree.{Node, Move, parent, alive, path, on_way, at, last_descent, IsTree, IsWalk}
use Rattle.esx_model.specs.History.{History, cursor, here, scene_or, if_alive, undone, undo, redone, redo, jumped, then_go}
use Rattle.esx_journal.specs.Turns.{Turn, Undo, Redo, turned, back, forward, above, OnlyMoves, IsSamePlace, LeadsTo}
use Rattle.esx_journal.proofs.Paths.{path_child, parent_fits, walk_ends}
use Rattle.esx_journal.proofs.Moves.{Looked, redo_some}
use Rattle.esx_journal.specs.Ways.{ups}
use Rattle.esx_journal.proofs.Back.{at_ups, lasts_ups, walk_ups, path_above, above_parent, way_up, last_on_way, looks_back, gone_up, undo_is, here_up}
use Rattle.esx_journal.proofs.Down.{redo_is}

-- the node to which the last descent from a node went
pub descended : List Node → List Move → Option ℕ → Option ℕ
descended nodes walk None = None
descended nodes walk (Some n) = last_descent nodes walk n

-- so many last descents from the opening
pub below : List Node → List Move → ℕ → Option ℕ
below nodes walk zero = Some 0
below nodes walk (suc k) = descended nodes walk (below nodes walk k)

same_below : (nodes : List Node) (walk other : List Move) (k : ℕ) → ((n : ℕ) → last_descent nodes walk n ≡ last_descent nodes other n) → below nodes walk k ≡ below nodes other k
unfolding below descended
same_below nodes walk other zero same = refl
same_below nodes walk other (suc k) same = ap (descended nodes walk) (same_below nodes walk other k same) ∙ of (below nodes other k)
  where
    of : (o : Option ℕ) → descended nodes walk o ≡ descended nodes other o
    of None = refl
    of (Some n) = same n

pub above_fits : (nodes : List Node) (k c : ℕ) → IsTree nodes → c ≤ length nodes → above nodes k c ≤ length nodes
unfolding above
above_fits nodes zero c tree fits = fits
above_fits nodes (suc k) c tree fits = above_fits nodes k (parent nodes c) tree (parent_fits nodes c tree fits)

-- a node with no path is the opening
no_path : (nodes : List Node) (c : ℕ) → IsTree nodes → c ≤ length nodes → length (path nodes c) ≡ 0 → c ≡ 0
no_path nodes zero tree fits h = refl
no_path nodes (suc c) tree fits h =
    let long = path_child nodes (suc c) tree (omega arith) fits in
    let size = ap length long.1 in
    let l = length-append (path nodes (parent nodes (suc c))) (long.0 ∷ []) in
    absurd (omega arith)

-- last descents from the opening lead along the way of the cursor
below_on_way : (nodes : List Node) (walk : List Move) (k j : ℕ) → IsTree nodes → IsWalk nodes walk → k + j ≡ length (path nodes (at nodes walk)) → below nodes walk k ≡ Some (above nodes j (at nodes walk))
unfolding below above descended
below_on_way nodes walk zero j tree ok e =
    let c = at nodes walk in
    let fits = walk_ends nodes walk tree ok in
    let p = ap length (path_above nodes j c tree fits (omega arith)) in
    let l = length-take-le (length (path nodes c) - j) (path nodes c) (omega arith) in
    ap (λ x. Some x) (sym (no_path nodes (above nodes j c) tree (above_fits nodes j c tree fits) (omega arith)))
below_on_way nodes walk (suc k) j tree ok e =
    let c = at nodes walk in
    let y = above nodes j c in
    let before = below_on_way nodes walk k (suc j) tree ok (omega arith) in
    ap (descended nodes walk) (before ∙ ap (λ x. Some x) (above_parent nodes j c)) ∙ last_on_way nodes walk y tree ok (way_up nodes j c tree (walk_ends nodes walk tree ok) (omega arith))

-- equally deep, with the same last descents: the same node
pub same_node : (nodes : List Node) (walk other : List Move) → IsTree nodes → IsWalk nodes walk → IsWalk nodes other → ((n : ℕ) → last_descent nodes walk n ≡ last_descent nodes other n)
    → length (path nodes (at nodes walk)) ≡ length (path nodes (at nodes other)) → at nodes walk ≡ at nodes other
unfolding above
same_node nodes walk other tree ok fine same deep =
    let k = length (path nodes (at nodes walk)) in
    let a = below_on_way nodes walk k 0 tree ok (omega arith) in
    let b = below_on_way nodes other k 0 tree fine (omega arith) in
    let s : Some (at nodes walk) ≡ Some (at nodes other) = sym a ∙ same_below nodes walk other k same ∙ b in
    cc

-- where turns lead
pub record Turned (h : History) (turns : List Turn) (after : History) : Type 0 where
  pub walk : List Move
  pub jumps : ℕ
  pub is : after ≡ record h { walk = walk; jumps = jumps }
  pub walks : IsWalk h.nodes walk
  pub lasts : (n : ℕ) → last_descent h.nodes walk n ≡ last_descent h.nodes h.walk n
  pub count : jumps ≡ h.jumps + length turns
  pub depth : length (path h.nodes (at h.nodes walk)) + sum_by back turns ≡ length (here h) + sum_by forward turns

-- an accepted undo goes no further than the opening
pub undo_back : (k : ℕ) (h after : History) → undo k h ≡ Some after → (k ≤ length (here h)) × (after ≡ gone_up k h)
unfolding undo
undo_back k h after e = of (nat_lt (length (here h)) k) refl e
  where
    of : (b : Bool) → nat_lt (length (here h)) k ≡ b → cond b None (Some (jumped (undone k h))) ≡ Some after → (k ≤ length (here h)) × (after ≡ gone_up k h)
    of true t q = cc
    of false t q = (let deep : k ≤ length (here h) = grind (arith, nat_tests) in
        (deep, (let s : Some (gone_up k h) ≡ Some after = sym (undo_is k h deep) ∙ e in cc)))

depth_up : (h : History) (k : ℕ) → IsTree h.nodes → IsWalk h.nodes h.walk → k ≤ length (here h) → length (path h.nodes (at h.nodes (ups k h.walk))) + k ≡ length (here h)
depth_up h k tree walk deep =
    let p = ap length (here_up h k tree walk deep) in
    let l = length-take-le (length (here h) - k) (here h) (omega arith) in
    omega arith

pub turned_is : (turns : List Turn) (h after : History) → IsTree h.nodes → IsWalk h.nodes h.walk → turned turns h ≡ Some after → Turned h turns after
unfolding turned
turned_is [] h after tree walk e = (let same : h ≡ after = cc in
    record { walk = h.walk; jumps = h.jumps; is = sym same; walks = walk; lasts = λ n. refl; count = omega arith; depth = refl })
turned_is (Undo k ∷ later) h after tree walk e = of (undo k h) refl e (λ m. turned_is later m after)
  where
    of : (o : Option History) → undo k h ≡ o → then_go o (λ u. turned later u) ≡ Some after
        → ((m : History) → IsTree m.nodes → IsWalk m.nodes m.walk → turned later m ≡ Some after → Turned m later after) → Turned h (Undo k ∷ later) after
    of None g q more = cc
    of (Some u) g q more = (let b = undo_back k h u g in
        let rest = more (gone_up k h) tree (walk_ups h.nodes k h.walk walk) (ap (turned later) (sym b.1) ∙ q) in
        let up = depth_up h k tree walk b.0 in
        let backs = sum_by-cons back (Undo k) later in
        let forwards = sum_by-cons forward (Undo k) later in
        let count = rest.count in
        let depth = rest.depth in
        record {
          walk = rest.walk;
          jumps = rest.jumps;
          is = rest.is;
          walks = rest.walks;
          lasts = λ n. rest.lasts n ∙ lasts_ups h.nodes k h.walk n;
          count = omega arith;
          depth = omega arith;
        })
turned_is (Redo k ∷ later) h after tree walk e = of (redo k h) refl e (λ m. turned_is later m after)
  where
    of : (o : Option History) → redo k h ≡ o → then_go o (λ u. turned later u) ≡ Some after
        → ((m : History) → IsTree m.nodes → IsWalk m.nodes m.walk → turned later m ≡ Some after → Turned m later after) → Turned h (Redo k ∷ later) after
    of None g q more = cc
    of (Some u) g q more = (let r = redo_is k h u tree walk g in
        let b = r.below in
        let rest = more (record h { walk = b.walk; jumps = h.jumps + 1 }) tree b.walks (ap (turned later) (sym (r.is ∙ ap jumped b.is)) ∙ q) in
        let down = ap length b.events in
        let size = length-append (here h) b.more in
        let many = b.many in
        let backs = sum_by-cons back (Redo k) later in
        let forwards = sum_by-cons forward (Redo k) later in
        let count = rest.count in
        let depth = rest.depth in
        record {
          walk = rest.walk;
          jumps = rest.jumps;
          is = rest.is;
          walks = rest.walks;
          lasts = λ n. rest.lasts n ∙ b.lasts n;
          count = omega arith;
          depth = omega arith;
        })

-- one history with two walks that lead equally deep, by the same last descents
pub same_place : (h : History) (walk other : List Move) (i j : ℕ) → IsTree h.nodes → IsWalk h.nodes walk → IsWalk h.nodes other → ((n : ℕ) → last_descent h.nodes walk n ≡ last_descent h.nodes other n)
    → length (path h.nodes (at h.nodes walk)) ≡ length (path h.nodes (at h.nodes other)) → IsSamePlace (record h { walk = walk; jumps = i }) (record h { walk = other; jumps = j })
same_place h walk other i j tree ok fine same deep =
    let e = sym (same_node h.nodes walk other tree ok fine same deep) in
    record {
      rest = refl;
      node = e;
      events = ap (path h.nodes) e;
      book = ap (λ n. shown h.config (scene_or h.config (run h.config (path h.nodes n)))) e;
      descents = λ n. sym (same n);
    }

-- turns that lead equally deep
pub turns_same : (h after other : History) (turns others : List Turn) → IsTree h.nodes → IsWalk h.nodes h.walk → turned turns h ≡ Some after → turned others h ≡ Some other
    → length (here after) ≡ length (here other) → IsSamePlace after other
turns_same h after other turns others tree walk e f deep =
    let a = turned_is turns h after tree walk e in
    let b = turned_is others h other tree walk f in
    let P : History → Type 0 = λ x. length (here x) ≡ length (here other) → IsSamePlace x other in
    let Q : History → Type 0 = λ x. length (path h.nodes (at h.nodes a.walk)) ≡ length (here x) → IsSamePlace (record h { walk = a.walk; jumps = a.jumps }) x in
    subst P (sym a.is) (subst Q (sym b.is) (same_place h a.walk b.walk a.jumps b.jumps tree a.walks b.walks (λ n. a.lasts n ∙ sym (b.lasts n)))) deep

-- a redo of what is missing
pub redo_leads_home : (h after : History) (turns : List Turn) (k : ℕ) → IsTree h.nodes → IsWalk h.nodes h.walk → ((n : ℕ) → on_way h.nodes (cursor h) n ≡ true → alive h.nodes n ≡ true)
    → turned turns h ≡ Some after → sum_by back turns ≡ sum_by forward turns + k → LeadsTo (redo k after) h
unfolding redone
redo_leads_home h after turns k tree walk way e sums =
    let t = turned_is turns h after tree walk e in
    let depth = t.depth in
    let deep : k ≤ length (here h) = omega arith in
    let up = depth_up h k tree walk deep in
    let place : at h.nodes t.walk ≡ above h.nodes k (cursor h)
    = same_node h.nodes t.walk (ups k h.walk) tree t.walks (walk_ups h.nodes k h.walk walk) (λ n. t.lasts n ∙ sym (lasts_ups h.nodes k h.walk n)) (omega arith) ∙ at_ups h.nodes k h.walk in
    let w : History = record h { walk = t.walk; jumps = t.jumps } in
    let start : Looked w 0 (above h.nodes k (cursor h)) = record { walk = t.walk; gives = refl; place = place; lasts = λ n. refl; walks = t.walks } in
    let l : Looked w (k + 0) (cursor h) = looks_back w (cursor h) k 0 (λ i b.
    let y = above h.nodes i (cursor h) in
    let on = way_up h.nodes i (cursor h) tree (walk_ends h.nodes h.walk tree walk) (omega arith) in
    ap (if_alive h.nodes) (t.lasts (parent h.nodes y) ∙ last_on_way h.nodes h.walk y tree walk on) ∙ ap (λ b. cond b (Some y) None) (way y on)) start in
    let all : k ≡ k + 0 = omega arith in
    let gives : redone k w ≡ Some (record w { walk = l.walk }) = ap (λ i. redone i w) all ∙ l.gives in
    record {
      there = record h { walk = l.walk; jumps = t.jumps + 1 };
      accepted = ap (redo k) t.is ∙ redo_some k w (record w { walk = l.walk }) gives;
      same = same_place h h.walk l.walk h.jumps (t.jumps + 1) tree walk l.walks (λ n. sym (l.lasts n ∙ t.lasts n)) (ap (λ n. length (path h.nodes n)) (sym l.place));
    }

-- an undo of what is too much
pub undo_leads_home : (h after : History) (turns : List Turn) (k : ℕ) → IsTree h.nodes → IsWalk h.nodes h.walk → turned turns h ≡ Some after → sum_by forward turns ≡ sum_by back turns + k
    → LeadsTo (undo k after) h
undo_leads_home h after turns k tree walk e sums =
    let t = turned_is turns h after tree walk e in
    let depth = t.depth in
    let w : History = record h { walk = t.walk; jumps = t.jumps } in
    let deep : k ≤ length (here w) = omega arith in
    let up = depth_up w k tree t.walks deep in
    record {
      there = gone_up k w;
      accepted = ap (undo k) t.is ∙ undo_is k w deep;
      same = same_place h h.walk (ups k t.walk) h.jumps (t.jumps + 1) tree walk (walk_ups h.nodes k t.walk t.walks) (λ n. sym (lasts_ups h.nodes k t.walk n ∙ t.lasts n)) (omega arith);
    }

pub turned_rest : (turns : List Turn) (h after : History) → IsTree h.nodes → IsWalk h.nodes h.walk → turned turns h ≡ Some after → OnlyMoves h after
turned_rest turns h after tree walk e = (let t = turned_is turns h after tree walk e in
    let P : History → Type 0 = OnlyMoves h in subst P (sym t.is) refl)

pub turned_jumps : (turns : List Turn) (h after : History) → IsTree h.nodes → IsWalk h.nodes h.walk → turned turns h ≡ Some after → after.jumps ≡ h.jumps + length turns
turned_jumps turns h after tree walk e = (let t = turned_is turns h after tree walk e in ap (λ (x : History). x.jumps) t.is ∙ t.count)

pub turned_depth : (turns : List Turn) (h after : History) → IsTree h.nodes → IsWalk h.nodes h.walk → turned turns h ≡ Some after
    → length (here after) + sum_by back turns ≡ length (here h) + sum_by forward turns
turned_depth turns h after tree walk e = (let t = turned_is turns h after tree walk e in ap (λ (x : History). length (here x) + sum_by back turns) t.is ∙ t.depth)

-- turns that go as far back as forward
pub turns_home : (h after : History) (turns : List Turn) → IsTree h.nodes → IsWalk h.nodes h.walk → turned turns h ≡ Some after → sum_by back turns ≡ sum_by forward turns → IsSamePlace h after
unfolding turned
turns_home h after turns tree walk e sums = (let d = turned_depth turns h after tree walk e in turns_same h h after [] turns tree walk refl e (omega arith))

-- one undo, as a list of turns
pub undo_turned : (k : ℕ) (h after : History) → undo k h ≡ Some after → turned (Undo k ∷ []) h ≡ Some after
unfolding turned
undo_turned k h after e = ap (λ o. then_go o (λ u. turned [] u)) e
