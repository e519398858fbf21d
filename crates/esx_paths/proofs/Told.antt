-- What is kept of the nodes of a tree tells their paths.
use Rattle.std.proofs.Common.{◌≡◌, ℕ, zero, suc, ◌+◌, ◌<◌, ◌≤◌, cond, List, [], ◌∷◌, ◌++◌, length, map, reverse, get_or, Option, Some, refl, sym, ◌∙◌, ap, subst, arith, inl, inr, ◌⊎◌}
use Rattle.std.specs.Prelude.{slice_get, option_map}
use Rattle.std.proofs.lemmas.List.{get_or_append_left, map-append}
use Rattle.std.proofs.lemmas.Bool.{eq-eqb, cases_lt}
use Rattle.esx_events.specs.declared.event.Event.{Event}
use Rattle.esx_events.specs.declared.call.Call.TheVariants as calls
use Rattle.esx_events.specs.declared.call.Line.{Line}
use Rattle.esx_model.specs.Tree.{Node, path, line, IsTree}
use Rattle.esx_model.specs.Branching.{dropped}
use Rattle.esx_journal.proofs.Paths.{newest, is_older, path_new, path_old}
use Rattle.esx_journal.proofs.Pruning.{dropped_length}
use Rattle.esx_paths.specs.declared.makers.Maker.{Maker}
use Rattle.esx_paths.specs.declared.way.Waypoint.{Waypoint}
use Rattle.esx_paths.specs.Paths.{line_numbered, event_of, event_in}
use Rattle.esx_paths.specs.Ways.{nobody, maker_at, waypoint_at, IsWayUp}
use Rattle.esx_paths.proofs.Lists.{reverse_cons}

-- Of a node this is told: its parent, and the line of a log that made it.
pub record IsTold (log : List Line) (m : Maker) (x : Node) : Type 0 where
  pub made : Line
  pub at : line_numbered log m.call ≡ Some made
  pub event : made.call ≡ calls.Do x.event
  pub caller : made.caller ≡ m.caller
  pub parent : m.parent ≡ x.parent

-- The same of each of them, youngest first, and each was made by a later call than the one before it.
abbrev pub AreTold : List Line → List Maker → List Node → Type 0
AreTold log makers [] = Unit {0}
AreTold log makers (x ∷ older) =
    IsTold log (get_or makers (length older) nobody) x × ((maker_at makers (length older)).call < (get_or makers (length older) nobody).call) × AreTold log makers older

-- lines with numbers

kept_at : (log more : List Line) (k : ℕ) (x : Line) → slice_get log k ≡ Some x → slice_get (log ++ more) k ≡ Some x
kept_at [] more k x e = cc
kept_at (y ∷ log) more zero x e = e
kept_at (y ∷ log) more (suc k) x e = kept_at log more k x e

kept_line : (log more : List Line) (n : ℕ) (x : Line) → line_numbered log n ≡ Some x → line_numbered (log ++ more) n ≡ Some x
kept_line log more zero x e = cc
kept_line log more (suc k) x e = kept_at log more k x e

within : (log : List Line) (k : ℕ) (x : Line) → slice_get log k ≡ Some x → k < length log
within [] k x e = cc
within (y ∷ log) zero x e = omega arith
within (y ∷ log) (suc k) x e = (let h = within log k x e in omega arith)

pub line_within : (log : List Line) (n : ℕ) (x : Line) → line_numbered log n ≡ Some x → n ≤ length log
line_within log zero x e = omega arith
line_within log (suc k) x e = (let h = within log k x e in omega arith)

last_at : (log : List Line) (x : Line) → slice_get (log ++ x ∷ []) (length log) ≡ Some x
last_at [] x = refl
last_at (y ∷ log) x = last_at log x

pub last_line : (log : List Line) (x : Line) → line_numbered (log ++ x ∷ []) (length log + 1) ≡ Some x
last_line log x = (let P : ℕ → Type 0 = λ n. line_numbered (log ++ x ∷ []) n ≡ Some x in let e : suc (length log) ≡ length log + 1 = omega arith in subst P e (last_at log x))

-- rows by number

pub maker_is : (makers : List Maker) (n k : ℕ) → n ≡ k + 1 → maker_at makers n ≡ get_or makers k nobody
maker_is makers zero k e = absurd (omega arith)
maker_is makers (suc n) k e = (let same : n ≡ k = omega arith in ap (λ i. get_or makers i nobody) same)

pub maker_kept : (makers more : List Maker) (n : ℕ) → n ≤ length makers → maker_at (makers ++ more) n ≡ maker_at makers n
maker_kept makers more zero fits = refl
maker_kept makers more (suc k) fits = get_or_append_left makers more nobody k (omega arith)

-- more lines and more rows tell what they told
pub told_more : (log lines : List Line) (makers more : List Maker) (nodes : List Node) → length nodes ≤ length makers → AreTold log makers nodes → AreTold (log ++ lines) (makers ++ more) nodes
told_more log lines makers more [] fits told = tt
told_more log lines makers more (x ∷ older) fits told =
    let row : get_or (makers ++ more) (length older) nobody ≡ get_or makers (length older) nobody = get_or_append_left makers more nobody (length older) (omega arith) in
    let above : maker_at (makers ++ more) (length older) ≡ maker_at makers (length older) = maker_kept makers more (length older) (omega arith) in
    let of = told.0 in
    let one : IsTold (log ++ lines) (get_or makers (length older) nobody) x = record { made = of.made; at = kept_line log lines _ of.made of.at; event = of.event; caller = of.caller; parent = of.parent } in
    let P : Maker → Type 0 = λ m. IsTold (log ++ lines) m x in
    let calls_rise : (maker_at (makers ++ more) (length older)).call < (get_or (makers ++ more) (length older) nobody).call =
    (let a = ap (λ (m : Maker). m.call) above in let r = ap (λ (m : Maker). m.call) row in let h = told.1 in omega arith) in
    (subst P (sym row) one, calls_rise, told_more log lines makers more older (omega arith) told.2)

-- a node that is dropped is told as it was
pub told_dropped : (log : List Line) (makers : List Maker) (n : ℕ) (nodes : List Node) → AreTold log makers nodes → AreTold log makers (dropped n nodes)
unfolding dropped
told_dropped log makers n [] told = tt
told_dropped log makers n (x ∷ older) told =
    let same = dropped_length n older in
    let of = told.0 in
    let P : ℕ → Type 0 = λ k. IsTold log (get_or makers k nobody) x in
    let one = subst P (sym same) of in
    let Q : ℕ → Type 0 = λ k. (maker_at makers k).call < (get_or makers k nobody).call in (
      record { made = one.made; at = one.at; event = one.event; caller = one.caller; parent = one.parent },
      subst Q (sym same) told.1,
      told_dropped log makers n older told.2,
    )

-- The path to a node.

line_new : (x : Node) (older : List Node) (n : ℕ) → n ≡ length older + 1 → line (x ∷ older) n ≡ line older x.parent ++ n ∷ []
unfolding line
line_new x older n e = ap (λ b. cond b (line older x.parent ++ n ∷ []) (line older n)) (eq-eqb n (length older + 1) e)

line_old : (x : Node) (older : List Node) (n : ℕ) → n ≤ length older → line (x ∷ older) n ≡ line older n
unfolding line
line_old x older n h = ap (λ b. cond b (line older x.parent ++ n ∷ []) (line older n)) (is_older n (length older) h)

abbrev node_of : Waypoint → ℕ
node_of w = w.node

abbrev event_told : List Line → Waypoint → Option Event
event_told log w = event_in (line_numbered log w.call)

abbrev caller_told : List Line → Waypoint → Option ℕ
caller_told log w = option_map (λ (x : Line). x.caller) (line_numbered log w.call)

abbrev caller_of : Waypoint → Option ℕ
caller_of w = Some w.caller

abbrev some_event : Event → Option Event
some_event e = Some e

-- what is told from the opening down, of a way up
pub record TellsWay (log : List Line) (nodes : List Node) (n : ℕ) (ups : List Waypoint) : Type 0 where
  pub nodes_are : map node_of (reverse ups) ≡ line nodes n
  pub events_are : map (event_told log) (reverse ups) ≡ map some_event (path nodes n)
  pub callers_are : map (caller_told log) (reverse ups) ≡ map caller_of (reverse ups)

-- one more at the end
map_last : {X Y : Type 0} (f : X → Y) (x : X) (xs : List X) → map f (reverse (x ∷ xs)) ≡ map f (reverse xs) ++ f x ∷ []
map_last f x xs = ap (map f) (reverse_cons x xs) ∙ map-append f (reverse xs) (x ∷ [])

line_none : (nodes : List Node) → line nodes 0 ≡ []
unfolding line
line_none [] = refl
line_none (x ∷ older) = line_old x older 0 (omega arith) ∙ line_none older

path_none : (nodes : List Node) → path nodes 0 ≡ []
unfolding path
path_none [] = refl
path_none (x ∷ older) = path_old x older 0 (omega arith) ∙ path_none older

tells_none : (log : List Line) (nodes : List Node) (n : ℕ) → n ≡ 0 → TellsWay log nodes n []
tells_none log nodes n e = record {
  nodes_are = sym (ap (line nodes) e ∙ line_none nodes);
  events_are = sym (ap (map some_event) (ap (path nodes) e ∙ path_none nodes));
  callers_are = refl;
}

tells_new : (log : List Line) (makers : List Maker) (x : Node) (older : List Node) (n : ℕ) (w : Waypoint) (ups : List Waypoint) → n ≡ length older + 1
    → IsTold log (get_or makers (length older) nobody) x → w ≡ waypoint_at makers n → TellsWay log older x.parent ups → TellsWay log (x ∷ older) n (w ∷ ups)
tells_new log makers x older n w ups e of is tells =
    let row : maker_at makers n ≡ get_or makers (length older) nobody = maker_is makers n (length older) e in
    let call_is : w.call ≡ (get_or makers (length older) nobody).call = ap (λ (v : Waypoint). v.call) is ∙ ap (λ (m : Maker). m.call) row in
    let who : w.caller ≡ (get_or makers (length older) nobody).caller = ap (λ (v : Waypoint). v.caller) is ∙ ap (λ (m : Maker). m.caller) row in
    let at : line_numbered log w.call ≡ Some of.made = ap (line_numbered log) call_is ∙ of.at in
    let event_is : event_told log w ≡ Some x.event = ap event_in at ∙ ap event_of of.event in
    let node_is : w.node ≡ n = ap (λ (v : Waypoint). v.node) is in
    let caller_is : caller_told log w ≡ Some w.caller = ap (option_map (λ (y : Line). y.caller)) at ∙ ap (λ c. Some c) (of.caller ∙ sym who) in
    record {
      nodes_are = map_last node_of w ups ∙ ap (λ l. l ++ w.node ∷ []) tells.nodes_are ∙ ap (λ k. line older x.parent ++ k ∷ []) node_is ∙ sym (line_new x older n e);
      events_are = map_last (event_told log) w ups ∙ ap (λ l. l ++ event_told log w ∷ []) tells.events_are ∙ ap (λ o. map some_event (path older x.parent) ++ o ∷ []) event_is
          ∙ sym (map-append some_event (path older x.parent) (x.event ∷ [])) ∙ ap (map some_event) (sym (path_new x older n e));
      callers_are = map_last (caller_told log) w ups ∙ ap (λ l. l ++ caller_told log w ∷ []) tells.callers_are ∙ ap (λ o. map caller_of (reverse ups) ++ o ∷ []) caller_is
          ∙ sym (map_last caller_of w ups);
    }

tells_old : (log : List Line) (x : Node) (older : List Node) (n : ℕ) (ups : List Waypoint) → n ≤ length older → TellsWay log older n ups → TellsWay log (x ∷ older) n ups
tells_old log x older n ups fits tells = record {
  nodes_are = tells.nodes_are ∙ sym (line_old x older n fits);
  events_are = tells.events_are ∙ ap (map some_event) (sym (path_old x older n fits));
  callers_are = tells.callers_are;
}

pub tells_way : (log : List Line) (makers : List Maker) (nodes : List Node) (n : ℕ) (ups : List Waypoint) → IsTree nodes → AreTold log makers nodes → n ≤ length nodes → IsWayUp makers n ups → TellsWay log nodes n ups
tells_way log makers nodes n [] tree told fits up = tells_none log nodes n up
tells_way log makers [] n (w ∷ ups) tree told fits up = absurd (omega (arith, up.0))
tells_way log makers (x ∷ older) n (w ∷ ups) tree told fits up =
    of (newest n (length older) (omega arith)) (λ k climb. tells_way log makers older x.parent ups tree.1 told.2 k climb) (λ k. tells_way log makers older n (w ∷ ups) tree.1 told.2 k up)
  where
    of : (n ≡ length older + 1) ⊎ (n ≤ length older) → (x.parent ≤ length older → IsWayUp makers x.parent ups → TellsWay log older x.parent ups)
        → (n ≤ length older → TellsWay log older n (w ∷ ups)) → TellsWay log (x ∷ older) n (w ∷ ups)
    of (inl e) new old =
        let parent_is : (maker_at makers n).parent ≡ x.parent = ap (λ (m : Maker). m.parent) (maker_is makers n (length older) e) ∙ told.0.parent in
        let P : ℕ → Type 0 = λ p. IsWayUp makers p ups in
        tells_new log makers x older n w ups e told.0 up.1 (new tree.0 (subst P parent_is up.2))
    of (inr k) new old = tells_old log x older n (w ∷ ups) k (old k)

-- parents are older, as the tree has it
pub leads_up : (log : List Line) (makers : List Maker) (nodes : List Node) → IsTree nodes → AreTold log makers nodes → (k : ℕ) → k < length nodes → (get_or makers k nobody).parent ≤ k
leads_up log makers [] tree told k fits = absurd (omega arith)
leads_up log makers (x ∷ older) tree told k fits = of (newest (k + 1) (length older) (omega arith)) (λ h. leads_up log makers older tree.1 told.2 k h)
  where
    of : (k + 1 ≡ length older + 1) ⊎ (k + 1 ≤ length older) → (k < length older → (get_or makers k nobody).parent ≤ k) → (get_or makers k nobody).parent ≤ k
    of (inl e) old =
        let here : length older ≡ k = omega arith in
        let P : ℕ → Type 0 = λ i. (get_or makers i nobody).parent ≤ i in
        subst P here (let p = told.0.parent in let t = tree.0 in omega arith)
    of (inr h) old = old (omega arith)

-- a younger node was made by a later call
pub calls_rise : (log : List Line) (makers : List Maker) (nodes : List Node) (m n : ℕ) → AreTold log makers nodes → m < n → n ≤ length nodes → (maker_at makers m).call < (maker_at makers n).call
calls_rise log makers [] m n told below fits = absurd (omega arith)
calls_rise log makers (x ∷ older) m n told below fits =
    of (newest n (length older) (omega arith)) (λ k. calls_rise log makers older m (length older) told.2 k (omega arith)) (λ k. calls_rise log makers older m n told.2 below k)
  where
    last : n ≡ length older + 1 → (maker_at makers (length older)).call < (maker_at makers n).call
    last e = (let r = ap (λ (m : Maker). m.call) (maker_is makers n (length older) e) in let h = told.1 in omega arith)

    of : (n ≡ length older + 1) ⊎ (n ≤ length older) → (m < length older → (maker_at makers m).call < (maker_at makers (length older)).call)
        → (n ≤ length older → (maker_at makers m).call < (maker_at makers n).call) → (maker_at makers m).call < (maker_at makers n).call
    of (inl e) here old =
        elim (cases_lt m (length older)) [
          | inl l ↦ (let a = here l in let b = last e in omega arith)
          | inr h ↦ (let same : m ≡ length older = omega arith in let P : ℕ → Type 0 = λ i. (maker_at makers i).call < (maker_at makers n).call in subst P (sym same) (last e))
        ]
    of (inr k) here old = old k
