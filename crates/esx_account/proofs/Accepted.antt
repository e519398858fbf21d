-- Each path of a session is accepted by its site, and has no more events than a journal may have nodes.
use Rattle.std.proofs.Common.{◌≡◌, ℕ, zero, suc, ◌+◌, ◌<◌, ◌≤◌, Bool, true, false, cond, nat_lt, List, [], ◌∷◌, ◌++◌, length, map, refl, sym, ◌∙◌, ap, subst, arith, Option, Some, None, option_map, Result, Ok, Err, inl, inr}
use Rattle.std.proofs.lemmas.Bool.{cases_lt}
use Rattle.esx_types.specs.declared.config.Config.{Config}
use Rattle.esx_types.specs.declared.config.TheConstants.{MAX_NODES}
use Rattle.esx_types.specs.Ranges.{IsConfig}
use Rattle.esx_events.specs.declared.event.Event.{Event}
use Rattle.esx_events.specs.declared.event.Answer.{Answer}
use Rattle.esx_events.specs.declared.event.Refusal.{Refusal}
use Rattle.esx_events.specs.declared.event.Refusal.TheVariants.{Full, NoSuchName}
use Rattle.esx_model.specs.Replay.{opening, run_from}
use Rattle.esx_model.specs.Tree.{Node, path}
use Rattle.esx_model.specs.History.{History, here, done, do_event, up_once, child, down_to, down_once, then_go, undone, redone, undo, redo, jumped}
use Rattle.esx_model.specs.Branching.{goto, visit, mark, prune}
use Rattle.esx_model.specs.Console.{Session, history, lined}
use Rattle.esx_console.specs.Calls.{Asked, opened_session, lined_all}
use Rattle.esx_journal.specs.Marks.{node_named}
use Rattle.esx_journal.specs.Reached.{IsReached}
use Rattle.esx_journal.specs.Reached.IsReached.{Opened, Did, Undid, Redid, Went, Visited, Named, Pruned}
use Rattle.esx_journal.proofs.Grows.{full_is}
use Rattle.esx_journal.proofs.Names.{visit_some, visit_none}
use Rattle.esx_journal.proofs.Paths.{is_other, path_short}
use Rattle.esx_journal.proofs.Pruning.{dropped_length}
use Rattle.esx_journal.proofs.Reaching.{reached_steady, did_is, gone_is, named_is, pruned_is}
use Rattle.esx_session.specs.declared.session.Entry.{Entry}
use Rattle.esx_check.specs.Again.{asked, made}
use Rattle.esx_account.proofs.Front.{Leads}
use Rattle.esx_account.proofs.Reached.{session_reached}

-- A site has no more nodes than it may have.

some_history : (x y : History) → Some x ≡ Some y → x ≡ y
some_history x y h = cc

no_history : (y : History) → None ≡ Some y → ⊥
no_history y h = cc

refused_twice : {A : Type 0} (r : Refusal) (x : A) (d : Result A Refusal) → d ≡ Err r → d ≡ Ok x → ⊥
refused_twice r x d e h = cc

done_long : (e : Event) (h : History) → length (done e h).nodes ≡ length h.nodes + 1
unfolding done
done_long e h = omega arith

did_fits : (h after : History) (e : Event) (a : Answer) → do_event e h ≡ Ok (a, after) → length after.nodes ≤ h.config.nodes
did_fits h after e a is = elim (cases_lt (length h.nodes) h.config.nodes) [
  | inl room ↦ (let long = done_long e h in let same = ap (λ (x : History). length x.nodes) (did_is h after e a is).2 in omega arith)
  | inr full ↦ absurd (refused_twice Full (a, after) (do_event e h) (full_is h e full) is)
]

undone_nodes : (k : ℕ) (h : History) → (undone k h).nodes ≡ h.nodes
unfolding undone up_once
undone_nodes zero h = refl
undone_nodes (suc k) h = undone_nodes k h

undid_nodes : (h after : History) (k : ℕ) → undo k h ≡ Some after → after.nodes ≡ h.nodes
unfolding undo
undid_nodes h after k is = of (nat_lt (length (here h)) k) is
  where
    of : (b : Bool) → cond b None (Some (jumped (undone k h))) ≡ Some after → after.nodes ≡ h.nodes
    of true q = absurd (no_history after q)
    of false q = ap (λ (x : History). x.nodes) (sym (some_history (jumped (undone k h)) after q)) ∙ undone_nodes k h

abbrev HasNodes : List Node → Option History → Type 0
HasNodes nodes None = Unit {0}
HasNodes nodes (Some h) = h.nodes ≡ nodes

down_nodes : (h : History) (n : Option ℕ) → HasNodes h.nodes (option_map (down_to h) n)
down_nodes h None = tt
down_nodes h (Some n) = refl

then_nodes : (nodes : List Node) (o : Option History) → HasNodes nodes o → HasNodes nodes (then_go o down_once)
unfolding down_once
then_nodes nodes None is = tt
then_nodes nodes (Some h) is = subst (λ r. HasNodes r (down_once h)) is (down_nodes h (child h))

redone_nodes : (k : ℕ) (h : History) → HasNodes h.nodes (redone k h)
unfolding redone
redone_nodes zero h = refl
redone_nodes (suc k) h = then_nodes h.nodes (redone k h) (redone_nodes k h)

redid_nodes : (h after : History) (k : ℕ) → redo k h ≡ Some after → after.nodes ≡ h.nodes
unfolding redo
redid_nodes h after k is = of (redone k h) (redone_nodes k h) is
  where
    of : (o : Option History) → HasNodes h.nodes o → option_map jumped o ≡ Some after → after.nodes ≡ h.nodes
    of None has q = absurd (no_history after q)
    of (Some x) has q = ap (λ (y : History). y.nodes) (sym (some_history (jumped x) after q)) ∙ has

went_nodes : (h after : History) (n : ℕ) → goto n h ≡ Ok after → after.nodes ≡ h.nodes
went_nodes h after n is = ap (λ (x : History). x.nodes) (sym (gone_is h after n is).1)

visited_nodes : (h after : History) (name : List ℕ) → visit name h ≡ Ok after → after.nodes ≡ h.nodes
visited_nodes h after name is = of (node_named name h.marks) refl
  where
    of : (o : Option ℕ) → node_named name h.marks ≡ o → after.nodes ≡ h.nodes
    of None e = absurd (refused_twice NoSuchName after (visit name h) (visit_none name h e) is)
    of (Some n) e = went_nodes h after n (sym (visit_some name h n e) ∙ is)

named_nodes : (h after : History) (name : List ℕ) → mark name h ≡ Ok after → after.nodes ≡ h.nodes
named_nodes h after name is = ap (λ (x : History). x.nodes) (sym (named_is h after name is).1)

pruned_long : (h after : History) (n count : ℕ) → prune n h ≡ Ok (count, after) → length after.nodes ≡ length h.nodes
pruned_long h after n count is = ap (λ (x : History). length x.nodes) (sym (pruned_is h after n count is).2) ∙ dropped_length n h.nodes

nodes_fit : (c : Config) (h : History) → IsReached c h → length h.nodes ≤ c.nodes
nodes_fit c h Opened = omega arith
nodes_fit c h (Did e a before after r is) =
    let fits = did_fits before h e a is in
    let site = ap (λ (x : Config). x.nodes) (reached_steady c before r).config in
    omega arith
nodes_fit c h (Undid k before after r is) = (let few = nodes_fit c before r in let same = ap length (undid_nodes before h k is) in omega arith)
nodes_fit c h (Redid k before after r is) = (let few = nodes_fit c before r in let same = ap length (redid_nodes before h k is) in omega arith)
nodes_fit c h (Went n before after r is) = (let few = nodes_fit c before r in let same = ap length (went_nodes before h n is) in omega arith)
nodes_fit c h (Visited name before after r is) = (let few = nodes_fit c before r in let same = ap length (visited_nodes before h name is) in omega arith)
nodes_fit c h (Named name before after r is) = (let few = nodes_fit c before r in let same = ap length (named_nodes before h name is) in omega arith)
nodes_fit c h (Pruned n count before after r is) = (let few = nodes_fit c before r in let same = pruned_long before h n count is in omega arith)

-- A node that was not made has no path.
path_past : (nodes : List Node) (n : ℕ) → length nodes < n → path nodes n ≡ []
unfolding path
path_past [] n past = refl
path_past (x ∷ older) n past =
    ap (λ b. cond b (path older x.parent ++ x.event ∷ []) (path older n)) (is_other n (length older + 1) (λ same. omega arith)) ∙ path_past older n (omega arith)

no_event_leads : (c : Config) → Leads c []
unfolding run_from
no_event_leads c = record { scene = opening c; runs = refl }

-- The site of a session is the one that it was opened with.
all_site : (s : Session) (xs : List Asked) → (lined_all s xs).site ≡ s.site
unfolding lined_all
all_site s [] = refl
all_site s (x ∷ xs) = all_site (lined s x.caller x.call) xs

made_site : (site : Config) (entries : List Entry) → (made site entries).site ≡ site
unfolding made
made_site site entries = all_site (opened_session site) (map asked entries)

reached_of : (site : Config) (entries : List Entry) → IsReached site (history (made site entries))
reached_of site entries = (let P : Config → Type 0 = λ c. IsReached c (history (made site entries)) in subst P (made_site site entries) (session_reached (made site entries)))

-- each path of a session is accepted
pub path_leads : (site : Config) (entries : List Entry) (node : ℕ) → Leads site (path (history (made site entries)).nodes node)
path_leads site entries node = elim (cases_lt (length (history (made site entries)).nodes) node) [
  | inl past ↦ subst (Leads site) (sym (path_past (history (made site entries)).nodes node past)) (no_event_leads site)
  | inr fits ↦ (let runs = (reached_steady site (history (made site entries)) (reached_of site entries)).paths node fits in record { scene = runs.scene; runs = runs.runs })
]

-- a session makes few nodes
pub nodes_few : (site : Config) (entries : List Entry) → IsConfig site → length (history (made site entries)).nodes ≤ MAX_NODES
nodes_few site entries good =
    let few = nodes_fit site (history (made site entries)) (reached_of site entries) in
    let most = good.most_nodes in
    omega arith

-- and each path is short
pub path_fits : (site : Config) (entries : List Entry) (node : ℕ) → IsConfig site → length (path (history (made site entries)).nodes node) ≤ MAX_NODES
path_fits site entries node good = (
    let h = history (made site entries) in
    let few = nodes_few site entries good in
    elim (cases_lt (length h.nodes) node) [
      | inl past ↦ (let none = ap length (path_past h.nodes node past) in omega arith)
      | inr fits ↦ (let short = path_short h.nodes node (reached_steady site h (reached_of site entries)).tree fits in omega arith)
    ])
