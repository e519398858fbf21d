-- Several steps down.
use Rattle.std.proofs.Common.{◌≡◌, ℕ, zero, suc, ◌+◌, List, [], ◌∷◌, ◌++◌, length, length-append, refl, sym, ap, ◌∙◌, arith, Option, Some, None, option_map, append_assoc, append-nil}
use Rattle.esx_events.specs.declared.event.Event.{Event}
use Rattle.esx_model.specs.Tree.{Move, Down, path, at, last_descent, IsTree, IsWalk}
use Rattle.esx_model.specs.History.{History, cursor, here, child, down_to, redone, redo, jumped}
use Rattle.esx_journal.specs.Turns.{above}
use Rattle.esx_journal.proofs.Paths.{path_child}
use Rattle.esx_journal.proofs.Steps.{descents_of, is_child, child_by, same_descents}
use Rattle.esx_journal.proofs.Moves.{redone_back}

-- where k steps down lead
pub record IsBelow (m w : History) (k : ℕ) : Type 0 where
  pub walk : List Move
  pub is : w ≡ record m { walk = walk }
  pub walks : IsWalk m.nodes walk
  pub lasts : (n : ℕ) → last_descent m.nodes walk n ≡ last_descent m.nodes m.walk n
  pub node : above m.nodes k (at m.nodes walk) ≡ cursor m
  pub more : List Event
  pub many : length more ≡ k
  pub events : path m.nodes (at m.nodes walk) ≡ here m ++ more

pub goes_below : (k : ℕ) (m w : History) → IsTree m.nodes → IsWalk m.nodes m.walk → redone k m ≡ Some w → IsBelow m w k
unfolding redone at above
goes_below zero m w tree walk e = (let same : m ≡ w = cc in
    record { walk = m.walk; is = sym same; walks = walk; lasts = λ n. refl; node = refl; more = []; many = refl; events = sym (append-nil (here m)) })
goes_below (suc k) m w tree walk e =
    let i : k + 1 ≡ suc k = omega arith in
    let last = redone_back m w k (ap (λ x. redone x m) i ∙ e) in
    let before = goes_below k m last.before tree walk last.gives in
    let b : History = record m { walk = before.walk } in
    let n = is_child b before.walk last.node (descents_of m.nodes before.walk before.walks) (child_by b last.node (ap child (sym before.is) ∙ last.is)) in
    let long = path_child m.nodes last.node tree n.some n.fits in
    record {
      walk = Down last.node ∷ before.walk;
      is = sym last.same ∙ ap (λ x. down_to x last.node) before.is;
      walks = (n.some, n.fits, n.up, before.walks);
      lasts = λ y. same_descents m.nodes before.walk last.node n.last y ∙ before.lasts y;
      node = ap (above m.nodes k) n.up ∙ before.node;
      more = before.more ++ long.0 ∷ [];
      many = (let l = length-append before.more (long.0 ∷ []) in let q = before.many in omega arith);
      events = long.1 ∙ ap (λ p. path m.nodes p ++ long.0 ∷ []) n.up ∙ ap (λ p. p ++ long.0 ∷ []) before.events ∙ append_assoc (here m) before.more (long.0 ∷ []);
    }

-- where a redo leads
pub record IsRedone (m after : History) (k : ℕ) : Type 0 where
  pub w : History
  pub is : after ≡ jumped w
  pub below : IsBelow m w k

pub redo_is : (k : ℕ) (m after : History) → IsTree m.nodes → IsWalk m.nodes m.walk → redo k m ≡ Some after → IsRedone m after k
unfolding redo
redo_is k m after tree walk e = of (redone k m) refl e
  where
    of : (o : Option History) → redone k m ≡ o → option_map jumped o ≡ Some after → IsRedone m after k
    of None r q = cc
    of (Some w) r q = record { w = w; is = (let s : Some (jumped w) ≡ Some after = q in cc); below = goes_below k m w tree walk r }
