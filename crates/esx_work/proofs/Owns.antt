-- The lines of a caller, as the log grows.
use Rattle.std.proofs.Common.{◌≡◌, ◌≢◌, ◌⊎◌, ◌==◌, ◌<◌, ℕ, Bool, true, false, true≢false, cond, List, [], ◌∷◌, ◌++◌, append_assoc, append-nil, Result, Ok, Err, IfOk, OnErr, refl, sym, ap, ◌∙◌, subst, ⊎_elim, ne_eqb, eq-eqb, arith}
use Rattle.std.proofs.lemmas.List.Elements.{filter-append}
use native.Mathlib.Decide.{ℕ_discrete}
use mathlib.Core.Logic.{dite}
use Rattle.esx_types.specs.declared.ids.Ids.{Ids}
use Rattle.esx_events.specs.declared.call.Call.{Call}
use Rattle.esx_events.specs.declared.call.Reply.{Reply}
use Rattle.esx_events.specs.declared.call.Line.{Line}
use Rattle.esx_types.specs.Ids.{has, IsLeast}
use Rattle.esx_lock.specs.declared.view.View.{View}
use Rattle.esx_lock.specs.Logs.{Callers, OthersOf, Follows}
use Rattle.esx_lock.specs.Passes.{LockView, Known, IsSame}
use Rattle.esx_desk.specs.Told.{Adds, Looks, line}
use Rattle.esx_door.specs.Own.{lines_of}
use Rattle.esx_work.specs.Doors.{GoesOn, IsOther, IsReady, Leads}

pub lines_append : (k : ℕ) (xs ys : List Line) → lines_of k (xs ++ ys) ≡ lines_of k xs ++ lines_of k ys
lines_append k xs ys = filter-append (λ (x : Line). x.caller == k) xs ys

pub not_both : (b : Bool) → b ≡ true → b ≡ false → ⊥
not_both b t f = true≢false (sym t ∙ f)

-- others' lines are none of the caller's
pub lines_of_others : (k n : ℕ) (ids : Ids) (xs : List Line) → has ids k ≡ true → OthersOf n ids xs → lines_of k xs ≡ []
lines_of_others k n ids [] own o = refl
lines_of_others k n ids (x ∷ xs) own o =
    let ne : x.caller ≢ k = λ e. not_both (has ids k) own (subst (λ (c : ℕ). has ids c ≡ false) e o.0.1) in
    ap (λ (b : Bool). cond b (x ∷ lines_of k xs) (lines_of k xs)) (ne_eqb x.caller k ne) ∙ lines_of_others k n ids xs own o.1

pub line_of_own : (k : ℕ) (x : Line) → x.caller ≡ k → lines_of k (x ∷ []) ≡ x ∷ []
line_of_own k x e = ap (λ (b : Bool). cond b (x ∷ []) []) (eq-eqb x.caller k e)

pub follows_own : (k n : ℕ) (ids : Ids) (seen log : List Line) → has ids k ≡ true → Follows n ids seen log → lines_of k log ≡ lines_of k seen
follows_own k n ids seen log own f = ap (lines_of k) (sym f.1) ∙ (lines_append k seen f.0 ∙ (ap (λ (l : List Line). lines_of k seen ++ l) (lines_of_others k n ids f.0 own f.2) ∙ append-nil (lines_of k seen)))

pub least_same : (ids : Ids) (j k : ℕ) → IsLeast ids j → IsLeast ids k → j ≡ k
least_same ids j k p q = dite (ℕ_discrete j k) (λ e. e) (λ ne. ⊎_elim
    (λ (lt : j < k). absurd (not_both (has ids j) p.0 (q.1 j lt)))
    (λ (lt : k < j). absurd (not_both (has ids k) q.0 (p.1 k lt)))
    (apart j k ne))
  where
    apart : (a b : ℕ) → a ≢ b → (a < b) ⊎ (b < a)
    apart a b ne = grind arith

pub below_others : (n : ℕ) (ids : Ids) (xs : List Line) → OthersOf n ids xs → Callers (λ k. k < n) xs
below_others n ids [] o = tt
below_others n ids (x ∷ xs) o = (o.0.0, below_others n ids xs o.1)

pub below_end : (n : ℕ) (xs : List Line) (x : Line) → Callers (λ k. k < n) xs → x.caller < n → Callers (λ k. k < n) (xs ++ x ∷ [])
below_end n [] x p lt = (lt, tt)
below_end n (y ∷ xs) x p lt = (p.0, below_end n xs x p.1 lt)

module _ (k : ℕ) (v w : View) (call : Call) where
  pub adds_own : (reply : Reply) → IsLeast v.ids k → Adds v w call reply → lines_of k w.seen ≡ lines_of k v.seen ++ line k call reply ∷ []
  adds_own reply least a =
      let same : a.caller ≡ k = least_same v.ids a.caller k a.least least in
      let x : Line = line a.caller call reply in
      let front : lines_of k (v.seen ++ a.between) ≡ lines_of k v.seen = lines_append k v.seen a.between ∙ (ap (λ (l : List Line). lines_of k v.seen ++ l) (lines_of_others k v.callers v.ids a.between least.0 a.others) ∙ append-nil (lines_of k v.seen)) in
      ap (lines_of k) a.seen ∙ (lines_append k (v.seen ++ a.between) (x ∷ [])
      ∙ (ap (λ (l : List Line). l ++ lines_of k (x ∷ [])) front ∙ (ap (λ (l : List Line). lines_of k v.seen ++ l) (line_of_own k x same) ∙ ap (λ (c : ℕ). lines_of k v.seen ++ line c call reply ∷ []) same)))

  pub adds_grown : (n : ℕ) (reply : Reply) → v.callers ≡ n → IsLeast v.ids k → k < n → Adds v w call reply → GoesOn n v.seen w.seen
  adds_grown n reply many least lt a =
      let same : a.caller ≡ k = least_same v.ids a.caller k a.least least in
      let x : Line = line a.caller call reply in (
        a.between ++ x ∷ [],
        sym (append_assoc v.seen a.between (x ∷ [])) ∙ sym a.seen,
        below_end n a.between x (subst (λ (m : ℕ). Callers (λ j. j < m) a.between) many (below_others v.callers v.ids a.between a.others)) (subst (λ (c : ℕ). c < n) (sym same) lt),
      )

  -- of its callers that are not its least there is no line
  pub adds_others : (j : ℕ) (reply : Reply) → IsOther v.ids j → Adds v w call reply → lines_of j w.seen ≡ lines_of j v.seen
  adds_others j reply other a =
      let x : Line = line a.caller call reply in
      let ne : x.caller ≢ j = λ e. other.1 (subst (IsLeast v.ids) e a.least) in
      let none : lines_of j (x ∷ []) ≡ [] = ap (λ (b : Bool). cond b (x ∷ []) []) (ne_eqb x.caller j ne) in
      let front : lines_of j (v.seen ++ a.between) ≡ lines_of j v.seen = lines_append j v.seen a.between ∙ (ap (λ (l : List Line). lines_of j v.seen ++ l) (lines_of_others j v.callers v.ids a.between other.0 a.others) ∙ append-nil (lines_of j v.seen)) in
      ap (lines_of j) a.seen ∙ (lines_append j (v.seen ++ a.between) (x ∷ []) ∙ (ap (λ (l : List Line). l ++ lines_of j (x ∷ [])) front ∙ (ap (λ (l : List Line). lines_of j v.seen ++ l) none ∙ append-nil (lines_of j v.seen))))

  pub waits_grown : (n : ℕ) → v.callers ≡ n → Looks v w → GoesOn n v.seen w.seen
  waits_grown n many t = (t.follows.0, t.follows.1, subst (λ (m : ℕ). Callers (λ j. j < m) t.follows.0) many (below_others v.callers v.ids t.follows.0 t.follows.2))

module _ {E : Type 0} (k : ℕ) (call : Call) where
  pub made_own : (r : Result Reply E) (v w : View) → IsLeast v.ids k → IfOk r (λ reply. Adds v w call reply) → IfOk r (λ reply. lines_of k w.seen ≡ lines_of k v.seen ++ line k call reply ∷ [])
  made_own (Ok reply) v w least ok = adds_own k v w call reply least ok
  made_own (Err e) v w least ok = tt

  pub made_none : (r : Result Reply E) (v w : View) → IsLeast v.ids k → OnErr r (Looks v w) → OnErr r (lines_of k w.seen ≡ lines_of k v.seen)
  made_none (Ok reply) v w least err = tt
  made_none (Err e) v w least err = follows_own k v.callers v.ids v.seen w.seen least.0 err.follows

  pub made_leads : (r : Result Reply E) (desk : LockView) (p q : Known) → IsReady desk p k → IsSame p.view q.view → IfOk r (λ reply. Adds p.view q.view call reply) → OnErr r (Looks p.view q.view) → Leads desk desk p q
  made_leads (Ok reply) desk p q ready same ok err = record {
    desk_same = refl;
    same = same;
    grown = adds_grown k p.view q.view call desk.callers reply ready.0.2 ready.1 ready.2 ok;
    others = λ j o. adds_others k p.view q.view call j reply o ok;
  }
  made_leads (Err e) desk p q ready same ok err = record {
    desk_same = refl;
    same = same;
    grown = waits_grown k p.view q.view call desk.callers ready.0.2 err;
    others = λ j o. follows_own j p.view.callers p.view.ids p.view.seen q.view.seen o.0 err.follows;
  }

-- every line is as P says
abbrev pub AllLines : (Line → Type 0) → List Line → Type 0
AllLines P [] = Unit {0}
AllLines P (x ∷ xs) = P x × AllLines P xs

module _ (P : Line → Type 0) where
  less_lines : (k : ℕ) (x : Line) (xs : List Line) (b : Bool) → AllLines P (cond b (x ∷ lines_of k xs) (lines_of k xs)) → AllLines P (lines_of k xs)
  less_lines k x xs true all = all.1
  less_lines k x xs false all = all

  -- what holds of each caller's lines holds of all
  pub all_lines : (n : ℕ) (xs : List Line) → Callers (λ k. k < n) xs → ((k : ℕ) → k < n → AllLines P (lines_of k xs)) → AllLines P xs
  all_lines n [] below each = tt
  all_lines n (x ∷ xs) below each = (
    (subst (λ (b : Bool). AllLines P (cond b (x ∷ lines_of x.caller xs) (lines_of x.caller xs))) (eq-eqb x.caller x.caller refl) (each x.caller below.0)).0,
    all_lines n xs below.1 (λ k lt. less_lines k x xs (x.caller == k) (each k lt)),
  )
