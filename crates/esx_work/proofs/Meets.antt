-- What threads give back, and what their passes know together.
use Rattle.std.proofs.Common.{◌≡◌, ◌⊎◌, ◌<◌, ◌≤◌, ℕ, zero, suc, ◌+◌, ◌||◌, Bool, true, false, List, [], ◌∷◌, ◌++◌, length, length-append, append_assoc, append-nil, slice_get, get_or, map, remove, Option, Some, None, Result, Ok, Err, IfOk, OnErr, refl, sym, ap, ◌∙◌, subst, inl, inr, ⊎_elim, arith}
use Rattle.std.specs.Prelude.{option_map}
use Rattle.std.specs.Option.{option_to_list}
use Rattle.std.proofs.lemmas.Option.{slice_get_cases, slice_get_within, slice_get-get_or, slice_get_read, slice_get-map}
use Rattle.std.proofs.lemmas.List.{append_cancel_left, length-map}
use native.Mathlib.Decide.{ℕ_discrete}
use mathlib.Core.Logic.{dite}
use Rattle.atomic_table.specs.Seated.{TableId}
use Rattle.esx_types.specs.declared.ids.Ids.{Ids}
use Rattle.esx_types.specs.declared.config.Config.{Config}
use Rattle.esx_events.specs.declared.call.Call.{Call}
use Rattle.esx_events.specs.declared.call.Reply.{Reply}
use Rattle.esx_events.specs.declared.call.Line.{Line}
use Rattle.esx_types.specs.Ids.{has, IsLeast}
use Rattle.esx_model.specs.Console.{Session}
use Rattle.esx_lock.specs.Logs.{Callers, OthersOf}
use Rattle.esx_lock.specs.declared.view.View.{View}
use Rattle.esx_lock.specs.Passes.{LockView, Known, Meet, IsOpened, AreOpened}
use Rattle.esx_desk.specs.Told.{IsOf, HadIt}
use Rattle.esx_work.specs.declared.run.Finished.{Finished}
use Rattle.esx_workers.specs.declared.end.End.{End}
use Rattle.esx_workers.specs.declared.worker.Worker.{Worker}
use Rattle.esx_workers.specs.Runs.{IsRun, Ended, Gated, IsGated, Broken, IsBroken, Short}
use Rattle.esx_door.specs.Own.{lines_of}
use Rattle.esx_work.specs.Doors.{IsReady, Leads}
use Rattle.esx_work.specs.Growth.{callers_joined}
use Rattle.esx_work.specs.Runs.{CanRun, WantsMemory, Ran, IsReturned, AreReturned, AreOwn, Knows, RunsOn}
use Rattle.esx_work.proofs.Owns.{lines_append, lines_of_others, least_same, below_others}

module _ {A E : Type 0} where
  pub if_ok_map : (P Q : A → Type 0) → ((a : A) → P a → Q a) → (r : Result A E) → IfOk r P → IfOk r Q
  if_ok_map P Q f (Ok a) p = f a p
  if_ok_map P Q f (Err e) p = tt

  pub on_err_map : (P Q : Type 0) → (P → Q) → (r : Result A E) → OnErr r P → OnErr r Q
  on_err_map P Q f (Ok a) p = tt
  on_err_map P Q f (Err e) p = f p

  pub if_ok_at : (P : A → Type 0) (r : Result A E) (a : A) → r ≡ Ok a → IfOk r P → P a
  if_ok_at P r a e p = subst (λ (x : Result A E). IfOk x P) e p

-- the lines of a caller that a log went on with
went_on : (k : ℕ) (seen later seen' lines : List Line) → seen ++ later ≡ seen' → lines_of k seen' ≡ lines_of k seen ++ lines → lines ≡ lines_of k later
went_on k seen later seen' lines grown more = sym (append_cancel_left (lines_of k seen) (lines_of k later) lines (sym (lines_append k seen later) ∙ (ap (lines_of k) grown ∙ more)))

-- the caller's lines where memory was wanting for one more, and what it was wanting for
pub record Wanting {G : Type 0} (passes : G → ℕ → Bool → G → Type 0) (g h : G) (w : Worker) (view : View) (before after : List Line) : Type 0 where
  pub lines : List Line
  pub more : after ≡ before ++ lines
  pub how : WantsMemory passes g h w view lines

pub wanting : {G D : Type 0} (passes : G → ℕ → Bool → G → Type 0) (made : D → Call → Reply → D → Type 0) (wanted : D → Call → D → Type 0) (g h : G) (d e : D) (w : Worker) (view : View) (before after : List Line)
    → ((m : D) (call : Call) → wanted m call e → HadIt view) → Short passes made wanted g h d e w before after → Wanting passes g h w view before after
wanting passes made wanted g h d e w view before after had short = record {
  lines = short.lines;
  more = short.more;
  how = ⊎_elim (λ asked. inl (asked.0, asked.2)) (λ called. inr (called.0, (called.1.1, called.1.3), had called.1.0 called.1.1 called.1.4)) short.how;
}

-- one worker, through its door and its gate
pub one_ran : {G : Type 0} (is_open : G → Type 0) (passes : G → ℕ → Bool → G → Type 0) (gate : G) (desk desk' : LockView) (p : Known) (f : Finished G) (k j : ℕ) (w : Worker) (turns : ℕ) → IsReady desk p k → IsReady desk' f.pass j → Leads desk desk' p f.pass
    → IfOk f.ended (λ end. Ended (is_open gate) k w turns end (lines_of k p.view.seen) (lines_of k f.pass.view.seen)) → IfOk f.ended (λ end. Gated passes gate f.gate w turns end (lines_of k p.view.seen) (lines_of k f.pass.view.seen))
    → OnErr f.ended (Broken k w turns (lines_of k p.view.seen) (lines_of k f.pass.view.seen)) → OnErr f.ended (Wanting passes gate f.gate w f.pass.view (lines_of k p.view.seen) (lines_of k f.pass.view.seen)) → Ran is_open passes gate desk p w turns f
one_ran is_open passes gate desk desk' p f k j w turns ready ready' leads sent gated broken stopped =
    let later : List Line = leads.grown.0 in
    let old : List Line = lines_of k p.view.seen in
    let new : List Line = lines_of k f.pass.view.seen in
    let are : (lines : List Line) → new ≡ old ++ lines → lines ≡ lines_of k later = λ lines more. went_on k p.view.seen later f.pass.view.seen lines leads.grown.1 more in
    let same : (i : ℕ) → IsLeast p.view.ids i → k ≡ i = λ i least. least_same p.view.ids k i ready.1 least in record {
      is_of = subst (λ (d : LockView). IsOf d f.pass) leads.desk_same ready'.0;
      same = leads.same;
      later = later;
      grown = leads.grown.1;
      below = leads.grown.2;
      others = λ i o. sym (went_on i p.view.seen later f.pass.view.seen [] leads.grown.1 (leads.others i o ∙ sym (append-nil (lines_of i p.view.seen))));
      done = λ i least. subst (λ (c : ℕ). IfOk f.ended (λ end. IsRun (is_open gate) c w turns end (lines_of c later))) (same i least)
          (if_ok_map (λ end. Ended (is_open gate) k w turns end old new) (λ end. IsRun (is_open gate) k w turns end (lines_of k later)) (λ end s. subst (IsRun (is_open gate) k w turns end) (are s.lines s.more) s.run) f.ended sent);
      gated = λ i least. subst (λ (c : ℕ). IfOk f.ended (λ end. IsGated passes gate f.gate w turns end (lines_of c later))) (same i least)
          (if_ok_map (λ end. Gated passes gate f.gate w turns end old new) (λ end. IsGated passes gate f.gate w turns end (lines_of k later)) (λ end s. subst (IsGated passes gate f.gate w turns end) (are s.lines s.more) s.gate) f.ended gated);
      broken = λ i least. subst (λ (c : ℕ). OnErr f.ended (IsBroken c w turns (lines_of c later))) (same i least)
          (on_err_map (Broken k w turns old new) (IsBroken k w turns (lines_of k later)) (λ s. subst (IsBroken k w turns) (are s.lines s.more) s.run) f.ended broken);
      stopped = λ i least. subst (λ (c : ℕ). OnErr f.ended (WantsMemory passes gate f.gate w f.pass.view (lines_of c later))) (same i least)
          (on_err_map (Wanting passes gate f.gate w f.pass.view old new) (WantsMemory passes gate f.gate w f.pass.view (lines_of k later)) (λ s. subst (WantsMemory passes gate f.gate w f.pass.view) (are s.lines s.more) s.how) f.ended stopped);
    }

none_below : (p : Known) (i : ℕ) → ((k : ℕ) → has p.view.ids k ≡ true → k ≡ i) → (j : ℕ) → j < i → (b : Bool) → b ≡ has p.view.ids j → has p.view.ids j ≡ false
none_below p i alone j lt true e = let same : j ≡ i = alone j (sym e) in absurd (omega arith)
none_below p i alone j lt false e = sym e

-- the one caller of a pass is its least
pub one_least : (table : TableId) (n : ℕ) (site : Config) (log : List Line) (i : ℕ) (p : Known) → IsOpened table n site log i p → IsLeast p.view.ids i
one_least table n site log i p o = (o.2, λ j lt. none_below p i o.3 j lt (has p.view.ids j) refl)

-- a pass as the desk opened with it, and what its thread gave back
pub returned_as : {G : Type 0} (is_open : G → Type 0) (passes : G → ℕ → Bool → G → Type 0) (gate : G) (desk : LockView) (n : ℕ) (opened : Session) (i : ℕ) (p : Known) (w : Worker) (turns : ℕ) (f : Finished G) → IsOpened desk.table n opened.site opened.log i p
    → Ran is_open passes gate desk p w turns f → IsReturned desk opened i f.pass
returned_as is_open passes gate desk n opened i p w turns f o r = record {
  is_of = r.is_of;
  site = r.same.0 ∙ o.1.0;
  own = ap (λ (s : Ids). has s i) r.same.1 ∙ o.2;
  alone = λ k t. o.3 k (ap (λ (s : Ids). has s k) (sym r.same.1) ∙ t);
  later = r.later;
  grown = ap (λ (l : List Line). l ++ r.later) (sym o.1.1) ∙ r.grown;
  below = r.below;
}

pub can_run : (desk : LockView) (n : ℕ) (site : Config) (log : List Line) (i : ℕ) (p : Known) → desk.callers ≡ n → IsOpened desk.table n site log i p → i < n → CanRun desk p
can_run desk n site log i p e o lt = record {
  is_of = (o.0, o.1.2, o.1.3 ∙ sym e);
  below = λ k t. subst (λ (c : ℕ). c < desk.callers) (sym (o.3 k t)) (subst (λ (m : ℕ). i < m) (sym e) lt);
}

some_same : {A : Type 0} (x y : A) → Some x ≡ Some y → x ≡ y
some_same x y e = cc e

own_lines : (desk : LockView) (opened : Session) (all : List Known) (i : ℕ) (p : Known) → slice_get all i ≡ Some p → (r : IsReturned desk opened i p) → (k : ℕ) (q : Known) → k ≡ i → slice_get all k ≡ Some q → AreOwn opened k q r.later
own_lines desk opened all i p at r k q same there =
    let is : p ≡ q = some_same p q (sym at ∙ (ap (slice_get all) (sym same) ∙ there)) in
    (r.later, subst (λ (h : Known). opened.log ++ r.later ≡ h.view.seen) is r.grown, refl)

-- the first pass that is met
pub knows_one : (desk : LockView) (opened : Session) (all : List Known) (i : ℕ) (p : Known) → i + 1 ≡ desk.callers → slice_get all i ≡ Some p → IsReturned desk opened i p → Knows desk opened all i p
knows_one desk opened all i p last at r = record {
  is_of = r.is_of;
  site = r.site;
  later = r.later;
  grown = r.grown;
  below = r.below;
  covers = λ k le lt. let same : i ≡ k = omega arith in subst (λ (c : ℕ). has p.view.ids c ≡ true) same r.own;
  runs = λ k q t there. own_lines desk opened all i p at r k q (r.alone k t) there;
}

either_true : (a b : Bool) → (a || b) ≡ true → (a ≡ true) ⊎ (b ≡ true)
either_true true b e = inl refl
either_true false b e = inr e

left_true : (a b : Bool) → a ≡ true → (a || b) ≡ true
left_true a b e = ap (λ (c : Bool). c || b) e

right_true : (a b : Bool) → b ≡ true → (a || b) ≡ true
right_true true b e = refl
right_true false b e = e

-- one more pass is met
pub knows_more : (desk : LockView) (opened : Session) (all : List Known) (i : ℕ) (p q f : Known) → Knows desk opened all (i + 1) p → slice_get all i ≡ Some f → IsReturned desk opened i f
    → IsOf desk q → q.view.site ≡ p.view.site → ((k : ℕ) → has q.view.ids k ≡ (has p.view.ids k || has f.view.ids k)) → Meet p.view f.view q.view.seen → Knows desk opened all i q
knows_more desk opened all i p q f known there r is_of site ids meet =
    let n : ℕ = p.view.callers in
    let new : List Line = meet.1.0 in
    let later : List Line = known.later ++ new in
    let grown : opened.log ++ later ≡ q.view.seen = sym (append_assoc opened.log known.later new) ∙ (ap (λ (l : List Line). l ++ new) known.grown ∙ meet.1.1) in
    let other : opened.log ++ (r.later ++ meet.2.0) ≡ q.view.seen = sym (append_assoc opened.log r.later meet.2.0) ∙ (ap (λ (l : List Line). l ++ meet.2.0) r.grown ∙ meet.2.1) in
    let same : later ≡ r.later ++ meet.2.0 = append_cancel_left opened.log later (r.later ++ meet.2.0) (grown ∙ sym other) in
    let lines : (k : ℕ) (xs ys : List Line) (s : Ids) → has s k ≡ true → OthersOf n s ys → lines_of k (xs ++ ys) ≡ lines_of k xs =
    λ k xs ys s own o. lines_append k xs ys ∙ (ap (λ (l : List Line). lines_of k xs ++ l) (lines_of_others k n s ys own o) ∙ append-nil (lines_of k xs)) in record {
      is_of = is_of;
      site = site ∙ known.site;
      later = later;
      grown = grown;
      below = callers_joined (λ k. k < desk.callers) known.later new known.below (subst (λ (m : ℕ). Callers (λ k. k < m) new) known.is_of.2 (below_others n p.view.ids new meet.1.2));
      covers = λ k le lt. ids k ∙ dite (ℕ_discrete i k)
          (λ e. right_true (has p.view.ids k) (has f.view.ids k) (subst (λ (c : ℕ). has f.view.ids c ≡ true) e r.own))
          (λ ne. left_true (has p.view.ids k) (has f.view.ids k) (known.covers k (omega arith) lt));
      runs = λ k g t at. ⊎_elim
          (λ (own : has p.view.ids k ≡ true). let a = known.runs k g own at in (a.0, a.1, lines k known.later new p.view.ids own meet.1.2 ∙ a.2))
          (λ (own : has f.view.ids k ≡ true). let a = own_lines desk opened all i f there r k g (r.alone k own) at in (a.0, a.1, ap (lines_of k) same ∙ (lines k r.later meet.2.0 f.view.ids own meet.2.2 ∙ a.2)))
          (either_true (has p.view.ids k) (has f.view.ids k) (sym (ids k) ∙ t));
    }

module _ {A : Type 0} where
  front_get : (xs : List A) (z x : A) (i : ℕ) → slice_get xs i ≡ Some x → slice_get (xs ++ z ∷ []) i ≡ Some x
  front_get [] z x i e = absurd (cc e)
  front_get (y ∷ xs) z x zero e = e
  front_get (y ∷ xs) z x (suc i) e = front_get xs z x i e

  end_get : (xs : List A) (z : A) → slice_get (xs ++ z ∷ []) (length xs) ≡ Some z
  end_get [] z = refl
  end_get (y ∷ xs) z = end_get xs z

  pub popped : (xs ys : List A) (o : Option A) (z : A) → xs ≡ ys ++ option_to_list o → o ≡ Some z → xs ≡ ys ++ z ∷ []
  popped xs ys o z e is = e ∙ ap (λ (q : Option A). ys ++ option_to_list q) is

  pub popped_length : (xs ys : List A) (z : A) → xs ≡ ys ++ z ∷ [] → length xs ≡ length ys + 1
  popped_length xs ys z e = ap length e ∙ length-append ys (z ∷ [])

-- the passes before the last, and the last
pub front_of : (all xs ys : List Known) (z : Known) → xs ≡ ys ++ z ∷ [] → ((j : ℕ) (p : Known) → slice_get xs j ≡ Some p → slice_get all j ≡ Some p) → (j : ℕ) (p : Known) → slice_get ys j ≡ Some p → slice_get all j ≡ Some p
front_of all xs ys z e begins j p at = begins j p (ap (λ (l : List Known). slice_get l j) e ∙ front_get ys z p j at)

pub last_of : (all xs ys : List Known) (z : Known) → xs ≡ ys ++ z ∷ [] → ((j : ℕ) (p : Known) → slice_get xs j ≡ Some p → slice_get all j ≡ Some p) → slice_get all (length ys) ≡ Some z
last_of all xs ys z e begins = begins (length ys) z (ap (λ (l : List Known). slice_get l (length ys)) e ∙ end_get ys z)

module _ {A : Type 0} where
  end_cases : (xs : List A) (x y : A) (j : ℕ) → slice_get (xs ++ x ∷ []) j ≡ Some y → (slice_get xs j ≡ Some y) ⊎ ((j ≡ length xs) × (x ≡ y))
  end_cases [] x y zero e = inr (refl, cc e)
  end_cases [] x y (suc j) e = absurd (cc e)
  end_cases (z ∷ zs) x y zero e = inl e
  end_cases (z ∷ zs) x y (suc j) e = ⊎_elim (λ (t : slice_get zs j ≡ Some y). inl t) (λ (t : (j ≡ length zs) × (x ≡ y)). inr (ap suc t.0, t.1)) (end_cases zs x y j e)

  -- without the first element
  pub get_without_first : (xs : List A) (j : ℕ) (y : A) → slice_get (remove xs 0) j ≡ Some y → slice_get xs (suc j) ≡ Some y
  get_without_first [] j y e = e
  get_without_first (x ∷ xs) j y e = e

  pub one_less : (xs ys : List A) → ys ≡ remove xs 0 → 0 < length xs → length ys + 1 ≡ length xs
  one_less [] ys e some = absurd (omega arith)
  one_less (x ∷ xs) ys e some = let same : length ys ≡ length xs = ap length e in omega arith

module _ {A : Type 0} where
  -- what is left after the first was taken
  pub left_on : (all xs ys : List A) (i n : ℕ) → ys ≡ remove xs 0 → length xs + i ≡ n → i < n → ((j : ℕ) (p : A) → slice_get xs j ≡ Some p → slice_get all (i + j) ≡ Some p)
      → (length ys + (i + 1) ≡ n) × ((j : ℕ) (p : A) → slice_get ys j ≡ Some p → slice_get all (i + 1 + j) ≡ Some p)
  left_on all xs ys i n e many lt left =
      let few : length ys + 1 ≡ length xs = one_less xs ys e (omega arith) in (
        omega arith,
        (λ j p at. let more : i + suc j ≡ i + 1 + j = omega arith in subst (λ (k : ℕ). slice_get all k ≡ Some p) more (left (suc j) p (get_without_first xs j p (ap (λ (l : List A). slice_get l j) (sym e) ∙ at)))),
      )

  pub first_left : (all xs : List A) (i n : ℕ) (x : A) → length xs + i ≡ n → i < n → ((j : ℕ) (p : A) → slice_get xs j ≡ Some p → slice_get all (i + j) ≡ Some p) → x ≡ get_or xs 0 x → slice_get all i ≡ Some x
  first_left all xs i n x many lt left is =
      let some : 0 < length xs = omega arith in
      let none : i + 0 ≡ i = omega arith in
      subst (λ (k : ℕ). slice_get all k ≡ Some x) none (left 0 x (slice_get_read xs (length xs) 0 x refl some is))

  -- one more at the end
  pub end_on : (Q : ℕ → A → Type 0) (xs ys : List A) (x : A) (i : ℕ) → ys ≡ xs ++ x ∷ [] → length xs ≡ i → Q i x → ((j : ℕ) (y : A) → slice_get xs j ≡ Some y → Q j y) → (j : ℕ) (y : A) → slice_get ys j ≡ Some y → Q j y
  end_on Q xs ys x i e many here before j y at = ⊎_elim
      (λ (c : slice_get xs j ≡ Some y). before j y c)
      (λ (c : (j ≡ length xs) × (x ≡ y)). let same : i ≡ j = sym many ∙ sym c.0 in subst (λ (z : A). Q j z) c.1 (subst (λ (k : ℕ). Q k x) same here))
      (end_cases xs x y j (ap (λ (l : List A). slice_get l j) (sym e) ∙ at))

-- one part of what a thread gave back, at its place
pub part_at : {A B : Type 0} (part : A → B) (all : List A) (parts : List B) → parts ≡ map part all → (i : ℕ) (x : A) → slice_get all i ≡ Some x → slice_get parts i ≡ Some (part x)
part_at {A} {B} part all parts are i x at = ap (λ (l : List B). slice_get l i) are ∙ (slice_get-map part all i ∙ ap (option_map part) at)

pub parts_many : {A B : Type 0} (part : A → B) (all : List A) (parts : List B) → parts ≡ map part all → length parts ≡ length all
parts_many part all parts are = ap length are ∙ length-map all part

module _ {G : Type 0} (all : List (Finished G)) (ends : List End) (are : map Ok ends ≡ map (λ f. f.ended) all) where
  pub ended_at : (i : ℕ) (f : Finished G) (e : End) → slice_get all i ≡ Some f → slice_get ends i ≡ Some e → f.ended ≡ Ok e
  ended_at i f e at e_at = sym (some_same (Ok e) f.ended (sym (part_at Ok ends (map (λ f. f.ended) all) (sym are) i e e_at) ∙ part_at (λ (f : Finished G). f.ended) all (map (λ f. f.ended) all) refl i f at))

  pub ended_many : length ends ≡ length all
  ended_many = sym (length-map ends Ok) ∙ (ap length are ∙ length-map all (λ (f : Finished G). f.ended))

-- the threads of passes that a desk opened with, which are the tasks'
module _ {T G : Type 0} (pass : T → Known) (gate : T → G) (worker : T → Worker) (turns : T → ℕ) (is_open : G → Type 0) (passes : G → ℕ → Bool → G → Type 0) (desk : LockView) (n : ℕ) (opened : Session) (seats : List Known) (tasks : List T)
    (are : AreOpened desk.table n opened.site opened.log seats) (made : (i : ℕ) (t : T) → slice_get tasks i ≡ Some t → slice_get seats i ≡ Some (pass t)) where
  pub all_can : desk.callers ≡ n → length tasks ≡ n → (k : ℕ) (d : T) → k < length tasks → CanRun desk (pass (get_or tasks k d))
  all_can e len k d lt = can_run desk n opened.site opened.log k (pass (get_or tasks k d)) e (are k (pass (get_or tasks k d)) (made k (get_or tasks k d) (slice_get-get_or tasks k d lt))) (subst (λ (m : ℕ). k < m) len lt)

  module _ (all : List (Finished G)) (many : length all ≡ length tasks) (each : (i : ℕ) (t : T) (f : Finished G) → slice_get tasks i ≡ Some t → slice_get all i ≡ Some f → Ran is_open passes (gate t) desk (pass t) (worker t) (turns t) f)
      (back : List Known) (back_are : back ≡ map (λ f. f.pass) all) where
    task_at : (i : ℕ) → i < length all → (t : T) × (slice_get tasks i ≡ Some t)
    task_at i lt = ⊎_elim
        (λ (t : (x : T) × (i < length tasks) × (slice_get tasks i ≡ Some x) × (get_or tasks i x ≡ x)). (t.0, t.2))
        (λ (t : (length tasks ≤ i) × (slice_get tasks i ≡ None)). let past : length tasks ≤ i = t.0 in absurd (omega arith))
        (slice_get_cases tasks i).1

    finished_at : (i : ℕ) → i < length all → (f : Finished G) × (slice_get all i ≡ Some f)
    finished_at i lt = ⊎_elim
        (λ (t : (x : Finished G) × (i < length all) × (slice_get all i ≡ Some x) × (get_or all i x ≡ x)). (t.0, t.2))
        (λ (t : (length all ≤ i) × (slice_get all i ≡ None)). let past : length all ≤ i = t.0 in absurd (omega arith))
        (slice_get_cases all i).1

    back_at : (i : ℕ) (f : Finished G) → slice_get all i ≡ Some f → slice_get back i ≡ Some f.pass
    back_at i f at = part_at (λ (f : Finished G). f.pass) all back back_are i f at

    pub all_returned : AreReturned desk opened back
    all_returned i p at =
        let within : i < length back = slice_get_within back i p at in
        let lengths : length back ≡ length all = parts_many (λ (f : Finished G). f.pass) all back back_are in
        let lt : i < length all = omega arith in
        let t = task_at i lt in
        let f = finished_at i lt in
        let returned = returned_as is_open passes (gate t.0) desk n opened i (pass t.0) (worker t.0) (turns t.0) f.0 (are i (pass t.0) (made i t.0 t.1)) (each i t.0 f.0 t.1 f.1) in
        subst (IsReturned desk opened i) (some_same f.0.pass p (sym (back_at i f.0 f.1) ∙ at)) returned

    module _ (after : List G) (after_are : after ≡ map (λ f. f.gate) all) (ends : List End) (ends_are : map Ok ends ≡ map (λ f. f.ended) all) where
      -- one worker's run behind its gate, which is given back
      abbrev Behind : ℕ → G → Worker → ℕ → End → List Line → Type 0
      Behind k y w most e lines = IsRun (is_open y) k w most e lines × ((z : G) → slice_get after k ≡ Some z → IsGated passes y z w most e lines)

      -- what a caller's lines are, where its worker was not ended by want of memory
      run_at : (k : ℕ) (e : End) (t : T) (f : Finished G) → slice_get tasks k ≡ Some t → slice_get all k ≡ Some f → f.ended ≡ Ok e → (later : List Line) → AreOwn opened k f.pass later → Behind k (gate t) (worker t) (turns t) e (lines_of k later)
      run_at k e t f at there ended later own =
          let r = each k t f at there in
          let o = are k (pass t) (made k t at) in
          let least = one_least desk.table n opened.site opened.log k (pass t) o in
          let grown : opened.log ++ r.later ≡ f.pass.view.seen = ap (λ (l : List Line). l ++ r.later) (sym o.1.1) ∙ r.grown in
          let same : own.0 ≡ r.later = append_cancel_left opened.log own.0 r.later (own.1 ∙ sym grown) in
          let run : IsRun (is_open (gate t)) k (worker t) (turns t) e (lines_of k r.later) = if_ok_at (λ end. IsRun (is_open (gate t)) k (worker t) (turns t) end (lines_of k r.later)) f.ended e ended (r.done k least) in
          let gated : IsGated passes (gate t) f.gate (worker t) (turns t) e (lines_of k r.later) = if_ok_at (λ end. IsGated passes (gate t) f.gate (worker t) (turns t) end (lines_of k r.later)) f.ended e ended (r.gated k least) in
          let left : (z : G) → slice_get after k ≡ Some z → f.gate ≡ z = λ z z_at. some_same f.gate z (sym (part_at (λ (f : Finished G). f.gate) all after after_are k f there) ∙ z_at) in
          subst (Behind k (gate t) (worker t) (turns t) e) (sym (own.2 ∙ ap (lines_of k) same)) (run, (λ z z_at. subst (λ (y : G). IsGated passes (gate t) y (worker t) (turns t) e (lines_of k r.later)) (left z z_at) gated))

      -- the console that the desk closes with
      pub runs_on : (workers : List Worker) (gates : List G) (most : ℕ) (p : Known) (closed : Session) → desk.callers ≡ n → length tasks ≡ n
          → ((i : ℕ) (t : T) → slice_get tasks i ≡ Some t → (slice_get gates i ≡ Some (gate t)) × (slice_get workers i ≡ Some (worker t)) × (turns t ≡ most))
          → Knows desk opened back 0 p → closed.site ≡ p.view.site → closed.log ≡ p.view.seen
          → RunsOn opened n (λ k e lines. (w : Worker) (y : G) → slice_get workers k ≡ Some w → slice_get gates k ≡ Some y → Behind k y w most e lines) ends closed
      runs_on workers gates most p closed callers len at_place known site log = record {
        site = site ∙ known.site;
        later = known.later;
        log = known.grown ∙ sym log;
        below = subst (λ (m : ℕ). Callers (λ k. k < m) known.later) callers known.below;
        runs = λ k e at w y w_at y_at.
            let within : k < length ends = slice_get_within ends k e at in
            let lengths : length ends ≡ length all = ended_many all ends ends_are in
            let lt : k < length all = omega arith in
            let below : k < desk.callers = omega arith in
            let t = task_at k lt in
            let f = finished_at k lt in
            let place = at_place k t.0 t.1 in
            let same_gate : gate t.0 ≡ y = some_same (gate t.0) y (sym place.0 ∙ y_at) in
            let same_worker : worker t.0 ≡ w = some_same (worker t.0) w (sym place.1 ∙ w_at) in
            let run = run_at k e t.0 f.0 t.1 f.1 (ended_at all ends ends_are k f.0 e f.1 at) known.later (known.runs k f.0.pass (known.covers k (omega arith) below) (back_at k f.0 f.1)) in
            subst (λ (m : ℕ). Behind k y w m e (lines_of k known.later)) place.2
            (subst (λ (v : Worker). Behind k y v (turns t.0) e (lines_of k known.later)) same_worker (subst (λ (z : G). Behind k z (worker t.0) (turns t.0) e (lines_of k known.later)) same_gate run));
      }

-- the same runs, told otherwise
pub runs_for : (opened : Session) (n m : ℕ) (P Q : ℕ → End → List Line → Type 0) (ends : List End) (s : Session) → n ≡ m → ((k : ℕ) (e : End) (lines : List Line) → slice_get ends k ≡ Some e → P k e lines → Q k e lines) → RunsOn opened n P ends s → RunsOn opened m Q ends s
runs_for opened n m P Q ends s same told r = subst (λ (c : ℕ). RunsOn opened c Q ends s) same (record { site = r.site; later = r.later; log = r.log; below = r.below; runs = λ k e at. told k e _ at (r.runs k e at) })
