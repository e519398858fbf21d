-- The lines of a worker, one more at a time.
use Rattle.std.proofs.Common.{◌≡◌, ◌≢◌, ◌⊎◌, inl, inr, ℕ, ◌+◌, ◌<◌, ◌≤◌, ◌↔◌, Bool, true, false, true≢false, IsTrue, cond, List, [], ◌∷◌, ◌++◌, length, length-append, append_assoc, append-nil, count_by, Option, Some, None, Result, Ok, Err, OnErr, refl, sym, ap, ◌∙◌, subst, add-zero, add-one, slice_get, arith}
use native.Mathlib.Decide.{ℕ_discrete}
use mathlib.Core.Logic.{dite}
use Rattle.std.proofs.lemmas.List.Sums.{sum_by-append, sum_by-cons}
use Rattle.esx_events.specs.declared.call.Call.{Call}
use Rattle.esx_events.specs.declared.call.Reply.{Reply}
use Rattle.esx_events.specs.declared.call.Line.{Line}
use Rattle.esx_door.specs.Calls.{AreMade}
use Rattle.esx_door.specs.Gates.{LetThrough, GaveUp}
use Rattle.esx_door.specs.Own.{line}
use Rattle.esx_workers.specs.declared.end.How.{How}
use Rattle.esx_workers.specs.declared.end.How.TheVariants.{Rewound, Turns}
use Rattle.esx_workers.specs.declared.end.End.{End}
use Rattle.esx_scenario.specs.declared.plan.TraceLine.{TraceLine}
use Rattle.esx_workers.specs.declared.visiting.Step.{Step}
use Rattle.esx_workers.specs.declared.worker.Worker.{Worker}
use Rattle.esx_workers.specs.declared.worker.Worker.TheVariants.{Guest, Sharer, Swapper, Policy}
use Rattle.esx_workers.specs.Passed.{may_want, is_access_call, is_passed, is_passed_over, first_of}
use Rattle.esx_workers.specs.Visiting.{call_at_line, rest_at}
use Rattle.esx_workers.specs.Workers.{asks, asked, rest}
use Rattle.esx_workers.specs.Runs.{goes_on, worker_after, AreAsked, AreAfter, IsStraight, IsRewound, Ended, Broken, Since, Running, Gated, Stopped, Called, Short}

pub on_err : {T E : Type 0} (P : Type 0) → P → (r : Result T E) → OnErr r P
on_err P p (Ok x) = tt
on_err P p (Err e) = p

-- a test for other numbers that failed
pub not_other : (b : Bool) (m n : ℕ) → b ≡ false → IsTrue b ↔ (m ≢ n) → m ≡ n
not_other b m n failed test = dite (ℕ_discrete m n) (λ e. e) (λ ne. absurd (true≢false (sym (test.1 ne) ∙ failed)))

-- a worker rests as it did before it asked
pub rest_asked : (w : Worker) → rest (asked w) ≡ rest w
rest_asked (Guest w) = refl
rest_asked (Sharer w) = refl
rest_asked (Swapper w) = refl
rest_asked (Policy w) = refl

line_left : (vm : ℕ) (s : Step) (line : Option TraceLine) (call : Call) → call_at_line vm s line ≡ Some call → rest_at line ≡ Turns
line_left vm s None call e = absurd (cc)
line_left vm s (Some line) call e = refl

-- a worker that has a call to make ends for want of turns
pub asks_rest : (w : Worker) (call : Call) → asks w ≡ Some call → rest w ≡ Turns
asks_rest (Guest w) call e = line_left w.vm w.step (slice_get w.trace.now w.next) call e
asks_rest (Sharer w) call e = refl
asks_rest (Swapper w) call e = refl
asks_rest (Policy w) call e = refl

module _ {D : Type 0} (made : D → Call → Reply → D → Type 0) where
  pub made_none : (d : D) → AreMade made 0 d d
  unfolding AreMade
  made_none d = refl

  pub made_more : (n : ℕ) (d m e : D) (call : Call) (reply : Reply) → AreMade made n d m → made m call reply e → AreMade made (n + 1) d e
  unfolding AreMade
  made_more n d m e call reply before at = subst (λ (i : ℕ). AreMade made i d e) (sym (add-one n)) (m, before, (call, reply, at))

module _ {G : Type 0} (passes : G → ℕ → Bool → G → Type 0) where
  pub let_none : (g : G) → LetThrough passes 0 g g
  unfolding LetThrough
  let_none g = refl

  -- passed once more, with this answer
  pub let_more : (n : ℕ) (g m h : G) (b : Bool) → LetThrough passes n g m → passes m (n + 1) b h → b ≡ true → LetThrough passes (n + 1) g h
  unfolding LetThrough
  let_more n g m h b before at is =
      let through : passes m (n + 1) true h = subst (λ (c : Bool). passes m (n + 1) c h) is at in
      subst (λ (i : ℕ). LetThrough passes i g h) (sym (add-one n)) (m, before, subst (λ (i : ℕ). passes m i true h) (add-one n) through)

  pub gave_up : (n : ℕ) (g m h : G) (b : Bool) → LetThrough passes n g m → passes m (n + 1) b h → b ≡ false → GaveUp passes n g h
  gave_up n g m h b before at is =
      let up : passes m (n + 1) false h = subst (λ (c : Bool). passes m (n + 1) c h) is at in
      (m, before, subst (λ (i : ℕ). passes m i false h) (add-one n) up)

pub worker_after_end : (w : Worker) (xs : List Line) (x : Line) → worker_after w (xs ++ x ∷ []) ≡ goes_on (worker_after w xs) x.reply
unfolding worker_after
worker_after_end w [] x = refl
worker_after_end w (y ∷ xs) x = worker_after_end (goes_on w y.reply) xs x

pub are_asked_end : (k : ℕ) (w : Worker) (xs : List Line) (x : Line) → AreAsked k w xs → x.caller ≡ k → asks (worker_after w xs) ≡ Some x.call → AreAsked k w (xs ++ x ∷ [])
unfolding worker_after AreAsked
are_asked_end k w [] x are own call = (own, call, tt)
are_asked_end k w (y ∷ xs) x are own call = (are.0, are.1, are_asked_end k (goes_on w y.reply) xs x are.2 own call)

pub are_after_end : (jumps : ℕ) (xs : List Line) (x : Line) → AreAfter jumps xs → x.reply.jumps ≡ jumps → AreAfter jumps (xs ++ x ∷ [])
unfolding AreAfter
are_after_end jumps [] x are same = (same, tt)
are_after_end jumps (y ∷ xs) x are same = (are.0, are_after_end jumps xs x are.1 same)

pub count_end : (p : Line → Bool) (xs : List Line) (x : Line) → count_by p (xs ++ x ∷ []) ≡ count_by p xs + cond (p x) 1 0
count_end p xs x =
    let one : Line → ℕ = λ y. cond (p y) 1 0 in
    sum_by-append one xs (x ∷ []) ∙ ap (λ (n : ℕ). count_by p xs + n) (sum_by-cons one x [] ∙ add-zero (one x))

no_lines : AreAfter 0 []
unfolding AreAfter
no_lines = tt

one_line : (x : Line) → AreAfter x.reply.jumps (x ∷ [])
unfolding AreAfter
one_line x = (refl, tt)

-- no reply, or replies after as many jumps as the first
pub since_straight : (first : Option ℕ) (xs : List Line) → Since first xs → IsStraight xs
since_straight None xs none = (0, subst (AreAfter 0) (sym none) no_lines)
since_straight (Some jumps) xs since = (jumps, since.1)

since_more : (first : Option ℕ) (xs : List Line) (x : Line) → Since first xs → x.reply.jumps ≡ first_of first x.reply.jumps → Since (Some (first_of first x.reply.jumps)) (xs ++ x ∷ [])
since_more None xs x none same = subst (λ (l : List Line). (0 < length (l ++ x ∷ [])) × AreAfter x.reply.jumps (l ++ x ∷ [])) (sym none) (omega arith, one_line x)
since_more (Some jumps) xs x since same = let longer : length (xs ++ x ∷ []) ≡ length xs + 1 = length-append xs (x ∷ []) in (omega arith, are_after_end jumps xs x since.1 same)

since_jumped : (first : Option ℕ) (xs : List Line) (x : Line) → Since first xs → x.reply.jumps ≢ first_of first x.reply.jumps → IsRewound (xs ++ x ∷ [])
since_jumped None xs x none other = absurd (other refl)
since_jumped (Some jumps) xs x since other = record { before = xs; last = x; are = refl; some = since.0; jumps = jumps; straight = since.1; jumped = other }

pub running_none : (k : ℕ) (w : Worker) (log : List Line) → Running k w w None 0 0 log log
unfolding worker_after AreAsked
running_none k w log = record { lines = []; more = sym (append-nil log); are = tt; now_is = refl; many = refl; passed_are = refl; since = refl }

module _ (k : ℕ) (w now : Worker) (first : Option ℕ) (passed turn : ℕ) (a b : List Line) (r : Running k w now first passed turn a b) where
  pub broken : (turns : ℕ) (d : List Line) → turn < turns → d ≡ b → Broken k w turns a d
  broken turns d lt same = record { lines = r.lines; more = same ∙ r.more; run = record { are = r.are; most = subst (λ (n : ℕ). n < turns) (sym r.many) lt; straight = since_straight first r.lines r.since } }

  pub ended_rest : (let_through : Type 0) (turns : ℕ) (end : End) (how : How) → turn ≤ turns → end ≡ record { how = how; passed = passed } → how ≡ rest now
      → (let_through → (asks now ≡ None) ⊎ (turn ≡ turns)) → Ended let_through k w turns end a b
  ended_rest let_through turns end how le same rests out = record {
    lines = r.lines;
    more = r.more;
    run = record {
      are = r.are;
      most = subst (λ (n : ℕ). n ≤ turns) (sym r.many) le;
      passed = ap (λ (e : End). e.passed) same ∙ r.passed_are;
      why = inr (since_straight first r.lines r.since, ap (λ (e : End). e.how) same ∙ (rests ∙ ap rest r.now_is));
      all = λ through _. subst (λ (n : ℕ). (asks (worker_after w r.lines) ≡ None) ⊎ (n ≡ turns)) (sym r.many) (subst (λ (v : Worker). (asks v ≡ None) ⊎ (turn ≡ turns)) r.now_is (out through));
    };
  }

  pub called_rest : {D : Type 0} (made : D → Call → Reply → D → Type 0) (d e : D) (n : ℕ) (l : List Line) → n ≡ turn → l ≡ b → AreMade made n d e → Called made d e a l
  called_rest made d e n l is same all = record { lines = r.lines; more = same ∙ r.more; all = subst (λ (i : ℕ). AreMade made i d e) (is ∙ sym r.many) all }

  pub short_asking : {G D : Type 0} (passes : G → ℕ → Bool → G → Type 0) (made : D → Call → Reply → D → Type 0) (wanted : D → Call → D → Type 0) (g h : G) (d e : D) (l : List Line) → l ≡ b
      → LetThrough passes turn g h → AreMade made turn d e → may_want (asks now) ≡ true → Short passes made wanted g h d e w a l
  short_asking passes made wanted g h d e l same passed all room = record {
    lines = r.lines;
    more = same ∙ r.more;
    how = inl (subst (λ (n : ℕ). LetThrough passes n g h) (sym r.many) passed, subst (λ (n : ℕ). AreMade made n d e) (sym r.many) all, ap (λ (v : Worker). may_want (asks v)) (sym r.now_is) ∙ room);
  }

  pub short_calling : {G D : Type 0} (passes : G → ℕ → Bool → G → Type 0) (made : D → Call → Reply → D → Type 0) (wanted : D → Call → D → Type 0) (g n h : G) (d m e : D) (answer : Bool) (call : Call) (l : List Line) → l ≡ b
      → LetThrough passes turn g n → passes n (turn + 1) answer h → answer ≡ true → AreMade made turn d m → asks now ≡ Some call → wanted m call e → Short passes made wanted g h d e w a l
  short_calling passes made wanted g n h d m e answer call l same passed at is all asks_it want = record {
    lines = r.lines;
    more = same ∙ r.more;
    how = inr (subst (λ (n : ℕ). LetThrough passes (n + 1) g h) (sym r.many) (let_more passes turn g n h answer passed at is), (m, call, subst (λ (n : ℕ). AreMade made n d m) (sym r.many) all, ap asks (sym r.now_is) ∙ asks_it, want));
  }

  module _ {G : Type 0} (passes : G → ℕ → Bool → G → Type 0) where
    pub stopped_asking : (g h : G) (d : List Line) → d ≡ b → LetThrough passes turn g h → Stopped passes g h w a d
    stopped_asking g h d same passed = record { lines = r.lines; more = same ∙ r.more; gate = inl (subst (λ (n : ℕ). LetThrough passes n g h) (sym r.many) passed) }

    pub stopped_calling : (g m h : G) (answer : Bool) (call : Call) (d : List Line) → d ≡ b → LetThrough passes turn g m → passes m (turn + 1) answer h → answer ≡ true → asks now ≡ Some call → Stopped passes g h w a d
    stopped_calling g m h answer call d same passed at is asks_it = record {
      lines = r.lines;
      more = same ∙ r.more;
      gate = inr (subst (λ (n : ℕ). LetThrough passes (n + 1) g h) (sym r.many) (let_more passes turn g m h answer passed at is), (call, ap asks (sym r.now_is) ∙ asks_it));
    }

    pub gated_rest : (g h : G) (turns : ℕ) (end : End) (d : List Line) → d ≡ b → LetThrough passes turn g h → (asks now ≡ None) ⊎ (turn ≡ turns) → Gated passes g h w turns end a d
    gated_rest g h turns end d same passed out = record {
      lines = r.lines;
      more = same ∙ r.more;
      gate = inl (subst (λ (n : ℕ). LetThrough passes n g h) (sym r.many) passed, inr (subst (λ (n : ℕ). (asks (worker_after w r.lines) ≡ None) ⊎ (n ≡ turns)) (sym r.many) (subst (λ (v : Worker). (asks v ≡ None) ⊎ (turn ≡ turns)) r.now_is out)));
    }

    pub gated_up : (g m h : G) (answer : Bool) (turns : ℕ) (end : End) (call : Call) (d : List Line) → d ≡ b → LetThrough passes turn g m → passes m (turn + 1) answer h → answer ≡ false → turn < turns → asks now ≡ Some call → end.how ≡ rest now → Gated passes g h w turns end a d
    gated_up g m h answer turns end call d same passed at is lt asks_it rests = record {
      lines = r.lines;
      more = same ∙ r.more;
      gate = inr (
        subst (λ (n : ℕ). GaveUp passes n g h) (sym r.many) (gave_up passes turn g m h answer passed at is),
        rests ∙ asks_rest now call asks_it,
        subst (λ (n : ℕ). n < turns) (sym r.many) lt,
        (call, ap asks (sym r.now_is) ∙ asks_it),
      );
    }

  module _ (call : Call) (reply : Reply) (d : List Line) (longer : d ≡ b ++ line k call reply ∷ []) (asks_it : asks now ≡ Some call) where
    more_lines : d ≡ a ++ (r.lines ++ line k call reply ∷ [])
    more_lines = longer ∙ (ap (λ (l : List Line). l ++ line k call reply ∷ []) r.more ∙ append_assoc a r.lines (line k call reply ∷ []))

    more_asked : AreAsked k w (r.lines ++ line k call reply ∷ [])
    more_asked = are_asked_end k w r.lines (line k call reply) r.are refl (ap asks (sym r.now_is) ∙ asks_it)

    more_many : length (r.lines ++ line k call reply ∷ []) ≡ turn + 1
    more_many = length-append r.lines (line k call reply ∷ []) ∙ ap (λ (n : ℕ). n + 1) r.many

    more_passed : passed + cond (is_passed (is_access_call call) reply.said) 1 0 ≡ count_by is_passed_over (r.lines ++ line k call reply ∷ [])
    more_passed = ap (λ (n : ℕ). n + cond (is_passed (is_access_call call) reply.said) 1 0) r.passed_are ∙ sym (count_end is_passed_over r.lines (line k call reply))

    pub running_more : (now' : Worker) (first' : Option ℕ) (passed' : ℕ) → now' ≡ goes_on now reply → first' ≡ Some (first_of first reply.jumps) → passed' ≡ passed + cond (is_passed (is_access_call call) reply.said) 1 0
        → reply.jumps ≡ first_of first reply.jumps → Running k w now' first' passed' (turn + 1) a d
    running_more now' first' passed' now_is first_is passed_is same = record {
      lines = r.lines ++ line k call reply ∷ [];
      more = more_lines;
      are = more_asked;
      now_is = now_is ∙ (ap (λ (v : Worker). goes_on v reply) r.now_is ∙ sym (worker_after_end w r.lines (line k call reply)));
      many = more_many;
      passed_are = passed_is ∙ more_passed;
      since = subst (λ (f : Option ℕ). Since f (r.lines ++ line k call reply ∷ [])) (sym first_is) (since_more first r.lines (line k call reply) r.since same);
    }

    pub ended_rewound : (let_through : Type 0) (turns passed' : ℕ) (end : End) → turn + 1 ≤ turns → end ≡ record { how = Rewound; passed = passed' } → passed' ≡ passed + cond (is_passed (is_access_call call) reply.said) 1 0
        → reply.jumps ≢ first_of first reply.jumps → Ended let_through k w turns end a d
    ended_rewound let_through turns passed' end le same passed_is other = record {
      lines = r.lines ++ line k call reply ∷ [];
      more = more_lines;
      run = record {
        are = more_asked;
        most = subst (λ (n : ℕ). n ≤ turns) (sym more_many) le;
        passed = ap (λ (e : End). e.passed) same ∙ (passed_is ∙ more_passed);
        why = inl (since_jumped first r.lines (line k call reply) r.since other, ap (λ (e : End). e.how) same);
        all = λ _ not_rewound. absurd (not_rewound (ap (λ (e : End). e.how) same));
      };
    }

    pub gated_rewound : {G : Type 0} (passes : G → ℕ → Bool → G → Type 0) (g h : G) (turns : ℕ) (end : End) → LetThrough passes (turn + 1) g h → end.how ≡ Rewound → Gated passes g h w turns end a d
    gated_rewound passes g h turns end passed how = record {
      lines = r.lines ++ line k call reply ∷ [];
      more = more_lines;
      gate = inl (subst (λ (n : ℕ). LetThrough passes n g h) (sym more_many) passed, inl how);
    }

    pub called_rewound : {D : Type 0} (made : D → Call → Reply → D → Type 0) (x m e : D) → AreMade made turn x m → made m call reply e → Called made x e a d
    called_rewound made x m e all at = record {
      lines = r.lines ++ line k call reply ∷ [];
      more = more_lines;
      all = subst (λ (n : ℕ). AreMade made n x e) (sym more_many) (made_more made turn x m e call reply all at);
    }
