use Rattle.std.proofs.Common.{◌≡◌, ◌∙◌, ◌+◌, ◌<◌, ◌≤◌, ◌++◌, ◌∷◌, [], ℕ, Bool, false, true≢false, Some, cond, inl, inr, sym, ap, refl, subst, arith}
use Rattle.esx_door.specs.Own.{line, lines_of}
use Rattle.esx_workers.specs.declared.end.End.{End}
use Rattle.esx_workers.specs.declared.worker.Worker.{Worker}
use Rattle.esx_workers.specs.Passed.{is_passed}
use Rattle.esx_workers.specs.Workers.{asks, hears, rest}
use Rattle.esx_workers.proofs.Going.{on_err, not_other, rest_asked, running_none, broken, ended_rest, running_more, ended_rewound, let_none, let_more, gated_rest, gated_up, gated_rewound, stopped_asking, stopped_calling, made_none, made_more, called_rest, called_rewound, short_asking, short_calling}
use Rattle.esx_workers.proofs.running.run.Goals as goal

pub loop-turn-init : goal.loop-turn-init
loop-turn-init g c = (c.requires, g.met.D.Door.leads_self c.args.door.now, refl, running_none _ _ _, λ o. o, let_none _ _, made_none _ _)

pub loop-turn-preserved : goal.loop-turn-preserved
loop-turn-preserved g c =
    let inv = c.loop-turn.invariant in
    let call = c.in-Some.call in
    let reply = c.in_ok-reply.reply in
    let w : Worker = c.loop-turn.worker in
    let asks_it : asks w ≡ Some call = sym c.in_ok-call.ensures.call ∙ c.in-Some.is in (
      c.submit.ensures.again,
      g.met.D.Door.leads_on c.args.door.now c.loop-turn.door c.submit.new.self inv.1 c.submit.ensures.leads,
      c.submit.ensures.caller ∙ inv.2,
      running_more _ _ _ _ _ _ _ _ inv.3 call reply _
          (subst (λ (k : ℕ). lines_of k (g.D.Door.seen c.submit.new.self) ≡ lines_of k (g.D.Door.seen c.loop-turn.door) ++ line k call reply ∷ []) inv.2 c.in_ok-reply.ensures.ok)
          asks_it c.hear.new.self c.hear-in-loop-turn.new.self.first c.hear-in-loop-turn.new.self.passed
          (c.hear.ensures ∙ ap (λ (v : Worker). hears v reply) c.in_ok-call.ensures.asked)
          c.if-hear.ensures.first
          (c.if-hear.ensures.passed ∙ ap (λ (b : Bool). c.loop-turn.tally.passed + cond (is_passed b reply.said) 1 0) c.is_access-access.ensures)
          (not_other false _ _ refl c.if-hear.ensures.jumped),
      (λ o. (c.pass_through.ensures.open (inv.4 o)).1),
      let_more _ _ _ _ _ _ inv.5 c.pass_through.ensures.passes c.if-not-pass_through.false,
      made_more _ _ _ _ _ call reply inv.6 c.in_ok-reply.ensures.made,
    )

pub returns-in_err-call-clause-err : goal.returns-in_err-call-clause-err
returns-in_err-call-clause-err g c =
    on_err _ (broken _ _ _ _ _ _ _ _ c.loop-turn.invariant.3 c.args.turns _ c.loop-turn-test.true refl) c.from_residual.result

pub returns-in_default-clause-ok : goal.returns-in_default-clause-ok
returns-in_default-clause-ok g c =
    let lt : c.loop-turn.turn < c.args.turns = c.loop-turn-test.true in
    let le : c.loop-turn.turn ≤ c.args.turns = omega arith in
    ended_rest _ _ _ _ _ _ _ _ c.loop-turn.invariant.3 _ c.args.turns c.end.result c.rest.result le c.end.ensures
    (c.rest.ensures ∙ (ap rest c.in_ok-call.ensures.asked ∙ rest_asked c.loop-turn.worker))
    (λ _. inl (sym c.in_ok-call.ensures.call ∙ c.in_default.is))

pub returns-then-not-pass_through-clause-ok : goal.returns-then-not-pass_through-clause-ok
returns-then-not-pass_through-clause-ok g c =
    let lt : c.loop-turn.turn < c.args.turns = c.loop-turn-test.true in
    let le : c.loop-turn.turn ≤ c.args.turns = omega arith in
    ended_rest _ _ _ _ _ _ _ _ c.loop-turn.invariant.3 _ c.args.turns c.end-then-not-pass_through.result c.rest-then-not-pass_through.result le c.end-then-not-pass_through.ensures
    (c.rest-then-not-pass_through.ensures ∙ (ap rest c.in_ok-call.ensures.asked ∙ rest_asked c.loop-turn.worker))
    (λ o. absurd (true≢false (sym (c.pass_through.ensures.open (c.loop-turn.invariant.4 o)).0 ∙ c.if-not-pass_through.true)))

pub returns-in_err-reply-clause-err : goal.returns-in_err-reply-clause-err
returns-in_err-reply-clause-err g c =
    on_err _ (broken _ _ _ _ _ _ _ _ c.loop-turn.invariant.3 c.args.turns _ c.loop-turn-test.true
    (subst (λ (k : ℕ). lines_of k (g.D.Door.seen c.submit.new.self) ≡ lines_of k (g.D.Door.seen c.loop-turn.door)) c.loop-turn.invariant.2 c.in_err-reply.ensures.err)) c.from_residual-in_err-reply.result

pub returns-then-hear-clause-ok : goal.returns-then-hear-clause-ok
returns-then-hear-clause-ok g c =
    let inv = c.loop-turn.invariant in
    let call = c.in-Some.call in
    let reply = c.in_ok-reply.reply in
    let w : Worker = c.loop-turn.worker in
    let asks_it : asks w ≡ Some call = sym c.in_ok-call.ensures.call ∙ c.in-Some.is in
    let lt : c.loop-turn.turn < c.args.turns = c.loop-turn-test.true in
    let le : c.loop-turn.turn + 1 ≤ c.args.turns = omega arith in
    ended_rewound _ _ _ _ _ _ _ _ inv.3 call reply _
    (subst (λ (k : ℕ). lines_of k (g.D.Door.seen c.submit.new.self) ≡ lines_of k (g.D.Door.seen c.loop-turn.door) ++ line k call reply ∷ []) inv.2 c.in_ok-reply.ensures.ok)
    asks_it _ c.args.turns c.hear-in-loop-turn.new.self.passed c.end-then-hear.result le c.end-then-hear.ensures
    (c.if-hear.ensures.passed ∙ ap (λ (b : Bool). c.loop-turn.tally.passed + cond (is_passed b reply.said) 1 0) c.is_access-access.ensures)
    (c.if-hear.ensures.jumped.0 refl)

pub returns-clause-ok : goal.returns-clause-ok
returns-clause-ok g c =
    let above : c.loop-turn.turn ≤ c.args.turns = c.loop-turn.auto.turn-end in
    let below : c.args.turns ≤ c.loop-turn.turn = c.loop-turn-test.false in
    let end : c.loop-turn.turn ≡ c.args.turns = omega arith in
    ended_rest _ _ _ _ _ _ _ _ c.loop-turn.invariant.3 _ c.args.turns c.end-2.result c.rest-2.result above c.end-2.ensures c.rest-2.ensures (λ _. inr end)

pub returns-in_default-clause-gate : goal.returns-in_default-clause-gate
returns-in_default-clause-gate g c = gated_rest _ _ _ _ _ _ _ _ c.loop-turn.invariant.3 _ _ _ c.args.turns c.end.result _ refl c.loop-turn.invariant.5 (inl (sym c.in_ok-call.ensures.call ∙ c.in_default.is))

pub returns-then-not-pass_through-clause-gate : goal.returns-then-not-pass_through-clause-gate
returns-then-not-pass_through-clause-gate g c =
    gated_up _ _ _ _ _ _ _ _ c.loop-turn.invariant.3 _ _ _ _ _ c.args.turns c.end-then-not-pass_through.result c.in-Some.call _ refl c.loop-turn.invariant.5 c.pass_through.ensures.passes c.if-not-pass_through.true
    c.loop-turn-test.true
    (sym c.in_ok-call.ensures.call ∙ c.in-Some.is)
    (ap (λ (e : End). e.how) c.end-then-not-pass_through.ensures ∙ (c.rest-then-not-pass_through.ensures ∙ (ap rest c.in_ok-call.ensures.asked ∙ rest_asked c.loop-turn.worker)))

pub returns-then-hear-clause-gate : goal.returns-then-hear-clause-gate
returns-then-hear-clause-gate g c =
    let inv = c.loop-turn.invariant in
    let call = c.in-Some.call in
    let reply = c.in_ok-reply.reply in
    let w : Worker = c.loop-turn.worker in
    let asks_it : asks w ≡ Some call = sym c.in_ok-call.ensures.call ∙ c.in-Some.is in
    gated_rewound _ _ _ _ _ _ _ _ inv.3 call reply _
    (subst (λ (k : ℕ). lines_of k (g.D.Door.seen c.submit.new.self) ≡ lines_of k (g.D.Door.seen c.loop-turn.door) ++ line k call reply ∷ []) inv.2 c.in_ok-reply.ensures.ok)
    asks_it _ _ _ c.args.turns c.end-then-hear.result
    (let_more _ _ _ _ _ _ inv.5 c.pass_through.ensures.passes c.if-not-pass_through.false)
    (ap (λ (e : End). e.how) c.end-then-hear.ensures)

pub returns-clause-gate : goal.returns-clause-gate
returns-clause-gate g c =
    let above : c.loop-turn.turn ≤ c.args.turns = c.loop-turn.auto.turn-end in
    let below : c.args.turns ≤ c.loop-turn.turn = c.loop-turn-test.false in
    let end : c.loop-turn.turn ≡ c.args.turns = omega arith in
    gated_rest _ _ _ _ _ _ _ _ c.loop-turn.invariant.3 _ _ _ c.args.turns c.end-2.result _ refl c.loop-turn.invariant.5 (inr end)

pub returns-in_err-call-clause-stopped : goal.returns-in_err-call-clause-stopped
returns-in_err-call-clause-stopped g c = on_err _ (stopped_asking _ _ _ _ _ _ _ _ c.loop-turn.invariant.3 _ _ _ _ refl c.loop-turn.invariant.5) c.from_residual.result

pub returns-in_err-reply-clause-stopped : goal.returns-in_err-reply-clause-stopped
returns-in_err-reply-clause-stopped g c =
    on_err _ (stopped_calling _ _ _ _ _ _ _ _ c.loop-turn.invariant.3 _ _ _ _ _ c.in-Some.call _
    (subst (λ (k : ℕ). lines_of k (g.D.Door.seen c.submit.new.self) ≡ lines_of k (g.D.Door.seen c.loop-turn.door)) c.loop-turn.invariant.2 c.in_err-reply.ensures.err)
    c.loop-turn.invariant.5 c.pass_through.ensures.passes c.if-not-pass_through.false (sym c.in_ok-call.ensures.call ∙ c.in-Some.is)) c.from_residual-in_err-reply.result

pub returns-in_default-clause-made : goal.returns-in_default-clause-made
returns-in_default-clause-made g c = called_rest _ _ _ _ _ _ _ _ c.loop-turn.invariant.3 _ _ _ _ _ refl refl c.loop-turn.invariant.6

pub returns-then-not-pass_through-clause-made : goal.returns-then-not-pass_through-clause-made
returns-then-not-pass_through-clause-made g c = called_rest _ _ _ _ _ _ _ _ c.loop-turn.invariant.3 _ _ _ _ _ refl refl c.loop-turn.invariant.6

pub returns-clause-made : goal.returns-clause-made
returns-clause-made g c = called_rest _ _ _ _ _ _ _ _ c.loop-turn.invariant.3 _ _ _ _ _ refl refl c.loop-turn.invariant.6

pub returns-then-hear-clause-made : goal.returns-then-hear-clause-made
returns-then-hear-clause-made g c =
    let inv = c.loop-turn.invariant in
    let call = c.in-Some.call in
    let reply = c.in_ok-reply.reply in
    let w : Worker = c.loop-turn.worker in
    let asks_it : asks w ≡ Some call = sym c.in_ok-call.ensures.call ∙ c.in-Some.is in
    called_rewound _ _ _ _ _ _ _ _ inv.3 call reply _
    (subst (λ (k : ℕ). lines_of k (g.D.Door.seen c.submit.new.self) ≡ lines_of k (g.D.Door.seen c.loop-turn.door) ++ line k call reply ∷ []) inv.2 c.in_ok-reply.ensures.ok)
    asks_it _ _ _ _ inv.6 c.in_ok-reply.ensures.made

pub returns-in_err-call-clause-wanted : goal.returns-in_err-call-clause-wanted
returns-in_err-call-clause-wanted g c = on_err _ (short_asking _ _ _ _ _ _ _ _ c.loop-turn.invariant.3 _ _ _ _ _ _ _ _ refl c.loop-turn.invariant.5 c.loop-turn.invariant.6 c.in_err-call.ensures.late) c.from_residual.result

pub returns-in_err-reply-clause-wanted : goal.returns-in_err-reply-clause-wanted
returns-in_err-reply-clause-wanted g c =
    on_err _ (short_calling _ _ _ _ _ _ _ _ c.loop-turn.invariant.3 _ _ _ _ _ _ _ _ _ _ c.in-Some.call _
    (subst (λ (k : ℕ). lines_of k (g.D.Door.seen c.submit.new.self) ≡ lines_of k (g.D.Door.seen c.loop-turn.door)) c.loop-turn.invariant.2 c.in_err-reply.ensures.err)
    c.loop-turn.invariant.5 c.pass_through.ensures.passes c.if-not-pass_through.false c.loop-turn.invariant.6 (sym c.in_ok-call.ensures.call ∙ c.in-Some.is) c.in_err-reply.ensures.wanted) c.from_residual-in_err-reply.result
