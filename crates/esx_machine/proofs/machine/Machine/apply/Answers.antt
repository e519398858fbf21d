use Rattle.std.proofs.Common.{◌≡◌, ℕ, reverse, refl, sym, ap, subst, ◌∙◌}
use Rattle.std.specs.List.{count_by}
use Rattle.esx_types.specs.Frames.{is_free}
use Rattle.esx_frames.specs.declared.counts.Counts.{Counts}
use Rattle.esx_formulas.specs.Level.{next_level}
use Rattle.esx_model.specs.declared.scene.Scene.{Scene}
use Rattle.esx_model.specs.Replay.{next}
use Rattle.esx_machine.specs.Machine.{Kept, Back, Shows, Accepts, Refuses, Exchanges}
use Rattle.esx_machine.proofs.Applies.{planned_alike, after, back, accepted, kept_after, refused}
use Rattle.esx_machine.proofs.machine.Machine.apply.Goals as goal

pub returns-in-Err-clause-event : goal.returns-in-Err-clause-event
returns-in-Err-clause-event c =
    let old = c.args.self.now in
    let P : Kept → Type 0 = λ new. (scene : Scene) → Shows old scene → Refuses old new c.in-Err.refusal (next old.config scene c.args.event.now) in
    subst P (sym c.in-Err.ensures.same) (refused old c.args.event.now c.in-Err.refusal c.in-Err.ensures.named c.in-Err.ensures.plans)

pub invariant_of-self : goal.invariant_of-self
invariant_of-self c =
    let k : Kept = record { config = c.self.inside.thresholds; level = c.self.inside.level; tables = c.self.inside.tables } in
    let t = c.exchange_from.new.self in
    let level = c.next-self-inside.result in
    let free : c.counts-free.result.free ≡ count_by is_free t.frames = ap (λ (x : Counts). x.free) c.counts-free.ensures in
    let follows : level ≡ next_level k.config k.level (count_by is_free t.frames) =
    c.next-self-inside.ensures ∙ ap (λ (n : ℕ). next_level k.config k.level n) free in
    let plan = planned_alike k c.args.self.now c.args.event.now (c.in-Ok.plan.answer, c.in-Ok.plan.changes) (c.self.view_is ∙ c.in-Ok.ensures.same) c.in-Ok.ensures.plans in
    kept_after k c.args.event.now c.in-Ok.plan.answer c.in-Ok.plan.changes t (reverse c.exchange_from.new.back) level c.self.invariant
    (record { named = c.in-Ok.ensures.named; plan = plan; tables = c.exchange_from.ensures.tables; changes = c.exchange_from.ensures.back; follows = follows })

pub returns-clause-event : goal.returns-clause-event
returns-clause-event c =
    let k : Kept = record { config = c.self.inside.thresholds; level = c.self.inside.level; tables = c.self.inside.tables } in
    let t = c.exchange_from.new.self in
    let level = c.next-self-inside.result in
    let free : c.counts-free.result.free ≡ count_by is_free t.frames = ap (λ (x : Counts). x.free) c.counts-free.ensures in
    let follows : level ≡ next_level k.config k.level (count_by is_free t.frames) =
    c.next-self-inside.ensures ∙ ap (λ (n : ℕ). next_level k.config k.level n) free in
    let plan = planned_alike k c.args.self.now c.args.event.now (c.in-Ok.plan.answer, c.in-Ok.plan.changes) (c.self.view_is ∙ c.in-Ok.ensures.same) c.in-Ok.ensures.plans in
    let P : Kept → Type 0 = λ old. (scene : Scene) → Shows old scene → Accepts old (after k t level) c.in-Ok.plan.answer (back k (reverse c.exchange_from.new.back)) (next old.config scene c.args.event.now) in
    let Q : Back → Type 0 = λ b. (scene : Scene) → Shows c.args.self.now scene → Accepts c.args.self.now (after k t level) c.in-Ok.plan.answer b (next c.args.self.now.config scene c.args.event.now) in
    subst Q (sym c.leading_back.ensures) (subst P (c.self.view_is ∙ c.in-Ok.ensures.same) (accepted k c.args.event.now c.in-Ok.plan.answer c.in-Ok.plan.changes t (reverse c.exchange_from.new.back) level c.self.invariant
    (record { named = c.in-Ok.ensures.named; plan = plan; tables = c.exchange_from.ensures.tables; changes = c.exchange_from.ensures.back; follows = follows })))

pub returns-clause-exchanges : goal.returns-clause-exchanges
returns-clause-exchanges c =
    let k : Kept = record { config = c.self.inside.thresholds; level = c.self.inside.level; tables = c.self.inside.tables } in
    let t = c.exchange_from.new.self in
    let level = c.next-self-inside.result in
    let plan = planned_alike k c.args.self.now c.args.event.now (c.in-Ok.plan.answer, c.in-Ok.plan.changes) (c.self.view_is ∙ c.in-Ok.ensures.same) c.in-Ok.ensures.plans in
    let P : Kept → Type 0 = λ old. Exchanges old (after k t level) c.args.event.now (back k (reverse c.exchange_from.new.back)) in
    let Q : Back → Type 0 = λ b. Exchanges c.args.self.now (after k t level) c.args.event.now b in
    subst Q (sym c.leading_back.ensures) (subst P (c.self.view_is ∙ c.in-Ok.ensures.same) (record {
      plan = (c.in-Ok.plan.answer, c.in-Ok.plan.changes);
      planned = plan;
      tables = c.exchange_from.ensures.tables;
      level = refl;
      changes = c.exchange_from.ensures.back;
    }))
