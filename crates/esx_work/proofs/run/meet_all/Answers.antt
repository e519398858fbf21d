use Rattle.std.proofs.Common.{◌∙◌, ℕ, sym, subst, length}
use Rattle.esx_work.specs.Runs.{Knows}
use Rattle.esx_work.proofs.Meets.{knows_one, knows_more, popped, popped_length, front_of, last_of}
use Rattle.esx_work.proofs.run.meet_all.Goals as goal

pub loop-next-init : goal.loop-next-init
loop-next-init c =
    let desk = c.args.desk.now in
    let opened = c.args.opened.now.value in
    let all = c.args.passes.items in
    let ys = c.pop.new.self.items in
    let items = popped all ys c.pop.result c.in-Some.last c.pop.ensures.items c.in-Some.is in
    let there = last_of all all ys c.in-Some.last items (λ j f at. at) in (
      front_of all all ys c.in-Some.last items (λ j f at. at),
      knows_one desk opened all (length ys) c.in-Some.last (sym (popped_length all ys c.in-Some.last items) ∙ c.requires.some.1) there (c.requires.returned (length ys) c.in-Some.last there),
    )

pub meet-met-requires : goal.meet-met-requires
meet-met-requires c =
    let all = c.args.passes.items in
    let ys = c.pop-in-loop-next.new.self.items in
    let f = c.in-Some-pop.next in
    let items = popped c.loop-next.passes.items ys c.pop-in-loop-next.result f c.pop-in-loop-next.ensures.items c.in-Some-pop.is in
    (c.loop-next.invariant.1.is_of, (c.requires.returned (length ys) f (last_of all c.loop-next.passes.items ys f items c.loop-next.invariant.0)).is_of)

pub loop-next-preserved : goal.loop-next-preserved
loop-next-preserved c =
    let desk = c.args.desk.now in
    let opened = c.args.opened.now.value in
    let all = c.args.passes.items in
    let ys = c.pop-in-loop-next.new.self.items in
    let f = c.in-Some-pop.next in
    let items = popped c.loop-next.passes.items ys c.pop-in-loop-next.result f c.pop-in-loop-next.ensures.items c.in-Some-pop.is in
    let there = last_of all c.loop-next.passes.items ys f items c.loop-next.invariant.0 in
    let known = subst (λ (n : ℕ). Knows desk opened all n c.loop-next.met) (popped_length c.loop-next.passes.items ys f items) c.loop-next.invariant.1 in
    let met = c.meet-met.ensures in (
      front_of all c.loop-next.passes.items ys f items c.loop-next.invariant.0,
      knows_more desk opened all (length ys) c.loop-next.met c.meet-met.result f known there (c.requires.returned (length ys) f there) met.kept.0 met.kept.1 met.ids met.meet,
    )
