use Rattle.std.proofs.Common.{◌≡◌, ◌<◌, ap, arith}
use Rattle.esx_model.specs.History.{up_once}
use Rattle.esx_journal.specs.Ways.{ups}
use Rattle.esx_journal.specs.Journal.{Kept}
use Rattle.esx_journal.proofs.Sinking.{climb_first, climb_up, climb_aim, climbed, depth_some}
use Rattle.esx_journal.proofs.journal.Journal.climb.Goals as goal

pub climb-init : goal.climb-init
climb-init c = record { within = c.requires; count = omega arith; climbs = λ h holds. climb_first h c.args.node c.args.self.now holds c.requires }

pub step_up-requires : goal.step_up-requires
step_up-requires c =
    let k = c.self.invariant in
    let d = ap (λ (x : Kept). x.depth) c.self.view_is in
    let t = c.if-self-at.true in
    let deep = depth_some _ k.history k.aim k.holds (omega arith) in
    omega arith

pub climb-preserved-then-self-at : goal.climb-preserved-then-self-at
unfolding up_once
climb-preserved-then-self-at c =
    let v = ap (λ (x : Kept). x.cursor) c.self.view_is in
    let t = c.if-self-at.true in
    let s = c.step_up.ensures.size in
    let w = c.climb.invariant.within in
    record {
      within = omega arith;
      count = c.climb.invariant.count;
      climbs = λ h holds. (let i = c.climb.invariant.climbs h holds in
          climb_up h c.args.node c.climb.self c.step_up.new.self c.climb.at c.climb.down i (omega arith) (c.step_up.ensures.holds (record h { walk = ups i.rise h.walk }) i.aim i.holds));
    }

pub climb-preserved : goal.climb-preserved
climb-preserved c =
    let v = ap (λ (x : Kept). x.cursor) c.self.view_is in
    let f = c.if-self-at.false in
    let t = c.climb-test.true in
    let s = c.aim_at-at.ensures.size in
    let w = c.climb.invariant.within in
    let o = c.aim_at-at.ensures.older in
    let n = c.climb.invariant.count in
    let less : c.climb.self.cursor < c.climb.at = omega arith in
    record {
      within = omega arith;
      count = omega arith;
      climbs = λ h holds. (let i = c.climb.invariant.climbs h holds in
          climb_aim h c.args.node c.climb.self c.aim_at-at.new.self c.climb.at c.climb.down c.aim_at-at.result i less c.aim_at-at.ensures.place
          (c.aim_at-at.ensures.holds (record h { walk = ups i.rise h.walk }) i.aim i.holds));
    }

pub returns : goal.returns
returns c =
    let v = ap (λ (x : Kept). x.cursor) c.self.view_is in
    let f = c.climb-test.false in
    let met : c.climb.self.cursor ≡ c.climb.at = omega arith in
    λ h holds. climbed h c.args.node c.climb.self c.climb.at c.climb.down (c.climb.invariant.climbs h holds) met
