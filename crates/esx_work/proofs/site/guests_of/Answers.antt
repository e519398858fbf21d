use Rattle.std.proofs.Common.{◌∙◌, ◌+◌, ℕ, List, map, ap, length, length-append, refl}
use Rattle.std.specs.Borrow.{Bor}
use Rattle.esx_scenario.specs.declared.plan.Guest.{Guest}
use Rattle.esx_workers.specs.declared.worker.Worker.{Worker}
use Rattle.esx_work.specs.Sites.{IsGuestAt}
use Rattle.esx_work.proofs.Meets.{end_on}
use Rattle.esx_work.proofs.Staffs.{guest_at}
use Rattle.esx_work.proofs.site.guests_of.Goals as goal

pub loop-place-preserved : goal.loop-place-preserved
loop-place-preserved c =
    let refs : List (Bor Guest) = c.args.guests.now in
    let x = c.index-guests-place.result in
    let items = c.in_ok-push.ensures.items in (
      ap length items ∙ (length-append c.loop-place.workers.items _ ∙ ap (λ (k : ℕ). k + 1) c.loop-place.invariant.0),
      end_on (λ (j : ℕ) (w : Worker). IsGuestAt c.args.seed (map (λ (g : Bor Guest). g.now) refs) j w) c.loop-place.workers.items c.push.new.self.items _ c.loop-place.place items c.loop-place.invariant.0
          (x.now, guest_at refs c.loop-place.place x c.loop-place-test.true c.index-guests-place.is, refl, c.as_slice.ensures, refl, refl, c.generator.ensures) c.loop-place.invariant.1,
    )
