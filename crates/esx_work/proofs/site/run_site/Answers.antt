use Rattle.std.proofs.Common.{◌≡◌, ◌∙◌, ◌+◌, ℕ, List, Some, map, ap, sym, subst, length, slice_get}
use Rattle.std.specs.Borrow.{Bor}
use Rattle.esx_events.specs.declared.call.Line.{Line}
use Rattle.esx_events.specs.declared.event.Refusal.{Refusal}
use Rattle.esx_scenario.specs.declared.plan.Guest.{Guest}
use Rattle.esx_scenario.specs.Plans.{Plan}
use Rattle.esx_opening.specs.Orders.{in_order}
use Rattle.esx_opening.specs.declared.opening.SiteFault.TheVariants as faults
use Rattle.esx_opening.proofs.InTurn.{handed_on}
use Rattle.esx_workers.specs.declared.end.End.{End}
use Rattle.esx_workers.specs.declared.machine.Machine.{Machine}
use Rattle.esx_workers.specs.declared.worker.Worker.{Worker}
use Rattle.esx_workers.specs.Runs.{IsRun, IsGated}
use Rattle.esx_work.specs.Sites.{AreMachines, IsRunOf, IsGatedRunOf}
use Rattle.esx_work.proofs.Meets.{runs_for}
use Rattle.esx_work.proofs.Alone.{guests_alone, ungated}
use Rattle.esx_work.proofs.Staffs.{all_some, run_of, gated_of}
use Rattle.esx_work.proofs.site.run_site.Goals as goal

pub machines_of-requires : goal.machines_of-requires
machines_of-requires g c =
    let refs : List (Bor Guest) = c.deref.result.now in
    let order : map (λ (g : Bor Guest). g.now) refs ≡ in_order c.args.scenario.now.guests = ap (λ (l : List (Bor Guest)). map (λ (g : Bor Guest). g.now) l) c.deref.ensures.value ∙ (c.in_ok-guests.ensures.items ∙ ap in_order c.guests.ensures.same) in
    all_some c.args.scenario.now refs c.guests.ensures.good order

pub returns-in_err-console-clause-refused : goal.returns-in_err-console-clause-refused
returns-in_err-console-clause-refused g c = handed_on c.from_residual.result c.in_err-console.field-0.0 _ c.from_residual.ensures.1 (λ e is. c.in_err-console.ensures.refused e is)

-- want of memory is no refusal
no_refusal : (e : Refusal) → faults.OutOfMemory ≡ faults.Refused e → ⊥
no_refusal e is = cc

pub returns-in_err-guests-clause-refused : goal.returns-in_err-guests-clause-refused
returns-in_err-guests-clause-refused g c = handed_on c.from_residual-in_err-guests.result faults.OutOfMemory _ c.from_residual-in_err-guests.ensures.1 (λ e is. absurd (no_refusal e is))

pub returns-in_err-machines-clause-refused : goal.returns-in_err-machines-clause-refused
returns-in_err-machines-clause-refused g c = handed_on c.from_residual-in_err-machines.result faults.OutOfMemory _ c.from_residual-in_err-machines.ensures.1 (λ e is. absurd (no_refusal e is))

pub returns-in_err-workers-clause-refused : goal.returns-in_err-workers-clause-refused
returns-in_err-workers-clause-refused g c = handed_on c.from_residual-in_err-workers.result faults.OutOfMemory _ c.from_residual-in_err-workers.ensures.1 (λ e is. absurd (no_refusal e is))

pub returns : goal.returns
returns g c =
    let p : Plan = c.args.scenario.now in
    let refs : List (Bor Guest) = c.deref-2.result.now in
    let staff : List Worker = c.in_ok-workers.workers.items in
    let gates : List g.row.G.Denot = c.args.gates.items in
    let ran = c.in_ok-run_workers.field-0 in
    let ends : List End = ran.ends.items in
    let after : List g.row.G.Denot = ran.gates.items in
    let settings = c.settings-settings.result in
    let done = c.in_ok-run_workers.ensures in
    let order : map (λ (g : Bor Guest). g.now) refs ≡ in_order p.guests = ap (λ (l : List (Bor Guest)). map (λ (g : Bor Guest). g.now) l) c.deref-2.ensures.value ∙ (c.in_ok-guests.ensures.items ∙ ap in_order c.guests.ensures.same) in
    let are : AreMachines (map (λ (g : Bor Guest). g.now) refs) c.deref-3.result.now =
    subst (λ (ms : List Machine). AreMachines (map (λ (g : Bor Guest). g.now) refs) ms) (sym c.deref-3.ensures.value)
    (subst (λ (l : List (Bor Guest)). AreMachines (map (λ (g : Bor Guest). g.now) l) c.in_ok-machines.machines.items) (c.deref.ensures.value ∙ sym c.deref-2.ensures.value) c.in_ok-machines.ensures) in
    let many : length staff ≡ length p.guests + 3 = c.in_ok-workers.ensures.many ∙ ap (λ (k : ℕ). k + 3) (ap length c.deref-2.ensures.value ∙ (c.in_ok-guests.ensures.many ∙ ap length c.guests.ensures.same)) in record {
      many = (done.ends ∙ many, done.many ∙ many);
      runs = (
        c.in_ok-console.console,
        c.in_ok-console.ensures.ok,
        runs_for c.in_ok-console.console (length staff) (length p.guests + 3)
            (λ (k : ℕ) (e : End) (lines : List Line). (w : Worker) (y : g.row.G.Denot) → slice_get staff k ≡ Some w → slice_get gates k ≡ Some y → IsRun (g.G.Gate.is_open y) k w settings.turns e lines)
            (λ (k : ℕ) (e : End) (lines : List Line). (y : g.row.G.Denot) → slice_get gates k ≡ Some y → IsRunOf p (g.G.Gate.is_open y) k e lines)
            ends ran.console many
            (run_of g.G.Gate.is_open g.G.Gate.passes p settings c.settings-settings.ensures (map (λ (g : Bor Guest). g.now) refs) order c.deref-3.result.now are staff c.in_ok-workers.ensures.each gates ends done.ends)
            done.runs,
      );
      alone = (
        c.in_ok-console.console,
        c.in_ok-console.ensures.ok,
        (let sites = runs_for c.in_ok-console.console (length staff) (length p.guests + 3)
            (λ (k : ℕ) (e : End) (lines : List Line). (w : Worker) (y : g.row.G.Denot) → slice_get staff k ≡ Some w → slice_get gates k ≡ Some y → IsRun (g.G.Gate.is_open y) k w settings.turns e lines)
            (λ (k : ℕ) (e : End) (lines : List Line). (y : g.row.G.Denot) → slice_get gates k ≡ Some y → IsRunOf p (g.G.Gate.is_open y) k e lines)
            ends ran.console many
            (run_of g.G.Gate.is_open g.G.Gate.passes p settings c.settings-settings.ensures (map (λ (g : Bor Guest). g.now) refs) order c.deref-3.result.now are staff c.in_ok-workers.ensures.each gates ends done.ends)
            done.runs in
            guests_alone p c.in_ok-console.console ran.console (length p.guests + 3) ends c.guests.ensures.good done.legal (done.ends ∙ many) c.in_ok-console.ensures.ok
            (ungated g.G.Gate.is_open p c.in_ok-console.console ran.console (length p.guests + 3) gates ends c.requires (done.ends ∙ many) sites)),
      );
      gates = (
        c.in_ok-console.console,
        c.in_ok-console.ensures.ok,
        runs_for c.in_ok-console.console (length staff) (length p.guests + 3)
            (λ (k : ℕ) (e : End) (lines : List Line). (w : Worker) (y z : g.row.G.Denot) → slice_get staff k ≡ Some w → slice_get gates k ≡ Some y → slice_get after k ≡ Some z → IsGated g.G.Gate.passes y z w settings.turns e lines)
            (λ (k : ℕ) (e : End) (lines : List Line). (y z : g.row.G.Denot) → slice_get gates k ≡ Some y → slice_get after k ≡ Some z → IsGatedRunOf p g.G.Gate.passes y z k e lines)
            ends ran.console many
            (gated_of g.G.Gate.is_open g.G.Gate.passes p settings c.settings-settings.ensures (map (λ (g : Bor Guest). g.now) refs) order c.deref-3.result.now are staff c.in_ok-workers.ensures.each gates ends done.ends after)
            done.gates,
      );
      refused = tt;
    }
