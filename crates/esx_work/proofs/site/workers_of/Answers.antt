use Rattle.std.proofs.Common.{◌≡◌, ◌∙◌, ◌+◌, ℕ, List, Some, map, ap, sym, slice_get, length, length-append, refl, arith}
use Rattle.std.proofs.lemmas.List.{length-map}
use Rattle.std.specs.Borrow.{Bor}
use Rattle.esx_scenario.specs.declared.plan.Guest.{Guest}
use Rattle.esx_workers.specs.declared.worker.Worker.{Worker}
use Rattle.esx_work.specs.Sites.{IsWorker}
use Rattle.esx_work.proofs.Meets.{end_on}
use Rattle.esx_work.proofs.Staffs.{guest_works}
use Rattle.esx_work.proofs.site.workers_of.Goals as goal

pub returns : goal.returns
returns c =
    let refs : List (Bor Guest) = c.args.guests.now in
    let gs : List Guest = map (λ (g : Bor Guest). g.now) refs in
    let n : ℕ = length refs in
    let many : n ≡ length gs = sym (length-map refs (λ (g : Bor Guest). g.now)) in
    let zero_many : length c.in_ok-workers.workers.items ≡ n = c.in_ok-workers.ensures.many in
    let one : length c.push.new.self.items ≡ n + 1 = ap length c.in_ok-push.ensures.items ∙ (length-append c.in_ok-workers.workers.items _ ∙ ap (λ (k : ℕ). k + 1) zero_many) in
    let two : length c.push-2.new.self.items ≡ n + 1 + 1 = ap length c.in_ok-push-2.ensures.items ∙ (length-append c.push.new.self.items _ ∙ ap (λ (k : ℕ). k + 1) one) in
    let two_is : n + 1 + 1 ≡ n + 2 = omega arith in
    let three : length c.push-3.new.self.items ≡ n + 2 + 1 = ap length c.in_ok-push-3.ensures.items ∙ (length-append c.push-2.new.self.items _ ∙ ap (λ (k : ℕ). k + 1) (two ∙ two_is)) in
    let three_is : n + 2 + 1 ≡ n + 3 = omega arith in
    let Q : ℕ → Worker → Type 0 = λ i w. IsWorker c.args.settings gs c.args.machines.now i w in
    let guests : (i : ℕ) (w : Worker) → slice_get c.in_ok-workers.workers.items i ≡ Some w → Q i w = (λ i w at. guest_works c.args.settings gs c.args.machines.now i w (c.in_ok-workers.ensures.each i w at)) in record {
      many = three ∙ three_is;
      each = end_on Q c.push-2.new.self.items c.push-3.new.self.items _ (n + 2) c.in_ok-push-3.ensures.items (two ∙ two_is) (ap (λ (k : ℕ). k + 2) many, refl, refl, refl, refl, c.generator-3.ensures)
          (end_on Q c.push.new.self.items c.push-2.new.self.items _ (n + 1) c.in_ok-push-2.ensures.items one (ap (λ (k : ℕ). k + 1) many, refl, c.generator-2.ensures)
          (end_on Q c.in_ok-workers.workers.items c.push.new.self.items _ n c.in_ok-push.ensures.items zero_many (many, refl, c.generator.ensures) guests));
    }
