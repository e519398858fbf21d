use Rattle.std.proofs.Common.{rules, ◌≡◌, ◌∙◌, ℕ, Some, sym, subst, get_or, slice_get}
use Rattle.std.proofs.lemmas.Option.{get_or_from_slice_get, slice_get_within}
use Rattle.esx_desk.proofs.Crosses.{crosses}
use Rattle.esx_work.specs.declared.run.Task.{Task}
use Rattle.esx_work.specs.declared.run.Finished.{Finished}
use Rattle.esx_work.specs.Runs.{Ran}
use Rattle.esx_work.proofs.Meets.{if_ok_map}
use Rattle.esx_work.proofs.crew.run_all.Goals as goal

pub map_vec-requires-sync-F : goal.map_vec-requires-sync-F
map_vec-requires-sync-F g c κs within = search crosses depth 60 fits 8000

pub returns-clause-each : goal.returns-clause-each
returns-clause-each g c = if_ok_map _ (λ all. (i : ℕ) (t : Task g.row.G.Denot) (f : Finished g.row.G.Denot) → slice_get c.args.tasks.items i ≡ Some t → slice_get all.items i ≡ Some f → Ran g.G.Gate.is_open g.G.Gate.passes t.gate c.args.desk.now t.pass t.worker t.turns f)
    (λ all each i t f at at'.
    let gives = each i f (slice_get_within c.args.tasks.items i t at) in
    let job = gives.1.job in
    let job_is : job ≡ t = sym (gives.1.job_is t) ∙ get_or_from_slice_get c.args.tasks.items i t t at in
    let call = gives.1.call in
    let ran : Ran g.G.Gate.is_open g.G.Gate.passes job.gate c.args.desk.now job.pass job.worker job.turns (get_or all.items i f) = search rules in
    subst (λ (z : Task g.row.G.Denot). Ran g.G.Gate.is_open g.G.Gate.passes z.gate c.args.desk.now z.pass z.worker z.turns f) job_is (subst (λ (z : Finished g.row.G.Denot). Ran g.G.Gate.is_open g.G.Gate.passes job.gate c.args.desk.now job.pass job.worker job.turns z) (get_or_from_slice_get all.items i f f at') ran))
    c.map_vec.result c.map_vec.ensures.each
