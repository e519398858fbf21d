use Rattle.std.proofs.Common.{◌≡◌, ◌∙◌, ◌<◌, ◌≤◌, List, Ok, Some, length, slice_get, vec_len, vec_capacity, sym, ap, arith}
use Rattle.std.proofs.lemmas.List.{length-map}
use Rattle.esx_opening.proofs.InTurn.{handed_on}
use Rattle.esx_work.specs.declared.run.Finished.{Finished}
use Rattle.esx_work.proofs.Parting.{next_get, few_taken, fits_in}
use Rattle.esx_work.proofs.run.parted.Goals as goal

pub returns-in_err-ended-clause-err : goal.returns-in_err-ended-clause-err
returns-in_err-ended-clause-err g c =
    let all : List (Finished g.row.G.Denot) = c.args.finished.items in
    let there : slice_get all (length c.loop-one.yielded) ≡ Some c.in-Some.one = next_get all c.loop-one.yielded c.loop-one.one-iterator.rest.items c.next.new.self.rest.items c.in-Some.one c.loop-one.invariant.2 c.in-Some.ensures.steps.0 in
    handed_on c.from_residual.result c.in_err-ended.field-0.0 _ c.from_residual.ensures.1 (length c.loop-one.yielded, c.in-Some.one, there, c.in_err-ended.was)

pub unwrap-requires : goal.unwrap-requires
unwrap-requires g c =
    let all : List (Finished g.row.G.Denot) = c.args.finished.items in
    let few : length c.loop-one.yielded < length all = few_taken all c.loop-one.yielded c.loop-one.one-iterator.rest.items c.next.new.self.rest.items c.in-Some.one c.loop-one.invariant.2 c.in-Some.ensures.steps.0 in
    let many : length c.loop-one.ends.items ≡ length c.loop-one.yielded = sym (length-map c.loop-one.ends.items Ok) ∙ (ap length c.loop-one.invariant.4 ∙ length-map c.loop-one.yielded (λ (f : Finished g.row.G.Denot). f.ended)) in
    let room : length all ≤ vec_capacity c.loop-one.ends = c.loop-one.invariant.7 in
    let len : vec_len c.loop-one.ends ≡ length c.loop-one.ends.items = c.loop-one.ends.ok.0 in
    fits_in c.push.result (vec_capacity c.loop-one.ends) (vec_len c.loop-one.ends) c.push.ensures.full (omega arith)
