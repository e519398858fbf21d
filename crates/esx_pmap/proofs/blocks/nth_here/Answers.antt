use Rattle.std.proofs.Common.{◌≡◌, ◌-◌, length, take, drop, arith}
use Rattle.std.proofs.lemmas.List.{length-drop, take_all}
use Rattle.esx_types.specs.Pages.{resident_count}
use Rattle.esx_pmap.proofs.GroupLemmas.{count_further, count_parted}
use Rattle.esx_pmap.proofs.blocks.nth_here.Goals as goal

pub nth_from-requires : goal.nth_from-requires
nth_from-requires c =
    let rows = c.args.rows.now in
    let start = c.pass_groups-start.result.0 in
    let all : take (length rows - start) (drop start rows) ≡ drop start rows = take_all (length rows - start) (drop start rows) (omega (arith, length-drop start rows)) in
    rw all (omega (arith, count_parted start rows, c.pass_groups-start.ensures.before, c.requires))

pub returns-clause-before : goal.returns-clause-before
returns-clause-before c =
    let rows = c.args.rows.now in
    let start = c.pass_groups-start.result.0 in
    let all : take (length rows - start) (drop start rows) ≡ drop start rows = take_all (length rows - start) (drop start rows) (omega (arith, length-drop start rows)) in
    let near : resident_count (take c.nth_from.result (drop start rows)) ≡ c.pass_groups-start.result.1 = rw all at c.nth_from.ensures.before in
    omega (arith, count_further start c.nth_from.result rows, near, c.pass_groups-start.ensures.before)
