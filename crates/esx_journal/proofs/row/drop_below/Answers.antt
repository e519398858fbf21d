use Rattle.std.proofs.Common.{rules, ◌<◌, ◌+◌, ◌^◌, arith}
use Rattle.esx_journal.proofs.Losing.{drops_most}
use Rattle.esx_journal.proofs.row.drop_below.Goals as goal

pub overflow_add-result : goal.overflow_add-result
overflow_add-result c =
    let nodes = c.requires.nodes.0 in
    let a = c.requires.nodes.1 in
    let links = c.drop_by_links-gone in
    let drops = c.drop_by_numbers.ensures.drops c.args.rows.now nodes links.result.0 a (links.ensures.lost nodes a) in
    let most = drops_most c.args.rows.now c.drop_by_numbers.new.rows nodes c.args.node (links.result.0 + c.drop_by_numbers.result) drops in
    let size = a.size in
    let small = c.requires.small in
    let fits : links.result.0 + c.drop_by_numbers.result < 2 ^ 32 = omega arith in
    search (rules, fits)

pub returns-else-are_all-clause-drops : goal.returns-else-are_all-clause-drops
returns-else-are_all-clause-drops c = λ nodes a. c.drop_by_numbers.ensures.drops c.args.rows.now nodes c.drop_by_links-gone.result.0 a (c.drop_by_links-gone.ensures.lost nodes a)
