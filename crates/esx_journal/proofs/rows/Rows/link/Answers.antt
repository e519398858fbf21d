use Rattle.std.proofs.Common.{sym, ap, ◌∙◌, arith, is_some}
use Rattle.esx_journal.specs.Rows.{Row}
use Rattle.esx_journal.proofs.Parting.{link_inside, row_here, some_from}
use Rattle.esx_journal.proofs.rows.Rows.link.Goals as goal

pub index-requires : goal.index-requires
index-requires c = (let inside = link_inside c.self.inside.links.items c.self.inside.records.items c.args.self.now c.args.at c.self.view_is c.self.invariant c.requires in omega arith)

pub returns-clause-parent : goal.returns-clause-parent
returns-clause-parent c =
    sym (ap (λ (r : Row). r.parent) (row_here c.self.inside.links.items c.self.inside.records.items c.args.self.now c.args.at c.index.result.now c.self.view_is c.self.invariant c.requires c.index.ensures))

pub returns-clause-last : goal.returns-clause-last
returns-clause-last c =
    sym (ap (λ (r : Row). r.last) (row_here c.self.inside.links.items c.self.inside.records.items c.args.self.now c.args.at c.index.result.now c.self.view_is c.self.invariant c.requires c.index.ensures))

pub returns-clause-first : goal.returns-clause-first
returns-clause-first c =
    sym (ap (λ (r : Row). r.first) (row_here c.self.inside.links.items c.self.inside.records.items c.args.self.now c.args.at c.index.result.now c.self.view_is c.self.invariant c.requires c.index.ensures))

pub returns-clause-next : goal.returns-clause-next
returns-clause-next c =
    sym (ap (λ (r : Row). r.next) (row_here c.self.inside.links.items c.self.inside.records.items c.args.self.now c.args.at c.index.result.now c.self.view_is c.self.invariant c.requires c.index.ensures))

pub returns-clause-has : goal.returns-clause-has
returns-clause-has c =
    sym (ap (λ (r : Row). is_some r.back) (row_here c.self.inside.links.items c.self.inside.records.items c.args.self.now c.args.at c.index.result.now c.self.view_is c.self.invariant c.requires c.index.ensures)
    ∙ some_from c.index.result.now.has_record _)
