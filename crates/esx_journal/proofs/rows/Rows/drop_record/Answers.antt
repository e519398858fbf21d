use Rattle.std.proofs.Common.{◌∙◌, sym, ap, arith, cond, is_some}
use Rattle.esx_journal.specs.Rows.{Row}
use Rattle.esx_journal.proofs.Parting.{link_inside, row_here, some_from, record_goes}
use Rattle.esx_journal.proofs.rows.Rows.drop_record.Goals as goal
use Rattle.esx_journal.proofs.rows.Rows.drop_record.Goals.{then-link, else-link}

pub index_mut-link-requires : goal.index_mut-link-requires
index_mut-link-requires c = (let inside = link_inside c.self.inside.links.items c.self.inside.records.items c.args.self.now c.args.at c.self.view_is c.self.invariant c.requires in omega arith)

pub index_mut-requires : goal.index_mut-requires
index_mut-requires c =
    let inside = link_inside c.self.inside.links.items c.self.inside.records.items c.args.self.now c.args.at c.self.view_is c.self.invariant c.requires in
    let long = c.self.invariant in
    omega arith

pub returns-clause-count : goal.returns-clause-count
returns-clause-count c =
    let has = ap (λ (r : Row). is_some r.back) (row_here c.self.inside.links.items c.self.inside.records.items c.args.self.now c.args.at c.index_mut-link.result.now c.self.view_is c.self.invariant c.requires c.index_mut-link.ensures.value)
    ∙ some_from c.index_mut-link.result.now.has_record _ in
    elim c.if-link.branch [
      | then-link w ↦ w.gone-is ∙ ap (λ b. cond b 1 0) (sym (has ∙ w.if-link.true))
      | else-link w ↦ w.gone-is ∙ ap (λ b. cond b 1 0) (sym (has ∙ w.if-link.false))
    ]

pub returns-clause-rows : goal.returns-clause-rows
returns-clause-rows c = record_goes c.self.inside.links.items c.self.inside.records.items c.args.self.now c.args.at c.index_mut-link.result.now _
    c.self.view_is c.self.invariant c.requires c.index_mut-link.ensures.value
