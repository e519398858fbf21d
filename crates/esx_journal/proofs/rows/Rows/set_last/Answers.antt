use Rattle.std.proofs.Common.{refl, arith}
use Rattle.esx_journal.specs.declared.rows.Link.{Link}
use Rattle.esx_journal.specs.Rows.{Row}
use Rattle.esx_journal.proofs.Parting.{link_inside, link_changes}
use Rattle.esx_journal.proofs.rows.Rows.set_last.Goals as goal

pub index_mut-link-requires : goal.index_mut-link-requires
index_mut-link-requires c = (let inside = link_inside c.self.inside.links.items c.self.inside.records.items c.args.self.now c.args.at c.self.view_is c.self.invariant c.requires in omega arith)

pub returns : goal.returns
returns c = link_changes (λ (l : Link). record l { last = c.args.last }) (λ (r : Row). record r { last = c.args.last }) c.self.inside.links.items c.self.inside.records.items c.args.self.now c.args.at
    c.index_mut-link.result.now (λ l b. refl) c.self.view_is c.self.invariant c.requires c.index_mut-link.ensures.value
