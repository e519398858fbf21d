use Rattle.std.proofs.Common.{◌∙◌, sym, ap, arith, length, List, ◌++◌, ◌∷◌, [], slice_index_or, slice_set}
use Rattle.esx_journal.specs.declared.rows.Link.{Link}
use Rattle.esx_journal.specs.Rows.{rows_from}
use Rattle.esx_journal.proofs.Lists.{grown_length}
use Rattle.esx_journal.proofs.Parting.{link_inside, child_link, link_with, rows_grow}
use Rattle.esx_journal.proofs.rows.Rows.push_child.Goals as goal

pub index-requires : goal.index-requires
index-requires c =
    let inside = link_inside c.self.inside.links.items c.self.inside.records.items c.args.self.now c.args.at c.self.view_is c.self.invariant c.requires.inside in
    let same = ap length c.take_room.ensures.links in
    omega arith

pub index_mut-parent-requires : goal.index_mut-parent-requires
index_mut-parent-requires c =
    let inside = link_inside c.self.inside.links.items c.self.inside.records.items c.args.self.now c.args.at c.self.view_is c.self.invariant c.requires.inside in
    let same = ap length c.take_room.ensures.links in
    let long = grown_length c.take_room.new.links.items (child_link c.args.at c.index.result.now.first) in
    omega arith

pub returns-clause-grown : goal.returns-clause-grown
returns-clause-grown c =
    let links = c.push_reserved.ensures.items in
    let records = c.push_reserved-2.ensures.items in
    let grows = rows_grow c.take_room.new.links.items c.take_room.new.records.items c.args.self.now c.args.at c.args.child c.args.back c.index.result.now c.index_mut-parent.result.now
    (ap (λ ls. rows_from ls c.take_room.new.records.items) c.take_room.ensures.links ∙ ap (λ rs. rows_from c.self.inside.links.items rs) c.take_room.ensures.records ∙ c.self.view_is)
    (ap length c.take_room.ensures.records ∙ c.self.invariant ∙ sym (ap length c.take_room.ensures.links)) c.requires.inside c.requires.child c.index.ensures
    (c.index_mut-parent.ensures.value ∙ ap (λ (ls : List Link). slice_index_or ls c.args.at c.index_mut-parent.result.now) links) in
    ap (λ (ls : List Link). rows_from (slice_set ls c.args.at (link_with c.index_mut-parent.result.now c.args.child)) c.push_reserved-2.new.self.items) links
    ∙ ap (λ rs. rows_from (slice_set (c.take_room.new.links.items ++ child_link c.args.at c.index.result.now.first ∷ []) c.args.at (link_with c.index_mut-parent.result.now c.args.child)) rs) records ∙ grows
