use Rattle.std.proofs.Common.{◌∙◌, sym, ap}
use Rattle.esx_events.specs.Names.{is_name}
use Rattle.esx_journal.specs.Marks.{node_named}
use Rattle.esx_journal.proofs.Names.{no_name}
use Rattle.esx_journal.proofs.marks.Marks.node_of.Goals as goal

pub returns-else-is_name : goal.returns-else-is_name
returns-else-is_name c = sym (ap (node_named c.args.name.now) (sym c.self.view_is)
    ∙ no_name c.args.name.now _ c.self.invariant.names (sym (c.is_name.ensures ∙ ap is_name c.as_bytes.ensures.value) ∙ c.if-is_name.false))
