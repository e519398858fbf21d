use Rattle.std.proofs.Common.{sym, ap, ◌∙◌}
use Rattle.esx_tables.specs.Sizes.{capped}
use Rattle.esx_machine.proofs.Sizes.{size_in_order}
use Rattle.esx_machine.proofs.record.held_size.Goals as goal

pub returns-in-Many : goal.returns-in-Many
returns-in-Many c = rw c.in-Many.is (c.size-in-Many.ensures ∙ ap capped (sym (size_in_order c.in-Many.at_end c.in-Many.changes)))
