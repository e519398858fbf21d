use Rattle.esx_machine.proofs.table.add_line.Goals as goal

pub table_row-requires : goal.table_row-requires
table_row-requires c = (c.requires.vm c.in-Some.row c.in-Some.is).period
