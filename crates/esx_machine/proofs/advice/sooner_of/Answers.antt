use Rattle.esx_machine.proofs.advice.sooner_of.Goals as goal

pub target_row-requires-clause-row : goal.target_row-requires-clause-row
target_row-requires-clause-row c = c.requires.vm c.in-Some.row c.in-Some.is
