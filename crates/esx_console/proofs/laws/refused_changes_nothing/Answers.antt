use Rattle.esx_console.proofs.Refusing.{refused_line, asked_line}
use Rattle.esx_console.proofs.laws.refused_changes_nothing.Goals as goal

pub returns-clause-refused : goal.returns-clause-refused
returns-clause-refused c = refused_line

pub returns-clause-asked : goal.returns-clause-asked
returns-clause-asked c = asked_line
