use Rattle.std.proofs.Common.{List, sym, subst}
use Rattle.esx_events.specs.declared.call.Line.{Line}
use Rattle.esx_console.specs.Console.{IsConsole}
use Rattle.esx_console.proofs.Logs.{first_lines}
use Rattle.esx_console.proofs.console.Console.over.Goals as goal

pub invariant_of-result : goal.invariant_of-result
invariant_of-result g c =
    let P : List Line → Type 0 = λ l. IsConsole (record { site = c.args.config; log = l }) c.in_ok-journal.journal 0 in
    subst P (sym c.requires) (first_lines c.args.config _ c.in_ok-journal.ensures.checked c.in_ok-journal.ensures.opens)
