use Rattle.std.proofs.Common.{◌≡◌, ◌<◌, ℕ, get_or}
use Rattle.esx_explained.specs.Words.{command_word}
use Rattle.esx_explained.specs.declared.command.Command.{Command}
use Rattle.esx_explained.specs.declared.command.TheConstants.{COMMANDS}
use Rattle.esx_explained.proofs.command.command_of.Given as goal

abbrev pub invariant-loop-command : goal.invariant-loop-command
invariant-loop-command l = record {
  all : l.command-items ≡ COMMANDS;
  none : (k : ℕ) (d : Command) → k < l.command-index → l.word ≡ command_word (get_or COMMANDS k d) → ⊥;
}
