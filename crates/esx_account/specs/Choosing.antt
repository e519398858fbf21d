-- Some of the losses of a path.
use Rattle.std.specs.Prelude.{ℕ, ◌==◌, ◌&&◌, Bool, true, Option, Some, None}
use Rattle.esx_report.specs.declared.losses.LossLine.{LossLine}

-- the page is the one that is named, or none is
abbrev pub is_page : Option ℕ → ℕ → Bool
is_page None page = true
is_page (Some named) page = page == named

-- the loss is of that machine, and of the page that is named
abbrev pub is_asked : ℕ → Option ℕ → LossLine → Bool
is_asked vm page line = (line.loss.change.vm == vm) && is_page page line.loss.change.page
