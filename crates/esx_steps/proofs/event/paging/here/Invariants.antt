use Rattle.std.proofs.Common.{◌≡◌, ◌++◌, drop}
use Rattle.esx_model.specs.Site.{here_from}
use Rattle.esx_steps.proofs.event.paging.here.Given as goal

abbrev pub invariant-loop-page : goal.invariant-loop-page
invariant-loop-page l = l.pages.items ++ here_from l.page (drop l.page l.places) ≡ here_from 0 l.places
