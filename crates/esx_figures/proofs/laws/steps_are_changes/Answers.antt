use Rattle.esx_figures.proofs.Stand.{guest_steps, site_steps, opening_first}
use Rattle.esx_figures.proofs.laws.steps_are_changes.Goals as goal

pub returns-clause-guests : goal.returns-clause-guests
returns-clause-guests c = guest_steps

pub returns-clause-site : goal.returns-clause-site
returns-clause-site c = site_steps

pub returns-clause-opening : goal.returns-clause-opening
returns-clause-opening c = opening_first
