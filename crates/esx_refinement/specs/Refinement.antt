-- When a plan does to the tables what the event does to the site.
use Rattle.std.specs.Prelude.{◌≡◌, List, Ok, Err}
use Rattle.esx_types.specs.declared.config.Config.{Config}
use Rattle.esx_model.specs.declared.scene.Site.{Site}
use Rattle.esx_model.specs.Tables.{tables_of}
use Rattle.esx_model.specs.event.Outcome.{Outcome}
use Rattle.esx_tables.specs.declared.change.Change.{Change}
use Rattle.esx_tables.specs.Changes.{exchanged}
use Rattle.esx_changes.specs.Planned.{Planned}

-- the changes lead from the tables of site s to those of site t
abbrev pub Makes : Config → Site → List Change → Site → Type 0
Makes c s changes t = (exchanged (tables_of c s) changes).0 ≡ tables_of c t

-- a plan does to the tables what the event does to the site, and is refused where it is
abbrev pub Refines : Config → Site → Planned → Outcome → Type 0
Refines c s (Ok p) (Ok r) = (p.0 ≡ r.0) × Makes c s p.1 r.1
Refines c s (Err e) (Err f) = e ≡ f
Refines c s (Ok p) (Err f) = ⊥
Refines c s (Err e) (Ok r) = ⊥
