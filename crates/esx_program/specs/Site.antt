-- Where a site that is served begins.
use Rattle.std.specs.Prelude.{[]}
use Rattle.esx_types.specs.declared.config.Config.{Config}
use Rattle.esx_model.specs.Console.{Session}

-- the site, and no line so far
abbrev pub at_opening : Config → Session
at_opening config = record { site = config; log = [] }
