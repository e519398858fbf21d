-- A path of the session of a text.
use Rattle.std.specs.Prelude.{ℕ, List}
use Rattle.esx_types.specs.declared.config.Config.{Config}
use Rattle.esx_session.specs.declared.session.Entry.{Entry}
use Rattle.esx_session.specs.Sessions.{Reads}
use Rattle.esx_check.specs.Again.{made}
use Rattle.esx_paths.specs.declared.path.Path.{Path}
use Rattle.esx_paths.specs.Paths.{IsPath}

-- The text is that of a session, and this is told of the path to one of its nodes.
pub record IsPathIn (text : List ℕ) (site : Config) (entries : List Entry) (told : Path) : Type 0 where
  pub reads : Reads text site entries
  pub path : IsPath (made site entries) told.node told
