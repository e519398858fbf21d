-- What a session has: a site, and calls with their replies.
use Rattle.std.specs.Prelude.{List}
use Rattle.esx_types.specs.declared.config.Config.{Config}
use Rattle.esx_session.specs.declared.session.Entry.{Entry}

pub record Recorded : Type 0 where
  pub site : Config
  pub entries : List Entry
