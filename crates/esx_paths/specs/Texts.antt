-- What going through a session's text comes to.
use Rattle.std.specs.Prelude.{ℕ, List, length}
use Rattle.esx_types.specs.declared.config.Config.{Config}
use Rattle.esx_session.specs.declared.session.Entry.{Entry}
use Rattle.esx_session.specs.Sessions.{Reads}
use Rattle.esx_check.specs.declared.check.Checked.TheVariants as checked
use Rattle.esx_check.specs.Again.{made}
use Rattle.esx_check.specs.Checks.{Checks, ChecksText}
use Rattle.esx_paths.specs.declared.text.Gone.{Gone}
use Rattle.esx_paths.specs.declared.text.Gone.TheVariants.{Through, Differs}
use Rattle.esx_paths.specs.Pasts.{Kept, IsPastOf}

-- the text is that of a session, each call of which has its reply, and of that session this is kept
pub record IsPastOfText (text : List ℕ) (past : Kept) : Type 0 where
  pub site : Config
  pub entries : List Entry
  pub reads : Reads text site entries
  pub same : Checks site entries (checked.Same (length entries))
  pub is_past : IsPastOf past (made site entries)

-- or a check of the text comes to this difference
abbrev pub GoesThrough : List ℕ → Gone → Type 0
GoesThrough text (Through past) = IsPastOfText text past
GoesThrough text (Differs number) = ChecksText text (checked.Differs number)

-- how many calls were made
abbrev pub calls_gone : Gone → ℕ
calls_gone (Through past) = past.calls
calls_gone (Differs number) = number
