-- A session's calls, made again.
use Rattle.std.specs.Prelude.{ℕ, List, map}
use Rattle.esx_types.specs.declared.config.Config.{Config}
use Rattle.esx_model.specs.Console.{Session}
use Rattle.esx_console.specs.Calls.{Asked, opened_session, lined_all}
use Rattle.esx_replies.specs.Replies.{reply_text}
use Rattle.esx_session.specs.declared.session.Entry.{Entry}

-- the call of an entry, and who made it
abbrev pub asked : Entry → Asked
asked e = record { caller = e.caller; call = e.call }

-- the site, opened, where the calls of these entries were made in their order
unfoldable pub made : Config → List Entry → Session
made site entries = lined_all (opened_session site) (map asked entries)

-- the replies that the calls have there
abbrev pub replies_again : Config → List Entry → List (List ℕ)
replies_again site entries = map (λ line. reply_text line.reply) (made site entries).log
