-- Legal logs of a site, and their gauge.
use Rattle.std.specs.Prelude.{◌≡◌, ℕ, List, [], ◌∷◌, ◌++◌}
use Rattle.std.specs.Coded.{×_prop, Unit-prop}
use Rattle.std.proofs.Props.{props}
use Rattle.esx_types.specs.declared.config.Config.{Config}
use Rattle.esx_events.specs.declared.call.Reply.{Reply}
use Rattle.esx_events.specs.declared.call.Line.{Line}
use Rattle.esx_types.specs.declared.level.Level.{Level}
use Rattle.esx_model.specs.History.{History, opened}
use Rattle.esx_model.specs.Console.{Session, after, reply_to, AreReplies, IsLegal}
use Rattle.esx_console.specs.Console.{session_gauge}

abbrev pub session : Config → List Line → Session
session site log = record { site = site; log = log }

abbrev pub legal_for : Config → List Line → Type 0
legal_for site log = IsLegal (session site log)

abbrev pub gauge_for : Config → List Line → ℕ × Level
gauge_for site log = session_gauge (session site log)

replies_begin : (h : History) (log later : List Line) → AreReplies h (log ++ later) → AreReplies h log
replies_begin h [] later are = tt
replies_begin h (x ∷ log) later are = (are.0, replies_begin (after h x.call) log later are.1)

-- a beginning of a legal log is legal
pub begins_legal : (site : Config) (log later : List Line) → legal_for site (log ++ later) → legal_for site log
begins_legal site log later are = replies_begin (opened site) log later are

-- any two replies are equal in one way at most
replies_set : (r s : Reply) → IsProp (r ≡ s)
replies_set = Prim.hlevel props

pub AreReplies-prop : (h : History) (log : List Line) → IsProp (AreReplies h log)
AreReplies-prop h [] = Unit-prop
AreReplies-prop h (x ∷ log) = ×_prop (replies_set x.reply (reply_to h x.call)) (AreReplies-prop (after h x.call) log)
