-- The first call of a session with another reply, and how it is told.
use Rattle.std.specs.Prelude.{◌≡◌, ℕ, List, ◌++◌, ◌-◌, Some, codes, slice_get, take}
use Rattle.esx_types.specs.declared.config.Config.{Config}
use Rattle.esx_model.specs.Console.{next_reply}
use Rattle.esx_replies.specs.Signs.{behind}
use Rattle.esx_replies.specs.Replies.{reply_text}
use Rattle.esx_session.specs.declared.session.Entry.{Entry}
use Rattle.esx_session.specs.Sessions.{Reads, call_text}
use Rattle.esx_check.specs.declared.check.Checked.{Checked}
use Rattle.esx_check.specs.declared.check.Checked.TheVariants as checked
use Rattle.esx_check.specs.declared.difference.Compared.{Compared}
use Rattle.esx_check.specs.declared.difference.Compared.TheVariants.{Same, Differs}
use Rattle.esx_check.specs.declared.difference.Difference.{Difference}
use Rattle.esx_check.specs.Again.{made}
use Rattle.esx_check.specs.Checks.{Checks, checked_text}

-- what a check of it comes to
abbrev pub checked_of : Compared → Checked
checked_of (Same count) = checked.Same count
checked_of (Differs d) = checked.Differs d.number

-- The call of this number is the first with another reply. It stands there in the session with the reply that is told, and
-- where the calls before it were made, and then it, it has the reply that is made.
pub record IsDifference (site : Config) (entries : List Entry) (d : Difference) : Type 0 where
  pub first : Checks site entries (checked.Differs d.number)
  pub told : slice_get entries (d.number - 1) ≡ Some d.entry
  pub made_again : d.reply ≡ next_reply (made site (take (d.number - 1) entries)) d.entry.call

-- Each of so many calls has the reply that stands with it, or this is the first that has another.
abbrev pub Compares : Config → List Entry → Compared → Type 0
Compares site entries (Same count) = Checks site entries (checked.Same count)
Compares site entries (Differs d) = IsDifference site entries d

-- the text is that of a session, and its calls compare so
abbrev pub ComparesText : List ℕ → Compared → Type 0
ComparesText text compared = (site : Config) × (entries : List Entry) × Reads text site entries × Compares site entries compared

-- the call, as a session prints it
abbrev pub asked_text : Entry → List ℕ
asked_text e = codes "call: " ++ call_text e

-- the lines of the reply that stands with it, and those of the reply that it has
abbrev pub both_replies : Difference → List ℕ
both_replies d = behind (codes "told: ") d.entry.reply ++ behind (codes "made: ") (reply_text d.reply)

abbrev pub difference_text : Difference → List ℕ
difference_text d = asked_text d.entry ++ both_replies d

-- the line of a check, and behind it a difference
abbrev pub compared_text : Compared → List ℕ
compared_text (Same count) = checked_text (checked.Same count)
compared_text (Differs d) = checked_text (checked.Differs d.number) ++ difference_text d
