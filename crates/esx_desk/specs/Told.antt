-- What a desk's calls tell a pass.
use Rattle.std.specs.Prelude.{◌≡◌, ℕ, ◌%◌, ◌⊎◌, true, false, List, [], ◌∷◌, ◌++◌}
use Rattle.esx_events.specs.declared.call.Call.{Call}
use Rattle.esx_events.specs.declared.call.Reply.{Reply}
use Rattle.esx_events.specs.declared.call.Line.{Line}
use Rattle.esx_types.specs.Ids.{IsLeast}
use Rattle.esx_model.specs.Console.{next_reply}
use Rattle.esx_lock.specs.declared.view.Hold.TheVariants.{Free}
use Rattle.esx_lock.specs.declared.view.View.{View}
use Rattle.esx_lock.specs.Logs.{OthersOf, Follows}
use Rattle.esx_lock.specs.Words.{bits}
use Rattle.esx_lock.specs.Passes.{LockView, Known, FoundBusy}
use Rattle.esx_desk.specs.Legal.{session, legal_for, gauge_for}

-- the pass is this desk's, and holds nothing
abbrev pub IsOf : LockView → Known → Type 0
IsOf desk pass = (pass.table ≡ desk.table) × (pass.view.hold ≡ Free) × (pass.view.callers ≡ desk.callers)

abbrev pub line : ℕ → Call → Reply → Line
line caller call reply = record { caller = caller; call = call; reply = reply }

-- A call was answered. The log that the pass has now seen is legal: what it had seen, lines of others, and the line of its least caller with the reply that a console gives after them.
pub record Adds (v w : View) (call : Call) (reply : Reply) : Type 0 where
  pub caller : ℕ
  pub least : IsLeast v.ids caller
  pub between : List Line
  pub others : OthersOf v.callers v.ids between
  pub seen : w.seen ≡ (v.seen ++ between) ++ line caller call reply ∷ []
  pub reply_is : reply ≡ next_reply (session v.site (v.seen ++ between)) call
  pub legal : legal_for v.site w.seen

-- No call was answered. The log that the pass has now seen is legal: what it had seen, and lines of others.
pub record Looks (v w : View) : Type 0 where
  pub follows : Follows v.callers v.ids v.seen w.seen
  pub legal : legal_for v.site w.seen

-- The pass had the console, and wrote no line: an exchange read the word that was read last, and it is that of the log that the pass has now seen, free. One that failed reads another word (IsBusy).
abbrev pub HadIt : View → Type 0
HadIt w = (w.last ≡ bits (gauge_for w.site w.seen)) × (w.by_exchange ≡ true)

-- The word that was read last is odd and was loaded, or an exchange that failed read it. A loaded one is that of the log that the pass has now seen, held; one of an exchange is another than that log's, free.
abbrev pub IsBusy : View → ℕ → Type 0
IsBusy w word = (w.last ≡ word) × (((w.by_exchange ≡ false) × (word % 2 ≡ 1)) ⊎ (w.by_exchange ≡ true)) × FoundBusy gauge_for w word
