-- What is written where a session is gone through again.
use Rattle.std.specs.Prelude.{ℕ, List, ◌++◌, [], take, flat_map, Option, Result, Ok, Err}
use Rattle.std.specs.Io.KnownBytes.{Appends}
use Rattle.esx_types.specs.declared.config.Config.{Config}
use Rattle.esx_events.specs.declared.call.Call.TheVariants.{Table}
use Rattle.esx_model.specs.Console.{next_reply}
use Rattle.esx_replies.specs.Replies.{reply_text}
use Rattle.esx_writing.specs.Writing.{WritesFront}
use Rattle.esx_session.specs.declared.session.Entry.{Entry}
use Rattle.esx_check.specs.declared.fault.OutputFault.{OutputFault}
use Rattle.esx_check.specs.declared.fault.OutputFault.TheVariants.{Write, OutOfMemory}
use Rattle.esx_check.specs.Again.{made}
use Rattle.esx_check.specs.Wants.{NextWantsMemory}

-- the replies that the calls have when they are made again, in their order
abbrev pub replies_text : Config → List Entry → List ℕ
replies_text site entries = flat_map (λ line. reply_text line.reply) (made site entries).log

-- the table after them
abbrev pub table_after : Config → List Entry → List ℕ
table_after site entries = reply_text (next_reply (made site entries) Table)

abbrev pub replay_text : Config → List Entry → List ℕ
replay_text site entries = replies_text site entries ++ table_after site entries

-- After a fault of writing a front was written; where memory ran out, the replies to the first calls, or to all, and it was
-- wanting for the next.
abbrev pub ReplayStops : OutputFault → Config → List Entry → Option (List ℕ) → Option (List ℕ) → Type 0
ReplayStops Write site entries old new = WritesFront old new (replay_text site entries)
ReplayStops OutOfMemory site entries old new = (count : ℕ) × Appends old new (replies_text site (take count entries)) × NextWantsMemory site entries count

-- the same of one reply
abbrev pub ReplyStops : OutputFault → List ℕ → Option (List ℕ) → Option (List ℕ) → Type 0
ReplyStops Write text old new = WritesFront old new text
ReplyStops OutOfMemory text old new = Appends old new []

-- 1 where writing is at fault
abbrev pub write_faults : {T : Type 0} → Result T OutputFault → ℕ
write_faults (Ok x) = 0
write_faults (Err Write) = 1
write_faults (Err OutOfMemory) = 0
