-- How it is told why a line is no command.
use Rattle.std.specs.Prelude.{ℕ, Bool, not, min, ◌+◌, ◌-◌, ◌^◌, ◌++◌, nat_lt, nat_le, ◌&&◌, if◌then◌else◌, List, [], length, map, take, codes, decimal, slice_get, Option, Some, None}
use Rattle.esx_explained.specs.declared.command.Command.{Command}
use Rattle.esx_explained.specs.declared.command.Command.TheVariants as command
use Rattle.esx_explained.specs.declared.operand.Operand.{Operand}
use Rattle.esx_explained.specs.declared.operand.Operand.TheVariants.{Vm, Page, At, Len, Bytes, Min, Max, Overhead, Shares, Balloon, Tau, Length, Draw, Count, Steps, Label}
use Rattle.esx_explained.specs.declared.reason.Explanation.{Explanation}
use Rattle.esx_explained.specs.declared.reason.Explanation.TheVariants.{TooLong, NotText, Unknown, Operands, NoEvents, Tried, TooManyEvents, Other}
use Rattle.esx_explained.specs.declared.amiss.Amiss.{Amiss}
use Rattle.esx_explained.specs.declared.amiss.Amiss.TheVariants.{Missing, TooMany, Wrong}
use Rattle.esx_explained.specs.declared.tried.AmissEvent.{AmissEvent}
use Rattle.esx_explained.specs.declared.tried.AmissEvent.TheVariants as event
use Rattle.esx_events.specs.declared.events.TheConstants.{MAX_EVENTS}
use Rattle.esx_explained.specs.declared.telling.TheConstants.{MOST_TOLD}
use Rattle.esx_text.specs.Lines.{line_of}
use Rattle.esx_text.specs.declared.answer.TheConstants.{LONGEST}
use Rattle.esx_explained.specs.Words.{command_word}
use Rattle.esx_explained.specs.Operands.{operands_of}

-- what is wanted behind the first word of a command
abbrev pub usage_of : Command → List ℕ
usage_of command.Admit = codes "V MIN MAX OVERHEAD SHARES BALLOON [TAU]"
usage_of command.Start = codes "V"
usage_of command.Ask = codes "V"
usage_of command.Stop = codes "V"
usage_of command.Gone = codes "V"
usage_of command.Lend = codes "V P"
usage_of command.TakeBack = codes "V P"
usage_of command.Scan = codes "V P"
usage_of command.DropPage = codes "V P"
usage_of command.Shares = codes "V N"
usage_of command.VmTax = codes "V N"
usage_of command.Read = codes "V P AT LEN"
usage_of command.Write = codes "V P AT HEX"
usage_of command.Sample = codes "V LENGTH [W ..]"
usage_of command.Rebalance = codes "nothing behind it"
usage_of command.SwapOut = codes "V W"
usage_of command.Replace = codes "V P W"
usage_of command.Tax = codes "N"
usage_of command.Undo = codes "K"
usage_of command.Redo = codes "K"
usage_of command.Goto = codes "N"
usage_of command.Prune = codes "N"
usage_of command.Visit = codes "NAME"
usage_of command.Mark = codes "NAME"
usage_of command.Sum = codes "nothing behind it"
usage_of command.Table = codes "nothing behind it"
usage_of command.Stand = codes "nothing behind it"
usage_of command.Marks = codes "nothing behind it"
usage_of command.OfVm = codes "V"
usage_of command.OfPage = codes "V P"
usage_of command.Advise = codes "V P"
usage_of command.WhatIf = codes "E; E; .."
usage_of command.Session = codes "nothing behind it"
usage_of command.Order = codes "nothing behind it"
usage_of command.PageOut = codes "V P"

-- how an operand is called
abbrev pub label_of : Operand → List ℕ
label_of Vm = codes "V"
label_of Page = codes "P"
label_of At = codes "AT"
label_of Len = codes "LEN"
label_of Bytes = codes "HEX"
label_of Min = codes "MIN"
label_of Max = codes "MAX"
label_of Overhead = codes "OVERHEAD"
label_of Shares = codes "SHARES"
label_of Balloon = codes "BALLOON"
label_of Tau = codes "TAU"
label_of Length = codes "LENGTH"
label_of Draw = codes "W"
label_of Count = codes "N"
label_of Steps = codes "K"
label_of Label = codes "NAME"

-- what it has to be
abbrev pub wanted_of : Operand → List ℕ
wanted_of Vm = codes "a number from 0 to 255"
wanted_of Draw = codes "a number from 0 to 18446744073709551615"
wanted_of Bytes = codes "1 to 4096 bytes, each as two small digits in hex"
wanted_of Label = codes "1 to 32 small letters, digits, _ and -, a letter first"
wanted_of o = codes "a number from 0 to 4294967295"

abbrev pub label_or : Option Operand → List ℕ
label_or None = codes "operand"
label_or (Some o) = label_of o

abbrev pub wanted_or : Option Operand → List ℕ
wanted_or None = codes "nothing"
wanted_or (Some o) = wanted_of o

-- the same of the operand at a place
abbrev pub label_at : Command → ℕ → List ℕ
label_at c at = label_or (slice_get (operands_of c) at)

abbrev pub wanted_at : Command → ℕ → List ℕ
wanted_at c at = wanted_or (slice_get (operands_of c) at)

-- a byte, and a question mark for one that is no printable ASCII
abbrev pub shown_byte : ℕ → ℕ
shown_byte b = if nat_le 32 b && nat_lt b 127 then b else 63

-- what stands behind a word: two points where it is cut
abbrev pub told_end : List ℕ → List ℕ
told_end word = if nat_lt MOST_TOLD (length word) then codes "\".." else codes "\""

-- a word of the user's, as far as it is told
unfoldable pub told_word : List ℕ → List ℕ
told_word word = codes "\"" ++ (map shown_byte (take MOST_TOLD word) ++ told_end word)

-- a command, and what is wanted behind its first word
abbrev pub wants : Command → List ℕ
wants c = command_word c ++ (codes " wants " ++ usage_of c)

-- the nearest command, if one is near
abbrev pub hint_text : Option Command → List ℕ
hint_text None = []
hint_text (Some c) = codes "; the nearest is " ++ command_word c

-- what is amiss with the operands of a command
abbrev pub amiss_text : Command → Amiss → List ℕ
amiss_text c (Missing at) = wants c ++ (codes ": " ++ (label_at c at ++ codes " is missing"))
amiss_text c (TooMany word) = wants c ++ (codes ": " ++ (told_word word.now ++ codes " is too much"))
amiss_text c (Wrong at word) = wants c ++ (codes ": " ++ (told_word word.now ++ (codes " is no " ++ (label_at c at ++ (codes ", " ++ wanted_at c at)))))

-- what is amiss with an event
abbrev pub event_text : AmissEvent → List ℕ
event_text event.Missing = codes "E is missing"
event_text event.NoSpace = codes "no space stands before it"
event_text (event.Unknown word) = told_word word.now ++ codes " is no event"
event_text (event.Operands c a) = amiss_text c a

abbrev pub explanation_text : Explanation → List ℕ
explanation_text TooLong = codes "it has more than " ++ (decimal LONGEST ++ codes " bytes")
explanation_text NotText = codes "it is not UTF-8"
explanation_text (Unknown word nearest) = told_word word.now ++ (codes " is no command" ++ hint_text nearest)
explanation_text (Operands c a) = amiss_text c a
explanation_text NoEvents = wants command.WhatIf ++ codes ": E is missing"
explanation_text (Tried number e) = command_word command.WhatIf ++ (codes ", event " ++ (decimal number ++ (codes ": " ++ event_text e)))
explanation_text TooManyEvents = wants command.WhatIf ++ (codes ": these are more than " ++ decimal MAX_EVENTS)
explanation_text (Other c) = wants c

-- a line of the terminal
abbrev pub told_line : ℕ → Explanation → List ℕ
told_line number e = codes "line " ++ (decimal number ++ (codes ": " ++ explanation_text e))

-- the number of the line behind so many, as far as numbers go
abbrev pub next_number : ℕ → ℕ
next_number count = min (count + 1) (2 ^ 64 - 1)

-- what is looked at of a line of which so much is held: where a line feed stands behind it, and it is not too long, without
-- the carriage return at its end
abbrev pub held_line : List ℕ → Bool → Bool → List ℕ
held_line front long is_ended = if is_ended && not long then line_of front else front
