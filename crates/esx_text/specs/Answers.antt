-- What is written for what is read, and the session after it.
use Rattle.std.specs.Prelude.{ℕ, List, [], ◌∷◌, ◌++◌, ◌≡◌, ◌+◌, ◌≤◌, ◌⊎◌, codes, decimal, length, map, Option, None, Some, Result, Ok, Err}
use Rattle.std.specs.Io.KnownBytes.{Appends, Consumes, IsAtEnd}
use Rattle.esx_events.specs.declared.call.Call.{Call}
use Rattle.esx_model.specs.Console.{Session, next_reply, lined}
use Rattle.esx_text.specs.declared.fault.ServeFault.{ServeFault}
use Rattle.esx_text.specs.declared.fault.ServeFault.TheVariants.{Read, Write, OutOfMemory}
use Rattle.esx_text.specs.declared.answer.TheConstants.{LONGEST}
use Rattle.esx_text.specs.declared.own.OwnWord.{OwnWord}
use Rattle.esx_text.specs.declared.own.OwnWord.TheVariants.{Order}
use Rattle.esx_words.specs.Commands.{Spells, MayTakeMemory}
use Rattle.esx_replies.specs.Replies.{reply_text}
use Rattle.esx_text.specs.Lines.{EndsIn, lines, line_of, IsSilent, Held, Holds}
use Rattle.esx_text.specs.declared.echo.Manner.{Manner}
use Rattle.esx_text.specs.declared.echo.Manner.TheVariants.{Plain}
use Rattle.esx_text.specs.Echo.{echo_in}
use Rattle.esx_text.specs.Own.{own_line, IsOwnText}
use Rattle.esx_text.specs.PageOut.{AsksOut, pageout_text, pageout_after, word_after}
use Rattle.esx_writing.specs.Writing.{WritesFront}

-- the line is a command's, and not too long
pub record IsAsked (line : List ℕ) (call : Call) : Type 0 where
  pub short : length line ≤ LONGEST
  pub command : Spells line call

-- Memory may be taken for the line, which is not too long: it is a command's, or begins as one for whose words it is taken,
-- or asks for the order, or that a page go out.
pub record MayWantMemory (line : List ℕ) : Type 0 where
  pub short : length line ≤ LONGEST
  pub wants : ((call : Call) × IsAsked line call) ⊎ (MayTakeMemory line ⊎ ((line ≡ own_line Order) ⊎ ((m page : ℕ) × AsksOut line m page)))

-- the answer to line n, where it is no command
abbrev pub unknown_text : ℕ → List ℕ
unknown_text n = codes "? line " ++ (decimal n ++ 10 ∷ [])

-- Line n, after a session, is answered by a text and leaves a session.
pub data IsAnswered (n caller : ℕ) (session : Session) (line : List ℕ) : List ℕ → Session → Type 0 where
  silent : IsSilent line → IsAnswered n caller session line [] session
  asked : (call : Call) → IsAsked line call → IsAnswered n caller session line (reply_text (next_reply session call)) (lined session caller call)
  own : (word : OwnWord) (text : List ℕ) → line ≡ own_line word → IsOwnText session word text → IsAnswered n caller session line text session
  pageout : (m page : ℕ) → AsksOut line m page
      → IsAnswered n caller session line (pageout_text session m (word_after session m page)) (pageout_after session caller m (word_after session m page))
  unknown : (IsSilent line → ⊥) → ((word : OwnWord) → line ≡ own_line word → ⊥) → ((m page : ℕ) → AsksOut line m page → ⊥) → ((call : Call) → IsAsked line call → ⊥)
      → IsAnswered n caller session line (unknown_text n) session

-- A call was made, and behind an echo its reply was written, or a front of the two, or memory was wanting and nothing happened.
abbrev pub IsMade : List ℕ → ℕ → Call → Session → Session → Option (List ℕ) → Option (List ℕ) → Result Unit ServeFault → Type 0
IsMade echo caller call before after old new (Ok done) = (after ≡ lined before caller call) × Appends old new (echo ++ reply_text (next_reply before call))
IsMade echo caller call before after old new (Err Read) = ⊥
IsMade echo caller call before after old new (Err Write) = (after ≡ lined before caller call) × WritesFront old new (echo ++ reply_text (next_reply before call))
IsMade echo caller call before after old new (Err OutOfMemory) = (after ≡ before) × Appends old new []

-- The lines from number n on are answered by a text, each behind its echo, and leave a session.
abbrev pub AreAnswered : Manner → ℕ → ℕ → Session → List (List ℕ) → List ℕ → Session → Type 0
AreAnswered manner n caller session [] text after = (text ≡ []) × (after ≡ session)
AreAnswered manner n caller session (line ∷ others) text after =
    (first rest : List ℕ) × (middle : Session) × IsAnswered n caller session line first middle
    × AreAnswered manner (n + 1) caller middle others rest after × (text ≡ (echo_in manner line ++ first) ++ rest)

-- A line was served: behind an echo its answer was written, or a front of the two, or memory was wanting for it and nothing happened.
abbrev pub IsServed : List ℕ → ℕ → ℕ → Session → List ℕ → Session → Option (List ℕ) → Option (List ℕ) → Result Unit ServeFault → Type 0
IsServed echo n caller before line after old new (Ok done) = (text : List ℕ) × IsAnswered n caller before line text after × Appends old new (echo ++ text)
IsServed echo n caller before line after old new (Err Read) = ⊥
IsServed echo n caller before line after old new (Err Write) = (text : List ℕ) × IsAnswered n caller before line text after × WritesFront old new (echo ++ text)
IsServed echo n caller before line after old new (Err OutOfMemory) = (after ≡ before) × MayWantMemory line × Appends old new []

-- How far it has come: the input so far has ended pieces, which were answered, and a rest, which is held.
pub record Progress (manner : Manner) (caller : ℕ) (before : Session) (old : Option (List ℕ)) (input : List ℕ) (count : ℕ) (line : Held) (now : Session) (new : Option (List ℕ)) : Type 0 where
  pub ended : List (List ℕ)
  pub rest : List ℕ
  pub text : List ℕ
  pub split : EndsIn input ended rest
  pub holds : Holds line rest
  pub count_is : count ≡ length ended
  pub answered : AreAnswered manner 1 caller before (map line_of ended) text now
  pub written : Appends old new text

-- The lines of an input, so many, are answered by a text, and leave a session.
pub record ServesIn (manner : Manner) (caller count : ℕ) (before : Session) (input text : List ℕ) (after : Session) : Type 0 where
  pub ended : List (List ℕ)
  pub rest : List ℕ
  pub split : EndsIn input ended rest
  pub answered : AreAnswered manner 1 caller before (lines ended rest) text after
  pub count_is : count ≡ length (lines ended rest)

-- All was read, and its lines are answered.
pub record AnswersIn (manner : Manner) (caller count : ℕ) (before after : Session) (unread left old new : Option (List ℕ)) : Type 0 where
  pub input : List ℕ
  pub text : List ℕ
  pub read : Consumes unread left input
  pub end : IsAtEnd left
  pub serves : ServesIn manner caller count before input text after
  pub written : Appends old new text

-- 1 where reading is at fault
abbrev pub read_faults : {T : Type 0} → Result T ServeFault → ℕ
read_faults (Ok x) = 0
read_faults (Err Read) = 1
read_faults (Err Write) = 0
read_faults (Err OutOfMemory) = 0

-- 1 where writing is
abbrev pub fault_writes : ServeFault → ℕ
fault_writes Read = 0
fault_writes Write = 1
fault_writes OutOfMemory = 0

abbrev pub write_faults : {T : Type 0} → Result T ServeFault → ℕ
write_faults (Ok x) = 0
write_faults (Err Read) = 0
write_faults (Err Write) = 1
write_faults (Err OutOfMemory) = 0

-- All of the lines were answered.
abbrev pub AllAnswered : Manner → ℕ → Session → Session → List (List ℕ) → Option (List ℕ) → Option (List ℕ) → Type 0
AllAnswered manner caller before after all old new = (text : List ℕ) × AreAnswered manner 1 caller before all text after × Appends old new text

-- Memory was wanting for a line: those before it were answered, and nothing was done of it and of the others.
pub record WantsMemory (manner : Manner) (caller : ℕ) (before after : Session) (all : List (List ℕ)) (old new : Option (List ℕ)) : Type 0 where
  pub done : List (List ℕ)
  pub line : List ℕ
  pub others : List (List ℕ)
  pub text : List ℕ
  pub lines_are : all ≡ done ++ line ∷ others
  pub may_want : MayWantMemory line
  pub answered : AreAnswered manner 1 caller before done text after
  pub written : Appends old new text

-- Lines were answered, and of the echo of the last of them and its answer only a front was written.
pub record Cut (manner : Manner) (caller : ℕ) (before after : Session) (all : List (List ℕ)) (old new : Option (List ℕ)) : Type 0 where
  pub done : List (List ℕ)
  pub line : List ℕ
  pub others : List (List ℕ)
  pub text : List ℕ
  pub middle : Session
  pub last : List ℕ
  pub front : List ℕ
  pub rest : List ℕ
  pub lines_are : all ≡ done ++ line ∷ others
  pub answered : AreAnswered manner 1 caller before done text middle
  pub answered_last : IsAnswered (length done + 1) caller middle line last after
  pub last_is : echo_in manner line ++ last ≡ front ++ rest
  pub written : Appends old new (text ++ front)

-- What was done at a fault, of the lines that were read. At a fault of reading it is all of them.
-- A fault of writing comes in the middle of an answer, or where answers are handed on: those to all of the lines,
-- or those before a line for which memory was wanting.
abbrev pub StopsAt : Manner → ServeFault → ℕ → Session → Session → List (List ℕ) → Option (List ℕ) → Option (List ℕ) → Type 0
StopsAt manner Read caller before after all old new = AllAnswered manner caller before after all old new
StopsAt manner Write caller before after all old new = Cut manner caller before after all old new ⊎ (AllAnswered manner caller before after all old new ⊎ WantsMemory manner caller before after all old new)
StopsAt manner OutOfMemory caller before after all old new = WantsMemory manner caller before after all old new

-- Where more may follow, the lines that were read are those that ended: the rest is no line yet.
pub record Stops (manner : Manner) (fault : ServeFault) (caller : ℕ) (before after : Session) (input : List ℕ) (old new : Option (List ℕ)) : Type 0 where
  pub ended : List (List ℕ)
  pub rest : List ℕ
  pub split : EndsIn input ended rest
  pub stop : StopsAt manner fault caller before after (map line_of ended) old new

-- At the end of the input the rest is its last line, and reading is not at fault.
pub record StopsLast (manner : Manner) (fault : ServeFault) (caller : ℕ) (before after : Session) (input : List ℕ) (old new : Option (List ℕ)) : Type 0 where
  pub ended : List (List ℕ)
  pub rest : List ℕ
  pub split : EndsIn input ended rest
  pub was_read : fault ≡ Read → ⊥
  pub stop : StopsAt manner fault caller before after (lines ended rest) old new

-- What was read when a fault came, and what was done of it.
pub record FaultsIn (manner : Manner) (fault : ServeFault) (caller : ℕ) (before after : Session) (unread left old new : Option (List ℕ)) : Type 0 where
  pub input : List ℕ
  pub read : Consumes unread left input
  pub stops : Stops manner fault caller before after input old new ⊎ (IsAtEnd left × StopsLast manner fault caller before after input old new)

-- Memory was wanting before the first read: nothing was read, and nothing done.
pub record WantsMemoryAtOnce (fault : ServeFault) (before after : Session) (unread left : Option (List ℕ)) (calls calls' : ℕ) (old new : Option (List ℕ)) : Type 0 where
  pub memory : fault ≡ OutOfMemory
  pub session : after ≡ before
  pub no_read : calls' ≡ calls
  pub nothing_read : left ≡ unread
  pub nothing_written : Appends old new []

-- What was done where a run ended early: nothing for want of memory, or what was read tells.
abbrev pub EndsEarlyIn : Manner → ServeFault → ℕ → Session → Session → Option (List ℕ) → Option (List ℕ) → ℕ → ℕ → Option (List ℕ) → Option (List ℕ) → Type 0
EndsEarlyIn manner fault caller before after unread left calls calls' old new =
    WantsMemoryAtOnce fault before after unread left calls calls' old new ⊎ FaultsIn manner fault caller before after unread left old new

-- how many reads gave nothing: the one that found the end
abbrev pub ends_found : Option ℕ → ℕ
ends_found None = 0
ends_found (Some count) = 1

-- There was at most one read more than bytes that came.
pub record ReadsOn (unread left : Option (List ℕ)) (before after : ℕ) : Type 0 where
  pub input : List ℕ
  pub read : Consumes unread left input
  pub each : after ≤ before + length input + 1

-- What a whole run came to: all lines were answered, so many, or there was a fault.
abbrev pub Ends : Manner → Result ℕ ServeFault → ℕ → Session → Session → Option (List ℕ) → Option (List ℕ) → Option (List ℕ) → Option (List ℕ) → Type 0
Ends manner (Ok n) caller before after unread left old new = AnswersIn manner caller n before after unread left old new
Ends manner (Err e) caller before after unread left old new = FaultsIn manner e caller before after unread left old new

-- The same of a run whose last answers wait, where an input with no end gives no number.
abbrev pub Reaches : Manner → Result (Option ℕ) ServeFault → ℕ → Session → Session → Option (List ℕ) → Option (List ℕ) → Option (List ℕ) → Option (List ℕ) → Type 0
Reaches manner (Ok (Some n)) caller before after unread left old new = AnswersIn manner caller n before after unread left old new
Reaches manner (Ok None) caller before after unread left old new = FaultsIn manner Read caller before after unread left old new
Reaches manner (Err e) caller before after unread left old new = FaultsIn manner e caller before after unread left old new

-- The same where nothing is echoed.

abbrev pub Serves : ℕ → ℕ → Session → List ℕ → List ℕ → Session → Type 0
Serves = ServesIn Plain

abbrev pub Answers : ℕ → ℕ → Session → Session → Option (List ℕ) → Option (List ℕ) → Option (List ℕ) → Option (List ℕ) → Type 0
Answers = AnswersIn Plain

abbrev pub Faults : ServeFault → ℕ → Session → Session → Option (List ℕ) → Option (List ℕ) → Option (List ℕ) → Option (List ℕ) → Type 0
Faults = FaultsIn Plain

abbrev pub EndsEarly : ServeFault → ℕ → Session → Session → Option (List ℕ) → Option (List ℕ) → ℕ → ℕ → Option (List ℕ) → Option (List ℕ) → Type 0
EndsEarly = EndsEarlyIn Plain
