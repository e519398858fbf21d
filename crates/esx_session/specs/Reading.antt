-- What is read of a session, line by line.
use Rattle.std.specs.Prelude.{ℕ, IsTrue, List, [], ◌∷◌, ◌++◌, ◌+◌, ◌≡◌, ◌<◌, ◌≤◌, ◌^◌, ◌⊎◌, codes, decimal, length, flat_map}
use Rattle.std.specs.List.{AllByRecursion}
use Rattle.std.specs.Str.{IsAscii}
use Rattle.std.specs.Str.Lines.{lines}
use Rattle.esx_types.specs.Ranges.{IsConfig}
use Rattle.esx_types.specs.declared.config.Config.{Config}
use Rattle.esx_types.specs.declared.version.Version.{Version}
use Rattle.esx_types.specs.Versions.{callers}
use Rattle.esx_events.specs.Limits.{has_call}
use Rattle.esx_events.specs.declared.call.Call.{Call}
use Rattle.esx_reading.specs.Fields.{joined}
use Rattle.esx_reading.specs.declared.fault.TextFault.{TextFault}
use Rattle.esx_reading.specs.declared.fault.TextFault.TheVariants.{BadLine, OutOfMemory}
use Rattle.esx_words.specs.Commands.{IsInRange, spelling, MayTakeMemory}
use Rattle.esx_session.specs.declared.session.Entry.{Entry}
use Rattle.esx_session.specs.Sessions.{ended, site_words, quoted, head_line, entry_text, end_text, IsEntryOf, IsEnded}

-- where a reader of lines is: how many it has passed, and those that are left
pub record Place : Type 0 where
  pub passed : ℕ
  pub left : List (List ℕ)

-- the line of this number is one of the two that come next
abbrev pub IsNextLine : ℕ → Place → Type 0
IsNextLine line at = (at.passed < line) × (line ≤ at.passed + 2)

-- no line feed stands in the line
abbrev pub HasNoFeed : List ℕ → Type 0
HasNoFeed = AllByRecursion (λ b. b ≡ 10 → ⊥)

-- each number of a site has at most 32 bits
pub record IsSmall (site : Config) : Type 0 where
  pub frames : site.frames < 2 ^ 32
  pub page : site.page < 2 ^ 32
  pub slots : site.slots < 2 ^ 32
  pub tau : site.tau < 2 ^ 32
  pub high : site.high < 2 ^ 32
  pub soft : site.soft < 2 ^ 32
  pub hard : site.hard < 2 ^ 32
  pub low : site.low < 2 ^ 32
  pub nodes : site.nodes < 2 ^ 32

-- the line of a site
pub record SpellsSite (line : List ℕ) (site : Config) : Type 0 where
  pub range : IsConfig site
  pub spelled : line ≡ joined (site_words site)

-- the line of a call in a version
pub record SpellsCall (version : Version) (line : List ℕ) (caller : ℕ) (call : Call) : Type 0 where
  pub known : caller < callers version
  pub range : IsInRange call
  pub has : IsTrue (has_call version call)
  pub spelled : line ≡ decimal caller ++ 32 ∷ spelling call

-- the line of a caller of a version and a command that may take memory, be its call one of the version or not
pub record CallTakesMemory (version : Version) (line : List ℕ) : Type 0 where
  pub caller : ℕ
  pub command : List ℕ
  pub known : caller < callers version
  pub spelled : line ≡ decimal caller ++ 32 ∷ command
  pub takes : MayTakeMemory command

-- the line of a reply's line
pub record Quotes (line text : List ℕ) : Type 0 where
  pub ascii : IsAscii text
  pub quoted : line ≡ 61 ∷ 32 ∷ text

abbrev pub QuotesNone : List ℕ → Type 0
QuotesNone line = (text : List ℕ) → Quotes line text → ⊥

-- the next line, if there is one, is none of a reply
abbrev pub LeavesReply : List (List ℕ) → Type 0
LeavesReply [] = Unit {0}
LeavesReply (line ∷ lines) = HasNoFeed line × QuotesNone line

-- a line of a reply stands next
abbrev pub BeginsReply : List (List ℕ) → Type 0
BeginsReply [] = ⊥
BeginsReply (line ∷ lines) = (text : List ℕ) × Quotes line text

-- the lines of a reply, and where the reader is behind them
pub record TakesReply (old new : Place) (reply : List ℕ) : Type 0 where
  pub taken : List (List ℕ)
  pub left : old.left ≡ taken ++ new.left
  pub passed : new.passed ≡ old.passed + length taken
  pub text : ended taken ≡ quoted reply
  pub some : IsEnded reply
  pub ascii : IsAscii reply
  pub next : LeavesReply new.left

abbrev pub LacksReply : TextFault → Place → Type 0
LacksReply (BadLine n) old = (n ≡ old.passed + 1) × LeavesReply old.left
LacksReply OutOfMemory old = Unit {0}
LacksReply _ old = ⊥

-- the same behind the line of a call
pub record TakesEntry (version : Version) (line : List ℕ) (old new : Place) (e : Entry) : Type 0 where
  pub taken : List (List ℕ)
  pub left : old.left ≡ taken ++ new.left
  pub passed : new.passed ≡ old.passed + length taken
  pub text : ended (line ∷ taken) ≡ entry_text e
  pub range : IsEntryOf version e
  pub next : LeavesReply new.left

abbrev pub SpellsNoCall : Version → List ℕ → Type 0
SpellsNoCall version line = (caller : ℕ) (call : Call) → SpellsCall version line caller call → ⊥

-- the line is that of no call; or it is, and no reply follows
abbrev pub LacksEntry : Version → TextFault → List ℕ → Place → Type 0
LacksEntry version (BadLine n) line old = ((n ≡ old.passed) × SpellsNoCall version line)
    ⊎ ((n ≡ old.passed + 1) × ((caller : ℕ) × (call : Call) × SpellsCall version line caller call) × LeavesReply old.left)
LacksEntry version OutOfMemory line old = Unit {0}
LacksEntry version _ line old = ⊥

-- a call with its reply may take memory: its line may, or it is the line of a call and a line of its reply follows
abbrev pub EntryTakesMemory : Version → List ℕ → List (List ℕ) → Type 0
EntryTakesMemory version line left =
    CallTakesMemory version line ⊎ (((caller : ℕ) × (call : Call) × SpellsCall version line caller call) × BeginsReply left)

abbrev pub NextTakesMemory : Version → List (List ℕ) → Type 0
NextTakesMemory version [] = ⊥
NextTakesMemory version (line ∷ left) = EntryTakesMemory version line left

-- the calls of a session, and its end
abbrev pub calls_text : List Entry → List ℕ
calls_text entries = flat_map entry_text entries ++ end_text (length entries)

pub record TellsCalls (version : Version) (told : List (List ℕ)) (entries : List Entry) : Type 0 where
  pub range : AllByRecursion (IsEntryOf version) entries
  pub same : ended told ≡ calls_text entries

abbrev pub BeginsCalls : Version → List (List ℕ) → Type 0
BeginsCalls version told = (later : List (List ℕ)) × (entries : List Entry) × TellsCalls version (told ++ later) entries

-- no line of a reply follows, where there is a call
abbrev pub SettledLines : List Entry → List (List ℕ) → Type 0
SettledLines [] left = Unit {0}
SettledLines (e ∷ entries) left = LeavesReply left

-- between two places stand the lines of these calls, and no more of the last reply behind them
pub record AreRead (version : Version) (old new : Place) (entries : List Entry) : Type 0 where
  pub taken : List (List ℕ)
  pub left : old.left ≡ taken ++ new.left
  pub passed : new.passed ≡ old.passed + length taken
  pub text : ended taken ≡ flat_map entry_text entries
  pub range : AllByRecursion (IsEntryOf version) entries
  pub next : SettledLines entries new.left

-- a line stands there, and it is not the last of a session of so many calls
abbrev pub GoesOn : ℕ → List (List ℕ) → Type 0
GoesOn count [] = ⊥
GoesOn count (line ∷ lines) = line ≡ codes "end " ++ decimal count → ⊥

-- the first two lines are those of a session, and behind them stands what may take memory
abbrev pub GoesPastOpening : List ℕ → Type 0
GoesPastOpening text = (version : Version) × (site : Config) × (others : List (List ℕ)) × IsConfig site
    × (lines text ≡ head_line version ∷ joined (site_words site) ∷ others) × NextTakesMemory version others

-- behind some lines the next cannot stand, or they cannot end
abbrev pub IsStuck : Version → List (List ℕ) → List (List ℕ) → Type 0
IsStuck version front [] = (entries : List Entry) → TellsCalls version front entries → ⊥
IsStuck version front (line ∷ lines) = BeginsCalls version (front ++ line ∷ []) → ⊥

-- the calls go on for so many lines, and no further
pub record StopsCalls (version : Version) (n : ℕ) (told : List (List ℕ)) : Type 0 where
  pub front : List (List ℕ)
  pub others : List (List ℕ)
  pub whole : told ≡ front ++ others
  pub count : n ≡ length front
  pub begins : BeginsCalls version front
  pub stuck : IsStuck version front others

abbrev pub LacksCalls : Version → TextFault → Place → Type 0
LacksCalls version (BadLine n) old = (m : ℕ) × (n ≡ old.passed + m + 1) × StopsCalls version m old.left
LacksCalls version OutOfMemory old = Unit {0}
LacksCalls version _ old = ⊥

-- the lines begin with the first of a session, or not
abbrev pub LacksHead : List (List ℕ) → Type 0
LacksHead [] = Unit {0}
LacksHead (line ∷ lines) = HasNoFeed line × ((version : Version) → line ≡ head_line version → ⊥)

abbrev pub LacksSite : List (List ℕ) → Type 0
LacksSite [] = Unit {0}
LacksSite (line ∷ lines) = HasNoFeed line × ((site : Config) → SpellsSite line site → ⊥)

-- a reader of calls: the version of its text, where it is in the lines, and how many calls it has given
pub record Reader : Type 0 where
  pub version : Version
  pub at : Place
  pub count : ℕ

-- The text begins with the opening of this site in the reader's version and with these calls; the reader is behind
-- them, and has counted them.
pub record Follows (text : List ℕ) (site : Config) (done : List Entry) (reader : Reader) : Type 0 where
  pub range : IsConfig site
  pub start : Place
  pub opening : lines text ≡ head_line reader.version ∷ joined (site_words site) ∷ start.left
  pub passed : start.passed ≡ 2
  pub read : AreRead reader.version start reader.at done
  pub count : reader.count ≡ length done

-- the first two lines of a session, and which of them is wrong
abbrev pub LacksOpening : TextFault → List (List ℕ) → Type 0
LacksOpening (BadLine n) told = ((n ≡ 1) × LacksHead told)
    ⊎ ((n ≡ 2) × ((version : Version) × (lines : List (List ℕ)) × (told ≡ head_line version ∷ lines) × LacksSite lines))
LacksOpening _ told = ⊥
