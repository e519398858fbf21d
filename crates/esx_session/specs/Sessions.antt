-- Sessions: what was asked of a console and answered, as a text.
use Rattle.std.specs.Prelude.{ℕ, Bool, true, false, IsTrue, List, [], ◌∷◌, ◌++◌, ◌+◌, ◌≡◌, ◌<◌, ◌≤◌, ◌⊎◌, ◌==◌, codes, decimal, length, take, map, flat_map}
use Rattle.std.specs.List.{AllByRecursion}
use Rattle.std.specs.Str.{IsAscii}
use Rattle.std.specs.Str.Lines.{lines}
use Rattle.esx_types.specs.Ranges.{IsConfig}
use Rattle.esx_types.specs.declared.config.Config.{Config}
use Rattle.esx_types.specs.declared.config.TheConstants.{CALLERS}
use Rattle.esx_types.specs.declared.version.Version.{Version}
use Rattle.esx_types.specs.declared.version.Version.TheVariants.{One, Two}
use Rattle.esx_types.specs.Versions.{callers}
use Rattle.esx_events.specs.Limits.{has_call}
use Rattle.esx_events.specs.declared.call.Line.{Line}
use Rattle.esx_reading.specs.Fields.{joined}
use Rattle.esx_reading.specs.declared.fault.TextFault.{TextFault}
use Rattle.esx_reading.specs.declared.fault.TextFault.TheVariants.{BadLine, OutOfMemory}
use Rattle.esx_words.specs.Commands.{IsInRange, spelling}
use Rattle.esx_replies.specs.Replies.{reply_text}
use Rattle.esx_session.specs.declared.session.Entry.{Entry}
use Rattle.esx_session.specs.declared.session.Request.{Request}

-- the text of some lines, each ended by a line feed
abbrev pub ended : List (List ℕ) → List ℕ
ended = flat_map (λ line. line ++ 10 ∷ [])

-- the site, as it was opened
abbrev pub site_words : Config → List (List ℕ)
site_words site =
    codes "frames" ∷ decimal site.frames ∷ codes "page" ∷ decimal site.page ∷ codes "slots" ∷ decimal site.slots ∷ codes "tau" ∷ decimal site.tau
    ∷ codes "levels" ∷ decimal site.high ∷ decimal site.soft ∷ decimal site.hard ∷ decimal site.low ∷ codes "nodes" ∷ decimal site.nodes ∷ []

abbrev pub site_text : Config → List ℕ
site_text site = joined (site_words site) ++ 10 ∷ []

-- A text with an equals sign and a space before each of its lines; `fresh` tells whether a line begins.
abbrev pub quoted_from : (fresh : Bool) → List ℕ → List ℕ
quoted_from fresh [] = []
quoted_from true (b ∷ bs) = 61 ∷ 32 ∷ b ∷ quoted_from (b == 10) bs
quoted_from false (b ∷ bs) = b ∷ quoted_from (b == 10) bs

abbrev pub quoted : List ℕ → List ℕ
quoted = quoted_from true

-- a call: who made it and its one spelling, and each line of its reply
abbrev pub call_text : Entry → List ℕ
call_text e = decimal e.caller ++ 32 ∷ (spelling e.call ++ 10 ∷ [])

abbrev pub entry_text : Entry → List ℕ
entry_text e = call_text e ++ quoted e.reply

-- the first line, which says the version
abbrev pub head_line : Version → List ℕ
head_line One = codes "esx session 1"
head_line Two = codes "esx session 2"

abbrev pub head_text : Version → List ℕ
head_text version = head_line version ++ 10 ∷ []

-- how many calls there were
abbrev pub end_text : ℕ → List ℕ
end_text count = codes "end " ++ (decimal count ++ 10 ∷ [])

-- the text of a session in a version
abbrev pub version_text : Version → Config → List Entry → List ℕ
version_text version site entries = head_text version ++ (site_text site ++ (flat_map entry_text entries ++ end_text (length entries)))

-- what a printer writes
abbrev pub session_text : Config → List Entry → List ℕ
session_text site entries = version_text Two site entries

-- a text of at least one line, each ended by a line feed
abbrev pub IsEnded : List ℕ → Type 0
IsEnded text = (front : List ℕ) × (text ≡ front ++ 10 ∷ [])

-- the numbers, names and bytes that a session can have
pub record IsEntry (e : Entry) : Type 0 where
  pub caller : e.caller < CALLERS
  pub call : IsInRange e.call
  pub reply : IsEnded e.reply
  pub ascii : IsAscii e.reply

-- the same within the limits of a version
pub record IsEntryOf (version : Version) (e : Entry) : Type 0 where
  pub entry : IsEntry e
  pub known : e.caller < callers version
  pub has : IsTrue (has_call version e.call)

pub record IsSession (site : Config) (entries : List Entry) : Type 0 where
  pub opened : IsConfig site
  pub each : AllByRecursion IsEntry entries

-- the lines are those of the session in some version
pub record Tells (told : List (List ℕ)) (site : Config) (entries : List Entry) : Type 0 where
  pub version : Version
  pub opened : IsConfig site
  pub each : AllByRecursion (IsEntryOf version) entries
  pub same : ended told ≡ version_text version site entries

-- A text is the session's, but for carriage returns before line feeds, and for the last line feed.
abbrev pub Reads : List ℕ → Config → List Entry → Type 0
Reads text = Tells (lines text)

-- a call without its reply
abbrev pub request : Entry → Request
request e = record { caller = e.caller; call = e.call }

-- the text is that of a session with these calls
abbrev pub ReadsScript : List ℕ → Config → List Request → Type 0
ReadsScript text site requests = (entries : List Entry) × Reads text site entries × (requests ≡ map request entries)

-- some session begins with these lines
abbrev pub Begins : List (List ℕ) → Type 0
Begins told = (later : List (List ℕ)) × (site : Config) × (entries : List Entry) × Tells (told ++ later) site entries

-- the lines are those of no session
abbrev pub TellsNone : List (List ℕ) → Type 0
TellsNone told = (site : Config) (entries : List Entry) → Tells told site entries → ⊥

-- The first line at which a text is no session: some session begins with any fewer of its lines, and none with
-- this many; or there is one line less, and these are those of none.
pub record StopsAt (n : ℕ) (told : List (List ℕ)) : Type 0 where
  pub before : (k : ℕ) → k < n → Begins (take k told)
  pub here : ((n ≤ length told) × (Begins (take n told) → ⊥)) ⊎ ((n ≡ length told + 1) × TellsNone told)

-- why a text is not read
abbrev pub IsRefused : TextFault → List ℕ → Type 0
IsRefused (BadLine n) text = StopsAt n (lines text)
IsRefused OutOfMemory text = Unit {0}
IsRefused _ text = ⊥

-- the first two lines are those of a session
abbrev pub HasOpening : List ℕ → Type 0
HasOpening text = (version : Version) × (site : Config) × (others : List (List ℕ)) × IsConfig site
    × (lines text ≡ head_line version ∷ joined (site_words site) ∷ others)

-- a line of a log, as a session tells it
abbrev pub logged : Line → Entry
logged line = record { caller = line.caller; call = line.call; reply = reply_text line.reply }

-- a text is that of one session at most, whatever its version
abbrev pub ReadsOneSession : List ℕ → Type 0
ReadsOneSession text = (site other : Config) (entries others : List Entry) → Reads text site entries → Reads text other others
    → (site ≡ other) × (entries ≡ others)

-- no carriage return stands in the reply
abbrev pub HasNoReturn : Entry → Type 0
HasNoReturn e = AllByRecursion (λ b. b ≡ 13 → ⊥) e.reply

-- what is printed is read as itself
abbrev pub ReadsAsPrinted : Config → List Entry → Type 0
ReadsAsPrinted site entries = IsSession site entries → AllByRecursion HasNoReturn entries → Reads (session_text site entries) site entries
