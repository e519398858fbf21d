-- A log that is kept as the text of its session.
use Rattle.std.specs.Prelude.{ℕ, List, [], ◌∷◌, ◌++◌, ◌≡◌, ◌≤◌, ◌⊎◌, drop, length}
use Rattle.std.specs.Coded.{Coded-set, coded_ℕ, coded_list, ×_prop, Π_prop, →_prop, Unit-prop, le_prop}
use Rattle.esx_events.specs.declared.call.Call.{Call}
use Rattle.esx_events.specs.declared.call.Line.{Line}
use Rattle.esx_words.specs.Commands.{spelling}
use Rattle.esx_replies.specs.Replies.{reply_text}
use Rattle.esx_told.specs.declared.latest.Latest.{Latest}
use Rattle.esx_told.specs.declared.latest.Latest.TheVariants.{Nothing, Said, Told, Kept}

-- the line whose text is not made yet
abbrev pub pending : Latest → List Line
pending Nothing = []
pending (Said at) = []
pending (Told line) = []
pending (Kept line) = line ∷ []

-- what there is of the last line, once its text is made
abbrev pub settled : Latest → Latest
settled Nothing = Nothing
settled (Said at) = Said at
settled (Told line) = Told line
settled (Kept line) = Told line

-- where the reply of the last line stands, whose text is made
abbrev pub IsLatest : List Line → List ℕ → Latest → Type 0
IsLatest listed text Nothing = length listed ≡ 0
IsLatest listed text (Said at) = (at ≤ length text) × ((before : List Line) (line : Line) → listed ≡ before ++ line ∷ [] → drop at text ≡ reply_text line.reply)
IsLatest listed text (Told line) = (before : List Line) (other : Line) → listed ≡ before ++ other ∷ [] → reply_text line.reply ≡ reply_text other.reply
IsLatest listed text (Kept line) = Unit {0}

pub IsLatest-prop : (listed : List Line) (text : List ℕ) (latest : Latest) → IsProp (IsLatest listed text latest)
IsLatest-prop listed text Nothing = Coded-set coded_ℕ (length listed) 0
IsLatest-prop listed text (Said at) = ×_prop le_prop (Π_prop (λ before. Π_prop (λ line. →_prop (Coded-set (coded_list coded_ℕ) (drop at text) (reply_text line.reply)))))
IsLatest-prop listed text (Told line) = Π_prop (λ before. Π_prop (λ other. →_prop (Coded-set (coded_list coded_ℕ) (reply_text line.reply) (reply_text other.reply))))
IsLatest-prop listed text (Kept line) = Unit-prop

-- nothing, or the spelling of the call
abbrev pub Spells : List ℕ → Call → Type 0
Spells text call = (text ≡ []) ⊎ (text ≡ spelling call)
