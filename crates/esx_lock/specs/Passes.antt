-- What contracts see of a pass.
use Rattle.std.specs.Prelude.{◌≡◌, ◌≢◌, ℕ, ◌+◌, ◌%◌, ◌<◌, ◌≤◌, ◌⊎◌, true, false, List, [], ◌∷◌, ◌++◌, Some, slice_get}
use Rattle.atomic_table.specs.Seated.{TableId}
use Rattle.esx_types.specs.declared.ids.Ids.{Ids}
use Rattle.esx_events.specs.declared.call.Line.{Line}
use Rattle.esx_types.specs.declared.config.Config.{Config}
use Rattle.esx_types.specs.declared.config.TheConstants.{CALLERS}
use Rattle.esx_types.specs.declared.level.Level.{Level}
use Rattle.esx_types.specs.Ids.{has}
use Rattle.esx_lock.specs.declared.view.Hold.TheVariants.{Free, Held}
use Rattle.esx_lock.specs.declared.view.View.{View}
use Rattle.esx_lock.specs.Rule.{spent}
use Rattle.esx_lock.specs.Logs.{OnlyOf, Follows}
use Rattle.esx_lock.specs.Words.{bits}

-- which lock it is, and for how many callers
pub record LockView : Type 0 where
  pub table : TableId
  pub callers : ℕ

-- a table of one word and one slot, which was told of as many callers
pub record IsLock (table : TableId) (told callers : ℕ) : Type 0 where
  pub words : table.words ≡ 1
  pub slots : table.slots ≡ 1
  pub told_of : told ≡ callers
  pub positive : 0 < callers
  pub in_range : callers ≤ CALLERS

-- whose pass it is, and what it knows
pub record Known : Type 0 where
  pub table : TableId
  pub seat : ℕ
  pub view : View

abbrev pub only : List View → View
only [] = spent
only (v ∷ vs) = v

abbrev pub known : TableId → ℕ → List View → Known
known table seat views = record { table = table; seat = seat; view = only views }

-- the one view has these ids, and at least one
abbrev pub IsPass : Ids → List View → Type 0
IsPass ids views = (v : View) × (views ≡ v ∷ []) × (v.ids ≡ ids) × ((k : ℕ) × (has ids k ≡ true))

abbrev pub SomeId : Ids → Type 0
SomeId ids = (k : ℕ) × (has ids k ≡ true)

-- it speaks for all callers
abbrev pub IsWhole : View → Type 0
IsWhole v = (k : ℕ) → k < v.callers → has v.ids k ≡ true

-- one pass, before and after
abbrev pub IsSame : View → View → Type 0
IsSame v w = (w.site ≡ v.site) × (w.ids ≡ v.ids) × (w.callers ≡ v.callers)

-- a legal log that begins with what was seen, and goes on with lines of others alone
abbrev pub Learns : (Config → List Line → Type 0) → View → List Line → Type 0
Learns legal v log = Follows v.callers v.ids v.seen log × legal v.site log

-- the word that was read last is as before
abbrev pub ReadAsBefore : View → View → Type 0
ReadAsBefore v w = (w.last ≡ v.last) × (w.by_exchange ≡ v.by_exchange)

module _ (legal : Config → List Line → Type 0) (gauge : Config → List Line → ℕ × Level) where
  -- the pass holds the lock, and has seen the log of the value; the word was that log's, and free
  pub record Took (v w : View) (site : Config) (log : List Line) : Type 0 where
    pub same : IsSame v w
    pub held : w.hold ≡ Held
    pub at_site : site ≡ v.site
    pub seen : w.seen ≡ log
    pub learnt : Learns legal v log
    pub word : w.last ≡ bits (gauge site log)
    pub exchanged : w.by_exchange ≡ true

module _ (legal : Config → List Line → Type 0) where
  -- the word that was read last is odd and was loaded, or an exchange that failed read it
  pub record Missed (v w : View) (word : ℕ) : Type 0 where
    pub same : IsSame v w
    pub free : w.hold ≡ Free
    pub last : w.last ≡ word
    pub how : ((w.by_exchange ≡ false) × (word % 2 ≡ 1)) ⊎ (w.by_exchange ≡ true)
    pub learnt : Learns legal v w.seen

-- The log that the pass has now seen is that of the word that a load found, with the held bit. An exchange that failed found another word than that log's while the lock is free.
abbrev pub FoundBusy : (Config → List Line → ℕ × Level) → View → ℕ → Type 0
FoundBusy gauge w word = (w.by_exchange ≡ false → word ≡ bits (gauge w.site w.seen) + 1) × (w.by_exchange ≡ true → word ≢ bits (gauge w.site w.seen))

-- the log is what the pass has seen, and then lines of its own
abbrev pub Grows : View → List Line → Type 0
Grows v log = (new : List Line) × (v.seen ++ new ≡ log) × OnlyOf v.ids new

-- a part of a pass has seen and read as much, and holds as little
abbrev pub IsAlike : View → View → Type 0
IsAlike v w = (w.site ≡ v.site) × (w.seen ≡ v.seen) × (w.hold ≡ v.hold) × (w.callers ≡ v.callers) × ReadAsBefore v w

-- what two passes have seen together: what one of them has seen, which for the other is as much, and then lines of others alone
abbrev pub Meet : View → View → List Line → Type 0
Meet v w log = ((log ≡ v.seen) ⊎ (log ≡ w.seen)) × Follows v.callers v.ids v.seen log × Follows v.callers w.ids w.seen log

abbrev pub IsNew : ℕ → Config → List Line → View → Type 0
IsNew n site log v = (v.site ≡ site) × (v.seen ≡ log) × (v.hold ≡ Free) × (v.callers ≡ n)

-- the pass number j of those that a lock opened with: its one id is j
abbrev pub IsOpened : TableId → ℕ → Config → List Line → ℕ → Known → Type 0
IsOpened table n site log j p = (p.table ≡ table) × IsNew n site log p.view × (has p.view.ids j ≡ true) × ((k : ℕ) → has p.view.ids k ≡ true → k ≡ j)

abbrev pub AreOpened : TableId → ℕ → Config → List Line → List Known → Type 0
AreOpened table n site log passes = (j : ℕ) (p : Known) → slice_get passes j ≡ Some p → IsOpened table n site log j p
