-- What a machine keeps, what its records do, and what an event gives.
use Rattle.std.specs.Prelude.{◌≡◌, ◌≢◌, List, Result, Ok, Err, IsOk}
use Rattle.esx_types.specs.Ranges.{IsConfig}
use Rattle.esx_types.specs.declared.config.Config.{Config}
use Rattle.esx_types.specs.declared.level.Level.{Level}
use Rattle.esx_events.specs.declared.event.Answer.{Answer}
use Rattle.esx_events.specs.declared.event.Event.{Event}
use Rattle.esx_events.specs.declared.event.Refusal.{Refusal}
use Rattle.esx_events.specs.declared.event.Refusal.TheVariants.{OutOfMemory}
use Rattle.esx_model.specs.declared.scene.Site.{Site}
use Rattle.esx_model.specs.declared.scene.Scene.{Scene}
use Rattle.esx_model.specs.declared.book.Book.{Book}
use Rattle.esx_model.specs.declared.tables.Tables.{Tables}
use Rattle.esx_model.specs.Tables.{tables_of, book_from}
use Rattle.esx_model.specs.sound.Sound.{IsSound}
use Rattle.esx_tables.specs.declared.change.Change.{Change}
use Rattle.esx_tables.specs.Changes.{exchanged}
use Rattle.esx_plans.specs.plan.Event.{plan_of}

-- a site's numbers, the level and the tables
pub record Kept : Type 0 where
  pub config : Config
  pub level : Level
  pub tables : Tables

-- the tables are those of some sound site
pub record IsKept (k : Kept) : Type 0 where
  pub config : IsConfig k.config
  pub site : Site
  pub sound : IsSound k.config site
  pub shows : k.tables ≡ tables_of k.config site

-- the tables are those of this scene
pub record Shows (k : Kept) (t : Scene) : Type 0 where
  pub sound : IsSound k.config t.site
  pub tables : k.tables ≡ tables_of k.config t.site
  pub level : k.level ≡ t.level

-- the book that is read from the tables
abbrev pub book_in : Kept → Book
book_in k = book_from k.tables k.level

-- a record: the level, and the changes
pub record Back : Type 0 where
  pub level : Level
  pub changes : List Change

-- a record traded with what the machine keeps
abbrev pub flipped : Kept → Back → Kept × Back
flipped k r = (record k { level = r.level; tables = (exchanged k.tables r.changes).0 }, record { level = k.level; changes = (exchanged k.tables r.changes).1 })

-- A record leads from one state to another: its rows traded with the tables there make the other's.
pub record Trades (r : Back) (here there : Kept) : Type 0 where
  pub makes : there ≡ (flipped here r).0
  pub kept : IsKept there

-- a record after its flip
abbrev pub turned : Back → Kept → Back
turned r here = (flipped here r).1

-- The changes of an event's plan were traded with the tables; what they left there is the record, with the level that was.
pub record Exchanges (old new : Kept) (event : Event) (r : Back) : Type 0 where
  pub plan : Answer × List Change
  pub planned : plan_of old.config old.tables old.level event ≡ Ok plan
  pub tables : new.tables ≡ (exchanged old.tables plan.1).0
  pub level : r.level ≡ old.level
  pub changes : r.changes ≡ (exchanged old.tables plan.1).1

-- An event was accepted, where d is what it does to the scene that was shown.
pub record Accepts (old new : Kept) (answer : Answer) (r : Back) (d : Result (Answer × Scene) Refusal) : Type 0 where
  pub after : Scene
  pub gives : d ≡ Ok (answer, after)
  pub shows : Shows new after
  pub config : new.config ≡ old.config
  pub back : Trades r new old

-- An event was refused: nothing changed, and memory aside the refusal is the scene's. Memory runs out only where the event would be accepted.
pub record Refuses (old new : Kept) (e : Refusal) (d : Result (Answer × Scene) Refusal) : Type 0 where
  pub same : new ≡ old
  pub why : e ≢ OutOfMemory → d ≡ Err e
  pub late : e ≡ OutOfMemory → IsOk d

-- what a call that makes one event may give
abbrev pub Applies : Result (Answer × Back) Refusal → Kept → Kept → Result (Answer × Scene) Refusal → Type 0
Applies (Ok r) old new d = Accepts old new r.0 r.1 d
Applies (Err e) old new d = Refuses old new e d
