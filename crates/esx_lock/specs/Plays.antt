-- What each step of the lock tells.
use Rattle.std.specs.Prelude.{◌≡◌, ◌≢◌, ℕ, ◌+◌, ◌^◌, ◌<◌, ltb, cond, true, false, List, [], ◌∷◌, length, Option, Some, None}
use Rattle.atomic_table.specs.Table.{Me, Step}
use Rattle.esx_types.specs.declared.ids.Ids.{Ids}
use Rattle.esx_events.specs.declared.call.Line.{Line}
use Rattle.esx_types.specs.declared.level.Level.{Level}
use Rattle.esx_types.specs.declared.config.Config.{Config}
use Rattle.esx_lock.specs.declared.view.Hold.TheVariants.{Free, Moving, Held}
use Rattle.esx_lock.specs.declared.view.View.{View}
use Rattle.esx_lock.specs.Logs.{Follows}
use Rattle.esx_lock.specs.Words.{bits}
use Rattle.esx_lock.specs.Rule.{no_note}

-- the view after the log was seen, with no note any more
abbrev pub having_seen : View → List Line → View
having_seen v log = record { site = v.site; callers = v.callers; ids = v.ids; seen = log; last = v.last; by_exchange = v.by_exchange; hold = v.hold; note = no_note log }

abbrev pub having_read : View → ℕ → View
having_read v found = record { site = v.site; callers = v.callers; ids = v.ids; seen = v.seen; last = found; by_exchange = false; hold = v.hold; note = v.note }

abbrev pub having_exchanged : View → ℕ → View
having_exchanged v found = record { site = v.site; callers = v.callers; ids = v.ids; seen = v.seen; last = found; by_exchange = true; hold = v.hold; note = v.note }

abbrev pub moving : View → View
moving v = record { site = v.site; callers = v.callers; ids = v.ids; seen = v.seen; last = v.last; by_exchange = v.by_exchange; hold = Moving; note = v.note }

abbrev pub holding : View → View
holding v = record { site = v.site; callers = v.callers; ids = v.ids; seen = v.seen; last = v.last; by_exchange = v.by_exchange; hold = Held; note = v.note }

abbrev pub released : View → View
released v = record { site = v.site; callers = v.callers; ids = v.ids; seen = v.seen; last = v.last; by_exchange = v.by_exchange; hold = Free; note = v.note }

abbrev pub compared : View → View
compared v = record { site = v.site; callers = v.callers; ids = v.ids; seen = v.seen; last = v.last; by_exchange = v.by_exchange; hold = v.hold; note = no_note v.seen }

abbrev pub with_ids : View → Ids → View
with_ids v ids = record { site = v.site; callers = v.callers; ids = ids; seen = v.seen; last = v.last; by_exchange = v.by_exchange; hold = v.hold; note = v.note }

-- of two views the longer log, and the other as a note
abbrev pub joined : Ids → View → View → View
joined ids v w = cond (ltb (length v.seen) (length w.seen))
    (record { site = v.site; callers = v.callers; ids = ids; seen = w.seen; last = v.last; by_exchange = v.by_exchange; hold = v.hold; note = record { ids = v.ids; seen = v.seen } })
    (record { site = v.site; callers = v.callers; ids = ids; seen = v.seen; last = v.last; by_exchange = v.by_exchange; hold = v.hold; note = record { ids = w.ids; seen = w.seen } })

module _ {X : Type 0} (site_of : X → Config) (lines : X → List Line) (legal : Config → List Line → Type 0) (gauge : Config → List Line → ℕ × Level) where
  abbrev Sat : Type 0
  Sat = Me (Option X) View

  -- a log that goes on from what the view had seen, and is legal
  abbrev pub Sees : View → List Line → Type 0
  Sees v log = Follows v.callers v.ids v.seen log × legal v.site log

  -- a load: the log is seen, and the word is its gauge's, with the held bit
  abbrev pub looked : Step (Option X) → Sat → ℕ → Sat → Type 0
  looked st m r m' = (log : List Line) × (bit : ℕ) × (bit < 2) × (r ≡ bits (gauge m.0.site log) + bit) × ((gauge m.0.site log).0 < 2 ^ 32) × Sees m.0 log × (m' ≡ (having_read (having_seen m.0 log) r, m.1))

  -- an exchange: where the word was the one expected, the seat has the lock and the slot
  abbrev pub taken : Step (Option X) → Sat → ℕ → Sat → Type 0
  taken st m r m' =
      (r ≡ st.first → (x : X) × (site_of x ≡ m.0.site) × (r ≡ bits (gauge m.0.site (lines x))) × Sees m.0 (lines x) × (m' ≡ (moving (having_exchanged (having_seen m.0 (lines x)) r), (0, Some x) ∷ [])))
      × (r ≢ st.first → m' ≡ (having_exchanged m.0 r, m.1))

  -- the empty slot goes home, and comes back
  abbrev pub settled : Step (Option X) → Sat → ℕ → Sat → Type 0
  settled st m r m' = m' ≡ (holding m.0, [])

  abbrev pub fetched : Step (Option X) → Sat → ℕ → Sat → Type 0
  fetched st m r m' = m' ≡ (moving m.0, (0, None) ∷ [])

  -- a store: the value in the slot is at home, and its log is the log
  abbrev pub gave : Step (Option X) → Sat → ℕ → Sat → Type 0
  gave st m r m' = (x : X) → m.1 ≡ (0, Some x) ∷ [] → m' ≡ (released (having_seen m.0 (lines x)), [])

  -- what was noted is a beginning of what was seen
  abbrev pub recalled : Step (Option X) → Sat → ℕ → Sat → Type 0
  recalled st m r m' = (m' ≡ (compared m.0, m.1)) × Follows m.0.callers m.0.note.ids m.0.note.seen m.0.seen
