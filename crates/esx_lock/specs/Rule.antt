-- The rule of the lock's table.
use Rattle.std.specs.Prelude.{◌≡◌, ◌≢◌, ℕ, ◌+◌, ◌^◌, ◌<◌, true, false, List, [], ◌∷◌, ◌++◌, Option, Some, None}
use mathlib.Core.List.{IsPrefix}
use mathlib.Core.Option as optional
use lib.ListN.{get_elem?}
use Rattle.atomic_table.specs.Table.{State}
use Rattle.esx_types.specs.declared.ids.Ids.{Ids}
use Rattle.esx_events.specs.declared.call.Line.{Line}
use Rattle.esx_types.specs.declared.level.Level.{Level}
use Rattle.esx_types.specs.declared.config.Config.{Config}
use Rattle.esx_types.specs.Ids.{has, no_ids}
use Rattle.esx_lock.specs.declared.view.Hold.{Hold}
use Rattle.esx_lock.specs.declared.view.Hold.TheVariants.{Free, Moving, Held}
use Rattle.esx_lock.specs.declared.view.Note.{Note}
use Rattle.esx_lock.specs.declared.view.View.{View}
use Rattle.esx_lock.specs.Logs.{Callers, Follows}
use Rattle.esx_lock.specs.Words.{bits}

-- where the value is: at home, or with a seat, which holds the lock
pub data Where (X : Type 0) : Type 0 where
  home : X → Where X
  with_seat : Hold → ℕ → Where X

-- a note of nobody, who has seen as much
abbrev pub no_note : List Line → Note
no_note seen = record { ids = no_ids; seen = seen }

abbrev pub newcomer : ℕ → Config → Ids → List Line → View
newcomer n site ids seen = record { site = site; callers = n; ids = ids; seen = seen; last = 0; by_exchange = false; hold = Free; note = no_note seen }

abbrev pub no_site : Config
no_site = record { frames = 0; page = 0; slots = 0; tau = 0; high = 0; soft = 0; hard = 0; low = 0; nodes = 0 }

-- what a join leaves
abbrev pub spent : View
spent = newcomer 0 no_site no_ids []

module _ {X : Type 0} where
  abbrev pub held_bit : Where X → ℕ
  held_bit (home x) = 0
  held_bit (with_seat p h) = 1

  abbrev pub homes_of : Where X → List (optional.Option (Option X))
  homes_of (home x) = optional.some (Some x) ∷ []
  homes_of (with_seat Held h) = optional.some None ∷ []
  homes_of (with_seat Moving h) = optional.none ∷ []
  homes_of (with_seat Free h) = optional.none ∷ []

-- the views of a table that opened with `base` for n callers
module _ (n : ℕ) (site : Config) (base log : List Line) where
  pub record Fits (v : View) : Type 0 where
    pub at_site : v.site ≡ site
    pub told : v.callers ≡ n
    pub begins : IsPrefix base v.seen
    pub follows : Follows n v.ids v.seen log
    pub noted : Follows n v.note.ids v.note.seen v.seen
    pub below : (k : ℕ) → has v.ids k ≡ true → k < n

  pub record Roll (views : List View) : Type 0 where
    pub each : (i k : ℕ) (v : View) → get_elem? views i ≡ optional.some v → has v.ids k ≡ true → Fits v
    pub apart : (i j k : ℕ) (v w : View) → get_elem? views i ≡ optional.some v → get_elem? views j ≡ optional.some w → has v.ids k ≡ true → has w.ids k ≡ true → i ≡ j

abbrev pub OthersFree : ℕ → List View → Type 0
OthersFree h views = (i : ℕ) (v : View) → i ≢ h → get_elem? views i ≡ optional.some v → v.hold ≡ Free

-- the seat h holds the lock
pub record Holds (log : List Line) (p : Hold) (h : ℕ) (views : List View) : Type 0 where
  pub view : View
  pub there : get_elem? views h ≡ optional.some view
  pub hold : view.hold ≡ p
  pub not_free : p ≢ Free
  pub seen : view.seen ≡ log
  pub id : ℕ
  pub own : has view.ids id ≡ true
  pub others : OthersFree h views

module _ {X : Type 0} (site_of : X → Config) (lines : X → List Line) (legal : Config → List Line → Type 0) (gauge : Config → List Line → ℕ × Level) where
  abbrev pub Stands : Config → List Line → List View → Where X → Type 0
  Stands site log views (home x) = (site_of x ≡ site) × (lines x ≡ log) × ((i : ℕ) (v : View) → get_elem? views i ≡ optional.some v → v.hold ≡ Free)
  Stands site log views (with_seat p h) = Holds log p h views

  pub record Kept (n : ℕ) (site : Config) (base : List Line) (s : State (Option X) View) : Type 0 where
    pub log : List Line
    pub at : Where X
    pub legal_log : legal site log
    pub small : (gauge site log).0 < 2 ^ 32
    pub later : List Line
    pub begins : base ++ later ≡ log
    pub callers : Callers (λ k. k < n) later
    pub word : s.words ≡ (bits (gauge site log) + held_bit at) ∷ []
    pub homes : s.homes ≡ homes_of at
    pub stands : Stands site log s.views at
    pub roll : Roll n site base log s.views
