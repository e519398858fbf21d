-- What a walk keeps of the path behind it, and how it goes on with one more event.
use Rattle.std.specs.Prelude.{ℕ, suc, zero, ◌+◌, ◌-◌, nat_lt, replicate, List, [], ◌∷◌, ◌++◌, length, slice_get, slice_index_or, slice_set, Option, Some, None, if◌then◌else◌}
use Rattle.esx_types.specs.declared.config.TheConstants.{VM_NUMBERS}
use Rattle.esx_events.specs.declared.event.Event.{Event}
use Rattle.esx_events.specs.declared.event.Event.TheVariants.{Admit, Gone, Rebalance}
use Rattle.esx_events.specs.declared.event.Refusal.{Refusal}
use Rattle.esx_events.specs.declared.event.Answer.{Answer}
use Rattle.esx_events.specs.declared.event.Answer.TheVariants as answers
use Rattle.esx_story.specs.declared.story.Loss.{Loss}
use Rattle.esx_story.specs.declared.story.Seen.{Seen}
use Rattle.esx_story.specs.declared.change.Asked.{Asked}
use Rattle.esx_story.specs.declared.change.How.{How}
use Rattle.esx_story.specs.declared.change.Change.{Change}
use Rattle.esx_story.specs.Counts.{no_counts, with_change}
use Rattle.esx_story.specs.Losses.{slot_by, loan_by}
use Rattle.esx_story.specs.Waits.{asked_in}
use Rattle.esx_model.specs.Guests.{is_pressed}
use Rattle.esx_walk.specs.declared.lives.Life.{Life}

-- The events so far, their losses, a life for each machine's number, and for each of its pages the place, from 1, of the loss after which it is away.
pub record Account : Type 0 where
  pub events : ℕ
  pub losses : List Loss
  pub lives : List Life
  pub places : List (List ℕ)

abbrev pub no_life : Life
no_life = record { lives = 0; set = None; asked = None; counts = no_counts }

abbrev pub life_in : List Life → ℕ → Life
life_in lives n = slice_index_or lives n no_life

-- where the loss of a page stands
abbrev pub open_in : List (List ℕ) → ℕ → ℕ → ℕ
open_in rows n page = slice_index_or (slice_index_or rows n []) page 0

abbrev pub with_open : List (List ℕ) → ℕ → ℕ → ℕ → List (List ℕ)
with_open rows n page place = slice_set rows n (slice_set (slice_index_or rows n []) page place)

-- A page that is back: its loss is told so, and stands open no more.

abbrev pub back_with : ℕ → How → Loss → Loss
back_with i how l = record l { back = Some i; came = Some how }

abbrev pub closed_loss : List Loss → ℕ → ℕ → How → Option Loss → List Loss
closed_loss losses j i how None = losses
closed_loss losses j i how (Some l) = slice_set losses j (back_with i how l)

abbrev pub closed_at : List Loss → ℕ → How → ℕ → List Loss
closed_at losses i how zero = losses
closed_at losses i how (suc j) = closed_loss losses j i how (slice_get losses j)

abbrev pub closed : List Loss → List (List ℕ) → ℕ → Option Change → List Loss
closed losses rows i None = losses
closed losses rows i (Some g) = closed_at losses i g.how (open_in rows g.vm g.page)

abbrev pub shut : List (List ℕ) → Option Change → List (List ℕ)
shut rows None = rows
shut rows (Some g) = with_open rows g.vm g.page 0

-- no page of a machine that goes is away any more
abbrev pub cleared : List (List ℕ) → Event → Answer → List (List ℕ)
cleared rows (Gone n) answers.Gone = slice_set rows n []
cleared rows _ _ = rows

-- one more loss
abbrev pub opened : List (List ℕ) → ℕ → Option Change → List (List ℕ)
opened rows place None = rows
opened rows place (Some y) = with_open rows y.vm y.page place

-- An access that is refused for want of a frame: the loss of its page that stands open waits once more.

abbrev pub wanted_by : Option (ℕ × ℕ) → Refusal → Option (ℕ × ℕ)
wanted_by access r = if is_pressed r then access else None

abbrev pub waited_one : Loss → Loss
waited_one l = record l { waits = l.waits + 1 }

abbrev pub waited_loss : List Loss → ℕ → Option Loss → List Loss
waited_loss losses j None = losses
waited_loss losses j (Some l) = slice_set losses j (waited_one l)

abbrev pub waited_at : List Loss → ℕ → List Loss
waited_at losses zero = losses
waited_at losses (suc j) = waited_loss losses j (slice_get losses j)

abbrev pub waited : List Loss → List (List ℕ) → Option (ℕ × ℕ) → List Loss
waited losses rows None = losses
waited losses rows (Some p) = waited_at losses (open_in rows p.0 p.1)

-- Lives.

abbrev pub counted_in : List Life → Option Change → List Life
counted_in lives None = lives
counted_in lives (Some y) = slice_set lives y.vm (record (life_in lives y.vm) { counts = with_change (life_in lives y.vm).counts y.how })

-- what a rebalance asked for, also of machine n, where it is known what each gave
abbrev pub asked_for : Answer → Option (List ℕ) → ℕ → Option Asked
asked_for answer None n = None
asked_for answer (Some given) n = asked_in answer (slice_index_or given n 0)

-- each changed as its place tells, which is n of the first
abbrev pub map_from : {A : Type 0} → (ℕ → A → A) → ℕ → List A → List A
map_from f n [] = []
map_from f n (x ∷ xs) = f n x ∷ map_from f (n + 1) xs

-- a rebalance, the i-th event, sets the targets of each
abbrev pub set_life : ℕ → Answer → Option (List ℕ) → ℕ → Life → Life
set_life i answer given n l = record l { set = Some i; asked = asked_for answer given n }

abbrev pub lived : List Life → ℕ → Event → Answer → Option (List ℕ) → List Life
lived lives i (Admit n spec) answer given = slice_set lives n (record { lives = (life_in lives n).lives + 1; set = None; asked = None; counts = no_counts })
lived lives i Rebalance answer given = map_from (set_life i answer given) 0 lives
lived lives i _ answer given = lives

-- a loss that is told when it comes, if something was seen before it
abbrev pub new_loss : List Life → ℕ → Answer → Seen → Change → Loss
new_loss lives i answer seen y = record {
  at = i;
  change = y;
  life = (life_in lives y.vm).lives;
  set = (life_in lives y.vm).set;
  asked = (life_in lives y.vm).asked;
  seen = seen;
  slot = slot_by answer;
  loan = loan_by answer;
  back = None;
  came = None;
  waits = 0;
}

abbrev pub with_loss : List Loss → List Life → ℕ → Answer → Option Seen → Option Change → List Loss
with_loss losses lives i answer seen None = losses
with_loss losses lives i answer None (Some y) = losses
with_loss losses lives i answer (Some seen) (Some y) = losses ++ new_loss lives i answer seen y ∷ []

-- after one more event, what was seen of its machine before it, what each machine gave where it set targets, and what it lost and gained
abbrev pub gone_on : Account → Event → Answer → Option Seen → Option (List ℕ) → Option Change → Option Change → Account
gone_on a e answer seen given lost gained = record {
  events = a.events + 1;
  losses = with_loss (closed a.losses a.places (a.events + 1) gained) a.lives (a.events + 1) answer seen lost;
  lives = lived (counted_in (counted_in a.lives gained) lost) (a.events + 1) e answer given;
  places = opened (cleared (shut a.places gained) e answer) (length a.losses + 1) lost;
}

-- with a place for each of so many pages of a machine
abbrev pub roomy : List (List ℕ) → ℕ → ℕ → List (List ℕ)
roomy rows n pages = if nat_lt (length (slice_index_or rows n [])) pages then slice_set rows n (slice_index_or rows n [] ++ replicate (pages - length (slice_index_or rows n [])) 0) else rows

-- of no event
abbrev pub nothing : Account
nothing = record { events = 0; losses = []; lives = replicate VM_NUMBERS no_life; places = replicate VM_NUMBERS [] }

-- after a call that was refused
abbrev pub refused : Account → Option (ℕ × ℕ) → Refusal → Account
refused a access r = record a { losses = waited a.losses a.places (wanted_by access r) }
