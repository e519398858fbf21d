-- Pages that stay in frames, though their frame changes, or what it serves.
use Rattle.std.specs.Prelude.{ℕ, ◌==◌, Bool, true, false, ◌&&◌, Option, Some, None, option_map, if◌then◌else◌}
use Rattle.esx_events.specs.declared.event.Event.{Event}
use Rattle.esx_events.specs.declared.event.Event.TheVariants.{Scan, SwapOut, Write}
use Rattle.esx_events.specs.declared.event.Answer.{Answer}
use Rattle.esx_events.specs.declared.event.Answer.TheVariants as answers
use Rattle.esx_model.specs.event.Sharing.{found_by}
use Rattle.esx_story.specs.declared.change.How.{How}
use Rattle.esx_story.specs.declared.change.How.TheVariants.{Share, Cow, Own}
use Rattle.esx_story.specs.declared.change.Change.{Change}
use Rattle.esx_story.specs.Changes.{change}
use Rattle.esx_story.specs.Moments.{Moment}
use Rattle.esx_story.specs.Spots.{changed}

abbrev pub is_share : How → Bool
is_share Share = true
is_share _ = false

abbrev pub is_cow : How → Bool
is_cow Cow = true
is_cow _ = false

abbrev pub is_own : How → Bool
is_own Own = true
is_own _ = false

-- so the page that an event is about stays in frames: it comes to a frame of others, or to one of its own, or has its own for itself
abbrev pub is_moving : How → Bool
is_moving Share = true
is_moving Cow = true
is_moving Own = true
is_moving _ = false

-- the page that an event is about: one that is scanned, one that is shared in place of being paged out, one that is written
abbrev pub page_about : Event → Answer → Option (ℕ × ℕ)
page_about (Scan n page) answer = Some (n, page)
page_about (SwapOut n word) (answers.SharedOut page frame) = Some (n, page)
page_about (Write n page at new) answer = Some (n, page)
page_about _ _ = None

abbrev pub move_by : ℕ → ℕ → Option How → Option Change
move_by n page None = None
move_by n page (Some how) = if is_moving how then Some (change n page how) else None

abbrev pub move_of : Moment → Option (ℕ × ℕ) → Option Change
move_of x None = None
move_of x (Some p) = move_by p.0 p.1 (changed x p.0 p.1)

-- how that page moved at a moment
abbrev pub moved_at : Moment → Option Change
moved_at x = move_of x (page_about x.event x.answer)

-- it is of machine n, and so
abbrev pub is_so : ℕ → (How → Bool) → Option Change → Bool
is_so n test None = false
is_so n test (Some y) = (y.vm == n) && test y.how

-- the page that comes to be shared: one that is scanned, one that is shared in place of being paged out
abbrev pub page_shared : Event → Answer → Option (ℕ × ℕ)
page_shared (Scan n page) answer = Some (n, page)
page_shared (SwapOut n word) (answers.SharedOut page frame) = Some (n, page)
page_shared _ _ = None

-- the page in whose frame another came at a moment, and its machine
abbrev pub host_page : Moment → Option (ℕ × ℕ)
host_page x = found_by x.before.site (page_shared x.event x.answer)

abbrev pub host_at : Moment → Option ℕ
host_at x = option_map (λ p. p.0) (host_page x)

abbrev pub is_vm : ℕ → Option ℕ → Bool
is_vm n None = false
is_vm n (Some m) = m == n
