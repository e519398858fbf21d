-- Short ways to write the values of worked examples, and what is computed of a path.
use Rattle.std.specs.Prelude.{ℕ, Bool, List, [], map, Option, Some, None, option_map, Result, Ok, Err}
use Rattle.esx_types.specs.declared.config.Config.{Config}
use Rattle.esx_events.specs.declared.event.Event.{Event}
use Rattle.esx_events.specs.declared.event.Refusal.{Refusal}
use Rattle.esx_formulas.specs.declared.targets.Row.{Row}
use Rattle.esx_model.specs.declared.scene.Scene.{Scene}
use Rattle.esx_model.specs.Replay.{run}
use Rattle.esx_model.proofs.rows.Replies.{replies_of}
use Rattle.esx_story.specs.declared.change.Counts.{Counts}
use Rattle.esx_story.specs.Changes.{How, change, resident_of}
use Rattle.esx_story.specs.Moments.{Moment, Line, lines_from, moments_from, moments}
use Rattle.esx_story.specs.Losses.{losses}
use Rattle.esx_story.specs.Gains.{gains}
use Rattle.esx_story.specs.Counts.{counts}
use Rattle.esx_story.specs.declared.change.Asked.{Asked}
use Rattle.esx_story.specs.declared.change.Loan.{Loan}
use Rattle.esx_story.specs.declared.story.Loss.{Loss}
use Rattle.esx_story.specs.Spans.{back, over, later_by, came_as, set_at}
use Rattle.esx_story.specs.Spots.{changed}
use Rattle.esx_story.specs.Waits.{Met, waits, asked}
use Rattle.esx_story.specs.Order.{rank, next_row}
use Rattle.esx_story.specs.Story.{told}

abbrev pub line : ℕ → ℕ → ℕ → How → Line
line i n page how = record { at = i; change = change n page how }

-- how many came, first, by a loan that ended and out of a slot; and how many were lost, in the order of `How`
abbrev pub count : ℕ → ℕ → ℕ → ℕ → ℕ → ℕ → ℕ → Counts
count first popped in_again balloon out replaced dropped = record { first = first; popped = popped; swapped_in = in_again; balloon = balloon; swapped_out = out; replaced = replaced; dropped = dropped }

unfoldable pub losses_of : Config → List Event → List Line
unfolding moments_from replies_of
losses_of c es = losses (moments c es)

unfoldable pub gains_of : Config → List Event → List Line
unfolding moments_from replies_of
gains_of c es = gains (moments c es)

unfoldable pub counts_of : Config → List Event → ℕ → Counts
unfolding moments_from replies_of
counts_of c es n = counts n (moments c es)

unfoldable pub back_of : Config → List Event → ℕ → ℕ → ℕ → Option ℕ
unfolding moments_from replies_of
back_of c es i n page = back (moments c es) i n page

unfoldable pub later_of : Config → List Event → ℕ → ℕ → ℕ → Option ℕ
unfolding moments_from replies_of
later_of c es i n page = later_by i (back (moments c es) i n page)

unfoldable pub over_of : Config → List Event → ℕ → ℕ → ℕ → Option ℕ
unfolding moments_from replies_of
over_of c es i n page = over (moments c es) i n page

unfoldable pub as_of : Config → List Event → ℕ → ℕ → ℕ → Option How
unfolding moments_from replies_of
as_of c es i n page = came_as (moments c es) i n page

-- the changes of one page, in order
unfoldable pub changes_of : Config → List Event → ℕ → ℕ → List Line
unfolding moments_from replies_of
changes_of c es n page = lines_from (λ (x : Moment). option_map (change n page) (changed x n page)) 1 (moments c es)

unfoldable pub waits_of : Config → List Event → List Met → ℕ → ℕ → ℕ → ℕ
unfolding moments_from replies_of
waits_of c es mets i n page = waits (moments c es) mets i n page

unfoldable pub asked_of : Config → List Event → ℕ → ℕ → Option Asked
unfolding moments_from replies_of
asked_of c es i n = asked (moments c es) i n

abbrev pub asked_for : ℕ → ℕ → ℕ → Asked
asked_for need revoked given = record { need = need; revoked = revoked; given = given }

-- what is told of each loss in order: the slot, the loan, what was asked for, and whether the tax was the machine's own
unfoldable pub slots_of : Config → List Event → List (Option ℕ)
unfolding moments_from replies_of
slots_of c es = map (λ (l : Loss). l.slot) (told c (moments c es) [])

unfoldable pub loans_of : Config → List Event → List (Option Loan)
unfolding moments_from replies_of
loans_of c es = map (λ (l : Loss). l.loan) (told c (moments c es) [])

unfoldable pub all_asked_of : Config → List Event → List (Option Asked)
unfolding moments_from replies_of
all_asked_of c es = map (λ (l : Loss). l.asked) (told c (moments c es) [])

unfoldable pub owns_of : Config → List Event → List Bool
unfolding moments_from replies_of
owns_of c es = map (λ (l : Loss). l.seen.own) (told c (moments c es) [])

abbrev pub loan : ℕ → ℕ → Loan
loan held goal = record { held = held; goal = goal }

-- an access that was refused, and another call
abbrev pub met : ℕ → ℕ → ℕ → Refusal → Met
met at n page refusal = record { at = at; access = Some (n, page); refusal = refusal }

abbrev pub met_other : ℕ → Refusal → Met
met_other at refusal = record { at = at; access = None; refusal = refusal }

unfoldable pub set_of : Config → List Event → ℕ → ℕ → Option ℕ
unfolding moments_from replies_of
set_of c es i n = set_at (moments c es) i n

abbrev pub read_of : {A : Type 0} → A → (Scene → A) → Result Scene (ℕ × Refusal) → A
read_of other f (Ok t) = f t
read_of other f (Err e) = other

unfoldable pub rank_after : Config → List Event → ℕ → Option ℕ
unfolding replies_of
rank_after c es n = read_of None (λ t. rank t.site n) (run c es)

unfoldable pub resident_after : Config → List Event → ℕ → ℕ
unfolding replies_of
resident_after c es n = read_of 0 (λ t. resident_of t.site n) (run c es)

unfoldable pub next_after : Config → List Event → ℕ → Option ℕ
unfolding replies_of
next_after c es n = read_of None (λ t. option_map (λ (row : Row). row.vm) (next_row t.site n)) (run c es)
