-- Changes of place: how a page came to be where it is, by its spots before an event and after it.
use Rattle.std.specs.Prelude.{◌≡◌, ℕ, ◌==◌, Bool, true, false, List, Option, Some, None, if◌then◌else◌}
use Rattle.esx_events.specs.declared.event.Event.{Event}
use Rattle.esx_events.specs.declared.event.Event.TheVariants.{Ask, Lend, TakeBack, Replace}
use Rattle.esx_events.specs.declared.event.Answer.{Answer}
use Rattle.esx_events.specs.declared.event.Answer.TheVariants as answers
use Rattle.esx_model.specs.declared.scene.Place.{Place}
use Rattle.esx_model.specs.declared.scene.Place.TheVariants as places
use Rattle.esx_model.specs.declared.scene.Vm.{Vm}
use Rattle.esx_model.specs.declared.scene.Site.{Site}
use Rattle.esx_model.specs.Site.{vm_at, place_at}
use Rattle.esx_story.specs.declared.change.Spot.{Spot}
use Rattle.esx_story.specs.declared.change.Spot.TheVariants as spots
use Rattle.esx_story.specs.Changes.{How, Balloon, Swap, Replaced, Dropped, First, Pop, SwapIn, Share, Host, Cow, Own, LentAway, TakenBack, DroppedOut}
use Rattle.esx_story.specs.Moments.{Moment, IsAt}
use Rattle.esx_story.specs.Spans.{is_last}

-- A place without its bytes, in an epoch of its machine: a loan of an epoch that is over is no more.
abbrev pub spot : ℕ → Place → Spot
spot epoch places.Untouched = spots.Untouched
spot epoch (places.Here bytes frame shared) = spots.Here frame shared
spot epoch (places.Out bytes slot) = spots.Out slot
spot epoch (places.Lent since) = if since == epoch then spots.Lent since else spots.Untouched

abbrev pub spot_in : Option Vm → ℕ → Spot
spot_in None page = spots.Untouched
spot_in (Some v) page = spot v.epoch (place_at v page)

abbrev pub spot_of : Site → ℕ → ℕ → Spot
spot_of s n page = spot_in (vm_at s n) page

-- a page that stays in frames: its frame comes to serve others too, or it alone; or it comes to a frame of others, or to one of its own
abbrev pub how_here : Bool → Bool → Bool → Option How
how_here true false true = Some Host
how_here true true false = Some Own
how_here true _ _ = None
how_here false _ true = Some Share
how_here false _ false = Some Cow

-- a page that goes to a slot makes room for another of its machine, or for whoever comes
abbrev pub how_out : Event → How
how_out (Replace n page word) = Replaced
how_out _ = Swap

-- how a page came from a spot to another
abbrev pub how_of : Event → Spot → Spot → Option How
how_of e spots.Untouched (spots.Here frame shared) = Some First
how_of e (spots.Lent since) (spots.Here frame shared) = Some Pop
how_of e (spots.Out slot) (spots.Here frame shared) = Some SwapIn
how_of e (spots.Here frame shared) (spots.Here other also) = how_here (frame == other) shared also
how_of e (spots.Here frame shared) (spots.Lent since) = Some Balloon
how_of e (spots.Here frame shared) (spots.Out slot) = Some (how_out e)
how_of e (spots.Here frame shared) spots.Untouched = Some Dropped
how_of e spots.Untouched (spots.Lent since) = Some LentAway
how_of e (spots.Out slot) (spots.Lent since) = Some LentAway
how_of e (spots.Lent since) spots.Untouched = Some TakenBack
how_of e (spots.Out slot) spots.Untouched = Some DroppedOut
how_of e _ _ = None

-- the event names machine n
abbrev pub asks : ℕ → Event → Bool
asks n (Ask m) = m == n
asks n (Lend m page) = m == n
asks n (TakeBack m page) = m == n
asks n _ = false

-- all loans of machine n end with a reset, and with its last overhead frame; no page moves then
abbrev pub ends_loans : ℕ → Event → Answer → Bool
ends_loans n e (answers.Reset epoch) = asks n e
ends_loans n e answers.Gone = is_last n e answers.Gone
ends_loans n e _ = false

-- how a page changed its place at a moment
abbrev pub changed : Moment → ℕ → ℕ → Option How
changed x n page = if ends_loans n x.event x.answer then None else how_of x.event (spot_of x.before.site n page) (spot_of x.after.site n page)

-- CHANGE: it did so at the i-th event
abbrev pub IsChange : List Moment → ℕ → ℕ → ℕ → How → Type 0
IsChange ms i n page how = (x : Moment) × IsAt ms i x × (changed x n page ≡ Some how)
