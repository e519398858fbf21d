-- Worked examples, by computation: pages that are paged out and dropped, and a machine that comes anew.
use Rattle.std.specs.Prelude.{◌≡◌, [], ◌∷◌, List, true, false, Some, None}
use Rattle.std.proofs.Common.{refl}
use Rattle.esx_events.specs.declared.event.Event.{Event}
use Rattle.esx_events.specs.declared.event.Refusal.TheVariants.{Held, Short, NotRunning}
use Rattle.esx_events.specs.declared.event.Event.TheVariants.{Admit, Start, Read, Rebalance, SwapOut, SetVmTax, Stop, DropPage, Gone}
use Rattle.esx_model.proofs.rows.Replies.{site, spec}
use Rattle.esx_story.specs.Waits.{Met}
use Rattle.esx_story.specs.Changes.{Swap, Dropped, First, SwapIn, DroppedOut}
use Rattle.esx_story.proofs.rows.Stories.{line, count, losses_of, gains_of, counts_of, back_of, later_of, over_of, as_of, changes_of, set_of, met, met_other, waits_of, asked_for, asked_of, slots_of, loans_of, all_asked_of, owns_of}

-- Three pages go out and one is read again; then the machine goes, a page that is out dropped without a loss; and it is admitted anew, and reads a page of a number that was lost.
abbrev two_lives : List Event
two_lives = Admit 0 (spec 2 8 1 1000 0) ∷ Start 0 ∷ Read 0 0 0 1 ∷ Read 0 1 0 1 ∷ Read 0 2 0 1 ∷ Read 0 3 0 1 ∷ Read 0 4 0 1 ∷ Rebalance ∷ SwapOut 0 7 ∷ SwapOut 0 7 ∷ SwapOut 0 7 ∷ Rebalance ∷ Read 0 2 0 1
    ∷ Stop 0 ∷ DropPage 0 0 ∷ DropPage 0 1 ∷ DropPage 0 2 ∷ DropPage 0 3 ∷ DropPage 0 4 ∷ Gone 0 ∷ Admit 0 (spec 2 8 1 1000 0) ∷ Start 0 ∷ Read 0 0 0 1 ∷ []

pub lives_losses : losses_of (site 8 16 8 75 6 4 2 1 16777216) two_lives
    ≡ line 9 0 2 Swap ∷ line 10 0 4 Swap ∷ line 11 0 1 Swap ∷ line 15 0 0 Dropped ∷ line 17 0 2 Dropped ∷ line 18 0 3 Dropped ∷ []
unfolding losses_of
lives_losses = refl

pub lives_gains : gains_of (site 8 16 8 75 6 4 2 1 16777216) two_lives
    ≡ line 3 0 0 First ∷ line 4 0 1 First ∷ line 5 0 2 First ∷ line 6 0 3 First ∷ line 7 0 4 First ∷ line 13 0 2 SwapIn ∷ line 23 0 0 First ∷ []
unfolding gains_of
lives_gains = refl

-- the counts are of the present life
pub lives_counts : counts_of (site 8 16 8 75 6 4 2 1 16777216) two_lives 0 ≡ count 1 0 0 0 0 0 0
unfolding counts_of
lives_counts = refl

-- a page is back in its life, and in no later one
pub lives_back : back_of (site 8 16 8 75 6 4 2 1 16777216) two_lives 9 0 2 ≡ Some 13
unfolding back_of
lives_back = refl

pub lives_not_back : back_of (site 8 16 8 75 6 4 2 1 16777216) two_lives 15 0 0 ≡ None
unfolding back_of
lives_not_back = refl

pub lives_set : set_of (site 8 16 8 75 6 4 2 1 16777216) two_lives 18 0 ≡ Some 12
unfolding set_of
lives_set = refl

pub lives_set_anew : set_of (site 8 16 8 75 6 4 2 1 16777216) two_lives 23 0 ≡ None
unfolding set_of
lives_set_anew = refl

pub lives_later : later_of (site 8 16 8 75 6 4 2 1 16777216) two_lives 9 0 2 ≡ Some 4
unfolding later_of
lives_later = refl

pub lives_as : as_of (site 8 16 8 75 6 4 2 1 16777216) two_lives 9 0 2 ≡ Some SwapIn
unfolding as_of
lives_as = refl

pub lives_as_nothing : as_of (site 8 16 8 75 6 4 2 1 16777216) two_lives 15 0 0 ≡ None
unfolding as_of
lives_as_nothing = refl

-- the machine goes with event 20, before a page that was dropped is back, and after one is back
pub lives_over : over_of (site 8 16 8 75 6 4 2 1 16777216) two_lives 15 0 0 ≡ Some 20
unfolding over_of
lives_over = refl

pub lives_not_over : over_of (site 8 16 8 75 6 4 2 1 16777216) two_lives 9 0 2 ≡ None
unfolding over_of
lives_not_over = refl

-- Calls that were refused: accesses of page 2 before it was lost, while it was away and when it was back, of another page and of another machine's, a call that was no access, one for another reason; and accesses after the machine went.
abbrev refused : List Met
refused = met 8 0 2 Held ∷ met 9 0 2 Held ∷ met 9 0 1 Held ∷ met 9 1 2 Held ∷ met_other 9 Held ∷ met 10 0 2 NotRunning ∷ met 12 0 2 Short ∷ met 13 0 2 Short
    ∷ met 19 0 0 Held ∷ met 20 0 0 Held ∷ met 22 0 0 Short ∷ []

pub lives_waits : waits_of (site 8 16 8 75 6 4 2 1 16777216) two_lives refused 9 0 2 ≡ 2
unfolding waits_of
lives_waits = refl

pub lives_waits_no_more : waits_of (site 8 16 8 75 6 4 2 1 16777216) two_lives refused 15 0 0 ≡ 1
unfolding waits_of
lives_waits_no_more = refl

pub lives_changes : changes_of (site 8 16 8 75 6 4 2 1 16777216) two_lives 0 0 ≡ line 3 0 0 First ∷ line 15 0 0 Dropped ∷ line 23 0 0 First ∷ []
unfolding changes_of
lives_changes = refl

pub lives_changes_out : changes_of (site 8 16 8 75 6 4 2 1 16777216) two_lives 0 1 ≡ line 4 0 1 First ∷ line 11 0 1 Swap ∷ line 16 0 1 DroppedOut ∷ []
unfolding changes_of
lives_changes_out = refl

-- five frames were to be free and two were, and the machine gave the three that it had above its least; the second rebalance came at level high
pub lives_asked : asked_of (site 8 16 8 75 6 4 2 1 16777216) two_lives 9 0 ≡ Some (asked_for 3 3 3)
unfolding asked_of
lives_asked = refl

pub lives_asked_nothing : asked_of (site 8 16 8 75 6 4 2 1 16777216) two_lives 18 0 ≡ None
unfolding asked_of
lives_asked_nothing = refl

pub lives_asked_before : asked_of (site 8 16 8 75 6 4 2 1 16777216) two_lives 8 0 ≡ None
unfolding asked_of
lives_asked_before = refl

-- What is told of its losses: what goes out has a slot, what is dropped has none, and nothing is lent.
pub lives_slots : slots_of (site 8 16 8 75 6 4 2 1 16777216) two_lives ≡ Some 0 ∷ Some 1 ∷ Some 2 ∷ None ∷ None ∷ None ∷ []
unfolding slots_of
lives_slots = refl

pub lives_loans : loans_of (site 8 16 8 75 6 4 2 1 16777216) two_lives ≡ None ∷ None ∷ None ∷ None ∷ None ∷ None ∷ []
unfolding loans_of
lives_loans = refl

pub lives_all_asked : all_asked_of (site 8 16 8 75 6 4 2 1 16777216) two_lives
    ≡ Some (asked_for 3 3 3) ∷ Some (asked_for 3 3 3) ∷ Some (asked_for 3 3 3) ∷ None ∷ None ∷ None ∷ []
unfolding all_asked_of
lives_all_asked = refl

-- A tax becomes a machine's own, though it is as the site's.
abbrev taxed : List Event
taxed = Admit 0 (spec 2 8 1 1000 0) ∷ Start 0 ∷ Read 0 0 0 1 ∷ Read 0 1 0 1 ∷ Read 0 2 0 1 ∷ Read 0 3 0 1 ∷ Read 0 4 0 1 ∷ Rebalance ∷ SwapOut 0 7 ∷ SetVmTax 0 75 ∷ SwapOut 0 7 ∷ []

pub taxed_owns : owns_of (site 8 16 8 75 6 4 2 1 16777216) taxed ≡ false ∷ true ∷ []
unfolding owns_of
taxed_owns = refl
