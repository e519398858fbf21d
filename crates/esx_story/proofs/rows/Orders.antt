-- Worked examples, by computation: the order in which machines are to give pages up.
use Rattle.std.specs.Prelude.{◌≡◌, [], ◌∷◌, List, Some, None}
use Rattle.std.proofs.Common.{refl}
use Rattle.esx_events.specs.declared.event.Event.{Event}
use Rattle.esx_events.specs.declared.event.Event.TheVariants.{Admit, Start, Read, Rebalance}
use Rattle.esx_model.proofs.rows.Replies.{site, spec}
use Rattle.esx_story.proofs.rows.Stories.{rank_after, next_after, asked_for, asked_of}

-- Three machines of as many pages; the third has more shares, and of equal ratios the lower machine comes first.
abbrev three : List Event
three = Admit 0 (spec 1 3 1 1000 0) ∷ Admit 1 (spec 1 3 1 1000 0) ∷ Admit 2 (spec 1 3 1 2000 0) ∷ Start 0 ∷ Start 1 ∷ Start 2
    ∷ Read 0 0 0 1 ∷ Read 0 1 0 1 ∷ Read 0 2 0 1 ∷ Read 1 0 0 1 ∷ Read 1 1 0 1 ∷ Read 1 2 0 1 ∷ Read 2 0 0 1 ∷ Read 2 1 0 1 ∷ Read 2 2 0 1 ∷ Rebalance ∷ []

-- before their targets were set anew, each may keep what it asked for
abbrev unset : List Event
unset = Admit 0 (spec 1 3 1 1000 0) ∷ Start 0 ∷ Read 0 0 0 1 ∷ Read 0 1 0 1 ∷ Read 0 2 0 1 ∷ []

pub at_target : rank_after (site 12 16 8 75 6 4 2 1 16777216) unset 0 ≡ None
unfolding rank_after
at_target = refl

pub first : rank_after (site 12 16 8 75 6 4 2 1 16777216) three 0 ≡ Some 1
unfolding rank_after
first = refl

pub second : rank_after (site 12 16 8 75 6 4 2 1 16777216) three 1 ≡ Some 2
unfolding rank_after
second = refl

pub third : rank_after (site 12 16 8 75 6 4 2 1 16777216) three 2 ≡ Some 3
unfolding rank_after
third = refl

pub nobody : rank_after (site 12 16 8 75 6 4 2 1 16777216) three 3 ≡ None
unfolding rank_after
nobody = refl

pub next_to_first : next_after (site 12 16 8 75 6 4 2 1 16777216) three 0 ≡ Some 1
unfolding next_after
next_to_first = refl

pub next_to_second : next_after (site 12 16 8 75 6 4 2 1 16777216) three 1 ≡ Some 0
unfolding next_after
next_to_second = refl

pub next_to_third : next_after (site 12 16 8 75 6 4 2 1 16777216) three 2 ≡ Some 0
unfolding next_after
next_to_third = refl

pub next_to_nobody : next_after (site 12 16 8 75 6 4 2 1 16777216) three 3 ≡ Some 0
unfolding next_after
next_to_nobody = refl

pub next_to_none : next_after (site 12 16 8 75 6 4 2 1 16777216) unset 0 ≡ None
unfolding next_after
next_to_none = refl

-- five frames were wanted: two of each of the first two, and one of the third, which has more shares
pub asked_of_first : asked_of (site 12 16 8 75 6 4 2 1 16777216) three 17 0 ≡ Some (asked_for 5 5 2)
unfolding asked_of
asked_of_first = refl

pub asked_of_third : asked_of (site 12 16 8 75 6 4 2 1 16777216) three 17 2 ≡ Some (asked_for 5 5 1)
unfolding asked_of
asked_of_third = refl
