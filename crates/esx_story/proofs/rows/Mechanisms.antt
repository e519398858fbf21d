-- Worked examples, by computation: the losses and the gains of a path, one for each mechanism.
use Rattle.std.specs.Prelude.{◌≡◌, [], ◌∷◌, ◌++◌, List, Some, None}
use Rattle.std.proofs.Common.{refl}
use Rattle.esx_events.specs.declared.event.Event.{Event}
use Rattle.esx_events.specs.declared.event.Event.TheVariants.{Admit, Start, Read, Write, Ask, Lend, TakeBack, Rebalance, Scan, SwapOut, Replace}
use Rattle.esx_model.proofs.rows.Replies.{site, spec}
use Rattle.esx_story.specs.Changes.{Balloon, Replaced, First, Pop, SwapIn, Share, Host, Cow, Own, LentAway, TakenBack}
use Rattle.esx_story.proofs.rows.Stories.{line, count, losses_of, gains_of, counts_of, back_of, as_of, changes_of, set_of, resident_after, slots_of, loans_of, loan}

-- Two pages are lent; one is written, which breaks its loan; the other is read after a reset, when its loan is of an epoch that is over, so it comes as one that was never here. A Lend that a reset takes the place of loses nothing, nor does one of a page that was never here.
abbrev lending : List Event
lending = Admit 0 (spec 2 8 1 1000 4) ∷ Start 0 ∷ Read 0 0 0 1 ∷ Read 0 1 0 1 ∷ Read 0 2 0 1 ∷ Read 0 3 0 1 ∷ Read 0 4 0 1 ∷ Rebalance ∷ Ask 0 ∷ Lend 0 4 ∷ Lend 0 3 ∷ Write 0 4 2 (127 ∷ []) ∷ Read 0 4 0 4 ∷ Lend 0 2 ∷ Ask 0 ∷ Read 0 3 0 1 ∷ Lend 0 7 ∷ []

pub lent_losses : losses_of (site 8 16 8 75 6 4 2 1 16777216) lending ≡ line 10 0 4 Balloon ∷ line 11 0 3 Balloon ∷ []
unfolding losses_of
lent_losses = refl

pub lent_gains : gains_of (site 8 16 8 75 6 4 2 1 16777216) lending ≡ line 3 0 0 First ∷ line 4 0 1 First ∷ line 5 0 2 First ∷ line 6 0 3 First ∷ line 7 0 4 First ∷ line 12 0 4 Pop ∷ line 16 0 3 First ∷ []
unfolding gains_of
lent_gains = refl

pub lent_counts : counts_of (site 8 16 8 75 6 4 2 1 16777216) lending 0 ≡ count 6 1 0 2 0 0 0
unfolding counts_of
lent_counts = refl

pub lent_resident : resident_after (site 8 16 8 75 6 4 2 1 16777216) lending 0 ≡ 5
unfolding resident_after
lent_resident = refl

pub lent_back : back_of (site 8 16 8 75 6 4 2 1 16777216) lending 10 0 4 ≡ Some 12
unfolding back_of
lent_back = refl

pub lent_back_anew : back_of (site 8 16 8 75 6 4 2 1 16777216) lending 11 0 3 ≡ Some 16
unfolding back_of
lent_back_anew = refl

pub lent_as : as_of (site 8 16 8 75 6 4 2 1 16777216) lending 10 0 4 ≡ Some Pop
unfolding as_of
lent_as = refl

pub lent_as_anew : as_of (site 8 16 8 75 6 4 2 1 16777216) lending 11 0 3 ≡ Some First
unfolding as_of
lent_as_anew = refl

-- a loan that a reset ends is no change of place
pub lent_changes : changes_of (site 8 16 8 75 6 4 2 1 16777216) lending 0 3 ≡ line 6 0 3 First ∷ line 11 0 3 Balloon ∷ line 16 0 3 First ∷ []
unfolding changes_of
lent_changes = refl

-- a page that was never here is lent, and comes back from that
pub lent_away_changes : changes_of (site 8 16 8 75 6 4 2 1 16777216) (lending ++ TakeBack 0 7 ∷ []) 0 7 ≡ line 17 0 7 LentAway ∷ line 18 0 7 TakenBack ∷ []
unfolding changes_of
lent_away_changes = refl

-- each loan tells what the balloon held before it, and its goal
pub lent_loans : loans_of (site 8 16 8 75 6 4 2 1 16777216) lending ≡ Some (loan 0 4) ∷ Some (loan 1 4) ∷ []
unfolding loans_of
lent_loans = refl

pub lent_slots : slots_of (site 8 16 8 75 6 4 2 1 16777216) lending ≡ None ∷ None ∷ []
unfolding slots_of
lent_slots = refl

pub lent_set : set_of (site 8 16 8 75 6 4 2 1 16777216) lending 10 0 ≡ Some 8
unfolding set_of
lent_set = refl

-- Pages make room for others of their machine.
abbrev replacing : List Event
replacing = Admit 0 (spec 3 6 1 1000 0) ∷ Admit 1 (spec 3 6 1 1000 0) ∷ Start 0 ∷ Start 1 ∷ Write 0 0 0 (170 ∷ []) ∷ Read 0 1 0 1 ∷ Read 0 2 0 1 ∷ Read 1 0 0 1 ∷ Read 1 1 0 1 ∷ Read 1 2 0 1 ∷ Replace 0 3 1 ∷ Read 0 3 0 1 ∷ Replace 0 1 0 ∷ []

pub replace_losses : losses_of (site 8 16 8 75 6 4 2 1 16777216) replacing ≡ line 11 0 1 Replaced ∷ line 13 0 0 Replaced ∷ []
unfolding losses_of
replace_losses = refl

pub replace_slots : slots_of (site 8 16 8 75 6 4 2 1 16777216) replacing ≡ Some 0 ∷ Some 0 ∷ []
unfolding slots_of
replace_slots = refl

pub replace_gains : gains_of (site 8 16 8 75 6 4 2 1 16777216) replacing
    ≡ line 5 0 0 First ∷ line 6 0 1 First ∷ line 7 0 2 First ∷ line 8 1 0 First ∷ line 9 1 1 First ∷ line 10 1 2 First ∷ line 11 0 3 First ∷ line 13 0 1 SwapIn ∷ []
unfolding gains_of
replace_gains = refl

pub replace_counts : counts_of (site 8 16 8 75 6 4 2 1 16777216) replacing 0 ≡ count 4 0 1 0 0 2 0
unfolding counts_of
replace_counts = refl

pub replace_changes : changes_of (site 8 16 8 75 6 4 2 1 16777216) replacing 0 1 ≡ line 6 0 1 First ∷ line 11 0 1 Replaced ∷ line 13 0 1 SwapIn ∷ []
unfolding changes_of
replace_changes = refl

-- A Replace that brings a page that is lent: one loss, and a loan broken.
abbrev replacing_lent : List Event
replacing_lent = Admit 0 (spec 3 7 1 1000 4) ∷ Admit 1 (spec 3 6 1 1000 0) ∷ Start 0 ∷ Start 1 ∷ Read 0 0 0 1 ∷ Read 0 1 0 1 ∷ Write 0 2 0 (42 ∷ []) ∷ Read 1 0 0 1 ∷ Read 1 1 0 1 ∷ Read 1 2 0 1 ∷ Rebalance ∷ Lend 0 2 ∷ Read 0 3 0 1 ∷ Replace 0 2 0 ∷ []

pub replace_pops : losses_of (site 8 16 8 75 6 4 2 1 16777216) replacing_lent ≡ line 12 0 2 Balloon ∷ line 14 0 0 Replaced ∷ []
unfolding losses_of
replace_pops = refl

pub replace_pops_back : back_of (site 8 16 8 75 6 4 2 1 16777216) replacing_lent 12 0 2 ≡ Some 14
unfolding back_of
replace_pops_back = refl

-- A page that can be shared stays here in place of being paged out: nothing is lost.
abbrev sharing : List Event
sharing = Admit 0 (spec 1 6 1 1000 0) ∷ Admit 1 (spec 1 4 1 1000 0) ∷ Start 0 ∷ Start 1 ∷ Write 0 0 0 (42 ∷ []) ∷ Write 1 0 0 (42 ∷ []) ∷ Scan 1 0 ∷ Read 0 1 0 1 ∷ Read 0 2 0 1 ∷ Rebalance ∷ SwapOut 0 0 ∷ []

pub shared_stays : losses_of (site 8 16 8 75 6 4 2 1 16777216) sharing ≡ []
unfolding losses_of
shared_stays = refl

-- It comes to the frame of the other page, which serves both then. The other is written, and gets a frame of its own; then the first alone is in that frame, and is written.
abbrev written : List Event
written = sharing ++ Write 1 0 0 (43 ∷ []) ∷ Write 0 0 0 (44 ∷ []) ∷ []

pub shared_changes : changes_of (site 8 16 8 75 6 4 2 1 16777216) written 0 0 ≡ line 5 0 0 First ∷ line 11 0 0 Share ∷ line 13 0 0 Own ∷ []
unfolding changes_of
shared_changes = refl

pub host_changes : changes_of (site 8 16 8 75 6 4 2 1 16777216) written 1 0 ≡ line 6 1 0 First ∷ line 11 1 0 Host ∷ line 12 1 0 Cow ∷ []
unfolding changes_of
host_changes = refl
