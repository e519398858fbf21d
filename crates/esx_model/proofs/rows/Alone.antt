-- Worked examples, by computation: what the reads of one guest answer if nobody else is there, and which traces are tidy.
use Rattle.std.specs.Prelude.{◌≡◌, ℕ, true, false, [], ◌∷◌, replicate}
use Rattle.std.proofs.Common.{refl}
use Rattle.esx_events.specs.declared.event.Event.{Event}
use Rattle.esx_events.specs.declared.event.Event.TheVariants.{Read, Write, Lend, TakeBack, Ask}
use Rattle.esx_model.specs.Alone.{reads_from, alone, is_written_first, IsTidy}
use Rattle.esx_model.proofs.rows.Replies.{site}

whole : ℕ → ℕ → Event
whole page byte = Write 0 page 0 (replicate 16 byte)

-- a page reads as zeros, and then as what was written to it alone, each byte for itself
own_writes : alone (site 20 16 8 75 6 4 2 1 1) (Read 0 0 14 2 ∷ Write 0 0 1 (42 ∷ 43 ∷ []) ∷ Write 0 1 0 (7 ∷ []) ∷ Write 0 0 2 (44 ∷ []) ∷ Ask 0 ∷ Read 0 0 0 4 ∷ Read 0 1 0 2 ∷ Read 0 0 2 1 ∷ [])
    ≡ (0 ∷ 0 ∷ []) ∷ (0 ∷ 42 ∷ 44 ∷ 0 ∷ []) ∷ (7 ∷ 0 ∷ []) ∷ (44 ∷ []) ∷ []
unfolding reads_from
own_writes = refl

-- a page that is lent keeps its bytes here: a tidy trace does not read them
lent : alone (site 20 16 8 75 6 4 2 1 1) (Write 0 0 0 (42 ∷ []) ∷ Lend 0 0 ∷ Read 0 0 0 1 ∷ []) ≡ (42 ∷ []) ∷ []
unfolding reads_from
lent = refl

-- a whole write of the page stands before its read
written_first : is_written_first (site 20 16 8 75 6 4 2 1 1) 3 (Read 0 4 0 1 ∷ Write 0 3 2 (1 ∷ []) ∷ whole 4 1 ∷ TakeBack 0 3 ∷ whole 3 1 ∷ Read 0 3 0 1 ∷ []) ≡ true
unfolding whole is_written_first
written_first = refl

-- a write of a part of it does not do, nor one past its end, nor one of another page
written_in_part : is_written_first (site 20 16 8 75 6 4 2 1 1) 3 (Write 0 3 0 (1 ∷ []) ∷ Write 0 3 1 (replicate 16 1) ∷ whole 4 1 ∷ Read 0 3 0 1 ∷ whole 3 1 ∷ []) ≡ false
unfolding whole is_written_first
written_in_part = refl

-- nor is it needed where the page is not read
never_read : is_written_first (site 20 16 8 75 6 4 2 1 1) 3 (Read 0 4 0 1 ∷ Write 0 3 0 (1 ∷ []) ∷ []) ≡ true
unfolding is_written_first
never_read = refl

-- of each loan this is asked, of a page that is not lent nothing
tidy : IsTidy (site 20 16 8 75 6 4 2 1 1) (Read 0 3 0 1 ∷ Lend 0 3 ∷ Ask 0 ∷ whole 3 1 ∷ Read 0 3 0 1 ∷ Lend 0 4 ∷ Read 0 3 0 1 ∷ [])
unfolding whole is_written_first
tidy = (refl, (refl, tt))

untidy : IsTidy (site 20 16 8 75 6 4 2 1 1) (whole 3 1 ∷ Lend 0 3 ∷ TakeBack 0 3 ∷ Read 0 3 0 1 ∷ []) ≡ ((false ≡ true) × Unit {0})
unfolding whole is_written_first
untidy = refl
