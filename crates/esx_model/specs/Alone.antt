-- What the reads of one guest would answer if nobody else were there.
use Rattle.std.specs.Prelude.{◌≡◌, ℕ, ◌==◌, ◌&&◌, Bool, true, false, List, [], ◌∷◌, length, take, drop, if◌then◌else◌}
use Rattle.esx_types.specs.declared.config.Config.{Config}
use Rattle.esx_events.specs.declared.event.Event.{Event}
use Rattle.esx_events.specs.declared.event.Event.TheVariants.{Read, Write, Lend}
use Rattle.esx_model.specs.Places.{zeros}
use Rattle.esx_model.specs.event.Access.{overwritten}

-- the bytes of each page
abbrev pub Contents : Type 0
Contents = ℕ → List ℕ

abbrev pub with_bytes : Contents → ℕ → List ℕ → Contents
with_bytes m page bytes q = if q == page then bytes else m q

-- what the reads of a trace answer over the bytes that its own writes leave
unfoldable pub reads_from : List Event → Contents → List (List ℕ)
reads_from [] m = []
reads_from (Read n page at len ∷ later) m = take len (drop at (m page)) ∷ reads_from later m
reads_from (Write n page at new ∷ later) m = reads_from later (with_bytes m page (overwritten (m page) at new))
reads_from (e ∷ later) m = reads_from later m

-- the pages are zeros at first
abbrev pub alone : Config → List Event → List (List ℕ)
alone c trace = reads_from trace (λ page. zeros c)

-- does a whole write of the page stand before its next read?
unfoldable pub is_written_first : Config → ℕ → List Event → Bool
is_written_first c page [] = true
is_written_first c page (Read n q at len ∷ later) = if q == page then false else is_written_first c page later
is_written_first c page (Write n q at new ∷ later) = if q == page then (if (at == 0) && (length new == c.page) then true else is_written_first c page later) else is_written_first c page later
is_written_first c page (e ∷ later) = is_written_first c page later

-- what a trace lends is not read before it is written whole
abbrev pub IsTidy : Config → List Event → Type 0
IsTidy c [] = Unit {0}
IsTidy c (Lend n page ∷ later) = (is_written_first c page later ≡ true) × IsTidy c later
IsTidy c (e ∷ later) = IsTidy c later
