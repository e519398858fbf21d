-- The losses that are told of a path are its losses.
use Rattle.std.proofs.Common.{◌≡◌, ℕ, ◌+◌, List, [], ◌∷◌, ◌++◌, map, refl, ap, Option, Some, None}
use Rattle.esx_types.specs.declared.config.Config.{Config}
use Rattle.esx_story.specs.declared.story.Loss.{Loss}
use Rattle.esx_story.specs.Changes.{Change}
use Rattle.esx_story.specs.Moments.{Moment, Line, listed, lines_from}
use Rattle.esx_story.specs.Losses.{lost_at}
use Rattle.esx_story.specs.Waits.{Met}
use Rattle.esx_story.specs.Story.{told_at, told_from}
use Rattle.esx_story.specs.Paths.{AreLossesTold}

-- a loss without what is told of it
abbrev line_of : Loss → Line
line_of l = record { at = l.at; change = l.change }

lines_by : (c : Config) (all : List Moment) (mets : List Met) (i : ℕ) (x : Moment) (o : Option Change) (rest : List Loss) (later : List Line) → map line_of rest ≡ later → map line_of (told_at c all mets i x o ++ rest) ≡ listed i o later
lines_by c all mets i x None rest later h = h
lines_by c all mets i x (Some y) rest later h = ap (λ ls. record { at = i; change = y } ∷ ls) h

lines_told : (c : Config) (all : List Moment) (mets : List Met) (i : ℕ) (ms : List Moment) → map line_of (told_from c all mets i ms) ≡ lines_from lost_at i ms
lines_told c all mets i [] = refl
lines_told c all mets i (x ∷ ms) = lines_by c all mets i x (lost_at x) (told_from c all mets (i + 1) ms) (lines_from lost_at (i + 1) ms) (lines_told c all mets (i + 1) ms)

pub losses_told : AreLossesTold
losses_told c ms mets = lines_told c ms mets 1 ms
