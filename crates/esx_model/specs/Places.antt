-- Where a page is, and what it reads as.
use Rattle.std.specs.Prelude.{ℕ, Bool, true, false, not, ◌==◌, List, replicate}
use Rattle.esx_types.specs.declared.config.Config.{Config}
use Rattle.esx_model.specs.declared.scene.Place.{Place}
use Rattle.esx_model.specs.declared.scene.Place.TheVariants.{Untouched, Here, Out, Lent}

-- the page is in frame f
abbrev pub is_here_at : ℕ → Place → Bool
is_here_at f Untouched = false
is_here_at f (Here bytes frame shared) = frame == f
is_here_at f (Out bytes slot) = false
is_here_at f (Lent epoch) = false

-- the page is in some frame
abbrev pub is_here : Place → Bool
is_here Untouched = false
is_here (Here bytes frame shared) = true
is_here (Out bytes slot) = false
is_here (Lent epoch) = false

-- the page is alone in a frame
abbrev pub is_private : Place → Bool
is_private Untouched = false
is_private (Here bytes frame shared) = not shared
is_private (Out bytes slot) = false
is_private (Lent epoch) = false

-- the page is in slot i
abbrev pub is_out_at : ℕ → Place → Bool
is_out_at i Untouched = false
is_out_at i (Here bytes frame shared) = false
is_out_at i (Out bytes slot) = slot == i
is_out_at i (Lent epoch) = false

-- the page is in some slot
abbrev pub is_out : Place → Bool
is_out Untouched = false
is_out (Here bytes frame shared) = false
is_out (Out bytes slot) = true
is_out (Lent epoch) = false

-- the page was lent in that epoch
abbrev pub is_lent_in : ℕ → Place → Bool
is_lent_in e Untouched = false
is_lent_in e (Here bytes frame shared) = false
is_lent_in e (Out bytes slot) = false
is_lent_in e (Lent epoch) = epoch == e

-- the page is in a frame with others, or by itself in one that others may come to
abbrev pub is_shared : Place → Bool
is_shared Untouched = false
is_shared (Here bytes frame shared) = shared
is_shared (Out bytes slot) = false
is_shared (Lent epoch) = false

-- the bytes of a page that nobody has written
abbrev pub zeros : Config → List ℕ
zeros c = replicate c.page 0

-- the bytes that a page has when it comes
abbrev pub contents : Config → Place → List ℕ
contents c Untouched = zeros c
contents c (Here bytes frame shared) = bytes
contents c (Out bytes slot) = bytes
contents c (Lent epoch) = zeros c
