-- How many pages a machine may have on a path.
use Rattle.std.specs.Prelude.{ℕ, ◌==◌, max, List, [], ◌∷◌, Option, Some, None, if◌then◌else◌}
use Rattle.esx_events.specs.declared.event.Event.{Event}
use Rattle.esx_events.specs.declared.event.Event.TheVariants.{Admit}

-- the greatest memory with which an event admits machine n, where it does
abbrev pub admitted_with : ℕ → Event → Option ℕ
admitted_with n (Admit m spec) = if m == n then Some spec.max else None
admitted_with n _ = None

-- the greater of two numbers, of which there may be one or none
abbrev pub greater : Option ℕ → Option ℕ → Option ℕ
greater None next = next
greater (Some most) None = Some most
greater (Some most) (Some next) = Some (max most next)

-- the greatest memory with which any of the events of a path admits machine n
abbrev pub most_pages : ℕ → List Event → Option ℕ
most_pages n [] = None
most_pages n (e ∷ es) = greater (admitted_with n e) (most_pages n es)
