-- The steps of a path: each event at which figures changed, once for each machine of which some did.
use Rattle.std.specs.Prelude.{ℕ, ◌+◌, List, [], ◌∷◌, ◌++◌, slice_index_or, Option, Some, None, if◌then◌else◌}
use Rattle.std.specs.List.{flat_map, range_with_len}
use Rattle.esx_types.specs.declared.config.TheConstants.{VM_NUMBERS}
use Rattle.esx_types.specs.declared.config.Config.{Config}
use Rattle.esx_events.specs.declared.call.Sum.{Sum}
use Rattle.esx_model.specs.Replay.{opening}
use Rattle.esx_story.specs.Moments.{Moment}
use Rattle.esx_figures.specs.declared.figures.Figures.{Figures}
use Rattle.esx_figures.specs.declared.steps.Step.{Step}
use Rattle.esx_figures.specs.Figures.{all_figures, site_at, is_same_guest, is_same_site}

-- of the opening
abbrev pub opening_step : Sum → Step
opening_step site = record { at = 0; site = site; vm = None; figures = None }

-- of a machine, if its figures changed
abbrev pub guest_step : ℕ → Sum → ℕ → Option Figures → Option Figures → Option Step
guest_step at site n before after = if is_same_guest before after then None else Some (record { at = at; site = site; vm = Some n; figures = after })

-- of the site alone, if its figures changed
abbrev pub site_step : ℕ → Sum → Sum → Option Step
site_step at before after = if is_same_site before after then None else Some (record { at = at; site = after; vm = None; figures = None })

abbrev pub told : Option Step → List Step
told None = []
told (Some x) = x ∷ []

-- of the machine with a number, of those that are told before and after
abbrev pub guest_told : ℕ → Sum → List (Option Figures) → List (Option Figures) → ℕ → List Step
guest_told at site before after n = told (guest_step at site n (slice_index_or before n None) (slice_index_or after n None))

-- of those whose numbers are below another, in order
unfoldable pub guests_told : ℕ → Sum → List (Option Figures) → List (Option Figures) → ℕ → List Step
guests_told at site before after k = flat_map (guest_told at site before after) (range_with_len 0 k)

-- where no machine has one, that of the site
abbrev pub or_site : ℕ → Sum → Sum → List Step → List Step
or_site at before after [] = told (site_step at before after)
or_site at before after (x ∷ xs) = x ∷ xs

-- of the i-th event
abbrev pub steps_at : Config → ℕ → Moment → List Step
steps_at c i x = or_site i (site_at c x.before) (site_at c x.after) (guests_told i (site_at c x.after) (all_figures x.before.site) (all_figures x.after.site) VM_NUMBERS)

abbrev pub steps_from : Config → ℕ → List Moment → List Step
steps_from c i [] = []
steps_from c i (x ∷ later) = steps_at c i x ++ steps_from c (i + 1) later

-- of a path, from its opening on
abbrev pub steps : Config → List Moment → List Step
steps c ms = opening_step (site_at c (opening c)) ∷ steps_from c 1 ms
