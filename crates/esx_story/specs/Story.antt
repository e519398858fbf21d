-- The losses of a path as they are told: each with what stood about it when it came, and what came of it.
use Rattle.std.specs.Prelude.{ℕ, ◌+◌, ◌-◌, List, [], ◌∷◌, ◌++◌, take, Option, Some, None}
use Rattle.esx_types.specs.declared.config.Config.{Config}
use Rattle.esx_model.specs.declared.scene.Scene.{Scene}
use Rattle.esx_model.specs.Site.{free_count, vm_at}
use Rattle.esx_story.specs.declared.story.Seen.{Seen}
use Rattle.esx_story.specs.declared.story.Loss.{Loss}
use Rattle.esx_story.specs.Changes.{Change}
use Rattle.esx_story.specs.Moments.{Moment}
use Rattle.esx_story.specs.Losses.{slot_by, loan_by, lost_at}
use Rattle.esx_story.specs.Counts.{life_from}
use Rattle.esx_story.specs.Spans.{back, came_as, set_at}
use Rattle.esx_story.specs.Waits.{Met, waits, asked}
use Rattle.esx_story.specs.Order.{has_own_tax, order}

-- what is told of machine n in a scene
abbrev pub seen : Config → Scene → ℕ → Seen
seen c t n = record { level = t.level; free = free_count c.frames t.site; tau = t.site.tau; own = has_own_tax (vm_at t.site n); order = order t.site n }

-- the lives of a machine before the i-th event
abbrev pub life_at : List Moment → ℕ → ℕ → ℕ
life_at ms i n = life_from n (take (i - 1) ms) 0

-- a loss of the i-th event of a path
abbrev pub told_loss : Config → List Moment → List Met → ℕ → Moment → Change → Loss
told_loss c ms mets i x y = record {
  at = i;
  change = y;
  life = life_at ms i y.vm;
  set = set_at ms i y.vm;
  asked = asked ms i y.vm;
  seen = seen c x.before y.vm;
  slot = slot_by x.answer;
  loan = loan_by x.answer;
  back = back ms i y.vm y.page;
  came = came_as ms i y.vm y.page;
  waits = waits ms mets i y.vm y.page;
}

abbrev pub told_at : Config → List Moment → List Met → ℕ → Moment → Option Change → List Loss
told_at c ms mets i x None = []
told_at c ms mets i x (Some y) = told_loss c ms mets i x y ∷ []

-- those of some moments of the path, the first of them being the i-th
abbrev pub told_from : Config → List Moment → List Met → ℕ → List Moment → List Loss
told_from c ms mets i [] = []
told_from c ms mets i (x ∷ later) = told_at c ms mets i x (lost_at x) ++ told_from c ms mets (i + 1) later

-- the losses of a path on which these calls were refused
abbrev pub told : Config → List Moment → List Met → List Loss
told c ms mets = told_from c ms mets 1 ms
