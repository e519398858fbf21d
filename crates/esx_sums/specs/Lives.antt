-- Which moments of a path are of which life of a machine.
use Rattle.std.specs.Prelude.{ℕ, ◌+◌, ◌==◌, Bool, List, [], ◌∷◌, if◌then◌else◌}
use Rattle.esx_types.specs.declared.config.Config.{Config}
use Rattle.esx_model.specs.declared.scene.Scene.{Scene}
use Rattle.esx_model.specs.Replay.{opening}
use Rattle.esx_story.specs.Moments.{Moment}
use Rattle.esx_story.specs.Counts.{admits, life_from}

-- the lives of machine n after a moment, of which there were k before it
abbrev pub lives_then : ℕ → ℕ → Moment → ℕ
lives_then n k x = if admits n x.event then k + 1 else k

abbrev pub kept_if : Bool → Moment → List Moment → List Moment
kept_if is x later = if is then x ∷ later else later

-- of these moments, before which machine n had k lives, those of its life l: an admission begins the next
abbrev pub lived_from : ℕ → ℕ → ℕ → List Moment → List Moment
lived_from n l k [] = []
lived_from n l k (x ∷ later) = kept_if (lives_then n k x == l) x (lived_from n l (lives_then n k x) later)

-- the moments of life l of machine n on a path
abbrev pub lived : ℕ → ℕ → List Moment → List Moment
lived n l ms = lived_from n l 0 ms

-- how many lives it had on a path
abbrev pub lives : ℕ → List Moment → ℕ
lives n ms = life_from n ms 0

-- where some moments lead to from a scene
abbrev pub end_from : Scene → List Moment → Scene
end_from t [] = t
end_from t (x ∷ later) = end_from x.after later

-- the scene at the end of a path
abbrev pub end_of : Config → List Moment → Scene
end_of c ms = end_from (opening c) ms
