-- The least free frame of the tables is that of the site.
use Rattle.std.proofs.Common.{zero, suc, ◌≡◌, ℕ, ◌+◌, Bool, not, map, refl, ap, ◌∙◌, cond, Option, Some}
use Rattle.std.specs.List.{position_from, find, range_with_len}
use Rattle.esx_types.specs.declared.config.Config.{Config}
use Rattle.esx_types.specs.Frames.{is_free, least_frame}
use Rattle.esx_model.specs.declared.scene.Site.{Site}
use Rattle.esx_model.specs.Site.{is_named, least_free}
use Rattle.esx_model.specs.Show.{frame_row}
use Rattle.esx_model.specs.Tables.{tables_of}
use Rattle.esx_model.proofs.Callers.{free_row}

pub found_from : {X : Type 0} (p : X → Bool) (q : ℕ → Bool) (h : ℕ → X) → ((f : ℕ) → p (h f) ≡ q f) → (a n : ℕ) → position_from p a (map h (range_with_len a n)) ≡ find q (range_with_len a n)
found_from p q h same a zero = refl
found_from p q h same a (suc n) =
    ap (λ (b : Bool). cond b (Some a) (position_from p (a + 1) (map h (range_with_len (a + 1) n)))) (same a)
    ∙ ap (λ (o : Option ℕ). cond (q a) (Some a) o) (found_from p q h same (a + 1) n)

pub frame_found : (c : Config) (s : Site) → least_frame (tables_of c s).frames ≡ least_free c.frames s
unfolding least_free
frame_found c s = found_from is_free (λ f. not (is_named s f)) (frame_row s) (free_row s) 0 c.frames
