use Rattle.std.proofs.Common.{◌≡◌, ℕ, Some, map, length, slice_get}
use Rattle.esx_work.specs.Sites.{IsGuestAt}
use Rattle.esx_work.proofs.site.guests_of.Given as goal

abbrev pub invariant-loop-place : goal.invariant-loop-place
invariant-loop-place l =
    (length l.workers.items ≡ l.place)
    × ((i : ℕ) (w : _) → slice_get l.workers.items i ≡ Some w → IsGuestAt l.seed (map (λ g. g.now) l.guests) i w)
