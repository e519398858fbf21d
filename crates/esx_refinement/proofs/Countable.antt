-- In the tables of a sound site one page more can be counted in each shared frame.
use Rattle.std.proofs.Common.{zero, suc, ◌≡◌, ℕ, ◌*◌, ◌≤◌, List, [], ◌∷◌, length, get_or, sum_by, refl, ap, arith, Option, Some, None, inl, inr}
use Rattle.std.proofs.lemmas.Bool.{cases_lt}
use Rattle.std.proofs.lemmas.List.{get_or_past}
use Rattle.std.proofs.lemmas.List.FromFn.{length-map-range_with_len}
use Rattle.std.proofs.lemmas.List.Sums.{sum_by-cons, count_by-le-length}
use Rattle.esx_types.specs.declared.config.Config.{Config}
use Rattle.esx_types.specs.declared.config.TheConstants.{MAX_PAGES, VM_NUMBERS}
use Rattle.esx_types.specs.declared.table.FrameRow.{FrameRow}
use Rattle.esx_types.specs.declared.table.FrameRow.TheVariants as frames
use Rattle.esx_types.specs.Frames.{ref_count}
use Rattle.esx_model.specs.declared.scene.Vm.{Vm}
use Rattle.esx_model.specs.declared.scene.Site.{Site}
use Rattle.esx_model.specs.Places.{is_here_at}
use Rattle.esx_model.specs.Site.{pages_of, pages_at}
use Rattle.esx_model.specs.Show.{frame_row}
use Rattle.esx_model.specs.Tables.{tables_of}
use Rattle.esx_model.specs.sound.Machines.{IsVm}
use Rattle.esx_model.specs.sound.Sound.{IsSound}
use Rattle.esx_model.proofs.Callers.{count_in_frame}
use Rattle.esx_sharing.specs.Sharing.{HasCounts}
use Rattle.esx_refinement.proofs.Looks.{row_at_frame}

pages_of_most : (c : Config) (f : ℕ) (v : Vm) → IsVm c v → pages_of f (Some v) ≤ MAX_PAGES
pages_of_most c f v fine = (let most = count_by-le-length (is_here_at f) v.places in let max = fine.good.most_max in omega (arith, most, max, fine.pages))

pages_most : (c : Config) (f : ℕ) (vms : List (Option Vm)) → ((n : ℕ) (v : Vm) → get_or vms n None ≡ Some v → IsVm c v) → sum_by (pages_of f) vms ≤ length vms * MAX_PAGES
pages_most c f [] each = omega arith
pages_most c f (None ∷ os) each =
    let split = sum_by-cons (pages_of f) None os in
    let rest = pages_most c f os (λ n v h. each (suc n) v h) in
    omega (arith, split, rest)
pages_most c f (Some v ∷ os) each =
    let split = sum_by-cons (pages_of f) (Some v) os in
    let here = pages_of_most c f v (each zero v refl) in
    let rest = pages_most c f os (λ n v h. each (suc n) v h) in
    omega (arith, split, here, rest)

pages_few : (c : Config) (s : Site) (f : ℕ) → IsSound c s → pages_at f s ≤ VM_NUMBERS * MAX_PAGES
unfolding pages_at
pages_few c s f sound =
    let most = pages_most c f s.vms sound.each in
    let count = sound.vms in
    omega (arith, most, count)

row_counts : (c : Config) (s : Site) (f : ℕ) (r : FrameRow) → IsSound c s → frame_row s f ≡ r → ref_count r ≤ VM_NUMBERS * MAX_PAGES
row_counts c s f frames.Free sound e = omega arith
row_counts c s f frames.Overhead sound e = omega arith
row_counts c s f (frames.Private bytes) sound e = omega arith
row_counts c s f (frames.Shared count bytes) sound e =
    let pages = count_in_frame s f count bytes e in
    let few = pages_few c s f sound in
    omega (arith, pages, few)

pub counts_fit : (c : Config) (s : Site) → IsSound c s → HasCounts (tables_of c s)
counts_fit c s sound f = elim (cases_lt f c.frames) [
  | inl below ↦ (let row = ap ref_count (row_at_frame c s f below) in
      let few = row_counts c s f (frame_row s f) sound refl in
      omega (arith, row, few))
  | inr past ↦ (let count = length-map-range_with_len (frame_row s) 0 c.frames in
      let free = ap ref_count (get_or_past (tables_of c s).frames f frames.Free (omega (arith, count, past))) in
      omega (arith, free))
]
