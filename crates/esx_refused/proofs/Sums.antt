-- The opening by sums is the opening by the model.
use Rattle.std.proofs.Common.{◌≡◌, ℕ, List, [], ◌∷◌, refl, sym, ap, ◌∙◌, subst, arith, append-nil, Option, Some, Result, Ok, Err, inl, inr}
use Rattle.std.specs.Result.{result_err}
use Rattle.std.specs.List.{flat_map}
use Rattle.std.proofs.lemmas.Bool.{cases_lt}
use Rattle.esx_types.specs.declared.config.Config.{Config}
use Rattle.esx_types.specs.declared.config.TheConstants.{VM_NUMBERS}
use Rattle.esx_scenario.specs.declared.plan.Guest.{Guest}
use Rattle.esx_model.specs.declared.scene.Vm.{Vm}
use Rattle.esx_model.specs.Site.{vm_at}
use Rattle.esx_model.specs.event.Admission.{admitted}
use Rattle.esx_model.proofs.Callers.{some_same}
use Rattle.esx_opening.specs.Orders.{of_number, in_order}
use Rattle.esx_opening.specs.Openings.{starts_of}
use Rattle.esx_refused.specs.declared.coming.Promised.{Promised}
use Rattle.esx_refused.specs.declared.coming.RefusedOpening.{RefusedOpening}
use Rattle.esx_refused.specs.Refused.{refused_from, first_refused}
use Rattle.esx_refused.specs.Promised.{on_good, promised_below, started_below, opened_by_sums}
use Rattle.esx_refused.proofs.FreeFrames.{IsBare, AreBare}
use Rattle.esx_refused.proofs.Admitted.{IsRow, HaveCome, Comes, come_below}
use Rattle.esx_refused.proofs.Started.{HasRoom, Begun, start_below}

bare_row : (o : Option Vm) (gs : List Guest) → IsRow o gs → (v : Vm) → o ≡ Some v → IsBare v
bare_row o [] row v is = (let no = row in cc)
bare_row o (g ∷ gs) row v is = subst IsBare (some_same (admitted g.spec) v (sym row.1 ∙ is)) (record { overhead = omega arith; places = refl })

module _ (c : Config) (guests : List Guest) where
  all_bare : (t : Promised) (h : HaveCome c guests VM_NUMBERS t) → AreBare h.site.vms
  all_bare t h k v is = elim (cases_lt k VM_NUMBERS) [
    | inl low ↦ bare_row (vm_at h.site k) (of_number guests k) (h.each k low) v is
    | inr high ↦ (let no = h.above k (omega (arith, high)) in cc)
  ]

  starts_end : (h : (t : Promised) × HaveCome c guests VM_NUMBERS t) (y : Result ℕ RefusedOpening) → Begun c guests h.1.after VM_NUMBERS y
      → refused_from h.1.after (flat_map starts_of (in_order guests)) ≡ result_err y
  unfolding refused_from
  starts_end h (Ok made) begun = ap (refused_from h.1.after) (sym (append-nil (flat_map starts_of (in_order guests)))) ∙ begun.goes []
  starts_end h (Err first) short = ap (refused_from h.1.after) (sym (append-nil (flat_map starts_of (in_order guests)))) ∙ short []

  by_sums : (y : Result Promised RefusedOpening) → Comes c guests VM_NUMBERS y → first_refused c guests ≡ result_err (on_good y (λ t. started_below c t.nodes guests VM_NUMBERS))
  by_sums (Err first) refused = refused (flat_map starts_of (in_order guests))
  by_sums (Ok t) h =
      let memory = h.memory in
      let within = h.within in
      let most = within.memory in
      let room : HasRoom c h.after h.site t.nodes = record { is_at = h.is_at; within = within.nodes; bare = all_bare t h; memory = omega (arith, memory, most) } in
      h.goes (flat_map starts_of (in_order guests)) ∙ starts_end (t, h) _ (start_below c guests h.after h.site t.nodes room h.each VM_NUMBERS (omega arith))

  -- whom the sums refuse first is the first that is refused
  pub first_by_sums : first_refused c guests ≡ result_err (opened_by_sums c guests)
  first_by_sums = by_sums (promised_below c guests VM_NUMBERS) (come_below c guests VM_NUMBERS (omega arith))
