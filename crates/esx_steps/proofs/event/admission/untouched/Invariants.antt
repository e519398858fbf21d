use Rattle.std.proofs.Common.{◌≡◌, replicate}
use Rattle.esx_model.specs.declared.scene.Place.TheVariants.{Untouched}
use Rattle.esx_steps.proofs.event.admission.untouched.Given as goal

abbrev pub invariant-loop-page : goal.invariant-loop-page
invariant-loop-page l = l.places ≡ replicate l._page Untouched
