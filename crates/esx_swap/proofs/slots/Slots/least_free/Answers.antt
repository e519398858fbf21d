use Rattle.std.proofs.Common.{false, length, ap, sym, ◌∙◌, arith}
use Rattle.std.specs.List.{position_from}
use Rattle.std.proofs.lemmas.List.{length-map}
use Rattle.esx_lists.proofs.Positions.{position_from-map, first_found}
use Rattle.esx_types.specs.Slots.{is_empty}
use Rattle.esx_swap.proofs.slots.Slots.least_free.Goals as goal

pub returns-in_err-slot : goal.returns-in_err-slot
returns-in_err-slot c = rw (c.from_residual.ensures, ← c.self.view_is) (c.in_err-slot.ensures ∙ (ap (position_from (λ b. b) 0) c.self.invariant.table.free ∙ position_from-map (λ b. b) is_empty 0 c.self.inside.rows))

pub overflow_cast-result : goal.overflow_cast-result
overflow_cast-result c =
    let rows = c.self.inside.rows in
    let found = first_found (λ b. b) c.self.inside.free c.in_ok-slot.slot false (sym c.in_ok-slot.ensures) in
    omega (arith, found.0, ap length c.self.invariant.table.free, length-map rows is_empty, c.self.invariant.table.fits)

pub returns : goal.returns
returns c = rw (← c.self.view_is) (c.in_ok-slot.ensures ∙ (ap (position_from (λ b. b) 0) c.self.invariant.table.free ∙ position_from-map (λ b. b) is_empty 0 c.self.inside.rows))
