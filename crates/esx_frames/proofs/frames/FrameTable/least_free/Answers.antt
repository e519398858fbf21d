use Rattle.std.proofs.Common.{false, length, ap, sym, ◌∙◌, arith}
use Rattle.std.specs.List.{position_from}
use Rattle.std.proofs.lemmas.List.{length-map}
use Rattle.esx_lists.proofs.Positions.{position_from-map, first_found}
use Rattle.esx_types.specs.Frames.{is_free}
use Rattle.esx_frames.proofs.frames.FrameTable.least_free.Goals as goal

pub returns-in_err-mpn : goal.returns-in_err-mpn
returns-in_err-mpn c = rw (c.from_residual.ensures, ← c.self.view_is) (c.in_err-mpn.ensures ∙ (ap (position_from (λ b. b) 0) c.self.invariant.table.free ∙ position_from-map (λ b. b) is_free 0 c.self.inside.rows))

pub overflow_cast-result : goal.overflow_cast-result
overflow_cast-result c =
    let rows = c.self.inside.rows in
    let found = first_found (λ b. b) c.self.inside.free c.in_ok-mpn.mpn false (sym c.in_ok-mpn.ensures) in
    omega (arith, found.0, ap length c.self.invariant.table.free, length-map rows is_free, c.self.invariant.table.fits)

pub returns : goal.returns
returns c = rw (← c.self.view_is) (c.in_ok-mpn.ensures ∙ (ap (position_from (λ b. b) 0) c.self.invariant.table.free ∙ position_from-map (λ b. b) is_free 0 c.self.inside.rows))
