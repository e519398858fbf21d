use Rattle.std.proofs.Common.{◌∙◌, ◌+◌, ap, ℕ}
use Rattle.esx_frames.specs.declared.counts.Counts.{Counts}
use Rattle.esx_model.specs.Readings.{sum_of}
use Rattle.esx_machine.specs.Machine.{Kept}
use Rattle.esx_machine.proofs.Read.{adds_up}
use Rattle.esx_machine.proofs.machine.Machine.sum.Goals as goal

pub returns-clause-adds_up : goal.returns-clause-adds_up
unfolding sum_of
returns-clause-adds_up c =
    let k : Kept = record { config = c.self.inside.thresholds; level = c.self.inside.level; tables = c.self.inside.tables } in
    let all : Counts → ℕ = λ s. s.overhead + s.private + s.shared + s.free in
    ap all c.counts-counts.ensures ∙ adds_up k c.self.invariant ∙ ap (λ (x : Kept). x.config.frames) c.self.view_is
