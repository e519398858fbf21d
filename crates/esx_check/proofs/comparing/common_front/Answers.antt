use Rattle.std.proofs.Common.{sym, ◌∙◌}
use Rattle.std.proofs.lemmas.Bool.Decides.{Decides-eqb}
use Rattle.std.proofs.Math.Seq.{take-length}
use Rattle.esx_check.proofs.ComparingLemmas.{front_of_start}
use Rattle.esx_check.proofs.comparing.common_front.Goals as goal

pub returns-then-starts_with-clause-same : goal.returns-then-starts_with-clause-same
returns-then-starts_with-clause-same c =
    rw take-length
    (sym (front_of_start c.args.text.now c.args.other.now _ Decides-eqb (sym c.starts_with.ensures.value ∙ c.if-starts_with.true)))
