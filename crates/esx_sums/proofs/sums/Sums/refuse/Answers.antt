use Rattle.std.proofs.Common.{List, ℕ, ap, ◌∙◌}
use Rattle.esx_sums.specs.declared.tally.Tally.{Tally}
use Rattle.esx_sums.specs.Kept.{sums_of}
use Rattle.esx_sums.specs.Sums.{Sums, refused}
use Rattle.esx_sums.proofs.Refusing.{refuses, patient_few, patient_numbers}
use Rattle.esx_sums.proofs.sums.Sums.refuse.Goals as goal

pub refuse-requires : goal.refuse-requires
refuse-requires c = patient_few (sums_of c.args.self.now) c.requires.few

pub count_refusal-requires : goal.count_refusal-requires
count_refusal-requires c = patient_numbers (sums_of c.args.self.now) c.requires.few

pub returns : goal.returns
returns c = λ config ms mets m is met.
    let s : Sums = sums_of c.args.self.now in
    refuses config ms mets m s _ c.args.access c.args.refusal
    (ap (λ (ts : List Tally). record s { now = ts; refused = c.count_refusal.new.refused }) c.refuse.ensures
    ∙ ap (λ (ns : List ℕ). record (refused s c.args.access c.args.refusal) { refused = ns }) c.count_refusal.ensures)
    is met.0 met.1 met.2
