use Rattle.std.proofs.Common.{◌∙◌, ap, ℕ}
use Rattle.std.specs.BTreeMap.{get}
use Rattle.esx_journal.specs.Marks.{node_named, numbers_of, compared}
use Rattle.esx_journal.proofs.marks.Marks.node_at.Goals as goal

pub returns : goal.returns
returns c = c.copied.ensures ∙ c.get.ensures.value ∙ ap (λ (k : (ℕ × ℕ) × (ℕ × ℕ)). get compared c.self.inside.nodes k) (c.numbers_of-numbers.ensures ∙ ap numbers_of c.as_bytes.ensures.value)
    ∙ c.self.invariant.finds c.args.name.now c.requires ∙ ap (node_named c.args.name.now) c.self.view_is
