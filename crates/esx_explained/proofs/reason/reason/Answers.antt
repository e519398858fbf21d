use Rattle.std.proofs.Common.{◌∙◌, ◌∷◌, List, ℕ, ap, sym}
use Rattle.esx_reading.proofs.FieldLemmas.{some_field}
use Rattle.esx_explained.proofs.LineLemmas.{said}
use Rattle.esx_explained.proofs.reason.reason.Goals as goal

pub unreachable-requires : goal.unreachable-requires
unreachable-requires c = some_field c.args.text.now (sym c.of-fields.ensures ∙ c.in_default.ensures.left)

pub returns-in-Some-command_of : goal.returns-in-Some-command_of
returns-in-Some-command_of c =
    said c.args.text.now c.behind.result c.in-Some-command_of.command c.next.new.self
    (sym c.of-fields.ensures ∙ (c.in-Some.ensures.left ∙ ap (λ (w : List ℕ). w ∷ c.next.new.self) c.in-Some-command_of.ensures.found))
    c.behind.ensures
