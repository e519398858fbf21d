use Rattle.std.proofs.Common.{◌∙◌, sym}
use Rattle.esx_reading.proofs.FieldLemmas.{some_field}
use Rattle.esx_explained.proofs.tried.amiss_event.Goals as goal

pub unreachable-requires : goal.unreachable-requires
unreachable-requires c = some_field c.args.text.now (sym c.of-fields.ensures ∙ c.in_default.ensures.left)
