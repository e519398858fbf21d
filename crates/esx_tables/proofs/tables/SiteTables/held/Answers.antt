use Rattle.std.proofs.Common.{◌≡◌, ap, sym, ◌∙◌}
use Rattle.std.proofs.lemmas.Option.{unwrap_or-slice_get}
use Rattle.std.specs.List.{slice_get}
use Rattle.std.specs.Option.{option_copied, unwrap_or}
use Rattle.esx_types.specs.declared.table.SlotRow.TheVariants.{Free}
use Rattle.esx_types.specs.Slots.{held_bytes}
use Rattle.esx_model.specs.declared.tables.Tables.{Tables}
use Rattle.esx_tables.proofs.tables.SiteTables.held.Goals as goal

pub returns-in-None : goal.returns-in-None
returns-in-None c =
    let slots : c.self.inside.slots ≡ c.args.self.now.slots = ap (λ (t : Tables). t.slots) c.self.view_is in
    let none : unwrap_or (slice_get c.self.inside.slots c.args.slot) Free ≡ Free = ap (λ row. unwrap_or row Free) (sym c.get.ensures ∙ ap option_copied c.in-None.is) in
    sym (ap held_bytes (sym (unwrap_or-slice_get c.args.self.now.slots c.args.slot Free) ∙ rw slots at none))
