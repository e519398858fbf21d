use Rattle.std.proofs.Common.{◌≡◌, ◌∙◌, sym, ap, List, Some, length, refl}
use Rattle.std.specs.Prelude.{string_bytes, slice_get}
use Rattle.std.specs.Option.{option_map}
use Rattle.std.proofs.lemmas.Option.{slice_get-map, slice_get_read}
use Rattle.esx_events.specs.declared.call.NameRow.{NameRow}
use Rattle.esx_journal.proofs.marks.Marks.at.Goals as goal

pub returns : goal.returns
returns c =
    let found = c.in_ok-name.ensures.lookup in
    let row = c.in_ok-name.field-0.now in
    let there : slice_get c.self.inside.rows.items c.args.place ≡ Some row
    = ap (λ rows. slice_get rows c.args.place) (sym c.deref.ensures.value) ∙ slice_get_read c.deref.result.now (length c.deref.result.now) c.args.place row refl found.3.0 found.1 in
    ap (λ bytes. Some (record { name = bytes; node = row.1 })) c.as_str.ensures.value
    ∙ ap (option_map (λ e. record { name = string_bytes e.0; node = e.1 })) (sym there)
    ∙ sym (slice_get-map (λ e. record { name = string_bytes e.0; node = e.1 }) c.self.inside.rows.items c.args.place)
    ∙ ap (λ (rows : List NameRow). slice_get rows c.args.place) c.self.view_is
