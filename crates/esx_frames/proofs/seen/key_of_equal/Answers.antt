use Rattle.std.proofs.Common.{◌≡◌, ap, sym, ◌∙◌}
use Rattle.std.proofs.lemmas.Bool.Decides.{Decides-eqb}
use Rattle.std.proofs.lemmas.Option.{get_or_from_slice_get}
use Rattle.std.proofs.lemmas.Slice.Eq.{slice_eq-Decides}
use Rattle.esx_types.specs.declared.table.FrameRow.TheVariants.{Free}
use Rattle.esx_types.specs.Frames.{bytes_of}
use Rattle.esx_formulas.specs.Key.{content_key}
use Rattle.esx_frames.proofs.seen.key_of_equal.Goals as goal

pub returns-then-eq : goal.returns-then-eq
returns-then-eq c =
    let row = get_or_from_slice_get c.args.rows.now c.args.mpn _ Free (sym c.in_ok-row.ensures) in
    let same : c.bytes_of.result.now ≡ c.args.bytes.now = (slice_eq-Decides Decides-eqb _ _ _ c.eq.ensures).0 c.if-eq.true in
    let kept = c.in_ok-key.ensures.kept in
    kept ∙ c.requires.right c.args.mpn (λ none. c.in_ok-key.ensures.some (kept ∙ none)) ∙ ap content_key (ap bytes_of row ∙ sym c.bytes_of.ensures ∙ same)
