-- What a look reads of a frame's row.
use Rattle.std.proofs.Common.{◌≡◌, ℕ, List, sym, ap, ◌∙◌}
use Rattle.std.specs.List.{position_from}
use Rattle.esx_types.specs.declared.table.FrameRow.{FrameRow}
use Rattle.esx_types.specs.declared.table.FrameRow.TheVariants as frames
use Rattle.esx_types.specs.Listings.{is_shared_under}
use Rattle.esx_formulas.specs.Key.{content_key}
use Rattle.esx_model.specs.declared.look.Look.{Look}
use Rattle.esx_model.specs.declared.tables.Tables.{Tables}
use Rattle.esx_sharing.specs.Sharing.{look_by_key, look_in}

pub found_private : (t : Tables) (n page : ℕ) (row : FrameRow) (bytes : List ℕ) (key : ℕ) (l : Look) → row ≡ frames.Private bytes → key ≡ content_key bytes
    → l ≡ look_by_key t n page bytes key (position_from (is_shared_under key) 0 t.listings) → l ≡ look_in t n page row
unfolding look_in
found_private t n page row bytes key l is own found =
    found ∙ ap (λ k. look_by_key t n page bytes k (position_from (is_shared_under k) 0 t.listings)) own ∙ ap (look_in t n page) (sym is)
