-- What rows end as, where a `&mut` to one of them is returned.
use Rattle.std.specs.Prelude.{ℕ, List, slice_set}
use Rattle.std.specs.Borrow.{Lends, Fml, RattleType, MutBor}
use Rattle.esx_grown.specs.declared.blank.Blank as blank
use Rattle.esx_grown.specs.contracts.grown.Grown.{the_row}

module _ (T : RattleType) (g : blank.Ghosts T.Denot) (v : MutBor (List T.Denot)) where
  -- once the borrow r ends, the row at i has the last value written through r
  abbrev pub lends_row : ℕ → MutBor T.Denot → Fml
  lends_row i r = Lends (the_row T g) T v r (λ w. slice_set v.now i w)
