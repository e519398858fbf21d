-- Which look-up finds an entry, and under which number.
use Rattle.std.specs.Prelude.{ℕ}
use Rattle.esx_formulas.specs.Key.{short_of}
use Rattle.esx_keys.specs.declared.entry.Entry.{Entry}
use Rattle.esx_keys.specs.declared.entry.Entry.TheVariants.{Shared, Hint}
use Rattle.esx_keys.specs.declared.entry.Kind.{Kind}
use Rattle.esx_keys.specs.declared.entry.Kind.TheVariants.{Shared as SharedKind, Hint as HintKind}

abbrev pub kind_of : Entry → Kind
kind_of (Shared frame) = SharedKind
kind_of (Hint vm page) = HintKind

-- the number that an entry of this kind stands under: a shared frame under the key, a hint under its short
abbrev pub number_of : ℕ → Kind → ℕ
number_of key SharedKind = key
number_of key HintKind = short_of key
