-- Texts that are put one behind another.
use Rattle.std.proofs.Common.{◌++◌, ℕ, List, Option, Result, refl}
use Rattle.esx_writing.specs.Writing.{Passes, Puts}
use Rattle.esx_writing.proofs.WritingLemmas.{puts_after}

pub puts_behind : {T E : Type 0} (a b c : Option (List ℕ)) (h k l x y : List ℕ) (r : Result T E) → Passes a h b k x → Puts b k c l y r → Puts a h c l (x ++ y) r
puts_behind a b c h k l x y r p q = puts_after a b c h k l x x y y r refl refl p q
