-- A gate that is passed once more.
use Rattle.std.proofs.Common.{ℕ, ◌+◌, Bool, Result, Ok, Err, refl, sym, subst, add-one}
use Rattle.std.specs.Result.{OnErr}
use Rattle.esx_check.specs.Gates.{turn_of, PassedFor, PassedForSome}

module _ {G : Type 0} (passes : G → ℕ → Bool → G → Type 0) where
  pub passed_none : (g : G) → PassedFor passes 0 g g
  unfolding PassedFor
  passed_none g = refl

  pub passed_more : (n : ℕ) (g m h : G) → PassedFor passes n g m → ((answer : Bool) × passes m (turn_of (n + 1)) answer h) → PassedFor passes (n + 1) g h
  unfolding PassedFor
  passed_more n g m h before passed =
      subst (λ (i : ℕ). PassedFor passes i g h) (sym (add-one n)) (m, before, passed.0, subst (λ (i : ℕ). passes m (turn_of i) passed.0 h) (add-one n) passed.1)

  pub some_of : (Holds : ℕ → Type 0) (n : ℕ) (g h : G) → Holds n → PassedFor passes n g h → PassedForSome passes Holds g h
  some_of Holds n g h holds passed = (n, holds, passed)

  pub some_none : (Holds : ℕ → Type 0) (g : G) → Holds 0 → PassedForSome passes Holds g g
  some_none Holds g holds = (0, holds, passed_none g)

  pub some_more : (Holds : ℕ → Type 0) (n : ℕ) (g m h : G) → Holds (n + 1) → PassedFor passes n g m → ((answer : Bool) × passes m (turn_of (n + 1)) answer h)
      → PassedForSome passes Holds g h
  some_more Holds n g m h holds before passed = (n + 1, holds, passed_more n g m h before passed)

-- what holds where a call fails
pub on_err : {T E X : Type 0} (r : Result T E) → X → OnErr r X
on_err (Ok v) x = tt
on_err (Err e) x = x
