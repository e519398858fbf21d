-- The pages in one frame, or in one slot: what its row is after one of them leaves, and after one comes.
use Rattle.std.proofs.Common.{zero, suc, ◌≡◌, ℕ, ◌+◌, ◌-◌, Bool, true, false, List, [], ◌∷◌, ◌++◌, length, replicate, refl, sym, ap, ◌∙◌, subst, arith, nat_lt}
use Rattle.std.proofs.lemmas.List.{length-replicate}
use Rattle.std.proofs.lemmas.Bool.Decides.{nat_tests}
use Rattle.esx_types.specs.declared.table.FrameRow.{FrameRow}
use Rattle.esx_types.specs.declared.table.FrameRow.TheVariants as frames
use Rattle.esx_types.specs.declared.table.SlotRow.{SlotRow}
use Rattle.esx_types.specs.declared.table.SlotRow.TheVariants as slots
use Rattle.esx_model.specs.declared.scene.Place.{Place}
use Rattle.esx_model.specs.declared.scene.Place.TheVariants.{Here, Out}
use Rattle.esx_model.specs.Show.{row_of, slot_of}
use Rattle.esx_model.specs.Moved.{less, more, FitsRow}
use Rattle.esx_model.proofs.Lists.{not_none}
use Rattle.esx_model.specs.sound.Frames.{pages_for, pages_out_for}

-- a row, and the pages that it stands for
pub record Stands (f : ℕ) (ps : List Place) (row : FrameRow) : Type 0 where
  pub pages : ps ≡ pages_for f row
  pub is : row_of ps ≡ row

stands_by : (f : ℕ) (ps : List Place) (row : FrameRow) → ps ≡ pages_for f row → row_of (pages_for f row) ≡ row → Stands f ps row
stands_by f ps row h e = record { pages = h; is = ap row_of h ∙ e }

pub stands_alike : (f : ℕ) (ps : List Place) (row : FrameRow) → Stands f ps row → ps ≡ pages_for f (row_of ps)
stands_alike f ps row s = s.pages ∙ ap (pages_for f) (sym s.is)

first_of : (x y : Place) (xs ys : List Place) → x ∷ xs ≡ y ∷ ys → x ≡ y
first_of x y xs ys h = cc

rest_of : (x y : Place) (xs ys : List Place) → x ∷ xs ≡ y ∷ ys → xs ≡ ys
rest_of x y xs ys h = cc

one_less : (fs bs : List Place) (x y : Place) (k : ℕ) → fs ++ x ∷ bs ≡ replicate (suc k) y → fs ++ bs ≡ replicate k y
one_less [] bs x y k h = rest_of x y bs (replicate k y) h
one_less (a ∷ fs) bs x y zero h = absurd (not_none fs bs x (rest_of a y (fs ++ x ∷ bs) [] h))
one_less (a ∷ fs) bs x y (suc k) h =
    ap (λ p. p ∷ (fs ++ bs)) (first_of a y (fs ++ x ∷ bs) (replicate (suc k) y) h) ∙ ap (λ ps. y ∷ ps) (one_less fs bs x y k (rest_of a y (fs ++ x ∷ bs) (replicate (suc k) y) h))

one_more : (fs bs : List Place) (y : Place) (k : ℕ) → fs ++ bs ≡ replicate k y → fs ++ y ∷ bs ≡ replicate (suc k) y
one_more [] bs y k h = ap (λ ps. y ∷ ps) h
one_more (a ∷ fs) bs y zero h = cc
one_more (a ∷ fs) bs y (suc k) h =
    ap (λ p. p ∷ (fs ++ y ∷ bs)) (first_of a y (fs ++ bs) (replicate k y) h) ∙ ap (λ ps. y ∷ ps) (one_more fs bs y k (rest_of a y (fs ++ bs) (replicate k y) h))

shared_row : (f k : ℕ) (bytes : List ℕ) → row_of (pages_for f (frames.Shared (suc k) bytes)) ≡ frames.Shared (suc k) bytes
shared_row f k bytes = let e : 1 + length (replicate k (Here bytes f true)) ≡ suc k = (let len = length-replicate k (Here bytes f true) in omega arith) in ap (λ n. frames.Shared n bytes) e

less_many : (k : ℕ) (bytes : List ℕ) → less (frames.Shared (suc (suc k)) bytes) ≡ frames.Shared (suc k) bytes
less_many k bytes =
    let test : nat_lt 1 (suc (suc k)) ≡ true = grind (arith, nat_tests) in
    let minus : suc (suc k) - 1 ≡ suc k = omega arith in
    rw test (ap (λ n. frames.Shared n bytes) minus)

-- one page leaves
pub left_by : (f : ℕ) (fs bs : List Place) (x : Place) (row : FrameRow) → fs ++ x ∷ bs ≡ pages_for f row → Stands f (fs ++ bs) (less row)
left_by f fs bs x frames.Free h = absurd (not_none fs bs x h)
left_by f fs bs x frames.Overhead h = absurd (not_none fs bs x h)
left_by f fs bs x (frames.Private bytes) h = stands_by f (fs ++ bs) frames.Free (one_less fs bs x (Here bytes f false) zero h) refl
left_by f fs bs x (frames.Shared zero bytes) h = absurd (not_none fs bs x h)
left_by f fs bs x (frames.Shared (suc zero) bytes) h = stands_by f (fs ++ bs) frames.Free (one_less fs bs x (Here bytes f true) zero h) refl
left_by f fs bs x (frames.Shared (suc (suc k)) bytes) h =
    let P : FrameRow → Type 0 = Stands f (fs ++ bs) in
    let many = stands_by f (fs ++ bs) (frames.Shared (suc k) bytes) (one_less fs bs x (Here bytes f true) (suc k) h) (shared_row f k bytes) in
    rw (less_many k bytes) many

-- one page comes
pub come_by : (f : ℕ) (fs bs : List Place) (bytes : List ℕ) (shared : Bool) (row : FrameRow) → fs ++ bs ≡ pages_for f row → FitsRow bytes shared row
    → Stands f (fs ++ Here bytes f shared ∷ bs) (more bytes shared row)
come_by f fs bs bytes false frames.Free h fits = stands_by f (fs ++ Here bytes f false ∷ bs) (frames.Private bytes) (one_more fs bs (Here bytes f false) zero h) refl
come_by f fs bs bytes true frames.Free h fits = stands_by f (fs ++ Here bytes f true ∷ bs) (frames.Shared 1 bytes) (one_more fs bs (Here bytes f true) zero h) (shared_row f zero bytes)
come_by f fs bs bytes shared frames.Overhead h fits = absurd fits
come_by f fs bs bytes shared (frames.Private old) h fits = absurd fits
come_by f fs bs bytes false (frames.Shared count old) h fits = (let e = fits.0 in cc)
come_by f fs bs bytes true (frames.Shared count old) h fits =
    let same : fs ++ bs ≡ replicate count (Here bytes f true) = h ∙ ap (λ b. replicate count (Here b f true)) (sym fits.1) in
    let step : suc count ≡ count + 1 = omega arith in
    let P : ℕ → Type 0 = λ n. Stands f (fs ++ Here bytes f true ∷ bs) (frames.Shared n bytes) in
    subst P step (stands_by f (fs ++ Here bytes f true ∷ bs) (frames.Shared (suc count) bytes) (one_more fs bs (Here bytes f true) count same) (shared_row f count bytes))

-- The same of slots.

pub record StandsOut (i : ℕ) (ps : List Place) (row : SlotRow) : Type 0 where
  pub pages : ps ≡ pages_out_for i row
  pub is : slot_of ps ≡ row

pub out_alike : (i : ℕ) (ps : List Place) (row : SlotRow) → StandsOut i ps row → ps ≡ pages_out_for i (slot_of ps)
out_alike i ps row s = s.pages ∙ ap (pages_out_for i) (sym s.is)

pub left_out_by : (i : ℕ) (fs bs : List Place) (x : Place) (row : SlotRow) → fs ++ x ∷ bs ≡ pages_out_for i row → StandsOut i (fs ++ bs) slots.Free
left_out_by i fs bs x slots.Free h = absurd (not_none fs bs x h)
left_out_by i fs bs x (slots.Held bytes) h = let e = one_less fs bs x (Out bytes i) zero h in record { pages = e; is = ap slot_of e }

pub come_out_by : (i : ℕ) (fs bs : List Place) (bytes : List ℕ) (row : SlotRow) → fs ++ bs ≡ pages_out_for i row → row ≡ slots.Free → StandsOut i (fs ++ Out bytes i ∷ bs) (slots.Held bytes)
come_out_by i fs bs bytes row h free = let e = one_more fs bs (Out bytes i) zero (h ∙ ap (pages_out_for i) free) in record { pages = e; is = ap slot_of e }
