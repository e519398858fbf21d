-- The rows of shared frames, frame by frame, and that those of the frames that were used are all.
use Rattle.std.proofs.Common.{◌≡◌, ℕ, zero, suc, ◌+◌, ◌<◌, List, [], ◌∷◌, ◌++◌, length, get_or, take, replicate, Option, Some, None, refl, sym, ap, ◌∙◌, arith, add-one, append-nil}
use Rattle.std.specs.List.{cons_option}
use Rattle.esx_types.specs.declared.table.Listing.{Listing}
use Rattle.esx_types.specs.declared.table.Listing.TheVariants.{Unlisted}
use Rattle.esx_types.specs.declared.table.KeyRow.{KeyRow}
use Rattle.esx_types.specs.Listings.{shared_row, hint_row, shared_from, hints_of}
use Rattle.esx_grown.specs.Grown.{grown}

cons_option-append : {X : Type 0} (o : Option X) (xs ys : List X) → cons_option o (xs ++ ys) ≡ cons_option o xs ++ ys
cons_option-append None xs ys = refl
cons_option-append (Some x) xs ys = refl

more : (f : ℕ) (xs : List Listing) (i : ℕ) (x : Listing) → i < length xs → x ≡ get_or xs i x → shared_from f (take (suc i) xs) ≡ shared_from f (take i xs) ++ cons_option (shared_row (f + i) x) []
more f [] i x l e = absurd (omega arith)
more f (y ∷ ys) zero x l e =
    let here : f + 0 ≡ f = omega arith in
    rw (here, ← e) refl
more f (y ∷ ys) (suc i) x l e =
    let at : f + 1 + i ≡ f + suc i = omega arith in
    ap (cons_option (shared_row f y)) (more (f + 1) ys i x (omega arith) e ∙ ap (λ k. shared_from (f + 1) (take i ys) ++ cons_option (shared_row k x) []) at)
    ∙ cons_option-append (shared_row f y) (shared_from (f + 1) (take i ys)) (cons_option (shared_row (f + suc i) x) [])

further : (xs : List Listing) (i : ℕ) (x : Listing) (o : Option KeyRow) → i < length xs → x ≡ get_or xs i x → o ≡ shared_row i x → shared_from 0 (take (i + 1) xs) ≡ shared_from 0 (take i xs) ++ cons_option o []
further xs i x o l e is =
    let at : 0 + i ≡ i = omega arith in
    rw (add-one, is) (more 0 xs i x l e ∙ ap (λ k. shared_from 0 (take i xs) ++ cons_option (shared_row k x) []) at)

-- a frame with a row adds it, and a frame with none adds nothing
pub shared_from-push : (xs : List Listing) (i : ℕ) (x : Listing) (row : KeyRow) → i < length xs → x ≡ get_or xs i x → Some row ≡ shared_row i x → shared_from 0 (take (i + 1) xs) ≡ shared_from 0 (take i xs) ++ row ∷ []
shared_from-push xs i x row l e is = further xs i x (Some row) l e is

pub shared_from-same : (xs : List Listing) (i : ℕ) (x : Listing) → i < length xs → x ≡ get_or xs i x → None ≡ shared_row i x → shared_from 0 (take (i + 1) xs) ≡ shared_from 0 (take i xs)
shared_from-same xs i x l e is = further xs i x None l e is ∙ append-nil _

-- frames that stand under nothing add no row
unlisted_rows : (f n : ℕ) → shared_from f (replicate n Unlisted) ≡ []
unlisted_rows f zero = refl
unlisted_rows f (suc n) = unlisted_rows (f + 1) n

shared_before : (f : ℕ) (xs : List Listing) (n : ℕ) → shared_from f (xs ++ replicate n Unlisted) ≡ shared_from f xs
shared_before f [] n = unlisted_rows f n
shared_before f (x ∷ xs) n = ap (cons_option (shared_row f x)) (shared_before (f + 1) xs n)

pub shared_from-used : (used all : List Listing) (len : ℕ) → all ≡ grown Unlisted used len → shared_from 0 used ≡ shared_from 0 all
shared_from-used used all len e = sym (ap (shared_from 0) e ∙ shared_before 0 used _)

unlisted_hints : (n : ℕ) → hints_of (replicate n Unlisted) ≡ []
unlisted_hints zero = refl
unlisted_hints (suc n) = unlisted_hints n

hints_before : (xs : List Listing) (n : ℕ) → hints_of (xs ++ replicate n Unlisted) ≡ hints_of xs
hints_before [] n = unlisted_hints n
hints_before (x ∷ xs) n = ap (cons_option (hint_row x)) (hints_before xs n)

pub hints_of-used : (used all : List Listing) (len : ℕ) → all ≡ grown Unlisted used len → hints_of used ≡ hints_of all
hints_of-used used all len e = sym (ap hints_of e ∙ hints_before used _)
