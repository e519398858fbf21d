-- What is seen of rows stays where more of them are kept, and changes as they do.
use Rattle.std.proofs.Common.{◌≡◌, ℕ, ◌+◌, ◌-◌, ◌<◌, ◌≤◌, ◌++◌, List, length, replicate, set, sym, ap, ◌∙◌, arith}
use Rattle.std.proofs.lemmas.List.{append_assoc, length-append, length-replicate, length-set, replicate-append-replicate, set-append_left}
use Rattle.esx_grown.specs.Grown.{grown}

pub grown_length : {A : Type 0} (blank : A) (used : List A) (len : ℕ) → length used ≤ len → length (grown blank used len) ≡ len
grown_length blank used len within =
    let e : length (grown blank used len) ≡ length used + (len - length used) = length-append _ _ ∙ ap (λ n. length used + n) (length-replicate _ _) in
    omega (arith, e)

pub grown_more : {A : Type 0} (blank : A) (used : List A) (n len : ℕ) → n ≤ len → grown blank (used ++ replicate (n - length used) blank) len ≡ grown blank used len
grown_more blank used n len within =
    let l : length (used ++ replicate (n - length used) blank) ≡ length used + (n - length used) = length-append _ _ ∙ ap (λ m. length used + m) (length-replicate _ _) in
    let e : (n - length used) + (len - (length used + (n - length used))) ≡ len - length used = omega arith in
    append_assoc used _ _
    ∙ ap (λ m. used ++ (replicate (n - length used) blank ++ replicate (len - m) blank)) l
    ∙ ap (λ r. used ++ r) (replicate-append-replicate (n - length used) (len - (length used + (n - length used))) blank)
    ∙ ap (λ m. used ++ replicate m blank) e

pub grown_set : {A : Type 0} (blank : A) (used : List A) (len i : ℕ) (row : A) → i < length used → grown blank (set used i row) len ≡ set (grown blank used len) i row
grown_set blank used len i row h =
    ap (λ m. set used i row ++ replicate (len - m) blank) (length-set used i row) ∙ sym (set-append_left used _ i row h)
