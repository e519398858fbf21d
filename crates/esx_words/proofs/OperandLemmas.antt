-- Operands that are not there, and the call that a line spells.
use Rattle.std.proofs.Common.{◌≡◌, ◌<◌, ◌≤◌, ◌^◌, ℕ, List, [], ◌∷◌, length, decimal}
use Rattle.std.specs.Prelude.{map}
use Rattle.std.specs.List.{AllByRecursion}
use Rattle.hex.specs.Hex.{encode_lower}
use Rattle.esx_types.specs.declared.config.TheConstants.{VM_NUMBERS}
use Rattle.esx_events.specs.Names.{IsName}
use Rattle.esx_reading.specs.Written.{IsWritten}
use Rattle.esx_words.specs.declared.operands.TheConstants.{MAX_WORDS}
use Rattle.esx_words.specs.Kinds.{Kinds, Values, value_words, AreValues, perhaps_number, IsPerhapsNumber}
use Rattle.esx_words.specs.Kinds.Kind.{Machine, Number, Word, Hex, Name}
use Rattle.esx_words.specs.Kinds.Kinds.{End, Then, PerhapsNumber, Words}
use Rattle.std.specs.Prelude.{Option, Some, None, Result, IfOk, IfSome, IfNone}
use Rattle.std.proofs.lemmas.Result.{IfOk-weaker}
use Rattle.std.proofs.lemmas.Option.{IfSome_then}

-- the words are those of no values of these kinds
abbrev pub HasNo : Kinds → List (List ℕ) → Type 0
HasNo kinds rest = (x : Values kinds) → AreValues kinds x → rest ≡ value_words kinds x → ⊥

pub none_more : {X : Type 0} (r : Option X) (P Q : Type 0) → (P → Q) → IfNone r P → IfNone r Q
none_more None P Q f h = f h
none_more (Some x) P Q f h = tt

-- why nothing was found, in other words
pub found_none : {X E : Type 0} (r : Result (Option X) E) (P Q : Type 0) → (P → Q) → IfOk r (λ found. IfNone found P) → IfOk r (λ found. IfNone found Q)
found_none r P Q f h = IfOk-weaker r _ _ (λ found. none_more found P Q f) h

-- what was found, in other words
pub found_more : {X E : Type 0} (r : Result (Option X) E) (P Q : X → Type 0) → ((x : X) → P x → Q x)
    → IfOk r (λ found. IfSome found P) → IfOk r (λ found. IfSome found Q)
found_more r P Q f h = IfOk-weaker r _ _ (λ found p. IfSome_then found p f) h

pub no_machine : (rest : List (List ℕ)) → ((vm : ℕ) → vm < VM_NUMBERS → rest ≡ decimal vm ∷ [] → ⊥)
    → HasNo (Then Machine End) rest
no_machine rest h (vm, tt) (r0, u) e = h vm r0 e

pub no_number : (rest : List (List ℕ)) → ((n : ℕ) → n < 2 ^ 32 → rest ≡ decimal n ∷ [] → ⊥)
    → HasNo (Then Number End) rest
no_number rest h (n, tt) (r0, u) e = h n r0 e

pub no_place : (rest : List (List ℕ)) → ((vm n : ℕ) → vm < VM_NUMBERS → n < 2 ^ 32 → rest ≡ decimal vm ∷ decimal n ∷ [] → ⊥)
    → HasNo (Then Machine (Then Number End)) rest
no_place rest h (vm, (n, tt)) (r0, (r1, u)) e = h vm n r0 r1 e

pub no_drawn : (rest : List (List ℕ)) → ((vm w : ℕ) → vm < VM_NUMBERS → w < 2 ^ 64 → rest ≡ decimal vm ∷ decimal w ∷ [] → ⊥)
    → HasNo (Then Machine (Then Word End)) rest
no_drawn rest h (vm, (w, tt)) (r0, (r1, u)) e = h vm w r0 r1 e

pub no_drawn_place : (rest : List (List ℕ)) → ((vm n w : ℕ) → vm < VM_NUMBERS → n < 2 ^ 32 → w < 2 ^ 64 → rest ≡ decimal vm ∷ decimal n ∷ decimal w ∷ [] → ⊥)
    → HasNo (Then Machine (Then Number (Then Word End))) rest
no_drawn_place rest h (vm, (n, (w, tt))) (r0, (r1, (r2, u))) e = h vm n w r0 r1 r2 e

pub no_range : (rest : List (List ℕ)) → ((vm n m k : ℕ) → vm < VM_NUMBERS → n < 2 ^ 32 → m < 2 ^ 32 → k < 2 ^ 32 → rest ≡ decimal vm ∷ decimal n ∷ decimal m ∷ decimal k ∷ [] → ⊥)
    → HasNo (Then Machine (Then Number (Then Number (Then Number End)))) rest
no_range rest h (vm, (n, (m, (k, tt)))) (r0, (r1, (r2, (r3, u)))) e = h vm n m k r0 r1 r2 r3 e

pub no_spec : (rest : List (List ℕ)) → ((vm min max overhead shares balloon : ℕ) (tau : Option ℕ) → vm < VM_NUMBERS → min < 2 ^ 32 → max < 2 ^ 32 → overhead < 2 ^ 32 → shares < 2 ^ 32 → balloon < 2 ^ 32 → IsPerhapsNumber tau
    → rest ≡ decimal vm ∷ decimal min ∷ decimal max ∷ decimal overhead ∷ decimal shares ∷ decimal balloon ∷ perhaps_number tau → ⊥)
    → HasNo (Then Machine (Then Number (Then Number (Then Number (Then Number (Then Number PerhapsNumber)))))) rest
no_spec rest h (vm, (min, (max, (overhead, (shares, (balloon, tau)))))) (r0, (r1, (r2, (r3, (r4, (r5, r6)))))) e = h vm min max overhead shares balloon tau r0 r1 r2 r3 r4 r5 r6 e

pub no_written : (rest : List (List ℕ)) → ((vm n m : ℕ) (bytes : List ℕ) → vm < VM_NUMBERS → n < 2 ^ 32 → m < 2 ^ 32 → IsWritten bytes → rest ≡ decimal vm ∷ decimal n ∷ decimal m ∷ encode_lower bytes ∷ [] → ⊥)
    → HasNo (Then Machine (Then Number (Then Number (Then Hex End)))) rest
no_written rest h (vm, (n, (m, (bytes, tt)))) (r0, (r1, (r2, (r3, u)))) e = h vm n m bytes r0 r1 r2 r3 e

pub no_name : (rest : List (List ℕ)) → ((name : List ℕ) → IsName name → rest ≡ name ∷ [] → ⊥)
    → HasNo (Then Name End) rest
no_name rest h (name, tt) (r0, u) e = h name r0 e

pub no_sampled : (rest : List (List ℕ)) → ((vm n : ℕ) (words : List ℕ) → vm < VM_NUMBERS → n < 2 ^ 32 → length words ≤ MAX_WORDS
    → AllByRecursion (λ w. w < 2 ^ 64) words → rest ≡ decimal vm ∷ decimal n ∷ map decimal words → ⊥)
    → HasNo (Then Machine (Then Number Words)) rest
no_sampled rest h (vm, (n, words)) (a, (b, (few, are))) e = h vm n words a b few are e
