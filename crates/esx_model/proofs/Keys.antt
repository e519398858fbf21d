-- A key is a number of 64 bits, and what a hint stands under one of 32.
use Rattle.std.proofs.Common.{zero, suc, ℕ, ◌+◌, ◌*◌, ◌<◌, ◌≤◌, ◌^◌, List, [], ◌∷◌, take, arith, w32, slice_index}
use Rattle.std.specs.List.{fold, AllByRecursion}
use Rattle.std.specs.Int.{to_be_bytes}
use Rattle.esx_formulas.specs.Key.{content_key, IsShort, hint_key}
use Rattle.sha2.specs.Sha256.{digest_bytes, sha256}
use Rattle.esx_model.proofs.Lists.{all_append}

word_bytes : (n : ℕ) → AllByRecursion (λ b. b < 256) (to_be_bytes w32 n)
word_bytes n = (omega arith, (omega arith, (omega arith, (omega arith, tt))))

digest_of_bytes : (h : List ℕ) (n : ℕ) → AllByRecursion (λ b. b < 256) (digest_bytes h n)
unfolding digest_bytes
digest_of_bytes h zero = tt
digest_of_bytes h (suc n) = all_append (λ b. b < 256) (digest_bytes h n) (to_be_bytes w32 (slice_index h n)) (digest_of_bytes h n) (word_bytes (slice_index h n))

-- the bound of a number of k more bytes
more_bytes : ℕ → ℕ → ℕ
more_bytes zero m = m
more_bytes (suc k) m = more_bytes k (m * 256)

at_least : (k m : ℕ) → m ≤ more_bytes k m
unfolding more_bytes
at_least zero m = omega arith
at_least (suc k) m = let rest = at_least k (m * 256) in omega (arith, rest)

bounded : (k : ℕ) (bytes : List ℕ) (n m : ℕ) → n < m → AllByRecursion (λ b. b < 256) bytes → fold (λ n b. n * 256 + b) n (take k bytes) < more_bytes k m
unfolding more_bytes
bounded zero bytes n m low all = low
bounded (suc k) [] n m low all = (let least = at_least k (m * 256) in omega (arith, least, low))
bounded (suc k) (b ∷ bytes) n m low all = (let byte = all.0 in bounded k bytes (n * 256 + b) (m * 256) (omega (arith, byte, low)) all.1)

pub key_small : (bytes : List ℕ) → content_key bytes < 2 ^ 64
unfolding content_key sha256 more_bytes
key_small bytes = bounded 8 (sha256 bytes) 0 1 (omega arith) (digest_of_bytes _ 8)

pub short_small : (bytes : List ℕ) → IsShort (hint_key bytes)
short_small bytes = (let small = key_small bytes in omega (arith, small))
