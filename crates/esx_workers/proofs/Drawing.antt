-- Random words, one by one.
use Rattle.std.proofs.Common.{◌≡◌, ℕ, suc, ◌+◌, ◌-◌, ◌<◌, List, [], ◌∷◌, ◌++◌, sym, ap, ◌∙◌, append_assoc, append-nil, arith}
use Rattle.rand_pcg.specs.Lcg.{Lcg}
use Rattle.esx_workers.specs.Draws.{word, after_word, words_of, after_words}

-- one more step down
less_one : (n i : ℕ) → i < n → n - i ≡ suc (n - (i + 1))
less_one n i lt = omega arith

pub words_first : (n i : ℕ) (g : Lcg) → i < n → words_of (n - i) g ≡ word g ∷ words_of (n - (i + 1)) (after_word g)
unfolding words_of
words_first n i g lt = ap (λ (k : ℕ). words_of k g) (less_one n i lt)

pub after_first : (n i : ℕ) (g : Lcg) → i < n → after_words (n - i) g ≡ after_words (n - (i + 1)) (after_word g)
unfolding after_words
after_first n i g lt = ap (λ (k : ℕ). after_words k g) (less_one n i lt)

pub words_on : (n i : ℕ) (g : Lcg) (xs : List ℕ) → i < n → (xs ++ word g ∷ []) ++ words_of (n - (i + 1)) (after_word g) ≡ xs ++ words_of (n - i) g
words_on n i g xs lt = append_assoc xs (word g ∷ []) (words_of (n - (i + 1)) (after_word g)) ∙ ap (λ (l : List ℕ). xs ++ l) (sym (words_first n i g lt))

pub words_last : (n i : ℕ) (g : Lcg) (xs : List ℕ) → n - i ≡ 0 → xs ++ words_of (n - i) g ≡ xs
unfolding words_of
words_last n i g xs e = ap (λ (k : ℕ). xs ++ words_of k g) e ∙ append-nil xs

pub after_last : (n i : ℕ) (g : Lcg) → n - i ≡ 0 → after_words (n - i) g ≡ g
unfolding after_words
after_last n i g e = ap (λ (k : ℕ). after_words k g) e
