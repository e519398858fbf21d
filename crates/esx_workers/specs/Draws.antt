-- Random words, as a function of the generator.
use Rattle.std.specs.Prelude.{ℕ, zero, suc, List, [], ◌∷◌}
use Rattle.rand_pcg.specs.Lcg.{Lcg}
use Rattle.rand_pcg.specs.Pcg.{pcg64}

-- the next word
unfoldable pub word : Lcg → ℕ
word g = (pcg64 g).0

-- the generator after it
unfoldable pub after_word : Lcg → Lcg
after_word g = (pcg64 g).1

-- the next words, so many of them
unfoldable pub words_of : ℕ → Lcg → List ℕ
words_of zero g = []
words_of (suc n) g = word g ∷ words_of n (after_word g)

-- the generator after so many words
unfoldable pub after_words : ℕ → Lcg → Lcg
after_words zero g = g
after_words (suc n) g = after_words n (after_word g)
