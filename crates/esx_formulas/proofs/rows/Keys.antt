-- Worked examples of content keys.
use Rattle.std.specs.Prelude.{◌≡◌, ◌==◌, false, [], ◌∷◌}
use Rattle.std.proofs.Common.{refl}
use Rattle.sha2.specs.Sha256.{first_words, schedule, rounds, compress, hash_after, digest_bytes, sha256}
use Rattle.esx_formulas.specs.Key.{content_key, hint_key}

key_of_abc : content_key (97 ∷ 98 ∷ 99 ∷ []) ≡ 0xba7816bf8f01cfea
unfolding content_key first_words schedule rounds compress hash_after digest_bytes sha256
key_of_abc = refl

key_of_none : content_key [] ≡ 0xe3b0c44298fc1c14
unfolding content_key first_words schedule rounds compress hash_after digest_bytes sha256
key_of_none = refl

hint_of_abc : hint_key (97 ∷ 98 ∷ 99 ∷ []) ≡ 0xba7816bf
unfolding content_key first_words schedule rounds compress hash_after digest_bytes sha256
hint_of_abc = refl

-- two pages of 16 bytes whose keys agree in their upper 32 bits and in no more
one_short : hint_key (0 ∷ 0 ∷ 0 ∷ 0 ∷ 0 ∷ 0 ∷ 149 ∷ 40 ∷ 0 ∷ 0 ∷ 0 ∷ 0 ∷ 0 ∷ 0 ∷ 0 ∷ 0 ∷ []) ≡ hint_key (0 ∷ 0 ∷ 0 ∷ 0 ∷ 0 ∷ 0 ∷ 230 ∷ 255 ∷ 0 ∷ 0 ∷ 0 ∷ 0 ∷ 0 ∷ 0 ∷ 0 ∷ 0 ∷ [])
unfolding content_key first_words schedule rounds compress hash_after digest_bytes sha256
one_short = refl

two_keys : (content_key (0 ∷ 0 ∷ 0 ∷ 0 ∷ 0 ∷ 0 ∷ 149 ∷ 40 ∷ 0 ∷ 0 ∷ 0 ∷ 0 ∷ 0 ∷ 0 ∷ 0 ∷ 0 ∷ []) == content_key (0 ∷ 0 ∷ 0 ∷ 0 ∷ 0 ∷ 0 ∷ 230 ∷ 255 ∷ 0 ∷ 0 ∷ 0 ∷ 0 ∷ 0 ∷ 0 ∷ 0 ∷ 0 ∷ [])) ≡ false
unfolding content_key first_words schedule rounds compress hash_after digest_bytes sha256
two_keys = refl
