use Rattle.std.proofs.Common.{List, ℕ, take, ap, ◌∙◌}
use Rattle.sha2.specs.Sha256.{digest_bytes, sha256}
use Rattle.esx_formulas.specs.Key.{content_key, from_bytes}
use Rattle.esx_formulas.proofs.DigestFacts.{first_two_words}
use Rattle.esx_formulas.proofs.digest.key_of_long_page.Goals as goal

pub returns : goal.returns
unfolding content_key sha256
returns c =
    c.from_be_bytes.ensures ∙ first_two_words c.final_hash-state.result _ _ c.to_be_bytes.ensures c.to_be_bytes-2.ensures
    ∙ ap (λ (h : List ℕ). from_bytes (take 8 (digest_bytes h 8))) c.final_hash-state.ensures
