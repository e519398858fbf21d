-- The first words of commands: each is one of small letters, and the first word of one command at most.
use Rattle.std.proofs.Common.{◌≡◌, arith, ℕ, List, true, false, [], ◌∷◌, if◌then◌else◌, ◌==◌, ◌+◌, ◌*◌, refl, ap, sym, ◌∙◌}
use Rattle.std.specs.Prelude.{Bool, ◌&&◌, fold}
use Rattle.std.specs.List.{list_all}
use Rattle.std.proofs.Math.Path.{subst}
use Rattle.std.proofs.lemmas.Bool.{and_parts}
use Rattle.esx_events.specs.Names.{is_lower, starts_lower}
use Rattle.esx_words.specs.Verbs.{verb_word}
use Rattle.esx_words.specs.declared.verbs.Verb.{Verb}
use Rattle.esx_words.specs.declared.verbs.Verb.TheVariants as verbs
unfoldable pub use Rattle.esx_words.proofs.Tables.{all_verbs}

-- a number that tells short texts apart
abbrev pub number_of : List ℕ → ℕ
number_of w = fold (λ n b. n * 256 + b) 0 w

unfoldable pub named : List ℕ → List Verb → Verb
named w [] = verbs.WhatIf
named w (v ∷ vs) = if number_of w == number_of (verb_word v) then v else named w vs

-- the left inverse of the table of first words
unfoldable pub verb_at : List ℕ → Verb
verb_at w = named w all_verbs

pub back : (v : Verb) → verb_at (verb_word v) ≡ v
unfolding verb_at named all_verbs
back v = grind (arith)

-- a word is the first one of one command at most
pub one_verb : (v w : Verb) → verb_word v ≡ verb_word w → v ≡ w
one_verb v w e = sym (back v) ∙ ap verb_at e ∙ back w

-- a first word is that of the verb that is found for it
pub is_found : (v : Verb) (word : List ℕ) → verb_word v ≡ word → verb_word (verb_at word) ≡ word
is_found v word e = sym (ap (λ w. verb_word (verb_at w)) e) ∙ ap verb_word (back v) ∙ e

module _ (p : Verb → Bool) where
  either_passes : (test : Bool) (v w : Verb) → p v ≡ true → p w ≡ true → p (if test then v else w) ≡ true
  either_passes true v w h k = h
  either_passes false v w h k = k

  named_passes : (w : List ℕ) (vs : List Verb) → list_all p vs ≡ true → p verbs.WhatIf ≡ true → p (named w vs) ≡ true
  unfolding named
  named_passes w [] h last = last
  named_passes w (v ∷ vs) h last =
      let parts = and_parts (p v) (list_all p vs) h in
      either_passes (number_of w == number_of (verb_word v)) v (named w vs) parts.0 (named_passes w vs parts.1 last)

  -- what a test says of all verbs it says of each
  each_verb : list_all p all_verbs ≡ true → p verbs.WhatIf ≡ true → (v : Verb) → p v ≡ true
  unfolding verb_at
  each_verb h last v = subst (λ u. p u ≡ true) (back v) (named_passes (verb_word v) all_verbs h last)

-- a word of small letters, and of one at least
abbrev is_first_word : List ℕ → Bool
is_first_word word = starts_lower word && list_all is_lower word

letters : (v : Verb) → is_first_word (verb_word v) ≡ true
unfolding all_verbs
letters v = each_verb (λ u. is_first_word (verb_word u)) refl refl v

pub verb_starts : (v : Verb) → starts_lower (verb_word v) ≡ true
verb_starts v = (and_parts _ _ (letters v)).0

module _ (p : ℕ → Bool) (weaker : (b : ℕ) → is_lower b ≡ true → p b ≡ true) where
  all_weaker : (bs : List ℕ) → list_all is_lower bs ≡ true → list_all p bs ≡ true
  all_weaker [] h = refl
  all_weaker (b ∷ bs) h = let q = and_parts (is_lower b) (list_all is_lower bs) h in rw (weaker b q.0, all_weaker bs q.1) refl

  -- what holds of each small letter holds of each byte of a first word
  pub verb_bytes : (v : Verb) → list_all p (verb_word v) ≡ true
  verb_bytes v = all_weaker (verb_word v) (and_parts _ _ (letters v)).1
