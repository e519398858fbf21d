-- Texts with signs before their lines, byte by byte.
use Rattle.std.proofs.Common.{◌≡◌, ◌<◌, ◌+◌, ◌==◌, ℕ, Bool, true, false, List, [], ◌∷◌, ◌++◌, refl, sym, ◌∙◌, ap, append_assoc, length, take, drop, get_or, add-one, drop-cons, codes, decimal}
use Rattle.std.proofs.lemmas.List.{take-append-drop}
use Rattle.std.proofs.lemmas.Grind.{take_at_read}
use Rattle.esx_replies.specs.Signs.{signed_from, behind}
use Rattle.esx_session.specs.declared.session.Entry.{Entry}
use Rattle.esx_words.specs.Commands.{spelling}
use Rattle.esx_check.specs.Differences.{asked_text}

-- whether a line begins behind a text
abbrev pub fresh_behind : (fresh : Bool) → List ℕ → Bool
fresh_behind fresh [] = fresh
fresh_behind fresh (b ∷ bs) = fresh_behind (b == 10) bs

signed_parts : (s : List ℕ) (fresh : Bool) (xs ys : List ℕ) → signed_from s fresh (xs ++ ys) ≡ signed_from s fresh xs ++ signed_from s (fresh_behind fresh xs) ys
signed_parts s fresh [] ys = refl
signed_parts s true (x ∷ xs) ys =
    ap (λ v. s ++ x ∷ v) (signed_parts s (x == 10) xs ys) ∙ sym (append_assoc s (x ∷ signed_from s (x == 10) xs) (signed_from s (fresh_behind (x == 10) xs) ys))
signed_parts s false (x ∷ xs) ys = ap (λ v. x ∷ v) (signed_parts s (x == 10) xs ys)

fresh_parts : (fresh : Bool) (xs : List ℕ) (b : ℕ) → fresh_behind fresh (xs ++ b ∷ []) ≡ (b == 10)
fresh_parts fresh [] b = refl
fresh_parts fresh (x ∷ xs) b = fresh_parts (x == 10) xs b

-- a byte of a text, what stands before it, and what behind it
module _ (text : List ℕ) (i : ℕ) (within : i < length text) where
  abbrev here : ℕ
  here = get_or text i 0

  one_more : take (i + 1) text ≡ take i text ++ here ∷ []
  one_more = (take_at_read text i 0 within).1

  cut_here : text ≡ take i text ++ (here ∷ drop (i + 1) text)
  cut_here = rw (add-one, ← drop-cons text i 0) (sym (take-append-drop i text))

  pub fresh_more : (here == 10) ≡ fresh_behind true (take (i + 1) text)
  fresh_more = sym (ap (fresh_behind true) one_more ∙ fresh_parts true (take i text) here)

  module _ (s : List ℕ) (fresh : Bool) (at : fresh ≡ fresh_behind true (take i text)) where
    pub signed_at : behind s text ≡ behind s (take i text) ++ (signed_from s fresh (here ∷ []) ++ signed_from s (here == 10) (drop (i + 1) text))
    signed_at =
        ap (behind s) cut_here ∙ signed_parts s true (take i text) (here ∷ drop (i + 1) text)
        ∙ ap (λ f. behind s (take i text) ++ signed_from s f (here ∷ drop (i + 1) text)) (sym at)
        ∙ ap (λ v. behind s (take i text) ++ v) (signed_parts s fresh (here ∷ []) (drop (i + 1) text))

    pub signed_more : behind s (take (i + 1) text) ≡ behind s (take i text) ++ signed_from s fresh (here ∷ [])
    signed_more =
        ap (behind s) one_more ∙ signed_parts s true (take i text) (here ∷ [])
        ∙ ap (λ f. behind s (take i text) ++ signed_from s f (here ∷ [])) (sym at)

-- the line of a call, piece by piece
abbrev pub asked_head : ℕ → List ℕ
asked_head caller = codes "call: " ++ (decimal caller ++ 32 ∷ [])

pub asked_is : (e : Entry) → asked_head e.caller ++ (spelling e.call ++ 10 ∷ []) ≡ asked_text e
asked_is e = ap (λ v. codes "call: " ++ v) (append_assoc (decimal e.caller) (32 ∷ []) (spelling e.call ++ 10 ∷ []))
