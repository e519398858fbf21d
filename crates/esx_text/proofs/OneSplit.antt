-- A text has its ended pieces and its rest in one way.
use Rattle.std.proofs.Common.{◌≡◌, ℕ, List, [], ◌∷◌, ◌++◌, refl, sym, ◌∙◌, append_assoc}
use Rattle.std.specs.List.{All, flat_map}
use Rattle.std.proofs.lemmas.List.Elements.{All-head, All-tail}
use Rattle.esx_text.specs.Lines.{HasNoFeed, EndsIn}

-- two texts with no feed, each ended by one, begin one text only if they are the same
first_feed : (x y a b : List ℕ) → HasNoFeed x → HasNoFeed y → x ++ 10 ∷ a ≡ y ++ 10 ∷ b → (x ≡ y) × (a ≡ b)
first_feed [] [] a b p q e = (refl, cc)
first_feed [] (c ∷ y) a b p q e = absurd (All-head (λ b. b ≡ 10 → ⊥) c y q (cc))
first_feed (c ∷ x) [] a b p q e = absurd (All-head (λ b. b ≡ 10 → ⊥) c x p (cc))
first_feed (c ∷ x) (d ∷ y) a b p q e =
    let t : x ++ 10 ∷ a ≡ y ++ 10 ∷ b = cc in
    let r = first_feed x y a b (All-tail (λ b. b ≡ 10 → ⊥) c x p) (All-tail (λ b. b ≡ 10 → ⊥) d y q) t in
    (cc, r.1)

no_feed_none : (x y a : List ℕ) → HasNoFeed x → x ≡ y ++ 10 ∷ a → ⊥
no_feed_none [] [] a p e = cc
no_feed_none [] (d ∷ y) a p e = cc
no_feed_none (c ∷ x) [] a p e = All-head (λ b. b ≡ 10 → ⊥) c x p (cc)
no_feed_none (c ∷ x) (d ∷ y) a p e = no_feed_none x y a (All-tail (λ b. b ≡ 10 → ⊥) c x p) (cc)

same_pieces : (e e' : List (List ℕ)) (r r' : List ℕ) → All HasNoFeed e → All HasNoFeed e' → HasNoFeed r → HasNoFeed r'
    → flat_map (λ p. p ++ 10 ∷ []) e ++ r ≡ flat_map (λ p. p ++ 10 ∷ []) e' ++ r' → (e ≡ e') × (r ≡ r')
same_pieces [] [] r r' h h' n n' q = (refl, q)
same_pieces [] (x ∷ e') r r' h h' n n' q =
    absurd (no_feed_none r x (flat_map (λ p. p ++ 10 ∷ []) e' ++ r') n (q ∙ simp append_assoc))
same_pieces (x ∷ e) [] r r' h h' n n' q =
    absurd (no_feed_none r' x (flat_map (λ p. p ++ 10 ∷ []) e ++ r) n' (sym q ∙ simp append_assoc))
same_pieces (x ∷ e) (y ∷ e') r r' h h' n n' q =
    let s : x ++ 10 ∷ (flat_map (λ p. p ++ 10 ∷ []) e ++ r) ≡ y ++ 10 ∷ (flat_map (λ p. p ++ 10 ∷ []) e' ++ r') = simp append_assoc at q in
    let f = first_feed x y _ _ (All-head HasNoFeed x e h) (All-head HasNoFeed y e' h') s in
    let t = same_pieces e e' r r' (All-tail HasNoFeed x e h) (All-tail HasNoFeed y e' h') n n' f.1 in
    (cc, t.1)

pub one_split : (text : List ℕ) (e e' : List (List ℕ)) (r r' : List ℕ) → EndsIn text e r → EndsIn text e' r' → (e ≡ e') × (r ≡ r')
one_split text e e' r r' a b = same_pieces e e' r r' a.each b.each a.last b.last (sym a.whole ∙ b.whole)
