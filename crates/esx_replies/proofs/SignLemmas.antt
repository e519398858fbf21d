-- Lines behind signs, and where in a text another line begins.
use Rattle.std.proofs.Common.{◌≡◌, ℕ, Bool, true, false, List, [], ◌∷◌, ◌++◌, refl, sym, ◌∙◌, ap, append_assoc, ◌==◌, if◌then◌else◌}
use Rattle.std.specs.List.{flat_map}
use Rattle.esx_replies.specs.Signs.{signed_from, behind, begun}

abbrev pub is_some : List ℕ → Bool
is_some [] = false
is_some (b ∷ bs) = true

abbrev pub is_empty : List ℕ → Bool
is_empty [] = true
is_empty (b ∷ bs) = false

-- a line feed stands at the end, and no other
abbrev pub is_line : List ℕ → Bool
is_line [] = false
is_line (b ∷ bs) = if b == 10 then is_empty bs else is_line bs

pub line_some : (t : List ℕ) → is_line t ≡ true → is_some t ≡ true
line_some [] h = absurd (cc)
line_some (b ∷ bs) h = refl

-- the sign of the first line is put first
pub some_behind : (s t : List ℕ) → is_some t ≡ true → behind s t ≡ s ++ begun s t
some_behind s [] h = absurd (cc)
some_behind s (b ∷ bs) h = refl

empty_first : (s bs y : List ℕ) → is_empty bs ≡ true → behind s (bs ++ y) ≡ bs ++ behind s y
empty_first s [] y h = refl
empty_first s (c ∷ cs) y h = absurd (cc)

-- a line that has its sign, and what comes behind it
pub line_first : (s t y : List ℕ) → is_line t ≡ true → begun s (t ++ y) ≡ t ++ behind s y
line_first s [] y h = absurd (cc)
line_first s (b ∷ bs) y h =
    elim (b == 10) as (λ v. (if v then is_empty bs else is_line bs) ≡ true → b ∷ signed_from s v (bs ++ y) ≡ b ∷ (bs ++ behind s y)) [
      | true ↦ λ e. ap (λ v. b ∷ v) (empty_first s bs y e)
      | false ↦ λ e. ap (λ v. b ∷ v) (line_first s bs y e)
    ] h

empty_behind : (s bs : List ℕ) → is_empty bs ≡ true → behind s bs ≡ bs
empty_behind s [] h = refl
empty_behind s (c ∷ cs) h = absurd (cc)

pub line_begun : (s t : List ℕ) → is_line t ≡ true → begun s t ≡ t
line_begun s [] h = absurd (cc)
line_begun s (b ∷ bs) h =
    elim (b == 10) as (λ v. (if v then is_empty bs else is_line bs) ≡ true → b ∷ signed_from s v bs ≡ b ∷ bs) [
      | true ↦ λ e. ap (λ v. b ∷ v) (empty_behind s bs e)
      | false ↦ λ e. ap (λ v. b ∷ v) (line_begun s bs e)
    ] h

pub line_behind : (s t : List ℕ) → is_line t ≡ true → behind s t ≡ s ++ t
line_behind s t h = some_behind s t (line_some t h) ∙ ap (λ v. s ++ v) (line_begun s t h)

-- a text behind which a line begins
abbrev pub IsClosed : List ℕ → List ℕ → Type 0
IsClosed s x = (y : List ℕ) → behind s (x ++ y) ≡ behind s x ++ behind s y

ended_closed : (s : List ℕ) (fresh : Bool) (front y : List ℕ) → signed_from s fresh ((front ++ 10 ∷ []) ++ y) ≡ signed_from s fresh (front ++ 10 ∷ []) ++ behind s y
ended_closed s true [] y = sym (append_assoc s (10 ∷ []) (behind s y))
ended_closed s false [] y = refl
ended_closed s true (b ∷ bs) y =
    ap (λ v. s ++ b ∷ v) (ended_closed s (b == 10) bs y) ∙ sym (append_assoc s (b ∷ signed_from s (b == 10) (bs ++ 10 ∷ [])) (behind s y))
ended_closed s false (b ∷ bs) y = ap (λ v. b ∷ v) (ended_closed s (b == 10) bs y)

-- a text that ends in a line feed
pub feed_closed : (s x front : List ℕ) → x ≡ front ++ 10 ∷ [] → IsClosed s x
feed_closed s x front e y = rw e (ended_closed s true front y)

some_more : (t y : List ℕ) → is_some t ≡ true → is_some (t ++ y) ≡ true
some_more [] y h = absurd (cc)
some_more (b ∷ bs) y h = refl

pub line_closed : (s t : List ℕ) → is_line t ≡ true → IsClosed s t
line_closed s t h y =
    some_behind s (t ++ y) (some_more t y (line_some t h)) ∙ ap (λ v. s ++ v) (line_first s t y h) ∙ sym (append_assoc s t (behind s y))
    ∙ ap (λ v. v ++ behind s y) (sym (line_behind s t h))

pub both_closed : (s x z : List ℕ) → IsClosed s x → IsClosed s z → IsClosed s (x ++ z)
both_closed s x z p q y =
    ap (behind s) (append_assoc x z y) ∙ p (z ++ y) ∙ ap (λ v. behind s x ++ v) (q y) ∙ sym (append_assoc (behind s x) (behind s z) (behind s y))
    ∙ ap (λ v. v ++ behind s y) (sym (p z))

pub all_closed : {A : Type 0} (s : List ℕ) (f : A → List ℕ) → ((x : A) → IsClosed s (f x)) → (xs : List A) → IsClosed s (flat_map f xs)
all_closed s f each [] y = refl
all_closed s f each (x ∷ xs) y = both_closed s (f x) (flat_map f xs) (each x) (all_closed s f each xs) y

-- a text before, at and behind a place
pub behind_at : (s text a b c : List ℕ) → text ≡ a ++ (b ++ c) → IsClosed s a → IsClosed s b → behind s text ≡ behind s a ++ (behind s b ++ behind s c)
behind_at s text a b c e p q = ap (behind s) e ∙ p (b ++ c) ∙ ap (λ v. behind s a ++ v) (q c)

pub behind_more : (s text a b : List ℕ) → text ≡ a ++ b → IsClosed s a → behind s text ≡ behind s a ++ behind s b
behind_more s text a b e p = ap (behind s) e ∙ p b

-- with no sign a text is as it is
unsigned : (fresh : Bool) (t : List ℕ) → signed_from [] fresh t ≡ t
unsigned fresh [] = refl
unsigned true (b ∷ bs) = ap (λ v. b ∷ v) (unsigned (b == 10) bs)
unsigned false (b ∷ bs) = ap (λ v. b ∷ v) (unsigned (b == 10) bs)

pub behind_none : (t : List ℕ) → behind [] t ≡ t
behind_none t = unsigned true t
