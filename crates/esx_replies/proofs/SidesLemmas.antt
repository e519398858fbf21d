-- Tried events, one behind the other.
use Rattle.std.proofs.Common.{◌≡◌, ℕ, List, [], ◌∷◌, ◌++◌, Result, Ok, Err, sym, ◌∙◌, ap, append_assoc, append-nil, take, drop, ◌+◌, ◌<◌, arith, length, get_or, add-one, drop-cons}
use Rattle.std.proofs.lemmas.List.{take-append-drop, length-take-le}
use Rattle.std.proofs.lemmas.Grind.{take_at_read}
use Rattle.esx_events.specs.declared.event.Answer.{Answer}
use Rattle.esx_events.specs.declared.event.Refusal.{Refusal}
use Rattle.esx_replies.specs.Replies.{accepted, tried_texts, numbered_text}

abbrev pub Tried : Type 0
Tried = Result Answer Refusal

accepted_both : (xs ys : List Tried) → accepted (xs ++ ys) ≡ accepted xs + accepted ys
accepted_both [] ys = omega arith
accepted_both (Ok a ∷ xs) ys = let e = accepted_both xs ys in omega (arith, e)
accepted_both (Err r ∷ xs) ys = accepted_both xs ys

pub accepted_more : (xs : List Tried) (i : ℕ) (x : Tried) → i < length xs → x ≡ get_or xs i x
    → accepted (take (i + 1) xs) ≡ accepted (take i xs) + accepted (x ∷ [])
accepted_more xs i x lt is =
    ap accepted (take_at_read xs i x lt).1 ∙ accepted_both (take i xs) (get_or xs i x ∷ []) ∙ ap (λ (y : Tried). accepted (take i xs) + accepted (y ∷ [])) (sym is)

one_later : (n : ℕ) (x : Tried) (xs : List Tried) → n + 1 + length xs ≡ n + length {A = Tried} (x ∷ xs)
one_later n x xs = omega arith

tried_both : (n : ℕ) (xs ys : List Tried) → tried_texts n (xs ++ ys) ≡ tried_texts n xs ++ tried_texts (n + length xs) ys
tried_both n [] ys = ap (λ k. tried_texts k ys) (omega arith)
tried_both n (x ∷ xs) ys =
    ap (λ v. numbered_text n x ++ v) (tried_both (n + 1) xs ys ∙ ap (λ (k : ℕ). tried_texts (n + 1) xs ++ tried_texts k ys) (one_later n x xs))
    ∙ sym (append_assoc (numbered_text n x) (tried_texts (n + 1) xs) (tried_texts (n + length {A = Tried} (x ∷ xs)) ys))

length_of_front : (xs : List Tried) (i : ℕ) → i < length xs → length (take i xs) ≡ i
length_of_front xs i lt = length-take-le i xs (omega (arith, lt))

pub tried_at : (n m : ℕ) (xs : List Tried) (i : ℕ) (x : Tried) → i < length xs → x ≡ get_or xs i x → m ≡ n + i
    → tried_texts n xs ≡ tried_texts n (take i xs) ++ (numbered_text m x ++ tried_texts (m + 1) (drop (i + 1) xs))
tried_at n m xs i x lt is at =
    let cut : xs ≡ take i xs ++ (get_or xs i x ∷ drop (i + 1) xs) = rw (add-one, ← drop-cons xs i x) (sym (take-append-drop i xs)) in
    ap (tried_texts n) cut ∙ tried_both n (take i xs) (get_or xs i x ∷ drop (i + 1) xs)
    ∙ ap (λ (k : ℕ). tried_texts n (take i xs) ++ tried_texts k (get_or xs i x ∷ drop (i + 1) xs)) (ap (λ (k : ℕ). n + k) (length_of_front xs i lt) ∙ sym at)
    ∙ ap (λ (y : Tried). tried_texts n (take i xs) ++ tried_texts m (y ∷ drop (i + 1) xs)) (sym is)

pub tried_more : (n m : ℕ) (xs : List Tried) (i : ℕ) (x : Tried) → i < length xs → x ≡ get_or xs i x → m ≡ n + i
    → tried_texts n (take (i + 1) xs) ≡ tried_texts n (take i xs) ++ numbered_text m x
tried_more n m xs i x lt is at =
    ap (tried_texts n) (take_at_read xs i x lt).1 ∙ tried_both n (take i xs) (get_or xs i x ∷ [])
    ∙ ap (λ (k : ℕ). tried_texts n (take i xs) ++ tried_texts k (get_or xs i x ∷ [])) (ap (λ (k : ℕ). n + k) (length_of_front xs i lt) ∙ sym at)
    ∙ ap (λ (y : Tried). tried_texts n (take i xs) ++ tried_texts m (y ∷ [])) (sym is)
    ∙ ap (λ v. tried_texts n (take i xs) ++ v) (append-nil (numbered_text m x))
