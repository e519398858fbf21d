-- Writing in parts.
use Rattle.std.proofs.Common.{◌≡◌, ◌≤◌, ◌-◌, ◌^◌, decimal, true, ℕ, List, [], ◌∷◌, ◌++◌, Option, None, Some, Result, Ok, Err, refl, sym, ◌∙◌, ap, append_assoc, append-nil, take, drop, ◌+◌, ◌<◌, ◌/◌, ◌%◌, arith, length, get_or, add-one, drop-cons}
use Rattle.std.proofs.lemmas.List.{take-append-drop, length-take-le, take-take}
use Rattle.std.proofs.lemmas.Fmt.{IsAscii-decimal, decimal_digit, decimal_step}
use Rattle.std.proofs.Math.Seq.{take-append-add, take-append_seam}
use Rattle.std.specs.Result.{IsErr}
use Rattle.esx_types.specs.Ends.{write_failures}
use Rattle.std.proofs.lemmas.Grind.{common_steps}
use Rattle.std.specs.Io.KnownBytes.{Appends}
use Rattle.std.proofs.lemmas.Grind.{take_at_read, flat_map-append}
use Rattle.std.specs.List.{flat_map}
use Rattle.std.specs.Prelude.{slice_index, OnOk}
use Rattle.std.specs.Str.{IsUtf8}
use Rattle.std.proofs.lemmas.Str.{IsUtf8-append, IsUtf8-from_ascii}
use Rattle.hex.proofs.HexLemmas.{IsAscii-encode_with}
use Rattle.std.specs.Prelude.{nat_lt}
use Rattle.std.specs.Str.{IsAscii}
use Rattle.std.proofs.lemmas.List.Elements.{All-weaker}
use Rattle.std.proofs.lemmas.List.Sums.{AllPass-from_list_all}
use Rattle.std.proofs.lemmas.Str.Ascii.{IsAscii-from_all}
use borrow.Author.Tests.{ltb-true}
use Rattle.hex.specs.Hex.{encode_lower, encode_with, lower_digits}
use Rattle.esx_writing.specs.Writing.{Writes, WritesFront, Passes, Puts}

pub appends_nothing : (a : Option (List ℕ)) → Appends a a []
appends_nothing None = tt
appends_nothing (Some xs) = sym (append-nil xs)

pub appends_more : (a b c : Option (List ℕ)) (x y : List ℕ) → Appends a b x → Appends b c y → Appends a c (x ++ y)
appends_more None b c x y p q = tt
appends_more (Some xs) None c x y p q = absurd p
appends_more (Some xs) (Some ys) None x y p q = q
appends_more (Some xs) (Some ys) (Some zs) x y p q = q ∙ ap (λ v. v ++ y) p ∙ append_assoc xs x y

-- one more write of a loop that writes all the bytes
pub one_write_more : (a b c : Option (List ℕ)) (bytes front rest later : List ℕ) (n : ℕ) → later ≡ drop n rest
    → bytes ≡ front ++ rest → Appends a b front → Appends b c (take n rest)
    → (f : List ℕ) × (bytes ≡ f ++ later) × Appends a c f
one_write_more a b c bytes front rest later n l e p q = (
  front ++ take n rest,
  e ∙ ap (λ v. front ++ v) (sym (take-append-drop n rest) ∙ ap (λ v. take n rest ++ v) (sym l)) ∙ sym (append_assoc front (take n rest) later),
  appends_more a b c front (take n rest) p q,
)

pub took_some : {E : Type 0} (given n m k : ℕ) (r : Result ℕ E) → r ≡ Ok n → (n ≡ 0 → ⊥) → m ≡ k + write_failures given r → m ≡ k
took_some given n m k r is some e = let f = rw is at e in grind (arith, common_steps)

pub front_of_more : (a c : Option (List ℕ)) (x y : List ℕ) → WritesFront a c x → WritesFront a c (x ++ y)
front_of_more a c x y w = (w.0, w.1 ++ y, ap (λ v. v ++ y) w.2 ∙ append_assoc w.0 w.1 y, w.3)

pub puts_error : {T E : Type 0} (a c : Option (List ℕ)) (before held text : List ℕ) (r : Result T E) → IsErr r → WritesFront a c (before ++ text) × (held ≡ []) → Puts a before c held text r
puts_error a c before held text (Ok v) h w = absurd (cc)
puts_error a c before held text (Err e) h w = w

-- what was held was written, and then a text
pub puts_all : {T E : Type 0} (a b c : Option (List ℕ)) (before held text : List ℕ) (r : Result T E)
    → Appends a b before → held ≡ [] → Writes b c text r → Puts a before c held text r
puts_all a b c before held text (Ok v) p n w = (before ++ text, rw n (sym (append-nil (before ++ text))), appends_more a b c before text p w)
puts_all a b c before held text (Err e) p n w =
    ((before ++ w.0, w.1, ap (λ v. before ++ v) w.2 ∙ sym (append_assoc before w.0 w.1), appends_more a b c before w.0 p w.3), n)

pub passes_nothing : (a : Option (List ℕ)) (held : List ℕ) → Passes a held a held []
passes_nothing a held = ([], append-nil held, appends_nothing a)

pub passes_same : (a b : Option (List ℕ)) (h k x y : List ℕ) → y ≡ x → Passes a h b k x → Passes a h b k y
passes_same a b h k x y e p = rw e p

pub passes_more : (a b c : Option (List ℕ)) (h k l x y : List ℕ) → Passes a h b k x → Passes b k c l y → Passes a h c l (x ++ y)
passes_more a b c h k l x y p q = (
  p.0 ++ q.0,
  sym (append_assoc h x y) ∙ ap (λ v. v ++ y) p.1 ∙ append_assoc p.0 k y ∙ ap (λ v. p.0 ++ v) q.1 ∙ sym (append_assoc p.0 q.0 l),
  appends_more a b c p.0 q.0 p.2 q.2,
)

-- the parts before an error were passed on, and a front of what was held and the part was written
pub passes_stop : {held : List ℕ} (a b c : Option (List ℕ)) (h k text front part back : List ℕ)
    → text ≡ front ++ (part ++ back) → Passes a h b k front → WritesFront b c (k ++ part) × (held ≡ []) → WritesFront a c (h ++ text) × (held ≡ [])
passes_stop a b c h k text front part back e p w =
    let whole : h ++ text ≡ p.0 ++ ((k ++ part) ++ back) =
    ap (λ v. h ++ v) e ∙ sym (append_assoc h front (part ++ back)) ∙ ap (λ v. v ++ (part ++ back)) p.1 ∙ append_assoc p.0 k (part ++ back)
    ∙ ap (λ v. p.0 ++ v) (sym (append_assoc k part back)) in
    let more = front_of_more b c (k ++ part) back w.0 in
    ((p.0 ++ more.0, more.1, whole ∙ ap (λ v. p.0 ++ v) more.2 ∙ sym (append_assoc p.0 more.0 more.1), appends_more a b c p.0 more.0 p.2 more.3), w.1)

-- what was held at the end is written too
pub passes_end : (a b c : Option (List ℕ)) (held text : List ℕ) → Passes a [] b held text → Appends b c held → Appends a c text
passes_end a b c held text p w = rw p.1 (appends_more a b c p.0 held p.2 w)

pub passes_end_front : (a b c : Option (List ℕ)) (held text : List ℕ) → Passes a [] b held text → WritesFront b c held → WritesFront a c text
passes_end_front a b c held text p w =
    (p.0 ++ w.0, w.1, p.1 ∙ ap (λ v. p.0 ++ v) w.2 ∙ sym (append_assoc p.0 w.0 w.1), appends_more a b c p.0 w.0 p.2 w.3)

-- what a function that goes over a list element by element gives for the elements before, at and after a place
pub parts_at : {A B : Type 0} (f : List A → List B) → ((xs ys : List A) → f (xs ++ ys) ≡ f xs ++ f ys)
    → (xs : List A) (i : ℕ) (d : A) → i < length xs → f xs ≡ f (take i xs) ++ (f (get_or xs i d ∷ []) ++ f (drop (i + 1) xs))
parts_at f hom xs i d lt =
    let cut : xs ≡ take i xs ++ (get_or xs i d ∷ drop (i + 1) xs) = rw (add-one, ← drop-cons xs i d) (sym (take-append-drop i xs)) in
    ap f cut ∙ hom (take i xs) (get_or xs i d ∷ drop (i + 1) xs) ∙ ap (λ v. f (take i xs) ++ v) (hom (get_or xs i d ∷ []) (drop (i + 1) xs))

pub parts_more : {A B : Type 0} (f : List A → List B) → ((xs ys : List A) → f (xs ++ ys) ≡ f xs ++ f ys)
    → (xs : List A) (i : ℕ) (d : A) → i < length xs → f (take (i + 1) xs) ≡ f (take i xs) ++ f (get_or xs i d ∷ [])
parts_more f hom xs i d lt = ap f (take_at_read xs i d lt).1 ∙ hom (take i xs) (get_or xs i d ∷ [])

pub hex_of_parts : (xs ys : List ℕ) → encode_lower (xs ++ ys) ≡ encode_lower xs ++ encode_lower ys
unfolding encode_with
hex_of_parts [] ys = refl
hex_of_parts (x ∷ xs) ys = ap (λ v. slice_index lower_digits (x / 16) ∷ slice_index lower_digits (x % 16) ∷ v) (hex_of_parts xs ys)

pub hex_of_nothing : encode_lower [] ≡ []
unfolding encode_with
hex_of_nothing = refl

pub flat_parts_at : {A B : Type 0} (f : A → List B) (xs : List A) (i : ℕ) (d : A) → i < length xs
    → flat_map f xs ≡ flat_map f (take i xs) ++ (f (get_or xs i d) ++ flat_map f (drop (i + 1) xs))
flat_parts_at f xs i d lt = parts_at (flat_map f) (flat_map-append f) xs i d lt ∙ ap (λ v. flat_map f (take i xs) ++ (v ++ flat_map f (drop (i + 1) xs))) (append-nil (f (get_or xs i d)))

pub flat_parts_more : {A B : Type 0} (f : A → List B) (xs : List A) (i : ℕ) (d : A) → i < length xs
    → flat_map f (take (i + 1) xs) ≡ flat_map f (take i xs) ++ f (get_or xs i d)
flat_parts_more f xs i d lt = parts_more (flat_map f) (flat_map-append f) xs i d lt ∙ ap (λ v. flat_map f (take i xs) ++ v) (append-nil (f (get_or xs i d)))

pub ends_writing : {T E : Type 0} (a b c : Option (List ℕ)) (before held text : List ℕ) (r : Result T E)
    → before ≡ [] → Passes a before b held text → Writes b c held r → Writes a c text r
ends_writing a b c before held text (Ok v) n p w = passes_end a b c held text (rw n at p) w
ends_writing a b c before held text (Err e) n p w = passes_end_front a b c held text (rw n at p) w

ascii_digits : IsAscii lower_digits
ascii_digits = IsAscii-from_all lower_digits (All-weaker (λ b. nat_lt b 128 ≡ true) (λ b. b < 128) (λ b t. ltb-true b 128 t) lower_digits
    (AllPass-from_list_all (λ b. nat_lt b 128) lower_digits refl))

pub utf8_hex : (bytes : List ℕ) → IsUtf8 (encode_lower bytes)
utf8_hex bytes = IsUtf8-from_ascii (encode_lower bytes) (IsAscii-encode_with lower_digits bytes ascii_digits)

-- one more part of a text that is made part by part
pub utf8_more : (whole front part : List ℕ) → whole ≡ front ++ part → IsUtf8 front → IsUtf8 part → IsUtf8 whole
utf8_more whole front part e p q = rw e (IsUtf8-append front part p q)

-- two texts, one behind the other
pub first_failed : {T E : Type 0} (a c : Option (List ℕ)) (h held x z y : List ℕ) (r : Result T E) → IsErr r → x ≡ z
    → WritesFront a c (h ++ x) × (held ≡ []) → Puts a h c held (z ++ y) r
first_failed a c h held x z y r is e w = puts_error a c h held (z ++ y) r is
    (let m = front_of_more a c (h ++ x) y w.0 in ((m.0, m.1, ap (λ v. h ++ (v ++ y)) (sym e) ∙ sym (append_assoc h x y) ∙ m.2, m.3), w.1))

pub puts_after : {T E : Type 0} (a b c : Option (List ℕ)) (h k l x z y v : List ℕ) (r : Result T E) → x ≡ z → y ≡ v
    → Passes a h b k x → Puts b k c l y r → Puts a h c l (z ++ v) r
puts_after a b c h k l x z y v (Ok done) e f p q = passes_same a c h l (x ++ y) (z ++ v) (sym (λ i. e i ++ f i)) (passes_more a b c h k l x y p q)
puts_after a b c h k l x z y v (Err error) e f p q =
    passes_stop a b c h k (z ++ v) x y [] (sym (λ i. e i ++ f i) ∙ ap (λ w. x ++ w) (sym (append-nil y))) p q

pub utf8_both : (x z y v : List ℕ) → x ≡ z → y ≡ v → IsUtf8 x → IsUtf8 y → IsUtf8 (z ++ v)
utf8_both x z y v e f p q = rw (← e, ← f) (IsUtf8-append x y p q)

pub utf8_after : {T E : Type 0} (x y : List ℕ) (r : Result T E) → IsUtf8 x → OnOk r (IsUtf8 y) → OnOk r (IsUtf8 (x ++ y))
utf8_after x y (Ok v) p q = IsUtf8-append x y p q
utf8_after x y (Err e) p q = tt

pub utf8_at_success : {T E : Type 0} (x : List ℕ) (r : Result T E) → IsUtf8 x → OnOk r (IsUtf8 x)
utf8_at_success x (Ok v) p = p
utf8_at_success x (Err e) p = tt

-- an item of a list that is gone over
pub flat_item_at : {A B : Type 0} (f : A → List B) (xs : List A) (i : ℕ) (x : A) → i < length xs → x ≡ get_or xs i x
    → flat_map f xs ≡ flat_map f (take i xs) ++ (f x ++ flat_map f (drop (i + 1) xs))
flat_item_at f xs i x lt is = flat_parts_at f xs i x lt ∙ ap (λ y. flat_map f (take i xs) ++ (f y ++ flat_map f (drop (i + 1) xs))) (sym is)

pub flat_item_more : {A B : Type 0} (f : A → List B) (xs : List A) (i : ℕ) (x : A) → i < length xs → x ≡ get_or xs i x
    → flat_map f (take (i + 1) xs) ≡ flat_map f (take i xs) ++ f x
flat_item_more f xs i x lt is = flat_parts_more f xs i x lt ∙ ap (λ y. flat_map f (take i xs) ++ f y) (sym is)

pub writes_error : {T E : Type 0} (a c : Option (List ℕ)) (before text : List ℕ) (r : Result T E) → IsErr r → before ≡ []
    → WritesFront a c (before ++ text) → Writes a c text r
writes_error a c before text (Ok v) h n w = absurd (cc)
writes_error a c before text (Err e) h n w = rw n at w

-- a room whose held bytes have a number's digits behind them
pub digits_held : (d n post z r rest digits : List ℕ) (count start size : ℕ) → count ≤ length d → n ≡ take (start + 20 - start) (drop start r) → drop start r ≡ digits ++ rest
    → start + length digits ≡ 20 → count + 20 ≤ size → take (count + (20 - start)) (take size ((take count d ++ (n ++ post)) ++ z)) ≡ take count d ++ digits
digits_held d n post z r rest digits count start size within is of ends fits =
    let few : start + 20 - start ≡ length digits + start = omega (arith, ends) in
    let text : n ≡ digits ++ take start rest = is ∙ ap (λ k. take k (drop start r)) few ∙ ap (take (length digits + start)) of ∙ take-append-add digits rest start in
    let front = take count d in
    let back = take start rest ++ post in
    let all : (front ++ (n ++ post)) ++ z ≡ front ++ (digits ++ (back ++ z)) =
    ap (λ v. (front ++ (v ++ post)) ++ z) text ∙ ap (λ v. (front ++ v) ++ z) (append_assoc digits (take start rest) post)
    ∙ append_assoc front (digits ++ back) z ∙ ap (λ v. front ++ v) (append_assoc digits back z) in
    let at : count + (20 - start) ≡ length front + length digits = omega (arith, ends, length-take-le count d within) in
    take-take (count + (20 - start)) size ((front ++ (n ++ post)) ++ z) (omega (arith, fits))
    ∙ ap (take (count + (20 - start))) all ∙ ap (λ k. take k (front ++ (digits ++ (back ++ z)))) at
    ∙ take-append-add front (digits ++ (back ++ z)) (length digits) ∙ ap (λ v. front ++ v) (take-append_seam digits (back ++ z))

pub utf8_number : (n : ℕ) → n < 2 ^ 64 → IsUtf8 (decimal n)
utf8_number n small = IsUtf8-from_ascii (decimal n) (IsAscii-decimal n small)

-- a number's last digit behind those before it
pub last_digit : (before front bytes : List ℕ) (end after n : ℕ) → 10 ≤ n → n < 2 ^ 64 → after ≡ end + 1 → front ≡ before ++ decimal (n / 10)
    → take (end + 1) bytes ≡ front ++ decimal (n % 10) → take after bytes ≡ before ++ decimal n
last_digit before front bytes end after n long small one first last =
    ap (λ k. take k bytes) one ∙ last ∙ ap (λ v. front ++ v) (decimal_digit (n % 10) (omega arith)) ∙ ap (λ v. v ++ (48 + n % 10) ∷ []) first ∙ append_assoc before (decimal (n / 10)) ((48 + n % 10) ∷ [])
    ∙ ap (λ v. before ++ v) (sym (decimal_step n long small))
