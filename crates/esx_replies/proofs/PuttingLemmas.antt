-- What is put when lines behind signs are put one behind the other.
use Rattle.std.proofs.Common.{◌≡◌, true, ℕ, List, [], ◌++◌, Option, Result, refl}
use Rattle.std.specs.Prelude.{OnOk}
use Rattle.std.specs.Result.{IsErr}
use Rattle.std.specs.Str.{IsUtf8}
use Rattle.esx_writing.specs.Writing.{WritesFront, Passes, Puts}
use Rattle.esx_writing.proofs.WritingLemmas.{first_failed, puts_after, utf8_after}
use Rattle.esx_replies.specs.Signs.{behind, begun}
use Rattle.esx_replies.proofs.SignLemmas.{is_some, is_line, some_behind, line_behind, line_begun, line_first, IsClosed}

-- a sign, and what it stands before
pub sign_failed : {T E : Type 0} (s : List ℕ) (a c : Option (List ℕ)) (h held t : List ℕ) (r : Result T E) → IsErr r → is_some t ≡ true
    → WritesFront a c (h ++ s) × (held ≡ []) → Puts a h c held (behind s t) r
sign_failed s a c h held t r is some w = rw (some_behind s t some) (first_failed a c h held s s (begun s t) r is refl w)

pub signed : {T E : Type 0} (s : List ℕ) (a b c : Option (List ℕ)) (h k l t : List ℕ) (r : Result T E) → is_some t ≡ true
    → Passes a h b k s → Puts b k c l (begun s t) r → Puts a h c l (behind s t) r
signed s a b c h k l t r some p q = rw (some_behind s t some) (puts_after a b c h k l s s (begun s t) (begun s t) r refl refl p q)

pub signed_utf8 : {T E : Type 0} (s t : List ℕ) (r : Result T E) → is_some t ≡ true → IsUtf8 s → OnOk r (IsUtf8 (begun s t)) → OnOk r (IsUtf8 (behind s t))
signed_utf8 s t r some p q = rw (some_behind s t some) (utf8_after s (begun s t) r p q)

pub signed_line : {T E : Type 0} (s : List ℕ) (a b c : Option (List ℕ)) (h k l t : List ℕ) (r : Result T E) → is_line t ≡ true
    → Passes a h b k s → Puts b k c l t r → Puts a h c l (behind s t) r
signed_line s a b c h k l t r line p q = rw (line_behind s t line) (puts_after a b c h k l s s t t r refl refl p q)

pub signed_line_utf8 : {T E : Type 0} (s t : List ℕ) (r : Result T E) → is_line t ≡ true → IsUtf8 s → OnOk r (IsUtf8 t) → OnOk r (IsUtf8 (behind s t))
signed_line_utf8 s t r line p q = rw (line_behind s t line) (utf8_after s t r p q)

-- one line alone, which has its sign
pub alone : {T E : Type 0} (s : List ℕ) (a b : Option (List ℕ)) (h k t : List ℕ) (r : Result T E) → is_line t ≡ true → Puts a h b k t r → Puts a h b k (begun s t) r
alone s a b h k t r line p = rw (line_begun s t line) p

pub alone_utf8 : {T E : Type 0} (s t : List ℕ) (r : Result T E) → is_line t ≡ true → OnOk r (IsUtf8 t) → OnOk r (IsUtf8 (begun s t))
alone_utf8 s t r line p = rw (line_begun s t line) p

-- a first line, which has its sign, and what comes behind it
pub head_failed : {T E : Type 0} (s : List ℕ) (a c : Option (List ℕ)) (h held x y : List ℕ) (r : Result T E) → IsErr r → is_line x ≡ true
    → WritesFront a c (h ++ x) × (held ≡ []) → Puts a h c held (begun s (x ++ y)) r
head_failed s a c h held x y r is line w = rw (line_first s x y line) (first_failed a c h held x x (behind s y) r is refl w)

pub head_put : {T E : Type 0} (s : List ℕ) (a b c : Option (List ℕ)) (h k l x y : List ℕ) (r : Result T E) → is_line x ≡ true
    → Passes a h b k x → Puts b k c l (behind s y) r → Puts a h c l (begun s (x ++ y)) r
head_put s a b c h k l x y r line p q = rw (line_first s x y line) (puts_after a b c h k l x x (behind s y) (behind s y) r refl refl p q)

pub head_utf8 : {T E : Type 0} (s x y : List ℕ) (r : Result T E) → is_line x ≡ true → IsUtf8 x → OnOk r (IsUtf8 (behind s y)) → OnOk r (IsUtf8 (begun s (x ++ y)))
head_utf8 s x y r line p q = rw (line_first s x y line) (utf8_after x (behind s y) r p q)

-- two texts, one behind the other
pub both_failed : {T E : Type 0} (s : List ℕ) (a c : Option (List ℕ)) (h held x y : List ℕ) (r : Result T E) → IsErr r → IsClosed s x
    → WritesFront a c (h ++ behind s x) × (held ≡ []) → Puts a h c held (behind s (x ++ y)) r
both_failed s a c h held x y r is p w = rw (p y) (first_failed a c h held (behind s x) (behind s x) (behind s y) r is refl w)

pub both_put : {T E : Type 0} (s : List ℕ) (a b c : Option (List ℕ)) (h k l x y : List ℕ) (r : Result T E) → IsClosed s x
    → Passes a h b k (behind s x) → Puts b k c l (behind s y) r → Puts a h c l (behind s (x ++ y)) r
both_put s a b c h k l x y r e p q = rw (e y) (puts_after a b c h k l (behind s x) (behind s x) (behind s y) (behind s y) r refl refl p q)

pub both_utf8 : {T E : Type 0} (s x y : List ℕ) (r : Result T E) → IsClosed s x → IsUtf8 (behind s x) → OnOk r (IsUtf8 (behind s y)) → OnOk r (IsUtf8 (behind s (x ++ y)))
both_utf8 s x y r e p q = rw (e y) (utf8_after (behind s x) (behind s y) r p q)
