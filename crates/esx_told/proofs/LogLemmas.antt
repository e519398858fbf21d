-- The facts of a log after one more line.
use Rattle.std.proofs.Common.{◌≡◌, ◌≤◌, ℕ, List, [], ◌∷◌, ◌++◌, length, drop, arith, sym, ap, refl, ◌∙◌, append-nil, length-append}
use Rattle.std.specs.List.{flat_map}
use Rattle.std.proofs.lemmas.Grind.{flat_map-append}
use Rattle.esx_events.specs.declared.call.Line.{Line}
use Rattle.esx_replies.specs.Replies.{reply_text}
use Rattle.esx_session.specs.Printing.{line_text}
use Rattle.esx_told.specs.declared.latest.Latest.{Latest}
use Rattle.esx_told.specs.declared.latest.Latest.TheVariants.{Nothing, Said, Told, Kept}
use Rattle.esx_told.specs.Told.{IsLatest, pending}
use Rattle.esx_told.proofs.LineLemmas.{count_le}

-- the last items of equal lists are equal
pub same_last : {A : Type 0} (xs ys : List A) (x y : A) → xs ++ x ∷ [] ≡ ys ++ y ∷ [] → x ≡ y
same_last [] [] x y e = cc
same_last [] (b ∷ []) x y e = absurd (cc)
same_last [] (b ∷ c ∷ ys) x y e = absurd (cc)
same_last (a ∷ []) [] x y e = absurd (cc)
same_last (a ∷ c ∷ xs) [] x y e = absurd (cc)
same_last (a ∷ xs) (b ∷ ys) x y e = same_last xs ys x y (cc)

pub text_more : (listed more : List Line) (text new : List ℕ) (line : Line) → more ≡ listed ++ line ∷ [] → text ≡ flat_map line_text listed
    → new ≡ text ++ line_text line → new ≡ flat_map line_text more
text_more listed more text new line is told e =
    e ∙ ap (λ v. v ++ line_text line) told ∙ ap (λ v. flat_map line_text listed ++ v) (sym (append-nil (line_text line)))
    ∙ sym (flat_map-append line_text listed (line ∷ [])) ∙ ap (flat_map line_text) (sym is)

pub told_last : (listed more : List Line) (text : List ℕ) (line : Line) (latest : Latest) → more ≡ listed ++ line ∷ [] → latest ≡ Told line → IsLatest more text latest
told_last listed more text line latest is e = rw e (λ before other same. ap (λ (l : Line). reply_text l.reply) (same_last listed before line other (sym is ∙ same)))

pub said_last : (listed more : List Line) (text : List ℕ) (line : Line) (at : ℕ) → more ≡ listed ++ line ∷ [] → at ≤ length text → drop at text ≡ reply_text line.reply
    → IsLatest more text (Said at)
said_last listed more text line at is within e =
    (within, λ before other same. e ∙ ap (λ (l : Line). reply_text l.reply) (same_last listed before line other (sym is ∙ same)))

-- there are no more lines than bytes
pub few_lines : (listed waiting : List Line) (text : List ℕ) (count : ℕ) → count ≡ length (listed ++ waiting) → waiting ≡ [] → text ≡ flat_map line_text listed → count ≤ length text
few_lines listed waiting text count is none told =
    rw (is, none, told) (omega (arith, count_le listed, length-append listed []))

-- where no line waits there are no more lines than bytes
pub few_told : (listed : List Line) (latest : Latest) (text : List ℕ) → pending latest ≡ [] → text ≡ flat_map line_text listed → length (listed ++ pending latest) ≤ length text
few_told listed latest text none told = few_lines listed (pending latest) text (length (listed ++ pending latest)) refl none told

pub none_waits : (latest : Latest) → ((line : Line) → latest ≡ Kept line → ⊥) → pending latest ≡ []
none_waits Nothing other = refl
none_waits (Said at) other = refl
none_waits (Told line) other = refl
none_waits (Kept line) other = absurd (other line refl)
