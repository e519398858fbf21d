-- A reply, line by line.
use Rattle.std.proofs.Common.{◌≡◌, ◌<◌, ◌+◌, ℕ, List, Bool, true, false, [], ◌∷◌, ◌++◌, length, arith, refl, sym, ap, ◌∙◌, append_assoc, append-nil, length-append}
use Rattle.std.specs.Str.{IsAscii}
use Rattle.std.proofs.Math.Dec.{eqb}
use Rattle.std.proofs.lemmas.Str.{IsAscii-append}
use Rattle.std.proofs.lemmas.Str.Ascii.{IsAscii-from_all}
use Rattle.std.proofs.lemmas.List.Elements.{All-from_recursion}
use Rattle.std.proofs.lemmas.Grind.{flat_map-append}
use Rattle.std.proofs.Common.{lit<}
use Rattle.esx_session.specs.Sessions.{ended, quoted_from, quoted, IsEnded}
use Rattle.esx_session.specs.Reading.{Place, HasNoFeed, Quotes, LeavesReply, TakesReply}
use Rattle.esx_session.proofs.QuoteLemmas.{Closes}
use Rattle.std.proofs.lemmas.Bool.Decides.{Decides-eqb, not_from_Decides}
use Rattle.esx_reading.proofs.FieldLemmas.{no_match}
use Rattle.esx_session.proofs.FrontLemmas.{closes_ended}

-- a reply as far as it was read
pub record IsRead (old new : Place) (reply : List ℕ) : Type 0 where
  pub taken : List (List ℕ)
  pub left : old.left ≡ taken ++ new.left
  pub passed : new.passed ≡ old.passed + length taken
  pub text : ended taken ≡ quoted reply
  pub closes : Closes true reply
  pub ascii : IsAscii reply

quoted_both : (fresh : Bool) (a b : List ℕ) → Closes fresh a → quoted_from fresh (a ++ b) ≡ quoted_from fresh a ++ quoted_from true b
quoted_both true [] b h = refl
quoted_both false [] b h = absurd h
quoted_both true (x ∷ a) b h = ap (λ t. 61 ∷ 32 ∷ x ∷ t) (quoted_both (eqb x 10) a b h)
quoted_both false (x ∷ a) b h = ap (λ t. x ∷ t) (quoted_both (eqb x 10) a b h)

closes_both : (fresh : Bool) (a b : List ℕ) → Closes fresh a → Closes true b → Closes fresh (a ++ b)
closes_both true [] b h k = k
closes_both false [] b h k = absurd h
closes_both true (x ∷ a) b h k = closes_both (eqb x 10) a b h k
closes_both false (x ∷ a) b h k = closes_both (eqb x 10) a b h k

within_line : (text : List ℕ) → HasNoFeed text → quoted_from false (text ++ 10 ∷ []) ≡ text ++ 10 ∷ []
within_line [] h = refl
within_line (b ∷ text) h = ap (λ t. b ∷ quoted_from t (text ++ 10 ∷ [])) (no_match b 10 h.0) ∙ ap (λ t. b ∷ t) (within_line text h.1)

pub quoted_line : (text : List ℕ) → HasNoFeed text → quoted (text ++ 10 ∷ []) ≡ 61 ∷ 32 ∷ (text ++ 10 ∷ [])
quoted_line [] h = refl
quoted_line (b ∷ text) h = ap (λ t. 61 ∷ 32 ∷ b ∷ quoted_from t (text ++ 10 ∷ [])) (no_match b 10 h.0) ∙ ap (λ t. 61 ∷ 32 ∷ b ∷ t) (within_line text h.1)

pub ended_more : (taken : List (List ℕ)) (line : List ℕ) → ended (taken ++ line ∷ []) ≡ ended taken ++ (line ++ 10 ∷ [])
ended_more taken line = flat_map-append (λ (l : List ℕ). l ++ 10 ∷ []) taken (line ∷ []) ∙ ap (λ t. ended taken ++ t) (append-nil (line ++ 10 ∷ []))

pub one_feed : IsAscii (10 ∷ [])
one_feed = IsAscii-from_all (10 ∷ []) (All-from_recursion (λ b. b < 128) (10 ∷ []) (lit< tt, tt))

no_feed_behind : (text : List ℕ) → HasNoFeed (61 ∷ 32 ∷ text) → HasNoFeed text
no_feed_behind text h = h.1.1

pub read_more : (old new next : Place) (reply line text : List ℕ) → IsRead old new reply → new.left ≡ line ∷ next.left → next.passed ≡ new.passed + 1
    → Quotes line text → HasNoFeed line → IsRead old next (reply ++ (text ++ 10 ∷ []))
read_more old new next reply line text is left passed quotes feed =
    let plain = no_feed_behind text (rw quotes.quoted at feed) in
    record {
      taken = is.taken ++ line ∷ [];
      left = is.left ∙ ap (λ t. is.taken ++ t) left ∙ sym (append_assoc is.taken (line ∷ []) next.left);
      passed = omega (arith, passed, is.passed, length-append is.taken (line ∷ []));
      text = ended_more is.taken line ∙ ap (λ t. t ++ (line ++ 10 ∷ [])) is.text ∙ ap (λ t. quoted reply ++ (t ++ 10 ∷ [])) quotes.quoted
          ∙ ap (λ t. quoted reply ++ t) (sym (quoted_line text plain)) ∙ sym (quoted_both true reply (text ++ 10 ∷ []) is.closes);
      closes = closes_both true reply (text ++ 10 ∷ []) is.closes (closes_ended (text ++ 10 ∷ []) (text, refl));
      ascii = IsAscii-append reply (text ++ 10 ∷ []) is.ascii (IsAscii-append text (10 ∷ []) quotes.ascii one_feed);
    }

last_byte : (b : ℕ) (t : Bool) → eqb b 10 ≡ t → Closes t [] → IsEnded (b ∷ [])
last_byte b true e h = let is : b ≡ 10 = grind (arith, Decides-eqb b 10) in ([], ap (λ x. x ∷ []) is)
last_byte b false e h = absurd h

is_ended : (fresh : Bool) (b : ℕ) (a : List ℕ) → Closes fresh (b ∷ a) → IsEnded (b ∷ a)
is_ended true b [] h = last_byte b (eqb b 10) refl h
is_ended false b [] h = last_byte b (eqb b 10) refl h
is_ended true b (c ∷ a) h = let more = is_ended (eqb b 10) c a h in (b ∷ more.0, ap (λ t. b ∷ t) more.1)
is_ended false b (c ∷ a) h = let more = is_ended (eqb b 10) c a h in (b ∷ more.0, ap (λ t. b ∷ t) more.1)

some_ended : (reply : List ℕ) → Closes true reply → (length reply ≡ 0 → ⊥) → IsEnded reply
some_ended [] h some = absurd (some refl)
some_ended (b ∷ a) h some = is_ended true b a h

pub takes_reply : (old new : Place) (reply : List ℕ) → IsRead old new reply → (length reply ≡ 0 → ⊥) → LeavesReply new.left → TakesReply old new reply
takes_reply old new reply is some next = record {
  taken = is.taken;
  left = is.left;
  passed = is.passed;
  text = is.text;
  some = some_ended reply is.closes some;
  ascii = is.ascii;
  next = next;
}

pub no_lines : (old new : Place) (taken : List (List ℕ)) → ended taken ≡ [] → old.left ≡ taken ++ new.left → new.passed ≡ old.passed + length taken
    → (new.passed ≡ old.passed) × (old.left ≡ new.left)
no_lines old new [] e left passed = (omega (arith, passed), left)
no_lines old new ([] ∷ taken) e left passed = absurd (cc)
no_lines old new ((b ∷ line) ∷ taken) e left passed = absurd (cc)

-- an empty reply has no line
pub none_taken : (old new : Place) → IsRead old new [] → (new.passed ≡ old.passed) × (old.left ≡ new.left)
none_taken old new is = no_lines old new is.taken is.text is.left is.passed

-- no line was there
pub lacks_reply : (old now new : Place) (reply : List ℕ) (n passed : ℕ) → n ≡ length reply → true ≡ eqb n 0 → IsRead old now reply → new ≡ now → LeavesReply now.left
    → passed ≡ new.passed → (passed + 1 ≡ old.passed + 1) × LeavesReply old.left
lacks_reply old now new [] n passed len zero is same next at =
    let none = none_taken old now is in
    let there = ap (λ (p : Place). p.passed) same in
    (omega (arith, none.0, there, at), rw none.1 next)
lacks_reply old now new (b ∷ reply) n passed len zero is same next at = absurd (let some : n ≡ 0 = grind (arith, Decides-eqb n 0) in omega (arith, len, some))

pub not_empty : (reply : List ℕ) (n : ℕ) → n ≡ length reply → false ≡ eqb n 0 → length reply ≡ 0 → ⊥
not_empty reply n len some zero = not_from_Decides _ (Decides-eqb n 0) (sym some) (len ∙ zero)
