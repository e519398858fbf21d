-- What stands behind some calls of a session, and that it stands there in one way.
use Rattle.std.proofs.Common.{◌≡◌, ◌<◌, ◌≤◌, ℕ, List, Bool, true, false, [], ◌∷◌, ◌++◌, arith, refl, sym, ap, ◌∙◌, append_assoc, append-nil, decimal}
use Rattle.std.specs.List.{AllByRecursion}
use Rattle.std.specs.Prelude.{flat_map}
use Rattle.std.proofs.Math.Dec.{eqb}
use Rattle.std.specs.Str.{IsAscii}
use Rattle.std.proofs.lemmas.List.Elements.{recursion_from_All}
use Rattle.std.proofs.lemmas.Str.Ascii.{All-from_ascii}
use Rattle.esx_words.specs.Commands.{spelling}
use Rattle.esx_session.specs.declared.session.Entry.{Entry}
use Rattle.esx_types.specs.declared.version.Version.{Version}
use Rattle.esx_session.specs.Sessions.{quoted, entry_text, end_text, IsEnded, IsEntry, IsEntryOf}
use Rattle.esx_session.specs.Reading.{HasNoFeed, SpellsCall}
use Rattle.esx_session.proofs.QuoteLemmas.{Closes, AreAscii, NoQuote, same_reply}
use Rattle.esx_session.proofs.CallLemmas.{small_caller, one_spelled}
use Rattle.esx_session.proofs.FeedLemmas.{no_feed, call_line_stays, first_digit}

-- lines with no feed, each ended by one, begin one text only if they are the same
pub same_line : (x y a b : List ℕ) → HasNoFeed x → HasNoFeed y → x ++ 10 ∷ a ≡ y ++ 10 ∷ b → (x ≡ y) × (a ≡ b)
same_line [] [] a b p q e = (refl, cc)
same_line [] (d ∷ y) a b p q e = absurd (q.0 (cc))
same_line (c ∷ x) [] a b p q e = absurd (p.0 (cc))
same_line (c ∷ x) (d ∷ y) a b p q e =
    let more : x ++ 10 ∷ a ≡ y ++ 10 ∷ b = cc in
    let rest = same_line x y a b p.1 q.1 more in
    (cc, rest.1)

-- an ended text closes
closes_from : (fresh : Bool) (front : List ℕ) → Closes fresh (front ++ 10 ∷ [])
closes_from true [] = tt
closes_from false [] = tt
closes_from true (b ∷ front) = closes_from (eqb b 10) front
closes_from false (b ∷ front) = closes_from (eqb b 10) front

pub closes_ended : (text : List ℕ) → IsEnded text → Closes true text
closes_ended text is = rw is.1 (closes_from true is.0)

pub are_ascii : (text : List ℕ) → IsAscii text → AreAscii text
are_ascii text h = recursion_from_All (λ b. b < 128) text (All-from_ascii text h)

-- the line of a call
abbrev pub call_line : Entry → List ℕ
call_line e = decimal e.caller ++ 32 ∷ spelling e.call

pub call_line_feed : (e : Entry) → IsEntry e → HasNoFeed (call_line e)
call_line_feed e is = no_feed (call_line e) (call_line_stays e.caller e.call is.call)

pub call_text_is : (e : Entry) (more : List ℕ) → entry_text e ++ more ≡ call_line e ++ 10 ∷ (quoted e.reply ++ more)
call_text_is e more = simp append_assoc

-- a text whose first byte is no equals sign
no_quote_at : (b : ℕ) (text : List ℕ) → (b ≡ 61 → ⊥) → NoQuote (b ∷ text)
no_quote_at b text ne line later p q e = ne (cc)

pub no_quote_end : (count : ℕ) (more : List ℕ) → NoQuote (end_text count ++ more)
no_quote_end count more = no_quote_at 101 _ (λ e. omega (arith, e))

pub no_quote_none : NoQuote []
no_quote_none line later p q e = cc

-- the first byte of a call
pub first_of_call : (e : Entry) (more : List ℕ) → IsEntry e → (d : ℕ) × (ds : List ℕ) × (entry_text e ++ more ≡ d ∷ ds) × (48 ≤ d) × (d ≤ 57)
first_of_call e more is =
    let digit = first_digit e.caller (small_caller e.caller is.caller) in (
      digit.0,
      digit.1 ++ 32 ∷ (spelling e.call ++ 10 ∷ (quoted e.reply ++ more)),
      call_text_is e more ∙ append_assoc (decimal e.caller) (32 ∷ spelling e.call) (10 ∷ (quoted e.reply ++ more)) ∙ ap (λ t. t ++ 32 ∷ (spelling e.call ++ 10 ∷ (quoted e.reply ++ more))) digit.2,
      digit.3,
      digit.4,
    )

pub no_quote_call : (e : Entry) (more : List ℕ) → IsEntry e → NoQuote (entry_text e ++ more)
no_quote_call e more is =
    let first = first_of_call e more is in
    rw first.2 (no_quote_at first.0 first.1 (λ q. omega (arith, q, first.3, first.4)))

-- a call is not the end
pub no_end_call : (e : Entry) (more : List ℕ) (count : ℕ) (rest : List ℕ) → IsEntry e → entry_text e ++ more ≡ end_text count ++ rest → ⊥
no_end_call e more count rest is q =
    let first = first_of_call e more is in
    let same : first.0 ∷ first.1 ≡ end_text count ++ rest = sym first.2 ∙ q in
    let byte : first.0 ≡ 101 = cc in omega (arith, byte, first.3, first.4)

-- what stands behind calls of a session: no line of a reply, where there is a call
abbrev pub Settled : List Entry → List ℕ → Type 0
Settled [] text = Unit {0}
Settled (e ∷ entries) text = NoQuote text

abbrev pub body : List Entry → List ℕ
body = flat_map entry_text

pub settled : (entries : List Entry) (text : List ℕ) → NoQuote text → Settled entries text
settled [] text n = tt
settled (e ∷ entries) text n = n

module _ (version : Version) where
  pub spells_entry : (e : Entry) → IsEntryOf version e → SpellsCall version (call_line e) e.caller e.call
  spells_entry e is = record { known = is.known; range = is.entry.call; has = is.has; spelled = refl }

  -- two calls that begin one text, with their replies, are the same
  pub same_entry : (x y : Entry) (r s : List ℕ) → IsEntryOf version x → IsEntryOf version y → NoQuote r → NoQuote s → entry_text x ++ r ≡ entry_text y ++ s → (x ≡ y) × (r ≡ s)
  same_entry x y r s p q m n e =
      let lines = same_line (call_line x) (call_line y) (quoted x.reply ++ r) (quoted y.reply ++ s) (call_line_feed x p.entry) (call_line_feed y q.entry) (sym (call_text_is x r) ∙ e ∙ call_text_is y s) in
      let calls = one_spelled version (call_line x) x.caller y.caller x.call y.call (spells_entry x p) (rw lines.0 (spells_entry y q)) in
      let replies = same_reply x.reply y.reply r s (closes_ended x.reply p.entry.reply) (closes_ended y.reply q.entry.reply) (are_ascii x.reply p.entry.ascii) (are_ascii y.reply q.entry.ascii) m n lines.1 in
      let caller = calls.0 in
      let call = calls.1 in
      let reply = replies.0 in
      (λ i. record { caller = caller i; call = call i; reply = reply i }, replies.1)

  no_quote_body : (entries : List Entry) (text : List ℕ) → AllByRecursion (IsEntryOf version) entries → NoQuote text → NoQuote (body entries ++ text)
  no_quote_body [] text r n = n
  no_quote_body (e ∷ entries) text r n = rw (append_assoc (entry_text e) (body entries) text) (no_quote_call e (body entries ++ text) r.0.entry)

  -- A session whose calls begin with some, and what stands behind them.
  pub same_front : (entries all : List Entry) (count : ℕ) (text : List ℕ) → AllByRecursion (IsEntryOf version) entries → AllByRecursion (IsEntryOf version) all → Settled entries text
      → body all ++ end_text count ≡ body entries ++ text
      → (others : List Entry) × (all ≡ entries ++ others) × AllByRecursion (IsEntryOf version) others × (body others ++ end_text count ≡ text)
  same_front [] all count text p q n e = (all, refl, q, e)
  same_front (x ∷ entries) [] count text p q n e =
      absurd (no_end_call x (body entries ++ text) count [] p.0.entry (sym (append_assoc (entry_text x) (body entries) text) ∙ sym e ∙ sym (append-nil (end_text count))))
  same_front (x ∷ entries) (y ∷ all) count text p q n e =
      let whole : entry_text y ++ (body all ++ end_text count) ≡ entry_text x ++ (body entries ++ text) =
      sym (append_assoc (entry_text y) (body all) (end_text count)) ∙ e ∙ append_assoc (entry_text x) (body entries) text in
      let first = same_entry y x (body all ++ end_text count) (body entries ++ text) q.0 p.0
      (no_quote_body all (end_text count) q.1 (rw (sym (append-nil (end_text count))) (no_quote_end count []))) (no_quote_body entries text p.1 n) whole in
      let more = same_front entries all count text p.1 q.1 (settled entries text n) first.1 in
      (more.0, ap (λ t. t ∷ all) first.0 ∙ ap (λ t. x ∷ t) more.1, more.2, more.3)
