-- The calls of a session as far as they were read, and what stops them.
use Rattle.std.proofs.Common.{◌≡◌, ◌<◌, ◌+◌, ℕ, List, Bool, true, false, Result, Err, [], ◌∷◌, ◌++◌, length, arith, refl, sym, ap, ◌∙◌, append_assoc, append-nil, length-append, decimal, codes}
use Rattle.std.specs.List.{AllByRecursion}
use Rattle.std.proofs.lemmas.Grind.{flat_map-append}
use Rattle.std.proofs.lemmas.Str.Ascii.{IsAscii-from_all}
use Rattle.std.proofs.lemmas.List.Elements.{All-from_recursion}
use Rattle.std.proofs.Common.{◌↔◌, inl, inr}
use Rattle.std.specs.Prelude.{IsTrue}
use Rattle.esx_reading.specs.declared.fault.TextFault.{TextFault}
use Rattle.esx_reading.specs.declared.fault.TextFault.TheVariants.{NotToml, BadKey, BadLine, NotText, Differs, Read, Write, OutOfMemory}
use Rattle.esx_events.specs.declared.call.Call.{Call}
use Rattle.esx_words.specs.Commands.{spelling}
use Rattle.esx_session.specs.declared.session.Entry.{Entry}
use Rattle.esx_types.specs.declared.version.Version.{Version}
use Rattle.esx_session.specs.Sessions.{ended, quoted, call_text, entry_text, end_text, IsEntryOf, IsEnded}
use Rattle.esx_session.specs.Reading.{Place, HasNoFeed, QuotesNone, LeavesReply, SpellsCall, SpellsNoCall, TakesEntry, LacksEntry, LacksCalls, TellsCalls, BeginsCalls, IsStuck, StopsCalls, SettledLines, AreRead, IsNextLine}
use Rattle.esx_session.proofs.QuoteLemmas.{Closes, AreAscii, NoQuote, begins_quote}
use Rattle.esx_session.proofs.CallLemmas.{known_caller, small_known}
use Rattle.esx_session.proofs.FeedLemmas.{AllStay, call_stays, both_stay, decimal_stays, known_stay, no_feed, first_digit}
use Rattle.esx_session.proofs.ReplyLemmas.{ended_more, one_feed}
use Rattle.esx_session.proofs.EntryLemmas.{call_line_text}
use Rattle.esx_session.proofs.FrontLemmas.{same_line, closes_ended, are_ascii, call_line, spells_entry, call_line_feed, call_text_is, first_of_call, no_end_call, no_quote_none, Settled, settled, body, same_front}

settled_more : (entries : List Entry) (e : Entry) (left : List (List ℕ)) → LeavesReply left → SettledLines (entries ++ e ∷ []) left
settled_more [] e left h = h
settled_more (x ∷ entries) e left h = h

body_more : (entries : List Entry) (e : Entry) → body (entries ++ e ∷ []) ≡ body entries ++ entry_text e
body_more entries e = flat_map-append entry_text entries (e ∷ []) ∙ ap (λ t. body entries ++ t) (append-nil (entry_text e))

pub ended_both : (xs ys : List (List ℕ)) → ended (xs ++ ys) ≡ ended xs ++ ended ys
ended_both xs ys = flat_map-append (λ (l : List ℕ). l ++ 10 ∷ []) xs ys

-- lines, one line, and later ones
ended_at : (taken : List (List ℕ)) (line : List ℕ) (later : List (List ℕ)) → ended ((taken ++ line ∷ []) ++ later) ≡ ended taken ++ (line ++ 10 ∷ ended later)
ended_at taken line later =
    ended_both (taken ++ line ∷ []) later ∙ ap (λ t. t ++ ended later) (ended_more taken line) ∙ append_assoc (ended taken) (line ++ 10 ∷ []) (ended later)
    ∙ ap (λ t. ended taken ++ t) (append_assoc line (10 ∷ []) (ended later))

abbrev pub end_line : ℕ → List ℕ
end_line count = codes "end " ++ decimal count

pub end_stays : (count : ℕ) → AllStay (end_line count)
end_stays count = both_stay (codes "end ") (decimal count) (known_stay (codes "end ") refl) (decimal_stays count)

-- the line behind some calls begins no reply
no_quote_line : (line : List ℕ) (text : List ℕ) → HasNoFeed line → QuotesNone line → NoQuote (line ++ 10 ∷ text)
no_quote_line line text feed none quote later plain ascii e =
    let same = same_line line (61 ∷ 32 ∷ quote) text later feed ((λ z. omega (arith, z)), ((λ z. omega (arith, z)), plain)) e in
    none quote (record { ascii = IsAscii-from_all quote (All-from_recursion (λ b. b < 128) quote ascii); quoted = same.0 })

pub settled_line : (entries : List Entry) (line : List ℕ) (left : List (List ℕ)) (text : List ℕ) → SettledLines entries (line ∷ left) → Settled entries (line ++ 10 ∷ text)
settled_line [] line left text h = tt
settled_line (e ∷ entries) line left text h = no_quote_line line text h.0 h.1

settled_none : (entries : List Entry) → Settled entries []
settled_none entries = settled entries [] no_quote_none

-- behind the line of a call stands a line of its reply
no_reply_behind : (reply more text : List ℕ) → Closes true reply → AreAscii reply → (length reply ≡ 0 → ⊥) → NoQuote text → quoted reply ++ more ≡ text → ⊥
no_reply_behind [] more text closes ascii some none e = some refl
no_reply_behind (b ∷ reply) more text closes ascii some none e = begins_quote b reply more closes ascii (rw e none)

some_reply : (text : List ℕ) → IsEnded text → length text ≡ 0 → ⊥
some_reply text is e = omega (arith, ap length is.1, length-append is.0 (10 ∷ []), e)

-- nothing stands behind the end
end_and_more : (count number : ℕ) (line text : List ℕ) → count ≡ number → end_text count ≡ end_line number ++ 10 ∷ (line ++ 10 ∷ text) → ⊥
end_and_more count number line text same e =
    let lengths = ap length e in
    let same_length = ap (λ n. length (end_text n)) same in
    omega (arith, lengths, same_length, length-append (end_line number) (10 ∷ (line ++ 10 ∷ text)), length-append (end_line number) (10 ∷ []), length-append line (10 ∷ text))

-- a line that is not the end of so many calls
pub not_end : (line : List ℕ) (t : Bool) (count number : ℕ) → count ≡ number → IsTrue t ↔ (line ≡ end_line count) → t ≡ false → line ≡ end_line number → ⊥
not_end line t count number same is other e = let yes : t ≡ true = is.1 (e ∙ ap end_line (sym same)) in cc

-- a bad line has one number
one_number : {T : Type 0} (r : Result T TextFault) (m n : ℕ) → r ≡ Err (BadLine m) → r ≡ Err (BadLine n) → m ≡ n
one_number r m n e f = cc

pub first_is_next : {T : Type 0} (r : Result T TextFault) (old : Place) (passed line : ℕ) → passed ≡ old.passed
    → r ≡ Err (BadLine (passed + 1)) → r ≡ Err (BadLine line) → IsNextLine line old
first_is_next r old passed line at e f = let same = one_number r (passed + 1) line e f in (omega (arith, at, same), omega (arith, at, same))

pub second_is_next : {T : Type 0} (r : Result T TextFault) (old next new : Place) (passed line : ℕ) → next.passed ≡ old.passed + 1 → new.passed ≡ next.passed + 1 → passed ≡ new.passed
    → r ≡ Err (BadLine passed) → r ≡ Err (BadLine line) → IsNextLine line old
second_is_next r old next new passed line first second at e f =
    let same = one_number r passed line e f in (omega (arith, first, second, at, same), omega (arith, first, second, at, same))

module _ (version : Version) where
  both_entries : (xs ys : List Entry) → AllByRecursion (IsEntryOf version) xs → AllByRecursion (IsEntryOf version) ys → AllByRecursion (IsEntryOf version) (xs ++ ys)
  both_entries [] ys p q = q
  both_entries (x ∷ xs) ys p q = (p.0, both_entries xs ys p.1 q)

  pub one_more : (old now next new : Place) (entries : List Entry) (line : List ℕ) (e : Entry) → AreRead version old now entries → now.left ≡ line ∷ next.left
      → next.passed ≡ now.passed + 1 → TakesEntry version line next new e → AreRead version old new (entries ++ e ∷ [])
  one_more old now next new entries line e is left passed takes = record {
    taken = is.taken ++ line ∷ takes.taken;
    left = is.left ∙ ap (λ t. is.taken ++ t) (left ∙ ap (λ t. line ∷ t) takes.left) ∙ sym (append_assoc is.taken (line ∷ takes.taken) new.left);
    passed = omega (arith, passed, is.passed, takes.passed, length-append is.taken (line ∷ takes.taken));
    text = ended_both is.taken (line ∷ takes.taken) ∙ ap (λ t. t ++ ended (line ∷ takes.taken)) is.text ∙ ap (λ t. body entries ++ t) takes.text ∙ sym (body_more entries e);
    range = both_entries entries (e ∷ []) is.range (takes.range, tt);
    next = settled_more entries e new.left takes.next;
  }

  -- calls whose end is still to come
  begins_calls : (taken : List (List ℕ)) (entries : List Entry) → AllByRecursion (IsEntryOf version) entries → ended taken ≡ body entries → BeginsCalls version taken
  begins_calls taken entries range text = (
    end_line (length entries) ∷ [],
    entries,
    record { range = range; same = ended_more taken (end_line (length entries)) ∙ ap (λ t. t ++ end_text (length entries)) text },
  )

  nothing_ends : (count : ℕ) (others : List Entry) → AllByRecursion (IsEntryOf version) others → body others ++ end_text count ≡ [] → ⊥
  nothing_ends count [] p e = cc
  nothing_ends count (y ∷ others) p e =
      let first = first_of_call y (body others ++ end_text count) p.0.entry in
      let none : first.0 ∷ first.1 ≡ [] = sym first.2 ∙ sym (append_assoc (entry_text y) (body others) (end_text count)) ∙ e in cc

  -- the lines end before the end of the session
  pub ends_early : (old now : Place) (entries : List Entry) → AreRead version old now entries → now.left ≡ [] → (m : ℕ) × (now.passed + 1 ≡ old.passed + m + 1) × StopsCalls version m old.left
  ends_early old now entries is none = (
    length is.taken,
    omega (arith, is.passed),
    record {
      front = is.taken;
      others = [];
      whole = is.left ∙ ap (λ t. is.taken ++ t) none;
      count = refl;
      begins = begins_calls is.taken entries is.range is.text;
      stuck = λ es tells.
          let front = same_front version entries es (length es) [] is.range tells.range (settled_none entries) (sym tells.same ∙ is.text ∙ sym (append-nil (body entries))) in
          nothing_ends (length es) front.0 front.2 front.3;
    },
  )

  -- what a session that goes on with a line has behind the calls so far
  goes_on : (taken : List (List ℕ)) (line : List ℕ) (entries : List Entry) (later : List (List ℕ)) (es : List Entry) → ended taken ≡ body entries
      → TellsCalls version ((taken ++ line ∷ []) ++ later) es → body es ++ end_text (length es) ≡ body entries ++ (line ++ 10 ∷ ended later)
  goes_on taken line entries later es text tells = sym tells.same ∙ ended_at taken line later ∙ ap (λ t. t ++ (line ++ 10 ∷ ended later)) text

  -- a line that is no call and not the end
  no_other : (entries others es : List Entry) (line text : List ℕ) → es ≡ entries ++ others → AllByRecursion (IsEntryOf version) others → HasNoFeed line
      → (line ≡ end_line (length entries) → ⊥) → SpellsNoCall version line → body others ++ end_text (length es) ≡ line ++ 10 ∷ text → ⊥
  no_other entries [] es line text whole p feed end none e =
      let same : es ≡ entries = whole ∙ append-nil entries in
      let there : end_line (length entries) ++ 10 ∷ [] ≡ line ++ 10 ∷ text = ap (λ (t : List Entry). end_text (length t)) (sym same) ∙ e in
      end (sym (same_line (end_line (length entries)) line [] text (no_feed (end_line (length entries)) (end_stays (length entries))) feed there).0)
  no_other entries (y ∷ others) es line text whole p feed end none e =
      let there = sym (call_text_is y (body others ++ end_text (length es))) ∙ sym (append_assoc (entry_text y) (body others) (end_text (length es))) ∙ e in
      let same = same_line (call_line y) line _ text (call_line_feed y p.0.entry) feed there in
      none y.caller y.call (rw same.0 at (spells_entry version y p.0))

  pub bad_line : (old now new : Place) (entries : List Entry) (line : List ℕ) → AreRead version old now entries → now.left ≡ line ∷ new.left → new.passed ≡ now.passed + 1 → HasNoFeed line
      → (line ≡ end_line (length entries) → ⊥) → SpellsNoCall version line → (m : ℕ) × (new.passed ≡ old.passed + m + 1) × StopsCalls version m old.left
  bad_line old now new entries line is left passed feed end none = (
    length is.taken,
    omega (arith, is.passed, passed),
    record {
      front = is.taken;
      others = line ∷ new.left;
      whole = is.left ∙ ap (λ t. is.taken ++ t) left;
      count = refl;
      begins = begins_calls is.taken entries is.range is.text;
      stuck = λ goes.
          let here = goes_on is.taken line entries goes.0 goes.1 is.text goes.2 in
          let front = same_front version entries goes.1 (length goes.1) (line ++ 10 ∷ ended goes.0) is.range goes.2.range
          (settled_line entries line new.left (ended goes.0) (rw left at is.next)) here in
          no_other entries front.0 goes.1 line (ended goes.0) front.1 front.2 feed end none front.3;
    },
  )

  -- a call whose reply is still to come
  begins_call : (taken : List (List ℕ)) (entries : List Entry) (line : List ℕ) (caller : ℕ) (call : Call) → AllByRecursion (IsEntryOf version) entries → ended taken ≡ body entries
      → SpellsCall version line caller call → BeginsCalls version (taken ++ line ∷ [])
  begins_call taken entries line caller call range text is =
      let e : Entry = record { caller = caller; call = call; reply = 10 ∷ [] } in
      let good : IsEntryOf version e = record {
        entry = record { caller = known_caller version caller is.known; call = is.range; reply = ([], refl); ascii = one_feed };
        known = is.known;
        has = is.has;
      } in
      let last = end_line (length (entries ++ e ∷ [])) in (
        (61 ∷ 32 ∷ []) ∷ last ∷ [],
        entries ++ e ∷ [],
        record {
          range = both_entries entries (e ∷ []) range (good, tt);
          same = ended_at taken line ((61 ∷ 32 ∷ []) ∷ last ∷ []) ∙ ap (λ t. t ++ (line ++ 10 ∷ (61 ∷ 32 ∷ 10 ∷ ((last ++ 10 ∷ []) ++ [])))) text
              ∙ ap (λ t. body entries ++ t) (sym (append_assoc line (10 ∷ []) (61 ∷ 32 ∷ 10 ∷ ((last ++ 10 ∷ []) ++ []))) ∙ call_line_text version line caller call (61 ∷ 32 ∷ 10 ∷ ((last ++ 10 ∷ []) ++ [])) is)
              ∙ ap (λ t. body entries ++ (call_text e ++ (61 ∷ 32 ∷ 10 ∷ t))) (append-nil (last ++ 10 ∷ []))
              ∙ ap (λ t. body entries ++ t) (sym (append_assoc (call_text e) (quoted (10 ∷ [])) (end_text (length (entries ++ e ∷ [])))))
              ∙ sym (append_assoc (body entries) (entry_text e) (end_text (length (entries ++ e ∷ []))))
              ∙ ap (λ t. t ++ end_text (length (entries ++ e ∷ []))) (sym (body_more entries e));
        },
      )

  call_is_no_end : (line : List ℕ) (caller : ℕ) (call : Call) (count : ℕ) (text : List ℕ) → SpellsCall version line caller call → end_text count ≡ line ++ 10 ∷ text → ⊥
  call_is_no_end line caller call count text is e =
      let digit = first_digit caller (small_known version caller is.known) in
      let whole : end_text count ≡ digit.0 ∷ (digit.1 ++ 32 ∷ (spelling call ++ 10 ∷ text)) =
      e ∙ ap (λ t. t ++ 10 ∷ text) is.spelled ∙ append_assoc (decimal caller) (32 ∷ spelling call) (10 ∷ text) ∙ ap (λ t. t ++ 32 ∷ (spelling call ++ 10 ∷ text)) digit.2 in
      let byte : digit.0 ≡ 101 = cc in omega (arith, byte, digit.3, digit.4)

  -- a session goes on from the line of a call with a line of its reply
  lacks_reply : (others : List Entry) (line : List ℕ) (caller : ℕ) (call : Call) (count : ℕ) (text : List ℕ) → AllByRecursion (IsEntryOf version) others → SpellsCall version line caller call → NoQuote text
      → body others ++ end_text count ≡ line ++ 10 ∷ text → ⊥
  lacks_reply [] line caller call count text p is none e = call_is_no_end line caller call count text is e
  lacks_reply (y ∷ others) line caller call count text p is none e =
      let there = sym (call_text_is y (body others ++ end_text count)) ∙ sym (append_assoc (entry_text y) (body others) (end_text count)) ∙ e in
      let same = same_line (call_line y) line (quoted y.reply ++ (body others ++ end_text count)) text (call_line_feed y p.0.entry) (no_feed line (call_stays version line caller call is)) there in
      no_reply_behind y.reply (body others ++ end_text count) text (closes_ended y.reply p.0.entry.reply) (are_ascii y.reply p.0.entry.ascii) (some_reply y.reply p.0.entry.reply) none same.1

  -- the session has its call, and no reply
  stuck_call : (taken : List (List ℕ)) (entries : List Entry) (line : List ℕ) (caller : ℕ) (call : Call) (left : List (List ℕ)) → AllByRecursion (IsEntryOf version) entries → ended taken ≡ body entries
      → ((text : List ℕ) → Settled entries (line ++ 10 ∷ text)) → SpellsCall version line caller call → LeavesReply left → IsStuck version (taken ++ line ∷ []) left
  stuck_call taken entries line caller call [] range text settled is next = λ es tells.
      let whole : TellsCalls version ((taken ++ line ∷ []) ++ []) es = rw (append-nil (taken ++ line ∷ [])) tells in
      let front = same_front version entries es (length es) (line ++ 10 ∷ []) range tells.range (settled []) (goes_on taken line entries [] es text whole) in
      lacks_reply front.0 line caller call (length es) [] front.2 is no_quote_none front.3
  stuck_call taken entries line caller call (other ∷ left) range text settled is next = λ goes.
      let whole : TellsCalls version ((taken ++ line ∷ []) ++ (other ∷ goes.0)) goes.1 = rw (sym (append_assoc (taken ++ line ∷ []) (other ∷ []) goes.0)) goes.2 in
      let behind = ended (other ∷ goes.0) in
      let front = same_front version entries goes.1 (length goes.1) (line ++ 10 ∷ behind) range goes.2.range (settled behind) (goes_on taken line entries (other ∷ goes.0) goes.1 text whole) in
      let none : NoQuote behind = rw (append_assoc other (10 ∷ []) (ended goes.0)) (no_quote_line other (ended goes.0) next.0 next.1) in
      lacks_reply front.0 line caller call (length goes.1) behind front.2 is none front.3

  pub bad_reply : (old now new : Place) (entries : List Entry) (line : List ℕ) (caller : ℕ) (call : Call) → AreRead version old now entries → now.left ≡ line ∷ new.left
      → new.passed ≡ now.passed + 1 → SpellsCall version line caller call → LeavesReply new.left → (m : ℕ) × (new.passed + 1 ≡ old.passed + m + 1) × StopsCalls version m old.left
  bad_reply old now new entries line caller call is left passed spells next = (
    length is.taken + 1,
    omega (arith, is.passed, passed),
    record {
      front = is.taken ++ line ∷ [];
      others = new.left;
      whole = is.left ∙ ap (λ t. is.taken ++ t) left ∙ sym (append_assoc is.taken (line ∷ []) new.left);
      count = sym (length-append is.taken (line ∷ []));
      begins = begins_call is.taken entries line caller call is.range is.text spells;
      stuck = stuck_call is.taken entries line caller call new.left is.range is.text (λ text. settled_line entries line new.left text (rw left at is.next)) spells next;
    },
  )

  behind_end : (entries others es : List Entry) (line text : List ℕ) → es ≡ entries ++ others → AllByRecursion (IsEntryOf version) others
      → body others ++ end_text (length es) ≡ end_line (length entries) ++ 10 ∷ (line ++ 10 ∷ text) → ⊥
  behind_end entries [] es line text whole p e = end_and_more (length es) (length entries) line text (ap length (whole ∙ append-nil entries)) e
  behind_end entries (y ∷ others) es line text whole p e =
      no_end_call y (body others ++ end_text (length es)) (length entries) (line ++ 10 ∷ text) p.0.entry (sym (append_assoc (entry_text y) (body others) (end_text (length es))) ∙ e
      ∙ sym (append_assoc (end_line (length entries)) (10 ∷ []) (line ++ 10 ∷ text)))

  pub late_line : (old now next new : Place) (entries : List Entry) (line other : List ℕ) → AreRead version old now entries → now.left ≡ line ∷ next.left → next.passed ≡ now.passed + 1
      → line ≡ end_line (length entries) → next.left ≡ other ∷ new.left → new.passed ≡ next.passed + 1 → (m : ℕ) × (new.passed ≡ old.passed + m + 1) × StopsCalls version m old.left
  late_line old now next new entries line other is left passed end late later = (
    length is.taken + 1,
    omega (arith, is.passed, passed, later),
    record {
      front = is.taken ++ line ∷ [];
      others = other ∷ new.left;
      whole = is.left ∙ ap (λ t. is.taken ++ t) (left ∙ ap (λ t. line ∷ t) late) ∙ sym (append_assoc is.taken (line ∷ []) (other ∷ new.left));
      count = sym (length-append is.taken (line ∷ []));
      begins = (
        [],
        entries,
        record {
          range = is.range;
          same = ended_at is.taken line [] ∙ ap (λ t. t ++ (line ++ 10 ∷ [])) is.text ∙ ap (λ t. body entries ++ (t ++ 10 ∷ [])) end;
        },
      );
      stuck = λ goes.
          let whole : TellsCalls version ((is.taken ++ line ∷ []) ++ (other ∷ goes.0)) goes.1 = rw (sym (append_assoc (is.taken ++ line ∷ []) (other ∷ []) goes.0)) goes.2 in
          let here : body goes.1 ++ end_text (length goes.1) ≡ body entries ++ (end_line (length entries) ++ 10 ∷ (other ++ 10 ∷ ended goes.0)) =
          goes_on is.taken line entries (other ∷ goes.0) goes.1 is.text whole
          ∙ ap (λ t. body entries ++ (line ++ 10 ∷ t)) (append_assoc other (10 ∷ []) (ended goes.0))
          ∙ ap (λ t. body entries ++ (t ++ 10 ∷ (other ++ 10 ∷ ended goes.0))) end in
          let none : Settled entries (end_line (length entries) ++ 10 ∷ (other ++ 10 ∷ ended goes.0)) =
          rw end at (settled_line entries line next.left (other ++ 10 ∷ ended goes.0) (rw left at is.next)) in
          let front = same_front version entries goes.1 (length goes.1) _ is.range goes.2.range none here in
          behind_end entries front.0 goes.1 other (ended goes.0) front.1 front.2 front.3;
    },
  )

  pub lacks_entry : (fault : TextFault) (old now next : Place) (entries : List Entry) (line : List ℕ) → AreRead version old now entries → now.left ≡ line ∷ next.left → next.passed ≡ now.passed + 1
      → HasNoFeed line → (line ≡ end_line (length entries) → ⊥) → LacksEntry version fault line next → LacksCalls version fault old
  lacks_entry NotToml old now next entries line is left passed feed end h = absurd h
  lacks_entry (BadKey path) old now next entries line is left passed feed end h = absurd h
  lacks_entry (BadLine n) old now next entries line is left passed feed end (inl h) = rw h.0 (bad_line old now next entries line is left passed feed end h.1)
  lacks_entry (BadLine n) old now next entries line is left passed feed end (inr h) =
      rw h.0 (bad_reply old now next entries line h.1.0 h.1.1 is left passed h.1.2 h.2)
  lacks_entry NotText old now next entries line is left passed feed end h = absurd h
  lacks_entry (Differs k) old now next entries line is left passed feed end h = absurd h
  lacks_entry Read old now next entries line is left passed feed end h = absurd h
  lacks_entry Write old now next entries line is left passed feed end h = absurd h
  lacks_entry OutOfMemory old now next entries line is left passed feed end h = tt

  -- the line of a call, or the one behind it
  call_is_next : (old next : Place) (text : List ℕ) (line : ℕ) → next.passed ≡ old.passed + 1 → LacksEntry version (BadLine line) text next → IsNextLine line old
  call_is_next old next text line passed (inl h) = (omega (arith, passed, h.0), omega (arith, passed, h.0))
  call_is_next old next text line passed (inr h) = (omega (arith, passed, h.0), omega (arith, passed, h.0))

  pub entry_is_next : {T : Type 0} (r : Result T TextFault) (fault : TextFault) (old next : Place) (text : List ℕ) (line : ℕ) → next.passed ≡ old.passed + 1 → LacksEntry version fault text next
      → r ≡ Err fault → r ≡ Err (BadLine line) → IsNextLine line old
  entry_is_next r fault old next text line passed h e f =
      let same : fault ≡ BadLine line = cc in call_is_next old next text line passed (rw same at h)
