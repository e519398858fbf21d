-- What is printed of a session is read as that session.
use Rattle.std.proofs.Common.{◌≡◌, ℕ, List, Bool, true, false, [], ◌∷◌, ◌++◌, length, arith, refl, sym, ap, ◌∙◌, append_assoc, append-nil, inl, inr}
use Rattle.std.specs.List.{AllByRecursion, slice_split}
use Rattle.std.specs.Str.Lines.{lines, lines_of_parts}
use Rattle.std.proofs.Math.Dec.{eqb}
use Rattle.std.proofs.lemmas.List.Elements.{All-from_recursion}
use Rattle.std.proofs.lemmas.List.Splits.{slice_split_at, length-slice_split}
use Rattle.esx_types.specs.declared.config.Config.{Config}
use Rattle.esx_types.specs.declared.version.Version.TheVariants.{Two}
use Rattle.esx_reading.proofs.FieldLemmas.{no_match}
use Rattle.esx_session.specs.declared.session.Entry.{Entry}
use Rattle.esx_session.specs.Sessions.{ended, quoted_from, quoted, head_line, entry_text, end_text, session_text, IsEntry, IsSession, HasNoReturn, Tells}
use Rattle.esx_session.specs.Reading.{HasNoFeed, calls_text}
use Rattle.esx_session.proofs.QuoteLemmas.{Closes, tests_feed}
use Rattle.esx_session.proofs.FeedLemmas.{AllStay, stays, no_feed, no_return_ends, stay_from, call_line_stays}
use Rattle.esx_session.proofs.PlaceLemmas.{parts_cons, strip_other}
use Rattle.esx_session.proofs.FrontLemmas.{closes_ended, call_line, call_text_is, body}
use Rattle.esx_session.proofs.SessionLemmas.{site_line, site_stays, head_stays, session_lines}
use Rattle.esx_session.proofs.LimitLemmas.{entries_of_two}
use Rattle.esx_session.proofs.CallsLemmas.{ended_both, end_line, end_stays}

without : (text : List ℕ) → HasNoFeed text → AllByRecursion (λ b. eqb b 10 ≡ false) text
without [] h = tt
without (b ∷ text) h = (no_match b 10 h.0, without text h.1)

no_feeds : (text : List ℕ) → AllStay text → AllByRecursion (λ b. eqb b 10 ≡ false) text
no_feeds text h = without text (no_feed text h)

-- lines that were ended are read as they were
lines_of_ended : (told : List (List ℕ)) → AllByRecursion AllStay told → lines (ended told) ≡ told
lines_of_ended [] h = refl
lines_of_ended (line ∷ told) h =
    ap lines (append_assoc line (10 ∷ []) (ended told))
    ∙ ap lines_of_parts (slice_split_at (λ b. eqb b 10) line 10 (ended told) (All-from_recursion (λ b. eqb b 10 ≡ false) line (no_feeds line h.0)) refl)
    ∙ parts_cons line (slice_split (λ b. eqb b 10) (ended told)) (omega (arith, length-slice_split (λ b. eqb b 10) (ended told)))
    ∙ ap (λ t. t ∷ lines (ended told)) (strip_other line (λ front. no_return_ends line front h.0))
    ∙ ap (λ t. line ∷ t) (lines_of_ended told h.1)

-- a text of whole lines, without control bytes
pub record IsPrinted (text : List ℕ) : Type 0 where
  pub told : List (List ℕ)
  pub same : text ≡ ended told
  pub stay : AllByRecursion AllStay told

both_told : (xs ys : List (List ℕ)) → AllByRecursion AllStay xs → AllByRecursion AllStay ys → AllByRecursion AllStay (xs ++ ys)
both_told [] ys p q = q
both_told (x ∷ xs) ys p q = (p.0, both_told xs ys p.1 q)

printed_both : (x y : List ℕ) → IsPrinted x → IsPrinted y → IsPrinted (x ++ y)
printed_both x y p q = record {
  told = p.told ++ q.told;
  same = ap (λ t. t ++ y) p.same ∙ ap (λ t. ended p.told ++ t) q.same ∙ sym (ended_both p.told q.told);
  stay = both_told p.told q.told p.stay q.stay;
}

printed_line : (line text : List ℕ) → AllStay line → IsPrinted text → IsPrinted (line ++ 10 ∷ text)
printed_line line text h is = record {
  told = line ∷ is.told;
  same = ap (λ t. line ++ 10 ∷ t) is.same ∙ sym (append_assoc line (10 ∷ []) (ended is.told));
  stay = (h, is.stay);
}

printed_none : IsPrinted []
printed_none = record { told = []; same = refl; stay = tt }

-- a reply as its lines, from a line's begin on or within one
abbrev Cut : Bool → List ℕ → Type 0
Cut true text = IsPrinted (quoted_from true text)
Cut false text = (line : List ℕ) × (rest : List ℕ) × (quoted_from false text ≡ line ++ 10 ∷ rest) × AllStay line × IsPrinted rest

printed_as : (x y : List ℕ) → x ≡ y → IsPrinted y → IsPrinted x
printed_as x y e is = rw e is

byte_stays : (b : ℕ) → (b ≡ 10 → ⊥) → (b ≡ 13 → ⊥) → stays b ≡ true
byte_stays b p q = (stay_from (b ∷ []) (p, tt) (q, tt)).0

cut : (fresh : Bool) (text : List ℕ) → Closes fresh text → AllByRecursion (λ b. b ≡ 13 → ⊥) text → Cut fresh text
cut true [] ends none = printed_none
cut false [] ends none = absurd ends
cut true (b ∷ text) ends none = elim (tests_feed b) [
  | inl is ↦ (let more = cut true text (rw is.0 at ends) none.1 in
      printed_as (61 ∷ 32 ∷ b ∷ quoted_from (eqb b 10) text) ((61 ∷ 32 ∷ []) ++ 10 ∷ quoted_from true text)
      (ap (λ t. 61 ∷ 32 ∷ b ∷ quoted_from t text) is.0 ∙ ap (λ t. 61 ∷ 32 ∷ t ∷ quoted_from true text) is.1)
      (printed_line (61 ∷ 32 ∷ []) (quoted_from true text) (refl, (refl, tt)) more))
  | inr is ↦ (let more = cut false text (rw is.0 at ends) none.1 in
      printed_as (61 ∷ 32 ∷ b ∷ quoted_from (eqb b 10) text) ((61 ∷ 32 ∷ b ∷ more.0) ++ 10 ∷ more.1)
      (ap (λ t. 61 ∷ 32 ∷ b ∷ quoted_from t text) is.0 ∙ ap (λ t. 61 ∷ 32 ∷ b ∷ t) more.2)
      (printed_line (61 ∷ 32 ∷ b ∷ more.0) more.1 (refl, (refl, (byte_stays b is.1 none.0, more.3))) more.4))
]
cut false (b ∷ text) ends none = elim (tests_feed b) [
  | inl is ↦ (let more = cut true text (rw is.0 at ends) none.1 in
      ([], quoted_from true text, ap (λ t. b ∷ quoted_from t text) is.0 ∙ ap (λ t. t ∷ quoted_from true text) is.1, tt, more))
  | inr is ↦ (let more = cut false text (rw is.0 at ends) none.1 in
      (b ∷ more.0, more.1, ap (λ t. b ∷ quoted_from t text) is.0 ∙ ap (λ t. b ∷ t) more.2, (byte_stays b is.1 none.0, more.3), more.4))
]

printed_entry : (e : Entry) → IsEntry e → HasNoReturn e → IsPrinted (entry_text e)
printed_entry e is none = printed_as (entry_text e) (call_line e ++ 10 ∷ quoted e.reply)
    (sym (append-nil (entry_text e)) ∙ call_text_is e [] ∙ ap (λ t. call_line e ++ 10 ∷ t) (append-nil (quoted e.reply)))
    (printed_line (call_line e) (quoted e.reply) (call_line_stays e.caller e.call is.call) (cut true e.reply (closes_ended e.reply is.reply) none))

printed_body : (entries : List Entry) → AllByRecursion IsEntry entries → AllByRecursion HasNoReturn entries → IsPrinted (body entries)
printed_body [] p q = printed_none
printed_body (e ∷ entries) p q = printed_both (entry_text e) (body entries) (printed_entry e p.0 q.0) (printed_body entries p.1 q.1)

printed_calls : (entries : List Entry) → AllByRecursion IsEntry entries → AllByRecursion HasNoReturn entries → IsPrinted (calls_text entries)
printed_calls entries p q = printed_both (body entries) (end_text (length entries)) (printed_body entries p q)
    (printed_line (end_line (length entries)) [] (end_stays (length entries)) printed_none)

printed_session : (site : Config) (entries : List Entry) → IsSession site entries → AllByRecursion HasNoReturn entries → IsPrinted (session_text site entries)
printed_session site entries is none = printed_as (session_text site entries) (head_line Two ++ 10 ∷ (site_line site ++ 10 ∷ calls_text entries)) (session_lines Two site entries)
    (printed_line (head_line Two) (site_line site ++ 10 ∷ calls_text entries) (head_stays Two)
    (printed_line (site_line site) (calls_text entries) (site_stays site) (printed_calls entries is.each none)))

pub read_as_printed : (site : Config) (entries : List Entry) → IsSession site entries → AllByRecursion HasNoReturn entries → Tells (lines (session_text site entries)) site entries
read_as_printed site entries is none =
    let printed = printed_session site entries is none in
    record {
      version = Two;
      opened = is.opened;
      each = entries_of_two entries is.each;
      same = ap (λ t. ended (lines t)) printed.same ∙ ap ended (lines_of_ended printed.told printed.stay) ∙ sym printed.same;
    }
