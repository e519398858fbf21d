-- What stands in a session where memory is taken.
use Rattle.std.proofs.Common.{◌⊎◌, ◌≡◌, ◌<◌, ℕ, List, [], ◌∷◌, ◌++◌, arith, sym, ◌∙◌, append_assoc, inl, inr, subst}
use Rattle.std.specs.List.{AllByRecursion}
use Rattle.std.specs.Str.{IsAscii}
use Rattle.std.proofs.lemmas.List.Elements.{All-from_recursion}
use Rattle.std.proofs.lemmas.Str.Ascii.{IsAscii-from_all}
use Rattle.esx_types.specs.declared.config.Config.{Config}
use Rattle.esx_types.specs.declared.version.Version.{Version}
use Rattle.esx_session.specs.declared.session.Entry.{Entry}
use Rattle.esx_session.specs.Sessions.{ended, entry_text, quoted, IsEnded, IsEntryOf}
use Rattle.esx_session.specs.Reading.{Place, HasNoFeed, Quotes, BeginsReply, AreRead, NextTakesMemory, GoesPastOpening, Reader, Follows}
use Rattle.esx_session.proofs.FrontLemmas.{are_ascii, call_line, call_line_feed, call_text_is, closes_ended, first_of_call, same_line, spells_entry}
use Rattle.esx_session.proofs.PlaceLemmas.{lines_feed}
use Rattle.esx_session.proofs.QuoteLemmas.{first_quote}
use Rattle.esx_session.proofs.ReplyLemmas.{no_lines}
use Rattle.esx_session.proofs.StopLemmas.{no_text}

-- the first line of a reply that is read
pub begins_reply : (old now : List (List ℕ)) (line text : List ℕ) (rest : List (List ℕ)) → (old ≡ now) ⊎ BeginsReply old → now ≡ line ∷ rest → Quotes line text
    → BeginsReply old
begins_reply old now line text rest (inl e) at q = rw (e ∙ at) (text, q)
begins_reply old now line text rest (inr h) at q = h

-- the first of some lines that are a reply
first_quoted : (taken left : List (List ℕ)) (reply more : List ℕ) → IsEnded reply → IsAscii reply → AllByRecursion HasNoFeed (taken ++ left)
    → ended taken ≡ quoted reply ++ more → BeginsReply (taken ++ left)
first_quoted taken left [] more some ascii feeds same = absurd (no_text some.0 [] some.1)
first_quoted [] left (b ∷ reply) more some ascii feeds same = absurd (cc)
first_quoted (line ∷ taken) left (b ∷ reply) more some ascii feeds same =
    let first = first_quote b reply more (closes_ended (b ∷ reply) some) (are_ascii (b ∷ reply) ascii) in
    let whole = sym (append_assoc line (10 ∷ []) (ended taken)) ∙ same ∙ first.2 in
    let lines = same_line line (61 ∷ 32 ∷ first.0) (ended taken) first.1 feeds.0 ((λ z. omega (arith, z)), ((λ z. omega (arith, z)), first.3)) whole in
    (first.0, record { ascii = IsAscii-from_all first.0 (All-from_recursion (λ x. x < 128) first.0 first.4); quoted = lines.0 })

-- the first two of some lines that are a call with its reply
first_takes_memory : (version : Version) (taken left : List (List ℕ)) (e : Entry) (more : List ℕ) → IsEntryOf version e → AllByRecursion HasNoFeed (taken ++ left)
    → ended taken ≡ entry_text e ++ more → NextTakesMemory version (taken ++ left)
first_takes_memory version [] left e more is feeds same =
    let first = first_of_call e more is.entry in
    let none : [] ≡ first.0 ∷ first.1 = same ∙ first.2 in absurd (cc)
first_takes_memory version (line ∷ taken) left e more is feeds same =
    let whole = sym (append_assoc line (10 ∷ []) (ended taken)) ∙ same ∙ call_text_is e more in
    let lines = same_line line (call_line e) (ended taken) (quoted e.reply ++ more) feeds.0 (call_line_feed e is.entry) whole in
    inr ((e.caller, e.call, rw lines.0 (spells_entry version e is)), first_quoted taken left e.reply more is.entry.reply is.entry.ascii feeds.1 lines.1)

third : (version : Version) (old now : Place) (done : List Entry) → AllByRecursion HasNoFeed old.left → AreRead version old now done → NextTakesMemory version now.left
    → NextTakesMemory version old.left
third version old now [] feeds is takes = rw (no_lines old now is.taken is.text is.left is.passed).1 takes
third version old now (e ∷ done) feeds is takes = rw is.left (first_takes_memory version is.taken now.left e _ is.range.0 (rw is.left at feeds) is.text)

third_read : (version : Version) (old now : Place) (done : List Entry) (entry : Entry) → AllByRecursion HasNoFeed old.left → AreRead version old now (done ++ entry ∷ [])
    → NextTakesMemory version old.left
third_read version old now [] entry feeds is = rw is.left (first_takes_memory version is.taken now.left entry _ is.range.0 (rw is.left at feeds) is.text)
third_read version old now (e ∷ done) entry feeds is = rw is.left (first_takes_memory version is.taken now.left e _ is.range.0 (rw is.left at feeds) is.text)

-- no line behind the opening has a feed
start_feeds : (text : List ℕ) (site : Config) (done : List Entry) (reader : Reader) (f : Follows text site done reader) → AllByRecursion HasNoFeed f.start.left
start_feeds text site done reader f = (subst (λ told. AllByRecursion HasNoFeed told) f.opening (lines_feed text)).1.1

-- behind some calls memory may be taken, so behind the opening too
pub goes_past : (text : List ℕ) (site : Config) (done : List Entry) (reader : Reader) → Follows text site done reader → NextTakesMemory reader.version reader.at.left
    → GoesPastOpening text
goes_past text site done reader f takes =
    (reader.version, site, f.start.left, f.range, f.opening, third reader.version f.start reader.at done (start_feeds text site done reader f) f.read takes)

pub goes_past_read : (text : List ℕ) (site : Config) (done : List Entry) (entry : Entry) (reader : Reader) → Follows text site (done ++ entry ∷ []) reader
    → GoesPastOpening text
goes_past_read text site done entry reader f =
    (reader.version, site, f.start.left, f.range, f.opening, third_read reader.version f.start reader.at done entry (start_feeds text site (done ++ entry ∷ []) reader f) f.read)
