-- What a check knows on its way through a text, and at its end.
use Rattle.std.proofs.Common.{◌≡◌, inr, ℕ, ◌+◌, List, [], ◌∷◌, ◌++◌, ◌∙◌, ap, refl, append_assoc, append-nil, length}
use Rattle.esx_types.specs.declared.config.Config.{Config}
use Rattle.esx_events.specs.declared.call.Reply.{Reply}
use Rattle.esx_model.specs.Console.{next_reply, lined}
use Rattle.esx_console.specs.Calls.{opened_session}
use Rattle.esx_console.specs.Unlogged.{Kept, AnswersAs}
use Rattle.esx_replies.specs.Replies.{reply_text}
use Rattle.esx_session.specs.declared.session.Entry.{Entry}
use Rattle.esx_session.specs.Sessions.{Reads}
use Rattle.esx_session.specs.Reading.{Reader, Follows}
use Rattle.esx_check.specs.declared.check.Checked.TheVariants.{Same, Differs}
use Rattle.esx_check.specs.Again.{made, replies_again}
use Rattle.esx_check.specs.Checks.{ChecksText, replies_told}
use Rattle.esx_check.specs.declared.difference.Compared.{Compared}
use Rattle.esx_check.specs.declared.difference.Compared.TheVariants as compared
use Rattle.esx_check.specs.Differences.{ComparesText, checked_of}
use Rattle.esx_check.specs.Gates.{GoesToInText, ChecksBefore}
use Rattle.esx_check.specs.Wants.{WantsMemory, NextWantsMemory, CallWantsMemory}
use Rattle.esx_check.proofs.AgainLemmas.{first_again, again_more, again_nothing}
use Rattle.esx_check.proofs.CheckLemmas.{same_more, differs_here, difference_here, one_longer, goes_through, goes_to_next}

-- a reader that read on from these calls
pub record ReadOn (text : List ℕ) (site : Config) (done : List Entry) (calls : Reader) : Type 0 where
  pub later : List Entry
  pub follows : Follows text site (done ++ later) calls

pub read_nothing : (text : List ℕ) (site : Config) (done : List Entry) (calls : Reader) → Follows text site done calls → ReadOn text site done calls
read_nothing text site done calls follows = record { later = []; follows = rw append-nil follows }

pub read_more : (text : List ℕ) (site : Config) (done : List Entry) (calls next : Reader) (e : Entry) (on : ReadOn text site done calls)
    → Follows text site ((done ++ on.later) ++ e ∷ []) next → ReadOn text site done next
read_more text site done calls next e on follows = record { later = on.later ++ e ∷ []; follows = rw append_assoc at follows }

-- the calls that were read so far were made, and each has the reply that stands with it
pub record SoFar (text : List ℕ) (calls : Reader) (console : Kept) (count : ℕ) : Type 0 where
  pub site : Config
  pub done : List Entry
  pub follows : Follows text site done calls
  pub answers : AnswersAs console (made site done)
  pub same : replies_again site done ≡ replies_told done
  pub counted : count ≡ length done

pub nothing_so_far : (text : List ℕ) (site : Config) (calls : Reader) (console : Kept) → Follows text site [] calls → AnswersAs console (opened_session site) → SoFar text calls console 0
nothing_so_far text site calls console follows answers = record {
  site = site;
  done = [];
  follows = follows;
  answers = first_again site console answers;
  same = again_nothing site;
  counted = refl;
}

pub one_more_so_far : (text : List ℕ) (calls next : Reader) (console after : Kept) (count : ℕ) (e : Entry) (so_far : SoFar text calls console count)
    → Follows text so_far.site (so_far.done ++ e ∷ []) next → AnswersAs after (lined (made so_far.site so_far.done) e.caller e.call)
    → reply_text (next_reply (made so_far.site so_far.done) e.call) ≡ e.reply → SoFar text next after (count + 1)
one_more_so_far text calls next console after count e so_far follows answers is = record {
  site = so_far.site;
  done = so_far.done ++ e ∷ [];
  follows = follows;
  answers = again_more so_far.site so_far.done e after answers;
  same = same_more so_far.site so_far.done e so_far.same is;
  counted = ap (λ n. n + 1) so_far.counted ∙ one_longer so_far.done e;
}

pub all_same : (text : List ℕ) (calls : Reader) (console : Kept) (count : ℕ) (so_far : SoFar text calls console count) → Reads text so_far.site so_far.done → ComparesText text (compared.Same count)
all_same text calls console count so_far reads = (so_far.site, so_far.done, reads, (so_far.counted, so_far.same))

pub one_differs : (text : List ℕ) (calls : Reader) (console : Kept) (count : ℕ) (e : Entry) (reply : Reply) (so_far : SoFar text calls console count) (later : List Entry)
    → Reads text so_far.site ((so_far.done ++ e ∷ []) ++ later) → reply ≡ next_reply (made so_far.site so_far.done) e.call → (reply_text reply ≡ e.reply → ⊥)
    → ComparesText text (compared.Differs (record { number = count + 1; entry = e; reply = reply }))
one_differs text calls console count e reply so_far later reads here other =
    let entries = (so_far.done ++ e ∷ []) ++ later in (
      so_far.site,
      entries,
      reads,
      difference_here so_far.site entries so_far.done later e count reply (append_assoc so_far.done (e ∷ []) later) so_far.same here other so_far.counted,
    )

-- what compares so is checked so
pub checks_so : (text : List ℕ) (c : Compared) → ComparesText text c → ChecksText text (checked_of c)
checks_so text (compared.Same count) is = is
checks_so text (compared.Differs d) is = (is.0, is.1, is.2, is.3.first)

-- where reading ends early, before a call and behind one
pub goes_to_last : (text : List ℕ) (calls : Reader) (console : Kept) (count : ℕ) → SoFar text calls console count → GoesToInText text count
goes_to_last text calls console count so_far =
    inr (so_far.site, so_far.done, (calls, so_far.follows), goes_through so_far.site so_far.done count so_far.same so_far.counted)

pub goes_to_one_more : (text : List ℕ) (calls next : Reader) (console : Kept) (count : ℕ) (e : Entry) (so_far : SoFar text calls console count)
    → Follows text so_far.site (so_far.done ++ e ∷ []) next → GoesToInText text (count + 1)
goes_to_one_more text calls next console count e so_far follows =
    let done = so_far.done ++ e ∷ [] in
    inr (so_far.site, done, (next, follows), goes_to_next so_far.site done so_far.done [] e count refl so_far.same so_far.counted)

-- where a reader stops behind the calls that were made
pub stops_behind_last : (text : List ℕ) (Stops : Reader → Type 0) (calls : Reader) (console : Kept) (count : ℕ) → SoFar text calls console count → Stops calls
    → ChecksBefore text Stops count
stops_behind_last text Stops calls console count so_far stops = record {
  site = so_far.site;
  entries = so_far.done;
  reader = calls;
  follows = so_far.follows;
  stops = stops;
  checked = Same count;
  checks = (so_far.counted, so_far.same);
  made = refl;
}

-- where it stops behind a call with another reply
pub stops_behind_difference : (text : List ℕ) (Stops : Reader → Type 0) (calls reader : Reader) (console : Kept) (count : ℕ) (e : Entry) (so_far : SoFar text calls console count)
    (later : List Entry) → Follows text so_far.site ((so_far.done ++ e ∷ []) ++ later) reader → Stops reader
    → (reply_text (next_reply (made so_far.site so_far.done) e.call) ≡ e.reply → ⊥) → ChecksBefore text Stops (count + 1)
stops_behind_difference text Stops calls reader console count e so_far later follows stops other =
    let entries = (so_far.done ++ e ∷ []) ++ later in
    record {
      site = so_far.site;
      entries = entries;
      reader = reader;
      follows = follows;
      stops = stops;
      checked = Differs (count + 1);
      checks = differs_here so_far.site entries so_far.done later e count (append_assoc so_far.done (e ∷ []) later) so_far.same other so_far.counted;
      made = refl;
    }

-- where the last call that was made wants memory
pub wants_at_call : (text : List ℕ) (calls next : Reader) (console : Kept) (count : ℕ) (e : Entry) (so_far : SoFar text calls console count)
    → Follows text so_far.site (so_far.done ++ e ∷ []) next → WantsMemory so_far.site so_far.done e.call → CallWantsMemory text (count + 1)
wants_at_call text calls next console count e so_far follows wants =
    let done = so_far.done ++ e ∷ [] in
    let goes = goes_to_next so_far.site done so_far.done [] e count refl so_far.same so_far.counted in
    let at_call : NextWantsMemory so_far.site done count = record { done = so_far.done; later = e ∷ []; split = refl; number = so_far.counted; wants = wants } in
    (so_far.site, done, (next, follows), (goes, (count, refl, at_call)))
