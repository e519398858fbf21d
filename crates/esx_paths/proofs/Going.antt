-- What is known on the way through a text, and at its end.
use Rattle.std.proofs.Common.{◌≡◌, Bool, ℕ, ◌+◌, List, [], ◌∷◌, ◌++◌, ◌∙◌, sym, subst, refl, length, append_assoc}
use Rattle.std.proofs.lemmas.List.{length-map}
use Rattle.esx_types.specs.declared.config.Config.{Config}
use Rattle.esx_model.specs.Console.{Session, next_reply, lined}
use Rattle.esx_console.specs.Calls.{opened_session}
use Rattle.esx_replies.specs.Replies.{reply_text}
use Rattle.esx_session.specs.declared.session.Entry.{Entry}
use Rattle.esx_session.specs.Sessions.{Reads}
use Rattle.esx_session.specs.Reading.{Reader, Follows}
use Rattle.esx_check.specs.declared.check.Checked.TheVariants.{Differs}
use Rattle.esx_check.specs.Again.{made, replies_again}
use Rattle.esx_check.specs.Checks.{ChecksText, replies_told}
use Rattle.esx_check.specs.Gates.{PassedFor}
use Rattle.esx_check.proofs.AgainLemmas.{made_nothing, made_more, again_nothing, one_reply_each, text_of}
use Rattle.esx_check.proofs.CheckLemmas.{same_more, differs_here}
use Rattle.esx_check.proofs.TextLemmas.{SoFar}
use Rattle.esx_paths.specs.Pasts.{Kept, IsPastOf}
use Rattle.esx_paths.specs.Texts.{IsPastOfText}

-- the calls that were read so far were made, each has the reply that stands with it, and what is kept is of them
pub record SoFarKept (text : List ℕ) (calls : Reader) (past : Kept) : Type 0 where
  pub site : Config
  pub done : List Entry
  pub follows : Follows text site done calls
  pub is_past : IsPastOf past (made site done)
  pub same : replies_again site done ≡ replies_told done

pub counted : (site : Config) (done : List Entry) (past : Kept) → IsPastOf past (made site done) → past.calls ≡ length done
counted site done past is = is.counted ∙ sym (length-map (made site done).log text_of) ∙ one_reply_each site done

abbrev pub so_far : (text : List ℕ) (calls : Reader) (past : Kept) (kept : SoFarKept text calls past) → SoFar text calls past.console past.calls
so_far text calls past kept = record {
  site = kept.site;
  done = kept.done;
  follows = kept.follows;
  answers = kept.is_past.answers;
  same = kept.same;
  counted = counted kept.site kept.done past kept.is_past;
}

pub none_kept : (text : List ℕ) (site : Config) (calls : Reader) (past : Kept) → Follows text site [] calls → IsPastOf past (opened_session site) → SoFarKept text calls past
none_kept text site calls past follows is =
    let P : Session → Type 0 = IsPastOf past in
    record { site = site; done = []; follows = follows; is_past = subst P (sym (made_nothing site)) is; same = again_nothing site }

pub one_more_kept : (text : List ℕ) (calls next : Reader) (past after : Kept) (e : Entry) (kept : SoFarKept text calls past)
    → Follows text kept.site (kept.done ++ e ∷ []) next → IsPastOf after (lined (made kept.site kept.done) e.caller e.call)
    → reply_text (next_reply (made kept.site kept.done) e.call) ≡ e.reply → SoFarKept text next after
one_more_kept text calls next past after e kept follows is_past is =
    let P : Session → Type 0 = IsPastOf after in
    record {
      site = kept.site;
      done = kept.done ++ e ∷ [];
      follows = follows;
      is_past = subst P (sym (made_more kept.site kept.done e)) is_past;
      same = same_more kept.site kept.done e kept.same is;
    }

pub all_kept : (text : List ℕ) (calls : Reader) (past : Kept) (kept : SoFarKept text calls past) → Reads text kept.site kept.done → IsPastOfText text past
all_kept text calls past kept reads = record { site = kept.site; entries = kept.done; reads = reads; same = (refl, kept.same); is_past = kept.is_past }

pub differs_there : (text : List ℕ) (calls : Reader) (past : Kept) (e : Entry) (number : ℕ) (kept : SoFarKept text calls past) (later : List Entry) → number ≡ past.calls + 1
    → Reads text kept.site ((kept.done ++ e ∷ []) ++ later) → (reply_text (next_reply (made kept.site kept.done) e.call) ≡ e.reply → ⊥) → ChecksText text (Differs number)
differs_there text calls past e number kept later is reads other =
    let entries = (kept.done ++ e ∷ []) ++ later in
    let split = append_assoc kept.done (e ∷ []) later in
    let count = counted kept.site kept.done past kept.is_past in
    let P : ℕ → Type 0 = λ n. ChecksText text (Differs n) in
    subst P (sym is) (kept.site, entries, reads, differs_here kept.site entries kept.done later e past.calls split kept.same other count)

-- the gate, with the number of calls told otherwise
module _ {G : Type 0} (passes : G → ℕ → Bool → G → Type 0) where
  pub passed_as : (n m : ℕ) (g h : G) → m ≡ n → PassedFor passes n g h → PassedFor passes m g h
  passed_as n m g h e passed = subst (λ (i : ℕ). PassedFor passes i g h) (sym e) passed
