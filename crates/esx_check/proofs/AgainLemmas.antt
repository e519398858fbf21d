-- One call more of a session that is gone through again.
use Rattle.std.proofs.Common.{◌≡◌, ℕ, suc, List, [], ◌∷◌, ◌++◌, refl, sym, ◌∙◌, ap, append_assoc, append-nil, length, map}
use Rattle.std.proofs.lemmas.List.{map-append, length-map}
use Rattle.esx_types.specs.declared.config.Config.{Config}
use Rattle.esx_events.specs.declared.call.Line.{Line}
use Rattle.esx_model.specs.Console.{Session, next_reply, lined}
use Rattle.esx_console.specs.Calls.{Asked, opened_session, lined_all}
use Rattle.esx_console.specs.Unlogged.{Kept, AnswersAs}
use Rattle.esx_replies.specs.Replies.{reply_text}
use Rattle.esx_session.specs.declared.session.Entry.{Entry}
use Rattle.esx_check.specs.Again.{asked, made, replies_again}

-- calls, and then others
all_split : (s : Session) (xs ys : List Asked) → lined_all s (xs ++ ys) ≡ lined_all (lined_all s xs) ys
unfolding lined_all
all_split s [] ys = refl
all_split s (x ∷ xs) ys = all_split (lined s x.caller x.call) xs ys

all_one : (s : Session) (x : Asked) → lined_all s (x ∷ []) ≡ lined s x.caller x.call
unfolding lined_all
all_one s x = refl

-- calls add lines, one each
record Grows (s after : Session) (count : ℕ) : Type 0 where
  more : List Line
  log : after.log ≡ s.log ++ more
  one_each : length more ≡ count

all_grow : (s : Session) (xs : List Asked) → Grows s (lined_all s xs) (length xs)
unfolding lined_all
all_grow s [] = record { more = []; log = sym (append-nil s.log); one_each = refl }
all_grow s (x ∷ xs) =
    let line : Line = record { caller = x.caller; call = x.call; reply = next_reply s x.call } in
    let later = all_grow (lined s x.caller x.call) xs in
    let few : length (line ∷ later.more) ≡ length (x ∷ xs) = ap (λ n. suc n) later.one_each in
    record { more = line ∷ later.more; log = later.log ∙ append_assoc s.log (line ∷ []) later.more; one_each = few }

pub made_nothing : (site : Config) → made site [] ≡ opened_session site
unfolding made lined_all
made_nothing site = refl

pub again_nothing : (site : Config) → replies_again site [] ≡ []
unfolding made lined_all
again_nothing site = refl

pub made_more : (site : Config) (done : List Entry) (e : Entry) → made site (done ++ e ∷ []) ≡ lined (made site done) e.caller e.call
unfolding made
made_more site done e =
    ap (lined_all (opened_session site)) (map-append asked done (e ∷ [])) ∙ all_split (opened_session site) (map asked done) (asked e ∷ [])
    ∙ all_one (lined_all (opened_session site) (map asked done)) (asked e)

-- what answers as these calls left it, and then as one more does
pub first_again : (site : Config) (kept : Kept) → AnswersAs kept (opened_session site) → AnswersAs kept (made site [])
first_again site kept answers = rw made_nothing answers

pub again_more : (site : Config) (done : List Entry) (e : Entry) (kept : Kept) → AnswersAs kept (lined (made site done) e.caller e.call) → AnswersAs kept (made site (done ++ e ∷ []))
again_more site done e kept answers = rw (made_more site done e) answers

-- the text of a line's reply
abbrev pub text_of : Line → List ℕ
text_of line = reply_text line.reply

pub replies_more : (site : Config) (done : List Entry) (e : Entry)
    → replies_again site (done ++ e ∷ []) ≡ replies_again site done ++ reply_text (next_reply (made site done) e.call) ∷ []
replies_more site done e = ap (λ (s : Session). map text_of s.log) (made_more site done e) ∙ map-append text_of (made site done).log _

-- the lines of the first calls are no others where more calls follow
pub record Follow (site : Config) (done all : List Entry) : Type 0 where
  pub more : List Line
  pub log : (made site all).log ≡ (made site done).log ++ more

pub made_follow : (site : Config) (done later : List Entry) → Follow site done (done ++ later)
unfolding made
made_follow site done later =
    let grown = all_grow (made site done) (map asked later) in
    record {
      more = grown.more;
      log = ap (λ (s : Session). s.log) (ap (lined_all (opened_session site)) (map-append asked done later) ∙ all_split (opened_session site) (map asked done) (map asked later)) ∙ grown.log;
    }

pub one_reply_each : (site : Config) (entries : List Entry) → length (replies_again site entries) ≡ length entries
unfolding made
one_reply_each site entries =
    let grown = all_grow (opened_session site) (map asked entries) in
    length-map _ text_of ∙ ap length grown.log ∙ grown.one_each ∙ length-map entries asked
