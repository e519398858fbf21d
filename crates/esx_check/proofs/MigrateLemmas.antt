-- What a migration knows on its way, and at its end.
use Rattle.std.proofs.Common.{◌≡◌, ◌≤◌, ◌<◌, ℕ, ◌+◌, suc, List, [], ◌∷◌, ◌++◌, refl, sym, ◌∙◌, ap, subst, length, get_or, map, take, drop, arith}
use Rattle.std.proofs.Math.Seq.{drop-cons}
use Rattle.std.proofs.lemmas.List.{length-take-le, take-append-drop, take_all, take_more}
use Rattle.std.specs.Str.Lines.{lines}
use Rattle.esx_types.specs.declared.config.Config.{Config}
use Rattle.esx_types.specs.declared.version.Version.{Version}
use Rattle.esx_types.specs.declared.version.Version.TheVariants.{One, Two}
use Rattle.esx_model.specs.Console.{Session, IsLegal, next_reply, lined}
use Rattle.esx_console.specs.Calls.{Asked, opened_session, lined_all}
use Rattle.esx_replies.specs.Replies.{reply_text}
use Rattle.esx_session.specs.declared.session.Entry.{Entry}
use Rattle.esx_session.specs.Sessions.{ended, head_line, head_text, logged, session_text, version_text, Reads}
use Rattle.esx_check.specs.declared.check.Checked.TheVariants.{Differs}
use Rattle.esx_check.specs.Again.{asked, made, replies_again}
use Rattle.esx_check.specs.Checks.{Checks, replies_told}
use Rattle.esx_check.specs.Gates.{GoesTo}
use Rattle.esx_check.specs.Migrations.{Migrates}
use Rattle.esx_check.proofs.AgainLemmas.{again_nothing, made_more, made_nothing}
use Rattle.esx_check.proofs.CheckLemmas.{differs_here, goes_to_next, same_more}
use Rattle.esx_check.proofs.LawLemmas.{same_is_told}

all_at_site : (s : Session) (xs : List Asked) → (lined_all s xs).site ≡ s.site
unfolding lined_all
all_at_site s [] = refl
all_at_site s (x ∷ xs) = all_at_site (lined s x.caller x.call) xs

made_at_site : (site : Config) (entries : List Entry) → (made site entries).site ≡ site
unfolding made
made_at_site site entries = all_at_site (opened_session site) (map asked entries)

-- a console at which the first calls were made, each with the reply that stands with it
pub record MadeSoFar (site : Config) (entries : List Entry) (count : ℕ) (console : Session) : Type 0 where
  pub calls : console ≡ made site (take count entries)
  pub same : replies_again site (take count entries) ≡ replies_told (take count entries)

pub nothing_made : (site : Config) (entries : List Entry) (console : Session) → console ≡ opened_session site → MadeSoFar site entries 0 console
nothing_made site entries console is = record { calls = is ∙ sym (made_nothing site); same = again_nothing site }

-- one entry more
module _ (site : Config) (entries : List Entry) (count : ℕ) (e : Entry) (within : count < length entries) (is : e ≡ get_or entries count e)
    (console : Session) (so_far : MadeSoFar site entries count console) where
  next : take (count + 1) entries ≡ take count entries ++ e ∷ []
  next = take_more entries count e within ∙ ap (λ (x : Entry). take count entries ++ x ∷ []) (sym is)

  split : entries ≡ take count entries ++ e ∷ drop (suc count) entries
  split = sym (take-append-drop count entries) ∙ ap (λ (v : List Entry). take count entries ++ v) (drop-cons entries count e within)
      ∙ ap (λ (x : Entry). take count entries ++ x ∷ drop (suc count) entries) (sym is)

  counted : count ≡ length (take count entries)
  counted = sym (length-take-le count entries (omega arith))

  pub one_more_made : (after : Session) → after ≡ lined (made site (take count entries)) e.caller e.call
      → reply_text (next_reply (made site (take count entries)) e.call) ≡ e.reply → MadeSoFar site entries (count + 1) after
  one_more_made after lines reply = record {
    calls = lines ∙ sym (ap (made site) next ∙ made_more site (take count entries) e);
    same = subst (λ (l : List Entry). replies_again site l ≡ replies_told l) (sym next) (same_more site (take count entries) e so_far.same reply);
  }

  pub differs_at : (reply_text (next_reply (made site (take count entries)) e.call) ≡ e.reply → ⊥) → Checks site entries (Differs (count + 1))
  differs_at other = differs_here site entries (take count entries) (drop (suc count) entries) e count split so_far.same other counted

  pub goes_on : GoesTo site entries (count + 1)
  goes_on = goes_to_next site entries (take count entries) (drop (suc count) entries) e count split so_far.same counted

pub goes_nowhere : (site : Config) (entries : List Entry) → GoesTo site entries 0
goes_nowhere site entries = record { within = omega arith; same = refl }

-- all calls were made
pub all_migrated : (site : Config) (entries : List Entry) (count : ℕ) (console : Session) → MadeSoFar site entries count console → length entries ≤ count → IsLegal console
    → Migrates site entries console
all_migrated site entries count console so_far end legal =
    let all : take count entries ≡ entries = take_all count entries end in
    let calls : console ≡ made site entries = so_far.calls ∙ ap (made site) all in
    let same : replies_again site entries ≡ replies_told entries = subst (λ (l : List Entry). replies_again site l ≡ replies_told l) all so_far.same in
    record {
      opened = ap (λ (s : Session). s.site) calls ∙ made_at_site site entries;
      calls = calls;
      same = (refl, same);
      legal = legal;
      told = ap (λ (s : Session). map logged s.log) calls ∙ same_is_told site entries same;
    }

-- a text behind its first line
behind : (version other : Version) (xs ys : List ℕ) → head_text version ++ xs ≡ head_text other ++ ys → xs ≡ ys
behind One One xs ys e = ap (drop 14) e
behind One Two xs ys e = ap (drop 14) e
behind Two One xs ys e = ap (drop 14) e
behind Two Two xs ys e = ap (drop 14) e

pub printed_lines : (text : List ℕ) (version : Version) (others : List (List ℕ)) (site : Config) (entries : List Entry) → lines text ≡ head_line version ∷ others
    → Reads text site entries → session_text site entries ≡ ended (head_line Two ∷ others)
printed_lines text version others site entries is reads =
    let all : head_text version ++ ended others ≡ version_text reads.version site entries = sym (ap ended is) ∙ reads.same in
    sym (ap (λ (v : List ℕ). head_text Two ++ v) (behind version reads.version (ended others) _ all))
