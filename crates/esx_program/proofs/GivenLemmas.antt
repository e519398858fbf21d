-- What is done where the program is given words.
use Rattle.std.proofs.Common.{◌≡◌, ◌∙◌, ◌⊎◌, ℕ, List, Option, Some, None, Result, Ok, Err, refl, subst, sym, inr, false, map, string_bytes, option_map}
use Rattle.std.specs.Prelude.{IsSome, String, Vec}
use Rattle.std.specs.Result.{IfOk, IfErr}
use Rattle.std.specs.IoError.{error_kind}
use Rattle.std.specs.declared.alloc.Global.{Global}
use Rattle.std.specs.declared.io.Error.{Error}
use Rattle.clap.specs.Words.{Text as Word, takes}
use Rattle.esx_program.specs.declared.words.WordsFault.{WordsFault}
use Rattle.esx_program.specs.declared.words.WordsFault.TheVariants.{Wrong, OutOfMemory}
use Rattle.esx_program.specs.declared.Done.{Done}
use Rattle.std.specs.Borrow.{Bor}
use Rattle.esx_reading.specs.declared.fault.TextFault.TheVariants as text
use Rattle.esx_program.specs.declared.words.Asked.{Asked}
use Rattle.esx_program.specs.declared.Failure.{Failure}
use Rattle.esx_program.specs.declared.Failure.TheVariants.{Words, Text, Serve, Output, Run, Report}
use Rattle.esx_program.specs.Doing.{AskForNothing, DoesGiven, DoesWords}
use Rattle.esx_program.specs.Failing.{AnswersQuestion, Asks, DoesAsked, EndsWith, FailsAfter, MayFail, refused_as}
use Rattle.esx_program.specs.Given.{Args, GivesWords, words_failure}
use Rattle.esx_program.specs.Status.{word_of_done}
use Rattle.esx_program.specs.Words.{InFull, asked_in, asked_of, named_in_full, program_app}
use Rattle.esx_program.proofs.StandardLemmas.{may_fail_so}

-- words that were refused
pub ask_for_nothing : (words : List Word) (fault : WordsFault) → (fault ≡ Wrong → (takes program_app words ≡ false) ⊎ (asked_in words ≡ None))
    → AskForNothing words (Err (refused_as fault))
ask_for_nothing words Wrong why = why refl
ask_for_nothing words OutOfMemory why = tt

-- what was done is what the words ask for
pub does_asked : (r : Result Done Failure) (words : List Word) (asked : InFull) (word : Word) → Asks words asked → word ≡ asked.word → IfOk r (λ done. word_of_done done ≡ word)
    → IfOk r (λ done. AnswersQuestion done asked.question) → IfOk r (DoesAsked words)
does_asked (Ok done) words asked word asks same is answers =
    (asked, asks, sym (is ∙ same), answers)
does_asked (Err e) words asked word asks same is answers = tt

-- it fails as what the words ask for may fail
still_some : (o : Option (Bor Word)) → IsSome o → IsSome (option_map (λ f. f.now) o)
still_some None some = some
still_some (Some f) some = refl

module _ (words : List Word) (named : Asked (Bor Word)) (asks : Asks words (named_in_full named)) where
  abbrev in_full : Word × Option Word
  in_full = ((named_in_full named).word, (named_in_full named).file)

  may_fail : (failure : Failure) → MayFail (asked_of named) failure → MayFail in_full failure
  may_fail failure m = may_fail_so in_full (asked_of named) refl (still_some (asked_of named).1) failure m

  fails : (failure : Failure) → MayFail (asked_of named) failure → FailsAfter words failure
  fails Words m = absurd m
  fails (Text text.NotToml) m = (named_in_full named, asks, may_fail (Text text.NotToml) m)
  fails (Text (text.BadKey path)) m = (named_in_full named, asks, may_fail (Text (text.BadKey path)) m)
  fails (Text (text.BadLine n)) m = (named_in_full named, asks, may_fail (Text (text.BadLine n)) m)
  fails (Text text.NotText) m = (named_in_full named, asks, may_fail (Text text.NotText) m)
  fails (Text (text.Differs k)) m = absurd m
  fails (Text text.Read) m = (named_in_full named, asks, may_fail (Text text.Read) m)
  fails (Text text.Write) m = absurd m
  fails (Text text.OutOfMemory) m = tt
  fails (Serve e) m = (named_in_full named, asks, may_fail (Serve e) m)
  fails (Output e) m = (named_in_full named, asks, may_fail (Output e) m)
  fails (Run e) m = (named_in_full named, asks, may_fail (Run e) m)
  fails (Report e) m = (named_in_full named, asks, may_fail (Report e) m)

  pub fails_after : (r : Result Done Failure) → IfErr r (MayFail (asked_of named)) → IfErr r (FailsAfter words)
  fails_after (Ok done) m = tt
  fails_after (Err failure) m = fails failure m

-- the words that were given are those that are held
module _ (words : Vec (String Global) Global) (slice : List (String Global)) (same : slice ≡ words.items) where
  pub ends_given : (given : Result Args Error) → GivesWords given (Ok words) → (ended : Result Done Failure)
      → IfOk ended (DoesAsked (map string_bytes slice)) → IfErr ended (FailsAfter (map string_bytes slice)) → EndsWith given ended
  ends_given (Ok args) gives (Ok done) ok fault = subst (λ (l : List (String Global)). DoesAsked (map string_bytes l) done) (same ∙ gives) ok
  ends_given (Ok args) gives (Err failure) ok fault = subst (λ (l : List (String Global)). FailsAfter (map string_bytes l) failure) (same ∙ gives) fault
  ends_given (Err e) gives ended ok fault = absurd (cc)

  pub does_given : {F : Type 0} (remaining : F → Option (List ℕ)) (given : Result Args Error) → GivesWords given (Ok words)
      → (ended : Result Done Failure) (unread left errors errors' out out' : Option (List ℕ))
      → DoesWords remaining (map string_bytes slice) ended unread left errors errors' out out' → DoesGiven remaining given ended unread left errors errors' out out'
  does_given remaining (Ok args) gives ended unread left errors errors' out out' does =
      subst (λ (l : List (String Global)). DoesWords remaining (map string_bytes l) ended unread left errors errors' out out') (same ∙ gives) does
  does_given remaining (Err e) gives ended unread left errors errors' out out' does = absurd (cc)

-- the words could not be held, or not be read
module _ (failure : Failure) where
  pub ends_unread : (given : Result Args Error) → GivesWords given (Err failure) → EndsWith given (Err failure)
  ends_unread (Ok args) gives = rw gives tt
  ends_unread (Err e) gives = let same : failure ≡ words_failure (error_kind e) = cc in rw same refl

  pub does_unread : {F : Type 0} (remaining : F → Option (List ℕ)) (given : Result Args Error) → GivesWords given (Err failure)
      → (unread errors out : Option (List ℕ)) → DoesGiven remaining given (Err failure) unread unread errors errors out out
  does_unread remaining (Ok args) gives unread errors out = rw gives (inr (tt, refl, refl, refl))
  does_unread remaining (Err e) gives unread errors out = (refl, refl, refl)
