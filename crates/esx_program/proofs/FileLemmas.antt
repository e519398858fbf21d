-- What a file that was opened and read comes to.
use Rattle.std.proofs.Common.{◌≡◌, ◌⊎◌, inl, inr, ℕ, List, Result, Ok, Err, refl}
use Rattle.std.specs.Prelude.{◌+◌, ◌≤◌, length, IsUtf8}
use Rattle.std.specs.Io.KnownBytes.{Consumes}
use Rattle.std.specs.Result.{IfErr, IfOk, IsErrOf, OnOk}
use Rattle.esx_reading.specs.declared.fault.TextFault.{TextFault}
use Rattle.esx_reading.specs.declared.fault.TextFault.TheVariants.{NotToml, BadKey, BadLine, NotText, Differs, Read, Write, OutOfMemory}
use Rattle.esx_reading.specs.declared.whole.TheConstants.{READS}
use Rattle.esx_reading.specs.Whole.{GivesMoreThan, GivesOnWithin, GivesWithin, IsOfText}
use Rattle.esx_scenario.specs.Scenarios.{IsRefused as IsNoPlan}
use Rattle.esx_session.specs.Reading.{GoesPastOpening}
use Rattle.esx_session.specs.Sessions.{HasOpening, IsRefused}
use Rattle.esx_text.specs.States.{SourceState}
use Rattle.esx_program.specs.Files.{FailsToReadWithin, HasText, IsNoCheck, IsNoScenario, IsNoSession, IsNoText, IsNoTextWithin, IsTextRead, IsTextReadWithin, LacksCheck, LacksText, Opened, ReadsPieces}

module _ (most : ℕ) (old new : SourceState) (pieces : ReadsPieces old new) where
  no_text_of : (e : TextFault) → IsOfText e
      → (e ≡ NotText → (bytes : List ℕ) × GivesWithin most old.remaining new.remaining bytes × (IsUtf8 bytes → ⊥) × (new.calls ≤ old.calls + length bytes + 1))
      → (e ≡ NotText → new.empty_reads ≡ old.empty_reads + 1)
      → (e ≡ Read → FailsToReadWithin most old new) → (e ≡ OutOfMemory → GivesOnWithin most old.remaining new.remaining old.calls new.calls)
      → (e ≡ OutOfMemory → new.empty_reads ≡ old.empty_reads) → ((e ≡ Read → ⊥) → new.failures ≡ old.failures) → IsNoTextWithin most old new e
  no_text_of NotToml is none found fails memory unended same = is
  no_text_of (BadKey path) is none found fails memory unended same = is
  no_text_of (BadLine n) is none found fails memory unended same = is
  no_text_of NotText is none found fails memory unended same =
      let whole = none refl in
      (whole.0, record { given = whole.1; failures = same (λ h. cc); calls = whole.3; found = found refl; pieces = pieces }, whole.2)
  no_text_of (Differs k) is none found fails memory unended same = is
  no_text_of Read is none found fails memory unended same = fails refl
  no_text_of Write is none found fails memory unended same = is
  no_text_of OutOfMemory is none found fails memory unended same =
      let on = memory refl in
      record {
        given = on;
        failures = same (λ h. cc);
        not_found = unended refl;
        pieces = pieces;
      }

  -- a text that could not be read
  pub no_text : {T : Type 0} (r : Result T TextFault) → IfErr r IsOfText
      → (IsErrOf r NotText → (bytes : List ℕ) × GivesWithin most old.remaining new.remaining bytes × (IsUtf8 bytes → ⊥) × (new.calls ≤ old.calls + length bytes + 1))
      → (IsErrOf r Read → (new.failures ≡ old.failures + 1)
      ⊎ ((new.failures ≡ old.failures) × ((new.calls ≡ old.calls + READS) ⊎ GivesMoreThan most old.remaining new.remaining)))
      → (IsErrOf r Read → (bytes : List ℕ) × Consumes old.remaining new.remaining bytes × (new.calls ≤ old.calls + length bytes + 1))
      → (IsErrOf r OutOfMemory → GivesOnWithin most old.remaining new.remaining old.calls new.calls)
      → ((IsErrOf r Read → ⊥) → new.failures ≡ old.failures)
      → (IsErrOf r NotText → new.empty_reads ≡ old.empty_reads + 1)
      → (IsErrOf r Read → new.empty_reads ≡ old.empty_reads)
      → (IsErrOf r OutOfMemory → new.empty_reads ≡ old.empty_reads) → IfErr r (IsNoTextWithin most old new)
  no_text (Ok v) is none cause each memory same found not_found not_found_in_memory = tt
  no_text (Err e) is none cause each memory same found not_found not_found_in_memory =
      no_text_of e is (λ h. none (cc)) (λ h. found (cc))
      (λ h. let on = each (cc) in
      record { cause = cause (cc); not_found = not_found (cc); each = record { input = on.0; read = on.1; each = on.2 }; pieces = pieces })
      (λ h. memory (cc)) (λ h. not_found_in_memory (cc)) (λ other. same (λ h. other (cc)))

  -- a text that was read
  pub is_text : {T : Type 0} (r : Result T TextFault) (bytes : T → List ℕ) → IfOk r (λ v. GivesWithin most old.remaining new.remaining (bytes v))
      → IfOk r (λ v. new.calls ≤ old.calls + length (bytes v) + 1) → ((IsErrOf r Read → ⊥) → new.failures ≡ old.failures)
      → OnOk r (new.empty_reads ≡ old.empty_reads + 1) → ((v : T) → IsUtf8 (bytes v)) → IfOk r (λ v. IsTextReadWithin most old new (bytes v))
  is_text (Ok v) bytes given calls same found utf8 = (record { given = given; failures = same (λ h. cc); calls = calls; found = found; pieces = pieces }, utf8 v)
  is_text (Err e) bytes given calls same found utf8 = tt

module _ (old new : SourceState) where
  -- it has no scenario either
  pub no_scenario_unread : (e : TextFault) → IsNoText old new e → IsNoScenario old new e
  no_scenario_unread NotToml n = absurd n
  no_scenario_unread (BadKey path) n = absurd n
  no_scenario_unread (BadLine k) n = n
  no_scenario_unread NotText n = n
  no_scenario_unread (Differs k) n = n
  no_scenario_unread Read n = n
  no_scenario_unread Write n = n
  no_scenario_unread OutOfMemory n = inl n

  -- nor a session
  pub no_session_unread : (e : TextFault) → IsNoText old new e → IsNoSession old new e
  no_session_unread NotToml n = n
  no_session_unread (BadKey path) n = n
  no_session_unread (BadLine k) n = absurd n
  no_session_unread NotText n = n
  no_session_unread (Differs k) n = n
  no_session_unread Read n = n
  no_session_unread Write n = n
  no_session_unread OutOfMemory n = inl n

  -- nor is it checked
  pub no_check_unread : (e : TextFault) → IsNoText old new e → IsNoCheck old new e
  no_check_unread NotToml n = n
  no_check_unread (BadKey path) n = n
  no_check_unread (BadLine k) n = absurd n
  no_check_unread NotText n = n
  no_check_unread (Differs k) n = n
  no_check_unread Read n = n
  no_check_unread Write n = n
  no_check_unread OutOfMemory n = inl n

  -- a text that was refused
  module _ (text : List ℕ) (given : IsTextRead old new text) where
    no_plan_of : (e : TextFault) → IsNoPlan text e → IsNoScenario old new e
    no_plan_of NotToml n = (text, given, n)
    no_plan_of (BadKey path) n = (text, given, n)
    no_plan_of (BadLine k) n = n
    no_plan_of NotText n = absurd n
    no_plan_of (Differs k) n = n
    no_plan_of Read n = absurd n
    no_plan_of Write n = n
    no_plan_of OutOfMemory n = inr (text, given)

    pub no_scenario : {T : Type 0} (r : Result T TextFault) → IfErr r (IsNoPlan text) → IfErr r (IsNoScenario old new)
    no_scenario (Ok v) n = tt
    no_scenario (Err e) n = no_plan_of e n

    no_session_of : (e : TextFault) → IsRefused e text → (e ≡ OutOfMemory → GoesPastOpening text) → IsNoSession old new e
    no_session_of NotToml n past = n
    no_session_of (BadKey path) n past = n
    no_session_of (BadLine k) n past = (text, given, n)
    no_session_of NotText n past = absurd n
    no_session_of (Differs k) n past = n
    no_session_of Read n past = absurd n
    no_session_of Write n past = n
    no_session_of OutOfMemory n past = inr (text, given, past refl)

    pub no_session : {T : Type 0} (r : Result T TextFault) → IfErr r (λ e. IsRefused e text) → (IsErrOf r OutOfMemory → GoesPastOpening text)
        → IfErr r (IsNoSession old new)
    no_session (Ok v) n past = tt
    no_session (Err e) n past = no_session_of e n (λ h. past (cc))

    no_check_of : (e : TextFault) → IsRefused e text → (e ≡ OutOfMemory → HasOpening text) → IsNoCheck old new e
    no_check_of NotToml n opening = n
    no_check_of (BadKey path) n opening = n
    no_check_of (BadLine k) n opening = (text, given, n)
    no_check_of NotText n opening = absurd n
    no_check_of (Differs k) n opening = n
    no_check_of Read n opening = absurd n
    no_check_of Write n opening = n
    no_check_of OutOfMemory n opening = inr (text, given, opening refl)

-- a file that has no text is not checked
pub no_text_no_check : (read : Opened) (e : TextFault) → LacksText read e → LacksCheck read e
no_text_no_check (Ok states) e n = no_check_unread states.0 states.1 e n
no_text_no_check (Err error) e n = n

-- a file whose text was refused where it was checked
pub text_refused : (read : Opened) (text : List ℕ) (e : TextFault) → HasText read text → IsRefused e text → (e ≡ OutOfMemory → HasOpening text) → LacksCheck read e
text_refused (Ok states) text e here n opening = no_check_of states.0 states.1 text here e n opening
text_refused (Err error) text e here n opening = absurd here
