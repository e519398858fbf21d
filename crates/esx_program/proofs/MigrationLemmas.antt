-- What is written of a migration.
use Rattle.std.proofs.Common.{inl, inr, ◌≡◌, ◌+◌, ℕ, List, [], Option, Result, Ok, Err, refl, sym, ◌∙◌, ap, length, map, arith}
use Rattle.std.proofs.lemmas.List.{length-map}
use Rattle.std.specs.Result.{IfErr, IfOk, OnOk}
use Rattle.std.specs.Io.KnownBytes.{Appends, Keeps}
use Rattle.esx_types.specs.declared.config.Config.{Config}
use Rattle.esx_types.specs.declared.ends.SinkFailed.{SinkFailed}
use Rattle.esx_model.specs.Console.{Session}
use Rattle.esx_writing.specs.Writing.{Writes, WritesFront, sink_faults}
use Rattle.esx_session.specs.declared.session.Entry.{Entry}
use Rattle.esx_session.specs.Sessions.{logged, session_text}
use Rattle.esx_check.specs.declared.check.Checked.TheVariants.{Same, Differs}
use Rattle.esx_check.specs.declared.fault.OutputFault.{OutputFault}
use Rattle.esx_check.specs.declared.fault.OutputFault.TheVariants.{Write, OutOfMemory}
use Rattle.esx_check.specs.Checks.{Checks, checked_text}
use Rattle.esx_check.specs.Migrations.{Migrates}
use Rattle.esx_text.specs.States.{SinkState}
use Rattle.esx_program.specs.Runs.{told_session}
use Rattle.esx_program.specs.Sessions.{IsMigrated, IsNotMigrated, failed_writes, migrated_as}
use Rattle.esx_program.proofs.OutgoingLemmas.{appends_kept, appends_nothing}

-- the console that a session was migrated to
module _ (site : Config) (entries : List Entry) (console : Session) (migrates : Migrates site entries console) (count : ℕ) (is : count ≡ length console.log) where
  told : told_session console ≡ session_text site entries
  told = ap (λ (v : Config). session_text v (map logged console.log)) migrates.opened ∙ ap (session_text site) migrates.told

  same : Checks site entries (Same count)
  same = (is ∙ (sym (length-map console.log logged) ∙ ap length migrates.told), migrates.same.1)

  pub console_told : (out out' : SinkState) (r : Result (Unit {0}) SinkFailed) → OnOk r (Appends out.contents out'.contents (told_session console))
      → out'.failures ≡ out.failures + sink_faults r → out'.flushes + sink_faults r ≡ out.flushes + 1 → OnOk r (out'.waiting ≡ [])
      → IfOk (migrated_as r (Same count)) (λ checked. IsMigrated site entries checked out out')
  console_told out out' (Ok v) bytes failures flushes sent =
      record { checks = same; told = rw told at bytes; failures = omega (arith, failures); flushes = omega (arith, flushes); sent = sent }
  console_told out out' (Err e) bytes failures flushes sent = tt

  pub console_not_told : (out out' : SinkState) (r : Result (Unit {0}) SinkFailed)
      → IfErr r (λ e. (taken : Option (List ℕ)) × WritesFront out.contents taken (told_session console) × (rest : List ℕ) × Appends out'.contents taken rest)
      → out'.failures ≡ out.failures + sink_faults r → out'.flushes + sink_faults r ≡ out.flushes + 1
      → IfErr (migrated_as r (Same count)) (λ e. IsNotMigrated e site entries out out')
  console_not_told out out' (Ok v) stops failures flushes = tt
  console_not_told out out' (Err e) stops failures flushes = record {
    taken = stops.0;
    ends = inr (Same count, same, rw told at stops.1);
    given = (stops.2, stops.3);
    failures = failures;
    flushes = flushes;
    sent = λ other. absurd (other refl);
  }

-- the line of a difference
module _ (site : Config) (entries : List Entry) (number : ℕ) (differs : Checks site entries (Differs number)) (out out' : SinkState) where
  pub difference_told : (r : Result (Unit {0}) SinkFailed) → Writes out.contents out'.contents (checked_text (Differs number)) r
      → out'.failures ≡ out.failures + sink_faults r → out'.flushes + sink_faults r ≡ out.flushes + 1 → OnOk r (out'.waiting ≡ [])
      → IfOk (migrated_as r (Differs number)) (λ checked. IsMigrated site entries checked out out')
  difference_told (Ok v) bytes failures flushes sent =
      record { checks = differs; told = bytes; failures = omega (arith, failures); flushes = omega (arith, flushes); sent = sent }
  difference_told (Err e) bytes failures flushes sent = tt

  pub difference_not_told : (r : Result (Unit {0}) SinkFailed) → Writes out.contents out'.contents (checked_text (Differs number)) r
      → out'.failures ≡ out.failures + sink_faults r → out'.flushes + sink_faults r ≡ out.flushes + 1
      → IfErr (migrated_as r (Differs number)) (λ e. IsNotMigrated e site entries out out')
  difference_not_told (Ok v) bytes failures flushes = tt
  difference_not_told (Err e) bytes failures flushes = record {
    taken = out'.contents;
    ends = inr (Differs number, differs, bytes);
    given = ([], appends_nothing out'.contents);
    failures = failures;
    flushes = flushes;
    sent = λ other. absurd (other refl);
  }

-- nothing was written, and what waits was handed on, or could not be
pub nothing_told : (e : OutputFault) (site : Config) (entries : List Entry) (out out' : SinkState) → Keeps out.contents out'.contents
    → out'.failures ≡ out.failures + failed_writes e → out'.flushes + failed_writes e ≡ out.flushes + 1 → ((e ≡ Write → ⊥) → out'.waiting ≡ [])
    → IsNotMigrated e site entries out out'
nothing_told Write site entries out out' keeps failures flushes sent = record {
  taken = out'.contents;
  ends = inl (appends_kept out.contents out.contents out'.contents [] (appends_nothing out.contents) keeps);
  given = ([], appends_nothing out'.contents);
  failures = failures;
  flushes = flushes;
  sent = sent;
}
nothing_told OutOfMemory site entries out out' keeps failures flushes sent = record {
  taken = out'.contents;
  ends = appends_kept out.contents out.contents out'.contents [] (appends_nothing out.contents) keeps;
  given = refl;
  failures = failures;
  flushes = flushes;
  sent = sent;
}
