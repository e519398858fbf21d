use Rattle.std.proofs.Common.{Some, ap, refl}
use Rattle.esx_program.specs.Status.{word_of_what}
use Rattle.esx_program.specs.declared.words.Asked.TheVariants.{Console, Record, Run, Replay, Check, Diff, Migrate, Report, Help}
use Rattle.esx_program.proofs.commands.run_asked.Goals as goal

pub returns-in-Console : goal.returns-in-Console
returns-in-Console g c =
    let done = c.serve_file.ensures in
    rw (c.in-Console.is, done.errors) (Console done.served.0 c.in-Console.manner, record { word = (refl, refl); file = done.served.1; question = refl; manner = refl }, (done.served.2, refl))

pub returns-in-Record : goal.returns-in-Record
returns-in-Record g c =
    let done = c.record_file.ensures in
    rw c.in-Record.is (Record done.0, record { word = (refl, refl); file = done.1; question = refl; manner = refl }, done.2)

pub returns-in-Run : goal.returns-in-Run
returns-in-Run g c =
    let done = c.run_file.ensures in
    rw (c.in-Run.is, done.reader) (Run done.ran.0, record { word = (refl, refl); file = done.ran.1; question = refl; manner = refl }, (done.ran.2, refl))

pub returns-in-Replay : goal.returns-in-Replay
returns-in-Replay g c =
    let done = c.replay_file.ensures in
    rw (c.in-Replay.is, done.reader, done.errors) (Replay done.replayed.0, record { word = (refl, refl); file = done.replayed.1; question = refl; manner = refl }, (done.replayed.2, refl, refl))

pub returns-in-Check : goal.returns-in-Check
returns-in-Check g c =
    let done = c.check_file-ended.ensures in
    rw c.in-Check.is (Check done.0, record { word = (refl, refl); file = done.1; question = refl; manner = refl }, (done.2, refl, refl))

pub returns-in-Migrate : goal.returns-in-Migrate
returns-in-Migrate g c =
    let done = c.migrate_file.ensures in
    rw (c.in-Migrate.is, done.reader, done.errors) (Migrate done.migrated.0, record { word = (refl, refl); file = done.migrated.1; question = refl; manner = refl }, (done.migrated.2, refl, refl))

pub returns-in-Diff : goal.returns-in-Diff
returns-in-Diff g c =
    let done = c.diff_file-ended.ensures in
    rw c.in-Diff.is (Diff done.0, record { word = (refl, refl); file = done.1; question = refl; manner = refl }, (done.2, refl, refl))

pub returns-in-Report : goal.returns-in-Report
returns-in-Report g c =
    let done = c.report_file-ended.ensures in
    let same = c.taken_out-question.ensures.value in
    rw c.in-Report.is (
      Report done.0 c.taken_out-question.result,
      record {
        word = (ap word_of_what c.taken_out-question.ensures.what, ap (λ q. word_of_what q.what) same);
        file = done.1;
        question = ap Some same;
        manner = refl;
      },
      (done.2, refl, refl),
    )

pub returns-in-Help : goal.returns-in-Help
returns-in-Help g c = rw c.in-Help.is (Help, record { word = (refl, refl); file = tt; question = refl; manner = refl }, (c.help_to-ended.ensures, refl, refl))
