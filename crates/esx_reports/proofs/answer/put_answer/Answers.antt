use Rattle.std.proofs.Common.{ap, refl, sym, subst}
use Rattle.esx_report.specs.Changes.{changes_csv}
use Rattle.esx_report.specs.Report.{report_text}
use Rattle.esx_report.specs.Steps.{steps_csv}
use Rattle.esx_report.specs.Why.{why_all, AreGoodWhys}
use Rattle.esx_reports.specs.declared.answer.Answer.TheVariants.{Why}
use Rattle.esx_reports.specs.Answers.{IsGood}
use Rattle.esx_reports.proofs.answer.put_answer.Goals as goal

pub put_whys-requires : goal.put_whys-requires
put_whys-requires g c =
    let good : IsGood (Why c.in-Why.whys) = subst IsGood c.in-Why.is c.requires in
    subst AreGoodWhys (sym c.as_slice.ensures.value) good

pub returns-in-Report-clause-bytes : goal.returns-in-Report-clause-bytes
returns-in-Report-clause-bytes g c = (let put = c.put_all_tables.ensures.bytes in rw c.in-Report.is (report_text put.0, (put.0, put.1, refl), put.2))

pub returns-in-Why-clause-bytes : goal.returns-in-Why-clause-bytes
returns-in-Why-clause-bytes g c = rw c.in-Why.is (why_all c.as_slice.result.now, ap why_all c.as_slice.ensures.value, c.put_whys.ensures.bytes)

pub returns-in-Steps-clause-bytes : goal.returns-in-Steps-clause-bytes
returns-in-Steps-clause-bytes g c = rw c.in-Steps.is (steps_csv c.as_slice-in-Steps.result.now, ap steps_csv c.as_slice-in-Steps.ensures.value, c.put_steps.ensures.bytes)

pub returns-in-Changes-clause-bytes : goal.returns-in-Changes-clause-bytes
returns-in-Changes-clause-bytes g c = rw c.in-Changes.is (changes_csv c.as_slice-in-Changes.result.now, ap changes_csv c.as_slice-in-Changes.ensures.value, c.put_changes.ensures.bytes)
