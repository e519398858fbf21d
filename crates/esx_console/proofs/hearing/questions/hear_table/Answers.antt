use Rattle.std.proofs.Common.{◌≡◌, ◌∙◌, sym, ap, List}
use Rattle.esx_events.specs.declared.call.Call.TheVariants as calls
use Rattle.esx_events.specs.declared.call.Said.TheVariants as said
use Rattle.esx_events.specs.declared.call.Sum.{Sum}
use Rattle.esx_events.specs.declared.call.TableRow.{TableRow}
use Rattle.esx_model.specs.Readings.{sum_of, table_of}
use Rattle.esx_model.specs.History.{book_at}
use Rattle.esx_model.specs.Console.{outcome}
use Rattle.esx_console.proofs.Outcomes.{beside, tells}
use Rattle.esx_console.proofs.hearing.questions.hear_table.Goals as goal

pub returns : goal.returns
unfolding outcome
returns c = tells _ calls.Table (said.Table c.in_ok-rows.rows c.in_ok-sum.sum)
    (λ h holds.
    let book = c.machine-machine.ensures.book h holds in
    let rows : c.in_ok-rows.rows ≡ table_of (book_at h) = c.in_ok-rows.ensures ∙ c.in_ok-table.ensures ∙ ap table_of book in
    let sum : c.in_ok-sum.sum ≡ sum_of (book_at h) = c.in_ok-sum.ensures ∙ c.sum.ensures.value ∙ ap sum_of book in
    sym (ap (λ (r : List TableRow). beside h (said.Table r c.in_ok-sum.sum)) rows ∙ ap (λ (s : Sum). beside h (said.Table (table_of (book_at h)) s)) sum)) c.answered.result c.answered.ensures
