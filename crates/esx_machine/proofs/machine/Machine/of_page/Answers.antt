use Rattle.std.proofs.Common.{◌≡◌, sym, ◌∙◌, subst}
use Rattle.esx_model.specs.Readings.{page_state}
use Rattle.esx_machine.specs.Machine.{Kept, book_in}
use Rattle.esx_machine.proofs.Paged.{kept_page}
use Rattle.esx_machine.proofs.machine.Machine.of_page.Goals as goal

pub returns : goal.returns
returns c =
    let k : Kept = record { config = c.self.inside.thresholds; level = c.self.inside.level; tables = c.self.inside.tables } in
    let P : Kept → Type 0 = λ x. c.page_state.result ≡ page_state (book_in x) c.args.vm c.args.page in
    subst P c.self.view_is (c.page_state.ensures ∙ sym (kept_page k c.args.vm c.args.page c.self.invariant))
