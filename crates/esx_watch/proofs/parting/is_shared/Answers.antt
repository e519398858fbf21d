use Rattle.std.proofs.Common.{refl, sym, ap, ◌∙◌}
use Rattle.esx_model.specs.declared.book.Book.{Book}
use Rattle.esx_model.specs.Readings.{page_state}
use Rattle.esx_figures.specs.Sharing.{is_told_shared}
use Rattle.esx_watch.proofs.Going.{book_shown}
use Rattle.esx_watch.proofs.parting.is_shared.Goals as goal

pub returns : goal.returns
returns c = λ scene shows. (
    let k = c.args.machine.now in
    c.is_told_shared.ensures ∙ ap is_told_shared (c.of_page.ensures ∙ ap (λ (b : Book). page_state b c.args.vm c.args.page) (book_shown k.config k scene shows refl))
    ∙ sym (c.sharing_is_told.ensures.page k.config scene c.args.vm c.args.page shows.sound))
