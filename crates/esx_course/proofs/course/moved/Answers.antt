use Rattle.std.proofs.Common.{◌≡◌, ℕ, ◌<◌, List, Option, sym, ap, subst, ◌∙◌}
use Rattle.std.specs.Option.{ForSome}
use Rattle.esx_types.specs.declared.config.TheConstants.{VM_NUMBERS}
use Rattle.esx_events.specs.declared.event.Event.{Event}
use Rattle.esx_machine.specs.Machine.{Kept, Trades, book_in}
use Rattle.esx_passages.specs.declared.passage.Pages.{Pages}
use Rattle.esx_passages.specs.Passages.{movers}
use Rattle.esx_passages.specs.Readings.{new_epoch}
use Rattle.esx_course.specs.declared.looking.Spots.{Spots}
use Rattle.esx_course.specs.Looking.{spots_in, passed_by, with_epoch}
use Rattle.esx_course.proofs.course.moved.Goals as goal

pub returns-clause-same : goal.returns-clause-same
returns-clause-same c =
    let need = c.requires.back in
    let one = c.flip.ensures need.0 need.1 in
    let P : Kept → Type 0 = λ k. Trades c.flip.new.back k c.args.machine.now in
    (c.flip-2.ensures c.args.machine.now (subst P (sym one.0) one.1)).0

pub returns-clause-moved : goal.returns-clause-moved
returns-clause-moved c = λ there trades. (
    let e : Event = c.args.event.now in
    let a = c.args.answer.now in
    let m = c.args.machine.now in
    let epochs : List ℕ = c.args.epochs.now in
    let pages : Pages = c.movers-pages.result in
    let one = c.flip.ensures there trades in
    let P : Kept → Type 0 = λ k. Trades c.flip.new.back k m in
    let two = c.flip-2.ensures m (subst P (sym one.0) one.1) in
    let later = with_epoch epochs (new_epoch e a) in
    let from : c.spots_in-from.result ≡ spots_in (book_in there) epochs pages = c.spots_in-from.ensures ∙ ap (λ (k : Kept). spots_in (book_in k) epochs pages) one.0 in
    let to : c.spots_in-to.result ≡ spots_in (book_in m) later pages =
    c.spots_in-to.ensures ∙ ap (λ (k : Kept). spots_in (book_in k) c.keep_epoch.new.epochs pages) two.0
    ∙ ap (λ xs. spots_in (book_in m) xs pages) (c.keep_epoch.ensures.kept ∙ ap (with_epoch epochs) c.new_epoch.ensures) in
    c.passed_by.ensures
    ∙ ap (λ (z : Spots). passed_by e a pages z c.spots_in-to.result) from
    ∙ ap (passed_by e a pages (spots_in (book_in there) epochs pages)) to
    ∙ ap (λ (p : Pages). passed_by e a p (spots_in (book_in there) epochs p) (spots_in (book_in m) later p)) c.movers-pages.ensures)

pub returns-clause-within : goal.returns-clause-within
returns-clause-within c =
    let P : Option (ℕ × ℕ) → Type 0 = λ o. ForSome o (λ p. p.0 < VM_NUMBERS) in
    subst P c.new_epoch.ensures c.keep_epoch.ensures.within
