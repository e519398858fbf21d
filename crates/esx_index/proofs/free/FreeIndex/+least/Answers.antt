use Rattle.std.proofs.Common.{sym, ap, ◌∙◌}
use Rattle.std.specs.List.{position_from}
use Rattle.esx_index.proofs.Marks.{leads_top, leads_over, unmarked_all, least_none, least_is, lowest_fits}
use Rattle.esx_index.proofs.free.FreeIndex.+least.Goals as goal

pub lowest_mark-requires : goal.lowest_mark-requires
lowest_mark-requires t c =
    let over = rw c.in-Top.is at c.self.invariant.over in
    rw c.deref.ensures.value (λ h. lowest_fits c.self.inside.len _ 0 (leads_top _ over) h c.self.invariant.within c.self.invariant.fits)

pub lowest_mark-requires-in-Words : goal.lowest_mark-requires-in-Words
lowest_mark-requires-in-Words t c =
    let over = rw c.in-Words.is at c.self.invariant.over in
    let found = ap (position_from (λ b. b) 0) (sym over.1 ∙ sym c.deref-in-Words-2.ensures) ∙ sym c.in_ok-least-in-Words.ensures in
    rw c.deref-in-Words.ensures.value (λ h. lowest_fits c.self.inside.len _ _ (leads_over _ _ found) h c.self.invariant.within c.self.invariant.fits)

pub returns-in-Top : goal.returns-in-Top
returns-in-Top t c =
    let over = rw c.in-Top.is at c.self.invariant.over in
    let told = rw c.deref.ensures.value at c.lowest_mark.ensures in
    rw (told.place, ← c.self.view_is) (least_is c.self.inside.len _ 0 (leads_top _ over) told.fits c.self.invariant.within)

pub returns-in_err-least-in-Words : goal.returns-in_err-least-in-Words
returns-in_err-least-in-Words t c =
    let over = rw c.in-Words.is at c.self.invariant.over in
    let none = ap (position_from (λ b. b) 0) (sym over.1 ∙ sym c.deref-in-Words-2.ensures) ∙ sym c.in_err-least-in-Words.ensures in
    rw (c.from_residual.ensures, ← c.self.view_is) (sym (least_none c.self.inside.len _ (unmarked_all _ none)))

pub returns-in_ok-least-in-Words : goal.returns-in_ok-least-in-Words
returns-in_ok-least-in-Words t c =
    let over = rw c.in-Words.is at c.self.invariant.over in
    let found = ap (position_from (λ b. b) 0) (sym over.1 ∙ sym c.deref-in-Words-2.ensures) ∙ sym c.in_ok-least-in-Words.ensures in
    let told = rw c.deref-in-Words.ensures.value at c.lowest_mark-in-Words.ensures in
    rw (told.place, ← c.self.view_is) (least_is c.self.inside.len _ _ (leads_over _ _ found) told.fits c.self.invariant.within)
