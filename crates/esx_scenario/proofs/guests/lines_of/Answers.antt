use Rattle.std.proofs.Common.{◌∷◌, [], sym, ◌∙◌, refl, arith, length-append}
use Rattle.std.proofs.lemmas.List.Elements.{All-append, All-cons, All-nil}
use Rattle.esx_scenario.specs.Lines.{IsWithin}
use Rattle.esx_scenario.proofs.GuestLemmas.{item_here, no_item_here, text_none, lines_kind, lines_wrong, lines_more, lines_end}
use Rattle.esx_scenario.proofs.guests.lines_of.Goals as goal

pub returns-in_default-clause-exact : goal.returns-in_default-clause-exact
returns-in_default-clause-exact c =
    let here = item_here c.args.values.now c.loop-value.value-index c.value-item.result c.value-item.is c.loop-value-test.true in
    sym (c.loop-value.invariant.exact ∙ lines_kind _ _ _ _ _ _ here (text_none c.as_str.result _ c.as_str.ensures c.in_default.is))

pub returns-in_default-2-clause-exact : goal.returns-in_default-2-clause-exact
returns-in_default-2-clause-exact c =
    let here = item_here c.args.values.now c.loop-value.value-index c.value-item.result c.value-item.is c.loop-value-test.true in
    sym (c.loop-value.invariant.exact ∙ lines_wrong _ _ _ _ _ _ _ here c.in-Some.ensures (sym c.in_default-2.is ∙ c.in_ok-line.ensures.exact))

pub loop-value-preserved : goal.loop-value-preserved
loop-value-preserved c =
    let here = item_here c.args.values.now c.loop-value.value-index c.value-item.result c.value-item.is c.loop-value-test.true in
    let stays = IsWithin c.args.size c.args.pages in
    record {
      exact = c.loop-value.invariant.exact ∙ lines_more _ _ _ _ _ _ _ c.in-Some-2.line here c.in-Some.ensures (sym c.in-Some-2.is ∙ c.in_ok-line.ensures.exact) ∙ rw c.in_ok-push.ensures.ok refl;
      within = rw c.in_ok-push.ensures.ok (All-append stays c.loop-value.lines (c.in-Some-2.line ∷ []) c.loop-value.invariant.within (All-cons stays c.in-Some-2.line [] (rw c.in-Some-2.is at c.in_ok-line.ensures.within) (All-nil stays)));
      count = rw c.in_ok-push.ensures.ok (omega (arith, c.loop-value.invariant.count, length-append c.loop-value.lines (c.in-Some-2.line ∷ [])));
    }

pub returns-clause-exact : goal.returns-clause-exact
returns-clause-exact c = sym (c.loop-value.invariant.exact ∙ lines_end _ _ _ _ (no_item_here _ _ c.loop-value-test.false))
