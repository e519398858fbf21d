use Rattle.std.proofs.Common.{◌∙◌, ap, sym, subst, drop, ◌+◌}
use Rattle.std.proofs.lemmas.List.{drop-drop}
use Rattle.esx_text.specs.Lines.{EndsAt}
use Rattle.esx_text.proofs.EndsLemmas.{behind, one_line_more, behind_one_more}
use Rattle.esx_text.proofs.ahead.Ahead.look_on.Goals as goal

pub loop-at-preserved : goal.loop-at-preserved
loop-at-preserved g c =
    let text = c.args.text.now in
    let at = c.in-Some.at in
    let before = c.loop-at.invariant in
    record {
      found = rw c.in-Some.ensures.1 (one_line_more text c.loop-at.ends at before.found (subst (λ t. EndsAt t at) before.rest c.in-Some.ensures.0));
      rest = c.split_at-in-Some.ensures.back ∙ ap (drop 1) c.split_at.ensures.back ∙ drop-drop 1 at c.loop-at.rest.now ∙ ap (drop (at + 1)) before.rest
          ∙ sym (ap (behind text) c.in-Some.ensures.1 ∙ behind_one_more text c.loop-at.ends at);
    }
