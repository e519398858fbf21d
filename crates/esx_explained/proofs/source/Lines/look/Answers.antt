use Rattle.std.proofs.Common.{List, ℕ, sym, ap, ◌∙◌, subst}
use Rattle.esx_text.specs.Lines.{HasNoFeed}
use Rattle.esx_explained.specs.Input.{ReadSoFar, after, next_line}
use Rattle.esx_explained.proofs.InputLemmas.{feed_at, no_feed, after_line}
use Rattle.esx_explained.proofs.source.Lines.look.Goals as goal

pub add-requires : goal.add-requires
add-requires g c =
    let ends = feed_at c.loop-at.rest.now c.in-Some.at (sym c.in-Some.ensures.place) in
    subst (λ (p : List ℕ). HasNoFeed p) (sym c.split_at.ensures.front) ends.before

pub loop-at-preserved : goal.loop-at-preserved
loop-at-preserved g c =
    let ends = feed_at c.loop-at.rest.now c.in-Some.at (sym c.in-Some.ensures.place) in
    let line = after_line c.loop-at.self c.loop-at.rest.now c.split_at.result.0.now c.split_at-in-Some.result.1.now c.in-Some.at ends c.split_at.ensures.front c.split_at-in-Some.ensures.back in
    ap (λ (r : ReadSoFar). after r c.split_at-in-Some.result.1.now) (c.end.ensures ∙ ap next_line c.add.ensures) ∙ sym line.1 ∙ c.loop-at.invariant

pub add-requires-2 : goal.add-requires-2
add-requires-2 g c = no_feed c.loop-at.rest.now (sym c.in_default.ensures.place)
