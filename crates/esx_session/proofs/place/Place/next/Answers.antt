use Rattle.std.proofs.Common.{sym, ap, ◌∙◌, ◌∷◌, lit<}
use Rattle.std.specs.Str.Lines.{lines}
use Rattle.std.proofs.lemmas.Str.Pattern.{strip_suffix_char}
use Rattle.esx_session.specs.Reading.{Place}
use Rattle.esx_session.proofs.PlaceLemmas.{cut_line, uncut_line, feed_by_recursion, stripped, stripped_feed}
use Rattle.esx_session.proofs.place.Place.next.Goals as goal

pub returns-in-Some-clause-left : goal.returns-in-Some-clause-left
returns-in-Some-clause-left c =
    let s = strip_suffix_char 13 c.in-Some.line.now c.strip_suffix.result c.strip_suffix.ensures.cases (lit< tt) in
    rw c.unwrap_or.ensures (
    ap (λ (p : Place). p.left) (sym c.self.view_is)
    ∙ cut_line c.self.inside.rest.now c.in-Some.line.now c.in-Some.later.now c.in-Some.ensures.0 c.in-Some.ensures.1
    ∙ ap (λ t. t ∷ lines c.in-Some.later.now) (stripped c.in-Some.line c.strip_suffix.result s))

pub returns-in-Some-clause-line : goal.returns-in-Some-clause-line
returns-in-Some-clause-line c =
    let s = strip_suffix_char 13 c.in-Some.line.now c.strip_suffix.result c.strip_suffix.ensures.cases (lit< tt) in
    rw c.unwrap_or.ensures (stripped_feed c.in-Some.line c.strip_suffix.result s (feed_by_recursion c.in-Some.line.now c.in-Some.ensures.0))

pub returns-in-None-clause-left : goal.returns-in-None-clause-left
returns-in-None-clause-left c = ap (λ (p : Place). p.left) (sym c.self.view_is) ∙ uncut_line c.self.inside.rest.now c.in-None.ensures (sym c.if-is_empty.ensures)

pub returns-in-None-clause-line : goal.returns-in-None-clause-line
returns-in-None-clause-line c = feed_by_recursion c.self.inside.rest.now c.in-None.ensures
