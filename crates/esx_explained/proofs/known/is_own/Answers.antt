use Rattle.std.proofs.Common.{codes, sym}
use Rattle.std.specs.Cmp.Lexicographic.{other_text}
use Rattle.std.proofs.lemmas.Slice.Eq.{bytes_eq-Decides}
use Rattle.esx_text.specs.declared.own.OwnWord.TheVariants.{Session, Order}
use Rattle.esx_text.proofs.PageOutLemmas.{asked_by_fields}
use Rattle.esx_explained.specs.Known.IsOwn.{by_word, by_page}
use Rattle.esx_explained.proofs.LineLemmas.{no_own}
use Rattle.esx_explained.proofs.known.is_own.Goals as goal

pub returns-then-eq-clause-yes : goal.returns-then-eq-clause-yes
returns-then-eq-clause-yes c = by_word Session ((bytes_eq-Decides c.args.text.now (codes "session")).0 (sym c.if-eq.ensures))

pub returns-then-eq-2-clause-yes : goal.returns-then-eq-2-clause-yes
returns-then-eq-2-clause-yes c = by_word Order ((bytes_eq-Decides c.args.text.now (codes "order")).0 (sym c.if-eq-2.ensures))

pub returns-in-Some-clause-yes : goal.returns-in-Some-clause-yes
returns-in-Some-clause-yes c =
    let asked = asked_by_fields c.asked_out.result c.args.text.now c.of.result c.of.ensures c.asked_out.ensures.some c.asked_out.ensures.none in
    by_page c.in-Some.field-0.0 c.in-Some.field-0.1 (rw c.in-Some.is at asked)

pub returns-in-None-clause-no : goal.returns-in-None-clause-no
returns-in-None-clause-no c =
    let asked = asked_by_fields c.asked_out.result c.args.text.now c.of.result c.of.ensures c.asked_out.ensures.some c.asked_out.ensures.none in
    no_own c.args.text.now (λ e. other_text _ _ c.if-eq.ensures e) (λ e. other_text _ _ c.if-eq-2.ensures e) (rw c.in-None.is at asked)
