use Rattle.std.proofs.Common.{rules, ◌≡◌, ◌∷◌, [], ℕ, List, ◌<◌, length, drop, sym, ◌∙◌, subst, arith, refl}
use Rattle.esx_explained.specs.Tried.{parts, IsEventPart, AreEventsBefore}
use Rattle.esx_events.specs.declared.events.TheConstants.{MAX_EVENTS}
use Rattle.esx_explained.proofs.LineLemmas.{one_read, last_read, each_more, more_parts}
use Rattle.esx_explained.proofs.reason.amiss_events.Goals as goal

pub returns-in-None : goal.returns-in-None
returns-in-None c =
    let text : List ℕ = c.args.text.now in
    let at : ℕ = c.loop-at.at in
    let part : List ℕ = c.first_part.result.0.now in
    let left : drop at (parts text) ≡ part ∷ [] = c.loop-at.invariant.left ∙ rw c.in-None.is at c.first_part.ensures in
    let count = last_read (parts text) part at left in
    let lt = c.loop-at-test.true in
    let right = rw c.in_default.is at c.amiss_part.ensures in
    let before = each_more IsEventPart (parts text) [] part at left right c.loop-at.invariant.before in
    (refl, λ other. absurd (other refl), λ same. (text, refl, (omega arith, subst (λ (n : ℕ). AreEventsBefore text n) (sym count) before)))

pub loop-at-preserved : goal.loop-at-preserved
loop-at-preserved c =
    let text : List ℕ = c.args.text.now in
    let at : ℕ = c.loop-at.at in
    let part : List ℕ = c.first_part.result.0.now in
    let later : List (List ℕ) = parts c.in-Some-later.later.now in
    let left : drop at (parts text) ≡ part ∷ later = c.loop-at.invariant.left ∙ rw c.in-Some-later.is at c.first_part.ensures in
    let right = rw c.in_default.is at c.amiss_part.ensures in
    record {
      left = (one_read (parts text) later part at left).1;
      before = each_more IsEventPart (parts text) later part at left right c.loop-at.invariant.before;
      utf8 = search rules;
    }

pub returns : goal.returns
returns c =
    let text : List ℕ = c.args.text.now in
    let more = more_parts text c.loop-at.rest.now c.loop-at.at c.loop-at.invariant.left in
    let end = c.loop-at-test.false in
    let all = c.loop-at.auto.at-end in
    let same : c.loop-at.at ≡ MAX_EVENTS = omega arith in
    (refl, text, refl, (subst (λ (n : ℕ). n < length (parts text)) same more, subst (λ (n : ℕ). AreEventsBefore text n) same c.loop-at.invariant.before))
