use Rattle.std.proofs.Common.{arith, refl, ◌≡◌, ◌++◌, ◌∷◌, [], sym, ap, ◌∙◌, length, append-nil}
use Rattle.esx_session.specs.Printing.{line_text}
use Rattle.esx_told.specs.declared.latest.Latest.TheVariants.{Told}
use Rattle.esx_told.specs.Told.{settled, pending}
use Rattle.esx_told.proofs.LogLemmas.{text_more, told_last, few_told, none_waits}
use Rattle.esx_told.proofs.text_log.TextLogLog.take_room.Goals as goal

pub invariant_of-self-in-Kept : goal.invariant_of-self-in-Kept
invariant_of-self-in-Kept c =
    let old = c.args.self.now in
    let line = c.in-Kept.line in
    let more : c.longer.result.value ≡ old.listed.value ++ line ∷ [] = c.longer.ensures ∙ ap (λ s. s.value ++ line ∷ []) c.replace.ensures.value in
    let latest : c.settled.result ≡ Told line = c.settled.ensures ∙ ap settled c.replace-in-Kept.ensures.value ∙ ap settled c.in-Kept.is in
    record {
      told = text_more old.listed.value c.longer.result.value old.text.items c.add_line.new.text.items line more old.told
          (c.in_ok-add_line.ensures.ok ∙ ap (λ h. old.text.items ++ (h ++ line_text line)) old.nothing_held);
      nothing_held = c.add_line.ensures.empty;
      last = told_last old.listed.value c.longer.result.value c.add_line.new.text.items line c.settled.result more latest;
      counted = old.counted ∙ ap (λ l. length (old.listed.value ++ pending l)) c.in-Kept.is ∙ ap length (sym more)
          ∙ ap length (sym (append-nil c.longer.result.value)) ∙ ap (λ l. length (c.longer.result.value ++ pending l)) (sym latest);
    }

pub returns-in_ok-add_line-clause-few : goal.returns-in_ok-add_line-clause-few
returns-in_ok-add_line-clause-few c =
    let old = c.args.self.now in
    let line = c.in-Kept.line in
    let more : c.longer.result.value ≡ old.listed.value ++ line ∷ [] = c.longer.ensures ∙ ap (λ s. s.value ++ line ∷ []) c.replace.ensures.value in
    let latest : c.settled.result ≡ Told line = c.settled.ensures ∙ ap settled c.replace-in-Kept.ensures.value ∙ ap settled c.in-Kept.is in
    let told = text_more old.listed.value c.longer.result.value old.text.items c.add_line.new.text.items line more old.told
    (c.in_ok-add_line.ensures.ok ∙ ap (λ h. old.text.items ++ (h ++ line_text line)) old.nothing_held) in
    let few = few_told c.longer.result.value c.settled.result c.add_line.new.text.items (ap pending latest) told in
    omega (arith, few, c.add_line.new.text.ok, c.add_line.new.text.small)

pub returns-in_default : goal.returns-in_default
returns-in_default c =
    let old = c.args.self.now in
    let none = none_waits old.latest c.in_default.not-Kept in
    let few = few_told old.listed.value old.latest old.text.items none old.told in
    record { kept = refl; room = none; few = omega (arith, few, old.text.ok, old.text.small) }
