use Rattle.std.proofs.Common.{◌≡◌, ◌<◌, ◌∙◌, get_or, ap, sym, arith, refl, inl, inr}
use Rattle.std.specs.Cmp.Lexicographic.{other_text}
use Rattle.std.proofs.lemmas.Bool.{cases_lt}
use Rattle.esx_explained.specs.Words.{command_word}
use Rattle.esx_explained.specs.declared.command.Command.TheVariants.{Admit}
use Rattle.esx_explained.specs.declared.command.TheConstants.{COMMANDS}
use Rattle.esx_explained.proofs.WordLemmas.{place_of, stands, within, word_at}
use Rattle.esx_explained.proofs.command.command_of.Goals as goal

pub loop-command-preserved : goal.loop-command-preserved
loop-command-preserved c =
    let i = c.loop-command.command-index in
    let lt : i < 35 = c.loop-command-test.true in
    let e : c.name.result.now ≡ command_word (get_or COMMANDS i Admit) = c.name.ensures.word in
    record {
      all = refl;
      none = λ k d less is. elim (cases_lt k i) [
        | inl before ↦ c.loop-command.invariant.none k d before is
        | inr past ↦ (let same : k ≡ i = omega arith in other_text c.name.result.now c.args.word.now c.if-eq.ensures (e ∙ (word_at i k d lt same ∙ sym is)))
      ];
    }

pub returns-clause-only : goal.returns-clause-only
returns-clause-only c = λ command e.
    let few = within command in
    c.loop-command.invariant.none (place_of command) command (omega arith) (e ∙ ap command_word (sym (stands command command)))
