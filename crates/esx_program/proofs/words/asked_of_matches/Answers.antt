use Rattle.std.proofs.Common.{◌≡◌, ◌∙◌, ap, sym, Some, option_map}
use Rattle.clap.specs.Words.{subcommand_rows_of}
use Rattle.esx_program.specs.Words.{asked_at}
use Rattle.esx_program.proofs.WordLemmas.{asked_ok, asked_not, both_of, name_of}
use Rattle.esx_program.proofs.words.asked_of_matches.Goals as goal

pub returns-in-Ok : goal.returns-in-Ok
returns-in-Ok c =
    let name : Some c.in-Some.word.now ≡ option_map (λ p. p.0) (subcommand_rows_of c.args.matches.now) = name_of _ _ _ c.in-Some.ensures.name in
    let both = both_of _ _ _ name c.in-Some.ensures.rows in
    let wanted = ap asked_at both ∙ sym c.in-Ok.ensures in
    record {
      ok = asked_ok c.ok_or.result c.in-Ok.asked _ c.ok_or.ensures.value wanted;
      refused = asked_not c.ok_or.result c.in-Ok.asked _ c.ok_or.ensures.value wanted;
    }
