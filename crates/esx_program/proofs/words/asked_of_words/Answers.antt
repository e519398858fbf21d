use Rattle.std.proofs.Common.{◌∙◌, inl, ap, sym, map, string_bytes}
use Rattle.clap.specs.Words.{fault_of, is_simple, is_simple_and_free, subcommand_of, takes}
use Rattle.esx_program.specs.Words.{asked_at}
use Rattle.esx_program.proofs.WordLemmas.{asked_so, not_asked_so, not_true, on_any}
use Rattle.esx_program.proofs.words.asked_of_words.Goals as goal

pub returns-in-Ok-try_get_matches_from : goal.returns-in-Ok-try_get_matches_from
returns-in-Ok-try_get_matches_from c =
    let words = map string_bytes c.args.words.now in
    let rows = c.in-Ok-try_get_matches_from.ensures.matches (ap is_simple c.in-Ok.ensures) in
    let same = sym (ap (λ a. asked_at (subcommand_of a words)) c.in-Ok.ensures) ∙ sym (ap asked_at rows.1) in
    let fault = sym (ap (λ a. fault_of a words) c.in-Ok.ensures) ∙ c.in-Ok-try_get_matches_from.ensures.kinds (ap is_simple_and_free c.in-Ok.ensures) in
    record {
      ok = asked_so c.asked_of_matches.result _ _ same c.asked_of_matches.ensures.ok;
      refused = not_asked_so c.asked_of_matches.result _ _ _ same c.asked_of_matches.ensures.refused;
      taken = on_any c.asked_of_matches.result _ fault;
    }

pub returns : goal.returns
returns c = record {
  ok = tt;
  taken = tt;
  refused = λ _. inl (not_true _ (λ t.
      c.in_default-kind.not-OutOfMemory (c.kind.ensures ∙ c.in-Err.ensures.passes (ap (λ a. takes a (map string_bytes c.args.words.now)) c.in-Ok.ensures ∙ t))));
}
