use Rattle.std.proofs.Common.{◌≡◌, refl, ◌∙◌}
use Rattle.esx_formulas.proofs.DigestFacts.{padded_end}
use Rattle.esx_formulas.proofs.digest.padded.Goals as goal

pub returns-clause-bytes : goal.returns-clause-bytes
returns-clause-bytes c =
    let copied : c.copy_from_slice.new.self ≡ c.args.rest.now = c.copy_from_slice.ensures.after in
    rw copied (padded_end c.args.rest.now _ _ _ c.args.total c.requires.short c.requires.rest refl (c.copy_from_slice-2.ensures.after ∙ c.to_be_bytes.ensures))
