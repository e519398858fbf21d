use Rattle.esx_recording.proofs.LawLemmas.{keeps_unknown}
use Rattle.esx_recording.proofs.laws.unknown_is_kept.Goals as goal

pub returns : goal.returns
returns c = keeps_unknown
