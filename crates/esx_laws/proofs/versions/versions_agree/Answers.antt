use Rattle.esx_laws.proofs.Agreement.{opened_alike, books_alike}
use Rattle.esx_laws.proofs.versions.versions_agree.Goals as goal

pub returns-clause-played : goal.returns-clause-played
returns-clause-played c = λ looked config es fine apart at. opened_alike looked apart config es fine at

pub returns-clause-shown : goal.returns-clause-shown
returns-clause-shown c = books_alike
