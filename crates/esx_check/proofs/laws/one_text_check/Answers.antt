use Rattle.std.proofs.Common.{List, subst}
use Rattle.esx_types.specs.declared.config.Config.{Config}
use Rattle.esx_session.specs.declared.session.Entry.{Entry}
use Rattle.esx_check.specs.Checks.{Checks}
use Rattle.esx_check.proofs.laws.one_text_check.Goals as goal

pub returns : goal.returns
returns c = λ text checked other one two.
    let same = c.one_session.ensures text one.0 two.0 one.1 two.1 one.2 two.2 in
    let P : Config → Type 0 = λ site. Checks site one.1 checked in
    let Q : List Entry → Type 0 = λ entries. Checks two.0 entries checked in
    c.one_check.ensures two.0 two.1 checked other (subst Q same.1 (subst P same.0 one.3)) two.3
