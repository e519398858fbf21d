use Rattle.std.proofs.Common.{ℕ, Option, ap, sym, ◌∙◌}
use Rattle.esx_story.specs.declared.story.Loss.{Loss}
use Rattle.std.specs.Prelude.{List}
use Rattle.esx_walk.specs.Account.{Account, refused}
use Rattle.esx_walk.specs.Kept.{account_of}
use Rattle.esx_walk.proofs.Waiting.{refusal_goes_on}
use Rattle.esx_walk.proofs.Few.{patient_waits}
use Rattle.esx_walk.proofs.account.Account.refuse.Goals as goal

pub wait-requires : goal.wait-requires
wait-requires c = patient_waits (account_of c.args.self.now) c.requires.few

pub returns : goal.returns
returns c = λ config ms mets m s account is.
    let a : Account = account_of c.args.self.now in
    refusal_goes_on config ms mets m s a _
    (ap (λ (ls : List Loss). record a { losses = ls }) c.wait.ensures ∙ sym (ap (λ (o : Option (ℕ × ℕ)). refused a o m.refusal) is.1 ∙ ap (refused a c.args.access) is.2))
    account (record { at = is.0 })
