use Rattle.std.proofs.Common.{Ok, ap}
use Rattle.esx_scenario.specs.Scenarios.{version_of}
use Rattle.esx_scenario.proofs.GuestLemmas.{gives_err}
use Rattle.esx_scenario.proofs.KeyLemmas.{then_ok, then_err}
use Rattle.esx_scenario.proofs.ScenarioLemmas.{other_version}
use Rattle.esx_scenario.proofs.parse.version_of.Goals as goal

pub returns-in-Ok-eq1 : goal.returns-in-Ok-eq1
returns-in-Ok-eq1 c = then_ok _ _ _ _ c.in-Ok-eq1.ensures.exact (ap (λ n. Ok (version_of n)) c.in-Ok-eq1.field-0-test)

pub returns-in-Ok : goal.returns-in-Ok
returns-in-Ok c = then_ok _ _ _ _ c.in-Ok.ensures.exact (ap Ok (other_version _ c.in-Ok.field-0-test.1))

pub returns-in-Err : goal.returns-in-Err
returns-in-Err c = gives_err _ _ _ (then_err _ _ _ c.in-Err.ensures.exact) c.bad_key.ensures
