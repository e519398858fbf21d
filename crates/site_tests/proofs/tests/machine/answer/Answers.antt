use Rattle.site_tests.proofs.tests.machine.answer.Goals as goal

pub apply-requires : goal.apply-requires
apply-requires g c = record { rise = c.in_ok-expect_rise.ensures }
