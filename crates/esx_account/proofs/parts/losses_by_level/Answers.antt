use Rattle.esx_account.proofs.parts.losses_by_level.Goals as goal

pub returns : goal.returns
returns c = cc
