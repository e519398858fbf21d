use Rattle.esx_model.proofs.Counting.{full_site}
use Rattle.esx_model.proofs.laws.each_pressed_site_is_full.Goals as goal

pub returns : goal.returns
returns c = full_site
