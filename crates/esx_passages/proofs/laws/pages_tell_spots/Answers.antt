use Rattle.esx_passages.proofs.Spotted.{page_spotted}
use Rattle.esx_passages.proofs.laws.pages_tell_spots.Goals as goal

pub returns : goal.returns
returns c = page_spotted
