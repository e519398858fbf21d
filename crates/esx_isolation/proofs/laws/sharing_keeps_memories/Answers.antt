use Rattle.esx_isolation.proofs.event.Sharing.{equal_pages, look_keeps}
use Rattle.esx_isolation.proofs.laws.sharing_keeps_memories.Goals as goal

pub returns-clause-equal : goal.returns-clause-equal
returns-clause-equal g = equal_pages

pub returns-clause-look : goal.returns-clause-look
returns-clause-look g = λ c s n page k v sound there here. look_keeps c s n page v sound there here k
