use Rattle.esx_index.proofs.free.FreeIndex.+new.Given as goal

abbrev pub decreases-new : goal.decreases-new
decreases-new l = l.len
