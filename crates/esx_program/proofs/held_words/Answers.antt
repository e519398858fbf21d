use Rattle.std.proofs.Common.{refl, Ok}
use Rattle.std.specs.Vec.Iter.{into_iter_items}
use Rattle.std.proofs.lemmas.Iterator.{items_from_collect}
use Rattle.std.proofs.lemmas.Iterator.Adapters.{YieldsList-from_vec}
use Rattle.std.specs.declared.alloc.AllocError.{AllocError}
use Rattle.esx_program.proofs.held_words.Goals as goal

pub returns-in-Ok-clause-ok : goal.returns-in-Ok-clause-ok
returns-in-Ok-clause-ok c =
    items_from_collect {E = AllocError} (Ok c.in-Ok.words) c.in-Ok.ensures.ran (YieldsList-from_vec (into_iter_items c.args.args) refl c.args.args.rest.ok.0)
