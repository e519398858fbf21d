use Rattle.std.proofs.Common.{arith}
use Rattle.esx_told.specs.Told.{pending}
use Rattle.esx_told.proofs.LogLemmas.{few_lines}
use Rattle.esx_told.proofs.text_log.TextLogLog.note.Goals as goal

pub overflow_add-self : goal.overflow_add-self
overflow_add-self c =
    let old = c.args.self.now in
    let few = few_lines old.listed.value (pending old.latest) old.text.items old.count old.counted c.requires.room old.told in
    omega (arith, few, old.text.ok, old.text.small)
