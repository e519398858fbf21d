use Rattle.esx_reading.proofs.SpaceLemmas.{mask_is, no_space, some_space}
use Rattle.esx_reading.proofs.space.space_in_sixteen.Goals as goal

pub returns-then-spaces-eq0-clause-before : goal.returns-then-spaces-eq0-clause-before
returns-then-spaces-eq0-clause-before c = no_space c.args.bytes.now _ c.told-bytes (mask_is c.args.bytes.now c.told-bytes) c.if-spaces-eq0.true

pub returns-clause-within : goal.returns-clause-within
returns-clause-within c = (some_space c.args.bytes.now _ c.told-bytes (mask_is c.args.bytes.now c.told-bytes) c.if-spaces-eq0.false).0

pub returns-clause-before : goal.returns-clause-before
returns-clause-before c = (some_space c.args.bytes.now _ c.told-bytes (mask_is c.args.bytes.now c.told-bytes) c.if-spaces-eq0.false).1

pub returns-clause-here : goal.returns-clause-here
returns-clause-here c = (some_space c.args.bytes.now _ c.told-bytes (mask_is c.args.bytes.now c.told-bytes) c.if-spaces-eq0.false).2
