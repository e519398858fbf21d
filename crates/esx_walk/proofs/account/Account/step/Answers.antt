use Rattle.std.proofs.Common.{◌≡◌, ◌+◌, ◌*◌, List, sym, ap, ◌∙◌, subst, arith}
use Rattle.esx_types.specs.declared.config.TheConstants.{MAX_NODES}
use Rattle.esx_walk.specs.declared.lives.Life.{Life}
use Rattle.esx_walk.specs.Account.{counted_in}
use Rattle.esx_walk.specs.Few.{AreFew}
use Rattle.esx_walk.specs.Kept.{account_of}
use Rattle.esx_walk.proofs.Few.{few_in, counted_few}
use Rattle.esx_walk.proofs.account.Account.step.Goals as goal

pub count-requires : goal.count-requires
count-requires c = few_in (2 * MAX_NODES) 4294967294 (account_of c.args.self.now).lives (omega arith) c.requires.lives

pub count-requires-2 : goal.count-requires-2
count-requires-2 c =
    let lives = (account_of c.args.self.now).lives in
    let P : List Life → Type 0 = AreFew 4294967294 in
    subst P (sym c.count.ensures) (few_in (2 * MAX_NODES + 1) 4294967294 (counted_in lives c.args.gained.now) (omega arith) (counted_few (2 * MAX_NODES) lives c.args.gained.now c.requires.lives))

pub live-requires : goal.live-requires
live-requires c =
    let lives = (account_of c.args.self.now).lives in
    let one = counted_in lives c.args.gained.now in
    let P : List Life → Type 0 = AreFew 4294967294 in
    let same : c.count-2.new.lives ≡ counted_in one c.args.lost.now = c.count-2.ensures ∙ ap (λ (ls : List Life). counted_in ls c.args.lost.now) c.count.ensures in
    subst P (sym same) (few_in (2 * MAX_NODES + 1 + 1) 4294967294 (counted_in one c.args.lost.now) (omega arith) (counted_few (2 * MAX_NODES + 1) one c.args.lost.now (counted_few (2 * MAX_NODES) lives c.args.gained.now c.requires.lives)))
