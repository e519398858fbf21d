use Rattle.std.proofs.Common.{◌<◌, ◌^◌, get_or, sym, ◌∙◌, rules, arith}
use Rattle.esx_types.proofs.Bits.{first}
use Rattle.esx_types.proofs.ids.Ids.least.Goals as goal

pub returns-then-self-i-ne0 : goal.returns-then-self-i-ne0
returns-then-self-i-ne0 c =
    let some : 0 < get_or c.args.self.now.words c.loop-i.i 0 = omega (arith, c.if-self-i-ne0.true) in
    let fits : get_or c.args.self.now.words c.loop-i.i 0 < 2 ^ 64 = search rules in
    let f = first c.args.self.now.words c.loop-i.i c.loop-i.invariant.none some fits in
    record {
      none = (λ e. absurd (cc), λ none. sym f.there ∙ none _);
      least = (f.there, f.before);
      below = omega (arith, f.near, c.loop-i-test.true);
    }
