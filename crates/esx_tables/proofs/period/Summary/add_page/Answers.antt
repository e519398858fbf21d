use Rattle.std.proofs.Common.{◌≡◌, ◌<◌, ◌/◌, ◌%◌, length, arith, rules}
use Rattle.esx_tables.specs.declared.period.TheConstants.{BITS, WORDS}
use Rattle.esx_tables.proofs.Summed.{bit_same, bit_others}
use Rattle.esx_tables.proofs.period.Summary.add_page.Goals as goal

pub returns-clause-pages : goal.returns-clause-pages
returns-clause-pages c =
    let long : length c.args.self.now.words ≡ WORDS = search rules in
    let bit = c.args.page % BITS in
    let near : bit / 64 < length c.args.self.now.words = omega arith in
    record { same = bit_same c.args.self.now.words bit near; others = λ p h. bit_others c.args.self.now.words bit (p % BITS) near h }
