use Rattle.std.proofs.Common.{lit<, arith}
use Rattle.std.proofs.lemmas.Str.Pattern.{strip_prefix_char}
use Rattle.esx_explained.proofs.LineLemmas.{text_behind}
use Rattle.esx_explained.proofs.tried.text_of.Goals as goal

pub returns : goal.returns
returns c = text_behind c.args.at c.args.part.now c.strip_prefix.result (λ z. (let not = c.if-at-eq0.false in omega arith))
    (strip_prefix_char 32 c.args.part.now c.strip_prefix.result c.strip_prefix.ensures.cases (lit< tt))
