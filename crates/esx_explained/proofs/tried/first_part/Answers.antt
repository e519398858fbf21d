use Rattle.std.proofs.Common.{None, lit<}
use Rattle.std.proofs.lemmas.Str.Pattern.{split_once_first}
use Rattle.esx_words.proofs.ListedLemmas.{next_part, last_part}
use Rattle.esx_explained.proofs.tried.first_part.Goals as goal

pub returns-in-Some : goal.returns-in-Some
returns-in-Some c =
    let h = rw c.in-Some.is at (split_once_first 59 c.args.text.now c.split_once.result c.split_once.ensures.cases (lit< tt)) in
    next_part c.args.text.now c.in-Some.front.now c.in-Some.behind.now h.0 h.1 h.2

pub returns-in-None : goal.returns-in-None
returns-in-None c = last_part c.args.text.now (split_once_first 59 c.args.text.now None c.in-None.ensures.cases (lit< tt))
