use Rattle.std.proofs.Common.{◌≡◌, None, lit<}
use Rattle.std.proofs.lemmas.List.Elements.{All-from_get_or}
use Rattle.std.proofs.lemmas.Str.Pattern.{split_once_first, split_parts, strip_prefix_char}
use Rattle.esx_words.proofs.ListedLemmas.{next_part, last_part}
use Rattle.esx_words.proofs.ReadingLemmas.{one_event, begins}
use Rattle.esx_words.proofs.listed.cut.Goals as goal

pub returns-in_default-clause-first : goal.returns-in_default-clause-first
returns-in_default-clause-first c =
    let none = split_once_first 59 c.args.text.now None c.in_default.ensures.cases (lit< tt) in
    λ events are e. one_event c.args.text.now (last_part c.args.text.now none) events are e

pub returns-in_err-later-clause-only : goal.returns-in_err-later-clause-only
returns-in_err-later-clause-only c =
    let h = rw c.in-Some.is at (split_once_first 59 c.args.text.now c.split_once.result c.split_once.ensures.cases (lit< tt)) in
    let cut = next_part c.args.text.now c.in-Some.front.now c.in-Some.behind.now h.0 h.1 h.2 in
    rw c.from_residual.ensures (λ events are e.
    let b = begins c.args.text.now c.in-Some.front.now c.in-Some.behind.now cut events are e in
    strip_prefix_char 32 c.in-Some.behind.now None c.in_err-later.ensures.cases (lit< tt) b.later b.space)

pub returns-clause-first : goal.returns-clause-first
returns-clause-first c =
    let h = rw c.in-Some.is at (split_once_first 59 c.args.text.now c.split_once.result c.split_once.ensures.cases (lit< tt)) in
    let cut = next_part c.args.text.now c.in-Some.front.now c.in-Some.behind.now h.0 h.1 h.2 in
    λ events are e.
    let b = begins c.args.text.now c.in-Some.front.now c.in-Some.behind.now cut events are e in (b.event, b.spells)

pub returns-in_default-clause-plain : goal.returns-in_default-clause-plain
returns-in_default-clause-plain c =
    All-from_get_or (λ b. b ≡ 59 → ⊥) c.args.text.now 0 (split_parts 59 c.args.text.now None c.in_default.ensures.cases (lit< tt))

pub returns-clause-plain : goal.returns-clause-plain
returns-clause-plain c =
    let h = rw c.in-Some.is at (split_parts 59 c.args.text.now c.split_once.result c.split_once.ensures.cases (lit< tt)) in
    All-from_get_or (λ b. b ≡ 59 → ⊥) c.in-Some.front.now 0 h.1
