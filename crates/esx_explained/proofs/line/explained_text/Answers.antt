use Rattle.std.proofs.Common.{arith}
use Rattle.esx_explained.specs.Known.IsKnown.{own, asked}
use Rattle.esx_explained.proofs.LineLemmas.{unknown}
use Rattle.esx_explained.proofs.line.explained_text.Goals as goal

pub returns-then-is_own-clause-none : goal.returns-then-is_own-clause-none
returns-then-is_own-clause-none c = own c.if-is_own.ensures.yes

pub returns-then-text-gt-LONGEST-clause-told : goal.returns-then-text-gt-LONGEST-clause-told
returns-then-text-gt-LONGEST-clause-told c =
    (unknown c.args.text.now c.requires c.if-is_own.ensures.no (λ call is. (let long = c.if-text-gt-LONGEST.true in omega (arith, is.short))), c.if-text-gt-LONGEST.true)

pub returns-in-Some-clause-none : goal.returns-in-Some-clause-none
returns-in-Some-clause-none c =
    asked c.in-Some._call (record { short = c.if-text-gt-LONGEST.false; command = rw c.in-Some.is at c.in_ok-_call.ensures.found })

pub returns-in-None-clause-told : goal.returns-in-None-clause-told
returns-in-None-clause-told c =
    let none = rw c.in-None.is at c.in_ok-_call.ensures.only in
    (unknown c.args.text.now c.requires c.if-is_own.ensures.no (λ call is. none call is.command), c.reason.ensures)
