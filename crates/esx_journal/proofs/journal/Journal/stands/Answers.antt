use Rattle.std.proofs.Common.{◌≡◌, ◌≤◌, ◌∙◌, sym, ap, arith, ℕ, length, nat_lt, false}
use Rattle.std.proofs.lemmas.Grind.{common_steps}
use Rattle.esx_journal.specs.Journal.{Kept}
use Rattle.esx_journal.proofs.Sinking.{stands_past}
use Rattle.esx_journal.proofs.journal.Journal.stands.Goals as goal

at_least : (n many : ℕ) → many ≤ n → nat_lt n many ≡ false
at_least n many h = grind (arith, common_steps)

pub returns-else-at-len-clause-told : goal.returns-else-at-len-clause-told
returns-else-at-len-clause-told c = λ h aim holds.
    let past = at_least c.args.node c.len.result c.if-at-len.false in
    let rows = c.len.ensures ∙ ap (λ (x : Kept). length x.rows) c.self.view_is in
    past ∙ stands_past c.args.self.now h aim c.args.node holds (sym past ∙ ap (nat_lt c.args.node) rows)
