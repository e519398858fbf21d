use Rattle.std.proofs.Common.{◌≡◌, sym, ◌∙◌, ap, subst, ◌<◌, ◌≤◌, length, cond, Ok, Err, arith}
use Rattle.std.specs.Option.{ok_or}
use Rattle.std.proofs.lemmas.Bool.{le-leb, lt-leb}
use Rattle.esx_events.specs.declared.call.Stand.{Stand}
use Rattle.esx_events.specs.declared.event.Refusal.TheVariants.{NoSuchNode, NoSuchName}
use Rattle.esx_model.specs.History.{cursor}
use Rattle.esx_model.specs.Console.{history}
use Rattle.esx_journal.specs.Marks.{node_named}
use Rattle.esx_paths.specs.Pasts.{Kept, IsPastOf}
use Rattle.esx_paths.proofs.Sessions.{session_told}
use Rattle.esx_paths.proofs.past.Past.node_at.Goals as goal

pub returns-in-End : goal.returns-in-End
returns-in-End c = λ s is.
    let P : Kept → Type 0 = λ k. IsPastOf k s in
    let old = subst P (sym c.self.view_is) is in
    let node : c.stand.result.node ≡ cursor (history s) = ap (λ (stand : Stand). stand.node) (c.stand.ensures s old.answers) in
    rw c.in-End.is (ap (λ n. Ok n) node)

pub returns-then-node-len : goal.returns-then-node-len
returns-then-node-len c = λ s is.
    let P : Kept → Type 0 = λ k. IsPastOf k s in
    let old = subst P (sym c.self.view_is) is in
    let long = ap length old.made ∙ (session_told s).long in
    let fits : c.in-Node.node ≤ length (history s).nodes = omega (arith, long, c.len.ensures, c.if-node-len.true) in
    rw c.in-Node.is (sym (ap (λ b. cond b (Ok c.in-Node.node) (Err NoSuchNode)) (le-leb c.in-Node.node (length (history s).nodes) fits)))

pub returns-else-node-len : goal.returns-else-node-len
returns-else-node-len c = λ s is.
    let P : Kept → Type 0 = λ k. IsPastOf k s in
    let old = subst P (sym c.self.view_is) is in
    let long = ap length old.made ∙ (session_told s).long in
    let past : length (history s).nodes < c.in-Node.node = omega (arith, long, c.len.ensures, c.if-node-len.false) in
    rw c.in-Node.is (sym (ap (λ b. cond b (Ok c.in-Node.node) (Err NoSuchNode)) (lt-leb c.in-Node.node (length (history s).nodes) past)))

pub returns-in-Name : goal.returns-in-Name
returns-in-Name c = λ s is.
    let P : Kept → Type 0 = λ k. IsPastOf k s in
    let old = subst P (sym c.self.view_is) is in
    rw c.in-Name.is (c.ok_or.ensures.value ∙ ap (λ o. ok_or o NoSuchName) (c.node_of.ensures s old.answers ∙ ap (λ n. node_named n (history s).marks) c.as_str.ensures.value))
