use Rattle.std.proofs.Common.{◌≡◌, ℕ, ◌<◌, length, get_or, Ok, Err, sym, arith, inl, inr}
use Rattle.std.proofs.lemmas.Bool.{cases_lt}
use Rattle.std.proofs.lemmas.List.Sorted.{searched}
use Rattle.esx_paths.proofs.Rising.{down_never_falls, down_placed, placed_nowhere}
use Rattle.esx_paths.proofs.mets.place_of.Goals as goal

pub returns-in-Ok : goal.returns-in-Ok
returns-in-Ok c =
    let nodes = c.args.nodes.now in
    let found = searched nodes c.args.node (Ok c.in-Ok.at) c.in-Ok.ensures.position (down_never_falls nodes c.requires.down) in
    sym (down_placed nodes c.requires.down c.args.node c.in-Ok.at found.0 found.1)

pub returns-in-Err : goal.returns-in-Err
returns-in-Err c =
    let nodes = c.args.nodes.now in
    let missed = searched nodes c.args.node (Err c.in-Err.field-0) c.in-Err.ensures.position (down_never_falls nodes c.requires.down) in
    let none : (i : ℕ) → i < length nodes → get_or nodes i 0 ≡ c.args.node → ⊥ = λ i fits is. elim (cases_lt i c.in-Err.field-0) [
      | inl l ↦ (let h = missed.1 i l in omega arith)
      | inr g ↦ (let h = missed.2 i g fits in omega arith)
    ] in
    sym (placed_nowhere nodes c.args.node 0 none)
