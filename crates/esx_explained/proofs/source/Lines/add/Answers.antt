use Rattle.std.proofs.Common.{List, ℕ, Bool, true, ◌≡◌, ◌≤◌, ◌<◌, ◌+◌, ◌-◌, length, sym, ap, ◌∙◌, arith}
use Rattle.esx_explained.specs.declared.source.TheConstants.{ROOM}
use Rattle.esx_explained.specs.Input.{ReadSoFar, after}
use Rattle.esx_explained.proofs.InputLemmas.{so, after_fitting, after_too_long}
use Rattle.esx_explained.proofs.source.Lines.add.Goals as goal

pub returns-then-part-room : goal.returns-then-part-room
returns-then-part-room c =
    let count : ℕ = c.self.inside.count in
    let front : List ℕ = c.self.inside.held.items in
    let long : Bool = c.self.inside.long in
    let fits : length front + length c.args.part.now ≤ ROOM = omega (arith, c.len-room.ensures, c.self.inside.held.ok.0, c.self.invariant.0, c.if-part-room.true) in
    let items = rw c.unwrap.ensures at c.extend_from_slice.ensures.items in
    ap (λ (f : List ℕ). so count f long) items ∙ sym (after_fitting c.args.part.now count front long c.requires fits) ∙ ap (λ (r : ReadSoFar). after r c.args.part.now) c.self.view_is

pub returns : goal.returns
returns c =
    let count : ℕ = c.self.inside.count in
    let front : List ℕ = c.self.inside.held.items in
    let room : ROOM - c.len-room.result + length front ≡ ROOM = omega (arith, c.len-room.ensures, c.self.inside.held.ok.0, c.self.invariant.0) in
    let less : ROOM - c.len-room.result < length c.args.part.now = omega (arith, c.if-part-room.false) in
    let items = rw (c.unwrap-2.ensures, c.split_at.ensures.front) at c.extend_from_slice-2.ensures.items in
    ap (λ (f : List ℕ). so count f true) items ∙ sym (after_too_long c.args.part.now count front c.self.inside.long (ROOM - c.len-room.result) c.requires room less)
    ∙ ap (λ (r : ReadSoFar). after r c.args.part.now) c.self.view_is
