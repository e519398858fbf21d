use Rattle.std.proofs.Common.{◌≡◌, ◌+◌, ◌-◌, ◌<◌, length, arith}
use Rattle.esx_text.specs.declared.line.TheConstants.{ROOM}
use Rattle.esx_text.proofs.LineLemmas.{held_full}
use Rattle.esx_text.proofs.line.LineBuffer.extend.Goals as goal

pub returns : goal.returns
returns c = λ piece h.
    let before = rw (← c.self.view_is) at h in
    let room : ROOM - c.len-room.result + length c.self.inside.bytes.items ≡ ROOM = omega (arith, c.len-room.ensures, c.self.inside.bytes.ok.0, c.self.invariant.0) in
    let lt : ROOM - c.len-room.result < length c.args.bytes.now = omega (arith, c.if-bytes-room.false) in
    let items = rw (c.unwrap-2.ensures, c.split_at.ensures.front) at c.extend_from_slice-2.ensures.items in
    rw items (held_full c.self.inside.bytes.items piece c.self.inside.long c.args.bytes.now (ROOM - c.len-room.result) room lt before)
