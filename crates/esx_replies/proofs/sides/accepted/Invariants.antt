use Rattle.std.proofs.Common.{◌≡◌, ◌≤◌, take}
use Rattle.esx_replies.specs.Replies.{accepted}
use Rattle.esx_replies.proofs.sides.accepted.Given as goal

abbrev pub invariant-loop-reply : goal.invariant-loop-reply
invariant-loop-reply l = record {
  counted : l.count ≡ accepted (take l.reply-index l.replies);
  few : l.count ≤ l.reply-index;
}
