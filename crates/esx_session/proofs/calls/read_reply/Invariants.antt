use Rattle.std.proofs.Common.{◌⊎◌, ◌≡◌, length}
use Rattle.esx_session.specs.Reading.{BeginsReply}
use Rattle.esx_session.proofs.ReplyLemmas.{IsRead}
use Rattle.esx_session.proofs.calls.read_reply.Given as goal

abbrev pub invariant-loop-line : goal.invariant-loop-line
invariant-loop-line l = record {
  is : IsRead l.initial.place l.place l.reply.items;
  first : (l.initial.place.left ≡ l.place.left) ⊎ BeginsReply l.initial.place.left;
}

abbrev pub decreases-loop-line : goal.decreases-loop-line
decreases-loop-line l = length l.place.left
