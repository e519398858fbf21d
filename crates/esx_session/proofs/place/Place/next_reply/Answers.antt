use Rattle.std.proofs.Common.{ap, refl, subst}
use Rattle.esx_session.specs.Reading.{Place, LeavesReply}
use Rattle.esx_session.proofs.PlaceLemmas.{leaves_other}
use Rattle.esx_session.proofs.place.Place.next_reply.Goals as goal

pub returns-then-not-begins_reply-clause-none : goal.returns-then-not-begins_reply-clause-none
returns-then-not-begins_reply-clause-none c =
    (refl, subst LeavesReply (ap (λ (p : Place). p.left) c.self.view_is) (leaves_other c.self.inside.rest.now (c.begins_reply.ensures c.if-not-begins_reply.true)))
