use Rattle.esx_recording.proofs.QuestionLemmas.{goes_through}
use Rattle.esx_recording.proofs.questions.QuestionsSink.write.Goals as goal

pub invariant_of-self-2 : goal.invariant_of-self-2
invariant_of-self-2 g c =
    rw (c.add.ensures, c.split_at.ensures.front)
    (goes_through g.B.Before.taken (g.S.Sink.contents c.self.inside.sink) (g.S.Sink.contents c.pass.new.sink) c.self.inside.seen
    c.first_line-piece.result.now c.in_ok-count.count c.asks-asks.result c.first_line-piece.ensures.one c.asks-asks.ensures c.self.invariant
    c.in_ok-count.ensures.bytes)
