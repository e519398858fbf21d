use Rattle.esx_writing.proofs.WritingLemmas.{ends_writing}
use Rattle.esx_reports.proofs.telling.write_text.Goals as goal

pub returns-clause-bytes : goal.returns-clause-bytes
returns-clause-bytes g c =
    let put = c.in_ok-put_answer.ensures.bytes in (
      put.0,
      put.1,
      ends_writing (g.W.Sink.contents c.args.writer.now) (g.W.Sink.contents c.put_answer.new.sink) (g.W.Sink.contents c.write_held.new.sink)
          c.args.held.now c.put_answer.new.held put.0 c.write_held.result c.requires.empty put.2 c.write_held.ensures.bytes,
    )
