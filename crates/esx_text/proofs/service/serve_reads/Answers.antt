use Rattle.std.proofs.Common.{[], ◌++◌, inl, inr, arith, length-append, length-take, refl, take}
use Rattle.esx_text.proofs.ProgressLemmas.{progress_start, consumes_nothing, consumes_more, read_nothing}
use Rattle.esx_text.proofs.SendingLemmas.{consumes_kept, progress_kept, progress_unread, progress_unsent, reaches_err}
use Rattle.esx_text.proofs.service.serve_reads.Goals as goal

pub loop-init : goal.loop-init
loop-init g c = record {
  progress = ([], consumes_nothing _, rw c.requires.none (progress_start c.args.caller _ _ _ c.requires.start), omega arith);
  failures = refl;
  ends = refl;
  reads = refl;
  empty = c.requires.empty;
  count = omega (arith, c.requires.none);
  flushes = omega arith;
  calls = omega arith;
  asked = omega arith;
}

pub returns-in_err-send-clause-served : goal.returns-in_err-send-clause-served
returns-in_err-send-clause-served g c =
    let p = c.loop.invariant.progress in
    reaches_err c.from_residual.result c.in_err-send.field-0.0 c.args.caller c.args.console.now c.loop.console
    (g.R.Source.remaining c.args.reader.now) (g.R.Source.remaining c.loop.reader) (g.W.Sink.contents c.args.writer.now) (g.W.Sink.contents c.send.new.writer)
    c.from_residual.ensures.1
    (rw c.in_err-send.ensures.fault (record {
      input = p.0;
      read = p.1;
      stops = inl (progress_unsent c.args.caller c.args.console.now (g.W.Sink.contents c.args.writer.now) p.0 c.loop.work.count c.loop.work.line c.loop.console
          (g.W.Sink.contents c.loop.writer) (g.W.Sink.contents c.send.new.writer) c.in_err-send.ensures.bytes p.2);
    }))

pub returns-in_default-clause-served : goal.returns-in_default-clause-served
returns-in_default-clause-served g c =
    let p = c.loop.invariant.progress in
    record {
      input = p.0;
      read = consumes_kept _ _ _ p.0 p.1 c.in_default.ensures.bytes;
      stops = inl (progress_unread c.args.caller c.args.console.now (g.W.Sink.contents c.args.writer.now) p.0 c.loop.work.count c.loop.work.line c.loop.console
          (g.W.Sink.contents c.send.new.writer)
          (progress_kept c.args.caller c.args.console.now (g.W.Sink.contents c.args.writer.now) p.0 c.loop.work.count c.loop.work.line c.loop.console
          (g.W.Sink.contents c.loop.writer) (g.W.Sink.contents c.send.new.writer) c.in_ok-send.ensures.bytes p.2));
    }

pub returns-in_err-count-clause-served : goal.returns-in_err-count-clause-served
returns-in_err-count-clause-served g c =
    let p = c.loop.invariant.progress in
    let r = read_nothing _ _ _ p.0 c.in-Ok.given c.read.new.buffer c.if-given-eq0.true (omega (arith, c.requires.room)) p.1 c.in-Ok.ensures.bytes in
    reaches_err c.from_residual-in_err-count.result c.in_err-count.field-0.0 c.args.caller c.args.console.now c.serve_end.new.console
    (g.R.Source.remaining c.args.reader.now) (g.R.Source.remaining c.read.new.self) (g.W.Sink.contents c.args.writer.now) (g.W.Sink.contents c.serve_end.new.writer)
    c.from_residual-in_err-count.ensures.1
    (record {
      input = p.0;
      read = r.0;
      stops = inr (
        r.1,
        c.in_err-count.ensures.fault _ _ p.0 (progress_kept c.args.caller c.args.console.now (g.W.Sink.contents c.args.writer.now) p.0 c.loop.work.count c.loop.work.line c.loop.console
            (g.W.Sink.contents c.loop.writer) (g.W.Sink.contents c.send.new.writer) c.in_ok-send.ensures.bytes p.2),
      );
    })

pub returns-then-given-eq0-clause-served : goal.returns-then-given-eq0-clause-served
returns-then-given-eq0-clause-served g c =
    let p = c.loop.invariant.progress in
    let r = read_nothing _ _ _ p.0 c.in-Ok.given c.read.new.buffer c.if-given-eq0.true (omega (arith, c.requires.room)) p.1 c.in-Ok.ensures.bytes in
    c.in_ok-count.ensures.ok _ _ _ _ p.0 (progress_kept c.args.caller c.args.console.now (g.W.Sink.contents c.args.writer.now) p.0 c.loop.work.count c.loop.work.line c.loop.console
    (g.W.Sink.contents c.loop.writer) (g.W.Sink.contents c.send.new.writer) c.in_ok-send.ensures.bytes p.2) r.0 r.1

pub returns-in_err-serve_bytes-clause-served : goal.returns-in_err-serve_bytes-clause-served
returns-in_err-serve_bytes-clause-served g c =
    let p = c.loop.invariant.progress in
    reaches_err c.from_residual-in_err-serve_bytes.result c.in_err-serve_bytes.field-0.0 c.args.caller c.args.console.now c.serve_bytes.new.console
    (g.R.Source.remaining c.args.reader.now) (g.R.Source.remaining c.read.new.self) (g.W.Sink.contents c.args.writer.now) (g.W.Sink.contents c.serve_bytes.new.writer)
    c.from_residual-in_err-serve_bytes.ensures.1
    (record {
      input = p.0 ++ take c.in-Ok.given c.read.new.buffer;
      read = consumes_more _ _ _ _ _ p.1 c.in-Ok.ensures.bytes.0;
      stops = inl (rw c.split_at.ensures.front at (c.in_err-serve_bytes.ensures.fault _ _ p.0 (progress_kept c.args.caller c.args.console.now (g.W.Sink.contents c.args.writer.now) p.0 c.loop.work.count c.loop.work.line c.loop.console
          (g.W.Sink.contents c.loop.writer) (g.W.Sink.contents c.send.new.writer) c.in_ok-send.ensures.bytes p.2)));
    })

pub returns-in_err-send-clause-each : goal.returns-in_err-send-clause-each
returns-in_err-send-clause-each g c =
    let p = c.loop.invariant.progress in
    record { input = p.0; read = p.1; each = omega (arith, p.3, c.loop.invariant.calls) }

pub returns-in_default-clause-each : goal.returns-in_default-clause-each
returns-in_default-clause-each g c =
    let p = c.loop.invariant.progress in
    record { input = p.0; read = consumes_kept _ _ _ p.0 p.1 c.in_default.ensures.bytes; each = omega (arith, p.3, c.loop.invariant.calls, c.in_default.ensures.calls) }

pub returns-in_err-count-clause-each : goal.returns-in_err-count-clause-each
returns-in_err-count-clause-each g c =
    let p = c.loop.invariant.progress in
    let r = read_nothing _ _ _ p.0 c.in-Ok.given c.read.new.buffer c.if-given-eq0.true (omega (arith, c.requires.room)) p.1 c.in-Ok.ensures.bytes in
    record { input = p.0; read = r.0; each = omega (arith, p.3, c.loop.invariant.calls, c.in-Ok.ensures.calls) }

pub returns-then-given-eq0-clause-each : goal.returns-then-given-eq0-clause-each
returns-then-given-eq0-clause-each g c =
    let p = c.loop.invariant.progress in
    let r = read_nothing _ _ _ p.0 c.in-Ok.given c.read.new.buffer c.if-given-eq0.true (omega (arith, c.requires.room)) p.1 c.in-Ok.ensures.bytes in
    record { input = p.0; read = r.0; each = omega (arith, p.3, c.loop.invariant.calls, c.in-Ok.ensures.calls) }

pub returns-in_err-serve_bytes-clause-each : goal.returns-in_err-serve_bytes-clause-each
returns-in_err-serve_bytes-clause-each g c =
    let p = c.loop.invariant.progress in
    let front = take c.in-Ok.given c.read.new.buffer in
    record {
      input = p.0 ++ front;
      read = consumes_more _ _ _ _ _ p.1 c.in-Ok.ensures.bytes.0;
      each = omega (arith, p.3, c.loop.invariant.calls, c.in-Ok.ensures.calls, length-append p.0 front);
    }

pub returns-clause-each : goal.returns-clause-each
returns-clause-each g c =
    let p = c.loop.invariant.progress in
    record { input = p.0; read = p.1; each = omega (arith, p.3, c.loop.invariant.calls) }

pub loop-preserved : goal.loop-preserved
loop-preserved g c =
    let p = c.loop.invariant.progress in
    record {
      progress = (
        p.0 ++ take c.in-Ok.given c.read.new.buffer,
        consumes_more _ _ _ _ _ p.1 c.in-Ok.ensures.bytes.0,
        rw c.split_at.ensures.front at (c.in_ok-serve_bytes.ensures.ok _ _ p.0 (progress_kept c.args.caller c.args.console.now (g.W.Sink.contents c.args.writer.now) p.0 c.loop.work.count c.loop.work.line c.loop.console
            (g.W.Sink.contents c.loop.writer) (g.W.Sink.contents c.send.new.writer) c.in_ok-send.ensures.bytes p.2)),
        omega (arith, p.3, c.if-given-eq0.false, c.in-Ok.ensures.bound, length-append p.0 (take c.in-Ok.given c.read.new.buffer), length-take c.in-Ok.given c.read.new.buffer),
      );
      failures = omega (arith, c.loop.invariant.failures, c.in_ok-send.ensures.failures, c.in_ok-serve_bytes.ensures.failures);
      ends = grind (arith, c.loop.invariant.ends, c.in-Ok.ensures.empty_reads, c.if-given-eq0.false);
      reads = omega (arith, c.loop.invariant.reads, c.in-Ok.ensures.failures);
      empty = c.in_ok-serve_bytes.ensures.empty;
      count = omega (arith, c.loop.invariant.count, c.in_ok-serve_bytes.ensures.count, c.split_at.ensures.front_len, c.in-Ok.ensures.bound, c.requires.room);
      flushes = omega (arith, c.loop.invariant.flushes, c.in_ok-send.ensures.flushes, c.in_ok-serve_bytes.ensures.flushes);
      calls = omega (arith, c.loop.invariant.calls, c.in-Ok.ensures.calls);
      asked = omega (arith, c.loop.invariant.asked, c.in-Ok.ensures.asked, c.requires.room);
    }
