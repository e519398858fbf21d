use Rattle.std.proofs.Common.{arith}
use Rattle.esx_text.proofs.SendingLemmas.{ends_ok, ends_fault, found_end, found_no_end, unread_once}
use Rattle.esx_text.proofs.service.serve_in_manner.Goals as goal

pub returns-in_default-clause-streams : goal.returns-in_default-clause-streams
returns-in_default-clause-streams g c = c.give_up.ensures.streams _

pub returns-in_default-vec-clause-streams : goal.returns-in_default-vec-clause-streams
returns-in_default-vec-clause-streams g c = c.give_up-in_default-vec.ensures.streams _

pub returns-in_default-clause-fault : goal.returns-in_default-clause-fault
returns-in_default-clause-fault g c = c.give_up.ensures.at_once_in _ _ _ _ _

pub returns-in_default-vec-clause-fault : goal.returns-in_default-vec-clause-fault
returns-in_default-vec-clause-fault g c = c.give_up-in_default-vec.ensures.at_once_in _ _ _ _ _

pub returns-clause-ok : goal.returns-clause-ok
returns-clause-ok g c = ends_ok c.args.manner c.finish.result _ _ _ _ _ _ _ (c.finish.ensures.served _ _ _ _ _ _ _ c.serve_reads-served.ensures.served)

pub returns-clause-fault : goal.returns-clause-fault
returns-clause-fault g c = ends_fault c.args.manner c.finish.result _ _ _ _ _ _ _ _ _ (c.finish.ensures.served _ _ _ _ _ _ _ c.serve_reads-served.ensures.served)

pub returns-clause-streams : goal.returns-clause-streams
returns-clause-streams g c =
    let reads = c.serve_reads-served.ensures in
    let last = c.finish.ensures in
    record {
      found = found_end c.finish.result c.serve_reads-served.result _ _ last.counted reads.found;
      not_found = λ at_fault. found_no_end c.serve_reads-served.result _ _ (last.read at_fault) reads.not_found reads.found;
      ends = reads.ends;
      reads = reads.reads;
      pieces = reads.pieces;
      each = reads.each;
      read = λ at_fault. unread_once c.serve_reads-served.result _ _ _ _ (last.read at_fault) reads.read reads.endless;
      no_read_fault = λ none. omega (arith, last.no_read_fault none, reads.read);
      write = omega (arith, last.write, reads.write);
      flushes = omega (arith, last.flushes, reads.flushes, reads.read);
      sent = last.sent reads.sent;
    }
