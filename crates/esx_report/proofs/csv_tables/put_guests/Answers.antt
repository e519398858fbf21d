use Rattle.std.proofs.Common.{flat_map, refl}
use Rattle.esx_report.specs.Guests.{guest_head, guest_row}
use Rattle.esx_writing.proofs.WritingLemmas.{first_failed}
use Rattle.esx_report.proofs.BehindLemmas.{puts_behind}
use Rattle.esx_report.proofs.csv_tables.put_guests.Goals as goal

pub returns-in_err-put_guest_head-clause-bytes : goal.returns-in_err-put_guest_head-clause-bytes
returns-in_err-put_guest_head-clause-bytes g c =
    first_failed (g.W.Sink.contents c.args.sink.now) (g.W.Sink.contents c.put_guest_head.new.sink) c.args.held.now c.put_guest_head.new.held guest_head guest_head (flat_map guest_row c.args.guests.now) c.from_residual.result c.from_residual.ensures.0 refl c.in_err-put_guest_head.ensures.bytes

pub returns-clause-bytes : goal.returns-clause-bytes
returns-clause-bytes g c =
    puts_behind (g.W.Sink.contents c.args.sink.now) (g.W.Sink.contents c.put_guest_head.new.sink) (g.W.Sink.contents c.put_guest_rows.new.sink) c.args.held.now c.put_guest_head.new.held c.put_guest_rows.new.held guest_head (flat_map guest_row c.args.guests.now) c.put_guest_rows.result c.in_ok-put_guest_head.ensures.bytes c.put_guest_rows.ensures.bytes
