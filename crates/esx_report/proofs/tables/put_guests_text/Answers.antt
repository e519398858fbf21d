use Rattle.std.proofs.Common.{◌++◌, flat_map, refl}
use Rattle.esx_report.specs.Guests.{guest_heading, guest_line}
use Rattle.esx_report.specs.Site.{guests_note, guests_title}
use Rattle.esx_writing.proofs.WritingLemmas.{first_failed}
use Rattle.esx_report.proofs.BehindLemmas.{puts_behind}
use Rattle.esx_report.proofs.tables.put_guests_text.Goals as goal

pub returns-in_err-put_guests_title-clause-bytes : goal.returns-in_err-put_guests_title-clause-bytes
returns-in_err-put_guests_title-clause-bytes g c =
    first_failed (g.W.Sink.contents c.args.sink.now) (g.W.Sink.contents c.put_guests_title.new.sink) c.args.held.now c.put_guests_title.new.held guests_title guests_title (guest_heading ++ ((flat_map guest_line c.args.guests.now) ++ guests_note)) c.from_residual.result c.from_residual.ensures.0 refl c.in_err-put_guests_title.ensures.bytes

pub returns-in_err-put_guest_heading-clause-bytes : goal.returns-in_err-put_guest_heading-clause-bytes
returns-in_err-put_guest_heading-clause-bytes g c =
    puts_behind (g.W.Sink.contents c.args.sink.now) (g.W.Sink.contents c.put_guests_title.new.sink) (g.W.Sink.contents c.put_guest_heading.new.sink) c.args.held.now c.put_guests_title.new.held c.put_guest_heading.new.held guests_title (guest_heading ++ ((flat_map guest_line c.args.guests.now) ++ guests_note)) c.from_residual-in_err-put_guest_heading.result c.in_ok-put_guests_title.ensures.bytes
    (first_failed (g.W.Sink.contents c.put_guests_title.new.sink) (g.W.Sink.contents c.put_guest_heading.new.sink) c.put_guests_title.new.held c.put_guest_heading.new.held guest_heading guest_heading ((flat_map guest_line c.args.guests.now) ++ guests_note) c.from_residual-in_err-put_guest_heading.result c.from_residual-in_err-put_guest_heading.ensures.0 refl c.in_err-put_guest_heading.ensures.bytes)

pub returns-in_err-put_guest_lines-clause-bytes : goal.returns-in_err-put_guest_lines-clause-bytes
returns-in_err-put_guest_lines-clause-bytes g c =
    puts_behind (g.W.Sink.contents c.args.sink.now) (g.W.Sink.contents c.put_guests_title.new.sink) (g.W.Sink.contents c.put_guest_lines.new.sink) c.args.held.now c.put_guests_title.new.held c.put_guest_lines.new.held guests_title (guest_heading ++ ((flat_map guest_line c.args.guests.now) ++ guests_note)) c.from_residual-in_err-put_guest_lines.result c.in_ok-put_guests_title.ensures.bytes
    (puts_behind (g.W.Sink.contents c.put_guests_title.new.sink) (g.W.Sink.contents c.put_guest_heading.new.sink) (g.W.Sink.contents c.put_guest_lines.new.sink) c.put_guests_title.new.held c.put_guest_heading.new.held c.put_guest_lines.new.held guest_heading ((flat_map guest_line c.args.guests.now) ++ guests_note) c.from_residual-in_err-put_guest_lines.result c.in_ok-put_guest_heading.ensures.bytes
    (first_failed (g.W.Sink.contents c.put_guest_heading.new.sink) (g.W.Sink.contents c.put_guest_lines.new.sink) c.put_guest_heading.new.held c.put_guest_lines.new.held (flat_map guest_line c.args.guests.now) (flat_map guest_line c.args.guests.now) guests_note c.from_residual-in_err-put_guest_lines.result c.from_residual-in_err-put_guest_lines.ensures.0 refl c.in_err-put_guest_lines.ensures.bytes))

pub returns-clause-bytes : goal.returns-clause-bytes
returns-clause-bytes g c =
    puts_behind (g.W.Sink.contents c.args.sink.now) (g.W.Sink.contents c.put_guests_title.new.sink) (g.W.Sink.contents c.put_guests_note.new.sink) c.args.held.now c.put_guests_title.new.held c.put_guests_note.new.held guests_title (guest_heading ++ ((flat_map guest_line c.args.guests.now) ++ guests_note)) c.put_guests_note.result c.in_ok-put_guests_title.ensures.bytes
    (puts_behind (g.W.Sink.contents c.put_guests_title.new.sink) (g.W.Sink.contents c.put_guest_heading.new.sink) (g.W.Sink.contents c.put_guests_note.new.sink) c.put_guests_title.new.held c.put_guest_heading.new.held c.put_guests_note.new.held guest_heading ((flat_map guest_line c.args.guests.now) ++ guests_note) c.put_guests_note.result c.in_ok-put_guest_heading.ensures.bytes
    (puts_behind (g.W.Sink.contents c.put_guest_heading.new.sink) (g.W.Sink.contents c.put_guest_lines.new.sink) (g.W.Sink.contents c.put_guests_note.new.sink) c.put_guest_heading.new.held c.put_guest_lines.new.held c.put_guests_note.new.held (flat_map guest_line c.args.guests.now) guests_note c.put_guests_note.result c.in_ok-put_guest_lines.ensures.bytes c.put_guests_note.ensures.bytes))
