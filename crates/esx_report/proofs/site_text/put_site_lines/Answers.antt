use Rattle.std.proofs.Common.{◌++◌, refl}
use Rattle.esx_report.specs.Site.{free_line, pages_line, saved_line, slots_line}
use Rattle.esx_writing.proofs.WritingLemmas.{first_failed}
use Rattle.esx_report.proofs.BehindLemmas.{puts_behind}
use Rattle.esx_report.proofs.site_text.put_site_lines.Goals as goal

pub returns-in_err-put_free-clause-bytes : goal.returns-in_err-put_free-clause-bytes
returns-in_err-put_free-clause-bytes g c =
    first_failed (g.W.Sink.contents c.args.sink.now) (g.W.Sink.contents c.put_free.new.sink) c.args.held.now c.put_free.new.held (free_line c.args.sums.now) (free_line c.args.sums.now) ((pages_line c.args.sums.now) ++ ((saved_line c.args.sums.now) ++ (slots_line c.args.sums.now))) c.from_residual.result c.from_residual.ensures.0 refl c.in_err-put_free.ensures.bytes

pub returns-in_err-put_pages-clause-bytes : goal.returns-in_err-put_pages-clause-bytes
returns-in_err-put_pages-clause-bytes g c =
    puts_behind (g.W.Sink.contents c.args.sink.now) (g.W.Sink.contents c.put_free.new.sink) (g.W.Sink.contents c.put_pages.new.sink) c.args.held.now c.put_free.new.held c.put_pages.new.held (free_line c.args.sums.now) ((pages_line c.args.sums.now) ++ ((saved_line c.args.sums.now) ++ (slots_line c.args.sums.now))) c.from_residual-in_err-put_pages.result c.in_ok-put_free.ensures.bytes
    (first_failed (g.W.Sink.contents c.put_free.new.sink) (g.W.Sink.contents c.put_pages.new.sink) c.put_free.new.held c.put_pages.new.held (pages_line c.args.sums.now) (pages_line c.args.sums.now) ((saved_line c.args.sums.now) ++ (slots_line c.args.sums.now)) c.from_residual-in_err-put_pages.result c.from_residual-in_err-put_pages.ensures.0 refl c.in_err-put_pages.ensures.bytes)

pub returns-in_err-put_saved-clause-bytes : goal.returns-in_err-put_saved-clause-bytes
returns-in_err-put_saved-clause-bytes g c =
    puts_behind (g.W.Sink.contents c.args.sink.now) (g.W.Sink.contents c.put_free.new.sink) (g.W.Sink.contents c.put_saved.new.sink) c.args.held.now c.put_free.new.held c.put_saved.new.held (free_line c.args.sums.now) ((pages_line c.args.sums.now) ++ ((saved_line c.args.sums.now) ++ (slots_line c.args.sums.now))) c.from_residual-in_err-put_saved.result c.in_ok-put_free.ensures.bytes
    (puts_behind (g.W.Sink.contents c.put_free.new.sink) (g.W.Sink.contents c.put_pages.new.sink) (g.W.Sink.contents c.put_saved.new.sink) c.put_free.new.held c.put_pages.new.held c.put_saved.new.held (pages_line c.args.sums.now) ((saved_line c.args.sums.now) ++ (slots_line c.args.sums.now)) c.from_residual-in_err-put_saved.result c.in_ok-put_pages.ensures.bytes
    (first_failed (g.W.Sink.contents c.put_pages.new.sink) (g.W.Sink.contents c.put_saved.new.sink) c.put_pages.new.held c.put_saved.new.held (saved_line c.args.sums.now) (saved_line c.args.sums.now) (slots_line c.args.sums.now) c.from_residual-in_err-put_saved.result c.from_residual-in_err-put_saved.ensures.0 refl c.in_err-put_saved.ensures.bytes))

pub returns-clause-bytes : goal.returns-clause-bytes
returns-clause-bytes g c =
    puts_behind (g.W.Sink.contents c.args.sink.now) (g.W.Sink.contents c.put_free.new.sink) (g.W.Sink.contents c.put_slots.new.sink) c.args.held.now c.put_free.new.held c.put_slots.new.held (free_line c.args.sums.now) ((pages_line c.args.sums.now) ++ ((saved_line c.args.sums.now) ++ (slots_line c.args.sums.now))) c.put_slots.result c.in_ok-put_free.ensures.bytes
    (puts_behind (g.W.Sink.contents c.put_free.new.sink) (g.W.Sink.contents c.put_pages.new.sink) (g.W.Sink.contents c.put_slots.new.sink) c.put_free.new.held c.put_pages.new.held c.put_slots.new.held (pages_line c.args.sums.now) ((saved_line c.args.sums.now) ++ (slots_line c.args.sums.now)) c.put_slots.result c.in_ok-put_pages.ensures.bytes
    (puts_behind (g.W.Sink.contents c.put_pages.new.sink) (g.W.Sink.contents c.put_saved.new.sink) (g.W.Sink.contents c.put_slots.new.sink) c.put_pages.new.held c.put_saved.new.held c.put_slots.new.held (saved_line c.args.sums.now) (slots_line c.args.sums.now) c.put_slots.result c.in_ok-put_saved.ensures.bytes c.put_slots.ensures.bytes))
