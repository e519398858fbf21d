use Rattle.std.proofs.Common.{◌++◌, refl}
use Rattle.esx_report.specs.SiteTable.{entered_values, events_values, refused_values}
use Rattle.esx_report.specs.Values.{end_values, extreme_values, path_values, site_head}
use Rattle.esx_writing.proofs.WritingLemmas.{first_failed}
use Rattle.esx_report.proofs.BehindLemmas.{puts_behind}
use Rattle.esx_report.proofs.site_csv.put_site.Goals as goal

pub returns-in_err-put_site_head-clause-bytes : goal.returns-in_err-put_site_head-clause-bytes
returns-in_err-put_site_head-clause-bytes g c =
    first_failed (g.W.Sink.contents c.args.sink.now) (g.W.Sink.contents c.put_site_head.new.sink) c.args.held.now c.put_site_head.new.held site_head site_head ((path_values c.args.told.now.path) ++ ((events_values c.args.told.now.levels) ++ ((entered_values c.args.told.now.levels) ++ ((extreme_values c.args.told.now.site) ++ ((refused_values c.args.told.now.refusals.now) ++ (end_values c.args.told.now.site)))))) c.from_residual.result c.from_residual.ensures.0 refl c.in_err-put_site_head.ensures.bytes

pub returns-in_err-put_path_values-clause-bytes : goal.returns-in_err-put_path_values-clause-bytes
returns-in_err-put_path_values-clause-bytes g c =
    puts_behind (g.W.Sink.contents c.args.sink.now) (g.W.Sink.contents c.put_site_head.new.sink) (g.W.Sink.contents c.put_path_values.new.sink) c.args.held.now c.put_site_head.new.held c.put_path_values.new.held site_head ((path_values c.args.told.now.path) ++ ((events_values c.args.told.now.levels) ++ ((entered_values c.args.told.now.levels) ++ ((extreme_values c.args.told.now.site) ++ ((refused_values c.args.told.now.refusals.now) ++ (end_values c.args.told.now.site)))))) c.from_residual-in_err-put_path_values.result c.in_ok-put_site_head.ensures.bytes
    (first_failed (g.W.Sink.contents c.put_site_head.new.sink) (g.W.Sink.contents c.put_path_values.new.sink) c.put_site_head.new.held c.put_path_values.new.held (path_values c.args.told.now.path) (path_values c.args.told.now.path) ((events_values c.args.told.now.levels) ++ ((entered_values c.args.told.now.levels) ++ ((extreme_values c.args.told.now.site) ++ ((refused_values c.args.told.now.refusals.now) ++ (end_values c.args.told.now.site))))) c.from_residual-in_err-put_path_values.result c.from_residual-in_err-put_path_values.ensures.0 refl c.in_err-put_path_values.ensures.bytes)

pub returns-in_err-put_events_values-clause-bytes : goal.returns-in_err-put_events_values-clause-bytes
returns-in_err-put_events_values-clause-bytes g c =
    puts_behind (g.W.Sink.contents c.args.sink.now) (g.W.Sink.contents c.put_site_head.new.sink) (g.W.Sink.contents c.put_events_values.new.sink) c.args.held.now c.put_site_head.new.held c.put_events_values.new.held site_head ((path_values c.args.told.now.path) ++ ((events_values c.args.told.now.levels) ++ ((entered_values c.args.told.now.levels) ++ ((extreme_values c.args.told.now.site) ++ ((refused_values c.args.told.now.refusals.now) ++ (end_values c.args.told.now.site)))))) c.from_residual-in_err-put_events_values.result c.in_ok-put_site_head.ensures.bytes
    (puts_behind (g.W.Sink.contents c.put_site_head.new.sink) (g.W.Sink.contents c.put_path_values.new.sink) (g.W.Sink.contents c.put_events_values.new.sink) c.put_site_head.new.held c.put_path_values.new.held c.put_events_values.new.held (path_values c.args.told.now.path) ((events_values c.args.told.now.levels) ++ ((entered_values c.args.told.now.levels) ++ ((extreme_values c.args.told.now.site) ++ ((refused_values c.args.told.now.refusals.now) ++ (end_values c.args.told.now.site))))) c.from_residual-in_err-put_events_values.result c.in_ok-put_path_values.ensures.bytes
    (first_failed (g.W.Sink.contents c.put_path_values.new.sink) (g.W.Sink.contents c.put_events_values.new.sink) c.put_path_values.new.held c.put_events_values.new.held (events_values c.args.told.now.levels) (events_values c.args.told.now.levels) ((entered_values c.args.told.now.levels) ++ ((extreme_values c.args.told.now.site) ++ ((refused_values c.args.told.now.refusals.now) ++ (end_values c.args.told.now.site)))) c.from_residual-in_err-put_events_values.result c.from_residual-in_err-put_events_values.ensures.0 refl c.in_err-put_events_values.ensures.bytes))

pub returns-in_err-put_entered_values-clause-bytes : goal.returns-in_err-put_entered_values-clause-bytes
returns-in_err-put_entered_values-clause-bytes g c =
    puts_behind (g.W.Sink.contents c.args.sink.now) (g.W.Sink.contents c.put_site_head.new.sink) (g.W.Sink.contents c.put_entered_values.new.sink) c.args.held.now c.put_site_head.new.held c.put_entered_values.new.held site_head ((path_values c.args.told.now.path) ++ ((events_values c.args.told.now.levels) ++ ((entered_values c.args.told.now.levels) ++ ((extreme_values c.args.told.now.site) ++ ((refused_values c.args.told.now.refusals.now) ++ (end_values c.args.told.now.site)))))) c.from_residual-in_err-put_entered_values.result c.in_ok-put_site_head.ensures.bytes
    (puts_behind (g.W.Sink.contents c.put_site_head.new.sink) (g.W.Sink.contents c.put_path_values.new.sink) (g.W.Sink.contents c.put_entered_values.new.sink) c.put_site_head.new.held c.put_path_values.new.held c.put_entered_values.new.held (path_values c.args.told.now.path) ((events_values c.args.told.now.levels) ++ ((entered_values c.args.told.now.levels) ++ ((extreme_values c.args.told.now.site) ++ ((refused_values c.args.told.now.refusals.now) ++ (end_values c.args.told.now.site))))) c.from_residual-in_err-put_entered_values.result c.in_ok-put_path_values.ensures.bytes
    (puts_behind (g.W.Sink.contents c.put_path_values.new.sink) (g.W.Sink.contents c.put_events_values.new.sink) (g.W.Sink.contents c.put_entered_values.new.sink) c.put_path_values.new.held c.put_events_values.new.held c.put_entered_values.new.held (events_values c.args.told.now.levels) ((entered_values c.args.told.now.levels) ++ ((extreme_values c.args.told.now.site) ++ ((refused_values c.args.told.now.refusals.now) ++ (end_values c.args.told.now.site)))) c.from_residual-in_err-put_entered_values.result c.in_ok-put_events_values.ensures.bytes
    (first_failed (g.W.Sink.contents c.put_events_values.new.sink) (g.W.Sink.contents c.put_entered_values.new.sink) c.put_events_values.new.held c.put_entered_values.new.held (entered_values c.args.told.now.levels) (entered_values c.args.told.now.levels) ((extreme_values c.args.told.now.site) ++ ((refused_values c.args.told.now.refusals.now) ++ (end_values c.args.told.now.site))) c.from_residual-in_err-put_entered_values.result c.from_residual-in_err-put_entered_values.ensures.0 refl c.in_err-put_entered_values.ensures.bytes)))

pub returns-in_err-put_extreme_values-clause-bytes : goal.returns-in_err-put_extreme_values-clause-bytes
returns-in_err-put_extreme_values-clause-bytes g c =
    puts_behind (g.W.Sink.contents c.args.sink.now) (g.W.Sink.contents c.put_site_head.new.sink) (g.W.Sink.contents c.put_extreme_values.new.sink) c.args.held.now c.put_site_head.new.held c.put_extreme_values.new.held site_head ((path_values c.args.told.now.path) ++ ((events_values c.args.told.now.levels) ++ ((entered_values c.args.told.now.levels) ++ ((extreme_values c.args.told.now.site) ++ ((refused_values c.args.told.now.refusals.now) ++ (end_values c.args.told.now.site)))))) c.from_residual-in_err-put_extreme_values.result c.in_ok-put_site_head.ensures.bytes
    (puts_behind (g.W.Sink.contents c.put_site_head.new.sink) (g.W.Sink.contents c.put_path_values.new.sink) (g.W.Sink.contents c.put_extreme_values.new.sink) c.put_site_head.new.held c.put_path_values.new.held c.put_extreme_values.new.held (path_values c.args.told.now.path) ((events_values c.args.told.now.levels) ++ ((entered_values c.args.told.now.levels) ++ ((extreme_values c.args.told.now.site) ++ ((refused_values c.args.told.now.refusals.now) ++ (end_values c.args.told.now.site))))) c.from_residual-in_err-put_extreme_values.result c.in_ok-put_path_values.ensures.bytes
    (puts_behind (g.W.Sink.contents c.put_path_values.new.sink) (g.W.Sink.contents c.put_events_values.new.sink) (g.W.Sink.contents c.put_extreme_values.new.sink) c.put_path_values.new.held c.put_events_values.new.held c.put_extreme_values.new.held (events_values c.args.told.now.levels) ((entered_values c.args.told.now.levels) ++ ((extreme_values c.args.told.now.site) ++ ((refused_values c.args.told.now.refusals.now) ++ (end_values c.args.told.now.site)))) c.from_residual-in_err-put_extreme_values.result c.in_ok-put_events_values.ensures.bytes
    (puts_behind (g.W.Sink.contents c.put_events_values.new.sink) (g.W.Sink.contents c.put_entered_values.new.sink) (g.W.Sink.contents c.put_extreme_values.new.sink) c.put_events_values.new.held c.put_entered_values.new.held c.put_extreme_values.new.held (entered_values c.args.told.now.levels) ((extreme_values c.args.told.now.site) ++ ((refused_values c.args.told.now.refusals.now) ++ (end_values c.args.told.now.site))) c.from_residual-in_err-put_extreme_values.result c.in_ok-put_entered_values.ensures.bytes
    (first_failed (g.W.Sink.contents c.put_entered_values.new.sink) (g.W.Sink.contents c.put_extreme_values.new.sink) c.put_entered_values.new.held c.put_extreme_values.new.held (extreme_values c.args.told.now.site) (extreme_values c.args.told.now.site) ((refused_values c.args.told.now.refusals.now) ++ (end_values c.args.told.now.site)) c.from_residual-in_err-put_extreme_values.result c.from_residual-in_err-put_extreme_values.ensures.0 refl c.in_err-put_extreme_values.ensures.bytes))))

pub returns-in_err-put_refused_values-clause-bytes : goal.returns-in_err-put_refused_values-clause-bytes
returns-in_err-put_refused_values-clause-bytes g c =
    puts_behind (g.W.Sink.contents c.args.sink.now) (g.W.Sink.contents c.put_site_head.new.sink) (g.W.Sink.contents c.put_refused_values.new.sink) c.args.held.now c.put_site_head.new.held c.put_refused_values.new.held site_head ((path_values c.args.told.now.path) ++ ((events_values c.args.told.now.levels) ++ ((entered_values c.args.told.now.levels) ++ ((extreme_values c.args.told.now.site) ++ ((refused_values c.args.told.now.refusals.now) ++ (end_values c.args.told.now.site)))))) c.from_residual-in_err-put_refused_values.result c.in_ok-put_site_head.ensures.bytes
    (puts_behind (g.W.Sink.contents c.put_site_head.new.sink) (g.W.Sink.contents c.put_path_values.new.sink) (g.W.Sink.contents c.put_refused_values.new.sink) c.put_site_head.new.held c.put_path_values.new.held c.put_refused_values.new.held (path_values c.args.told.now.path) ((events_values c.args.told.now.levels) ++ ((entered_values c.args.told.now.levels) ++ ((extreme_values c.args.told.now.site) ++ ((refused_values c.args.told.now.refusals.now) ++ (end_values c.args.told.now.site))))) c.from_residual-in_err-put_refused_values.result c.in_ok-put_path_values.ensures.bytes
    (puts_behind (g.W.Sink.contents c.put_path_values.new.sink) (g.W.Sink.contents c.put_events_values.new.sink) (g.W.Sink.contents c.put_refused_values.new.sink) c.put_path_values.new.held c.put_events_values.new.held c.put_refused_values.new.held (events_values c.args.told.now.levels) ((entered_values c.args.told.now.levels) ++ ((extreme_values c.args.told.now.site) ++ ((refused_values c.args.told.now.refusals.now) ++ (end_values c.args.told.now.site)))) c.from_residual-in_err-put_refused_values.result c.in_ok-put_events_values.ensures.bytes
    (puts_behind (g.W.Sink.contents c.put_events_values.new.sink) (g.W.Sink.contents c.put_entered_values.new.sink) (g.W.Sink.contents c.put_refused_values.new.sink) c.put_events_values.new.held c.put_entered_values.new.held c.put_refused_values.new.held (entered_values c.args.told.now.levels) ((extreme_values c.args.told.now.site) ++ ((refused_values c.args.told.now.refusals.now) ++ (end_values c.args.told.now.site))) c.from_residual-in_err-put_refused_values.result c.in_ok-put_entered_values.ensures.bytes
    (puts_behind (g.W.Sink.contents c.put_entered_values.new.sink) (g.W.Sink.contents c.put_extreme_values.new.sink) (g.W.Sink.contents c.put_refused_values.new.sink) c.put_entered_values.new.held c.put_extreme_values.new.held c.put_refused_values.new.held (extreme_values c.args.told.now.site) ((refused_values c.args.told.now.refusals.now) ++ (end_values c.args.told.now.site)) c.from_residual-in_err-put_refused_values.result c.in_ok-put_extreme_values.ensures.bytes
    (first_failed (g.W.Sink.contents c.put_extreme_values.new.sink) (g.W.Sink.contents c.put_refused_values.new.sink) c.put_extreme_values.new.held c.put_refused_values.new.held (refused_values c.args.told.now.refusals.now) (refused_values c.args.told.now.refusals.now) (end_values c.args.told.now.site) c.from_residual-in_err-put_refused_values.result c.from_residual-in_err-put_refused_values.ensures.0 refl c.in_err-put_refused_values.ensures.bytes)))))

pub returns-clause-bytes : goal.returns-clause-bytes
returns-clause-bytes g c =
    puts_behind (g.W.Sink.contents c.args.sink.now) (g.W.Sink.contents c.put_site_head.new.sink) (g.W.Sink.contents c.put_end_values.new.sink) c.args.held.now c.put_site_head.new.held c.put_end_values.new.held site_head ((path_values c.args.told.now.path) ++ ((events_values c.args.told.now.levels) ++ ((entered_values c.args.told.now.levels) ++ ((extreme_values c.args.told.now.site) ++ ((refused_values c.args.told.now.refusals.now) ++ (end_values c.args.told.now.site)))))) c.put_end_values.result c.in_ok-put_site_head.ensures.bytes
    (puts_behind (g.W.Sink.contents c.put_site_head.new.sink) (g.W.Sink.contents c.put_path_values.new.sink) (g.W.Sink.contents c.put_end_values.new.sink) c.put_site_head.new.held c.put_path_values.new.held c.put_end_values.new.held (path_values c.args.told.now.path) ((events_values c.args.told.now.levels) ++ ((entered_values c.args.told.now.levels) ++ ((extreme_values c.args.told.now.site) ++ ((refused_values c.args.told.now.refusals.now) ++ (end_values c.args.told.now.site))))) c.put_end_values.result c.in_ok-put_path_values.ensures.bytes
    (puts_behind (g.W.Sink.contents c.put_path_values.new.sink) (g.W.Sink.contents c.put_events_values.new.sink) (g.W.Sink.contents c.put_end_values.new.sink) c.put_path_values.new.held c.put_events_values.new.held c.put_end_values.new.held (events_values c.args.told.now.levels) ((entered_values c.args.told.now.levels) ++ ((extreme_values c.args.told.now.site) ++ ((refused_values c.args.told.now.refusals.now) ++ (end_values c.args.told.now.site)))) c.put_end_values.result c.in_ok-put_events_values.ensures.bytes
    (puts_behind (g.W.Sink.contents c.put_events_values.new.sink) (g.W.Sink.contents c.put_entered_values.new.sink) (g.W.Sink.contents c.put_end_values.new.sink) c.put_events_values.new.held c.put_entered_values.new.held c.put_end_values.new.held (entered_values c.args.told.now.levels) ((extreme_values c.args.told.now.site) ++ ((refused_values c.args.told.now.refusals.now) ++ (end_values c.args.told.now.site))) c.put_end_values.result c.in_ok-put_entered_values.ensures.bytes
    (puts_behind (g.W.Sink.contents c.put_entered_values.new.sink) (g.W.Sink.contents c.put_extreme_values.new.sink) (g.W.Sink.contents c.put_end_values.new.sink) c.put_entered_values.new.held c.put_extreme_values.new.held c.put_end_values.new.held (extreme_values c.args.told.now.site) ((refused_values c.args.told.now.refusals.now) ++ (end_values c.args.told.now.site)) c.put_end_values.result c.in_ok-put_extreme_values.ensures.bytes
    (puts_behind (g.W.Sink.contents c.put_extreme_values.new.sink) (g.W.Sink.contents c.put_refused_values.new.sink) (g.W.Sink.contents c.put_end_values.new.sink) c.put_extreme_values.new.held c.put_refused_values.new.held c.put_end_values.new.held (refused_values c.args.told.now.refusals.now) (end_values c.args.told.now.site) c.put_end_values.result c.in_ok-put_refused_values.ensures.bytes c.put_end_values.ensures.bytes)))))
