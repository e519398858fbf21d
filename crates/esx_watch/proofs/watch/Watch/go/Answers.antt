use Rattle.std.proofs.Common.{◌<◌, List, refl, sym, subst}
use Rattle.esx_types.specs.declared.config.Config.{Config}
use Rattle.esx_types.specs.declared.config.TheConstants.{MAX_NODES, MAX_PAGES}
use Rattle.esx_events.specs.declared.event.Event.{Event}
use Rattle.esx_watch.specs.Logs.{Log}
use Rattle.esx_watch.specs.Shifting.{AreAtMost}
use Rattle.esx_watch.specs.Watches.{Watched, watched, IsWatch, MayWatch, WatchedOn}
use Rattle.esx_watch.proofs.Watching.{short_log, small_log, can_rise}
use Rattle.esx_watch.proofs.watch.Watch.go.Goals as goal

pub make-requires-clause-rise : goal.make-requires-clause-rise
make-requires-clause-rise c = can_rise (watched c.self.inside.machine c.self.inside.log) (subst MayWatch (sym c.self.view_is) c.requires.short)

pub make-requires-clause-short : goal.make-requires-clause-short
make-requires-clause-short c =
    let P : Log → Type 0 = λ x. x.events < MAX_NODES in
    subst P (sym c.take_room.ensures.same) (short_log (watched c.self.inside.machine c.self.inside.log) (subst MayWatch (sym c.self.view_is) c.requires.short))

pub make-requires-clause-small : goal.make-requires-clause-small
make-requires-clause-small c =
    let P : Log → Type 0 = λ x. AreAtMost MAX_PAGES x.shared in
    subst P (sym c.take_room.ensures.same) (small_log (watched c.self.inside.machine c.self.inside.log) (subst MayWatch (sym c.self.view_is) c.requires.short))

pub make-requires-clause-shows : goal.make-requires-clause-shows
make-requires-clause-shows c = (let may = subst MayWatch (sym c.self.view_is) c.requires.short in (may.watch.scene, may.watch.shows))

pub returns-in-Ok : goal.returns-in-Ok
returns-in-Ok c =
    let P : Watched → Type 0 = λ x. (site : Config) (es : List Event) → IsWatch site es x → WatchedOn site es c.args.event.now c.make.result (watched c.make.new.machine c.make.new.log) in
    let Q : Log → Type 0 = λ x. P (record { machine = c.self.inside.machine; log = x }) in
    subst P c.self.view_is (subst Q c.take_room.ensures.same c.make.ensures)

pub returns-in-Err : goal.returns-in-Err
returns-in-Err c =
    let P : Watched → Type 0 = λ x. (site : Config) (es : List Event) → IsWatch site es x → IsWatch site es (watched c.self.inside.machine c.take_room.new.self) in
    let Q : Log → Type 0 = λ x. P (record { machine = c.self.inside.machine; log = x }) in
    let stays = subst P c.self.view_is (subst Q c.take_room.ensures.same (λ site es watch. watch)) in
    λ site es watch. (stays site es watch, λ no. absurd (no refl))
