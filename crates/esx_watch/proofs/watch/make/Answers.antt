use Rattle.std.proofs.Common.{◌≡◌, Ok, sym, ap, subst, ◌∙◌}
use Rattle.std.specs.Option.{option_map}
use Rattle.esx_types.specs.declared.config.Config.{Config}
use Rattle.esx_events.specs.declared.event.Event.{Event}
use Rattle.esx_model.specs.Replay.{next}
use Rattle.esx_model.specs.sound.Sound.{IsSound}
use Rattle.esx_machine.specs.Machine.{Kept, Shows}
use Rattle.esx_story.specs.Moments.{moments}
use Rattle.esx_figures.specs.Sharing.{parted}
use Rattle.esx_watch.specs.Watches.{watched}
use Rattle.esx_watch.proofs.Watching.{moment_of, watch_more}
use Rattle.esx_watch.proofs.watch.make.Goals as goal

pub parted-gone-requires : goal.parted-gone-requires
parted-gone-requires c = (c.args.machine.now, (c.in-Ok.ensures.event c.requires.shows.0 c.requires.shows.1).back)

pub returns-in-Ok : goal.returns-in-Ok
returns-in-Ok c = λ site es watch. (
    let e : Event = c.args.event.now in
    let answer = c.in-Ok.answer in
    let t = watch.scene in
    let x = c.in-Ok.ensures.event t watch.shows in
    let goes : next site t e ≡ Ok (answer, x.after) = ap (λ (q : Config). next q t e) (sym watch.config) ∙ x.gives in
    let S : Config → Type 0 = λ q. IsSound q t.site in
    let sound : IsSound site t.site = subst S watch.config watch.shows.sound in
    let same = c.parted-gone.ensures.same in
    let K : Kept → Type 0 = λ k. Shows k x.after in
    let shows = subst K (sym same) x.shows in
    let config = ap (λ (k : Kept). k.config) same ∙ x.config ∙ watch.config in
    let log = c.go_on.ensures site (moments site es) (moment_of e answer t x.after) watch.log (record {
      sound = sound;
      goes = goes;
      shows = shows;
      config = config;
      parted = c.parted-gone.ensures.parted c.args.machine.now t x.back watch.shows ∙ ap (parted t.site) c.parting.ensures;
      joined = c.joining.ensures;
      host = c.vm_of-host.ensures ∙ ap (option_map (λ p. p.0)) (c.equal_page.ensures t watch.shows);
    }) in (
      watch_more site es e answer (watched c.args.machine.now c.args.log.now) (watched c.parted-gone.new.machine c.go_on.new.self) x.after watch goes shows config log,
      record { before = t; runs = watch.runs; after = x.after; goes = goes },
    ))
