use Rattle.std.proofs.Common.{◌+◌, [], ◌∷◌, ◌++◌, length, arith}
use Rattle.std.proofs.lemmas.List.{length-append}
use Rattle.esx_events.specs.declared.event.Event.{Event}
use Rattle.esx_story.specs.Waits.{Met}
use Rattle.story_tests.proofs.tests.paths.make_one.Goals as goal

pub go-requires : goal.go-requires
go-requires c = (let w = c.requires.walk in
    let short = w.short in
    let few = c.requires.few in
    record { short = record { config = w.config; events = w.events; mets = w.mets; walk = w.walk; short = omega (arith, short, few) } })

pub refuse-requires : goal.refuse-requires
refuse-requires c = (let w = c.requires.walk in
    let few = w.few in
    let most = c.requires.few in
    record { few = record { config = w.config; events = w.events; mets = w.mets; walk = (c.in-Err.ensures w.config w.events w.mets w.walk).0; few = omega (arith, few, most) } })

pub returns-in-Ok : goal.returns-in-Ok
returns-in-Ok c =
    let w = c.requires.walk in
    let e : Event = c.args.event.now in
    let long = length-append w.events (e ∷ []) in
    let short = w.short in
    let few = w.few in
    record {
      config = w.config;
      events = w.events ++ e ∷ [];
      mets = w.mets;
      walk = (c.in-Ok.ensures w.config w.events w.mets w.walk).0;
      short = omega (arith, long, short);
      few = omega (arith, few);
    }

pub returns-in-Err : goal.returns-in-Err
returns-in-Err c =
    let w = c.requires.walk in
    let m : Met = record { at = length w.events; access = c.access_of.result; refusal = c.in-Err.refusal } in
    let long = length-append w.mets (m ∷ []) in
    let short = w.short in
    let few = w.few in
    record {
      config = w.config;
      events = w.events;
      mets = w.mets ++ m ∷ [];
      walk = c.refuse.ensures w.config w.events w.mets (c.in-Err.ensures w.config w.events w.mets w.walk).0;
      short = omega (arith, short);
      few = omega (arith, long, few);
    }
