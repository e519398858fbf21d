use Rattle.std.proofs.Common.{◌≡◌, ◌≢◌, ◌∙◌, List, length, map, take, arith}
use Rattle.std.proofs.lemmas.List.{length-map, length-take-le}
use Rattle.esx_paths.specs.declared.mets.Met.{Met}
use Rattle.esx_account.specs.Surveying.{met_of}
use Rattle.esx_account.proofs.Told.{told_more, stops_here, goes_here}
use Rattle.esx_account.proofs.surveying.refuse_here.Goals as goal

pub refuse-requires : goal.refuse-requires
refuse-requires c =
    let tells = c.requires.tells in
    let mets : List Met = c.args.mets.now in
    let next = c.loop-next.next in
    let front = length-take-le next mets (omega arith) in
    let long = length-map (take next mets) met_of in
    let below = c.loop-next-test.true in
    record {
      few = record {
        config = tells.site;
        events = tells.events;
        mets = map met_of (take next mets);
        survey = c.loop-next.invariant.told tells.site tells.events tells.survey;
        few = omega arith;
      };
    }

pub returns-then-met-here-clause-later : goal.returns-then-met-here-clause-later
returns-then-met-here-clause-later c = λ site es survey rise. (
    let mets : List Met = c.args.mets.now in
    let m : Met = c.index-mets-next.result in
    let here = c.events-here.ensures site es (map met_of (take c.args.first mets)) survey in
    let other : m.at ≢ length es = λ same. c.if-met-here.true (omega arith) in
    stops_here mets c.loop-next.next (length es) m c.loop-next-test.true c.index-mets-next.is other (c.loop-next.invariant.later site es survey rise))

pub loop-next-preserved : goal.loop-next-preserved
loop-next-preserved c =
    let mets : List Met = c.args.mets.now in
    let m : Met = c.index-mets-next.result in
    let next = c.loop-next.next in
    record {
      told = λ site es survey. (
          let here = c.events-here.ensures site es (map met_of (take c.args.first mets)) survey in
          let at : m.at ≡ length es = c.if-met-here.false ∙ here in
          told_more site es c.refuse.new.self mets next m c.loop-next-test.true c.index-mets-next.is at
          (c.refuse.ensures site es (map met_of (take next mets)) (c.loop-next.invariant.told site es survey)));
      later = λ site es survey rise. (
          let here = c.events-here.ensures site es (map met_of (take c.args.first mets)) survey in
          let at : m.at ≡ length es = c.if-met-here.false ∙ here in
          goes_here mets next (length es) m c.loop-next-test.true c.index-mets-next.is at (c.loop-next.invariant.later site es survey rise));
    }
