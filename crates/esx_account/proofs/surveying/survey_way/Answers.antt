use Rattle.std.proofs.Common.{◌≡◌, ℕ, ◌+◌, List, [], length, map, take, drop, sym, subst, arith}
use Rattle.std.proofs.lemmas.List.{take_all, length-take-le}
use Rattle.std.proofs.lemmas.Option.{slice_get_within}
use Rattle.esx_events.specs.declared.event.Event.{Event}
use Rattle.esx_session.specs.declared.session.Request.{Request}
use Rattle.esx_story.specs.Waits as story
use Rattle.esx_survey.specs.Surveys.{IsSurvey}
use Rattle.esx_paths.specs.declared.way.Waypoint.{Waypoint}
use Rattle.esx_paths.specs.declared.mets.Met.{Met}
use Rattle.esx_account.specs.Surveying.{IsWay, met_of, NeverFall}
use Rattle.esx_account.proofs.Asked.{event_is_asked, event_is}
use Rattle.esx_account.proofs.Front.{front_leads}
use Rattle.esx_account.proofs.Told.{all_told}
use Rattle.esx_account.proofs.Ways.{way_long, made_more}
use Rattle.esx_account.proofs.surveying.survey_way.Goals as goal

-- stands for a waypoint where there is none
abbrev none : Waypoint
none = record { node = 0; call = 0; caller = 0 }

pub event_asked-requires : goal.event_asked-requires
event_asked-requires c = event_is_asked c.args.requests.now c.args.waypoints.now c.requires.way.0 c.loop-at._at none c.requires.way.1.events c.loop-at-test.true

pub go-requires : goal.go-requires
go-requires c =
    let requests : List Request = c.args.requests.now in
    let waypoints : List Waypoint = c.args.waypoints.now in
    let es : List Event = c.requires.way.0 in
    let way = c.requires.way.1 in
    let at = c.loop-at._at in
    let e : Event = c.event_asked.result.now in
    let there = event_is requests waypoints es at none e way.events c.loop-at-test.true c.event_asked.ensures in
    let leads = front_leads c.args.site es at e way.scene there way.runs in
    let within = slice_get_within es at e there in
    let front = length-take-le at es (omega arith) in
    let most = way.short in
    record {
      site = c.args.site;
      events = take at es;
      mets = map met_of (take c.loop-at.told c.args.mets.now);
      survey = c.loop-at.invariant.survey es way;
      short = omega arith;
      scene = leads.scene;
      runs = leads.runs;
    }

pub refuse_here-told-requires-in-loop-at : goal.refuse_here-told-requires-in-loop-at
refuse_here-told-requires-in-loop-at c =
    let requests : List Request = c.args.requests.now in
    let waypoints : List Waypoint = c.args.waypoints.now in
    let mets : List Met = c.args.mets.now in
    let es : List Event = c.requires.way.0 in
    let way = c.requires.way.1 in
    let at = c.loop-at._at in
    let e : Event = c.event_asked.result.now in
    let told : List story.Met = map met_of (take c.loop-at.told mets) in
    let went = c.in_ok-go.ensures c.args.site (take at es) told (c.loop-at.invariant.survey es way) in
    record {
      tells = record {
        site = c.args.site;
        events = take (at + 1) es;
        survey = made_more c.args.site requests waypoints mets es told at none e c.go.new.survey way c.loop-at-test.true c.event_asked.ensures went;
        within = c.loop-at.invariant.within;
        few = way.few;
      };
    }

pub loop-at-init : goal.loop-at-init
loop-at-init c =
    let opened : IsSurvey c.args.site [] [] c.in_ok-survey.survey = c.in_ok-survey.ensures in
    let told = c.refuse_here-told.ensures in
    record {
      survey = λ es way. told.told c.args.site [] opened;
      later = λ es way. told.later c.args.site [] opened way.order;
      within = told.within;
    }

pub loop-at-preserved : goal.loop-at-preserved
loop-at-preserved c =
    let requests : List Request = c.args.requests.now in
    let waypoints : List Waypoint = c.args.waypoints.now in
    let mets : List Met = c.args.mets.now in
    let at = c.loop-at._at in
    let e : Event = c.event_asked.result.now in
    let told : List story.Met = map met_of (take c.loop-at.told mets) in
    let went : (es : List Event) → IsWay c.args.site requests waypoints mets es → IsSurvey c.args.site (take (at + 1) es) told c.go.new.survey =
    λ es way. made_more c.args.site requests waypoints mets es told at none e c.go.new.survey way c.loop-at-test.true c.event_asked.ensures
    (c.in_ok-go.ensures c.args.site (take at es) told (c.loop-at.invariant.survey es way)) in
    let long : (es : List Event) → IsWay c.args.site requests waypoints mets es → length (take (at + 1) es) ≡ at + 1 =
    λ es way. (let many = way_long c.args.site requests waypoints mets es way in
    let below = c.loop-at-test.true in
    length-take-le (at + 1) es (omega arith)) in
    record {
      survey = λ es way. c.refuse_here-told-in-loop-at.ensures.told c.args.site (take (at + 1) es) (went es way);
      later = λ es way. (
          let P : ℕ → Type 0 = λ k. NeverFall k (drop c.loop-at.told mets) in
          let Q : ℕ → Type 0 = λ k. NeverFall (k + 1) (drop c.refuse_here-told-in-loop-at.result mets) in
          subst Q (long es way) (c.refuse_here-told-in-loop-at.ensures.later c.args.site (take (at + 1) es) (went es way) (subst P (sym (long es way)) (c.loop-at.invariant.later es way))));
      within = c.refuse_here-told-in-loop-at.ensures.within;
    }

pub returns : goal.returns
returns c = λ es way. (
    let mets : List Met = c.args.mets.now in
    let long = way_long c.args.site c.args.requests.now c.args.waypoints.now mets es way in
    let last : c.loop-at._at + 1 ≡ length es + 1 = omega arith in
    let P : ℕ → Type 0 = λ k. NeverFall k (drop c.loop-at.told mets) in
    let all = all_told mets c.loop-at.told (length es) way.within (subst P last (c.loop-at.invariant.later es way)) in
    let Q : List Event → Type 0 = λ xs. IsSurvey c.args.site xs (map met_of (take c.loop-at.told mets)) c.loop-at.survey in
    let R : List Met → Type 0 = λ ms. IsSurvey c.args.site es (map met_of ms) c.loop-at.survey in
    subst R all (subst Q (take_all c.loop-at._at es (omega arith)) (c.loop-at.invariant.survey es way)))
