use Rattle.std.proofs.Common.{◌≡◌, ℕ, List, length, refl, sym, ◌∙◌, ap, subst, arith}
use Rattle.esx_types.specs.declared.config.Config.{Config}
use Rattle.esx_events.specs.declared.event.Event.{Event}
use Rattle.esx_session.specs.declared.session.Entry.{Entry}
use Rattle.esx_story.specs.Moments.{Moment}
use Rattle.esx_story.specs.Waits as story
use Rattle.esx_sums.specs.Kept.{sums_of}
use Rattle.esx_paths.specs.declared.path.Path.{Path}
use Rattle.esx_report.specs.declared.losses.LossLine.{LossLine}
use Rattle.esx_report.specs.Losses.{AreGoodLines}
use Rattle.esx_account.specs.Account.{path_counts, losses_by_level, moments_to, losses_to}
use Rattle.esx_account.specs.Lines.{AreLinesOf, AreAsked}
use Rattle.esx_account.specs.Surveying.{events_to, mets_of}
use Rattle.esx_account.proofs.Counted.{losses_few, counts_few, counts_are}
use Rattle.esx_account.proofs.Gathered.{walk_lent, sums_lent, walks_along, is_short}
use Rattle.esx_account.proofs.account.gathered.Goals as goal

pub loss_lines-requires : goal.loss_lines-requires
loss_lines-requires c =
    let site : Config = c.args.script.site in
    record { along = walks_along site c.requires.path.0 c.args.script.requests c.args.path.now c.args.survey.now c.walk.result.now c.walk.ensures c.requires.path.1 c.requires.path.2 }

pub guests-requires : goal.guests-requires
guests-requires c =
    let site : Config = c.args.script.site in
    record { along = is_short site c.requires.path.0 c.args.path.now c.args.survey.now c.requires.site c.requires.path.2 }

pub path_counts-requires : goal.path_counts-requires
path_counts-requires c =
    let site : Config = c.args.script.site in
    let few = counts_few site c.requires.path.0 c.args.script.requests c.args.path.now c.requires.site (omega arith) c.requires.path.1 in
    record { nodes = few.nodes; mets = few.mets; elsewhere = few.elsewhere }

pub losses_by_level-requires : goal.losses_by_level-requires
losses_by_level-requires c =
    let site : Config = c.args.script.site in
    let way : Path = c.args.path.now in
    let entries : List Entry = c.requires.path.0 in
    let walk = walk_lent site entries way c.args.survey.now c.walk-2.result.now c.walk-2.ensures c.requires.path.2 in
    let told = ap length (c.losses.ensures.told site (events_to site entries way) (mets_of way) walk) in
    let few = losses_few site entries way c.requires.site in
    omega arith

pub returns : goal.returns
returns c = λ entries is surveys. (
    let site : Config = c.args.script.site in
    let way : Path = c.args.path.now in
    let es : List Event = events_to site entries way in
    let ms : List Moment = moments_to site entries way in
    let mets : List story.Met = mets_of way in
    let sums = sums_lent site entries way c.args.survey.now (sums_of c.sums-sums.result.now) c.sums-sums.ensures surveys in
    let walk = walk_lent site entries way c.args.survey.now c.walk.result.now c.walk.ensures surveys in
    let walk_there = walk_lent site entries way c.args.survey.now c.walk-2.result.now c.walk-2.ensures surveys in
    let lines : c.in_ok-losses.losses.items ≡ c.from_vec-3.result = sym c.from_vec-3.ensures in
    let Tell : List LossLine → Type 0 = λ xs. AreLinesOf way.waypoints (losses_to site entries way) xs in
    let Good : List LossLine → Type 0 = λ xs. AreGoodLines xs in
    let Asked : List LossLine → Type 0 = λ xs. AreAsked c.args.script.requests xs in
    record {
      opened = c.opened_of.ensures;
      path = c.path_counts.ensures ∙ ap (λ (n : ℕ). path_counts n way) (c.events.ensures site es mets surveys) ∙ counts_are site entries c.args.script.requests way is;
      levels = c.levels.ensures site ms mets sums;
      site = c.site.ensures site ms mets sums;
      refusals = c.from_vec.ensures ∙ c.in_ok-refusals.ensures site ms mets sums;
      guests = c.from_vec-2.ensures ∙ c.in_ok-guests.ensures site es mets surveys;
      by_level = c.losses_by_level.ensures ∙ ap losses_by_level (c.losses.ensures.told site es mets walk_there);
      losses = subst Tell lines (c.in_ok-losses.ensures.told site es mets walk);
      good = subst Good lines c.in_ok-losses.ensures.good;
      asked = subst Asked lines (c.in_ok-losses.ensures.asked site entries c.args.script.requests is);
      calls = is.calls;
      opened_as = refl;
    })
