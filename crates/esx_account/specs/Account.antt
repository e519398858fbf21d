-- What a report tells of the path to a node of a session.
use Rattle.std.specs.Prelude.{◌≡◌, ℕ, List, length, map}
use Rattle.std.specs.List.{range_with_len}
use Rattle.esx_types.specs.declared.config.Config.{Config}
use Rattle.esx_types.specs.declared.level.Level.TheVariants.{High, Soft, Hard, Low}
use Rattle.esx_formulas.specs.Level.{high_threshold, soft_threshold, hard_threshold, low_threshold, margin}
use Rattle.esx_model.specs.Console.{history}
use Rattle.esx_session.specs.declared.session.Entry.{Entry}
use Rattle.esx_session.specs.Sessions.{request}
use Rattle.esx_check.specs.Again.{made}
use Rattle.esx_story.specs.declared.story.Loss.{Loss}
use Rattle.esx_story.specs.Moments.{Moment, moments}
use Rattle.esx_story.specs.Waits as story
use Rattle.esx_story.specs.Story.{told}
use Rattle.esx_sums.specs.Losses.{level_losses}
use Rattle.esx_sums.specs.Mets.{refused_with}
use Rattle.esx_sums.specs.Rows as rows
use Rattle.esx_sums.specs.Site.{IsSiteSums, levels}
use Rattle.esx_sums.specs.Sums.{REFUSALS}
use Rattle.esx_paths.specs.declared.path.Path.{Path}
use Rattle.esx_report.specs.declared.site.Opened.{Opened}
use Rattle.esx_report.specs.declared.site.PathSums.{PathSums}
use Rattle.esx_report.specs.declared.told.LossesByLevel.{LossesByLevel}
use Rattle.esx_report.specs.Losses.{AreGoodLines}
use Rattle.esx_account.specs.declared.account.Account.{Account}
use Rattle.esx_account.specs.Lines.{AreLinesOf, AreAsked}
use Rattle.esx_account.specs.Surveying.{events_to, mets_of}

-- a site as it was opened, with the thresholds of its levels in frames
abbrev pub opened_of : Config → Opened
opened_of c = record {
  frames = c.frames;
  page = c.page;
  slots = c.slots;
  high = high_threshold c;
  soft = soft_threshold c;
  hard = hard_threshold c;
  low = low_threshold c;
  margin = margin c;
}

-- the path to a node, within its session
abbrev pub path_sums : Config → List Entry → Path → PathSums
path_sums c entries way = record {
  events = length (events_to c entries way);
  made = length (history (made c entries)).nodes;
  node = way.node;
  calls = length entries;
  refused = length way.mets;
  elsewhere = way.elsewhere;
}

-- the counts of a path with so many events, as the first pass told them
abbrev pub path_counts : ℕ → Path → PathSums
path_counts events way = record {
  events = events;
  made = way.nodes;
  node = way.node;
  calls = way.calls;
  refused = length way.mets;
  elsewhere = way.elsewhere;
}

-- how many calls were refused for each reason whose number is below another, in order
unfoldable pub refusals_below : ℕ → List story.Met → List ℕ
refusals_below k mets = map (λ (number : ℕ). refused_with number mets) (range_with_len 0 k)

-- how many were for each reason, by its number
abbrev pub refusals_of : List story.Met → List ℕ
refusals_of mets = refusals_below REFUSALS mets

-- how many losses came in each way, at each level
abbrev pub losses_by_level : List Loss → LossesByLevel
losses_by_level losses = record {
  high = level_losses High losses;
  soft = level_losses Soft losses;
  hard = level_losses Hard losses;
  low = level_losses Low losses;
}

-- the moments of the path to a node
abbrev pub moments_to : Config → List Entry → Path → List Moment
moments_to c entries way = moments c (events_to c entries way)

-- its losses
abbrev pub losses_to : Config → List Entry → Path → List Loss
losses_to c entries way = told c (moments_to c entries way) (mets_of way)

-- The account is of the path to a node of a session.
pub record IsAccountOf (c : Config) (entries : List Entry) (way : Path) (a : Account) : Type 0 where
  pub opened : a.opened ≡ opened_of c
  pub path : a.path ≡ path_sums c entries way
  pub levels : a.levels ≡ levels (moments_to c entries way)
  pub site : IsSiteSums c (moments_to c entries way) a.site
  pub refusals : a.refusals ≡ refusals_of (mets_of way)
  pub guests : a.guests ≡ rows.guests c (moments_to c entries way) (mets_of way) (losses_to c entries way)
  pub by_level : a.by_level ≡ losses_by_level (losses_to c entries way)
  pub losses : AreLinesOf way.waypoints (losses_to c entries way) a.losses
  pub good : AreGoodLines a.losses
  pub asked : AreAsked a.script.requests a.losses
  pub calls : a.script.requests ≡ map request entries
  pub opened_as : a.script.site ≡ c
