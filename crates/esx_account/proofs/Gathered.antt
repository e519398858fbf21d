-- What is gathered of a path that was surveyed.
use Rattle.std.proofs.Common.{◌≡◌, List, sym, subst}
use Rattle.esx_types.specs.declared.config.Config.{Config}
use Rattle.esx_types.specs.Ranges.{IsConfig}
use Rattle.esx_session.specs.declared.session.Entry.{Entry}
use Rattle.esx_session.specs.declared.session.Request.{Request}
use Rattle.esx_sums.specs.Accounts.{IsSums}
use Rattle.esx_sums.specs.Sums.{Sums}
use Rattle.esx_survey.specs.Surveys as surveys
use Rattle.esx_survey.specs.Surveys.{Surveyed}
use Rattle.esx_walk.specs.Walks.{Walked, IsWalk}
use Rattle.esx_paths.specs.declared.path.Path.{Path}
use Rattle.esx_account.specs.Account.{moments_to}
use Rattle.esx_account.specs.Surveying.{IsPathOf, SurveysPath, IsAlong, events_to, mets_of}
use Rattle.esx_account.proofs.Accepted.{path_fits}
use Rattle.esx_account.proofs.Ways.{along_long}

-- what is lent of a survey is of the path
pub walk_lent : (site : Config) (entries : List Entry) (way : Path) (s : Surveyed) (w : Walked) → w ≡ s.walk → SurveysPath site entries way s → IsWalk site (events_to site entries way) (mets_of way) w
walk_lent site entries way s w is survey = (let P : Walked → Type 0 = λ x. IsWalk site (events_to site entries way) (mets_of way) x in subst P (sym is) survey.walk)

pub sums_lent : (site : Config) (entries : List Entry) (way : Path) (s : Surveyed) (t : Sums) → t ≡ s.sums → SurveysPath site entries way s → IsSums site (moments_to site entries way) (mets_of way) t
sums_lent site entries way s t is survey = (let P : Sums → Type 0 = λ x. IsSums site (moments_to site entries way) (mets_of way) x in subst P (sym is) survey.sums)

pub walks_along : (site : Config) (entries : List Entry) (requests : List Request) (way : Path) (s : Surveyed) (w : Walked) → w ≡ s.walk → IsPathOf site entries requests way → SurveysPath site entries way s → IsAlong way.waypoints w
walks_along site entries requests way s w same is survey = record {
  site = site;
  events = events_to site entries way;
  mets = mets_of way;
  walk = walk_lent site entries way s w same survey;
  long = along_long site entries requests way is;
}

pub is_short : (site : Config) (entries : List Entry) (way : Path) (s : Surveyed) → IsConfig site → SurveysPath site entries way s → surveys.IsAlong s
is_short site entries way s good survey = record {
  config = site;
  events = events_to site entries way;
  mets = mets_of way;
  survey = survey;
  short = path_fits site entries way.node good;
}
