-- How much was counted, at most.
use Rattle.std.specs.Prelude.{◌≡◌, ℕ, ◌+◌, ◌<◌, ◌≤◌, List, length, slice_get, Some}
use Rattle.esx_types.specs.declared.config.TheConstants.{MAX_NODES}
use Rattle.esx_types.specs.declared.config.Config.{Config}
use Rattle.esx_model.specs.declared.scene.Site.{Site}
use Rattle.esx_story.specs.declared.story.Loss.{Loss}
use Rattle.esx_story.specs.Counts.{came_in, lost_in}
use Rattle.esx_story.specs.Moments.{Moment}
use Rattle.esx_story.specs.Waits.{Met}
use Rattle.esx_walk.specs.declared.lives.Life.{Life}
use Rattle.esx_walk.specs.Account.{Account, life_in}
use Rattle.esx_walk.specs.Accounts.{IsAccount}

pub record IsFew (most : ℕ) (l : Life) : Type 0 where
  pub lives : l.lives ≤ most
  pub counts : came_in l.counts + lost_in l.counts ≤ most

-- in the life under each number
abbrev pub AreFew : ℕ → List Life → Type 0
AreFew most lives = (n : ℕ) → IsFew most (life_in lives n)

-- and for each loss
abbrev pub AreFewWaits : ℕ → List Loss → Type 0
AreFewWaits most losses = (j : ℕ) (l : Loss) → slice_get losses j ≡ Some l → l.waits ≤ most

-- The account is of a path that may go on.
pub record IsShort (a : Account) : Type 0 where
  pub config : Config
  pub moments : List Moment
  pub mets : List Met
  pub site : Site
  pub account : IsAccount config moments mets site a
  pub short : length moments < MAX_NODES

-- The account is of a path on which one more call may be refused.
pub record IsPatient (a : Account) : Type 0 where
  pub config : Config
  pub moments : List Moment
  pub mets : List Met
  pub site : Site
  pub account : IsAccount config moments mets site a
  pub few : length mets < 4294967295
