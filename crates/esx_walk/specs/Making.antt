-- What is prepared for an event that is to be made.
use Rattle.std.specs.Prelude.{◌≡◌, ℕ, List, Option, Result}
use Rattle.esx_types.specs.declared.config.Config.{Config}
use Rattle.esx_events.specs.declared.event.Event.{Event}
use Rattle.esx_events.specs.declared.event.Refusal.{Refusal}
use Rattle.esx_events.specs.declared.call.PageState.{PageState}
use Rattle.esx_model.specs.declared.scene.Scene.{Scene}
use Rattle.esx_model.specs.Show.{shown}
use Rattle.esx_machine.specs.Machine.{Kept}
use Rattle.esx_story.specs.declared.story.Seen.{Seen}
use Rattle.esx_story.specs.Readings.{named_page, said_before}
use Rattle.esx_walk.specs.declared.account.Account.{Account}
use Rattle.esx_walk.specs.Kept.{account_of}
use Rattle.esx_walk.specs.Holding.{held_before}
use Rattle.esx_walk.specs.Looking.{losing, IsPrepared}
use Rattle.esx_walk.specs.Walks.{Walked}

abbrev pub walked : Kept → Account → Walked
walked machine account = record { machine = machine; account = account_of account }

-- what was read before the event is of the scene, the machine that may lose a page was looked at, and so was what each holds if it is a rebalance
pub record IsReady (c : Config) (t : Scene) (e : Event) (before : Result PageState Refusal) (rows : List (List ℕ)) (s : Option Seen) (held : Option (List ℕ)) : Type 0 where
  pub read : before ≡ said_before (shown c t) (named_page e)
  pub prepared : IsPrepared c t (losing e before) rows s
  pub holds : held ≡ held_before t e
