use Rattle.std.proofs.Common.{arith, refl, sym, subst, []}
use Rattle.esx_model.specs.History.{opened}
use Rattle.esx_journal.specs.Children.{AreLinked}
use Rattle.esx_journal.proofs.Linking.{linked_opening}
use Rattle.esx_journal.proofs.Grows.{opens_with}
use Rattle.esx_journal.proofs.journal.Journal.open.Goals as goal

pub invariant_of-result : goal.invariant_of-result
invariant_of-result c = record {
  history = opened c.args.config;
  aim = [];
  holds = opens_with _ c.args.config c.in_ok-machine.ensures.shows.0 c.in_ok-machine.ensures.shows.1 c.in_ok-rows.ensures refl refl refl c.new.ensures;
  fits = omega arith;
  limit = (let most = c.in_ok-machine.ensures.checked.most_nodes in omega arith);
  linked = subst AreLinked (sym c.in_ok-rows.ensures) linked_opening;
}

pub returns-clause-opens : goal.returns-clause-opens
returns-clause-opens c = opens_with _ c.args.config c.in_ok-machine.ensures.shows.0 c.in_ok-machine.ensures.shows.1 c.in_ok-rows.ensures refl refl refl c.new.ensures
