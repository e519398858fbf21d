use Rattle.esx_order.proofs.Advised.{advised_first, first_advised, none_advised}
use Rattle.esx_order.proofs.laws.advised_is_first.Goals as goal

pub returns-clause-first : goal.returns-clause-first
returns-clause-first c = advised_first

pub returns-clause-advised : goal.returns-clause-advised
returns-clause-advised c = first_advised

pub returns-clause-none : goal.returns-clause-none
returns-clause-none c = none_advised
