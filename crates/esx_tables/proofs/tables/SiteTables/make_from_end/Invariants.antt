use Rattle.std.proofs.Common.{◌≡◌, ◌++◌, take, drop, length, reverse}
use Rattle.esx_lists.specs.Trades.{in_turn}
use Rattle.esx_tables.specs.Changes.{traded}
use Rattle.esx_tables.proofs.tables.SiteTables.make_from_end.Given as goal

-- what is left to trade, and what was traded before, are the whole
abbrev pub invariant-loop-i : goal.invariant-loop-i
invariant-loop-i l = record {
  tables : (in_turn traded l.self (reverse (take l.i l.changes.items))).0 ≡ (in_turn traded l.fn.self (reverse l.fn.changes.items)).0;
  list : (in_turn traded l.self (reverse (take l.i l.changes.items))).1 ++ drop l.i l.changes.items ≡ (in_turn traded l.fn.self (reverse l.fn.changes.items)).1;
  size : length l.changes.items ≡ length l.fn.changes.items;
}
