use Rattle.std.proofs.Common.{◌≡◌}
use Rattle.esx_keys.specs.Table.{entry_count}
use Rattle.site_tests.proofs.tests.keys.one_head_holds_eight_hints.Given as goal

abbrev pub invariant-loop-page : goal.invariant-loop-page
invariant-loop-page g l = record { count : entry_count l.keys ≡ l.page; room : l.keys.room ≡ 8 }

abbrev pub invariant-loop-page-2 : goal.invariant-loop-page-2
invariant-loop-page-2 g l = record { count : entry_count l.keys ≡ 7; room : l.keys.room ≡ 8 }
