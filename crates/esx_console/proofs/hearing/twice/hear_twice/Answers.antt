use Rattle.esx_console.proofs.Twice.{asks_or_moves, where_err, err_then, both_heard}
use Rattle.esx_console.proofs.hearing.twice.hear_twice.Goals as goal

pub returns-in_ok-hear-in_default : goal.returns-in_ok-hear-in_default
returns-in_ok-hear-in_default c =
    let hears = c.in_ok-hear-in_default.ensures in
    let result = c.with_copy.result in
    record {
      ok = both_heard _ _ c.args.call.now _ result c.with_copy.ensures.ok hears.ok;
      err = λ h holds. asks_or_moves c.args.call.now c.in_default.not-Do c.in_default.not-Mark (λ asks. where_err result (hears.asked asks))
          (λ moves. err_then result (λ long. absurd (long (hears.short moves))) c.with_copy.ensures.long);
    }
