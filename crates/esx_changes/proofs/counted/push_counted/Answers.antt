use Rattle.std.proofs.Common.{sym, ◌∙◌}
use Rattle.esx_changes.proofs.counted.push_counted.Goals as goal

pub push_open-requires : goal.push_open-requires
push_open-requires c =
    let opened = sym c.period.ensures ∙ c.in-Some.is in
    record { «open» = c.requires c.in-Some.period opened; period = opened }
