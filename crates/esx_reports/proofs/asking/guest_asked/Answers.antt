use Rattle.esx_reports.proofs.asking.guest_asked.Goals as goal

pub why_asked-requires : goal.why_asked-requires
why_asked-requires c =
    let whole = c.requires in
    let account = c.in_ok-account.ensures whole.0 whole.1 whole.2 in
    (whole.0, whole.1, account, record { calls = account.calls; path = whole.2.path })
