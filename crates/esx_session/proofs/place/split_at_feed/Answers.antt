use Rattle.std.proofs.Common.{◌<◌, ◌≡◌, length, get_or, rules, arith}
use Rattle.std.proofs.lemmas.Str.{IsCharBoundary-after_ascii}
use Rattle.esx_session.proofs.place.split_at_feed.Goals as goal

pub range_from-requires : goal.range_from-requires
range_from-requires c = λ more.
    let less : c.in_ok-at.at < length c.args.text.now = search rules in
    let feed : get_or c.args.text.now c.in_ok-at.at 0 ≡ 10 = search rules in
    IsCharBoundary-after_ascii c.args.text.now c.in_ok-at.at c.utf8.text less (omega (arith, feed))
