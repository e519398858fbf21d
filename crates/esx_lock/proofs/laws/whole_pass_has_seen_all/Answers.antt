use Rattle.esx_lock.proofs.Logs.{follows_whole}
use Rattle.esx_lock.proofs.laws.whole_pass_has_seen_all.Goals as goal

pub returns : goal.returns
returns c = λ v log whole follows. follows_whole v.callers v.ids v.seen log whole follows
