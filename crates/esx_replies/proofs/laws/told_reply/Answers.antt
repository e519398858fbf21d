use Rattle.esx_replies.proofs.ToldLemmas.{reply_told}
use Rattle.esx_replies.proofs.laws.told_reply.Goals as goal

pub returns : goal.returns
returns c = reply_told
