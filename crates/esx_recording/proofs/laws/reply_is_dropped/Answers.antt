use Rattle.esx_recording.proofs.ReplyLemmas.{drops_reply}
use Rattle.esx_recording.proofs.laws.reply_is_dropped.Goals as goal

pub returns : goal.returns
returns c = drops_reply
