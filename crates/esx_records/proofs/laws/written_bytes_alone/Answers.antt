use Rattle.esx_records.proofs.Written.{written}
use Rattle.esx_records.proofs.laws.written_bytes_alone.Goals as goal

pub returns : goal.returns
returns c = written
