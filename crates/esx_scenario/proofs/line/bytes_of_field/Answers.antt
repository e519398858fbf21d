use Rattle.esx_scenario.proofs.LineLemmas.{bytes_read}
use Rattle.esx_scenario.proofs.line.bytes_of_field.Goals as goal

pub returns : goal.returns
returns c = bytes_read c.args.field.now c.small_written_bytes.result c.small_written_bytes.ensures.found c.small_written_bytes.ensures.only
