use Rattle.esx_average.proofs.RowLaws.{rows_few}
use Rattle.esx_average.proofs.bulk.revoke_in_bulk.Goals as goal

pub chunk_steps-requires : goal.chunk_steps-requires
chunk_steps-requires c = rows_few c.args.rows.now c.requires.rows
