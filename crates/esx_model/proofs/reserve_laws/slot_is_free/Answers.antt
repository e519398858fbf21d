use Rattle.esx_model.proofs.ReserveLaws.{swap_out_finds_slot, replace_finds_free_slot}
use Rattle.esx_model.proofs.reserve_laws.slot_is_free.Goals as goal

pub returns-clause-swap_out : goal.returns-clause-swap_out
returns-clause-swap_out c = swap_out_finds_slot

pub returns-clause-replace : goal.returns-clause-replace
returns-clause-replace c = replace_finds_free_slot
