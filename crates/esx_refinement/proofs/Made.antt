-- What changes make of the tables.
use Rattle.std.proofs.Common.{◌≡◌, ℕ, List, [], ◌∷◌, ◌++◌, map, sym, ap, ◌∙◌, Option, Some, None}
use Rattle.std.proofs.lemmas.List.{get_or-set_same, set-set, set-get_or}
use Rattle.esx_lists.specs.Trades.{in_turn}
use Rattle.esx_lists.proofs.Turns.{turn-append}
use Rattle.esx_model.specs.declared.book.VmRow.{VmRow}
use Rattle.esx_model.specs.declared.tables.Tables.{Tables}
use Rattle.esx_model.specs.Moved.{put_vm}
use Rattle.esx_model.proofs.Callers.{some_below}
use Rattle.esx_tables.specs.declared.change.VmPart.{VmPart}
use Rattle.esx_tables.specs.declared.change.Change.{Change}
use Rattle.esx_tables.specs.declared.change.Change.TheVariants.{OfVm}
use Rattle.esx_tables.specs.Machines.{part_traded, vm_traded}
use Rattle.esx_tables.specs.Changes.{traded, exchanged}
use Rattle.esx_tables.specs.Readings.{row_at}

-- changes after changes
pub exchanged_then : (t : Tables) (cs ds : List Change) → (exchanged t (cs ++ ds)).0 ≡ (exchanged (exchanged t cs).0 ds).0
unfolding exchanged
exchanged_then t cs ds = ap (λ (r : Tables × List Change). r.0) (turn-append traded t cs ds)

part_made : (t : Tables) (n : ℕ) (v : VmRow) (part : VmPart) → row_at t n ≡ Some v → (traded t (OfVm n part)).0 ≡ put_vm t n (Some (part_traded v part).0)
unfolding traded
part_made t n v part h = ap (λ (o : Option VmRow). put_vm t n (vm_traded o part).0) h

-- parts of one machine's row, one after another
turn_made : (t : Tables) (n : ℕ) (v : VmRow) (parts : List VmPart) → row_at t n ≡ Some v → (in_turn traded t (map (OfVm n) parts)).0 ≡ put_vm t n (Some (in_turn part_traded v parts).0)
turn_made t n v [] h = sym (ap (λ (o : Option VmRow). put_vm t n o) (sym h) ∙ ap (λ (vms : List (Option VmRow)). record t { vms = vms }) (set-get_or t.vms n None))
turn_made t n v (part ∷ parts) h =
    let w : VmRow = (part_traded v part).0 in
    let mid : Tables = put_vm t n (Some w) in
    let there : row_at mid n ≡ Some w = get_or-set_same t.vms n (Some w) None (some_below t.vms n v h) in
    ap (λ (x : Tables). (in_turn traded x (map (OfVm n) parts)).0) (part_made t n v part h)
    ∙ turn_made mid n w parts there
    ∙ ap (λ (vms : List (Option VmRow)). record t { vms = vms }) (set-set t.vms n (Some w) (Some (in_turn part_traded w parts).0))

pub parts_made : (t : Tables) (n : ℕ) (v : VmRow) (parts : List VmPart) → row_at t n ≡ Some v → (exchanged t (map (OfVm n) parts)).0 ≡ put_vm t n (Some (in_turn part_traded v parts).0)
unfolding exchanged
parts_made t n v parts h = turn_made t n v parts h
