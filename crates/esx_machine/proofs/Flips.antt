-- A flip leads where the record leads, and the record then leads back.
use Rattle.std.proofs.Common.{◌≡◌, List, sym, ap, ◌∙◌, subst}
use Rattle.esx_types.specs.declared.level.Level.{Level}
use Rattle.esx_model.specs.declared.tables.Tables.{Tables}
use Rattle.esx_tables.specs.declared.change.Change.{Change}
use Rattle.esx_tables.specs.Changes.{exchanged}
use Rattle.esx_tables.proofs.Back.{exchanged_back}
use Rattle.esx_machine.specs.Machine.{Kept, IsKept, Back, flipped, Trades, turned}

-- flipped twice, a record gives back what the machine kept, and the record
pub flipped_back : (k : Kept) (r : Back) → flipped (flipped k r).0 (flipped k r).1 ≡ (k, r)
flipped_back k r = ap (λ (q : Tables × List Change). (record k { tables = q.0 }, record r { changes = q.1 })) (exchanged_back k.tables r.changes)

pub again : (r : Back) (here there : Kept) → Trades r here there → flipped there (turned r here) ≡ (here, r)
again r here there t = ap (λ (x : Kept). flipped x (turned r here)) t.makes ∙ flipped_back here r

-- a record that leads somewhere leads back once it is flipped
pub leads_back : (r : Back) (here there : Kept) → IsKept here → Trades r here there → Trades (turned r here) there here
leads_back r here there kept t = record { makes = sym (ap (λ (x : Kept × Back). x.0) (again r here there t)); kept = kept }

-- a record leads to one state
pub leads_to_one : (r : Back) (here there other : Kept) → Trades r here there → Trades r here other → there ≡ other
leads_to_one r here there other t u = t.makes ∙ sym u.makes

-- a flip by its parts
pub by_parts : (k : Kept) (r s : Back) (t : Tables) (x : Level) → t ≡ (exchanged k.tables r.changes).0 → x ≡ r.level → s ≡ record { level = k.level; changes = (exchanged k.tables r.changes).1 }
    → flipped k r ≡ (record k { level = x; tables = t }, s)
by_parts k r s t x e f g =
    let new : Tables → Level → Kept = λ a l. record k { level = l; tables = a } in
    sym (ap (λ (a : Tables). (new a x, s)) e
    ∙ ap (λ (l : Level). (new (exchanged k.tables r.changes).0 l, s)) f
    ∙ ap (λ (b : Back). (new (exchanged k.tables r.changes).0 r.level, b)) g)

pub flip_kept : (here new : Kept) (r s : Back) → flipped here r ≡ (new, s) → (there : Kept) → Trades r here there → IsKept new
flip_kept here new r s e there t = subst IsKept (t.makes ∙ ap (λ (x : Kept × Back). x.0) e) t.kept

pub flip_leads : (here new : Kept) (r s : Back) → IsKept here → flipped here r ≡ (new, s)
    → (there : Kept) → Trades r here there → (new ≡ there) × Trades s there here × (s ≡ turned r here)
flip_leads here new r s kept e there t =
    let same : new ≡ there = sym (ap (λ (x : Kept × Back). x.0) e) ∙ sym t.makes in
    let after : s ≡ turned r here = sym (ap (λ (x : Kept × Back). x.1) e) in
    let P : Back → Type 0 = λ x. Trades x there here in
    (same, subst P (sym after) (leads_back r here there kept t), after)
