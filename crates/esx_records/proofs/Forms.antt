-- A record has two forms: as its event gave it, and as a flip leaves it.
use Rattle.std.proofs.Common.{◌≡◌, ℕ, zero, suc, List, sym, ap, ◌∙◌, subst}
use Rattle.esx_types.specs.declared.level.Level.{Level}
use Rattle.esx_events.specs.declared.event.Event.{Event}
use Rattle.esx_model.specs.declared.tables.Tables.{Tables}
use Rattle.esx_tables.specs.declared.change.Change.{Change}
use Rattle.esx_tables.specs.Changes.{exchanged}
use Rattle.esx_tables.proofs.Back.{exchanged_back}
use Rattle.esx_machine.specs.Machine.{Kept, IsKept, Back, Exchanges, turned}
use Rattle.esx_records.specs.Small.{machines_moved, IsSmall}
use Rattle.esx_records.specs.Forms.{after_flips}
use Rattle.esx_records.proofs.Stocks.{AreStocked, stocked}
use Rattle.esx_records.proofs.plans.Event.{plan_small}

-- the exchange that made the record, made again
once_more : (old new : Kept) (event : Event) (r : Back) (x : Exchanges old new event r) → exchanged new.tables r.changes ≡ (old.tables, x.plan.1)
once_more old new event r x =
    ap (λ (t : Tables). exchanged t r.changes) x.tables ∙ ap (λ (cs : List Change). exchanged (exchanged old.tables x.plan.1).0 cs) x.changes ∙ exchanged_back old.tables x.plan.1

-- flipped, the record is the plan's changes
pub turned_changes : (old new : Kept) (event : Event) (r : Back) (x : Exchanges old new event r) → (turned r new).changes ≡ x.plan.1
turned_changes old new event r x = ap (λ (q : Tables × List Change). q.1) (once_more old new event r x)

-- flipped again, it is as it was
pub turned_twice : (old new : Kept) (event : Event) (r : Back) (x : Exchanges old new event r) → turned (turned r new) old ≡ r
turned_twice old new event r x =
    let back : List Change → Level → Back = λ cs l. record { level = l; changes = cs } in
    ap (λ (cs : List Change). back (exchanged old.tables cs).1 old.level) (turned_changes old new event r x)
    ∙ ap (λ (cs : List Change). back cs old.level) (sym x.changes)
    ∙ ap (λ (l : Level). back r.changes l) (sym x.level)

-- what holds of both forms holds after any number of flips
pub in_each_form : (P : Back → Type 0) (old new : Kept) (event : Event) (r : Back) → Exchanges old new event r → P r → P (turned r new) → (k : ℕ) → P (after_flips k r new old)
in_each_form P old new event r x one two zero = one
in_each_form P old new event r x one two (suc zero) = two
in_each_form P old new event r x one two (suc (suc k)) =
    let Q : Back → Type 0 = λ q. P (after_flips k q new old) in
    subst Q (sym (turned_twice old new event r x)) (in_each_form P old new event r x one two k)

pub kept_stocked : (k : Kept) → IsKept k → AreStocked k.config k.tables
kept_stocked k kept = subst (AreStocked k.config) (sym kept.shows) (stocked k.config kept.site kept.sound)

pub records_small : (old new : Kept) (event : Event) (r : Back) → IsKept old → Exchanges old new event r → (k : ℕ) → IsSmall old.config (machines_moved event) (after_flips k r new old).changes
records_small old new event r kept x =
    let P : Back → Type 0 = λ q. IsSmall old.config (machines_moved event) q.changes in
    let Q : List Change → Type 0 = IsSmall old.config (machines_moved event) in
    let both = plan_small old.config old.tables old.level event x.plan (kept_stocked old kept) x.planned in
    in_each_form P old new event r x (subst Q (sym x.changes) both.1) (subst Q (sym (turned_changes old new event r x)) both.0)
