-- Reads and writes.
use Rattle.std.proofs.Common.{◌≡◌, ℕ, ◌+◌, ◌≤◌, nat_lt, nat_le, ◌==◌, ◌||◌, Bool, true, false, List, ◌∷◌, length, refl, arith, cond, Option, Some, None, Ok}
use Rattle.std.proofs.lemmas.Bool.Decides.{nat_tests}
use Rattle.std.proofs.lemmas.Grind.{common_steps}
use Rattle.esx_types.specs.declared.config.Config.{Config}
use Rattle.esx_types.specs.declared.level.Level.{Level}
use Rattle.esx_types.specs.declared.table.FrameRow.{FrameRow}
use Rattle.esx_types.specs.declared.table.FrameRow.TheVariants as frames
use Rattle.esx_types.specs.declared.table.MapRow.{MapRow}
use Rattle.esx_types.specs.declared.table.MapRow.TheVariants as maps
use Rattle.esx_types.specs.Frames.{frame_at, bytes_of, least_frame}
use Rattle.esx_types.specs.Pages.{page_at}
use Rattle.esx_events.specs.declared.event.Answer.{Answer}
use Rattle.esx_model.specs.declared.book.VmRow.{VmRow}
use Rattle.esx_model.specs.declared.tables.Tables.{Tables}
use Rattle.esx_model.specs.Places.{zeros}
use Rattle.esx_model.specs.Tables.{standing_of}
use Rattle.esx_model.specs.event.Outcome.{Passes}
use Rattle.esx_model.specs.event.Access.{access_gate, overwritten}
use Rattle.esx_tables.specs.declared.change.Change.{Change}
use Rattle.esx_tables.specs.declared.change.Change.TheVariants.{OfVm}
use Rattle.esx_tables.specs.declared.change.VmPart.{VmPart}
use Rattle.esx_tables.specs.declared.change.VmPart.TheVariants.{PageAt, Facts}
use Rattle.esx_tables.specs.Machines.{facts_of}
use Rattle.esx_tables.specs.Readings.{row_at}
use Rattle.esx_changes.specs.Counted.{IsOpenOf}
use Rattle.esx_access.specs.Access.{come_changes, stay_changes, come, read_zeros, read_slot, read_from, read_plan, write_zeros, write_slot, write_own, write_copy, write_last, write_frame, write_from, write_plan}
use Rattle.esx_records.proofs.Pages.{HavePages, frame_small, zeros_small}
use Rattle.esx_records.proofs.Modest.{IsModest, IsLight, light, with_part, more_rows, framed, PlansModest, at_row_modest, any_gate, gate_modest}
use Rattle.esx_records.proofs.Stocks.{AreStocked}
use Rattle.esx_records.proofs.plans.Counted.{counted_light}

-- a page that comes
arrived : (c : Config) (n page f rows : ℕ) (changes : List Change) → IsLight c rows changes → rows ≤ 3 → IsLight c 4 (OfVm n (PageAt page (maps.Here f)) ∷ changes)
arrived c n page f rows changes l few = more_rows c (rows + 1) 4 (OfVm n (PageAt page (maps.Here f)) ∷ changes) (with_part c rows n (PageAt page (maps.Here f)) changes l refl refl refl) (omega (arith, few))

come_light : (c : Config) (n : ℕ) (v : VmRow) (page : ℕ) (was : MapRow) (f : ℕ) → IsOpenOf v → IsLight c 4 (come_changes n v page was f)
come_light c n v page maps.Untouched f fits = arrived c n page f 2 (stay_changes n v page) (counted_light c n page v fits) (omega arith)
come_light c n v page (maps.Here g) f fits = arrived c n page f 2 (stay_changes n v page) (counted_light c n page v fits) (omega arith)
come_light c n v page (maps.Out i) f fits = arrived c n page f 2 (stay_changes n v page) (counted_light c n page v fits) (omega arith)
come_light c n v page (maps.Lent e) f fits =
    let popped : VmPart = Facts (record (facts_of v) { due = v.due || (e == v.epoch) }) in
    arrived c n page f 3 (OfVm n popped ∷ stay_changes n v page) (with_part c 2 n popped (stay_changes n v page) (counted_light c n page v fits) refl refl refl) (omega arith)

come_modest : (c : Config) (to : ℕ → Answer × List Change) (o : Option ℕ) → ((f : ℕ) → IsModest c 0 (to f).1) → PlansModest c 0 (come to o)
come_modest c to None each = tt
come_modest c to (Some f) each = each f

-- Reads.

zeros_read : (c : Config) (n : ℕ) (v : VmRow) (page at len : ℕ) (was : MapRow) (f : ℕ) → IsOpenOf v → IsModest c 0 (read_zeros c n v page at len was f).1
zeros_read c n v page at len was f fits = framed c 4 f (frames.Private (zeros c)) (come_changes n v page was f) (come_light c n v page was f fits) (omega arith) (zeros_small c)

slot_read : (c : Config) (t : Tables) (n : ℕ) (v : VmRow) (page at len i f : ℕ) → IsOpenOf v → IsModest c 0 (read_slot t n v page at len i f).1
slot_read c t n v page at len i f fits =
    let l = come_light c n v page (maps.Out i) f fits in
    let b = l.bytes in let p = l.pages in let r = l.rows_most in let m = l.marks in let u = l.turned in let a = l.targets in let w = l.machines in
    record { bytes = omega (arith, b); pages = omega (arith, p); rows = omega (arith, r); marks = omega (arith, m); turned = omega (arith, u); targets = omega (arith, a); machines = omega (arith, w) }

read_modest : (c : Config) (t : Tables) (n : ℕ) (v : VmRow) (page at len : ℕ) (was : MapRow) → IsOpenOf v → PlansModest c 0 (read_from c t n v page at len was)
read_modest c t n v page at len maps.Untouched fits = come_modest c (read_zeros c n v page at len maps.Untouched) (least_frame t.frames) (λ f. zeros_read c n v page at len maps.Untouched f fits)
read_modest c t n v page at len (maps.Here f) fits = light c 0 2 (stay_changes n v page) (counted_light c n page v fits) (omega arith)
read_modest c t n v page at len (maps.Out i) fits = come_modest c (read_slot t n v page at len i) (least_frame t.frames) (λ f. slot_read c t n v page at len i f fits)
read_modest c t n v page at len (maps.Lent e) fits = come_modest c (read_zeros c n v page at len (maps.Lent e)) (least_frame t.frames) (λ f. zeros_read c n v page at len (maps.Lent e) f fits)

pub read_small : (c : Config) (t : Tables) (level : Level) (n page at len : ℕ) → AreStocked c t → PlansModest c 0 (read_plan c t level n page at len)
unfolding read_plan
read_small c t level n page at len s =
    at_row_modest c 0 (row_at t n) _ (λ v there. any_gate c 0 (access_gate c level (standing_of v) page at len) (read_from c t n v page at len (page_at v.pages page)) (read_modest c t n v page at len (page_at v.pages page) (s.periods n v there)))

-- Writes.

last_of : (a b d : Bool) → (a || b || d) ≡ false → d ≡ false
last_of true b d h = cc
last_of false true d h = cc
last_of false false d h = h

below : (page end : ℕ) → nat_lt page end ≡ false → end ≤ page
below page end h = grind (arith, nat_tests)

pub in_page : (c : Config) (level : Level) (v : VmRow) (page at len : ℕ) → Passes (access_gate c level (standing_of v) page at len) → at + len ≤ c.page
in_page c level v page at len pass = below c.page (at + len) (last_of (nat_le v.spec.max page) (len == 0) (nat_lt c.page (at + len)) pass.1.0)

written_small : (old : List ℕ) (at : ℕ) (new : List ℕ) (page : ℕ) → length old ≤ page → at + length new ≤ page → length (overwritten old at new) ≤ page
written_small old at new page small fits = grind (arith, common_steps)

zeros_written : (c : Config) (n : ℕ) (v : VmRow) (page at : ℕ) (new : List ℕ) (was : MapRow) (f : ℕ) → IsOpenOf v → at + length new ≤ c.page → IsModest c 0 (write_zeros c n v page at new was f).1
zeros_written c n v page at new was f fits room =
    framed c 4 f (frames.Private (overwritten (zeros c) at new)) (come_changes n v page was f) (come_light c n v page was f fits) (omega arith) (written_small (zeros c) at new c.page (zeros_small c) room)

slot_written : (c : Config) (n : ℕ) (v : VmRow) (page at : ℕ) (new : List ℕ) (i f : ℕ) → IsOpenOf v → at + length new ≤ c.page → IsModest c 0 (write_slot n v page at new i f).1
slot_written c n v page at new i f fits room =
    let l = come_light c n v page (maps.Out i) f fits in
    let b = l.bytes in let p = l.pages in let r = l.rows_most in let m = l.marks in let u = l.turned in let a = l.targets in let w = l.machines in
    record { bytes = omega (arith, b, room); pages = omega (arith, p, room); rows = omega (arith, r); marks = omega (arith, m); turned = omega (arith, u); targets = omega (arith, a); machines = omega (arith, w) }

own_written : (c : Config) (n : ℕ) (v : VmRow) (page at : ℕ) (new : List ℕ) (f : ℕ) → IsOpenOf v → at + length new ≤ c.page → IsModest c 0 (write_own n v page at new f).1
own_written c n v page at new f fits room =
    let l = counted_light c n page v fits in
    let b = l.bytes in let p = l.pages in let r = l.rows_most in let m = l.marks in let u = l.turned in let a = l.targets in let w = l.machines in
    record { bytes = omega (arith, b, room); pages = omega (arith, p, room); rows = omega (arith, r); marks = omega (arith, m); turned = omega (arith, u); targets = omega (arith, a); machines = omega (arith, w) }

last_written : (c : Config) (n : ℕ) (v : VmRow) (page at : ℕ) (new : List ℕ) (f : ℕ) → IsOpenOf v → at + length new ≤ c.page → IsModest c 0 (write_last n v page at new f).1
last_written c n v page at new f fits room =
    let l = counted_light c n page v fits in
    let b = l.bytes in let p = l.pages in let r = l.rows_most in let m = l.marks in let u = l.turned in let a = l.targets in let w = l.machines in
    record { bytes = omega (arith, b, room); pages = omega (arith, p, room); rows = omega (arith, r); marks = omega (arith, m); turned = omega (arith, u); targets = omega (arith, a); machines = omega (arith, w) }

copy_written : (c : Config) (n : ℕ) (v : VmRow) (page at : ℕ) (new : List ℕ) (g count : ℕ) (bytes : List ℕ) (f : ℕ) → IsOpenOf v → at + length new ≤ c.page → length bytes ≤ c.page
    → IsModest c 0 (write_copy n v page at new g count bytes f).1
copy_written c n v page at new g count bytes f fits room small =
    let l = come_light c n v page (maps.Here g) f fits in
    let copy = written_small bytes at new c.page small room in
    let b = l.bytes in let p = l.pages in let r = l.rows_most in let m = l.marks in let u = l.turned in let a = l.targets in let w = l.machines in
    record { bytes = omega (arith, b, copy); pages = omega (arith, p); rows = omega (arith, r); marks = omega (arith, m); turned = omega (arith, u); targets = omega (arith, a); machines = omega (arith, w) }

frame_written : (c : Config) (t : Tables) (n : ℕ) (v : VmRow) (page at : ℕ) (new : List ℕ) (f : ℕ) (row : FrameRow) → IsOpenOf v → at + length new ≤ c.page → length (bytes_of row) ≤ c.page
    → PlansModest c 0 (write_frame t n v page at new f row)
frame_written c t n v page at new f frames.Free fits room small = tt
frame_written c t n v page at new f frames.Overhead fits room small = tt
frame_written c t n v page at new f (frames.Private bytes) fits room small = own_written c n v page at new f fits room
frame_written c t n v page at new f (frames.Shared count bytes) fits room small = of (nat_lt 1 count)
  where
    of : (b : Bool) → PlansModest c 0 (cond b (come (write_copy n v page at new f count bytes) (least_frame t.frames)) (Ok (write_last n v page at new f)))
    of true = come_modest c (write_copy n v page at new f count bytes) (least_frame t.frames) (λ g. copy_written c n v page at new f count bytes g fits room small)
    of false = last_written c n v page at new f fits room

write_modest : (c : Config) (t : Tables) (n : ℕ) (v : VmRow) (page at : ℕ) (new : List ℕ) (was : MapRow) → HavePages c t → IsOpenOf v → at + length new ≤ c.page
    → PlansModest c 0 (write_from c t n v page at new was)
write_modest c t n v page at new maps.Untouched pages fits room = come_modest c (write_zeros c n v page at new maps.Untouched) (least_frame t.frames) (λ f. zeros_written c n v page at new maps.Untouched f fits room)
write_modest c t n v page at new (maps.Here f) pages fits room = frame_written c t n v page at new f (frame_at t.frames f) fits room (frame_small c t f pages)
write_modest c t n v page at new (maps.Out i) pages fits room = come_modest c (write_slot n v page at new i) (least_frame t.frames) (λ f. slot_written c n v page at new i f fits room)
write_modest c t n v page at new (maps.Lent e) pages fits room = come_modest c (write_zeros c n v page at new (maps.Lent e)) (least_frame t.frames) (λ f. zeros_written c n v page at new (maps.Lent e) f fits room)

pub write_small : (c : Config) (t : Tables) (level : Level) (n page at : ℕ) (new : List ℕ) → AreStocked c t → PlansModest c 0 (write_plan c t level n page at new)
unfolding write_plan
write_small c t level n page at new s =
    at_row_modest c 0 (row_at t n) _ (λ v there. gate_modest c 0 (access_gate c level (standing_of v) page at (length new)) (write_from c t n v page at new (page_at v.pages page))
    (λ pass. write_modest c t n v page at new (page_at v.pages page) s.pages (s.periods n v there) (in_page c level v page at (length new) pass)))
