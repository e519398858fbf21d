-- A guest reads or writes one of its pages (Waldspurger, "Memory Virtualization"; copy on write: "Content-Based Page Sharing").
use Rattle.std.specs.Prelude.{ℕ, ◌+◌, Bool, true, false, ◌||◌, ◌&&◌, not, ◌==◌, nat_lt, nat_le, List, ◌++◌, length, take, drop, Option, Some, None, if◌then◌else◌, Ok, Err, ◌∷◌, []}
use Rattle.esx_types.specs.declared.config.Config.{Config}
use Rattle.esx_types.specs.declared.level.Level.{Level}
use Rattle.esx_types.specs.declared.level.Level.TheVariants.{High, Soft, Hard, Low}
use Rattle.esx_events.specs.declared.event.Answer.{Answer}
use Rattle.esx_events.specs.declared.event.Answer.TheVariants as answers
use Rattle.esx_events.specs.declared.event.Refusal.TheVariants.{NotRunning, OutOfRange, Held, Short}
use Rattle.esx_model.specs.declared.scene.Place.{Place}
use Rattle.esx_model.specs.declared.scene.Place.TheVariants.{Untouched, Here, Out, Lent}
use Rattle.esx_model.specs.declared.look.Standing.{Standing}
use Rattle.esx_model.specs.declared.scene.Site.{Site}
use Rattle.esx_model.specs.Places.{is_shared, contents}
use Rattle.esx_model.specs.Site.{least_free, vm_at, place_at, pages_at}
use Rattle.esx_model.specs.Hints.{with_change, placed}
use Rattle.esx_model.specs.event.Outcome.{Outcome, Gate, at_vm, unless, standing, is_running}
use Rattle.esx_model.specs.event.Balloon.{popped}
use Rattle.esx_model.specs.event.Sampling.{counted}

abbrev pub is_low : Level → Bool
is_low High = false
is_low Soft = false
is_low Hard = false
is_low Low = true

-- at the deepest level a machine above its target waits
abbrev pub is_blocked : Level → Standing → Bool
is_blocked level m = is_low level && nat_lt m.target m.resident

-- why an access is refused, before a frame is looked for
abbrev pub access_gate : Config → Level → Standing → ℕ → ℕ → ℕ → Gate
access_gate c level m page at len =
    (not (is_running m.state), NotRunning) ∷ (nat_le m.spec.max page || (len == 0) || nat_lt c.page (at + len), OutOfRange) ∷ (is_blocked level m, Held) ∷ []

-- the bytes with some of them written over
abbrev pub overwritten : List ℕ → ℕ → List ℕ → List ℕ
overwritten old at new = take at old ++ new ++ drop (at + length new) old

-- the frame that a read finds a page in, or takes for it, if there is one
abbrev pub read_frame : Config → Site → Place → Option ℕ
read_frame c s (Here bytes f shared) = Some f
read_frame c s Untouched = least_free c.frames s
read_frame c s (Out bytes slot) = least_free c.frames s
read_frame c s (Lent epoch) = least_free c.frames s

-- the frame that a page is in after a write, if there is one: a frame that others use is not written
abbrev pub write_frame : Config → Site → Place → Option ℕ
write_frame c s (Here bytes f shared) = if shared && nat_lt 1 (pages_at f s) then least_free c.frames s else Some f
write_frame c s Untouched = least_free c.frames s
write_frame c s (Out bytes slot) = least_free c.frames s
write_frame c s (Lent epoch) = least_free c.frames s

-- the site after an access leaves a page at a place: a page lent now pops the balloon, and an open period counts the access
abbrev pub after_access : Site → ℕ → ℕ → Place → Site
after_access s n page place = with_change (placed (with_change s n (popped page)) n page place) n (counted page)

-- an access that needs a frame, and leaves these bytes in it
abbrev pub settle : Site → ℕ → ℕ → Answer → List ℕ → Bool → Option ℕ → Outcome
settle s n page answer bytes shared None = Err Short
settle s n page answer bytes shared (Some f) = Ok (answer, after_access s n page (Here bytes f shared))

-- a read leaves a shared page shared, and a page that comes is private
abbrev pub read_at : Config → Site → ℕ → ℕ → ℕ → ℕ → Place → Outcome
read_at c s n page at len p = settle s n page (answers.Bytes (take len (drop at (contents c p)))) (contents c p) (is_shared p) (read_frame c s p)

-- a page that was written is private
abbrev pub write_at : Config → Site → ℕ → ℕ → ℕ → List ℕ → Place → Outcome
write_at c s n page at new p = settle s n page answers.Done (overwritten (contents c p) at new) false (write_frame c s p)

unfoldable pub read : Config → Site → Level → ℕ → ℕ → ℕ → ℕ → Outcome
read c s level n page at len =
    at_vm (vm_at s n) (λ v. unless (access_gate c level (standing v) page at len) (read_at c s n page at len (place_at v page)))

unfoldable pub write : Config → Site → Level → ℕ → ℕ → ℕ → List ℕ → Outcome
write c s level n page at new =
    at_vm (vm_at s n) (λ v. unless (access_gate c level (standing v) page at (length new)) (write_at c s n page at new (place_at v page)))
