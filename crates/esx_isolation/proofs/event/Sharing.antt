-- A look leaves all memories as they were: pages come to share a frame by their bytes.
use Rattle.std.proofs.Common.{◌≡◌, ℕ, true, false, List, refl, sym, ap, ◌∙◌, subst, Option, Some, None, Ok}
use Rattle.std.specs.Option.{option_map}
use Rattle.esx_types.specs.declared.config.Config.{Config}
use Rattle.esx_events.specs.declared.event.Answer.{Answer}
use Rattle.esx_events.specs.declared.event.Answer.TheVariants as answers
use Rattle.esx_model.specs.declared.look.Look.{Look}
use Rattle.esx_model.specs.declared.look.Look.TheVariants.{Already, SharedFrame, OtherPage, Changed, OtherBytes, Nothing}
use Rattle.esx_model.specs.declared.scene.Place.{Place}
use Rattle.esx_model.specs.declared.scene.Place.TheVariants.{Here}
use Rattle.esx_model.specs.declared.scene.Vm.{Vm}
use Rattle.esx_model.specs.declared.scene.Site.{Site}
use Rattle.esx_model.specs.Places.{is_here, contents}
use Rattle.esx_model.specs.Site.{vm_at, place_at}
use Rattle.esx_model.specs.Hints.{placed}
use Rattle.esx_model.specs.event.Outcome.{standing}
use Rattle.esx_model.specs.event.Sharing.{look, after_look, said_of, scan_gate, scan}
use Rattle.esx_model.specs.sound.Sound.{IsSound}
use Rattle.esx_model.proofs.Callers.{of_vm, passed, same_site, not_not, some_same, Sees, look_sees, beside}
use Rattle.esx_model.specs.Memory.{Cell, cell_of, cell_at, memory_of, memory_at}
use Rattle.esx_isolation.proofs.Turns.{Keeps, Turns, keeps_again, keeps_placed, turns_none, here_cell, memory_there, cell_is}

-- what is told of a look in which the bytes were compared
look_keeps_by : (c : Config) (s : Site) (n page : ℕ) (v : Vm) (l : Look) → vm_at s n ≡ Some v → is_here (place_at v page) ≡ true → Sees s n page (contents c (place_at v page)) l
    → Keeps c s (after_look s n page (contents c (place_at v page)) l)
look_keeps_by c s n page v Already there here sees = λ m. refl
look_keeps_by c s n page v (SharedFrame f) there here sees = keeps_placed c s n page v (Here (contents c (place_at v page)) f true) there (here_cell c (place_at v page) f true here)
look_keeps_by c s n page v (OtherPage k q f) there here sees =
    let bytes = contents c (place_at v page) in
    let p : Place = Here bytes f true in
    let t = placed s k q p in
    let own = beside s k q sees.vm p n page v sees.there there sees.other in
    keeps_again c s t (placed t n page p) (keeps_placed c s k q sees.vm p sees.there (ap (cell_of c) (sym sees.place)))
    (keeps_placed c t n page own.vm p own.there (here_cell c (place_at v page) f true here ∙ ap (cell_of c) (sym own.place)))
look_keeps_by c s n page v Changed there here sees = λ m. refl
look_keeps_by c s n page v OtherBytes there here sees = λ m. refl
look_keeps_by c s n page v Nothing there here sees = λ m. refl

pub look_keeps : (c : Config) (s : Site) (n page : ℕ) (v : Vm) → IsSound c s → vm_at s n ≡ Some v → is_here (place_at v page) ≡ true
    → Keeps c s (after_look s n page (contents c (place_at v page)) (look s n page (place_at v page)))
look_keeps c s n page v sound there here = look_keeps_by c s n page v (look s n page (place_at v page)) there here (look_sees c s n page (place_at v page) sound)

pub scan_turns : (c : Config) (s : Site) (n page : ℕ) (r : Answer × Site) → IsSound c s → scan c s n page ≡ Ok r → Turns c s n (λ o. o) r.1
unfolding scan
scan_turns c s n page r sound h =
    let own = of_vm (vm_at s n) _ r h in
    let v = own.vm in
    let p = place_at v page in
    let pass = passed (scan_gate (standing v) page (is_here p)) _ r own.then in
    let after = after_look s n page (contents c p) (look s n page p) in
    let P : Site → Type 0 = Turns c s n (λ o. o) in
    subst P (same_site (answers.Looked (said_of after (look s n page p))) after r pass.1)
    (turns_none c s after n (look_keeps c s n page v sound own.there (not_not _ pass.0.1.1.0)))

-- A page in a frame that others came to before: its machine may be one of them.

-- a machine's memory tells of each page that is in a frame what it reads as
record Knows (c : Config) (t : Site) (n page : ℕ) (bytes : List ℕ) : Type 0 where
  vm : Vm
  there : vm_at t n ≡ Some vm
  cell : cell_of c (place_at vm page) ≡ record { bytes = bytes; lent = None }

knows_by : (c : Config) (t : Site) (n page : ℕ) (bytes : List ℕ) (v : Vm) (o : Option Vm) → vm_at t n ≡ o → option_map (memory_of c) o ≡ Some (memory_of c v) → cell_of c (place_at v page) ≡ record { bytes = bytes; lent = None } → Knows c t n page bytes
knows_by c t n page bytes v None there same is = cc
knows_by c t n page bytes v (Some w) there same is =
    let one = some_same (memory_of c w) (memory_of c v) same in
    record { vm = w; there = there; cell = sym (cell_is c w page) ∙ ap (λ m. cell_at c m page) one ∙ cell_is c v page ∙ is }

-- where two pages have equal bytes, they share one frame, and no memory changes
pub equal_pages : (c : Config) (s : Site) (n page m other f g k : ℕ) (v w : Vm) (bytes others : List ℕ) → vm_at s n ≡ Some v → place_at v page ≡ Here bytes f false → vm_at s m ≡ Some w → place_at w other ≡ Here others g false
    → bytes ≡ others → memory_at c (after_look s n page bytes (OtherPage m other g)) k ≡ memory_at c s k
equal_pages c s n page m other f g k v w bytes others there was there_too was_too same =
    let p : Place = Here bytes g true in
    let t = placed s m other p in
    let cell : Cell = record { bytes = bytes; lent = None } in
    let first = keeps_placed c s m other w p there_too (ap (λ b. let x : Cell = record { bytes = b; lent = None } in x) same ∙ sym (ap (cell_of c) was_too)) in
    let own = knows_by c t n page bytes v (vm_at t n) refl (first n ∙ memory_there c s n v there) (ap (cell_of c) was) in
    keeps_again c s t (placed t n page p) first (keeps_placed c t n page own.vm p own.there (sym own.cell)) k
