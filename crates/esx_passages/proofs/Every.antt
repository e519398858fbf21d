-- What every event does to pages that it may not move.
use Rattle.std.proofs.Common.{◌≡◌, ℕ, subst, Option, Ok}
use Rattle.esx_types.specs.declared.config.Config.{Config}
use Rattle.esx_types.specs.declared.level.Level.{Level}
use Rattle.esx_events.specs.declared.event.Answer.{Answer}
use Rattle.esx_events.specs.declared.event.Event.{Event}
use Rattle.esx_events.specs.declared.event.Event.TheVariants.{Admit, Start, Read, Write, Ask, Lend, TakeBack, Sample, Rebalance, Scan, SwapOut, Replace, SetShares, SetTax, SetVmTax, Stop, DropPage, Gone}
use Rattle.esx_model.specs.declared.scene.Site.{Site}
use Rattle.esx_model.specs.declared.scene.Scene.{Scene}
use Rattle.esx_model.specs.event.Paging.{compared}
use Rattle.esx_model.specs.event.Sharing.{found_by}
use Rattle.esx_model.specs.Step.{step}
use Rattle.esx_model.specs.Replay.{next}
use Rattle.esx_model.specs.sound.Sound.{IsSound}
use Rattle.esx_model.proofs.Callers.{step_of}
use Rattle.esx_passages.proofs.Steady.{Goes}
use Rattle.esx_passages.proofs.event.Access.{read_goes, write_goes, replace_goes}
use Rattle.esx_passages.proofs.event.Balloon.{ask_goes, lend_goes, take_back_goes, drop_page_goes}
use Rattle.esx_passages.proofs.event.Sharing.{scan_goes, swap_out_goes}
use Rattle.esx_passages.proofs.event.Others.{admit_goes, start_goes, sample_goes, set_shares_goes, set_tax_goes, set_vm_tax_goes, rebalance_goes, stop_goes, gone_goes}

-- the page that an event finds to be equal
abbrev pub equal_in : Site → Event → Option (ℕ × ℕ)
equal_in s e = found_by s (compared s e)

every_step_goes : (c : Config) (s : Site) (level : Level) (e : Event) (r : Answer × Site) → IsSound c s → step c s level e ≡ Ok r → Goes e s (equal_in s e) r
every_step_goes c s level (Admit n spec) r sound h = admit_goes _ c s n spec r h
every_step_goes c s level (Start n) r sound h = start_goes _ c s n r h
every_step_goes c s level (Read n page at len) r sound h = read_goes _ c s level n page at len r h
every_step_goes c s level (Write n page at new) r sound h = write_goes _ c s level n page at new r h
every_step_goes c s level (Ask n) r sound h = ask_goes _ s n r h
every_step_goes c s level (Lend n page) r sound h = lend_goes _ s n page r h
every_step_goes c s level (TakeBack n page) r sound h = take_back_goes _ s n page r h
every_step_goes c s level (Sample n len words) r sound h = sample_goes _ s n len words r h
every_step_goes c s level Rebalance r sound h = rebalance_goes _ c s level r h
every_step_goes c s level (Scan n page) r sound h = scan_goes c s n page r sound h
every_step_goes c s level (SwapOut n word) r sound h = swap_out_goes c s level n word r sound h
every_step_goes c s level (Replace n page word) r sound h = replace_goes _ c s n page word r h
every_step_goes c s level (SetShares n shares) r sound h = set_shares_goes _ s n shares r h
every_step_goes c s level (SetTax tau) r sound h = set_tax_goes _ s tau r h
every_step_goes c s level (SetVmTax n tau) r sound h = set_vm_tax_goes _ s n tau r h
every_step_goes c s level (Stop n) r sound h = stop_goes _ s n r h
every_step_goes c s level (DropPage n page) r sound h = drop_page_goes _ s n page r h
every_step_goes c s level (Gone n) r sound h = gone_goes _ s n r h

pub every_event_goes : (c : Config) (t : Scene) (e : Event) (r : Answer × Scene) → IsSound c t.site → next c t e ≡ Ok r → Goes e t.site (equal_in t.site e) (r.0, r.1.site)
every_event_goes c t e r sound h =
    let s = step_of c t e r h in
    let P : Site → Type 0 = λ u. Goes e t.site (equal_in t.site e) (r.0, u) in
    let Q : Answer → Type 0 = λ a. Goes e t.site (equal_in t.site e) (a, s.0.1) in
    subst P s.3 (subst Q s.2 (every_step_goes c t.site t.level e s.0 sound s.1))
