-- What every event loses and gains.
use Rattle.std.proofs.Common.{◌≡◌, subst, Ok}
use Rattle.esx_types.specs.declared.config.Config.{Config}
use Rattle.esx_types.specs.declared.level.Level.{Level}
use Rattle.esx_events.specs.declared.event.Answer.{Answer}
use Rattle.esx_events.specs.declared.event.Event.{Event}
use Rattle.esx_events.specs.declared.event.Event.TheVariants.{Admit, Start, Read, Write, Ask, Lend, TakeBack, Sample, Rebalance, Scan, SwapOut, Replace, SetShares, SetTax, SetVmTax, Stop, DropPage, Gone}
use Rattle.esx_model.specs.declared.scene.Site.{Site}
use Rattle.esx_model.specs.declared.scene.Scene.{Scene}
use Rattle.esx_model.specs.Step.{step}
use Rattle.esx_model.specs.Replay.{next}
use Rattle.esx_model.specs.sound.Sound.{IsSound}
use Rattle.esx_model.proofs.Callers.{step_of}
use Rattle.esx_story.specs.Losses.{lost}
use Rattle.esx_story.specs.Gains.{gained}
use Rattle.esx_story.proofs.Moves.{Moves}
use Rattle.esx_story.proofs.event.Access.{read_moves, write_moves, replace_moves}
use Rattle.esx_story.proofs.event.Balloon.{ask_moves, lend_moves, take_back_moves}
use Rattle.esx_story.proofs.event.Paging.{scan_moves, swap_out_moves}
use Rattle.esx_story.proofs.event.Leaving.{stop_moves, drop_page_moves, gone_moves}
use Rattle.esx_story.proofs.event.Others.{admit_moves, start_moves, sample_moves, set_shares_moves, set_tax_moves, set_vm_tax_moves, rebalance_moves}

every_step_moves : (c : Config) (s : Site) (level : Level) (e : Event) (r : Answer × Site) → IsSound c s → step c s level e ≡ Ok r → Moves s r.1 (lost e r.0 s) (gained e s)
every_step_moves c s level (Admit n spec) r sound h = admit_moves c s n spec r h
every_step_moves c s level (Start n) r sound h = start_moves c s n r h
every_step_moves c s level (Read n page at len) r sound h = read_moves c s level n page at len r sound h
every_step_moves c s level (Write n page at new) r sound h = write_moves c s level n page at new r sound h
every_step_moves c s level (Ask n) r sound h = ask_moves s n r h
every_step_moves c s level (Lend n page) r sound h = lend_moves s n page r h
every_step_moves c s level (TakeBack n page) r sound h = take_back_moves s n page r h
every_step_moves c s level (Sample n len words) r sound h = sample_moves s n len words r h
every_step_moves c s level Rebalance r sound h = rebalance_moves c s level r h
every_step_moves c s level (Scan n page) r sound h = scan_moves c s n page r sound h
every_step_moves c s level (SwapOut n word) r sound h = swap_out_moves c s level n word r sound h
every_step_moves c s level (Replace n page word) r sound h = replace_moves c s n page word r sound h
every_step_moves c s level (SetShares n shares) r sound h = set_shares_moves s n shares r h
every_step_moves c s level (SetTax tau) r sound h = set_tax_moves s tau r h
every_step_moves c s level (SetVmTax n tau) r sound h = set_vm_tax_moves s n tau r h
every_step_moves c s level (Stop n) r sound h = stop_moves s n r h
every_step_moves c s level (DropPage n page) r sound h = drop_page_moves s n page r h
every_step_moves c s level (Gone n) r sound h = gone_moves s n r h

pub every_event_moves : (c : Config) (t : Scene) (e : Event) (r : Answer × Scene) → IsSound c t.site → next c t e ≡ Ok r → Moves t.site r.1.site (lost e r.0 t.site) (gained e t.site)
every_event_moves c t e r sound h =
    let s = step_of c t e r h in
    let P : Site → Type 0 = λ u. Moves t.site u (lost e r.0 t.site) (gained e t.site) in
    let Q : Answer → Type 0 = λ a. Moves t.site s.0.1 (lost e a t.site) (gained e t.site) in
    subst P s.3 (subst Q s.2 (every_step_moves c t.site t.level e s.0 sound s.1))
