-- What every event changes of pages in shared frames.
use Rattle.std.proofs.Common.{◌≡◌, subst, Ok}
use Rattle.esx_types.specs.declared.config.Config.{Config}
use Rattle.esx_types.specs.declared.level.Level.{Level}
use Rattle.esx_events.specs.declared.event.Answer.{Answer}
use Rattle.esx_events.specs.declared.event.Event.{Event}
use Rattle.esx_events.specs.declared.event.Event.TheVariants.{Admit, Start, Read, Write, Ask, Lend, TakeBack, Sample, Rebalance, Scan, SwapOut, Replace, SetShares, SetTax, SetVmTax, Stop, DropPage, Gone}
use Rattle.esx_model.specs.declared.scene.Site.{Site}
use Rattle.esx_model.specs.Step.{step}
use Rattle.esx_model.specs.sound.Sound.{IsSound}
use Rattle.esx_model.proofs.Callers.{step_of}
use Rattle.esx_figures.specs.Sharing.{parting, parted, joining, hosting}
use Rattle.esx_figures.specs.Laws.{IsSharingTold}
use Rattle.esx_figures.proofs.Marks.{Shares}
use Rattle.esx_figures.proofs.event.Access.{read_shares, write_shares, replace_shares}
use Rattle.esx_figures.proofs.event.Balloon.{ask_shares, lend_shares, take_back_shares}
use Rattle.esx_figures.proofs.event.Looking.{scan_shares, swap_out_shares}
use Rattle.esx_figures.proofs.event.Leaving.{stop_shares, drop_page_shares, gone_shares}
use Rattle.esx_figures.proofs.event.Others.{admit_shares, start_shares, sample_shares, set_shares_shares, set_tax_shares, set_vm_tax_shares, rebalance_shares}

every_step_shares : (c : Config) (s : Site) (level : Level) (e : Event) (r : Answer × Site) → IsSound c s → step c s level e ≡ Ok r → Shares s r.1 (parted s (parting e r.0)) (joining e r.0) (hosting s e)
every_step_shares c s level (Admit n spec) r sound h = admit_shares c s n spec r h
every_step_shares c s level (Start n) r sound h = start_shares c s n r h
every_step_shares c s level (Read n page at len) r sound h = read_shares c s level n page at len r sound h
every_step_shares c s level (Write n page at new) r sound h = write_shares c s level n page at new r sound h
every_step_shares c s level (Ask n) r sound h = ask_shares s n r h
every_step_shares c s level (Lend n page) r sound h = lend_shares c s n page r sound h
every_step_shares c s level (TakeBack n page) r sound h = take_back_shares c s n page r sound h
every_step_shares c s level (Sample n len words) r sound h = sample_shares s n len words r h
every_step_shares c s level Rebalance r sound h = rebalance_shares c s level r h
every_step_shares c s level (Scan n page) r sound h = scan_shares c s n page r sound h
every_step_shares c s level (SwapOut n word) r sound h = swap_out_shares c s level n word r sound h
every_step_shares c s level (Replace n page word) r sound h = replace_shares c s n page word r sound h
every_step_shares c s level (SetShares n shares) r sound h = set_shares_shares s n shares r h
every_step_shares c s level (SetTax tau) r sound h = set_tax_shares s tau r h
every_step_shares c s level (SetVmTax n tau) r sound h = set_vm_tax_shares s n tau r h
every_step_shares c s level (Stop n) r sound h = stop_shares s n r h
every_step_shares c s level (DropPage n page) r sound h = drop_page_shares c s n page r sound h
every_step_shares c s level (Gone n) r sound h = gone_shares s n r h

pub sharing_told : IsSharingTold
sharing_told c t e r n sound h =
    let s = step_of c t e r h in
    let P : Site → Type 0 = λ u. Shares t.site u (parted t.site (parting e r.0)) (joining e r.0) (hosting t.site e) in
    let Q : Answer → Type 0 = λ a. Shares t.site s.0.1 (parted t.site (parting e a)) (joining e a) (hosting t.site e) in
    let all : Shares t.site r.1.site (parted t.site (parting e r.0)) (joining e r.0) (hosting t.site e) = subst P s.3 (subst Q s.2 (every_step_shares c t.site t.level e s.0 sound s.1)) in
    all n
