-- What the tables say of the page that an event names is enough to tell what it loses and gains.
use Rattle.std.proofs.Common.{◌≡◌, ℕ, ◌<◌, ◌||◌, List, length, refl, ap, ◌∙◌, Some, None, Result, Ok, cond}
use Rattle.std.specs.List.{list_any}
use Rattle.std.specs.Option.{option_map}
use Rattle.esx_types.specs.declared.config.Config.{Config}
use Rattle.esx_types.specs.declared.level.Level.{Level}
use Rattle.esx_events.specs.declared.event.Answer.{Answer}
use Rattle.esx_events.specs.declared.event.Answer.TheVariants as answers
use Rattle.esx_events.specs.declared.event.Refusal.{Refusal}
use Rattle.esx_events.specs.declared.event.Event.{Event}
use Rattle.esx_events.specs.declared.event.Event.TheVariants.{Admit, Start, Read, Write, Ask, Lend, TakeBack, Sample, Rebalance, Scan, SwapOut, Replace, SetShares, SetTax, SetVmTax, Stop, DropPage, Gone}
use Rattle.esx_events.specs.declared.call.PageState.{PageState}
use Rattle.esx_model.specs.declared.scene.Vm.{Vm}
use Rattle.esx_model.specs.declared.scene.Site.{Site}
use Rattle.esx_model.specs.declared.scene.Scene.{Scene}
use Rattle.esx_model.specs.Places.{is_here, is_out}
use Rattle.esx_model.specs.Site.{vm_at, place_at, free_count}
use Rattle.esx_model.specs.Show.{shown}
use Rattle.esx_model.specs.Readings.{page_state}
use Rattle.esx_model.specs.event.Outcome.{standing, page_gate}
use Rattle.esx_model.specs.event.Access.{access_gate, read, write}
use Rattle.esx_model.specs.event.Balloon.{lend}
use Rattle.esx_model.specs.event.Paging.{is_above_min, replace_gate, replace}
use Rattle.esx_model.specs.event.Leaving.{drop_gate, drop_page}
use Rattle.esx_model.specs.Step.{step}
use Rattle.esx_model.specs.sound.Sound.{IsSound}
use Rattle.esx_model.proofs.Callers.{step_of, of_vm, passed, below_max}
use Rattle.esx_story.specs.Changes.{How, Balloon, Dropped, change}
use Rattle.esx_story.specs.Losses.{lost, lost_if_here}
use Rattle.esx_story.specs.Gains.{gained_by, gained}
use Rattle.esx_story.specs.Readings.{coming_from, is_told_here, named_page, lost_by, gained_from, said_before, IsReadingEnough}
use Rattle.esx_story.proofs.event.Access.{in_range}
use Rattle.esx_story.proofs.Tells.{page_tells}

-- the page is one of a machine that is there
abbrev HasPage : Site → ℕ → ℕ → Type 0
HasPage s n page = (v : Vm) × (vm_at s n ≡ Some v) × (page < v.spec.max)

read_names : (c : Config) (s : Site) (level : Level) (n page at len : ℕ) (r : Answer × Site) → read c s level n page at len ≡ Ok r → HasPage s n page
unfolding read
read_names c s level n page at len r h =
    let own = of_vm (vm_at s n) _ r h in
    let pass = passed (access_gate c level (standing own.vm) page at len) _ r own.then in
    (own.vm, own.there, in_range page own.vm.spec.max _ _ pass.0.1.0)

write_names : (c : Config) (s : Site) (level : Level) (n page at : ℕ) (new : List ℕ) (r : Answer × Site) → write c s level n page at new ≡ Ok r → HasPage s n page
unfolding write
write_names c s level n page at new r h =
    let own = of_vm (vm_at s n) _ r h in
    let pass = passed (access_gate c level (standing own.vm) page at (length new)) _ r own.then in
    (own.vm, own.there, in_range page own.vm.spec.max _ _ pass.0.1.0)

lend_names : (s : Site) (n page : ℕ) (r : Answer × Site) → lend s n page ≡ Ok r → HasPage s n page
unfolding lend
lend_names s n page r h =
    let own = of_vm (vm_at s n) _ r h in
    let pass = passed (page_gate (standing own.vm) page) _ r own.then in
    (own.vm, own.there, below_max own.vm.spec.max page pass.0.1.0)

replace_names : (c : Config) (s : Site) (n page word : ℕ) (r : Answer × Site) → replace c s n page word ≡ Ok r → HasPage s n page
unfolding replace
replace_names c s n page word r h =
    let own = of_vm (vm_at s n) _ r h in
    let pass = passed (replace_gate (standing own.vm) page (is_here (place_at own.vm page)) (free_count c.frames s) (list_any is_above_min s.vms)) _ r own.then in
    (own.vm, own.there, below_max own.vm.spec.max page pass.0.1.0)

drop_names : (s : Site) (n page : ℕ) (r : Answer × Site) → drop_page s n page ≡ Ok r → HasPage s n page
unfolding drop_page
drop_names s n page r h =
    let own = of_vm (vm_at s n) _ r h in
    let pass = passed (drop_gate (standing own.vm) page (is_here (place_at own.vm page) || is_out (place_at own.vm page))) _ r own.then in
    (own.vm, own.there, below_max own.vm.spec.max page pass.0.1.0)

gains_so : (c : Config) (t : Scene) (n page : ℕ) → IsSound c t.site → HasPage t.site n page → gained_by n page (vm_at t.site n) ≡ option_map (change n page) (coming_from (page_state (shown c t) n page))
gains_so c t n page sound has =
    let v = has.0 in
    ap (gained_by n page) has.1 ∙ ap (option_map (change n page)) (page_tells c t n page v sound has.1 has.2).0

here_so : (c : Config) (t : Scene) (n page : ℕ) (how : How) → IsSound c t.site → HasPage t.site n page → lost_if_here t.site n page how ≡ cond (is_told_here (page_state (shown c t) n page)) (Some (change n page how)) None
here_so c t n page how sound has = ap (λ b. cond b (Some (change n page how)) None) (page_tells c t n page has.0 sound has.1 has.2).1

lend_so : (c : Config) (t : Scene) (n page : ℕ) (a : Answer) → IsSound c t.site → HasPage t.site n page → lost (Lend n page) a t.site ≡ lost_by (Lend n page) a (page_state (shown c t) n page)
lend_so c t n page (answers.Lent count goal) sound has = here_so c t n page Balloon sound has
lend_so c t n page _ sound has = refl

drop_so : (c : Config) (t : Scene) (n page : ℕ) (a : Answer) → IsSound c t.site → HasPage t.site n page → lost (DropPage n page) a t.site ≡ lost_by (DropPage n page) a (page_state (shown c t) n page)
drop_so c t n page answers.Done sound has = here_so c t n page Dropped sound has
drop_so c t n page _ sound has = refl

swap_so : (s : Site) (n word : ℕ) (a : Answer) (before : Result PageState Refusal) → lost (SwapOut n word) a s ≡ lost_by (SwapOut n word) a before
swap_so s n word (answers.PagedOut page slot) before = refl
swap_so s n word _ before = refl

replace_so : (s : Site) (n page word : ℕ) (a : Answer) (before : Result PageState Refusal) → lost (Replace n page word) a s ≡ lost_by (Replace n page word) a before
replace_so s n page word (answers.Replaced q slot frame) before = refl
replace_so s n page word _ before = refl

step_enough : (c : Config) (t : Scene) (e : Event) (a : Answer) (q : Answer × Site) → IsSound c t.site → step c t.site t.level e ≡ Ok q
    → (lost e a t.site ≡ lost_by e a (said_before (shown c t) (named_page e))) × (gained e t.site ≡ gained_from e (said_before (shown c t) (named_page e)))
step_enough c t (Admit n spec) a q sound h = (refl, refl)
step_enough c t (Start n) a q sound h = (refl, refl)
step_enough c t (Read n page at len) a q sound h = (refl, gains_so c t n page sound (read_names c t.site t.level n page at len q h))
step_enough c t (Write n page at new) a q sound h = (refl, gains_so c t n page sound (write_names c t.site t.level n page at new q h))
step_enough c t (Ask n) a q sound h = (refl, refl)
step_enough c t (Lend n page) a q sound h = (lend_so c t n page a sound (lend_names t.site n page q h), refl)
step_enough c t (TakeBack n page) a q sound h = (refl, refl)
step_enough c t (Sample n len words) a q sound h = (refl, refl)
step_enough c t Rebalance a q sound h = (refl, refl)
step_enough c t (Scan n page) a q sound h = (refl, refl)
step_enough c t (SwapOut n word) a q sound h = (swap_so t.site n word a _, refl)
step_enough c t (Replace n page word) a q sound h = (replace_so t.site n page word a _, gains_so c t n page sound (replace_names c t.site n page word q h))
step_enough c t (SetShares n shares) a q sound h = (refl, refl)
step_enough c t (SetTax tau) a q sound h = (refl, refl)
step_enough c t (SetVmTax n tau) a q sound h = (refl, refl)
step_enough c t (Stop n) a q sound h = (refl, refl)
step_enough c t (DropPage n page) a q sound h = (drop_so c t n page a sound (drop_names t.site n page q h), refl)
step_enough c t (Gone n) a q sound h = (refl, refl)

pub reading_enough : IsReadingEnough
reading_enough c t e r sound h =
    let s = step_of c t e r h in
    step_enough c t e r.0 s.0 sound s.1
