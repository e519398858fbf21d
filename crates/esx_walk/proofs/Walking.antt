-- A walk over its path: it may go on, and it goes on.
use Rattle.std.proofs.Common.{◌≡◌, ℕ, ◌+◌, ◌<◌, ◌≤◌, ◌^◌, Bool, true, false, List, [], ◌∷◌, ◌++◌, length, get_or, refl, sym, ap, ◌∙◌, subst, arith, cond, Option, Some, None, Result, Ok}
use Rattle.std.specs.Option.{option_map}
use Rattle.esx_types.specs.declared.config.TheConstants.{MAX_NODES, VM_NUMBERS}
use Rattle.esx_types.specs.Ranges.{IsConfig}
use Rattle.esx_types.specs.declared.config.Config.{Config}
use Rattle.esx_types.specs.declared.level.Level.{Level}
use Rattle.esx_events.specs.declared.event.Answer.{Answer}
use Rattle.esx_events.specs.declared.event.Answer.TheVariants as answers
use Rattle.esx_events.specs.declared.event.Event.{Event}
use Rattle.esx_events.specs.declared.event.Event.TheVariants.{Lend, SwapOut, Replace, DropPage}
use Rattle.esx_events.specs.declared.event.Refusal.{Refusal}
use Rattle.esx_events.specs.declared.call.PageState.{PageState}
use Rattle.esx_model.specs.declared.scene.Vm.{Vm}
use Rattle.esx_model.specs.declared.scene.Site.{Site}
use Rattle.esx_model.specs.declared.scene.Scene.{Scene}
use Rattle.esx_model.specs.declared.tables.Tables.{Tables}
use Rattle.esx_model.specs.Places.{is_here}
use Rattle.esx_model.specs.Site.{vm_at, place_in}
use Rattle.esx_model.specs.Show.{shown}
use Rattle.esx_model.specs.Tables.{tables_of, book_from}
use Rattle.esx_model.specs.Replay.{opening, next, run_from, run}
use Rattle.esx_model.specs.sound.Sound.{IsSound}
use Rattle.esx_model.proofs.Callers.{run_one_more, book_read, path_within, shown_within, some_below, place_within}
use Rattle.esx_plans.specs.plan.Balloon.{CanEpochsRise}
use Rattle.esx_machine.specs.Machine.{Kept, Shows, book_in}
use Rattle.esx_story.specs.declared.change.How.{How}
use Rattle.esx_story.specs.declared.change.How.TheVariants.{Balloon, Dropped}
use Rattle.esx_story.specs.declared.change.Change.{Change}
use Rattle.esx_story.specs.declared.story.Seen.{Seen}
use Rattle.esx_story.specs.Changes.{has_here}
use Rattle.esx_story.specs.Moments.{Moment, moments_from, moments}
use Rattle.esx_story.specs.Readings.{is_told_here, named_page, lost_where, lost_by, gained_from, said_before}
use Rattle.esx_story.specs.Waits.{Met}
use Rattle.esx_story.proofs.Enough.{reading_enough}
use Rattle.esx_story.proofs.Told.{loss_told}
use Rattle.esx_story.proofs.Walked.{path_told}
use Rattle.esx_walk.specs.Account.{Account, asked_for}
use Rattle.esx_walk.specs.Accounts.{IsAccount, IsNext}
use Rattle.esx_walk.specs.Few.{IsShort, IsPatient}
use Rattle.esx_walk.specs.Holding.{held_before, given_after}
use Rattle.esx_walk.specs.Looking.{losing, IsPrepared}
use Rattle.esx_walk.specs.Walks.{Walked, IsWalk, MayGoOn, MayRefuse}
use Rattle.esx_walk.proofs.Along.{moment_of, moments_more}
use Rattle.esx_walk.proofs.Held.{asked_then}

-- A page that is here is one of a machine that is there.

pub record IsThere (s : Site) (n page : ℕ) : Type 0 where
  pub vm : Vm
  pub there : vm_at s n ≡ Some vm
  pub within : page < vm.spec.max
  pub number : n < VM_NUMBERS

no_truth : false ≡ true → ⊥
no_truth h = cc

here_there : (c : Config) (s : Site) (n page : ℕ) → IsSound c s → has_here s n page ≡ true → IsThere s n page
here_there c s n page sound here = by (vm_at s n) refl
  where
    by : (o : Option Vm) → vm_at s n ≡ o → IsThere s n page
    by None e = absurd (no_truth (ap (λ (p : Option Vm). is_here (place_in p page)) (sym e) ∙ here))
    by (Some v) e =
        let within = place_within v.places page (ap (λ (p : Option Vm). is_here (place_in p page)) (sym e) ∙ here) in
        let long = (sound.each n v e).pages in
        let below = some_below s.vms n v e in
        let count = sound.vms in
        record { vm = v; there = e; within = omega (arith, within, long); number = omega (arith, below, count) }

-- What an event takes is a page of the machine that was looked at.

no_change : (y : Change) → None ≡ Some y → ⊥
no_change y h = cc

abbrev vm_of : Option Change → Option ℕ
vm_of o = option_map (λ (y : Change). y.vm) o

where_named : (b : Bool) (n page : ℕ) (how : How) (y : Change) → lost_where b n page how ≡ Some y → cond b (Some n) None ≡ Some y.vm
where_named true n page how y h = ap vm_of h
where_named false n page how y h = absurd (no_change y h)

losing_named : (e : Event) (a : Answer) (before : Result PageState Refusal) (y : Change) → lost_by e a before ≡ Some y → losing e before ≡ Some y.vm
losing_named (Lend n page) (answers.Lent count goal) before y h = where_named (is_told_here before) n page Balloon y h
losing_named (Lend n page) _ before y h = absurd (no_change y h)
losing_named (SwapOut n word) (answers.PagedOut page slot) before y h = ap vm_of h
losing_named (SwapOut n word) _ before y h = absurd (no_change y h)
losing_named (Replace n page word) (answers.Replaced victim slot frame) before y h = ap vm_of h
losing_named (Replace n page word) _ before y h = absurd (no_change y h)
losing_named (DropPage n page) answers.Done before y h = where_named (is_told_here before) n page Dropped y h
losing_named (DropPage n page) _ before y h = absurd (no_change y h)
losing_named _ _ before y h = absurd (no_change y h)

-- what was read before an accepted event
abbrev pub read_before : Config → Scene → Event → Result PageState Refusal
read_before c t e = said_before (shown c t) (named_page e)

pub comes_next : (c : Config) (t u : Scene) (e : Event) (answer : Answer) (places : List (List ℕ)) (s : Option Seen) (given : Option (List ℕ)) (lost gained : Option Change) → IsSound c t.site → next c t e ≡ Ok (answer, u)
    → lost ≡ lost_by e answer (read_before c t e) → gained ≡ gained_from e (read_before c t e) → IsPrepared c t (losing e (read_before c t e)) places s → given ≡ given_after u.site (held_before t e)
    → IsNext c (moment_of e answer t u) places e answer s given lost gained
comes_next c t u e answer places s given lost gained sound goes loses gains ready gives =
    let enough = reading_enough c t e (answer, u) sound goes in
    record {
      sound = sound;
      goes = goes;
      made = refl;
      told = refl;
      loses = enough.0 ∙ sym loses;
      gains = enough.1 ∙ sym gains;
      asks = λ n below is. ap (λ (o : Option (List ℕ)). asked_for answer o n) gives ∙ asked_then c t u e answer n sound below is;
      about = λ y h. (let looked = ready y.vm (losing_named e answer (read_before c t e) y (sym loses ∙ h)) in
          let here = (loss_told c t e (answer, u) y.vm y.page sound goes).1 (y.how, enough.0 ∙ sym loses ∙ h) in
          let there = here_there c t.site y.vm y.page sound here.0 in
          let within = there.within in
          let room = looked.places there.vm there.there in
          (looked.seen, there.number, omega (arith, within, room)));
    }

-- The walk after it.

pub walk_more : (c : Config) (es : List Event) (mets : List Met) (e : Event) (answer : Answer) (w v : Walked) (u : Scene) (walk : IsWalk c es mets w) → next c walk.scene e ≡ Ok (answer, u) → Shows v.machine u → v.machine.config ≡ c
    → IsAccount c (moments c es ++ moment_of e answer walk.scene u ∷ []) mets u.site v.account → IsWalk c (es ++ e ∷ []) mets v
walk_more c es mets e answer w v u walk goes shows config account =
    let P : List Moment → Type 0 = λ ms. IsAccount c ms mets u.site v.account in
    record {
      good = walk.good;
      config = config;
      scene = u;
      runs = run_one_more c es e walk.scene u answer walk.runs goes;
      shows = shows;
      account = subst P (sym (moments_more c es walk.scene e (answer, u) walk.runs goes)) account;
    }

-- with the same machine, and an account of the same path
pub walk_stays : (c : Config) (es : List Event) (mets : List Met) (w v : Walked) (walk : IsWalk c es mets w) → v.machine ≡ w.machine → IsAccount c (moments c es) mets walk.scene.site v.account → IsWalk c es mets v
walk_stays c es mets w v walk same account =
    let P : Kept → Type 0 = λ k. Shows k walk.scene in
    record {
      good = walk.good;
      config = ap (λ (k : Kept). k.config) same ∙ walk.config;
      scene = walk.scene;
      runs = walk.runs;
      shows = subst P (sym same) walk.shows;
      account = account;
    }

-- of no event
pub walk_opens : (c : Config) (w : Walked) → IsConfig c → w.machine.config ≡ c → Shows w.machine (opening c) → IsAccount c [] [] (opening c).site w.account → IsWalk c [] [] w
unfolding run_from moments_from
walk_opens c w good config shows account = record { good = good; config = config; scene = opening c; runs = refl; shows = shows; account = account }

-- with one more refusal
pub walk_refused : (c : Config) (es : List Event) (mets : List Met) (m : Met) (w v : Walked) (walk : IsWalk c es mets w) → v.machine ≡ w.machine → IsAccount c (moments c es) (mets ++ m ∷ []) walk.scene.site v.account → IsWalk c es (mets ++ m ∷ []) v
walk_refused c es mets m w v walk same account =
    let P : Kept → Type 0 = λ k. Shows k walk.scene in
    record {
      good = walk.good;
      config = ap (λ (k : Kept). k.config) same ∙ walk.config;
      scene = walk.scene;
      runs = walk.runs;
      shows = subst P (sym same) walk.shows;
      account = account;
    }

-- What it needs to go on.

pub moments_long : (c : Config) (es : List Event) (mets : List Met) (w : Walked) → IsWalk c es mets w → length (moments c es) ≡ length es
moments_long c es mets w walk = (path_told c es walk.scene walk.runs).0

pub short_account : (w : Walked) → MayGoOn w → IsShort w.account
short_account w may =
    let long = moments_long may.config may.events may.mets w may.walk in
    let short = may.short in
    record { config = may.config; moments = moments may.config may.events; mets = may.mets; site = may.walk.scene.site; account = may.walk.account; short = omega (arith, long, short) }

pub patient_account : (w : Walked) → MayRefuse w → IsPatient w.account
patient_account w may = record { config = may.config; moments = moments may.config may.events; mets = may.mets; site = may.walk.scene.site; account = may.walk.account; few = may.few }

pub can_rise : (w : Walked) → MayGoOn w → CanEpochsRise w.machine.tables
can_rise w may = λ n v there. (
    let walk = may.walk in
    let low = shown_within w.machine.config (length may.events) walk.scene.site n v (path_within may.config may.events walk.scene walk.runs)
    (sym (ap (λ (x : Tables). get_or x.vms n None) walk.shows.tables) ∙ there) in
    let short = may.short in
    omega (arith, low, short))

-- the book of a machine that shows a scene
pub book_shown : (k : Kept) (t : Scene) → Shows k t → book_in k ≡ shown k.config t
book_shown k t s = ap (λ (x : Tables). book_from x k.level) s.tables ∙ ap (λ (l : Level). book_from (tables_of k.config t.site) l) s.level ∙ book_read k.config t.site t.level s.sound
