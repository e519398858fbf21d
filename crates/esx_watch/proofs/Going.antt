-- A log over its path: it opens, and it goes on.
use Rattle.std.proofs.Common.{◌≡◌, ℕ, zero, suc, ◌+◌, ◌≤◌, List, [], ◌∷◌, ◌++◌, length, map, replicate, append_assoc, refl, sym, ap, ◌∙◌, subst, arith, Option, Some, None}
use Rattle.std.specs.Option.{option_map}
use Rattle.std.proofs.Math.ListN as listn
use Rattle.std.proofs.lemmas.List.{append-nil, length-append, length-map}
use Rattle.std.proofs.lemmas.Grind.{same_number_lists}
use Rattle.esx_types.specs.declared.config.TheConstants.{VM_NUMBERS, MAX_PAGES}
use Rattle.esx_types.specs.declared.config.Config.{Config}
use Rattle.esx_types.specs.declared.level.Level.{Level}
use Rattle.esx_events.specs.declared.call.Sum.{Sum}
use Rattle.esx_model.specs.declared.scene.Vm.{Vm}
use Rattle.esx_model.specs.declared.scene.Site.{Site}
use Rattle.esx_model.specs.declared.scene.Scene.{Scene}
use Rattle.esx_model.specs.declared.tables.Tables.{Tables}
use Rattle.esx_model.specs.Show.{shown}
use Rattle.esx_model.specs.Site.{vm_at}
use Rattle.esx_model.specs.Tables.{tables_of, book_from}
use Rattle.esx_model.specs.Readings.{sum_of}
use Rattle.esx_model.specs.Replay.{opening}
use Rattle.esx_model.specs.sound.Sound.{IsSound}
use Rattle.esx_model.proofs.Callers.{book_read, resident_most}
use Rattle.esx_machine.specs.Machine.{Kept, Shows, book_in}
use Rattle.esx_story.specs.Moments.{Moment}
use Rattle.esx_figures.specs.declared.figures.Figures.{Figures}
use Rattle.esx_figures.specs.declared.steps.Step.{Step}
use Rattle.esx_figures.specs.Figures.{figures, site_at, all_figures}
use Rattle.esx_figures.specs.Steps.{opening_step, guests_told, or_site, steps_at, steps_from, steps}
use Rattle.esx_figures.specs.Sharing.{shared_in, shared_of, parting, parted, joining, hosting, one_of}
use Rattle.esx_figures.specs.Laws.{IsSharingTold}
use Rattle.esx_figures.proofs.event.Leaving.{fewer_shared}
use Rattle.esx_watch.specs.Logs.{Log, all_shared, opened, IsLog, IsNext}
use Rattle.esx_watch.specs.Shifting.{shared_at, shifted, AreAtMost}
use Rattle.esx_watch.proofs.Shifts.{shifted_at, shifted_long}

-- the book of a machine that shows a scene
pub book_shown : (c : Config) (k : Kept) (t : Scene) → Shows k t → k.config ≡ c → book_in k ≡ shown c t
book_shown c k t s same =
    ap (λ (x : Tables). book_from x k.level) s.tables ∙ ap (λ (l : Level). book_from (tables_of k.config t.site) l) s.level ∙ book_read k.config t.site t.level s.sound ∙ ap (λ (q : Config). shown q t) same

-- Pages in shared frames.

pub shared_is : (s : Site) (n : ℕ) → shared_at (all_shared s) n ≡ shared_of s n
shared_is s n = listn.get_or-map shared_in s.vms n None

few_of : (c : Config) (s : Site) (n : ℕ) (o : Option Vm) → IsSound c s → vm_at s n ≡ o → shared_in o ≤ MAX_PAGES
few_of c s n None sound there = omega arith
few_of c s n (Some v) sound there =
    let fine = sound.each n v there in
    let fewer = fewer_shared v.places in
    let most = resident_most c v fine in
    let good = fine.good.most_max in
    omega (arith, fewer, most, good)

pub few_shared : (c : Config) (s : Site) → IsSound c s → AreAtMost MAX_PAGES (all_shared s)
few_shared c s sound n =
    let is = shared_is s n in
    let few = few_of c s n (vm_at s n) sound refl in
    omega (arith, is, few)

-- as the law tells it
pub shifted_is : (s u : Site) (l j h : Option ℕ) → length s.vms ≡ VM_NUMBERS → length u.vms ≡ VM_NUMBERS → ((n : ℕ) → shared_of u n + one_of n l ≡ shared_of s n + one_of n j + one_of n h)
    → shifted (all_shared s) l j h ≡ all_shared u
shifted_is s u l j h s_long u_long told =
    let s_map = length-map s.vms shared_in in
    let u_map = length-map u.vms shared_in in
    let long = shifted_long (all_shared s) l j h in
    same_number_lists (shifted (all_shared s) l j h) (all_shared u) (omega (arith, s_long, u_long, s_map, u_map, long)) (λ n below. (
    let at = shifted_at (all_shared s) l j h n (omega (arith, below, long)) in
    let before = shared_is s n in
    let after = shared_is u n in
    let law = told n in
    omega (arith, at, before, after, law)))

-- The opening.

map_none : {X : Type 0} (f : Option Vm → X) (k : ℕ) → replicate k (f None) ≡ map f (replicate k None)
map_none f zero = refl
map_none f (suc k) = ap (λ xs. f None ∷ xs) (map_none f k)

pub log_is : (site : Sum) (shared : List ℕ) (guests : List (Option Figures)) (told : List Step) → shared ≡ replicate VM_NUMBERS 0 → guests ≡ replicate VM_NUMBERS None → told ≡ opening_step site ∷ []
    → (let l : Log = record { shared = shared; site = site; guests = guests; steps = told; events = 0 } in l) ≡ opened site
log_is site shared guests told e1 e2 e3 =
    ap (λ x. let l : Log = record { shared = x; site = site; guests = guests; steps = told; events = 0 } in l) e1
    ∙ ap (λ x. record (opened site) { guests = x; steps = told }) e2
    ∙ ap (λ x. record (opened site) { steps = x }) e3

pub log_opens : (c : Config) (l : Log) (site : Sum) → l ≡ opened site → site ≡ site_at c (opening c) → IsLog c [] (opening c) l
log_opens c l site is same =
    let P : Log → Type 0 = IsLog c [] (opening c) in
    subst P (sym is) (record {
      shared = map_none shared_in VM_NUMBERS;
      site = same;
      guests = map_none (λ o. option_map figures o) VM_NUMBERS;
      steps = ap (λ x. opening_step x ∷ []) same;
      events = refl;
    })

-- One more event.

steps_more : (c : Config) (i : ℕ) (ms : List Moment) (x : Moment) → steps_from c i (ms ++ x ∷ []) ≡ steps_from c i ms ++ steps_at c (i + length ms) x
steps_more c i [] x = append-nil (steps_at c i x) ∙ ap (λ k. steps_at c k x) (let e : i ≡ i + 0 = omega arith in e)
steps_more c i (y ∷ ms) x =
    ap (λ ys. steps_at c i y ++ ys) (steps_more c (i + 1) ms x ∙ ap (λ k. steps_from c (i + 1) ms ++ steps_at c k x) (let e : i + 1 + length ms ≡ i + length (y ∷ ms) = omega arith in e))
    ∙ sym (append_assoc (steps_at c i y) (steps_from c (i + 1) ms) (steps_at c (i + length (y ∷ ms)) x))

-- what was told of an event is what is to be told
event_told : (i j : ℕ) (before b after a : Sum) (was w is s : List (Option Figures)) → i ≡ j → before ≡ b → after ≡ a → was ≡ w → is ≡ s
    → or_site i before after (guests_told i after was is VM_NUMBERS) ≡ or_site j b a (guests_told j a w s VM_NUMBERS)
event_told i j before b after a was w is s e1 e2 e3 e4 e5 =
    ap (λ k. or_site k before after (guests_told k after was is VM_NUMBERS)) e1
    ∙ ap (λ x. or_site j x after (guests_told j after was is VM_NUMBERS)) e2
    ∙ ap (λ x. or_site j b x (guests_told j x was is VM_NUMBERS)) e3
    ∙ ap (λ x. or_site j b a (guests_told j a x is VM_NUMBERS)) e4
    ∙ ap (λ x. or_site j b a (guests_told j a w x VM_NUMBERS)) e5

pub goes_on : IsSharingTold → (c : Config) (ms : List Moment) (x : Moment) (old new : Log) (k : Kept) (gone come host : Option ℕ) → IsLog c ms x.before old → IsNext c x k gone come host
    → new.shared ≡ shifted old.shared gone come host → new.site ≡ sum_of (book_in k) → ((t : Scene) → Shows k t → new.shared ≡ all_shared t.site → new.guests ≡ all_figures t.site) → new.events ≡ old.events + 1
    → new.steps ≡ old.steps ++ or_site new.events old.site new.site (guests_told new.events new.site old.guests new.guests VM_NUMBERS) → IsLog c (ms ++ x ∷ []) x.after new
goes_on law c ms x old new k gone come host log nexts shifts sums looks counts tells =
    let s = x.before.site in
    let u = x.after.site in
    let site : new.site ≡ site_at c x.after = sums ∙ ap sum_of (book_shown c k x.after nexts.shows nexts.config) in
    let told : (n : ℕ) → shared_of u n + one_of n (parted s (parting x.event x.answer)) ≡ shared_of s n + one_of n (joining x.event x.answer) + one_of n (hosting s x.event) = λ n. law c x.before x.event (x.answer, x.after) n nexts.sound nexts.goes in
    let shared : new.shared ≡ all_shared u =
    shifts ∙ ap (λ xs. shifted xs gone come host) log.shared ∙ ap (λ o. shifted (all_shared s) o come host) nexts.parted ∙ ap (λ o. shifted (all_shared s) (parted s (parting x.event x.answer)) o host) nexts.joined
    ∙ ap (shifted (all_shared s) (parted s (parting x.event x.answer)) (joining x.event x.answer)) nexts.host
    ∙ shifted_is s u (parted s (parting x.event x.answer)) (joining x.event x.answer) (hosting s x.event) nexts.sound.vms nexts.shows.sound.vms told in
    let guests : new.guests ≡ all_figures u = looks x.after nexts.shows shared in
    let events : new.events ≡ 1 + length ms = (let was = log.events in omega (arith, counts, was)) in
    let longer = length-append ms (x ∷ []) in
    record {
      shared = shared;
      site = site;
      guests = guests;
      steps = tells ∙ ap (λ ys. ys ++ or_site new.events old.site new.site (guests_told new.events new.site old.guests new.guests VM_NUMBERS)) log.steps
          ∙ ap (λ ys. steps c ms ++ ys) (event_told new.events (1 + length ms) old.site (site_at c x.before) new.site (site_at c x.after) old.guests (all_figures s) new.guests (all_figures u) events log.site site log.guests guests)
          ∙ ap (λ ys. opening_step (site_at c (opening c)) ∷ ys) (sym (steps_more c 1 ms x));
      events = omega (arith, events, longer);
    }
