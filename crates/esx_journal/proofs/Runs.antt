-- A path that grows by an accepted event.
use Rattle.std.proofs.Common.{◌≡◌, ℕ, ◌+◌, ◌<◌, ◌^◌, List, [], ◌∷◌, ◌++◌, refl, sym, ap, ◌∙◌, subst, arith, get_or, None, Result, Ok, Err}
use Rattle.esx_types.specs.declared.config.Config.{Config}
use Rattle.esx_types.specs.declared.level.Level.{Level}
use Rattle.esx_events.specs.declared.event.Event.{Event}
use Rattle.esx_events.specs.declared.event.Answer.{Answer}
use Rattle.esx_events.specs.declared.event.Refusal.{Refusal}
use Rattle.esx_model.specs.declared.scene.Scene.{Scene}
use Rattle.esx_model.specs.declared.tables.Tables.{Tables}
use Rattle.esx_model.specs.Show.{shown}
use Rattle.esx_model.specs.Tables.{tables_of, book_from}
use Rattle.esx_model.specs.Epochs.{AreEpochsWithin}
use Rattle.esx_model.specs.sound.Sound.{IsSound}
use Rattle.esx_model.specs.Replay.{opening, next, after_one, run, run_from}
use Rattle.esx_model.specs.History.{scene_or}
use Rattle.esx_model.proofs.Callers.{book_read, shown_within}
use Rattle.esx_machine.specs.Machine as machines
use Rattle.esx_machine.specs.Machine.{Shows, book_in}
use Rattle.esx_plans.specs.plan.Balloon.{CanEpochsRise}
use Rattle.esx_journal.specs.Journal.{kept_of, kept_after, IsAccepted}

went_on : (i : ℕ) (o : Result (Answer × Scene) Refusal) (go : Scene → Result Scene (ℕ × Refusal)) (u : Scene) → after_one i o go ≡ Ok u → (r : Answer × Scene) × (o ≡ Ok r) × (go r.1 ≡ Ok u)
went_on i (Err e) go u h = cc
went_on i (Ok r) go u h = (r, refl, h)

run_more : (c : Config) (i : ℕ) (es : List Event) (e : Event) (s t u : Scene) (a : Answer) → run_from c i es s ≡ Ok t → next c t e ≡ Ok (a, u) → run_from c i (es ++ e ∷ []) s ≡ Ok u
unfolding run_from
run_more c i [] e s t u a h n = (let same : s ≡ t = cc in ap (λ x. after_one i (next c x e) (λ y. run_from c (i + 1) [] y)) same ∙ ap (λ o. after_one i o (λ y. run_from c (i + 1) [] y)) n)
run_more c i (x ∷ es) e s t u a h n =
    let one = went_on i (next c s x) (λ y. run_from c (i + 1) es y) t h in
    ap (λ o. after_one i o (λ y. run_from c (i + 1) (es ++ e ∷ []) y)) one.1 ∙ run_more c (i + 1) es e one.0.1 t u a one.2 n

-- an accepted event leads a path on
pub run_one_more : (c : Config) (es : List Event) (e : Event) (t u : Scene) (a : Answer) → run c es ≡ Ok t → next c t e ≡ Ok (a, u) → run c (es ++ e ∷ []) ≡ Ok u
run_one_more c es e t u a h n = run_more c 0 es e (opening c) t u a h n

-- a machine that shows where a path leads
pub shown_is : (k : machines.Kept) (c : Config) (es : List Event) (u : Scene) → run c es ≡ Ok u → Shows k u → k.config ≡ c → k ≡ kept_after c es
unfolding kept_after
shown_is k c es u r s m =
    let first : k ≡ record { config = k.config; level = k.level; tables = tables_of k.config u.site } = ap (λ (t : Tables). record k { tables = t }) s.tables in
    let second : record { config = k.config; level = k.level; tables = tables_of k.config u.site } ≡ kept_of k.config u = ap (λ (l : Level). record { config = k.config; level = l; tables = tables_of k.config u.site }) s.level in
    let third : kept_of k.config u ≡ kept_of c u = ap (λ x. kept_of x u) m in
    first ∙ second ∙ third ∙ ap (λ o. kept_of c (scene_or c o)) (sym r)

-- the book of a machine that shows a scene
pub book_shown : (k : machines.Kept) (t : Scene) → Shows k t → book_in k ≡ shown k.config t
book_shown k t s = ap (λ x. book_from x k.level) s.tables ∙ ap (book_from (tables_of k.config t.site)) s.level ∙ book_read k.config t.site t.level s.sound

-- its epochs, where they are not too high to rise
pub can_rise : (k : machines.Kept) (t : Scene) (most : ℕ) → Shows k t → AreEpochsWithin most t.site → most + 1 < 2 ^ 32 → CanEpochsRise k.tables
can_rise k t most shows within room = λ n v there.
    let low = shown_within k.config most t.site n v within (sym (ap (λ (x : Tables). get_or x.vms n None) shows.tables) ∙ there) in
    omega arith

pub accepted_open : (k : machines.Kept) (c : Config) → k.config ≡ c → Shows k (opening c) → IsAccepted c []
unfolding run_from
accepted_open k c m s = (let P : Config → Type 0 = λ x. IsSound x (opening c).site in record { scene = opening c; runs = refl; sound = subst P m s.sound })

pub opens : (k : machines.Kept) (c : Config) → k.config ≡ c → Shows k (opening c) → k ≡ kept_after c []
unfolding run_from
opens k c m s = shown_is k c [] (opening c) refl s m

pub accepted_push : (c : Config) (es : List Event) (old : IsAccepted c es) (e : Event) (k : machines.Kept) (a : Answer) (u : Scene) → next c old.scene e ≡ Ok (a, u) → Shows k u → k.config ≡ c
    → IsAccepted c (es ++ e ∷ [])
accepted_push c es old e k a u n s m = (let P : Config → Type 0 = λ x. IsSound x u.site in
    record { scene = u; runs = run_one_more c es e old.scene u a old.runs n; sound = subst P m s.sound })

pub grown_is : (c : Config) (es : List Event) (old : IsAccepted c es) (e : Event) (k : machines.Kept) (a : Answer) (u : Scene) → next c old.scene e ≡ Ok (a, u) → Shows k u → k.config ≡ c
    → k ≡ kept_after c (es ++ e ∷ [])
grown_is c es old e k a u n s m = shown_is k c (es ++ e ∷ []) u (run_one_more c es e old.scene u a old.runs n) s m

pub config_after : (c : Config) (es : List Event) → (kept_after c es).config ≡ c
unfolding kept_after
config_after c es = refl

-- the machine after an accepted path shows its scene
pub shows_after : (c : Config) (es : List Event) (old : IsAccepted c es) → Shows (kept_after c es) old.scene
unfolding kept_after
shows_after c es old = record { sound = old.sound; tables = ap (λ o. tables_of c (scene_or c o).site) old.runs; level = ap (λ o. (scene_or c o).level) old.runs }
