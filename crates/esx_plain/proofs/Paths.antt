-- Paths, one event at a time.
use Rattle.std.proofs.Common.{◌≡◌, ◌≢◌, ℕ, ◌+◌, ◌<◌, ◌≤◌, List, [], ◌∷◌, length, get_or, drop, refl, sym, ap, ◌∙◌, arith, Result, Ok, Err}
use Rattle.std.specs.Result.{IsOk}
use Rattle.std.proofs.lemmas.Grind.{common_steps}
use Rattle.esx_types.specs.declared.config.Config.{Config}
use Rattle.esx_types.specs.declared.level.Level.{Level}
use Rattle.esx_events.specs.declared.event.Event.{Event}
use Rattle.esx_events.specs.declared.event.Refusal.{Refusal}
use Rattle.esx_events.specs.declared.event.Refusal.TheVariants.{NoVm, VmThere, BadSpec, NoMemoryReserve, NoSwapReserve, NotRunning, OutOfRange, Held, Short, OverGoal, NotLent, LentAlready, NotNow, AtTarget, NotResident, BadWords, NotNeeded, PagesLeft, NothingToUndo, NothingToRedo, NoSuchNode, NameTaken, NoSuchName, OnPath, Full, OutOfMemory, SampleOpen}
use Rattle.esx_model.specs.declared.scene.Scene.{Scene}
use Rattle.esx_model.specs.declared.book.Book.{Book}
use Rattle.esx_model.specs.Show.{shown}
use Rattle.esx_model.specs.event.Outcome.{Outcome}
use Rattle.esx_model.specs.Replay.{settled, next, after_one, run_from, run, shown_after, replay_of}
use Rattle.esx_plain.specs.declared.fault.PlainFault.{PlainFault}
use Rattle.esx_plain.specs.declared.fault.PlainFault.TheVariants as faults
use Rattle.esx_plain.specs.Runs.{Runs, Replays, fault_at}

pub run_more : (c : Config) (es : List Event) (i : ℕ) (e : Event) (t : Scene) → i < length es → e ≡ get_or es i e
    → run_from c i (drop i es) t ≡ after_one i (next c t e) (λ u. run_from c (i + 1) (drop (i + 1) es) u)
unfolding run_from
run_more c es i e t below is = ap (λ xs. run_from c i xs t) (at_drop_more_item es i e below is)
  where
    at_drop_more_item : (xs : List Event) (i : ℕ) (e : Event) → i < length xs → e ≡ get_or xs i e → drop i xs ≡ e ∷ drop (i + 1) xs
    at_drop_more_item xs i e below is = grind (arith, common_steps)

pub run_none : (c : Config) (es : List Event) (i : ℕ) (t : Scene) → length es ≤ i → run_from c i (drop i es) t ≡ Ok t
unfolding run_from
run_none c es i t past = ap (λ xs. run_from c i xs t) (drop-past es i past)
  where
    drop-past : (xs : List Event) (i : ℕ) → length xs ≤ i → drop i xs ≡ []
    drop-past xs i past = grind (arith, common_steps)

-- a refused event ends the run
pub fault_runs : (i : ℕ) (e : Refusal) (d : Result Scene (ℕ × Refusal)) → (e ≢ OutOfMemory → d ≡ Err (i, e)) → Runs (Err (fault_at i e)) d
fault_runs i OutOfMemory d h = tt
fault_runs i (NotNow level) d h = h (λ x. cc)
fault_runs i NoVm d h = h (λ x. cc)
fault_runs i VmThere d h = h (λ x. cc)
fault_runs i BadSpec d h = h (λ x. cc)
fault_runs i NoMemoryReserve d h = h (λ x. cc)
fault_runs i NoSwapReserve d h = h (λ x. cc)
fault_runs i NotRunning d h = h (λ x. cc)
fault_runs i OutOfRange d h = h (λ x. cc)
fault_runs i Held d h = h (λ x. cc)
fault_runs i Short d h = h (λ x. cc)
fault_runs i OverGoal d h = h (λ x. cc)
fault_runs i NotLent d h = h (λ x. cc)
fault_runs i LentAlready d h = h (λ x. cc)
fault_runs i AtTarget d h = h (λ x. cc)
fault_runs i NotResident d h = h (λ x. cc)
fault_runs i BadWords d h = h (λ x. cc)
fault_runs i NotNeeded d h = h (λ x. cc)
fault_runs i PagesLeft d h = h (λ x. cc)
fault_runs i NothingToUndo d h = h (λ x. cc)
fault_runs i NothingToRedo d h = h (λ x. cc)
fault_runs i NoSuchNode d h = h (λ x. cc)
fault_runs i NameTaken d h = h (λ x. cc)
fault_runs i NoSuchName d h = h (λ x. cc)
fault_runs i OnPath d h = h (λ x. cc)
fault_runs i Full d h = h (λ x. cc)
fault_runs i SampleOpen d h = h (λ x. cc)

-- one event is accepted where its step is

pub ok_settled : (c : Config) (level : Level) (d : Outcome) → IsOk d → IsOk (settled c level d)
ok_settled c level (Ok r) h = refl
ok_settled c level (Err e) h = cc

-- The tables at the end of a path.

pub replays_shown : (c : Config) (path : List Event) (t : Scene) (book : Book) → run c path ≡ Ok t → book ≡ shown c t → replay_of c path ≡ Ok book
replays_shown c path t book h is = ap (shown_after c) h ∙ ap (λ b. Ok b) (sym is)

pub fault_replays : (c : Config) (path : List Event) (fault : PlainFault) → Runs (Err fault) (run c path) → Replays (Err fault) (replay_of c path)
fault_replays c path (faults.Refused i e) h = ap (shown_after c) h
fault_replays c path faults.OutOfMemory h = tt
