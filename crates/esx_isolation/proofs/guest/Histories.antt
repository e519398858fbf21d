-- Histories of events and questions: where the cursor never goes back.
use Rattle.std.proofs.Common.{◌≡◌, ℕ, nat_le, Bool, true, false, List, length, refl, ap, ◌∙◌, cond, Result, Ok, Err, ◌⊎◌, inl, inr}
use Rattle.esx_types.specs.declared.config.Config.{Config}
use Rattle.esx_types.specs.Ranges.{IsConfig}
use Rattle.esx_events.specs.declared.event.Event.{Event}
use Rattle.esx_events.specs.declared.event.Event.TheVariants.{Admit, Start, Read, Write, Ask, Lend, TakeBack, Sample, Rebalance, Scan, SwapOut, Replace, SetShares, SetTax, SetVmTax, Stop, DropPage, Gone}
use Rattle.esx_events.specs.declared.event.Answer.{Answer}
use Rattle.esx_events.specs.declared.event.Refusal.{Refusal}
use Rattle.esx_events.specs.declared.event.Refusal.TheVariants.{Full}
use Rattle.esx_events.specs.declared.call.Call.{Call}
use Rattle.esx_events.specs.declared.call.Call.TheVariants as calls
use Rattle.esx_events.specs.declared.call.Said.{Said}
use Rattle.esx_events.specs.declared.call.Said.TheVariants as said
use Rattle.esx_model.specs.declared.scene.Scene.{Scene}
use Rattle.esx_model.specs.Tree.{path, at}
use Rattle.esx_model.specs.Replay.{opening, next, run_from, run}
use Rattle.esx_model.specs.History.{History, opened, here, scene_or, scene_at, done, answered, do_event}
use Rattle.esx_model.specs.Console.{Outcome, outcome, event_outcome, after}
use Rattle.esx_model.specs.sound.Sound.{IsSound}
use Rattle.esx_model.proofs.Callers.{opening_sound, every_event_sound, run_one_more, here_done}
use Rattle.esx_model.specs.Guests.{DoesOrAsks, call_answer, read_answer}

-- where the cursor's path of a history leads
pub record Stands (c : Config) (h : History) (t : Scene) : Type 0 where
  pub config : h.config ≡ c
  pub runs : run c (here h) ≡ Ok t
  pub sound : IsSound c t.site

pub stands_at : (c : Config) (h : History) (t : Scene) → Stands c h t → scene_at h ≡ t
stands_at c h t s = ap (λ d. scene_or d (run d (here h))) s.config ∙ ap (scene_or c) s.runs

pub opened_stands : (c : Config) → IsConfig c → Stands c (opened c) (opening c)
unfolding at path run_from
opened_stands c fine = record { config = refl; runs = refl; sound = opening_sound c fine }

pub done_stands : (c : Config) (e : Event) (h : History) (t u : Scene) (a : Answer) → Stands c h t → next c t e ≡ Ok (a, u) → Stands c (done e h) u
unfolding done
done_stands c e h t u a s goes = record {
  config = s.config;
  runs = ap (run c) (here_done h e) ∙ run_one_more c (here h) e t u a s.runs goes;
  sound = every_event_sound c t e (a, u) s.sound goes;
}

-- What is said to an event.

-- no node numbers are left
abbrev pub IsFull : History → Type 0
IsFull h = nat_le h.config.nodes (length h.nodes) ≡ true

pub record Refuses (c : Config) (h : History) (t : Scene) (e : Event) : Type 0 where
  pub refusal : Refusal
  pub told : (outcome h (calls.Do e)).0 ≡ said.Refused refusal
  pub stays : after h (calls.Do e) ≡ h
  pub why : (IsFull h × (refusal ≡ Full)) ⊎ (next c t e ≡ Err refusal)

pub record Accepts (c : Config) (h : History) (t : Scene) (e : Event) : Type 0 where
  pub answer : Answer
  pub scene : Scene
  pub told : (outcome h (calls.Do e)).0 ≡ said.Done answer
  pub goes : after h (calls.Do e) ≡ done e h
  pub is : next c t e ≡ Ok (answer, scene)

abbrev Hears : Config → History → Scene → Event → Type 0
Hears c h t e = Refuses c h t e ⊎ Accepts c h t e

is_outcome : (h : History) (e : Event) (d : Result (Answer × History) Refusal) → do_event e h ≡ d → outcome h (calls.Do e) ≡ event_outcome h d
unfolding outcome
is_outcome h e d k = ap (event_outcome h) k

hear_answered : (c : Config) (h : History) (t : Scene) (e : Event) (d : Result (Answer × Scene) Refusal) → next c t e ≡ d → do_event e h ≡ answered e h d → Hears c h t e
hear_answered c h t e (Err r) is k =
    let o = is_outcome h e (Err r) k in
    inl (record { refusal = r; told = ap (λ (x : Outcome). x.0) o; stays = ap (λ (x : Outcome). x.1) o; why = inr is })
hear_answered c h t e (Ok r) is k =
    let o = is_outcome h e (Ok (r.0, done e h)) k in
    inr (record { answer = r.0; scene = r.1; told = ap (λ (x : Outcome). x.0) o; goes = ap (λ (x : Outcome). x.1) o; is = is })

hear_by : (c : Config) (h : History) (t : Scene) (e : Event) (b : Bool) → Stands c h t → nat_le h.config.nodes (length h.nodes) ≡ b → Hears c h t e
unfolding do_event
hear_by c h t e true s full =
    let o = is_outcome h e (Err Full) (ap (λ x. cond x (Err Full) (answered e h (next h.config (scene_at h) e))) full) in
    inl (record { refusal = Full; told = ap (λ (x : Outcome). x.0) o; stays = ap (λ (x : Outcome). x.1) o; why = inl (full, refl) })
hear_by c h t e false s room =
    hear_answered c h t e (next c t e) refl
    (ap (λ x. cond x (Err Full) (answered e h (next h.config (scene_at h) e))) room ∙ ap (λ d. answered e h (next d (scene_at h) e)) s.config ∙ ap (λ u. answered e h (next c u e)) (stands_at c h t s))

pub hear : (c : Config) (h : History) (t : Scene) (e : Event) → Stands c h t → Hears c h t e
hear c h t e s = hear_by c h t e (nat_le h.config.nodes (length h.nodes)) s refl

-- where no numbers are left every event is refused
pub full_stays : (h : History) (e : Event) → IsFull h → (after h (calls.Do e) ≡ h) × ((outcome h (calls.Do e)).0 ≡ said.Refused Full)
unfolding do_event
full_stays h e full =
    let o = is_outcome h e (Err Full) (ap (λ x. cond x (Err Full) (answered e h (next h.config (scene_at h) e))) full) in
    (ap (λ (x : Outcome). x.1) o, ap (λ (x : Outcome). x.0) o)

-- Questions.

pub record IsAsk (call : Call) : Type 0 where
  pub stays : (h : History) → after h call ≡ h
  pub silent : (s : Said) (later : List (List ℕ)) → call_answer call s later ≡ later

pub data Kind (call : Call) : Type 0 where
  Does : (e : Event) → call ≡ calls.Do e → Kind call
  Asks : IsAsk call → Kind call

pub kind_of : (call : Call) → DoesOrAsks call → Kind call
unfolding outcome
kind_of (calls.Do e) d = Does e refl
kind_of (calls.Undo k) d = absurd d
kind_of (calls.Redo k) d = absurd d
kind_of (calls.Goto n) d = absurd d
kind_of (calls.Visit name) d = absurd d
kind_of (calls.Mark name) d = absurd d
kind_of (calls.Prune n) d = absurd d
kind_of (calls.WhatIf es) d = Asks (record { stays = λ h. refl; silent = λ s later. refl })
kind_of calls.Table d = Asks (record { stays = λ h. refl; silent = λ s later. refl })
kind_of (calls.OfVm n) d = Asks (record { stays = λ h. refl; silent = λ s later. refl })
kind_of (calls.Advise n page) d = Asks (record { stays = λ h. refl; silent = λ s later. refl })
kind_of calls.Marks d = Asks (record { stays = λ h. refl; silent = λ s later. refl })
kind_of calls.Sum d = Asks (record { stays = λ h. refl; silent = λ s later. refl })
kind_of (calls.OfPage n page) d = Asks (record { stays = λ h. refl; silent = λ s later. refl })
kind_of calls.Stand d = Asks (record { stays = λ h. refl; silent = λ s later. refl })

pub refused_silent : (e : Event) (r : Refusal) (later : List (List ℕ)) → read_answer e (said.Refused r) later ≡ later
refused_silent (Read n page at len) r later = refl
refused_silent (Admit n spec) r later = refl
refused_silent (Start n) r later = refl
refused_silent (Write n page at new) r later = refl
refused_silent (Ask n) r later = refl
refused_silent (Lend n page) r later = refl
refused_silent (TakeBack n page) r later = refl
refused_silent (Sample n len words) r later = refl
refused_silent Rebalance r later = refl
refused_silent (Scan n page) r later = refl
refused_silent (SwapOut n word) r later = refl
refused_silent (Replace n page word) r later = refl
refused_silent (SetShares n shares) r later = refl
refused_silent (SetTax tau) r later = refl
refused_silent (SetVmTax n tau) r later = refl
refused_silent (Stop n) r later = refl
refused_silent (DropPage n page) r later = refl
refused_silent (Gone n) r later = refl
