-- Events that are tried.
use Rattle.std.proofs.Common.{◌≡◌, ℕ, ◌≤◌, List, [], ◌∷◌, ◌++◌, length, drop, append_assoc, append-nil, sym, ap, ◌∙◌, arith, Result, Ok, Err}
use Rattle.std.proofs.lemmas.Grind.{common_steps}
use Rattle.esx_types.specs.declared.config.Config.{Config}
use Rattle.esx_events.specs.declared.event.Event.{Event}
use Rattle.esx_events.specs.declared.event.Answer.{Answer}
use Rattle.esx_events.specs.declared.event.Refusal.{Refusal}
use Rattle.esx_events.specs.declared.call.Sum.{Sum}
use Rattle.esx_model.specs.declared.scene.Scene.{Scene}
use Rattle.esx_model.specs.Show.{shown}
use Rattle.esx_model.specs.Readings.{sum_of}
use Rattle.esx_model.specs.Replay.{next}
use Rattle.esx_model.specs.WhatIf.{tried, scene_then, replies_to, scene_of}
use Rattle.esx_machine.specs.Machine as machines
use Rattle.esx_machine.specs.Machine.{Shows, book_in}
use Rattle.esx_journal.proofs.Runs.{book_shown}
use Rattle.esx_journal.specs.Trial.{Told, Tells}

abbrev pub Replies : Type 0
Replies = List (Result Answer Refusal)

pub no_more : (es : List Event) (i : ℕ) → length es ≤ i → drop i es ≡ []
no_more es i h = grind (arith, common_steps)

-- the sum of a machine that shows a scene
pub sum_is : (k : machines.Kept) (t : Scene) (s : Sum) → Shows k t → s ≡ sum_of (book_in k) → s ≡ sum_of (shown k.config t)
sum_is k t s shows e = e ∙ ap sum_of (book_shown k t shows)

-- no event
pub told_none : (c : Config) (t : Scene) (xs : Replies) (s : Sum) → s ≡ sum_of (shown c t) → Told c t [] xs xs s
unfolding replies_to scene_of
told_none c t xs s e = record { replies = sym (append-nil xs); after = e }

-- an accepted event, and those after it
pub tells_more : {E : Type 0} (r : Result Sum E) (c : Config) (t u : Scene) (e : Event) (es : List Event) (a : Answer) (xs ys : Replies) → next c t e ≡ Ok (a, u) → Tells r c u es (xs ++ Ok a ∷ []) ys → Tells r c t (e ∷ es) xs ys
unfolding replies_to scene_of
tells_more (Ok s) c t u e es a xs ys n told = record {
  replies = told.replies ∙ append_assoc xs (Ok a ∷ []) (replies_to c es u) ∙ ap (λ d. xs ++ tried d (λ v. replies_to c es v)) (sym n);
  after = told.after ∙ ap (λ d. sum_of (shown c (scene_then t d (λ v. scene_of c es v)))) (sym n);
}
tells_more (Err x) c t u e es a xs ys n told = tt

-- a refused event
pub told_refused : (c : Config) (t : Scene) (e : Event) (es : List Event) (r : Refusal) (xs : Replies) (s : Sum) → next c t e ≡ Err r → s ≡ sum_of (shown c t) → Told c t (e ∷ es) xs (xs ++ Err r ∷ []) s
unfolding replies_to scene_of
told_refused c t e es r xs s n is = record {
  replies = ap (λ d. xs ++ tried d (λ v. replies_to c es v)) (sym n);
  after = is ∙ ap (λ d. sum_of (shown c (scene_then t d (λ v. scene_of c es v)))) (sym n);
}
