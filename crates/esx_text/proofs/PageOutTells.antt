-- The answer to a line by which a page goes out tells that page.
use Rattle.std.proofs.Common.{◌≡◌, ℕ, Bool, true, false, nat_le, length, refl, cond, subst, Result, Ok, Err}
use Rattle.esx_events.specs.declared.event.Answer.{Answer}
use Rattle.esx_events.specs.declared.event.Event.TheVariants.{SwapOut}
use Rattle.esx_events.specs.declared.event.Refusal.{Refusal}
use Rattle.esx_events.specs.declared.event.Refusal.TheVariants.{Full}
use Rattle.esx_events.specs.declared.call.Said.TheVariants.{Done}
use Rattle.esx_model.specs.declared.scene.Scene.{Scene}
use Rattle.esx_model.specs.Replay.{next}
use Rattle.esx_model.specs.History.{History, scene_at, answered, do_event}
use Rattle.esx_model.specs.Console.{Session, event_outcome, outcome, history, next_reply}
use Rattle.esx_pageout.specs.Draws.{TellsOut}
use Rattle.esx_pageout.proofs.Out.{goes_out}
use Rattle.esx_text.specs.PageOut.{pageout_call, word_after}

one_answer : (a b : Answer) → Done a ≡ Done b → a ≡ b
one_answer a b e = cc

module _ (h : History) (n page word : ℕ) (answer : Answer) where
  done_tells : (o : Result (Answer × Scene) Refusal) → ((r : Answer × Scene) → o ≡ Ok r → TellsOut page r.0)
      → (event_outcome h (answered (SwapOut n word) h o)).0 ≡ Done answer → TellsOut page answer
  done_tells (Err e) tells is = cc
  done_tells (Ok r) tells is = subst (TellsOut page) (one_answer r.0 answer is) (tells r refl)

  event_tells : (full : Bool) → ((r : Answer × Scene) → next h.config (scene_at h) (SwapOut n word) ≡ Ok r → TellsOut page r.0)
      → (event_outcome h (cond full (Err Full) (answered (SwapOut n word) h (next h.config (scene_at h) (SwapOut n word))))).0 ≡ Done answer → TellsOut page answer
  event_tells true tells is = cc
  event_tells false tells is = done_tells (next h.config (scene_at h) (SwapOut n word)) tells is

pub pageout_tells : (session : Session) (n page word : ℕ) (answer : Answer) → word_after session n page ≡ Ok word
    → (next_reply session (pageout_call n word)).said ≡ Done answer → TellsOut page answer
unfolding next_reply outcome do_event
pageout_tells session n page word answer is said =
    let h = history session in
    event_tells h n page word answer (nat_le h.config.nodes (length h.nodes)) (λ r made. goes_out h.config (scene_at h) n page word r is made) said
