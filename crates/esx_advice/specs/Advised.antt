-- What is advised can be done, and leads to the answer to go.
use Rattle.std.specs.Prelude.{◌≡◌, ℕ, zero, suc, ◌+◌, ◌*◌, ◌<◌, ◌≤◌, true, List, length, Ok, Err}
use Rattle.esx_types.specs.declared.config.Config.{Config}
use Rattle.esx_events.specs.declared.call.Help.{Help}
use Rattle.esx_events.specs.declared.call.Help.TheVariants as helps
use Rattle.esx_events.specs.declared.event.Answer.{Answer}
use Rattle.esx_events.specs.declared.event.Event.{Event}
use Rattle.esx_events.specs.declared.event.Event.TheVariants as events
use Rattle.esx_events.specs.declared.event.Refusal.{Refusal}
use Rattle.esx_model.specs.declared.scene.Scene.{Scene}
use Rattle.esx_model.specs.Advice.{advice, IsNamedBy}
use Rattle.esx_model.specs.Replay.{next}
use Rattle.esx_model.specs.Debts.{debt_of, IsOnPath, IsAccepted, IsAdvised, AreAdvised}
use Rattle.esx_model.specs.Guests.{is_pressed}

-- if the advice is to go, a write of some bytes inside the page is accepted
abbrev pub DoesWriteGo : Type 0
DoesWriteGo = (c : Config) (t : Scene) (n page at : ℕ) (bytes : List ℕ) → advice c t n page ≡ Ok helps.Go → 0 < length bytes → at + length bytes ≤ c.page → IsAccepted c t (events.Write n page at bytes)

-- and so is a read
abbrev pub DoesReadGo : Type 0
DoesReadGo = (c : Config) (t : Scene) (n page at len : ℕ) → advice c t n page ≡ Ok helps.Go → 0 < len → at + len ≤ c.page → IsAccepted c t (events.Read n page at len)

-- any other advice, on each path, names an event that is accepted, with any word
abbrev pub DoesNamedGo : Type 0
DoesNamedGo = (c : Config) (t : Scene) (n page : ℕ) (h : Help) (e : Event) → IsOnPath c t → advice c t n page ≡ Ok h → IsNamedBy n page h e → IsAccepted c t e

-- targets can be set anew at any time
abbrev pub DoesRebalanceGo : Type 0
DoesRebalanceGo = (c : Config) (t : Scene) → IsAccepted c t events.Rebalance

-- a page that is paged out lowers the debt
abbrev pub DoesSwapOutLower : Type 0
DoesSwapOutLower = (c : Config) (t u : Scene) (m word : ℕ) (a : Answer) → IsOnPath c t → next c t (events.SwapOut m word) ≡ Ok (a, u) → debt_of c u < debt_of c t

-- new targets leave it
abbrev pub DoesRebalanceLeave : Type 0
DoesRebalanceLeave = (c : Config) (t u : Scene) (a : Answer) → IsOnPath c t → next c t events.Rebalance ≡ Ok (a, u) → debt_of c u ≡ debt_of c t

-- straight after an advised rebalance the advice is to page out
abbrev pub DoesSwapOutFollow : Type 0
DoesSwapOutFollow = (c : Config) (t u : Scene) (n page : ℕ) (a : Answer) → IsOnPath c t → advice c t n page ≡ Ok helps.Rebalance → next c t events.Rebalance ≡ Ok (a, u) →
    (m : ℕ) × (advice c u n page ≡ Ok (helps.SwapOut m))

-- straight after a replace it is to go
abbrev pub DoesGoFollow : Type 0
DoesGoFollow = (c : Config) (t u : Scene) (n page word : ℕ) (a : Answer) → IsOnPath c t → next c t (events.Replace n page word) ≡ Ok (a, u) → advice c u n page ≡ Ok helps.Go

-- so with no other actor so many advised events, at most, stand before the answer to go
abbrev pub IsHelpBounded : Type 0
IsHelpBounded = (c : Config) (t u : Scene) (n page : ℕ) (es : List Event) → IsOnPath c t → AreAdvised c n page es t u → length es ≤ 2 * debt_of c t + 2

-- an access of a page of machine n
abbrev pub IsAccessOf : ℕ → ℕ → Event → Type 0
IsAccessOf n page (events.Read vm own at len) = (vm ≡ n) × (own ≡ page)
IsAccessOf n page (events.Write vm own at bytes) = (vm ≡ n) × (own ≡ page)
IsAccessOf n page _ = ⊥

-- an access that is refused as its machine is held, or as no frame is free, has an advice for its page
abbrev pub IsWaitAdvised : Type 0
IsWaitAdvised = (c : Config) (t : Scene) (n page : ℕ) (e : Event) (why : Refusal) → IsAccessOf n page e → next c t e ≡ Err why → is_pressed why ≡ true → (h : Help) × (advice c t n page ≡ Ok h)

-- after an advised event the answer is an advice again, and no refusal, and a path leads there too
abbrev pub DoesAdviceGoOn : Type 0
DoesAdviceGoOn = (c : Config) (t u : Scene) (n page : ℕ) (e : Event) → IsOnPath c t → IsAdvised c n page e t u → IsOnPath c u × ((h : Help) × (advice c u n page ≡ Ok h))

-- the advice is to go, now or after at most so many advised events: each event that it names, with any word, is accepted, and then it is so after one less
abbrev pub GoesWithin : Config → ℕ → ℕ → ℕ → Scene → Type 0
GoesWithin c n page zero t = advice c t n page ≡ Ok helps.Go
GoesWithin c n page (suc k) t = (h : Help) × (advice c t n page ≡ Ok h) × ((e : Event) → IsNamedBy n page h e → (r : Answer × Scene) × (next c t e ≡ Ok r) × GoesWithin c n page k r.1)

-- so whoever follows an advice, with no other actor, comes to go within the bound, whatever words are drawn
abbrev pub DoesAdviceEnd : Type 0
DoesAdviceEnd = (c : Config) (t : Scene) (n page : ℕ) (h : Help) → IsOnPath c t → advice c t n page ≡ Ok h → GoesWithin c n page (2 * debt_of c t + 2) t
