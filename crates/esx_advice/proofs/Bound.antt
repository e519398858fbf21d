-- How many advised events stand before the answer to go.
use Rattle.std.proofs.Common.{◌≡◌, ℕ, ◌+◌, ◌*◌, ◌≤◌, List, [], ◌∷◌, length, refl, sym, ◌∙◌, subst, arith, Ok, Result}
use Rattle.esx_types.specs.declared.config.Config.{Config}
use Rattle.esx_events.specs.declared.call.Help.{Help}
use Rattle.esx_events.specs.declared.call.Help.TheVariants as helps
use Rattle.esx_events.specs.declared.event.Answer.{Answer}
use Rattle.esx_events.specs.declared.event.Event.{Event}
use Rattle.esx_events.specs.declared.event.Event.TheVariants as events
use Rattle.esx_events.specs.declared.event.Refusal.{Refusal}
use Rattle.esx_model.specs.declared.scene.Scene.{Scene}
use Rattle.esx_model.specs.Advice.{advice, IsNamedBy}
use Rattle.esx_model.specs.Replay.{next}
use Rattle.esx_model.specs.Debts.{debt_of, IsOnPath, AreAdvised}
use Rattle.esx_advice.proofs.Scenes.{Fits, path_fits, fits_next}
use Rattle.esx_advice.proofs.Falls.{swap_out_falls, rebalance_stays}
use Rattle.esx_advice.proofs.Following.{go_follows, swap_out_follows}

-- what is known of a list of advised events, by what is advised first
pub record IsBound (c : Config) (n page : ℕ) (t : Scene) (count : ℕ) : Type 0 where
  pub all : count ≤ 2 * debt_of c t + 2
  pub out : (m : ℕ) → advice c t n page ≡ Ok (helps.SwapOut m) → count ≤ 2 * debt_of c t + 1
  pub go : advice c t n page ≡ Ok helps.Go → count ≡ 0

abbrev advising : Help → Result Help Refusal
advising h = Ok h

same_help : (r : Result Help Refusal) (a b : Help) → r ≡ advising a → r ≡ advising b → a ≡ b
same_help r a b x y = (let e = sym x ∙ y in cc)

pub bound_by : (c : Config) (n page : ℕ) (e : Event) (t m : Scene) (count : ℕ) (h : Help) (a : Answer) → Fits c t → advice c t n page ≡ Ok h → IsNamedBy n page h e → next c t e ≡ Ok (a, m)
    → (Fits c m → IsBound c n page m count) → IsBound c n page t (1 + count)
bound_by c n page e t m count helps.Go a fits given named goes rest = absurd named
bound_by c n page e t m count (helps.SwapOut k) a fits given named goes rest =
    let P : Event → Type 0 = λ x. next c t x ≡ Ok (a, m) in
    let goes1 = subst P named.1 goes in
    let less = swap_out_falls c t m k named.0 a fits goes1 in
    let r = rest (fits_next c t (events.SwapOut k named.0) (a, m) fits goes1) in
    let all = r.all in
    record {
      all = omega (arith, less, all);
      out = λ j h. omega (arith, less, all);
      go = λ h. (let no = same_help (advice c t n page) (helps.SwapOut k) helps.Go given h in cc);
    }
bound_by c n page e t m count helps.Rebalance a fits given named goes rest =
    let P : Event → Type 0 = λ x. next c t x ≡ Ok (a, m) in
    let goes1 = subst P named goes in
    let same = rebalance_stays c t m a fits goes1 in
    let follows = swap_out_follows c t m n page a fits given goes1 in
    let r = rest (fits_next c t events.Rebalance (a, m) fits goes1) in
    let out = r.out follows.0 follows.1 in
    record {
      all = omega (arith, same, out);
      out = λ j h. (let no = same_help (advice c t n page) helps.Rebalance (helps.SwapOut j) given h in cc);
      go = λ h. (let no = same_help (advice c t n page) helps.Rebalance helps.Go given h in cc);
    }
bound_by c n page e t m count helps.Replace a fits given named goes rest =
    let P : Event → Type 0 = λ x. next c t x ≡ Ok (a, m) in
    let goes1 = subst P named.1 goes in
    let follows = go_follows c t m n page named.0 a fits goes1 in
    let r = rest (fits_next c t (events.Replace n page named.0) (a, m) fits goes1) in
    let none = r.go follows in
    record {
      all = omega (arith, none);
      out = λ j h. omega (arith, none);
      go = λ h. (let no = same_help (advice c t n page) helps.Replace helps.Go given h in cc);
    }

pub bounded : (c : Config) (n page : ℕ) (es : List Event) (t u : Scene) → Fits c t → AreAdvised c n page es t u → IsBound c n page t (length es)
bounded c n page [] t u fits are = record { all = omega arith; out = λ m h. omega arith; go = λ h. refl }
bounded c n page (e ∷ es) t u fits are =
    let one = are.1 in
    let P : ℕ → Type 0 = IsBound c n page t in
    let len : 1 + length es ≡ length (e ∷ es) = omega arith in
    subst P len (bound_by c n page e t are.0 (length es) one.help one.answer fits one.given one.named one.goes (λ f. bounded c n page es are.0 u f are.2))

pub help_bounded : (c : Config) (t u : Scene) (n page : ℕ) (es : List Event) → IsOnPath c t → AreAdvised c n page es t u → length es ≤ 2 * debt_of c t + 2
help_bounded c t u n page es on_path are = (bounded c n page es t u (path_fits c t on_path) are).all
