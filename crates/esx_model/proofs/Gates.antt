-- What an accepted event tells: its machine is there, and its gate passed.
use Rattle.std.proofs.Common.{◌≡◌, ℕ, ◌+◌, ◌<◌, ◌≤◌, ◌==◌, ◌||◌, nat_le, nat_lt, Bool, true, false, not, [], ◌∷◌, cond, refl, ap, subst, arith, Option, Some, None, Result, Ok}
use Rattle.std.proofs.lemmas.Bool.{or_from, lt-leb, le-ltb}
use Rattle.std.proofs.lemmas.Bool.Decides.{nat_tests}
use Rattle.esx_types.specs.declared.config.Config.{Config}
use Rattle.esx_types.specs.declared.vm.VmState.{VmState}
use Rattle.esx_types.specs.declared.vm.VmState.TheVariants.{Starting, Running, Stopping}
use Rattle.esx_events.specs.declared.event.Answer.{Answer}
use Rattle.esx_events.specs.declared.event.Refusal.{Refusal}
use Rattle.esx_model.specs.declared.scene.Vm.{Vm}
use Rattle.esx_model.specs.declared.scene.Site.{Site}
use Rattle.esx_model.specs.event.Outcome.{Outcome, Gate, Passes, at_vm, unless, first, or_else, is_running, is_stopping}
use Rattle.esx_model.specs.sound.Sound.{IsSound}

-- the machine of an accepted event
pub record HasVm (o : Option Vm) (f : Vm → Outcome) (r : Answer × Site) : Type 0 where
  pub vm : Vm
  pub there : o ≡ Some vm
  pub then : f vm ≡ Ok r

pub of_vm : (o : Option Vm) (f : Vm → Outcome) (r : Answer × Site) → at_vm o f ≡ Ok r → HasVm o f r
of_vm None f r h = cc
of_vm (Some v) f r h = record { vm = v; there = refl; then = h }

passed_one : {A : Type 0} (t : Bool × Refusal) (ts : Gate) (o : Result A Refusal) (r : A) → (unless ts o ≡ Ok r → Passes ts × (o ≡ Ok r))
    → (b : Bool) → t.0 ≡ b → or_else (cond b (Some t.1) (first ts)) o ≡ Ok r → Passes (t ∷ ts) × (o ≡ Ok r)
passed_one t ts o r rest true e h = cc
passed_one t ts o r rest false e h = let more = rest h in ((e, more.0), more.1)

pub passed : {A : Type 0} (gate : Gate) (o : Result A Refusal) (r : A) → unless gate o ≡ Ok r → Passes gate × (o ≡ Ok r)
passed [] o r h = (tt, h)
passed (t ∷ ts) o r h = passed_one t ts o r (λ k. passed ts o r k) t.0 refl h

-- the site after an outcome
abbrev pub accepted : Answer → Site → Outcome
accepted a t = Ok (a, t)

pub same_site : (a : Answer) (t : Site) (r : Answer × Site) → accepted a t ≡ Ok r → t ≡ r.1
same_site a t r h = let pair : (a, t) ≡ r = cc in ap (λ (x : Answer × Site). x.1) pair

pub gives : (c : Config) (a : Answer) (t : Site) (r : Answer × Site) → accepted a t ≡ Ok r → IsSound c t → IsSound c r.1
gives c a t r h sound =
    let P : Site → Type 0 = IsSound c in
    subst P (same_site a t r h) sound

pub not_not : (b : Bool) → not b ≡ false → b ≡ true
not_not true h = refl
not_not false h = cc

pub runs : (state : VmState) → is_running state ≡ true → state ≡ Running
runs Starting h = cc
runs Running h = refl
runs Stopping h = cc

pub stops : (state : VmState) → is_stopping state ≡ true → state ≡ Stopping
stops Starting h = cc
stops Running h = cc
stops Stopping h = refl

-- some bytes inside a page of the machine are within its range
pub within_page : (max page size at len : ℕ) → page < max → 0 < len → at + len ≤ size → (nat_le max page || (len == 0) || nat_lt size (at + len)) ≡ false
within_page max page size at len below some fits =
    or_from (nat_le max page || (len == 0)) (nat_lt size (at + len)) (or_from (nat_le max page) (len == 0) (lt-leb max page below) (not_nought len some)) (le-ltb size (at + len) fits)
  where
    not_nought : (k : ℕ) → 0 < k → (k == 0) ≡ false
    not_nought k h = grind (arith, nat_tests)
