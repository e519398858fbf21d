-- What each machine holds before a rebalance, and what it gives with it.
use Rattle.std.proofs.Common.{zero, suc, ◌≡◌, ℕ, ◌+◌, ◌-◌, ◌<◌, max, true, false, List, [], ◌∷◌, ◌++◌, length, map, get_or, set, replicate, append_assoc, refl, sym, ap, ◌∙◌, arith, Option, Some, None}
use Rattle.std.proofs.lemmas.List.{length-append, length-map}
use Rattle.esx_types.specs.declared.config.TheConstants.{VM_NUMBERS}
use Rattle.esx_types.specs.declared.config.Config.{Config}
use Rattle.esx_types.specs.declared.level.Level.{Level}
use Rattle.esx_types.specs.declared.level.Level.TheVariants.{High, Soft, Hard, Low}
use Rattle.esx_events.specs.declared.event.Event.{Event}
use Rattle.esx_events.specs.declared.event.Event.TheVariants.{Rebalance}
use Rattle.esx_events.specs.declared.event.Answer.{Answer}
use Rattle.esx_model.specs.declared.scene.Vm.{Vm}
use Rattle.esx_model.specs.declared.scene.Site.{Site}
use Rattle.esx_model.specs.declared.scene.Scene.{Scene}
use Rattle.esx_model.specs.Site.{vm_at, resident}
use Rattle.esx_model.specs.Advice.{target_of}
use Rattle.esx_model.specs.event.Rebalancing.{rows_from, rows_of}
use Rattle.esx_model.specs.sound.Sound.{IsSound}
use Rattle.esx_story.specs.Spans.{is_rebalance}
use Rattle.esx_story.specs.Waits.{kept, left, asked_in, asked_at}
use Rattle.esx_walk.specs.Account.{asked_for}
use Rattle.esx_walk.specs.Holding.{held_at, held_before, least, with_rows, given, given_after}
use Rattle.esx_walk.proofs.Lists.{map_from_read}

-- Rows put one after another, in order of number.

set_behind : (front back : List ℕ) (x w : ℕ) → set (front ++ x ∷ back) (length front) w ≡ front ++ w ∷ back
set_behind [] back x w = refl
set_behind (y ∷ front) back x w = ap (λ ys. y ∷ ys) (set_behind front back x w)

set_at_end : (front back : List ℕ) (n x w : ℕ) → length front ≡ n → set (front ++ x ∷ back) n w ≡ (front ++ w ∷ []) ++ back
set_at_end front back n x w long =
    ap (λ k. set (front ++ x ∷ back) k w) (sym long) ∙ set_behind front back x w ∙ sym (append_assoc front (w ∷ []) back)

longer : (front : List ℕ) (n w : ℕ) → length front ≡ n → length (front ++ w ∷ []) ≡ n + 1
longer front n w long = length-append front (w ∷ []) ∙ ap (λ k. k + 1) long

-- the machines from number n on
abbrev AreAt : Site → ℕ → List (Option Vm) → Type 0
AreAt s n vms = (k : ℕ) → get_or vms k None ≡ vm_at s (n + k)

at_next : (s : Site) (n : ℕ) (o : Option Vm) (vms : List (Option Vm)) → AreAt s n (o ∷ vms) → AreAt s (n + 1) vms
at_next s n o vms at k = at (suc k) ∙ ap (vm_at s) (let e : n + suc k ≡ n + 1 + k = omega arith in e)

abbrev blanks : List (Option Vm) → List ℕ
blanks vms = replicate (length vms) 0

rows_put : (s : Site) (tau n : ℕ) (front : List ℕ) (vms : List (Option Vm)) → length front ≡ n → AreAt s n vms
    → with_rows s (front ++ blanks vms) (rows_from tau target_of n vms) ≡ front ++ map kept vms
rows_put s tau n front [] long at = refl
rows_put s tau n front (None ∷ vms) long at =
    ap (λ held. with_rows s held (rows_from tau target_of (n + 1) vms)) (sym (append_assoc front (0 ∷ []) (blanks vms)))
    ∙ rows_put s tau (n + 1) (front ++ 0 ∷ []) vms (longer front n 0 long) (at_next s n None vms at)
    ∙ append_assoc front (0 ∷ []) (map kept vms)
rows_put s tau n front (Some v ∷ vms) long at =
    let own : vm_at s n ≡ Some v = ap (vm_at s) (let e : n ≡ n + 0 = omega arith in e) ∙ sym (at 0) in
    let w = max (resident v) v.spec.min in
    ap (λ (o : Option Vm). with_rows s (set (front ++ 0 ∷ blanks vms) n (max (resident v) (least o))) (rows_from tau target_of (n + 1) vms)) own
    ∙ ap (λ held. with_rows s held (rows_from tau target_of (n + 1) vms)) (set_at_end front (blanks vms) n 0 w long)
    ∙ rows_put s tau (n + 1) (front ++ w ∷ []) vms (longer front n w long) (at_next s n (Some v) vms at)
    ∙ append_assoc front (w ∷ []) (map kept vms)

pub all_held : (c : Config) (s : Site) → IsSound c s → with_rows s (replicate VM_NUMBERS 0) (rows_of target_of s) ≡ map kept s.vms
unfolding rows_of
all_held c s sound =
    ap (λ k. with_rows s (replicate k 0) (rows_from s.tau target_of 0 s.vms)) (sym sound.vms)
    ∙ rows_put s s.tau 0 [] s.vms refl (λ k. ap (vm_at s) (let e : k ≡ 0 + k = omega arith in e))

-- What each gives.

kept_read : (vms : List (Option Vm)) (n : ℕ) → get_or (map kept vms) n 0 ≡ kept (get_or vms n None)
kept_read [] n = refl
kept_read (o ∷ vms) zero = refl
kept_read (o ∷ vms) (suc n) = kept_read vms n

given_read : (s t : Site) (n : ℕ) → n < length s.vms → get_or (given t (map kept s.vms)) n 0 ≡ kept (vm_at s n) - left (vm_at t n)
given_read s t n below =
    let long = length-map s.vms kept in
    map_from_read (λ m k. k - left (vm_at t m)) 0 (map kept s.vms) n (omega (arith, long, below)) ∙ ap (λ k. k - left (vm_at t n)) (kept_read s.vms n)

asked_level : (s t : Site) (answer : Answer) (n : ℕ) (level : Level) → n < length s.vms → asked_for answer (given_after t (held_at level s)) n ≡ asked_at level answer (kept (vm_at s n) - left (vm_at t n))
asked_level s t answer n High below = refl
asked_level s t answer n Soft below = ap (asked_in answer) (given_read s t n below)
asked_level s t answer n Hard below = ap (asked_in answer) (given_read s t n below)
asked_level s t answer n Low below = ap (asked_in answer) (given_read s t n below)

no_truth : false ≡ true → ⊥
no_truth h = cc

pub asked_then : (c : Config) (t u : Scene) (e : Event) (answer : Answer) (n : ℕ) → IsSound c t.site → n < VM_NUMBERS → is_rebalance e ≡ true
    → asked_for answer (given_after u.site (held_before t e)) n ≡ asked_at t.level answer (kept (vm_at t.site n) - left (vm_at u.site n))
asked_then c t u Rebalance answer n sound below is = (let long = sound.vms in asked_level t.site u.site answer n t.level (omega (arith, long, below)))
asked_then c t u _ answer n sound below is = absurd (no_truth is)
