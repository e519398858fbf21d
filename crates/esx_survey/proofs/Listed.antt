-- What is told of each machine, put into a list one by one.
use Rattle.std.proofs.Common.{zero, suc, ◌≡◌, ℕ, ◌+◌, ◌-◌, ◌<◌, ◌≤◌, List, [], ◌∷◌, ◌++◌, length, map, get_or, set, take, drop, replicate, refl, sym, ap, ◌∙◌, arith, Option, None}
use Rattle.std.specs.List.{AllByRecursion}
use Rattle.std.proofs.Math.ListN.{get_or-map}
use Rattle.std.proofs.lemmas.List.{length-map, length-take}
use Rattle.std.specs.Option.{option_map}
use Rattle.esx_types.specs.declared.config.TheConstants.{VM_NUMBERS}
use Rattle.esx_types.specs.declared.config.Config.{Config}
use Rattle.esx_model.specs.declared.scene.Site.{Site}
use Rattle.esx_model.specs.declared.scene.Vm.{Vm}
use Rattle.esx_model.specs.Site.{vm_at}
use Rattle.esx_model.specs.sound.Sound.{IsSound}
use Rattle.esx_sums.specs.declared.present.Present.{Present}
use Rattle.esx_sums.specs.Sums.{present_of, all_present}
use Rattle.esx_sums.specs.Few.{IsSmall, AreSmall}
use Rattle.esx_sums.specs.Accounts.{AreAll}

abbrev told : Option Vm → Option Present
told o = option_map present_of o

abbrev untold : Option Vm → Option Present
untold o = None

-- of the first n machines
abbrev pub told_to : ℕ → List (Option Vm) → List (Option Present)
told_to n vms = map told (take n vms) ++ map untold (drop n vms)

told_next : (vms : List (Option Vm)) (n : ℕ) → n < length vms → set (told_to n vms) n (told (get_or vms n None)) ≡ told_to (suc n) vms
told_next [] n below = absurd (omega (arith, below))
told_next (o ∷ vms) zero below = refl
told_next (o ∷ vms) (suc n) below = ap (λ xs. told o ∷ xs) (told_next vms n (omega (arith, below)))

pub told_more : (c : Config) (s : Site) (n : ℕ) (o : Option Present) (present : List (Option Present)) → IsSound c s → n < VM_NUMBERS → o ≡ option_map present_of (vm_at s n) → present ≡ told_to n s.vms
    → set present n o ≡ told_to (n + 1) s.vms
told_more c s n o present sound below is so_far =
    let count = sound.vms in
    ap (λ xs. set xs n o) so_far ∙ ap (set (told_to n s.vms) n) is ∙ told_next s.vms n (omega (arith, below, count)) ∙ ap (λ k. told_to k s.vms) (let e : suc n ≡ n + 1 = omega arith in e)

all_untold : (vms : List (Option Vm)) → replicate (length vms) None ≡ map untold vms
all_untold [] = refl
all_untold (o ∷ vms) = ap (λ xs. None ∷ xs) (all_untold vms)

pub told_none : (c : Config) (s : Site) → IsSound c s → replicate VM_NUMBERS None ≡ told_to 0 s.vms
told_none c s sound = ap (λ k. replicate k None) (sym sound.vms) ∙ all_untold s.vms

-- of no machine nothing is told
none_left : (vms : List (Option Vm)) → ((m : ℕ) → get_or vms m None ≡ None) → map untold vms ≡ map told vms
none_left [] past = refl
none_left (o ∷ vms) past = ap (λ (p : Option Vm). told p ∷ map untold vms) (sym (past 0)) ∙ ap (λ xs. told o ∷ xs) (none_left vms (λ m. past (suc m)))

told_to_last : (n : ℕ) (vms : List (Option Vm)) → ((m : ℕ) → n ≤ m → get_or vms m None ≡ None) → told_to n vms ≡ map told vms
told_to_last zero vms past = none_left vms (λ m. past m (omega arith))
told_to_last (suc n) [] past = refl
told_to_last (suc n) (o ∷ vms) past = ap (λ xs. told o ∷ xs) (told_to_last n vms (λ m behind. past (suc m) (omega (arith, behind))))

pub told_all : (s : Site) (n : ℕ) (present : List (Option Present)) → ((m : ℕ) → n ≤ m → vm_at s m ≡ None) → present ≡ told_to n s.vms → present ≡ all_present s
told_all s n present past is = is ∙ told_to_last n s.vms past

blank_all : (all : List (Option Present)) → ((m : ℕ) → get_or all m None ≡ None) → replicate (length all) None ≡ all
blank_all [] past = refl
blank_all (o ∷ all) past = ap (λ (p : Option Present). p ∷ replicate (length all) None) (sym (past 0)) ∙ ap (λ xs. o ∷ xs) (blank_all all (λ m. past (suc m)))

cut : (all : List (Option Present)) (n : ℕ) → ((m : ℕ) → n ≤ m → get_or all m None ≡ None) → take n all ++ replicate (length all - length (take n all)) None ≡ all
cut all zero past = ap (λ k. replicate k None) (let e : length all - 0 ≡ length all = omega arith in e) ∙ blank_all all (λ m. past m (omega arith))
cut [] (suc n) past = refl
cut (o ∷ all) (suc n) past =
    ap (λ k. o ∷ (take n all ++ replicate k None)) (let e : suc (length all) - suc (length (take n all)) ≡ length all - length (take n all) = omega arith in e)
    ∙ ap (λ xs. o ∷ xs) (cut all n (λ m behind. past (suc m) (omega (arith, behind))))

-- what is told up to the last machine
pub all_cut : (c : Config) (s : Site) (n : ℕ) → IsSound c s → ((m : ℕ) → n ≤ m → vm_at s m ≡ None) → AreAll (take n (all_present s)) s
all_cut c s n sound past =
    let long : length (all_present s) ≡ VM_NUMBERS = length-map s.vms told ∙ sound.vms in
    ap (λ k. take n (all_present s) ++ replicate (k - length (take n (all_present s))) None) (sym long)
    ∙ cut (all_present s) n (λ m behind. get_or-map told s.vms m None ∙ ap told (past m behind))

small_front : (n : ℕ) (present : List (Option Present)) → AllByRecursion IsSmall present → AllByRecursion IsSmall (take n present)
small_front zero present small = tt
small_front (suc n) [] small = tt
small_front (suc n) (o ∷ present) small = (small.0, small_front n present small.1)

pub small_cut : (n : ℕ) (present : List (Option Present)) → AreSmall present → AreSmall (take n present)
small_cut n present small =
    let count = small.count in
    let few = length-take n present in
    record { count = omega (arith, count, few); each = small_front n present small.each }
