-- What is told of each machine, put into a list one by one.
use Rattle.std.proofs.Common.{zero, suc, ◌≡◌, ℕ, ◌+◌, ◌<◌, ◌≤◌, List, [], ◌∷◌, ◌++◌, length, map, get_or, set, take, drop, replicate, refl, sym, ap, ◌∙◌, arith, Option, None}
use Rattle.std.specs.Option.{option_map}
use Rattle.esx_types.specs.declared.config.TheConstants.{VM_NUMBERS}
use Rattle.esx_types.specs.declared.config.Config.{Config}
use Rattle.esx_model.specs.declared.scene.Site.{Site}
use Rattle.esx_model.specs.declared.scene.Vm.{Vm}
use Rattle.esx_model.specs.Site.{vm_at}
use Rattle.esx_model.specs.sound.Sound.{IsSound}
use Rattle.esx_figures.specs.declared.figures.Figures.{Figures}
use Rattle.esx_figures.specs.Figures.{figures, all_figures}

abbrev told : Option Vm → Option Figures
told o = option_map figures o

abbrev untold : Option Vm → Option Figures
untold o = None

-- of the first n machines
abbrev pub told_to : ℕ → List (Option Vm) → List (Option Figures)
told_to n vms = map told (take n vms) ++ map untold (drop n vms)

told_next : (vms : List (Option Vm)) (n : ℕ) → n < length vms → set (told_to n vms) n (told (get_or vms n None)) ≡ told_to (suc n) vms
told_next [] n below = absurd (omega (arith, below))
told_next (o ∷ vms) zero below = refl
told_next (o ∷ vms) (suc n) below = ap (λ xs. told o ∷ xs) (told_next vms n (omega (arith, below)))

pub told_more : (c : Config) (s : Site) (n : ℕ) (o : Option Figures) (all : List (Option Figures)) → IsSound c s → n < VM_NUMBERS → o ≡ option_map figures (vm_at s n) → all ≡ told_to n s.vms
    → set all n o ≡ told_to (n + 1) s.vms
told_more c s n o all sound below is so_far =
    let count = sound.vms in
    ap (λ xs. set xs n o) so_far ∙ ap (set (told_to n s.vms) n) is ∙ told_next s.vms n (omega (arith, below, count)) ∙ ap (λ k. told_to k s.vms) (let e : suc n ≡ n + 1 = omega arith in e)

all_untold : (vms : List (Option Vm)) → replicate (length vms) None ≡ map untold vms
all_untold [] = refl
all_untold (o ∷ vms) = ap (λ xs. None ∷ xs) (all_untold vms)

pub told_none : (c : Config) (s : Site) → IsSound c s → replicate VM_NUMBERS None ≡ told_to 0 s.vms
told_none c s sound = ap (λ k. replicate k None) (sym sound.vms) ∙ all_untold s.vms

-- of no machine nothing is told
none_left : (vms : List (Option Vm)) → ((m : ℕ) → get_or vms m None ≡ None) → map untold vms ≡ map told vms
none_left [] past = refl
none_left (o ∷ vms) past = ap (λ (p : Option Vm). told p ∷ map untold vms) (sym (past 0)) ∙ ap (λ xs. told o ∷ xs) (none_left vms (λ m. past (suc m)))

told_to_last : (n : ℕ) (vms : List (Option Vm)) → ((m : ℕ) → n ≤ m → get_or vms m None ≡ None) → told_to n vms ≡ map told vms
told_to_last zero vms past = none_left vms (λ m. past m (omega arith))
told_to_last (suc n) [] past = refl
told_to_last (suc n) (o ∷ vms) past = ap (λ xs. told o ∷ xs) (told_to_last n vms (λ m behind. past (suc m) (omega (arith, behind))))

pub told_all : (s : Site) (n : ℕ) (all : List (Option Figures)) → ((m : ℕ) → n ≤ m → vm_at s m ≡ None) → all ≡ told_to n s.vms → all ≡ all_figures s
told_all s n all past is = is ∙ told_to_last n s.vms past

-- behind the last machine
pub blank_at : (k n : ℕ) → get_or {A = Option Figures} (replicate k None) n None ≡ None
blank_at zero n = refl
blank_at (suc k) zero = refl
blank_at (suc k) (suc n) = blank_at k n
