-- Every command stands in the list of commands, and has few operands.
use Rattle.std.proofs.Common.{◌≡◌, ◌<◌, ◌≤◌, ◌-◌, ℕ, zero, suc, List, length, get_or, replicate, decimal, refl, sym, ap, ◌∙◌, arith, Option, Some, None, Bool, IsTrue, ◌↔◌}
use Rattle.std.proofs.Common.{true, false, nat_eq, bytes_eq}
use Rattle.std.specs.List.{slice_get, list_all, position_or_len}
use Rattle.std.proofs.lemmas.List.Folds.{list_all_at}
use Rattle.std.proofs.lemmas.Bool.Decides.{nat_tests}
use Rattle.std.specs.Borrow.{Bor}
use Rattle.std.specs.Slice.{IsItemAt}
use Rattle.std.specs.Option.{option_copied}
use Rattle.std.proofs.lemmas.Option.{slice_get_past, slice_get_read}
use Rattle.std.proofs.lemmas.List.{get_or_default}
use Rattle.esx_explained.specs.declared.command.Command.{Command}
use Rattle.esx_explained.specs.declared.command.Command.TheVariants as command
use Rattle.esx_explained.specs.declared.command.TheConstants.{COMMANDS}
use Rattle.esx_explained.specs.declared.operand.Operand.{Operand}
use Rattle.esx_explained.specs.declared.operand.Operand.TheVariants.{Vm, Page, At, Len, Bytes, Min, Max, Overhead, Shares, Balloon, Tau, Length, Draw, Count, Steps, Label}
use Rattle.esx_explained.specs.declared.operand.TheConstants.{MOST_WORDS}
use Rattle.esx_explained.specs.Words.{command_word}
use Rattle.esx_explained.specs.Operands.{kind_of, IsValueWord, operands_of}

-- at which place a command stands
abbrev pub place_of : Command → ℕ
place_of command.Admit = 0
place_of command.Start = 1
place_of command.Ask = 2
place_of command.Stop = 3
place_of command.Gone = 4
place_of command.Lend = 5
place_of command.TakeBack = 6
place_of command.Scan = 7
place_of command.DropPage = 8
place_of command.Shares = 9
place_of command.VmTax = 10
place_of command.Read = 11
place_of command.Write = 12
place_of command.Sample = 13
place_of command.Rebalance = 14
place_of command.SwapOut = 15
place_of command.Replace = 16
place_of command.Tax = 17
place_of command.Undo = 18
place_of command.Redo = 19
place_of command.Goto = 20
place_of command.Prune = 21
place_of command.Visit = 22
place_of command.Mark = 23
place_of command.Sum = 24
place_of command.Table = 25
place_of command.Stand = 26
place_of command.Marks = 27
place_of command.OfVm = 28
place_of command.OfPage = 29
place_of command.Advise = 30
place_of command.WhatIf = 31
place_of command.Session = 32
place_of command.Order = 33
place_of command.PageOut = 34

pub stands : (c d : Command) → get_or COMMANDS (place_of c) d ≡ c
stands command.Admit d = refl
stands command.Start d = refl
stands command.Ask d = refl
stands command.Stop d = refl
stands command.Gone d = refl
stands command.Lend d = refl
stands command.TakeBack d = refl
stands command.Scan d = refl
stands command.DropPage d = refl
stands command.Shares d = refl
stands command.VmTax d = refl
stands command.Read d = refl
stands command.Write d = refl
stands command.Sample d = refl
stands command.Rebalance d = refl
stands command.SwapOut d = refl
stands command.Replace d = refl
stands command.Tax d = refl
stands command.Undo d = refl
stands command.Redo d = refl
stands command.Goto d = refl
stands command.Prune d = refl
stands command.Visit d = refl
stands command.Mark d = refl
stands command.Sum d = refl
stands command.Table d = refl
stands command.Stand d = refl
stands command.Marks d = refl
stands command.OfVm d = refl
stands command.OfPage d = refl
stands command.Advise d = refl
stands command.WhatIf d = refl
stands command.Session d = refl
stands command.Order d = refl
stands command.PageOut d = refl

pub within : (c : Command) → place_of c < 35
within command.Admit = omega arith
within command.Start = omega arith
within command.Ask = omega arith
within command.Stop = omega arith
within command.Gone = omega arith
within command.Lend = omega arith
within command.TakeBack = omega arith
within command.Scan = omega arith
within command.DropPage = omega arith
within command.Shares = omega arith
within command.VmTax = omega arith
within command.Read = omega arith
within command.Write = omega arith
within command.Sample = omega arith
within command.Rebalance = omega arith
within command.SwapOut = omega arith
within command.Replace = omega arith
within command.Tax = omega arith
within command.Undo = omega arith
within command.Redo = omega arith
within command.Goto = omega arith
within command.Prune = omega arith
within command.Visit = omega arith
within command.Mark = omega arith
within command.Sum = omega arith
within command.Table = omega arith
within command.Stand = omega arith
within command.Marks = omega arith
within command.OfVm = omega arith
within command.OfPage = omega arith
within command.Advise = omega arith
within command.WhatIf = omega arith
within command.Session = omega arith
within command.Order = omega arith
within command.PageOut = omega arith

-- an operand that is none of these is a number
pub other_operand : (o : Operand) (word : List ℕ) (b : Bool) → (o ≡ Vm → ⊥) → (o ≡ Draw → ⊥) → (o ≡ Bytes → ⊥) → (o ≡ Label → ⊥)
    → (IsTrue b ↔ ((n : ℕ) × (n < 4294967296) × (word ≡ decimal n))) → IsTrue b ↔ IsValueWord (kind_of o) word
other_operand Vm word test v d b l h = absurd (v refl)
other_operand Page word test v d b l h = h
other_operand At word test v d b l h = h
other_operand Len word test v d b l h = h
other_operand Bytes word test v d b l h = absurd (b refl)
other_operand Min word test v d b l h = h
other_operand Max word test v d b l h = h
other_operand Overhead word test v d b l h = h
other_operand Shares word test v d b l h = h
other_operand Balloon word test v d b l h = h
other_operand Tau word test v d b l h = h
other_operand Length word test v d b l h = h
other_operand Draw word test v d b l h = absurd (d refl)
other_operand Count word test v d b l h = h
other_operand Steps word test v d b l h = h
other_operand Label word test v d b l h = absurd (l refl)

-- the words of a sample
pub drawn_at : (n i : ℕ) → i < n → slice_get (replicate n Draw) i ≡ Some Draw
drawn_at zero i lt = absurd (omega arith)
drawn_at (suc n) zero lt = refl
drawn_at (suc n) (suc i) lt = drawn_at n i (omega arith)

pub none_drawn_at : (n i : ℕ) → n ≤ i → slice_get (replicate n Draw) i ≡ None
none_drawn_at zero i le = refl
none_drawn_at (suc n) zero le = absurd (omega arith)
none_drawn_at (suc n) (suc i) le = none_drawn_at n i (omega arith)

sample_behind : (i k : ℕ) → i ≡ suc (suc k) → slice_get (operands_of command.Sample) i ≡ slice_get (replicate MOST_WORDS Draw) k
sample_behind i k e = ap (λ (n : ℕ). slice_get (operands_of command.Sample) n) e

pub sample_draws : (i : ℕ) → 2 ≤ i → i - 2 < MOST_WORDS → Some Draw ≡ slice_get (operands_of command.Sample) i
sample_draws i ge lt = let e : i ≡ suc (suc (i - 2)) = omega arith in sym (sample_behind i (i - 2) e ∙ drawn_at MOST_WORDS (i - 2) lt)

pub sample_ends : (i : ℕ) → 2 ≤ i → MOST_WORDS ≤ i - 2 → None ≡ slice_get (operands_of command.Sample) i
sample_ends i ge le = let e : i ≡ suc (suc (i - 2)) = omega arith in sym (sample_behind i (i - 2) e ∙ none_drawn_at MOST_WORDS (i - 2) le)

-- what a read of a list gives
pub got : (r : Option (Bor Operand)) (xs : List Operand) (i : ℕ) → IsItemAt xs i r → option_copied r ≡ slice_get xs i
got None xs i h = sym (slice_get_past xs i h.3)
got (Some x) xs i h = sym (slice_get_read xs (length xs) i x.now refl h.3.0 h.1)

-- the word of the command at a place
pub word_at : (i k : ℕ) (d : Command) → i < 35 → k ≡ i → command_word (get_or COMMANDS i command.Admit) ≡ command_word (get_or COMMANDS k d)
word_at i k d lt e =
    let inside : i < length COMMANDS = lt in
    ap command_word (get_or_default COMMANDS i command.Admit d inside ∙ ap (λ (n : ℕ). get_or COMMANDS n d) (sym e))

-- the place of the first command that begins with a word
abbrev place_of_word : List ℕ → ℕ
place_of_word word = position_or_len (λ c. bytes_eq (command_word c) word) COMMANDS

place_by : (c : Command) (b : Bool) → nat_eq (place_of_word (command_word c)) (place_of c) ≡ b → place_of_word (command_word c) ≡ place_of c
place_by c true e = grind (arith, nat_tests)
place_by c false e =
    let test : Command → Bool = λ d. nat_eq (place_of_word (command_word d)) (place_of d) in
    let all : list_all test COMMANDS ≡ true = refl in
    let one = list_all_at test COMMANDS (place_of c) c (within c) (ap test (stands c c) ∙ e) in
    absurd cc

-- no two commands have one word
pub one_command : (c d : Command) → command_word c ≡ command_word d → c ≡ d
one_command c d e =
    let first = place_by c (nat_eq (place_of_word (command_word c)) (place_of c)) refl in
    let second = place_by d (nat_eq (place_of_word (command_word d)) (place_of d)) refl in
    let same : place_of c ≡ place_of d = sym first ∙ (ap place_of_word e ∙ second) in
    sym (stands c c) ∙ (ap (λ (n : ℕ). get_or COMMANDS n c) same ∙ stands d c)
