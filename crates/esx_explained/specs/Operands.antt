-- What stands behind the first word of each command.
use Rattle.std.specs.Prelude.{ℕ, ◌≡◌, nat_le, Bool, ◌&&◌, ◌||◌, List, [], ◌∷◌, length, replicate}
use Rattle.esx_words.specs.Kinds.{Kind, Value, IsValue, value_word}
use Rattle.esx_words.specs.Kinds.Kind.{Machine, Number, Word, Hex, Name}
use Rattle.esx_explained.specs.declared.command.Command.{Command}
use Rattle.esx_explained.specs.declared.command.Command.TheVariants as command
use Rattle.esx_explained.specs.declared.operand.Operand.{Operand}
use Rattle.esx_explained.specs.declared.operand.Operand.TheVariants.{Vm, Page, At, Len, Bytes, Min, Max, Overhead, Shares, Balloon, Tau, Length, Draw, Count, Steps, Label}
use Rattle.esx_explained.specs.declared.operand.TheConstants.{MOST_WORDS}

-- what an operand is
abbrev pub kind_of : Operand → Kind
kind_of Vm = Machine
kind_of Draw = Word
kind_of Bytes = Hex
kind_of Label = Name
kind_of o = Number

-- a digit in hex, in lower case
abbrev pub is_lower_digit : ℕ → Bool
is_lower_digit b = (nat_le 48 b && nat_le b 57) || (nat_le 97 b && nat_le b 102)

-- the word is that of a value of the kind
abbrev pub IsValueWord : Kind → List ℕ → Type 0
IsValueWord kind word = (x : Value kind) × IsValue kind x × (word ≡ value_word kind x)

-- the operands of a command in their order, as many as there may be; of events that are tried there are none
abbrev pub operands_of : Command → List Operand
operands_of command.Admit = Vm ∷ Min ∷ Max ∷ Overhead ∷ Shares ∷ Balloon ∷ Tau ∷ []
operands_of command.Start = Vm ∷ []
operands_of command.Ask = Vm ∷ []
operands_of command.Stop = Vm ∷ []
operands_of command.Gone = Vm ∷ []
operands_of command.Lend = Vm ∷ Page ∷ []
operands_of command.TakeBack = Vm ∷ Page ∷ []
operands_of command.Scan = Vm ∷ Page ∷ []
operands_of command.DropPage = Vm ∷ Page ∷ []
operands_of command.Shares = Vm ∷ Count ∷ []
operands_of command.VmTax = Vm ∷ Count ∷ []
operands_of command.Read = Vm ∷ Page ∷ At ∷ Len ∷ []
operands_of command.Write = Vm ∷ Page ∷ At ∷ Bytes ∷ []
operands_of command.Sample = Vm ∷ Length ∷ replicate MOST_WORDS Draw
operands_of command.Rebalance = []
operands_of command.SwapOut = Vm ∷ Draw ∷ []
operands_of command.Replace = Vm ∷ Page ∷ Draw ∷ []
operands_of command.Tax = Count ∷ []
operands_of command.Undo = Steps ∷ []
operands_of command.Redo = Steps ∷ []
operands_of command.Goto = Count ∷ []
operands_of command.Prune = Count ∷ []
operands_of command.Visit = Label ∷ []
operands_of command.Mark = Label ∷ []
operands_of command.Sum = []
operands_of command.Table = []
operands_of command.Stand = []
operands_of command.Marks = []
operands_of command.OfVm = Vm ∷ []
operands_of command.OfPage = Vm ∷ Page ∷ []
operands_of command.Advise = Vm ∷ Page ∷ []
operands_of command.WhatIf = []
operands_of command.Session = []
operands_of command.Order = []
operands_of command.PageOut = Vm ∷ Page ∷ []

-- how many of them there have to be
abbrev pub least_of : Command → ℕ
least_of command.Admit = 6
least_of command.Sample = 2
least_of c = length (operands_of c)
