-- Worked examples of the taxed ratio and of targets.
use Rattle.std.specs.Prelude.{◌≡◌, ℕ, [], ◌∷◌, Option, Some, None, option_map}
use Rattle.std.proofs.Common.{refl}
use Rattle.esx_formulas.specs.declared.targets.Row.{Row}
use Rattle.esx_formulas.specs.Ratio.{Claim, claim}
use Rattle.esx_formulas.specs.Targets.{first_claim, after_revoking, targets_of}

row : ℕ → ℕ → ℕ → ℕ → ℕ → ℕ → Row
row tau vm shares pages floor active = record { vm = vm; shares = shares; pages = pages; floor = floor; active = active; tau = tau }

payer : Option Claim → Option ℕ
payer a = option_map (λ (c : Claim). c.vm) a

-- an idle machine pays before one with half its shares, and without a tax it does not
idle_pays : payer (first_claim (row 75 0 1000 10 1 0 ∷ row 75 1 500 10 1 65536 ∷ [])) ≡ Some 0
unfolding payer row first_claim
idle_pays = refl

untaxed : payer (first_claim (row 0 0 1000 10 1 0 ∷ row 0 1 500 10 1 65536 ∷ [])) ≡ Some 1
unfolding payer row first_claim
untaxed = refl

-- Each machine pays at its own tax. The idle one without a tax: 1000 * 100 over 10 pages at 6,553,600; the busy one at 75
-- percent: 500 * 25 over 10 pages at 1,638,400. Crosswise 1,638,400,000,000 is more than 819,200,000,000.
own_tax : payer (first_claim (row 0 0 1000 10 1 0 ∷ row 75 1 500 10 1 65536 ∷ [])) ≡ Some 1
unfolding payer row first_claim
own_tax = refl

own_claim : claim (row 75 1 500 10 1 65536) 10 ≡ record { vm = 1; over = 12500; under = 16384000 }
unfolding row
own_claim = refl

-- of equal ratios the lower machine's comes first
tie : payer (first_claim (row 75 3 1000 10 1 65536 ∷ row 75 5 2000 20 1 65536 ∷ [])) ≡ Some 3
unfolding payer row first_claim
tie = refl

at_their_floors : payer (first_claim (row 75 0 1000 2 2 0 ∷ row 75 1 1000 1 2 0 ∷ [])) ≡ None
unfolding payer row first_claim
at_their_floors = refl

few : targets_of (row 75 0 1000 10 2 65536 ∷ row 75 1 1000 6 2 65536 ∷ []) 5 ≡ 5 ∷ 6 ∷ []
unfolding row targets_of after_revoking first_claim
few = refl

all : targets_of (row 75 0 1000 10 2 65536 ∷ row 75 1 1000 6 2 65536 ∷ []) 100 ≡ 2 ∷ 2 ∷ []
unfolding row targets_of after_revoking first_claim
all = refl

-- a machine with fewer pages than its floor has its floor for a target
below : targets_of (row 75 0 1000 1 2 65536 ∷ []) 5 ≡ 2 ∷ []
unfolding row targets_of after_revoking first_claim
below = refl
