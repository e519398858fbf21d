-- Names of workers.
use Rattle.std.proofs.Common.{◌≡◌, ◌∙◌, ◌++◌, ◌∷◌, [], List, map, ap, refl, append_assoc}
use Rattle.std.specs.Borrow.{Bor}
use Rattle.esx_scenario.specs.declared.plan.Guest as scenario
use Rattle.esx_program.specs.declared.ends.Name.{Name}
use Rattle.esx_program.specs.declared.ends.Name.TheVariants.{Guest, Sharer, Swapper, Policy}
use Rattle.esx_program.specs.Ends.{workers_named}

lent_named : (lent : List (Bor scenario.Guest)) → map (λ (g : Bor scenario.Guest). Guest g.now.vm) lent ≡ map (λ (g : scenario.Guest). Guest g.vm) (map (λ (g : Bor scenario.Guest). g.now) lent)
lent_named [] = refl
lent_named (g ∷ gs) = ap (λ (v : List Name). Guest g.now.vm ∷ v) (lent_named gs)

-- names of machines that are lent, and then the three others, added one by one
pub all_named : (lent : List (Bor scenario.Guest)) (ordered : List scenario.Guest) (a b c d : List Name) → map (λ (g : Bor scenario.Guest). g.now) lent ≡ ordered
    → a ≡ map (λ (g : Bor scenario.Guest). Guest g.now.vm) lent → b ≡ a ++ Sharer ∷ [] → c ≡ b ++ Swapper ∷ [] → d ≡ c ++ Policy ∷ [] → d ≡ workers_named ordered
all_named lent ordered a b c d o n p q r =
    r ∙ (ap (λ (v : List Name). v ++ Policy ∷ []) q ∙ (append_assoc b (Swapper ∷ []) (Policy ∷ [])
    ∙ (ap (λ (v : List Name). v ++ (Swapper ∷ Policy ∷ [])) p ∙ (append_assoc a (Sharer ∷ []) (Swapper ∷ Policy ∷ [])
    ∙ ap (λ (v : List Name). v ++ (Sharer ∷ Swapper ∷ Policy ∷ [])) (n ∙ (lent_named lent ∙ ap (λ (gs : List scenario.Guest). map (λ (g : scenario.Guest). Guest g.vm) gs) o))))))
