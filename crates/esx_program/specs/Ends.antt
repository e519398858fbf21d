-- How the workers of a run ended, as a text.
use Rattle.std.specs.Prelude.{ℕ, List, [], ◌∷◌, ◌++◌, codes, decimal, map, flat_map}
use Rattle.std.specs.List.{zip}
use Rattle.esx_scenario.specs.declared.plan.Guest as scenario
use Rattle.esx_opening.specs.Orders.{in_order}
use Rattle.esx_workers.specs.declared.end.End.{End}
use Rattle.esx_workers.specs.declared.end.How.{How}
use Rattle.esx_workers.specs.declared.end.How.TheVariants.{Done, Turns, Rewound}
use Rattle.esx_program.specs.declared.ends.Name.{Name}
use Rattle.esx_program.specs.declared.ends.Name.TheVariants.{Guest, Sharer, Swapper, Policy}
use Rattle.esx_program.specs.declared.ends.Ending.{Ending}

abbrev pub how_text : How → List ℕ
how_text Done = codes "done"
how_text Turns = codes "turns"
how_text Rewound = codes "rewound"

abbrev pub name_text : Name → List ℕ
name_text (Guest vm) = codes "guest " ++ decimal vm
name_text Sharer = codes "sharer"
name_text Swapper = codes "swapper"
name_text Policy = codes "policy"

-- the line of a worker
abbrev pub ending_text : Ending → List ℕ
ending_text e = name_text e.name ++ (codes " " ++ (how_text e.how ++ codes "\n"))

-- the workers of these machines, and then those that there is one of
abbrev pub workers_named : List scenario.Guest → List Name
workers_named guests = map (λ g. Guest g.vm) guests ++ Sharer ∷ Swapper ∷ Policy ∷ []

abbrev pub ending : Name × End → Ending
ending (name, end) = record { name = name; how = end.how }

abbrev pub endings : List Name → List End → List Ending
endings names ends = map ending (zip names ends)

-- the ends of a scenario's workers, the guests in the order of their numbers
abbrev pub ends_text : List scenario.Guest → List End → List ℕ
ends_text guests ends = flat_map ending_text (endings (workers_named (in_order guests)) ends)
