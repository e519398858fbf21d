use Rattle.std.proofs.Common.{◌≡◌, ◌∙◌, refl, sym, subst, rules}
use Rattle.esx_types.specs.Ranges.{IsConfig}
use Rattle.esx_types.specs.declared.config.Config.{Config}
use Rattle.esx_types.specs.declared.level.Level.TheVariants.{High}
use Rattle.esx_model.specs.Replay.{opening}
use Rattle.esx_model.specs.Tables.{tables_of}
use Rattle.esx_model.proofs.Callers.{opening_sound}
use Rattle.esx_machine.specs.Machine.{Kept, Shows}
use Rattle.esx_machine.proofs.machine.Machine.open.Goals as goal

pub invariant_of-result : goal.invariant_of-result
invariant_of-result c =
    let config = c.of.result in
    let fine : IsConfig c.args.config = search (rules, c.in-Ok.ensures.ok) in
    let good : IsConfig config = subst IsConfig (sym (c.of.ensures ∙ c.in-Ok.ensures.same)) fine in
    let shows = subst (λ (x : Config). c.in_ok-tables.tables ≡ tables_of x (opening x).site) (sym c.of.ensures) c.in_ok-tables.ensures.shows in
    record { config = good; site = (opening config).site; sound = opening_sound config good; shows = shows }

pub returns-clause-shows : goal.returns-clause-shows
returns-clause-shows c =
    let config = c.of.result in
    let same : config ≡ c.args.config = c.of.ensures ∙ c.in-Ok.ensures.same in
    let fine : IsConfig c.args.config = search (rules, c.in-Ok.ensures.ok) in
    let good : IsConfig config = subst IsConfig (sym same) fine in
    let shows = subst (λ (x : Config). c.in_ok-tables.tables ≡ tables_of x (opening x).site) (sym c.of.ensures) c.in_ok-tables.ensures.shows in
    let k : Kept = record { config = config; level = High; tables = c.in_ok-tables.tables } in
    let P : Config → Type 0 = λ x. Shows k (opening x) in
    (same, subst P same (record { sound = opening_sound config good; tables = shows; level = refl }))
