use Rattle.std.proofs.Common.{◌+◌, sym, ap, ◌∙◌, drop, fold, option_map, string_bytes}
use Rattle.toml.specs.View.{items_view, table_view}
use Rattle.esx_scenario.specs.declared.strange.Place.TheVariants.{Vm}
use Rattle.esx_scenario.specs.Strange.{lesser, strange_from, strange_in}
use Rattle.esx_scenario.proofs.strange.least_of_guests.Goals.{in-Some+in_ok-prefix+in_ok-least, in_default}
use Rattle.esx_scenario.proofs.GuestLemmas.{item_here, no_item_here}
use Rattle.esx_scenario.proofs.StrangeLemmas.{guest_step, skip_step, end_step}
use Rattle.esx_scenario.proofs.strange.least_of_guests.Goals as goal

pub loop-place-preserved : goal.loop-place-preserved
loop-place-preserved c =
    let here = item_here c.args.values.now c.loop-place.place c.index-values-place.result c.index-values-place.is c.loop-place-test.true in
    c.loop-place.invariant ∙ elim c.match-as_table.branch [
      | in-Some+in_ok-prefix+in_ok-least w ↦ guest_step c.args.version c.loop-place.place (option_map string_bytes c.loop-place.least) _ _ _ _ here w.in-Some.ensures
          ∙ ap (λ best. fold lesser best (strange_from c.args.version (c.loop-place.place + 1) (items_view (drop (c.loop-place.place + 1) c.args.values.now))))
          (ap (λ p. fold lesser (option_map string_bytes c.loop-place.least) (strange_in c.args.version Vm p (table_view w.in-Some.table.now))) (sym w.in_ok-prefix.ensures ∙ sym w.as_str.ensures.value)
          ∙ sym w.in_ok-least.ensures ∙ ap (option_map string_bytes) (sym w.least-is))
      | in_default w ↦ skip_step c.args.version c.loop-place.place (option_map string_bytes c.loop-place.least) _ _ _ here w.in_default.ensures
          ∙ ap (λ l. fold lesser (option_map string_bytes l) (strange_from c.args.version (c.loop-place.place + 1) (items_view (drop (c.loop-place.place + 1) c.args.values.now)))) (sym w.least-is)
    ]

pub returns : goal.returns
returns c = sym (c.loop-place.invariant ∙ end_step _ _ _ _ (no_item_here _ _ c.loop-place-test.false))
