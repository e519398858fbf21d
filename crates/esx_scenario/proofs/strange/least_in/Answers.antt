use Rattle.std.proofs.Common.{◌≡◌, ◌∷◌, sym, ap, ◌∙◌, arith, option_map, string_bytes, fold}
use Rattle.std.proofs.lemmas.Grind.{common_steps}
use Rattle.toml.proofs.Views.{Entry}
use Rattle.esx_scenario.specs.Strange.{is_known, lesser, strange_in}
use Rattle.toml.specs.View.{members_view}
use Rattle.esx_scenario.proofs.StrangeLemmas.{known_step, strange_step, none_step}
use Rattle.esx_scenario.proofs.strange.least_in.Goals as goal

pub members-preserved-then-not-knows : goal.members-preserved-then-not-knows
members-preserved-then-not-knows c =
    let e : Entry = (c.in-Some.key.now, c.in-Some.field-0-1.now) in
    let iter : c.members.key-iterator ≡ e ∷ c.next.new.self = grind (arith, common_steps) in
    c.members.invariant ∙ strange_step c.args.version c.args.place c.args.prefix.now (option_map string_bytes c.members.least) c.members.key-iterator c.next.new.self e iter
    (ap (is_known c.args.version c.args.place) (sym c.as_str.ensures.value) ∙ sym c.if-not-knows.ensures)
    ∙ ap (λ best. fold lesser best (strange_in c.args.version c.args.place c.args.prefix.now (members_view c.next.new.self)))
    (ap (lesser (option_map string_bytes c.members.least)) (sym c.in_ok-path.ensures.ok) ∙ sym c.lesser_path-least.ensures)

pub members-preserved : goal.members-preserved
members-preserved c =
    let e : Entry = (c.in-Some.key.now, c.in-Some.field-0-1.now) in
    let iter : c.members.key-iterator ≡ e ∷ c.next.new.self = grind (arith, common_steps) in
    c.members.invariant ∙ known_step c.args.version c.args.place c.args.prefix.now (option_map string_bytes c.members.least) c.members.key-iterator c.next.new.self e iter
    (ap (is_known c.args.version c.args.place) (sym c.as_str.ensures.value) ∙ sym c.if-not-knows.ensures)

pub returns : goal.returns
returns c = sym (c.members.invariant ∙ none_step _ _ _ _ _ c.in-None.ensures.steps.0)
