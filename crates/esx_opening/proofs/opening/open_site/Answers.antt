use Rattle.std.proofs.Common.{◌≡◌, ◌∙◌, List, map, ap, subst}
use Rattle.std.specs.List.{flat_map}
use Rattle.std.specs.Borrow.{Bor}
use Rattle.esx_events.specs.declared.event.Event.{Event}
use Rattle.esx_types.specs.declared.config.Config.{Config}
use Rattle.esx_model.specs.Console.{Session}
use Rattle.esx_console.specs.Calls.{opened_session}
use Rattle.esx_scenario.specs.declared.plan.Guest.{Guest}
use Rattle.esx_opening.specs.Orders.{in_order}
use Rattle.esx_opening.specs.Openings.{admit_of, starts_of, AreAccepted, IsRefusedAt}
use Rattle.esx_opening.proofs.InTurn.{accepted_on, refused_on, refused_more, handed_on, behind}
use Rattle.esx_opening.proofs.opening.open_site.Goals as goal

pub returns-in_err-admit_all-clause-refused : goal.returns-in_err-admit_all-clause-refused
returns-in_err-admit_all-clause-refused c =
    let gs : List Guest = in_order c.args.scenario.now.guests in
    let refs : List (Bor Guest) = c.deref.result.now in
    let opened : c.in-Ok.console ≡ opened_session c.args.scenario.now.site = c.in-Ok.ensures.opens.0 ∙ ap (λ (site : Config). opened_session site) c.config.ensures.same in
    let order : map (λ (g : Bor Guest). g.now) refs ≡ gs = ap (λ (l : List (Bor Guest)). map (λ (g : Bor Guest). g.now) l) c.deref.ensures.value ∙ (c.in_ok-guests.ensures.items ∙ ap in_order c.guests.ensures.same) in
    handed_on c.from_residual-in_err-admit_all.result c.in_err-admit_all.field-0.0 _ c.from_residual-in_err-admit_all.ensures.1
    (λ e is. refused_more (flat_map admit_of gs) (flat_map starts_of gs) (opened_session c.args.scenario.now.site) e
    (subst (λ (s : Session). IsRefusedAt (flat_map admit_of gs) s e) opened (subst (λ (l : List Event). IsRefusedAt l c.in-Ok.console e) (behind admit_of refs gs order) (c.in_err-admit_all.ensures.refused e is).0)))

pub returns-in_err-start_all-clause-refused : goal.returns-in_err-start_all-clause-refused
returns-in_err-start_all-clause-refused c =
    let gs : List Guest = in_order c.args.scenario.now.guests in
    let refs : List (Bor Guest) = c.deref.result.now in
    let later : List (Bor Guest) = c.deref-2.result.now in
    let opened : c.in-Ok.console ≡ opened_session c.args.scenario.now.site = c.in-Ok.ensures.opens.0 ∙ ap (λ (site : Config). opened_session site) c.config.ensures.same in
    let order : map (λ (g : Bor Guest). g.now) refs ≡ gs = ap (λ (l : List (Bor Guest)). map (λ (g : Bor Guest). g.now) l) c.deref.ensures.value ∙ (c.in_ok-guests.ensures.items ∙ ap in_order c.guests.ensures.same) in
    let again : map (λ (g : Bor Guest). g.now) later ≡ gs = ap (λ (l : List (Bor Guest)). map (λ (g : Bor Guest). g.now) l) c.deref-2.ensures.value ∙ (c.in_ok-guests.ensures.items ∙ ap in_order c.guests.ensures.same) in
    let admitted : AreAccepted (flat_map admit_of gs) (opened_session c.args.scenario.now.site) c.admit_all.new.console =
    subst (λ (s : Session). AreAccepted (flat_map admit_of gs) s c.admit_all.new.console) opened (subst (λ (l : List Event). AreAccepted l c.in-Ok.console c.admit_all.new.console) (behind admit_of refs gs order) c.in_ok-admit_all.ensures.ok) in
    handed_on c.from_residual-in_err-start_all.result c.in_err-start_all.field-0.0 _ c.from_residual-in_err-start_all.ensures.1
    (λ e is. refused_on (flat_map admit_of gs) (flat_map starts_of gs) (opened_session c.args.scenario.now.site) c.admit_all.new.console e admitted
    (subst (λ (l : List Event). IsRefusedAt l c.admit_all.new.console e) (behind starts_of later gs again) (c.in_err-start_all.ensures.refused e is).0))

pub returns-clause-ok : goal.returns-clause-ok
returns-clause-ok c =
    let gs : List Guest = in_order c.args.scenario.now.guests in
    let refs : List (Bor Guest) = c.deref.result.now in
    let later : List (Bor Guest) = c.deref-2.result.now in
    let opened : c.in-Ok.console ≡ opened_session c.args.scenario.now.site = c.in-Ok.ensures.opens.0 ∙ ap (λ (site : Config). opened_session site) c.config.ensures.same in
    let order : map (λ (g : Bor Guest). g.now) refs ≡ gs = ap (λ (l : List (Bor Guest)). map (λ (g : Bor Guest). g.now) l) c.deref.ensures.value ∙ (c.in_ok-guests.ensures.items ∙ ap in_order c.guests.ensures.same) in
    let again : map (λ (g : Bor Guest). g.now) later ≡ gs = ap (λ (l : List (Bor Guest)). map (λ (g : Bor Guest). g.now) l) c.deref-2.ensures.value ∙ (c.in_ok-guests.ensures.items ∙ ap in_order c.guests.ensures.same) in
    let admitted : AreAccepted (flat_map admit_of gs) (opened_session c.args.scenario.now.site) c.admit_all.new.console =
    subst (λ (s : Session). AreAccepted (flat_map admit_of gs) s c.admit_all.new.console) opened (subst (λ (l : List Event). AreAccepted l c.in-Ok.console c.admit_all.new.console) (behind admit_of refs gs order) c.in_ok-admit_all.ensures.ok) in
    rw c.make_room.ensures (accepted_on (flat_map admit_of gs) (flat_map starts_of gs) (opened_session c.args.scenario.now.site) c.admit_all.new.console c.start_all.new.console admitted
    (subst (λ (l : List Event). AreAccepted l c.admit_all.new.console c.start_all.new.console) (behind starts_of later gs again) c.in_ok-start_all.ensures.ok))
