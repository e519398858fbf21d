use Rattle.std.proofs.Common.{◌≡◌, ◌∙◌, ◌<◌, ℕ, true, subst, arith}
use Rattle.esx_events.specs.declared.call.Call.TheVariants.{Sum}
use Rattle.esx_types.specs.Ids.{has}
use Rattle.esx_model.specs.Console.{lined}
use Rattle.esx_lock.specs.Passes.{IsWhole}
use Rattle.esx_desk.specs.Legal.{session}
use Rattle.desk_tests.proofs.Popped.{one_popped}
use Rattle.desk_tests.proofs.plays.alone.Goals as goal

pub returns : goal.returns
returns g c =
    let all = c.in_ok-desk.ensures.passes in
    let pass = c.unwrap-pass.result in
    let opened = all.1 0 pass (one_popped c.in_ok-desk.passes.items c.pop.new.self.items c.pop.result pass c.pop.ensures.items c.unwrap-pass.ensures all.0) in
    let v = pass.view in
    let w = c.submit.new.pass.view in
    let whole : IsWhole v = λ k lt. (let zero_is : 0 ≡ k = (let below : k < 1 = subst (λ (n : ℕ). k < n) opened.1.3 lt in omega arith) in subst (λ (j : ℕ). has v.ids j ≡ true) zero_is opened.2) in
    let adds = c.in_ok-submit.ensures.ok in
    let made = c.whole_pass_has_a_console.ensures.line v w Sum c.in_ok-submit.field-0 whole adds in
    let closed : c.close.result ≡ session v.site w.seen = λ i. record { site = (c.close.ensures.0 ∙ c.in_ok-submit.ensures.kept.1.0) i; log = c.close.ensures.1 i } in
    closed ∙ (made ∙ (λ i. lined (record { site = opened.1.0 i; log = opened.1.1 i }) (opened.3 adds.caller adds.least.0 i) Sum))
