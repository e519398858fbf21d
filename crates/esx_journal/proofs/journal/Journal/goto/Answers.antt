use Rattle.std.proofs.Common.{◌≡◌, ◌<◌, ◌∙◌, true, sym, subst, arith, refl, ℕ, ◌-◌}
use Rattle.esx_model.specs.History.{jumped}
use Rattle.esx_model.specs.Branching.{stands, gone_to}
use Rattle.esx_journal.specs.Journal.{Aims, Holds}
use Rattle.esx_journal.specs.Turns.{above}
use Rattle.esx_journal.specs.Ways.{downs}
use Rattle.esx_journal.proofs.Moves.{holds_jumped}
use Rattle.esx_journal.proofs.Sinking.{sunk, sinks_to, sinks_on, sunk_home, goto_none, goto_some}
use Rattle.esx_journal.proofs.journal.Journal.goto.Goals as goal

pub returns-then-not-stands : goal.returns-then-not-stands
returns-then-not-stands c = λ h holds. record { same = refl; why = goto_none c.args.node h (sym (c.stands.ensures.told h h.walk holds) ∙ c.if-not-stands.true) }

pub climb-down-requires : goal.climb-down-requires
climb-down-requires c = c.stands.ensures.within c.if-not-stands.false

pub descend-init : goal.descend-init
unfolding downs
descend-init c = λ h d up fits. d.holds

pub descend-preserved : goal.descend-preserved
descend-preserved c = λ h d up fits.
    let less : c.descend._gone < c.climb-down.result = omega arith in
    let now = c.descend.invariant h d up fits in
    let w = sunk h c.args.node c.climb-down.new.self c.climb-down.result d c.descend._gone in
    let i : ℕ = c.climb-down.result - c.descend._gone - 1 in
    sinks_on h c.args.node c.climb-down.new.self c.step_down.new.self c.climb-down.result c.descend._gone d less
    (c.step_down.ensures w d.aim (above h.nodes i c.args.node) now (sinks_to h c.args.node c.climb-down.new.self c.descend.self c.climb-down.result c.descend._gone d up fits less now))

pub returns : goal.returns
returns c = λ h holds.
    let all : c.descend._gone ≡ c.climb-down.result = omega arith in
    let up : stands h c.args.node ≡ true = sym (c.stands.ensures.told h h.walk holds) ∙ c.if-not-stands.false in
    let within = c.stands.ensures.within c.if-not-stands.false in
    let size = holds.size in
    let d = c.climb-down.ensures h holds in
    let P : ℕ → Type 0 = λ k. Aims c.descend.self (sunk h c.args.node c.climb-down.new.self c.climb-down.result d k) d.aim in
    let home : Holds c.descend.self (jumped (gone_to c.args.node h))
    = holds_jumped c.descend.self (gone_to c.args.node h) (sunk_home h c.args.node c.climb-down.new.self c.descend.self c.climb-down.result d (subst P all (c.descend.invariant h d up (omega arith)))) in
    record { after = jumped (gone_to c.args.node h); gives = goto_some c.args.node h up; holds = home; stands = c.stand.ensures (jumped (gone_to c.args.node h)) home }
