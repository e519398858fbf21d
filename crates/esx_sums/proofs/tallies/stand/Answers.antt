use Rattle.std.proofs.Common.{List, get_or, None, sym, ap, subst, ◌∙◌}
use Rattle.esx_sums.specs.declared.tally.Tally.{Tally}
use Rattle.esx_sums.specs.Few.{IsFew}
use Rattle.esx_sums.specs.Sums.{tally_in, stood_at}
use Rattle.esx_sums.proofs.Reading.{same_or, stood_none, stood_next, stood_front}
use Rattle.esx_sums.proofs.tallies.stand.Goals as goal

pub loop-at-init : goal.loop-at-init
loop-at-init c = sym (stood_none c.args.now.now)

pub stay-requires : goal.stay-requires
stay-requires c =
    let n = c.loop-at.at in
    let P : List Tally → Type 0 = λ ts. IsFew 4294967294 (tally_in ts n) in
    let Q : Tally → Type 0 = IsFew 4294967294 in
    subst P (sym c.loop-at.invariant) (subst Q (sym (stood_front c.args.now.now c.args.present.now n)) (c.requires n))

pub loop-at-preserved : goal.loop-at-preserved
loop-at-preserved c =
    let n = c.loop-at.at in
    let ps = c.args.present.now in
    c.stay.ensures ∙ ap (stood_at c.loop-at.now n) (same_or ps n _ None c.loop-at-test.true) ∙ ap (λ (ts : List Tally). stood_at ts n (get_or ps n None)) c.loop-at.invariant
    ∙ sym (stood_next c.args.now.now ps n c.loop-at-test.true)
