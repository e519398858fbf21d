use Rattle.std.proofs.Common.{◌≡◌, ◌+◌, ◌≤◌, length, ap, ◌∙◌, arith, length-append}
use Rattle.esx_told.proofs.LineLemmas.{few_digits, fits_byte}
use Rattle.esx_told.proofs.spelled.push_call.Goals as goal
use Rattle.esx_told.proofs.spelled.push_call.Goals.{then-spelled-gt-MOST+in_ok-append_held+in_ok-extend_from_slice, else-spelled-gt-MOST}

pub push-requires : goal.push-requires
push-requires c =
    let few = few_digits c.push_number.new.self c.args.held.now c.from.result c.args.caller c.push_number.ensures c.requires c.from.ensures c.ranges.caller.fits in
    omega (arith, few)

pub push-requires-else-spelled-gt-MOST : goal.push-requires-else-spelled-gt-MOST
push-requires-else-spelled-gt-MOST c =
    let few = few_digits c.push_number.new.self c.args.held.now c.from.result c.args.caller c.push_number.ensures c.requires c.from.ensures c.ranges.caller.fits in
    let fits = fits_byte c.push.new.self c.push_number.new.self 32 c.push.ensures few in
    grind (arith, fits)

pub push-requires-2 : goal.push-requires-2
push-requires-2 c =
    let few = few_digits c.push_number.new.self c.args.held.now c.from.result c.args.caller c.push_number.ensures c.requires c.from.ensures c.ranges.caller.fits in
    let fits = fits_byte c.push.new.self c.push_number.new.self 32 c.push.ensures few in
    elim c.if-spelled-gt-MOST.branch [
      | then-spelled-gt-MOST+in_ok-append_held+in_ok-extend_from_slice w ↦
          let none : length c.if-spelled-gt-MOST.held ≡ 0 = ap length (w.held-is ∙ w.append_held.ensures.empty) in
          omega (arith, none)
      | else-spelled-gt-MOST w ↦
          let held : length c.if-spelled-gt-MOST.held ≡ length c.push.new.self + length c.args.spelled.now = ap length (w.held-is ∙ w.push-else-spelled-gt-MOST.ensures) ∙ length-append c.push.new.self c.args.spelled.now in
          let short = w.if-spelled-gt-MOST in
          grind (arith, fits, held, short)
    ]
