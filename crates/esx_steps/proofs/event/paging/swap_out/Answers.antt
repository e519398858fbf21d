use Rattle.std.proofs.Common.{◌≡◌, ◌<◌, false, Some, sym, ◌∙◌, arith, rules}
use Rattle.esx_model.specs.Site.{vm_at, resident}
use Rattle.esx_model.specs.event.Outcome.{standing}
use Rattle.esx_model.specs.event.Paging.{is_too_early}
use Rattle.esx_steps.proofs.Late.{swap_out_late}
use Rattle.esx_steps.proofs.event.paging.swap_out.Goals as goal

pub returns-in_err-page : goal.returns-in_err-page
returns-in_err-page c =
    let row = c.in-Some.row.now in
    let there : vm_at c.args.site c.args.vm ≡ Some row = cc (c.in-Some.ensures.value, c.from-number.ensures, c.number.ensures.value) in
    let early : is_too_early c.args.level (standing row) ≡ false = sym c.is_too_early.ensures ∙ c.if-is_too_early.false in
    let above : row.target < resident row = omega (arith, c.if-resident-row.false, c.resident.ensures.value) in
    let late = swap_out_late c.args.config.now c.args.site c.args.level c.args.vm c.args.word row c.requires there early above in
    search rules

pub returns-in_err-bytes : goal.returns-in_err-bytes
returns-in_err-bytes c =
    let row = c.in-Some.row.now in
    let there : vm_at c.args.site c.args.vm ≡ Some row = cc (c.in-Some.ensures.value, c.from-number.ensures, c.number.ensures.value) in
    let early : is_too_early c.args.level (standing row) ≡ false = sym c.is_too_early.ensures ∙ c.if-is_too_early.false in
    let above : row.target < resident row = omega (arith, c.if-resident-row.false, c.resident.ensures.value) in
    let late = swap_out_late c.args.config.now c.args.site c.args.level c.args.vm c.args.word row c.requires there early above in
    search rules
