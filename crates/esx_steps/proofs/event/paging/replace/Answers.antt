use Rattle.std.proofs.Common.{◌≡◌, false, Some, sym, ap, ◌∙◌, arith, rules}
use Rattle.std.specs.List.{list_any}
use Rattle.esx_types.specs.declared.vm.VmState.TheVariants.{Running}
use Rattle.esx_model.specs.Places.{is_here}
use Rattle.esx_model.specs.Site.{vm_at, place_at, free_count}
use Rattle.esx_model.specs.event.Paging.{is_above_min}
use Rattle.esx_steps.proofs.Late.{replace_late}
use Rattle.esx_steps.proofs.event.paging.replace.Goals as goal

pub returns-in_err-other : goal.returns-in_err-other
returns-in_err-other c =
    let row = c.in-Some.row.now in
    let there : vm_at c.args.site c.args.vm ≡ Some row = cc (c.in-Some.ensures.value, c.from-number.ensures, c.number.ensures.value) in
    let runs : row.state ≡ Running = search rules in
    let away : is_here (place_at row c.args.page) ≡ false = ap is_here c.place_at-place.ensures ∙ sym c.is_in_frame.ensures ∙ c.if-is_in_frame.false in
    let none : free_count c.args.config.now.frames c.args.site ≡ 0 = omega (arith, c.if-free_count-gt0.false, c.free_count.ensures.value) in
    let few : list_any is_above_min c.args.site.vms ≡ false = sym c.any_above_min.ensures ∙ c.if-any_above_min.false in
    let late = replace_late c.args.config.now c.args.site c.args.vm c.args.page c.args.word row c.requires there runs c.if-row-page.false away none few in
    search rules

pub returns-in_err-bytes : goal.returns-in_err-bytes
returns-in_err-bytes c =
    let row = c.in-Some.row.now in
    let there : vm_at c.args.site c.args.vm ≡ Some row = cc (c.in-Some.ensures.value, c.from-number.ensures, c.number.ensures.value) in
    let runs : row.state ≡ Running = search rules in
    let away : is_here (place_at row c.args.page) ≡ false = ap is_here c.place_at-place.ensures ∙ sym c.is_in_frame.ensures ∙ c.if-is_in_frame.false in
    let none : free_count c.args.config.now.frames c.args.site ≡ 0 = omega (arith, c.if-free_count-gt0.false, c.free_count.ensures.value) in
    let few : list_any is_above_min c.args.site.vms ≡ false = sym c.any_above_min.ensures ∙ c.if-any_above_min.false in
    let late = replace_late c.args.config.now c.args.site c.args.vm c.args.page c.args.word row c.requires there runs c.if-row-page.false away none few in
    search rules
