use Rattle.std.proofs.Common.{sym, ap, ◌∙◌, Option}
use Rattle.esx_model.specs.declared.scene.Vm.{Vm}
use Rattle.esx_model.specs.declared.scene.Site.{Site}
use Rattle.esx_model.specs.Site.{vm_at}
use Rattle.esx_model.specs.Hints.{placed}
use Rattle.esx_steps.proofs.Chained.{counts_fit}
use Rattle.esx_steps.proofs.event.access.after_access.Goals as goal

pub counted-requires-clause-least : goal.counted-requires-clause-least
counted-requires-clause-least c = λ v p there seen.
    let at : Site → Option Vm = λ t. vm_at t c.args.number in
    (counts_fit c.args.config.now c.args.site c.args.number c.args.page c.args.place c.requires.sound c.requires.number v p
    (sym (ap at (c.in_ok-site.ensures.value ∙ ap (λ t. placed t c.args.number c.args.page c.args.place) c.popped-site.ensures.value)) ∙ there) seen).0

pub counted-requires-clause-most : goal.counted-requires-clause-most
counted-requires-clause-most c = λ v p there seen.
    let at : Site → Option Vm = λ t. vm_at t c.args.number in
    (counts_fit c.args.config.now c.args.site c.args.number c.args.page c.args.place c.requires.sound c.requires.number v p
    (sym (ap at (c.in_ok-site.ensures.value ∙ ap (λ t. placed t c.args.number c.args.page c.args.place) c.popped-site.ensures.value)) ∙ there) seen).1
