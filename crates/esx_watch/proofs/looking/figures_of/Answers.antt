use Rattle.esx_model.specs.Site.{vm_at}
use Rattle.esx_watch.proofs.Looks.{figures_told, nobody_told}
use Rattle.esx_watch.proofs.looking.figures_of.Goals as goal

pub returns-in-Some : goal.returns-in-Some
returns-in-Some c = λ scene shows is.
    figures_told (vm_at scene.site c.args.vm) c.in-Some.standing c.active_of.result c.args.shared (c.in-Some.ensures scene shows) (λ v there. c.active_of.ensures scene v shows there) is

pub returns-in-None : goal.returns-in-None
returns-in-None c = λ scene shows is. nobody_told (vm_at scene.site c.args.vm) (c.in-None.ensures scene shows)
