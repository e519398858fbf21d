use Rattle.std.proofs.Common.{◌∙◌}
use Rattle.esx_average.specs.Means.{estimate}
use Rattle.esx_average.proofs.MeansLaws.{close-means_of}
use Rattle.esx_average.proofs.averages.Averages.close_period.Goals as goal

pub returns-clause-path : goal.returns-clause-path
returns-clause-path c =
    λ closed h.
    close-means_of c.self.inside.slow c.self.inside.fast c.touched_share-share.result closed (estimate c.args.touched c.args.pages)
    c.touched_share-share.ensures.value (c.self.view_is ∙ h)
