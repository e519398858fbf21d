use Rattle.std.proofs.Common.{[], ◌∷◌, decimal, codes}
use Rattle.esx_reading.proofs.FieldLemmas.{after_two}
use Rattle.esx_session.proofs.SiteLemmas.{small_site, after_six}
use Rattle.esx_session.proofs.site.numbers.Goals as goal

pub returns-in_err-high-clause-none : goal.returns-in_err-high-clause-none
returns-in_err-high-clause-none c = rw c.from_residual-in_err-high.ensures
    (λ site r is.
    let s = small_site site r in
    let behind_sizes = after_six _ _ _ _ _ _ _ _ _ _ _ _ _ _ _ c.in_ok-frames.ensures.some is in
    let behind_tau = after_two _ _ _ _ _ _ _ c.in_ok-tau.ensures.some behind_sizes in
    c.in_err-high.ensures.none site.high site.soft site.hard site.low (codes "nodes" ∷ decimal site.nodes ∷ []) s.high s.soft s.hard s.low behind_tau)
