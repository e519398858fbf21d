use Rattle.std.proofs.Common.{◌≡◌, ◌∷◌, ◌∙◌, ap}
use Rattle.std.specs.Str.Lines.{lines}
use Rattle.std.proofs.lemmas.Result.{err_from_is_err_and}
use Rattle.esx_reading.specs.Fields.{joined}
use Rattle.esx_session.specs.Sessions.{head_line, site_words}
use Rattle.esx_session.specs.Reading.{Reader, AreRead}
use Rattle.esx_session.proofs.StopLemmas.{no_session, reads_calls}
use Rattle.esx_session.proofs.calls.Calls.next.Goals as goal

pub returns-in_err-entry-clause-only : goal.returns-in_err-entry-clause-only
returns-in_err-entry-clause-only c = λ text site done follows.
    let p = err_from_is_err_and c.from_residual.result c.from_residual.ensures.1 in
    let place = c.ahead-ahead.ensures.value ∙ ap (λ (r : Reader). r.at) c.self.view_is in
    let count = ap (λ (r : Reader). r.count) c.self.view_is ∙ follows.count in
    let version = ap (λ (r : Reader). r.version) c.self.view_is in
    let read : AreRead c.self.inside.version follows.start c.ahead-ahead.result done = rw (version, place) follows.read in
    let opening : lines text ≡ head_line c.self.inside.version ∷ joined (site_words site) ∷ follows.start.left = rw version follows.opening in
    rw (p.1, p.2) (no_session c.self.inside.version c.in_err-entry.field-0.0 text site follows.start follows.range opening follows.passed (c.in_err-entry.ensures.only follows.start done read count))

pub returns-in_default-clause-none : goal.returns-in_default-clause-none
returns-in_default-clause-none c = λ text site done follows.
    let place = c.ahead-ahead.ensures.value ∙ ap (λ (r : Reader). r.at) c.self.view_is in
    let count = ap (λ (r : Reader). r.count) c.self.view_is ∙ follows.count in
    let version = ap (λ (r : Reader). r.version) c.self.view_is in
    let read : AreRead c.self.inside.version follows.start c.ahead-ahead.result done = rw (version, place) follows.read in
    let opening : lines text ≡ head_line c.self.inside.version ∷ joined (site_words site) ∷ follows.start.left = rw version follows.opening in
    reads_calls c.self.inside.version text site follows.start.left done follows.range opening (rw c.in_default.is at (c.in_ok-entry.ensures.none follows.start done read count))

pub returns-in_err-entry-clause-memory : goal.returns-in_err-entry-clause-memory
returns-in_err-entry-clause-memory c = λ wants.
    let p = err_from_is_err_and c.from_residual.result c.from_residual.ensures.1 in
    let place = c.ahead-ahead.ensures.value ∙ ap (λ (r : Reader). r.at) c.self.view_is in
    let count = ap (λ (r : Reader). r.count) c.self.view_is in
    rw (count, place) at (c.in_err-entry.ensures.memory (rw (p.1, p.2) at wants))

pub returns-in_err-entry-clause-near : goal.returns-in_err-entry-clause-near
returns-in_err-entry-clause-near c = λ line is.
    let p = err_from_is_err_and c.from_residual.result c.from_residual.ensures.1 in
    let place = c.ahead-ahead.ensures.value ∙ ap (λ (r : Reader). r.at) c.self.view_is in
    rw place at (c.in_err-entry.ensures.near line (rw (p.1, p.2) at is))
