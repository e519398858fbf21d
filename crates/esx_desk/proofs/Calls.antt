-- What a console's call leaves of a log.
use Rattle.std.proofs.Common.{◌≡◌, ℕ, List, [], ◌∷◌, ◌++◌, Result, Ok, Err, IfOk, OnErr, ap, sym, ◌∙◌}
use Rattle.esx_events.specs.declared.call.Call.{Call}
use Rattle.esx_events.specs.declared.call.Reply.{Reply}
use Rattle.esx_events.specs.declared.call.Line.{Line}
use Rattle.esx_types.specs.declared.config.Config.{Config}
use Rattle.esx_model.specs.Console.{Session, next_reply, lined}
use Rattle.esx_lock.specs.declared.view.View.{View}
use Rattle.esx_lock.specs.Words.{bits}
use Rattle.esx_lock.specs.Passes.{Took, IsSame, ReadAsBefore}
use Rattle.esx_desk.specs.Legal.{legal_for, gauge_for}
use Rattle.esx_desk.specs.Told.{line, HadIt}

-- what a console's call says
abbrev pub Called : {E : Type 0} → Result Reply E → Session → ℕ → Call → Session → Type 0
Called r s caller call t = IfOk r (λ reply. (reply ≡ next_reply s call) × (t ≡ lined s caller call)) × OnErr r (t ≡ s)

module _ {E : Type 0} where
  pub called_site : (r : Result Reply E) (s t : Session) (caller : ℕ) (call : Call) → Called r s caller call t → t.site ≡ s.site
  called_site (Ok a) s t caller call c = ap (λ (z : Session). z.site) c.0.1
  called_site (Err e) s t caller call c = ap (λ (z : Session). z.site) c.1

  pub called_line : (r : Result Reply E) (s t : Session) (caller : ℕ) (call : Call) → Called r s caller call t → IfOk r (λ reply. t.log ≡ s.log ++ line caller call reply ∷ [])
  called_line (Ok a) s t caller call c = ap (λ (z : Session). z.log) c.0.1 ∙ ap (λ (reply : Reply). s.log ++ line caller call reply ∷ []) (sym c.0.0)
  called_line (Err e) s t caller call c = tt

module _ {T E : Type 0} where
  -- a pass that took the console, and gave it back with no line, has had it
  pub had_it : (r : Result T E) (v u w : View) (site : Config) (log : List Line) → Took legal_for gauge_for v u site log → IsSame u w → ReadAsBefore u w → OnErr r (w.seen ≡ u.seen) → OnErr r (HadIt w)
  had_it (Ok a) v u w site log t same last seen = tt
  had_it (Err e) v u w site log t same last seen =
      (last.0 ∙ t.word ∙ ap (λ (s : Config). bits (gauge_for s log)) (t.at_site ∙ sym (same.0 ∙ t.same.0)) ∙ ap (λ (l : List Line). bits (gauge_for w.site l)) (sym (seen ∙ t.seen)), last.1 ∙ t.exchanged)
