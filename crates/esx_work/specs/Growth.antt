-- Laws of doors.
use Rattle.std.specs.Prelude.{◌≡◌, ℕ, ◌<◌, List, [], ◌∷◌, ◌++◌, refl}
use Rattle.std.proofs.Common.{sym, ◌∙◌, ap, subst, append_assoc, append-nil}
use Rattle.esx_types.specs.declared.ids.Ids.{Ids}
use Rattle.esx_events.specs.declared.call.Line.{Line}
use Rattle.esx_model.specs.Console.{Session}
use Rattle.esx_lock.specs.Logs.{Callers}
use Rattle.esx_lock.specs.Passes.{LockView, Known}
use Rattle.esx_work.specs.Doors.{GoesOn, IsOther, Leads}

pub callers_joined : (P : ℕ → Type 0) (xs ys : List Line) → Callers P xs → Callers P ys → Callers P (xs ++ ys)
callers_joined P [] ys p q = q
callers_joined P (x ∷ xs) ys p q = (p.0, callers_joined P xs ys p.1 q)

pub goes_on_self : (n : ℕ) (log : List Line) → GoesOn n log log
goes_on_self n log = ([], append-nil log, tt)

pub goes_on_on : (n : ℕ) (xs ys zs : List Line) → GoesOn n xs ys → GoesOn n ys zs → GoesOn n xs zs
goes_on_on n xs ys zs f g = (f.0 ++ g.0, sym (append_assoc xs f.0 g.0) ∙ (ap (λ w. w ++ g.0) f.1 ∙ g.1), callers_joined (λ k. k < n) f.0 g.0 f.2 g.2)

pub leads_self : (desk : LockView) (pass : Known) → Leads desk desk pass pass
leads_self desk pass = record { desk_same = refl; same = (refl, refl, refl); grown = goes_on_self desk.callers pass.view.seen; others = λ k o. refl }

pub leads_on : (a b c : LockView) (p q r : Known) → Leads a b p q → Leads b c q r → Leads a c p r
leads_on a b c p q r f g = record {
  desk_same = g.desk_same ∙ f.desk_same;
  same = (g.same.0 ∙ f.same.0, g.same.1 ∙ f.same.1, g.same.2 ∙ f.same.2);
  grown = goes_on_on a.callers p.view.seen q.view.seen r.view.seen f.grown (subst (λ (d : LockView). GoesOn d.callers q.view.seen r.view.seen) f.desk_same g.grown);
  others = λ k o. g.others k (subst (λ (ids : Ids). IsOther ids k) (sym f.same.1) o) ∙ f.others k o;
}

-- the same site and caller, and the log has grown by lines of this caller alone
pub record IsAlone (k k' : ℕ) (s t : Session) : Type 0 where
  pub site : t.site ≡ s.site
  pub same : k' ≡ k
  pub later : List Line
  pub grown : s.log ++ later ≡ t.log
  pub own : Callers (λ j. j ≡ k) later

pub alone_self : (k : ℕ) (s : Session) → IsAlone k k s s
alone_self k s = record { site = refl; same = refl; later = []; grown = append-nil s.log; own = tt }

pub alone_on : (i j k : ℕ) (s t u : Session) → IsAlone i j s t → IsAlone j k t u → IsAlone i k s u
alone_on i j k s t u f g = record {
  site = g.site ∙ f.site;
  same = g.same ∙ f.same;
  later = f.later ++ g.later;
  grown = sym (append_assoc s.log f.later g.later) ∙ (ap (λ w. w ++ g.later) f.grown ∙ g.grown);
  own = callers_joined (λ n. n ≡ i) f.later g.later f.own (subst (λ (c : ℕ). Callers (λ n. n ≡ c) g.later) f.same g.own);
}
