-- What holds of losses holds of their reasons.
use Rattle.std.proofs.Common.{◌≡◌, ℕ, List, [], ◌∷◌, map, ap, subst, sym, Option, Some, None}
use Rattle.std.specs.Prelude.{option_map, All}
use Rattle.std.proofs.lemmas.List.Elements.{All-nil, All-head, All-tail, All-cons}
use Rattle.esx_events.specs.declared.call.Call.{Call}
use Rattle.esx_session.specs.declared.session.Request.{Request}
use Rattle.esx_report.specs.declared.losses.LossLine.{LossLine}
use Rattle.esx_report.specs.declared.site.Opened.{Opened}
use Rattle.esx_report.specs.declared.why.Why.{Why}
use Rattle.esx_account.specs.Asking.{call_asked}
use Rattle.esx_reports.specs.Reasons.{why_told, why_by, why_wanted, AreWhysOf}

-- the loss whose reason it is
line_of : (o : Opened) (line : LossLine) (w : Why) (call : Option Call) → Some (why_told w) ≡ option_map (why_by o line) call → line ≡ w.line
line_of o line w None is = cc
line_of o line w (Some call) is = sym (ap (λ (p : LossLine × List ℕ × ℕ × ℕ). p.0) (one (why_told w) (why_by o line call) is))
  where
    one : (x y : LossLine × List ℕ × ℕ × ℕ) → Some x ≡ Some y → x ≡ y
    one x y e = cc

both : {X : Type 0} (x y : X) (xs ys : List X) → x ∷ xs ≡ y ∷ ys → (x ≡ y) × (xs ≡ ys)
both x y xs ys e = ((cc), (cc))

pub reason_held : (P : LossLine → Type 0) (o : Opened) (requests : List Request) (lines : List LossLine) (whys : List Why) → AreWhysOf o requests lines whys → All P lines → All (λ (w : Why). P w.line) whys
reason_held P o requests lines [] are all = All-nil (λ (w : Why). P w.line)
reason_held P o requests [] (w ∷ whys) are all = cc
reason_held P o requests (line ∷ lines) (w ∷ whys) are all =
    let parts = both (Some (why_told w)) (why_wanted o requests line) (map (λ (x : Why). Some (why_told x)) whys) (map (why_wanted o requests) lines) are in
    let same = line_of o line w (call_asked requests line.call) parts.0 in
    All-cons (λ (x : Why). P x.line) w whys (subst P same (All-head P line lines all)) (reason_held P o requests lines whys parts.1 (All-tail P line lines all))
