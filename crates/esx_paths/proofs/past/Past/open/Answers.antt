use Rattle.std.proofs.Common.{refl, sym, subst, arith}
use Rattle.esx_console.specs.Calls.{opened_session}
use Rattle.esx_paths.specs.Pasts.{Kept, IsPastOf}
use Rattle.esx_paths.proofs.Keeping.{first_past, same_kept}
use Rattle.esx_paths.proofs.past.Past.open.Goals as goal

pub returns-in-Ok-clause-past : goal.returns-in-Ok-clause-past
returns-in-Ok-clause-past c =
    let P : Kept → Type 0 = λ k. IsPastOf k (opened_session c.args.site) in
    subst P (sym (same_kept _ _ _ _ _ _ _ _ refl c.new.ensures.items c.new-in-Ok.ensures.items)) (first_past c.args.site c.in-Ok.console c.in-Ok.ensures.opens.0)

pub invariant_of-result : goal.invariant_of-result
invariant_of-result c = record {
  session = opened_session c.args.site;
  is_past = returns-in-Ok-clause-past c;
  few = omega (arith, c.in-Ok.ensures.none);
}
