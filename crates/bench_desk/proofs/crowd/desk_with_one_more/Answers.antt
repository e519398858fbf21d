use Rattle.std.proofs.Common.{IfSome, subst}
use Rattle.std.proofs.lemmas.List.Elements.{All-pop}
use Rattle.esx_desk.specs.Told.{IsOf}
use Rattle.bench_desk.proofs.crowd.desk_with_one_more.Goals as goal

pub returns : goal.returns
returns c =
    let both = All-pop (IsOf c.in_ok-desk.desk) c.in_ok-desk.passes.items c.pop.new.self.items c.pop.result c.pop.ensures.items c.in_ok-desk.ensures.own in
    (both.0, subst (λ (r : _). IfSome r (IsOf c.in_ok-desk.desk)) c.unwrap-pass.ensures both.1)
