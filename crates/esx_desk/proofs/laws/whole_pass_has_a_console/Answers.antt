use Rattle.std.proofs.Common.{◌∙◌, ap, refl, List, [], ◌∷◌, ◌++◌}
use Rattle.esx_events.specs.declared.call.Line.{Line}
use Rattle.esx_events.specs.declared.call.Reply.{Reply}
use Rattle.esx_model.specs.Console.{next_reply}
use Rattle.esx_desk.specs.Legal.{session}
use Rattle.esx_desk.specs.Told.{line}
use Rattle.esx_desk.proofs.laws.whole_pass_has_a_console.Goals as goal

pub returns-clause-reply : goal.returns-clause-reply
returns-clause-reply c = λ v w call reply whole adds.
    let alone = c.whole_pass_has_seen_all.ensures v (v.seen ++ adds.between) whole (adds.between, refl, adds.others) in
    adds.reply_is ∙ ap (λ (l : List Line). next_reply (session v.site l) call) alone

pub returns-clause-line : goal.returns-clause-line
returns-clause-line c = λ v w call reply whole adds.
    let alone = c.whole_pass_has_seen_all.ensures v (v.seen ++ adds.between) whole (adds.between, refl, adds.others) in
    let reply_is = adds.reply_is ∙ ap (λ (l : List Line). next_reply (session v.site l) call) alone in
    let seen = adds.seen ∙ ap (λ (l : List Line). l ++ line adds.caller call reply ∷ []) alone ∙ ap (λ (r : Reply). v.seen ++ line adds.caller call r ∷ []) reply_is in
    ap (session v.site) seen
