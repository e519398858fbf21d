use Rattle.esx_model.specs.History.{scene_at}
use Rattle.esx_model.specs.Console.{history}
use Rattle.esx_replies.specs.Texts.{refusal_text}
use Rattle.esx_text.proofs.AnswerLemmas.{pageout_answered, pageout_served}
use Rattle.esx_text.proofs.pageout.answer_pageout.Goals as goal

pub returns-in-Ok-clause-served : goal.returns-in-Ok-clause-served
returns-in-Ok-clause-served g c = λ n line asks.
    let scene = scene_at (history c.args.console.now) in
    pageout_served _ n c.args.caller _ _ line c.args.vm c.args.page c.in-Ok.word _ _ c.make_call.result asks
    (c.in-Ok.ensures scene c.machine.ensures.shows) c.make_call.ensures.made

pub returns-in-Ok-write_refusal-clause-served : goal.returns-in-Ok-write_refusal-clause-served
returns-in-Ok-write_refusal-clause-served g c = λ n line asks.
    let scene = scene_at (history c.args.console.now) in (
      refusal_text c.in-Err.refusal,
      pageout_answered n c.args.caller _ line c.args.vm c.args.page _ asks (c.in-Err.ensures scene c.machine.ensures.shows),
      c.in-Ok-write_refusal.ensures.bytes,
    )

pub returns-in-Err-write_refusal-clause-served : goal.returns-in-Err-write_refusal-clause-served
returns-in-Err-write_refusal-clause-served g c = λ n line asks.
    let scene = scene_at (history c.args.console.now) in (
      refusal_text c.in-Err.refusal,
      pageout_answered n c.args.caller _ line c.args.vm c.args.page _ asks (c.in-Err.ensures scene c.machine.ensures.shows),
      c.in-Err-write_refusal.ensures.bytes,
    )
