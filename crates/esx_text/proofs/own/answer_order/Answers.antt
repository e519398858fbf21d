use Rattle.std.proofs.Common.{refl}
use Rattle.esx_order.specs.Telling.{order_text}
use Rattle.esx_model.specs.History.{scene_at}
use Rattle.esx_model.specs.Console.{history}
use Rattle.esx_writing.proofs.WritingLemmas.{appends_more, appends_nothing, front_of_more}
use Rattle.esx_text.specs.Own.IsOwnText.{ordered}
use Rattle.esx_text.specs.Answers.IsAnswered.{own}
use Rattle.esx_text.specs.declared.own.OwnWord.TheVariants.{Order}
use Rattle.esx_text.proofs.EchoLemmas.{front_behind}
use Rattle.esx_text.proofs.OwnLemmas.{order_wants}
use Rattle.esx_text.proofs.own.answer_order.Goals as goal

pub order_of-requires : goal.order_of-requires
order_of-requires g c = (scene_at (history c.args.console.now), c.machine.ensures.shows)

pub returns-in_default-clause-served : goal.returns-in_default-clause-served
returns-in_default-clause-served g c = λ n caller line is. (refl, order_wants line is, appends_nothing _)

pub returns-in_default-write_echo-clause-served : goal.returns-in_default-write_echo-clause-served
returns-in_default-write_echo-clause-served g c = λ n caller line is.
    let order = c.in-Ok.order.items in
    let text = ordered order (c.in-Ok.ensures.order (scene_at (history c.args.console.now)) c.machine.ensures.shows) in
    (order_text order, own Order (order_text order) is text, front_of_more _ _ _ (order_text order) c.in_default-write_echo.ensures.bytes)

pub returns-in-Ok-write_order-clause-served : goal.returns-in-Ok-write_order-clause-served
returns-in-Ok-write_order-clause-served g c = λ n caller line is.
    let order = c.in-Ok.order.items in
    let text = ordered order (c.in-Ok.ensures.order (scene_at (history c.args.console.now)) c.machine.ensures.shows) in (
      order_text order,
      own Order (order_text order) is text,
      appends_more _ _ _ _ (order_text order) c.in-Ok-write_echo.ensures.bytes (rw c.as_slice.ensures.value at c.in-Ok-write_order.ensures.bytes),
    )

pub returns-clause-served : goal.returns-clause-served
returns-clause-served g c = λ n caller line is.
    let order = c.in-Ok.order.items in
    let text = ordered order (c.in-Ok.ensures.order (scene_at (history c.args.console.now)) c.machine.ensures.shows) in (
      order_text order,
      own Order (order_text order) is text,
      front_behind _ _ _ _ (order_text order) c.in-Ok-write_echo.ensures.bytes (rw c.as_slice.ensures.value at c.in-Err.ensures.bytes),
    )
