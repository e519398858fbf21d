use Rattle.std.proofs.Common.{◌∙◌}
use Rattle.esx_replies.specs.Texts.{refusal_text, stand_text, marked_text, pruned_text, sum_text, activity_text, page_text, help_text}
use Rattle.esx_replies.specs.Replies.{answer_text}
use Rattle.esx_replies.proofs.OneLineLemmas.{answer_line, refusal_line, stand_line, marked_line, pruned_line, sum_line, activity_line, page_line, help_line}
use Rattle.esx_replies.proofs.PuttingLemmas.{alone, alone_utf8}
use Rattle.esx_replies.proofs.said.put_said.Goals as goal

pub returns-in-Done-clause-bytes : goal.returns-in-Done-clause-bytes
returns-in-Done-clause-bytes g c = rw c.in-Done.is (alone g.S.Sign.text _ _ _ _ (answer_text c.in-Done.answer) c.put_answer.result (answer_line c.in-Done.answer) c.put_answer.ensures.bytes)

pub returns-in-Done-clause-utf8 : goal.returns-in-Done-clause-utf8
returns-in-Done-clause-utf8 g c = rw c.in-Done.is (alone_utf8 g.S.Sign.text (answer_text c.in-Done.answer) c.put_answer.result (answer_line c.in-Done.answer) c.put_answer.ensures.utf8)

pub returns-in-Refused-clause-bytes : goal.returns-in-Refused-clause-bytes
returns-in-Refused-clause-bytes g c = rw c.in-Refused.is (alone g.S.Sign.text _ _ _ _ (refusal_text c.in-Refused.refusal) c.put_refusal.result (refusal_line c.in-Refused.refusal) c.put_refusal.ensures.bytes)

pub returns-in-Refused-clause-utf8 : goal.returns-in-Refused-clause-utf8
returns-in-Refused-clause-utf8 g c = rw c.in-Refused.is (alone_utf8 g.S.Sign.text (refusal_text c.in-Refused.refusal) c.put_refusal.result (refusal_line c.in-Refused.refusal) c.put_refusal.ensures.utf8)

pub returns-in-Stand-clause-bytes : goal.returns-in-Stand-clause-bytes
returns-in-Stand-clause-bytes g c = rw c.in-Stand.is (alone g.S.Sign.text _ _ _ _ (stand_text c.in-Stand.stand c.args.jumps) c.put_stand.result (stand_line c.in-Stand.stand c.args.jumps) c.put_stand.ensures.bytes)

pub returns-in-Stand-clause-utf8 : goal.returns-in-Stand-clause-utf8
returns-in-Stand-clause-utf8 g c = rw c.in-Stand.is (alone_utf8 g.S.Sign.text (stand_text c.in-Stand.stand c.args.jumps) c.put_stand.result (stand_line c.in-Stand.stand c.args.jumps) c.put_stand.ensures.utf8)

pub returns-in-Marked-clause-bytes : goal.returns-in-Marked-clause-bytes
returns-in-Marked-clause-bytes g c = rw c.in-Marked.is (alone g.S.Sign.text _ _ _ _ (marked_text c.in-Marked.name c.in-Marked.node) c.put_marked.result (marked_line c.in-Marked.name c.in-Marked.node c.put_marked.ensures.named) c.put_marked.ensures.bytes)

pub returns-in-Marked-clause-utf8 : goal.returns-in-Marked-clause-utf8
returns-in-Marked-clause-utf8 g c = rw c.in-Marked.is (alone_utf8 g.S.Sign.text (marked_text c.in-Marked.name c.in-Marked.node) c.put_marked.result (marked_line c.in-Marked.name c.in-Marked.node c.put_marked.ensures.named) c.put_marked.ensures.utf8)

pub returns-in-Pruned-clause-bytes : goal.returns-in-Pruned-clause-bytes
returns-in-Pruned-clause-bytes g c = rw c.in-Pruned.is (alone g.S.Sign.text _ _ _ _ (pruned_text c.in-Pruned.count) c.put_pruned.result (pruned_line c.in-Pruned.count) c.put_pruned.ensures.bytes)

pub returns-in-Pruned-clause-utf8 : goal.returns-in-Pruned-clause-utf8
returns-in-Pruned-clause-utf8 g c = rw c.in-Pruned.is (alone_utf8 g.S.Sign.text (pruned_text c.in-Pruned.count) c.put_pruned.result (pruned_line c.in-Pruned.count) c.put_pruned.ensures.utf8)

pub returns-in-Sum-clause-bytes : goal.returns-in-Sum-clause-bytes
returns-in-Sum-clause-bytes g c = rw c.in-Sum.is (alone g.S.Sign.text _ _ _ _ (sum_text c.in-Sum.sum) c.put_sum.result (sum_line c.in-Sum.sum) c.put_sum.ensures.bytes)

pub returns-in-Sum-clause-utf8 : goal.returns-in-Sum-clause-utf8
returns-in-Sum-clause-utf8 g c = rw c.in-Sum.is (alone_utf8 g.S.Sign.text (sum_text c.in-Sum.sum) c.put_sum.result (sum_line c.in-Sum.sum) c.put_sum.ensures.utf8)

pub returns-in-Activity-clause-bytes : goal.returns-in-Activity-clause-bytes
returns-in-Activity-clause-bytes g c = rw c.in-Activity.is (alone g.S.Sign.text _ _ _ _ (activity_text c.in-Activity.activity) c.put_activity.result (activity_line c.in-Activity.activity) (rw c.get-in-Activity.ensures at c.put_activity.ensures.bytes))

pub returns-in-Activity-clause-utf8 : goal.returns-in-Activity-clause-utf8
returns-in-Activity-clause-utf8 g c = rw c.in-Activity.is (alone_utf8 g.S.Sign.text (activity_text c.in-Activity.activity) c.put_activity.result (activity_line c.in-Activity.activity) (rw c.get-in-Activity.ensures at c.put_activity.ensures.utf8))

pub returns-in-Page-clause-bytes : goal.returns-in-Page-clause-bytes
returns-in-Page-clause-bytes g c = rw c.in-Page.is (alone g.S.Sign.text _ _ _ _ (page_text c.in-Page.state) c.put_page.result (page_line c.in-Page.state) c.put_page.ensures.bytes)

pub returns-in-Page-clause-utf8 : goal.returns-in-Page-clause-utf8
returns-in-Page-clause-utf8 g c = rw c.in-Page.is (alone_utf8 g.S.Sign.text (page_text c.in-Page.state) c.put_page.result (page_line c.in-Page.state) c.put_page.ensures.utf8)

pub returns-in-Help-clause-bytes : goal.returns-in-Help-clause-bytes
returns-in-Help-clause-bytes g c = rw c.in-Help.is (alone g.S.Sign.text _ _ _ _ (help_text c.in-Help.help) c.put_help.result (help_line c.in-Help.help) c.put_help.ensures.bytes)

pub returns-in-Help-clause-utf8 : goal.returns-in-Help-clause-utf8
returns-in-Help-clause-utf8 g c = rw c.in-Help.is (alone_utf8 g.S.Sign.text (help_text c.in-Help.help) c.put_help.result (help_line c.in-Help.help) c.put_help.ensures.utf8)

pub returns-in-Sides-clause-bytes : goal.returns-in-Sides-clause-bytes
returns-in-Sides-clause-bytes g c = rw c.in-Sides.is (rw c.get.ensures at c.put_sides.ensures.bytes)

pub returns-in-Sides-clause-utf8 : goal.returns-in-Sides-clause-utf8
returns-in-Sides-clause-utf8 g c = rw c.in-Sides.is (rw c.get.ensures at c.put_sides.ensures.utf8)

pub returns-in-Table-clause-bytes : goal.returns-in-Table-clause-bytes
returns-in-Table-clause-bytes g c = rw c.in-Table.is (rw (c.as_slice.ensures ∙ c.get-in-Table.ensures, c.get-in-Table-2.ensures) at c.put_table.ensures.bytes)
