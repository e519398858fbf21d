-- The texts of replies.
use Rattle.std.specs.Prelude.{ℕ, List, [], ◌∷◌, ◌++◌, ◌+◌, codes, decimal, Result, Ok, Err, flat_map, length}
use Rattle.esx_events.specs.declared.event.Answer.{Answer}
use Rattle.esx_events.specs.declared.event.Answer.TheVariants as answers
use Rattle.esx_events.specs.declared.event.Refusal.{Refusal}
use Rattle.esx_events.specs.declared.call.Said.{Said}
use Rattle.esx_events.specs.declared.call.Said.TheVariants as said
use Rattle.esx_events.specs.declared.call.Sum.{Sum}
use Rattle.esx_events.specs.declared.call.Sides.{Sides}
use Rattle.esx_events.specs.declared.call.TableRow.{TableRow}
use Rattle.esx_events.specs.declared.call.NameRow.{NameRow}
use Rattle.esx_events.specs.declared.call.Reply.{Reply}
use Rattle.esx_writing.specs.Writing.{right_in, left_in}
use Rattle.esx_replies.specs.Texts

abbrev pub answer_text : Answer → List ℕ
answer_text (answers.Admitted reserves) = Texts.admitted_text reserves
answer_text (answers.Started running frame held overhead) = Texts.started_text frame held overhead running
answer_text (answers.Bytes bytes) = Texts.bytes_text bytes
answer_text answers.Done = codes "ok\n"
answer_text (answers.Goal goal lent epoch) = Texts.goal_text goal lent epoch
answer_text (answers.Reset epoch) = Texts.reset_text epoch
answer_text (answers.Lent lent goal) = Texts.lent_text lent goal
answer_text (answers.TakenBack lent) = Texts.taken_back_text lent
answer_text (answers.Opened length pages) = Texts.opened_text length pages
answer_text (answers.Rebalanced need revoked) = Texts.rebalanced_text need revoked
answer_text (answers.Looked scanned) = Texts.looked_text scanned
answer_text (answers.PagedOut page slot) = Texts.paged_out_text page slot
answer_text (answers.SharedOut page frame) = Texts.shared_out_text page frame
answer_text (answers.Replaced page slot frame) = Texts.replaced_text page slot frame
answer_text (answers.GivenBack held) = Texts.given_back_text held
answer_text answers.Gone = codes "ok gone\n"

-- what an event answers or is refused with
abbrev pub tried_text : Result Answer Refusal → List ℕ
tried_text (Ok answer) = answer_text answer
tried_text (Err refusal) = Texts.refusal_text refusal

abbrev pub table_head : List ℕ
table_head = codes " vm state        min     max  target    here    lent     out  shares  active\n"

abbrev pub row_text : TableRow → List ℕ
row_text row =
    right_in 3 (decimal row.vm) ++ (codes " " ++ (left_in 8 (Texts.state_text row.state) ++ (right_in 8 (decimal row.min) ++ (right_in 8 (decimal row.max)
    ++ (right_in 8 (decimal row.target) ++ (right_in 8 (decimal row.here) ++ (right_in 8 (decimal row.lent) ++ (right_in 8 (decimal row.out)
    ++ (right_in 8 (decimal row.shares) ++ (right_in 8 (decimal row.active) ++ 10 ∷ []))))))))))

abbrev pub table_text : List TableRow → Sum → List ℕ
table_text rows sum = table_head ++ (flat_map row_text rows ++ Texts.sum_text sum)

abbrev pub marks_head : ℕ → List ℕ
marks_head count = codes "marks " ++ (decimal count ++ 10 ∷ [])

abbrev pub mark_text : NameRow → List ℕ
mark_text row = row.name ++ (codes " " ++ (decimal row.node ++ 10 ∷ []))

abbrev pub marks_text : List NameRow → List ℕ
marks_text rows = marks_head (length rows) ++ flat_map mark_text rows

-- how many of some tried events were accepted
abbrev pub accepted : List (Result Answer Refusal) → ℕ
accepted [] = 0
accepted (Ok answer ∷ replies) = 1 + accepted replies
accepted (Err refusal ∷ replies) = accepted replies

abbrev pub number_head : ℕ → List ℕ
number_head n = decimal n ++ codes " "

abbrev pub numbered_text : ℕ → Result Answer Refusal → List ℕ
numbered_text n reply = number_head n ++ tried_text reply

-- what tried events answer, each with its number from n on
abbrev pub tried_texts : ℕ → List (Result Answer Refusal) → List ℕ
tried_texts n [] = []
tried_texts n (reply ∷ replies) = numbered_text n reply ++ tried_texts (n + 1) replies

abbrev pub sides_head : ℕ → ℕ → List ℕ
sides_head count given = codes "whatif " ++ (decimal count ++ (codes "/" ++ (decimal given ++ 10 ∷ [])))

abbrev pub before_text : Sum → List ℕ
before_text sum = codes "before " ++ Texts.sum_text sum

abbrev pub after_text : Sum → List ℕ
after_text sum = codes "after " ++ Texts.sum_text sum

abbrev pub sides_text : Sides → List ℕ
sides_text s = sides_head (accepted s.replies) s.given ++ (before_text s.before ++ (tried_texts 1 s.replies ++ after_text s.after))

abbrev pub said_text : Said → ℕ → List ℕ
said_text (said.Done answer) jumps = answer_text answer
said_text (said.Refused refusal) jumps = Texts.refusal_text refusal
said_text (said.Stand stand) jumps = Texts.stand_text stand jumps
said_text (said.Marked name node) jumps = Texts.marked_text name node
said_text (said.Pruned count) jumps = Texts.pruned_text count
said_text (said.Sides sides) jumps = sides_text sides
said_text (said.Sum sum) jumps = Texts.sum_text sum
said_text (said.Table rows sum) jumps = table_text rows sum
said_text (said.Activity activity) jumps = Texts.activity_text activity
said_text (said.Page state) jumps = Texts.page_text state
said_text (said.Help help) jumps = Texts.help_text help
said_text (said.Marks marks) jumps = marks_text marks

-- the line or the lines of a reply, each with its line feed
abbrev pub reply_text : Reply → List ℕ
reply_text reply = said_text reply.said reply.jumps
