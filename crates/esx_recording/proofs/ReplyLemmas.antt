-- No question mark stands in a reply.
use Rattle.std.proofs.Common.{◌≡◌, ◌+◌, ◌/◌, ◌%◌, ◌&&◌, ◌==◌, ℕ, zero, suc, Bool, true, false, List, [], ◌∷◌, ◌++◌, refl, decimal, length, Result, Ok, Err, arith}
use Rattle.std.specs.Prelude.{replicate, slice_index, nat_le}
use Rattle.std.specs.List.{AllByRecursion, flat_map, list_all}
use Rattle.std.proofs.lemmas.Bool.{and_from, and_parts, not-true}
use Rattle.std.proofs.lemmas.List.Folds.{list_all-append}
use Rattle.hex.specs.Hex.{encode_lower, encode_with, lower_digits}
use Rattle.esx_types.specs.declared.level.Level.{Level}
use Rattle.esx_types.specs.declared.level.Level.TheVariants.{High, Soft, Hard, Low}
use Rattle.esx_types.specs.declared.vm.VmState.{VmState}
use Rattle.esx_types.specs.declared.vm.VmState.TheVariants.{Starting, Running, Stopping}
use Rattle.esx_events.specs.Names.{IsName, is_name_byte, starts_lower}
use Rattle.esx_events.specs.declared.name.TheConstants.{MAX_NAME}
use Rattle.esx_events.specs.declared.event.Answer.{Answer}
use Rattle.esx_events.specs.declared.event.Answer.TheVariants as answers
use Rattle.esx_events.specs.declared.event.Refusal.{Refusal}
use Rattle.esx_events.specs.declared.event.Refusal.TheVariants as refusals
use Rattle.esx_events.specs.declared.event.Scanned.{Scanned}
use Rattle.esx_events.specs.declared.event.Scanned.TheVariants as looks
use Rattle.esx_events.specs.declared.call.Help.{Help}
use Rattle.esx_events.specs.declared.call.Help.TheVariants as helps
use Rattle.esx_events.specs.declared.call.NameRow.{NameRow}
use Rattle.esx_events.specs.declared.call.PageState.{PageState}
use Rattle.esx_events.specs.declared.call.PageState.TheVariants as pages
use Rattle.esx_events.specs.declared.call.Reply.{Reply}
use Rattle.esx_events.specs.declared.call.Said.{Said}
use Rattle.esx_events.specs.declared.call.Said.TheVariants as said
use Rattle.esx_events.specs.declared.call.TableRow.{TableRow}
use Rattle.esx_replies.specs.Replies.{answer_text, mark_text, reply_text, row_text, said_text, tried_text, tried_texts}
use Rattle.esx_replies.specs.Texts.{help_text, level_text, looked_text, page_text, refusal_text, running_text, state_text}
use Rattle.esx_replies.specs.Told.{HasNames}
use Rattle.esx_recording.specs.declared.place.Place.TheVariants.{Other}
use Rattle.esx_recording.specs.Laws.{DropsReply}
use Rattle.esx_recording.specs.Questions.{place_behind, question_lines_from}
use Rattle.esx_recording.proofs.ByteLemmas.{decimal_lacks, differs, is_other, lacks}

number_lacks : (n : ℕ) → lacks 63 (decimal n) ≡ true
number_lacks = decimal_lacks 63 (λ d small e. omega (arith, e))

spaces_lack : (n : ℕ) → lacks 63 (replicate n 32) ≡ true
spaces_lack zero = refl
spaces_lack (suc n) = spaces_lack n

at_lacks : (bytes : List ℕ) (i : ℕ) → lacks 63 bytes ≡ true → is_other 63 (slice_index bytes i) ≡ true
at_lacks [] i h = refl
at_lacks (b ∷ bs) zero h = (and_parts (is_other 63 b) (lacks 63 bs) h).0
at_lacks (b ∷ bs) (suc i) h = at_lacks bs i (and_parts (is_other 63 b) (lacks 63 bs) h).1

hex_lacks : (bytes : List ℕ) → lacks 63 (encode_lower bytes) ≡ true
unfolding encode_with
hex_lacks [] = refl
hex_lacks (x ∷ xs) =
    and_from (is_other 63 (slice_index lower_digits (x / 16))) _ (at_lacks lower_digits (x / 16) refl)
    (and_from (is_other 63 (slice_index lower_digits (x % 16))) _ (at_lacks lower_digits (x % 16) refl) (hex_lacks xs))

no_name_byte : is_name_byte 63 ≡ true → ⊥
no_name_byte e = cc

name_bytes_lack : (bytes : List ℕ) → list_all is_name_byte bytes ≡ true → lacks 63 bytes ≡ true
name_bytes_lack [] h = refl
name_bytes_lack (b ∷ bs) h =
    let p = and_parts (is_name_byte b) (list_all is_name_byte bs) h in
    and_from (is_other 63 b) (lacks 63 bs) (differs 63 b (λ e. no_name_byte (rw e at p.0))) (name_bytes_lack bs p.1)

name_lacks : (name : List ℕ) → IsName name → lacks 63 name ≡ true
name_lacks name is = name_bytes_lack name (and_parts (starts_lower name && nat_le (length name) MAX_NAME) (list_all is_name_byte name) is).1

level_lacks : (level : Level) → lacks 63 (level_text level) ≡ true
level_lacks High = refl
level_lacks Soft = refl
level_lacks Hard = refl
level_lacks Low = refl

state_lacks : (state : VmState) → lacks 63 (state_text state) ≡ true
state_lacks Starting = refl
state_lacks Running = refl
state_lacks Stopping = refl

running_lacks : (running : Bool) → lacks 63 (running_text running) ≡ true
running_lacks true = refl
running_lacks false = refl

lacks_joined : (a b : List ℕ) → lacks 63 (a ++ b) ≡ (lacks 63 a && lacks 63 b)
lacks_joined = list_all-append (is_other 63)

-- the text of a reply is words with such parts between them
ruleset parts = (lacks_joined, number_lacks, spaces_lack, hex_lacks, level_lacks, state_lacks, running_lacks)

-- The last clause is checked at each other refusal, and at each other level.
refusal_lacks : (refusal : Refusal) → lacks 63 (refusal_text refusal) ≡ true
refusal_lacks (refusals.NotNow High) = simp parts
refusal_lacks refusal = simp parts

looked_lacks : (scanned : Scanned) → lacks 63 (looked_text scanned) ≡ true
looked_lacks (looks.Shared frame count) = simp parts
looked_lacks scanned = refl

answer_lacks : (answer : Answer) → lacks 63 (answer_text answer) ≡ true
answer_lacks answers.Done = refl
answer_lacks answers.Gone = refl
answer_lacks (answers.Looked scanned) = looked_lacks scanned
answer_lacks answer = simp parts

tried_lacks : (reply : Result Answer Refusal) → lacks 63 (tried_text reply) ≡ true
tried_lacks (Ok answer) = answer_lacks answer
tried_lacks (Err refusal) = refusal_lacks refusal

all_tried_lack : (n : ℕ) (replies : List (Result Answer Refusal)) → lacks 63 (tried_texts n replies) ≡ true
all_tried_lack n [] = refl
all_tried_lack n (reply ∷ replies) = simp (parts, tried_lacks reply, all_tried_lack (n + 1) replies)

page_lacks : (state : PageState) → lacks 63 (page_text state) ≡ true
page_lacks pages.Untouched = refl
page_lacks pages.Lent = refl
page_lacks state = simp parts

help_lacks : (help : Help) → lacks 63 (help_text help) ≡ true
help_lacks (helps.SwapOut vm) = simp parts
help_lacks help = refl

rows_lack : (rows : List TableRow) → lacks 63 (flat_map row_text rows) ≡ true
rows_lack [] = refl
rows_lack (row ∷ rows) = simp (parts, rows_lack rows)

marks_lack : (rows : List NameRow) → AllByRecursion (λ row. IsName row.name) rows → lacks 63 (flat_map mark_text rows) ≡ true
marks_lack [] h = refl
marks_lack (row ∷ rows) h = simp (parts, name_lacks row.name h.0, marks_lack rows h.1)

said_lacks : (told : Said) (jumps : ℕ) → HasNames told → lacks 63 (said_text told jumps) ≡ true
said_lacks (said.Done answer) jumps h = answer_lacks answer
said_lacks (said.Refused refusal) jumps h = refusal_lacks refusal
said_lacks (said.Marked name node) jumps h = simp (parts, name_lacks name h)
said_lacks (said.Sides sides) jumps h = simp (parts, all_tried_lack 1 sides.replies)
said_lacks (said.Table rows sum) jumps h = simp (parts, rows_lack rows)
said_lacks (said.Page state) jumps h = page_lacks state
said_lacks (said.Help help) jumps h = help_lacks help
said_lacks (said.Marks marks) jumps h = simp (parts, marks_lack marks h)
said_lacks told jumps h = simp parts

-- bytes from the start of a line on, or in one that asks nothing
none_kept : (starts : Bool) (bytes : List ℕ) → lacks 63 bytes ≡ true → question_lines_from (place_behind starts Other) bytes ≡ []
none_kept starts [] h = refl
none_kept true (b ∷ bs) h =
    let p = and_parts (is_other 63 b) (lacks 63 bs) h in
    let asks_not : (b == 63) ≡ false = not-true (b == 63) p.0 in
    rw asks_not (none_kept (b == 10) bs p.1)
none_kept false (b ∷ bs) h = none_kept (b == 10) bs (and_parts (is_other 63 b) (lacks 63 bs) h).1

pub drops_reply : (reply : Reply) → DropsReply reply
drops_reply reply names = none_kept true (reply_text reply) (said_lacks reply.said reply.jumps names)
