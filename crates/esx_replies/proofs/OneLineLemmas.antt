-- The texts of replies, and the parts of those that have several lines, are lines.
use Rattle.std.proofs.Common.{◌≡◌, ◌+◌, ◌-◌, ◌/◌, ◌%◌, ℕ, zero, suc, Bool, true, false, List, [], ◌∷◌, ◌++◌, refl, sym, ◌∙◌, ap, append_assoc, codes, decimal, length, ◌==◌, ◌&&◌, if◌then◌else◌, Result, Ok, Err, arith}
use Rattle.std.specs.Prelude.{replicate, nat_lt, slice_index, nat_le}
use Rattle.std.specs.List.{flat_map, list_all}
use Rattle.std.specs.Fmt.{digits, digits_onto, digit_glyph}
use Rattle.std.proofs.lemmas.Bool.{and_parts, ne_eqb}
use Rattle.hex.specs.Hex.{encode_with, encode_lower, lower_digits}
use Rattle.esx_types.specs.declared.level.Level.{Level}
use Rattle.esx_types.specs.declared.level.Level.TheVariants.{High, Soft, Hard, Low}
use Rattle.esx_types.specs.declared.vm.VmState.{VmState}
use Rattle.esx_types.specs.declared.vm.VmState.TheVariants.{Starting, Running, Stopping}
use Rattle.esx_events.specs.Names.{IsName, is_name_byte, starts_lower}
use Rattle.esx_events.specs.declared.event.Answer.{Answer}
use Rattle.esx_events.specs.declared.event.Answer.TheVariants as answers
use Rattle.esx_events.specs.declared.event.Refusal.{Refusal}
use Rattle.esx_events.specs.declared.event.Refusal.TheVariants as refusals
use Rattle.esx_events.specs.declared.event.Scanned.{Scanned}
use Rattle.esx_events.specs.declared.event.Scanned.TheVariants as looks
use Rattle.esx_events.specs.declared.call.Said.{Said}
use Rattle.esx_events.specs.declared.call.Said.TheVariants as said
use Rattle.esx_events.specs.declared.call.Sum.{Sum}
use Rattle.esx_events.specs.declared.call.TableRow.{TableRow}
use Rattle.esx_events.specs.declared.call.Stand.{Stand}
use Rattle.esx_events.specs.declared.call.Activity.{Activity}
use Rattle.esx_events.specs.declared.call.NameRow.{NameRow}
use Rattle.esx_events.specs.declared.call.PageState.{PageState}
use Rattle.esx_events.specs.declared.call.PageState.TheVariants as pages
use Rattle.esx_events.specs.declared.call.Help.{Help}
use Rattle.esx_events.specs.declared.call.Help.TheVariants as helps
use Rattle.esx_events.specs.declared.name.TheConstants.{MAX_NAME}
use Rattle.esx_writing.specs.Writing.{right_in, left_in}
use Rattle.esx_replies.specs.Texts.{level_text, state_text, running_text, refusal_text, sum_text, stand_text, marked_text, pruned_text, activity_text, looked_text, page_text, help_text}
use Rattle.esx_replies.specs.Replies.{answer_text, tried_text, said_text, table_head, row_text, marks_head, mark_text, sides_head, before_text, after_text, numbered_text, tried_texts}
use Rattle.esx_replies.specs.Signs.{behind}
use Rattle.esx_replies.specs.Told.{is_brief}
use Rattle.esx_replies.proofs.SignLemmas.{is_some, line_some, is_empty, is_line, line_behind, IsClosed, line_closed, feed_closed, both_closed, all_closed}

-- no line feed stands in the bytes
abbrev is_plain : List ℕ → Bool
is_plain [] = true
is_plain (b ∷ bs) = if b == 10 then false else is_plain bs

past_plain : (a t : List ℕ) → is_plain a ≡ true → is_line (a ++ t) ≡ is_line t
past_plain [] t h = refl
past_plain (b ∷ bs) t h =
    elim (b == 10) as (λ v. (if v then false else is_plain bs) ≡ true → (if v then is_empty (bs ++ t) else is_line (bs ++ t)) ≡ is_line t) [
      | true ↦ λ e. absurd (cc)
      | false ↦ λ e. past_plain bs t e
    ] h

plain_more : (a t : List ℕ) → is_plain a ≡ true → is_plain t ≡ true → is_plain (a ++ t) ≡ true
plain_more [] t h k = k
plain_more (b ∷ bs) t h k =
    elim (b == 10) as (λ v. (if v then false else is_plain bs) ≡ true → (if v then false else is_plain (bs ++ t)) ≡ true) [
      | true ↦ λ e. absurd (cc)
      | false ↦ λ e. plain_more bs t e k
    ] h

plain_spaces : (n : ℕ) → is_plain (replicate n 32) ≡ true
plain_spaces zero = refl
plain_spaces (suc n) = plain_spaces n

plain_glyph : (d : ℕ) → (digit_glyph false d == 10) ≡ false
plain_glyph d =
    elim (nat_lt d 10) as (λ v. ((if v then 48 + d else 87 + d) == 10) ≡ false) [
      | true ↦ ne_eqb (48 + d) 10 (λ e. omega (arith, e))
      | false ↦ ne_eqb (87 + d) 10 (λ e. omega (arith, e))
    ]

plain_digit : (d : ℕ) (acc : List ℕ) → is_plain acc ≡ true → is_plain (digit_glyph false d ∷ acc) ≡ true
plain_digit d acc h = rw (plain_glyph d) h

plain_onto : (k n : ℕ) (acc : List ℕ) → is_plain acc ≡ true → is_plain (digits_onto k 10 false n acc) ≡ true
plain_onto zero n acc h = h
plain_onto (suc k) n acc h =
    elim (n / 10 == 0) as (λ v. is_plain (if v then digit_glyph false (n % 10) ∷ acc else digits_onto k 10 false (n / 10) (digit_glyph false (n % 10) ∷ acc)) ≡ true) [
      | true ↦ plain_digit (n % 10) acc h
      | false ↦ plain_onto k (n / 10) (digit_glyph false (n % 10) ∷ acc) (plain_digit (n % 10) acc h)
    ]

pub plain_decimal : (n : ℕ) → is_plain (decimal n) ≡ true
unfolding digits
plain_decimal n = plain_onto 64 n [] refl

plain_at : (xs : List ℕ) (i : ℕ) → is_plain xs ≡ true → (slice_index xs i == 10) ≡ false
plain_at [] i h = refl
plain_at (b ∷ bs) zero h =
    elim (b == 10) as (λ v. (if v then false else is_plain bs) ≡ true → v ≡ false) [
      | true ↦ λ e. absurd (cc)
      | false ↦ λ e. refl
    ] h
plain_at (b ∷ bs) (suc i) h =
    elim (b == 10) as (λ v. (if v then false else is_plain bs) ≡ true → (slice_index bs i == 10) ≡ false) [
      | true ↦ λ e. absurd (cc)
      | false ↦ λ e. plain_at bs i e
    ] h

pub plain_hex : (bytes : List ℕ) → is_plain (encode_lower bytes) ≡ true
unfolding encode_with
plain_hex [] = refl
plain_hex (x ∷ xs) = rw (plain_at lower_digits (x / 16) refl, plain_at lower_digits (x % 16) refl) (plain_hex xs)

no_feed_named : is_name_byte 10 ≡ true → ⊥
no_feed_named e = cc

name_byte : (b : ℕ) → is_name_byte b ≡ true → b == 10 ≡ false
name_byte b h = ne_eqb b 10 (λ e. no_feed_named (rw e at h))

plain_bytes : (bs : List ℕ) → list_all is_name_byte bs ≡ true → is_plain bs ≡ true
plain_bytes [] h = refl
plain_bytes (b ∷ bs) h =
    let p = and_parts (is_name_byte b) (list_all is_name_byte bs) h in
    rw (name_byte b p.0) (plain_bytes bs p.1)

pub plain_name : (name : List ℕ) → IsName name → is_plain name ≡ true
plain_name name h = plain_bytes name (and_parts (starts_lower name && nat_le (length name) MAX_NAME) (list_all is_name_byte name) h).1

-- a line goes on behind a number, hex, a column or a word
past_decimal : (n : ℕ) (t : List ℕ) → is_line (decimal n ++ t) ≡ is_line t
past_decimal n t = past_plain (decimal n) t (plain_decimal n)

past_hex : (bytes t : List ℕ) → is_line (encode_lower bytes ++ t) ≡ is_line t
past_hex bytes t = past_plain (encode_lower bytes) t (plain_hex bytes)

past_right : (width n : ℕ) (t : List ℕ) → is_line (right_in width (decimal n) ++ t) ≡ is_line t
past_right width n t =
    past_plain (right_in width (decimal n)) t (plain_more (replicate (width - length (decimal n)) 32) (decimal n) (plain_spaces (width - length (decimal n))) (plain_decimal n))

past_level : (l : Level) (t : List ℕ) → is_line (level_text l ++ t) ≡ is_line t
past_level High t = refl
past_level Soft t = refl
past_level Hard t = refl
past_level Low t = refl

plain_state : (s : VmState) → is_plain (state_text s) ≡ true
plain_state Starting = refl
plain_state Running = refl
plain_state Stopping = refl

past_state : (s : VmState) (t : List ℕ) → is_line (left_in 8 (state_text s) ++ t) ≡ is_line t
past_state s t =
    past_plain (left_in 8 (state_text s)) t
    (plain_more (state_text s) (replicate (8 - length (state_text s)) 32) (plain_state s) (plain_spaces (8 - length (state_text s))))

past_running : (r : Bool) (t : List ℕ) → is_line (running_text r ++ t) ≡ is_line t
past_running true t = refl
past_running false t = refl

pub sum_line : (sum : Sum) → is_line (sum_text sum) ≡ true
sum_line sum = simp (past_decimal, past_level)

pub refusal_line : (r : Refusal) → is_line (refusal_text r) ≡ true
refusal_line refusals.NoVm = simp past_decimal
refusal_line refusals.VmThere = simp past_decimal
refusal_line refusals.BadSpec = simp past_decimal
refusal_line refusals.NoMemoryReserve = simp past_decimal
refusal_line refusals.NoSwapReserve = simp past_decimal
refusal_line refusals.NotRunning = simp past_decimal
refusal_line refusals.OutOfRange = simp past_decimal
refusal_line refusals.Held = simp past_decimal
refusal_line refusals.Short = simp past_decimal
refusal_line refusals.OverGoal = simp past_decimal
refusal_line refusals.NotLent = simp past_decimal
refusal_line refusals.LentAlready = simp past_decimal
refusal_line (refusals.NotNow High) = simp past_decimal
refusal_line (refusals.NotNow Soft) = simp past_decimal
refusal_line (refusals.NotNow Hard) = simp past_decimal
refusal_line (refusals.NotNow Low) = simp past_decimal
refusal_line refusals.AtTarget = simp past_decimal
refusal_line refusals.NotResident = simp past_decimal
refusal_line refusals.BadWords = simp past_decimal
refusal_line refusals.NotNeeded = simp past_decimal
refusal_line refusals.PagesLeft = simp past_decimal
refusal_line refusals.NothingToUndo = simp past_decimal
refusal_line refusals.NothingToRedo = simp past_decimal
refusal_line refusals.NoSuchNode = simp past_decimal
refusal_line refusals.NameTaken = simp past_decimal
refusal_line refusals.NoSuchName = simp past_decimal
refusal_line refusals.OnPath = simp past_decimal
refusal_line refusals.Full = simp past_decimal
refusal_line refusals.OutOfMemory = simp past_decimal
refusal_line refusals.SampleOpen = simp past_decimal

looked_line : (l : Scanned) → is_line (looked_text l) ≡ true
looked_line looks.Hinted = refl
looked_line (looks.Shared frame count) = simp past_decimal
looked_line looks.Stale = refl
looked_line looks.Clash = refl
looked_line looks.Already = refl

pub answer_line : (a : Answer) → is_line (answer_text a) ≡ true
answer_line (answers.Admitted reserves) = simp past_decimal
answer_line (answers.Started running frame held overhead) = simp (past_decimal, past_running)
answer_line (answers.Bytes bytes) = simp past_hex
answer_line answers.Done = refl
answer_line (answers.Goal goal lent epoch) = simp past_decimal
answer_line (answers.Reset epoch) = simp past_decimal
answer_line (answers.Lent lent goal) = simp past_decimal
answer_line (answers.TakenBack lent) = simp past_decimal
answer_line (answers.Opened length pages) = simp past_decimal
answer_line (answers.Rebalanced need revoked) = simp past_decimal
answer_line (answers.Looked scanned) = looked_line scanned
answer_line (answers.PagedOut page slot) = simp past_decimal
answer_line (answers.SharedOut page frame) = simp past_decimal
answer_line (answers.Replaced page slot frame) = simp past_decimal
answer_line (answers.GivenBack held) = simp past_decimal
answer_line answers.Gone = refl

pub tried_line : (r : Result Answer Refusal) → is_line (tried_text r) ≡ true
tried_line (Ok answer) = answer_line answer
tried_line (Err refusal) = refusal_line refusal

pub page_line : (p : PageState) → is_line (page_text p) ≡ true
page_line pages.Untouched = refl
page_line (pages.Private frame) = simp past_decimal
page_line (pages.Hinted frame) = simp past_decimal
page_line (pages.Shared frame count) = simp past_decimal
page_line (pages.Out slot) = simp past_decimal
page_line pages.Lent = refl

pub help_line : (h : Help) → is_line (help_text h) ≡ true
help_line helps.Go = refl
help_line (helps.SwapOut vm) = simp past_decimal
help_line helps.Rebalance = refl
help_line helps.Replace = refl

pub head_line : is_line table_head ≡ true
head_line = refl

pub row_line : (row : TableRow) → is_line (row_text row) ≡ true
row_line row = simp (past_right, past_state)

pub marks_head_line : (count : ℕ) → is_line (marks_head count) ≡ true
marks_head_line count = simp past_decimal

pub mark_line : (row : NameRow) → IsName row.name → is_line (mark_text row) ≡ true
mark_line row is = past_plain row.name _ (plain_name row.name is) ∙ simp past_decimal

pub marked_line : (name : List ℕ) (node : ℕ) → IsName name → is_line (marked_text name node) ≡ true
marked_line name node is = past_plain name (codes " at " ++ (decimal node ++ 10 ∷ [])) (plain_name name is) ∙ simp past_decimal

pub sides_head_line : (count given : ℕ) → is_line (sides_head count given) ≡ true
sides_head_line count given = simp past_decimal

pub before_line : (sum : Sum) → is_line (before_text sum) ≡ true
before_line sum = sum_line sum

pub after_line : (sum : Sum) → is_line (after_text sum) ≡ true
after_line sum = sum_line sum

pub numbered_line : (n : ℕ) (r : Result Answer Refusal) → is_line (numbered_text n r) ≡ true
numbered_line n r =
    ap is_line (append_assoc (decimal n) (codes " ") (tried_text r)) ∙ past_decimal n (codes " " ++ tried_text r) ∙ tried_line r

pub stand_line : (stand : Stand) (jumps : ℕ) → is_line (stand_text stand jumps) ≡ true
stand_line stand jumps = simp past_decimal

pub pruned_line : (count : ℕ) → is_line (pruned_text count) ≡ true
pruned_line count = simp past_decimal

pub activity_line : (a : Activity) → is_line (activity_text a) ≡ true
activity_line a = simp past_decimal

-- a line begins with a byte, also one of a name that is not known to be one
named_some : (name t : List ℕ) → is_some (name ++ 32 ∷ t) ≡ true
named_some [] t = refl
named_some (b ∷ bs) t = refl

pub mark_some : (row : NameRow) → is_some (mark_text row) ≡ true
mark_some row = named_some row.name (decimal row.node ++ 10 ∷ [])

pub said_some : (s : Said) (jumps : ℕ) → is_some (said_text s jumps) ≡ true
said_some (said.Done answer) jumps = line_some (answer_text answer) (answer_line answer)
said_some (said.Refused refusal) jumps = refl
said_some (said.Stand stand) jumps = refl
said_some (said.Marked name node) jumps = refl
said_some (said.Pruned count) jumps = refl
said_some (said.Sides sides) jumps = refl
said_some (said.Sum sum) jumps = refl
said_some (said.Table rows sum) jumps = refl
said_some (said.Activity activity) jumps = refl
said_some (said.Page state) jumps = line_some (page_text state) (page_line state)
said_some (said.Help help) jumps = line_some (help_text help) (help_line help)
said_some (said.Marks marks) jumps = refl

-- behind each line another begins
pub row_closed : (s : List ℕ) (row : TableRow) → IsClosed s (row_text row)
row_closed s row = line_closed s (row_text row) (row_line row)

pub rows_closed : (s : List ℕ) (rows : List TableRow) → IsClosed s (flat_map row_text rows)
rows_closed s = all_closed s row_text (row_closed s)

pub mark_closed : (s : List ℕ) (row : NameRow) → IsClosed s (mark_text row)
mark_closed s row =
    feed_closed s (mark_text row) (row.name ++ (codes " " ++ decimal row.node))
    (sym (append_assoc row.name (codes " " ++ decimal row.node) (10 ∷ [])))

pub marks_closed : (s : List ℕ) (rows : List NameRow) → IsClosed s (flat_map mark_text rows)
marks_closed s = all_closed s mark_text (mark_closed s)

pub numbered_closed : (s : List ℕ) (n : ℕ) (r : Result Answer Refusal) → IsClosed s (numbered_text n r)
numbered_closed s n r = line_closed s (numbered_text n r) (numbered_line n r)

pub tried_closed : (s : List ℕ) (n : ℕ) (rs : List (Result Answer Refusal)) → IsClosed s (tried_texts n rs)
tried_closed s n [] y = refl
tried_closed s n (r ∷ rs) y = both_closed s (numbered_text n r) (tried_texts (n + 1) rs) (numbered_closed s n r) (tried_closed s (n + 1) rs) y

brief_line : (s : Said) (jumps : ℕ) → is_brief s ≡ true → is_line (said_text s jumps) ≡ true
brief_line (said.Done answer) jumps is = answer_line answer
brief_line (said.Refused refusal) jumps is = refusal_line refusal
brief_line (said.Stand stand) jumps is = stand_line stand jumps
brief_line (said.Marked name node) jumps is = absurd (cc)
brief_line (said.Pruned count) jumps is = pruned_line count
brief_line (said.Sides sides) jumps is = absurd (cc)
brief_line (said.Sum sum) jumps is = sum_line sum
brief_line (said.Table rows sum) jumps is = absurd (cc)
brief_line (said.Activity activity) jumps is = activity_line activity
brief_line (said.Page state) jumps is = page_line state
brief_line (said.Help help) jumps is = help_line help
brief_line (said.Marks marks) jumps is = absurd (cc)

-- what takes one line stands behind one sign
pub brief_behind : (s : Said) (jumps : ℕ) (sign : List ℕ) → is_brief s ≡ true → behind sign (said_text s jumps) ≡ sign ++ said_text s jumps
brief_behind s jumps sign is = line_behind sign (said_text s jumps) (brief_line s jumps is)
