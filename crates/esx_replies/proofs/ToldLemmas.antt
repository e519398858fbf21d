-- The text of each reply, as a session tells it.
use Rattle.std.proofs.Common.{◌≡◌, ◌+◌, ◌-◌, ◌/◌, ◌%◌, ◌<◌, ℕ, zero, suc, Bool, true, false, List, [], ◌∷◌, ◌++◌, refl, ◌∙◌, ap, append_assoc, codes, decimal, length, ◌==◌, ◌&&◌, if◌then◌else◌, Result, Ok, Err, arith}
use Rattle.std.specs.Prelude.{replicate, nat_lt, slice_index, nat_le, not}
use Rattle.std.specs.List.{flat_map, list_all, AllByRecursion}
use Rattle.std.specs.Fmt.{digits, digits_onto, digit_glyph}
use Rattle.std.proofs.lemmas.Bool.{and_parts, and_from, lt-ltb, ltb-true, eqb-true}
use Rattle.std.proofs.lemmas.Bool.Decides.{Decides-eqb}
use Rattle.std.proofs.Math.Dec.{eqb}
use Rattle.std.proofs.lemmas.List.Elements.{All-from_recursion}
use Rattle.std.proofs.lemmas.Str.Ascii.{IsAscii-from_all}
use Rattle.hex.specs.Hex.{encode_with, encode_lower, lower_digits}
use Rattle.esx_types.specs.declared.level.Level.{Level}
use Rattle.esx_types.specs.declared.level.Level.TheVariants.{High, Soft, Hard, Low}
use Rattle.esx_types.specs.declared.vm.VmState.{VmState}
use Rattle.esx_types.specs.declared.vm.VmState.TheVariants.{Starting, Running, Stopping}
use Rattle.esx_events.specs.Names.{IsName, is_name_byte, starts_lower}
use Rattle.esx_events.specs.declared.event.Answer.{Answer}
use Rattle.esx_events.specs.declared.event.Answer.TheVariants as answers
use Rattle.esx_events.specs.declared.event.Refusal.{Refusal}
use Rattle.esx_events.specs.declared.event.Refusal.TheVariants as refusals
use Rattle.esx_events.specs.declared.event.Scanned.{Scanned}
use Rattle.esx_events.specs.declared.event.Scanned.TheVariants as looks
use Rattle.esx_events.specs.declared.call.Said.{Said}
use Rattle.esx_events.specs.declared.call.Said.TheVariants as said
use Rattle.esx_events.specs.declared.call.Sum.{Sum}
use Rattle.esx_events.specs.declared.call.Sides.{Sides}
use Rattle.esx_events.specs.declared.call.Reply.{Reply}
use Rattle.esx_events.specs.declared.call.TableRow.{TableRow}
use Rattle.esx_events.specs.declared.call.NameRow.{NameRow}
use Rattle.esx_events.specs.declared.call.PageState.{PageState}
use Rattle.esx_events.specs.declared.call.PageState.TheVariants as pages
use Rattle.esx_events.specs.declared.call.Help.{Help}
use Rattle.esx_events.specs.declared.call.Help.TheVariants as helps
use Rattle.esx_events.specs.declared.name.TheConstants.{MAX_NAME}
use Rattle.esx_writing.specs.Writing.{right_in, left_in}
use Rattle.esx_replies.specs.Texts.{level_text, state_text, running_text, refusal_text, sum_text, marked_text, looked_text, page_text, help_text}
use Rattle.esx_replies.specs.Replies.{answer_text, tried_text, said_text, reply_text, table_head, row_text, table_text, marks_head, mark_text, marks_text, sides_head, before_text, after_text, sides_text, numbered_text, tried_texts, accepted}
use Rattle.esx_replies.specs.Told.{IsTold, HasNames}

abbrev is_told : ℕ → Bool
is_told b = nat_lt b 128 && not (b == 13)

-- all bytes are told, and the last, or where there is none the byte before the text, is a line feed
abbrev tells : ℕ → List ℕ → Bool
tells d [] = d == 10
tells d (b ∷ bs) = is_told b && tells b bs

abbrev last_or : ℕ → List ℕ → ℕ
last_or d [] = d
last_or d (b ∷ bs) = last_or b bs

past_told : (d : ℕ) (a t : List ℕ) → list_all is_told a ≡ true → tells d (a ++ t) ≡ tells (last_or d a) t
past_told d [] t h = refl
past_told d (b ∷ bs) t h =
    let p = and_parts (is_told b) (list_all is_told bs) h in
    ap (λ v. v && tells b (bs ++ t)) p.0 ∙ past_told b bs t p.1

told_more : (a t : List ℕ) → list_all is_told a ≡ true → list_all is_told t ≡ true → list_all is_told (a ++ t) ≡ true
told_more [] t h k = k
told_more (b ∷ bs) t h k =
    let p = and_parts (is_told b) (list_all is_told bs) h in
    and_from (is_told b) (list_all is_told (bs ++ t)) p.0 (told_more bs t p.1 k)

-- a text that goes on behind a line feed
told_rest : (d : ℕ) (x y : List ℕ) → tells d x ≡ true → tells 10 y ≡ true → tells d (x ++ y) ≡ true
told_rest d [] y h k = let e = eqb-true d 10 h in ap (λ b. tells b y) e ∙ k
told_rest d (b ∷ bs) y h k =
    let p = and_parts (is_told b) (tells b bs) h in
    and_from (is_told b) (tells b (bs ++ y)) p.0 (told_rest b bs y p.1 k)

not_match : (b c : ℕ) → (b ≡ c → ⊥) → eqb b c ≡ false
not_match b c ne = grind (arith, Decides-eqb b c)

byte_told : (b : ℕ) → b < 128 → (b ≡ 13 → ⊥) → is_told b ≡ true
byte_told b small other = and_from (nat_lt b 128) (not (b == 13)) (lt-ltb b 128 small) (ap not (not_match b 13 other))

told_spaces : (n : ℕ) → list_all is_told (replicate n 32) ≡ true
told_spaces zero = refl
told_spaces (suc n) = told_spaces n

glyph_is : (d : ℕ) → d < 10 → digit_glyph false d ≡ 48 + d
glyph_is d small = ap (λ v. if v then 48 + d else 87 + d) (lt-ltb d 10 small)

told_digit : (n : ℕ) (acc : List ℕ) → list_all is_told acc ≡ true → list_all is_told (digit_glyph false (n % 10) ∷ acc) ≡ true
told_digit n acc h =
    let e = glyph_is (n % 10) (omega arith) in
    and_from (is_told (digit_glyph false (n % 10))) (list_all is_told acc)
    (byte_told (digit_glyph false (n % 10)) (omega (arith, e)) (λ is. omega (arith, e, is))) h

told_onto : (k n : ℕ) (acc : List ℕ) → list_all is_told acc ≡ true → list_all is_told (digits_onto k 10 false n acc) ≡ true
told_onto zero n acc h = h
told_onto (suc k) n acc h =
    elim (n / 10 == 0) as (λ v. list_all is_told (if v then digit_glyph false (n % 10) ∷ acc else digits_onto k 10 false (n / 10) (digit_glyph false (n % 10) ∷ acc)) ≡ true) [
      | true ↦ told_digit n acc h
      | false ↦ told_onto k (n / 10) (digit_glyph false (n % 10) ∷ acc) (told_digit n acc h)
    ]

told_decimal : (n : ℕ) → list_all is_told (decimal n) ≡ true
unfolding digits
told_decimal n = told_onto 64 n [] refl

told_at : (xs : List ℕ) (i : ℕ) → list_all is_told xs ≡ true → is_told (slice_index xs i) ≡ true
told_at [] i h = refl
told_at (b ∷ bs) zero h = (and_parts (is_told b) (list_all is_told bs) h).0
told_at (b ∷ bs) (suc i) h = told_at bs i (and_parts (is_told b) (list_all is_told bs) h).1

told_hex : (bytes : List ℕ) → list_all is_told (encode_lower bytes) ≡ true
unfolding encode_with
told_hex [] = refl
told_hex (x ∷ xs) =
    and_from (is_told (slice_index lower_digits (x / 16))) _ (told_at lower_digits (x / 16) refl)
    (and_from (is_told (slice_index lower_digits (x % 16))) _ (told_at lower_digits (x % 16) refl) (told_hex xs))

name_small : (b : ℕ) → is_name_byte b ≡ true → b < 128
name_small b h = grind (arith)

name_other : is_name_byte 13 ≡ true → ⊥
name_other e = cc

name_told : (b : ℕ) → is_name_byte b ≡ true → is_told b ≡ true
name_told b h = byte_told b (name_small b h) (λ e. name_other (rw e at h))

told_bytes : (bs : List ℕ) → list_all is_name_byte bs ≡ true → list_all is_told bs ≡ true
told_bytes [] h = refl
told_bytes (b ∷ bs) h =
    let p = and_parts (is_name_byte b) (list_all is_name_byte bs) h in
    and_from (is_told b) (list_all is_told bs) (name_told b p.0) (told_bytes bs p.1)

told_name : (name : List ℕ) → IsName name → list_all is_told name ≡ true
told_name name h = told_bytes name (and_parts (starts_lower name && nat_le (length name) MAX_NAME) (list_all is_name_byte name) h).1

past_decimal : (d n : ℕ) (t : List ℕ) → tells d (decimal n ++ t) ≡ tells (last_or d (decimal n)) t
past_decimal d n t = past_told d (decimal n) t (told_decimal n)

past_hex : (d : ℕ) (bytes t : List ℕ) → tells d (encode_lower bytes ++ t) ≡ tells (last_or d (encode_lower bytes)) t
past_hex d bytes t = past_told d (encode_lower bytes) t (told_hex bytes)

past_right : (d width n : ℕ) (t : List ℕ) → tells d (right_in width (decimal n) ++ t) ≡ tells (last_or d (right_in width (decimal n))) t
past_right d width n t =
    past_told d (right_in width (decimal n)) t (told_more (replicate (width - length (decimal n)) 32) (decimal n) (told_spaces (width - length (decimal n))) (told_decimal n))

past_level : (d : ℕ) (l : Level) (t : List ℕ) → tells d (level_text l ++ t) ≡ tells (last_or d (level_text l)) t
past_level d High t = refl
past_level d Soft t = refl
past_level d Hard t = refl
past_level d Low t = refl

told_state : (s : VmState) → list_all is_told (state_text s) ≡ true
told_state Starting = refl
told_state Running = refl
told_state Stopping = refl

past_state : (d : ℕ) (s : VmState) (t : List ℕ) → tells d (left_in 8 (state_text s) ++ t) ≡ tells (last_or d (left_in 8 (state_text s))) t
past_state d s t =
    past_told d (left_in 8 (state_text s)) t
    (told_more (state_text s) (replicate (8 - length (state_text s)) 32) (told_state s) (told_spaces (8 - length (state_text s))))

past_running : (d : ℕ) (r : Bool) (t : List ℕ) → tells d (running_text r ++ t) ≡ tells (last_or d (running_text r)) t
past_running d true t = refl
past_running d false t = refl

sum_told : (d : ℕ) (sum : Sum) → tells d (sum_text sum) ≡ true
sum_told d sum = simp (past_decimal, past_level)

refusal_told : (d : ℕ) (r : Refusal) → tells d (refusal_text r) ≡ true
refusal_told d refusals.NoVm = simp past_decimal
refusal_told d refusals.VmThere = simp past_decimal
refusal_told d refusals.BadSpec = simp past_decimal
refusal_told d refusals.NoMemoryReserve = simp past_decimal
refusal_told d refusals.NoSwapReserve = simp past_decimal
refusal_told d refusals.NotRunning = simp past_decimal
refusal_told d refusals.OutOfRange = simp past_decimal
refusal_told d refusals.Held = simp past_decimal
refusal_told d refusals.Short = simp past_decimal
refusal_told d refusals.OverGoal = simp past_decimal
refusal_told d refusals.NotLent = simp past_decimal
refusal_told d refusals.LentAlready = simp past_decimal
refusal_told d (refusals.NotNow High) = simp past_decimal
refusal_told d (refusals.NotNow Soft) = simp past_decimal
refusal_told d (refusals.NotNow Hard) = simp past_decimal
refusal_told d (refusals.NotNow Low) = simp past_decimal
refusal_told d refusals.AtTarget = simp past_decimal
refusal_told d refusals.NotResident = simp past_decimal
refusal_told d refusals.BadWords = simp past_decimal
refusal_told d refusals.NotNeeded = simp past_decimal
refusal_told d refusals.PagesLeft = simp past_decimal
refusal_told d refusals.NothingToUndo = simp past_decimal
refusal_told d refusals.NothingToRedo = simp past_decimal
refusal_told d refusals.NoSuchNode = simp past_decimal
refusal_told d refusals.NameTaken = simp past_decimal
refusal_told d refusals.NoSuchName = simp past_decimal
refusal_told d refusals.OnPath = simp past_decimal
refusal_told d refusals.Full = simp past_decimal
refusal_told d refusals.OutOfMemory = simp past_decimal
refusal_told d refusals.SampleOpen = simp past_decimal

looked_told : (d : ℕ) (l : Scanned) → tells d (looked_text l) ≡ true
looked_told d looks.Hinted = refl
looked_told d (looks.Shared frame count) = simp past_decimal
looked_told d looks.Stale = refl
looked_told d looks.Clash = refl
looked_told d looks.Already = refl

answer_told : (d : ℕ) (a : Answer) → tells d (answer_text a) ≡ true
answer_told d (answers.Admitted reserves) = simp past_decimal
answer_told d (answers.Started running frame held overhead) = simp (past_decimal, past_running)
answer_told d (answers.Bytes bytes) = simp past_hex
answer_told d answers.Done = refl
answer_told d (answers.Goal goal lent epoch) = simp past_decimal
answer_told d (answers.Reset epoch) = simp past_decimal
answer_told d (answers.Lent lent goal) = simp past_decimal
answer_told d (answers.TakenBack lent) = simp past_decimal
answer_told d (answers.Opened length pages) = simp past_decimal
answer_told d (answers.Rebalanced need revoked) = simp past_decimal
answer_told d (answers.Looked scanned) = looked_told d scanned
answer_told d (answers.PagedOut page slot) = simp past_decimal
answer_told d (answers.SharedOut page frame) = simp past_decimal
answer_told d (answers.Replaced page slot frame) = simp past_decimal
answer_told d (answers.GivenBack held) = simp past_decimal
answer_told d answers.Gone = refl

tried_told : (d : ℕ) (r : Result Answer Refusal) → tells d (tried_text r) ≡ true
tried_told d (Ok answer) = answer_told d answer
tried_told d (Err refusal) = refusal_told d refusal

page_told : (d : ℕ) (p : PageState) → tells d (page_text p) ≡ true
page_told d pages.Untouched = refl
page_told d (pages.Private frame) = simp past_decimal
page_told d (pages.Hinted frame) = simp past_decimal
page_told d (pages.Shared frame count) = simp past_decimal
page_told d (pages.Out slot) = simp past_decimal
page_told d pages.Lent = refl

help_told : (d : ℕ) (h : Help) → tells d (help_text h) ≡ true
help_told d helps.Go = refl
help_told d (helps.SwapOut vm) = simp past_decimal
help_told d helps.Rebalance = refl
help_told d helps.Replace = refl

row_told : (d : ℕ) (row : TableRow) → tells d (row_text row) ≡ true
row_told d row = simp (past_right, past_state)

rows_told : (rows : List TableRow) → tells 10 (flat_map row_text rows) ≡ true
rows_told [] = refl
rows_told (row ∷ rows) = told_rest 10 (row_text row) (flat_map row_text rows) (row_told 10 row) (rows_told rows)

table_told : (rows : List TableRow) (sum : Sum) → tells 0 (table_text rows sum) ≡ true
table_told rows sum =
    told_rest 0 table_head (flat_map row_text rows ++ sum_text sum) refl
    (told_rest 10 (flat_map row_text rows) (sum_text sum) (rows_told rows) (sum_told 10 sum))

mark_told : (d : ℕ) (row : NameRow) → IsName row.name → tells d (mark_text row) ≡ true
mark_told d row is = past_told d row.name (codes " " ++ (decimal row.node ++ 10 ∷ [])) (told_name row.name is) ∙ simp past_decimal

mark_rows_told : (rows : List NameRow) → AllByRecursion (λ row. IsName row.name) rows → tells 10 (flat_map mark_text rows) ≡ true
mark_rows_told [] h = refl
mark_rows_told (row ∷ rows) h = told_rest 10 (mark_text row) (flat_map mark_text rows) (mark_told 10 row h.0) (mark_rows_told rows h.1)

marks_head_told : (count : ℕ) → tells 0 (marks_head count) ≡ true
marks_head_told count = simp past_decimal

marks_told : (rows : List NameRow) → AllByRecursion (λ row. IsName row.name) rows → tells 0 (marks_text rows) ≡ true
marks_told rows h = told_rest 0 (marks_head (length rows)) (flat_map mark_text rows) (marks_head_told (length rows)) (mark_rows_told rows h)

marked_told : (name : List ℕ) (node : ℕ) → IsName name → tells 0 (marked_text name node) ≡ true
marked_told name node is = past_told 32 name (codes " at " ++ (decimal node ++ 10 ∷ [])) (told_name name is) ∙ simp past_decimal

sides_head_told : (count given : ℕ) → tells 0 (sides_head count given) ≡ true
sides_head_told count given = simp past_decimal

numbered_told : (n : ℕ) (r : Result Answer Refusal) → tells 10 (numbered_text n r) ≡ true
numbered_told n r =
    ap (tells 10) (append_assoc (decimal n) (codes " ") (tried_text r)) ∙ past_decimal 10 n (codes " " ++ tried_text r) ∙ tried_told 32 r

all_tried_told : (n : ℕ) (rs : List (Result Answer Refusal)) → tells 10 (tried_texts n rs) ≡ true
all_tried_told n [] = refl
all_tried_told n (r ∷ rs) = told_rest 10 (numbered_text n r) (tried_texts (n + 1) rs) (numbered_told n r) (all_tried_told (n + 1) rs)

sides_told : (s : Sides) → tells 0 (sides_text s) ≡ true
sides_told s =
    told_rest 0 (sides_head (accepted s.replies) s.given) (before_text s.before ++ (tried_texts 1 s.replies ++ after_text s.after)) (sides_head_told (accepted s.replies) s.given)
    (told_rest 10 (before_text s.before) (tried_texts 1 s.replies ++ after_text s.after) (sum_told 32 s.before)
    (told_rest 10 (tried_texts 1 s.replies) (after_text s.after) (all_tried_told 1 s.replies) (sum_told 32 s.after)))

said_told : (s : Said) (jumps : ℕ) → HasNames s → tells 0 (said_text s jumps) ≡ true
said_told (said.Done answer) jumps h = answer_told 0 answer
said_told (said.Refused refusal) jumps h = refusal_told 0 refusal
said_told (said.Stand stand) jumps h = simp past_decimal
said_told (said.Marked name node) jumps h = marked_told name node h
said_told (said.Pruned count) jumps h = simp past_decimal
said_told (said.Sides sides) jumps h = sides_told sides
said_told (said.Sum sum) jumps h = sum_told 0 sum
said_told (said.Table rows sum) jumps h = table_told rows sum
said_told (said.Activity activity) jumps h = simp past_decimal
said_told (said.Page state) jumps h = page_told 0 state
said_told (said.Help help) jumps h = help_told 0 help
said_told (said.Marks marks) jumps h = marks_told marks h

-- what the test says
ends : (d b : ℕ) (bs : List ℕ) → tells d (b ∷ bs) ≡ true → (front : List ℕ) × (b ∷ bs ≡ front ++ 10 ∷ [])
ends d b [] h = let e = eqb-true b 10 (and_parts (is_told b) (b == 10) h).1 in ([], ap (λ x. x ∷ []) e)
ends d b (c ∷ cs) h =
    let more = ends b c cs (and_parts (is_told b) (tells b (c ∷ cs)) h).1 in
    (b ∷ more.0, ap (λ t. b ∷ t) more.1)

told_ended : (text : List ℕ) → tells 0 text ≡ true → (front : List ℕ) × (text ≡ front ++ 10 ∷ [])
told_ended [] h = absurd (cc)
told_ended (b ∷ bs) h = ends 0 b bs h

told_small : (d : ℕ) (text : List ℕ) → tells d text ≡ true → AllByRecursion (λ b. b < 128) text
told_small d [] h = tt
told_small d (b ∷ bs) h =
    let p = and_parts (is_told b) (tells b bs) h in
    (ltb-true b 128 (and_parts (nat_lt b 128) (not (b == 13)) p.0).0, told_small b bs p.1)

no_return_told : is_told 13 ≡ true → ⊥
no_return_told e = cc

told_other : (d : ℕ) (text : List ℕ) → tells d text ≡ true → AllByRecursion (λ b. b ≡ 13 → ⊥) text
told_other d [] h = tt
told_other d (b ∷ bs) h =
    let p = and_parts (is_told b) (tells b bs) h in
    (λ e. no_return_told (rw e at p.0), told_other b bs p.1)

pub reply_told : (reply : Reply) → HasNames reply.said → IsTold (reply_text reply)
reply_told reply h =
    let t = said_told reply.said reply.jumps h in
    record {
      ended = told_ended (reply_text reply) t;
      ascii = IsAscii-from_all (reply_text reply) (All-from_recursion (λ b. b < 128) (reply_text reply) (told_small 0 (reply_text reply) t));
      no_return = told_other 0 (reply_text reply) t;
    }
