-- Guests among others: traces, the lines of a guest, what its reads answer, and what the others may do.
use Rattle.std.specs.Prelude.{◌≡◌, ℕ, ◌+◌, ◌<◌, ◌≤◌, ◌==◌, ◌&&◌, Bool, true, false, List, [], ◌∷◌, length, filter, if◌then◌else◌}
use Rattle.std.specs.List.{AllByRecursion}
use Rattle.esx_types.specs.declared.config.Config.{Config}
use Rattle.esx_events.specs.declared.event.Event.{Event}
use Rattle.esx_events.specs.declared.event.Event.TheVariants.{Admit, Start, Read, Write, Ask, Lend, TakeBack}
use Rattle.esx_events.specs.declared.event.Answer.TheVariants as answers
use Rattle.esx_events.specs.declared.event.Refusal.{Refusal}
use Rattle.esx_events.specs.declared.event.Refusal.TheVariants.{Held, Short, Full}
use Rattle.esx_events.specs.declared.call.Call.{Call}
use Rattle.esx_events.specs.declared.call.Call.TheVariants as calls
use Rattle.esx_events.specs.declared.call.Help.{Help}
use Rattle.esx_events.specs.declared.call.Help.TheVariants as helps
use Rattle.esx_events.specs.declared.call.Line.{Line}
use Rattle.esx_events.specs.declared.call.Said.{Said}
use Rattle.esx_events.specs.declared.call.Said.TheVariants as said
use Rattle.esx_model.specs.Advice.{IsNamedBy}
use Rattle.esx_model.specs.Memory.{names, is_left_out}

-- Traces.

-- an event of a trace of machine n
abbrev pub IsTraceEvent : ℕ → Event → Type 0
IsTraceEvent n (Read vm page at len) = vm ≡ n
IsTraceEvent n (Write vm page at new) = vm ≡ n
IsTraceEvent n (Ask vm) = vm ≡ n
IsTraceEvent n (Lend vm page) = vm ≡ n
IsTraceEvent n (TakeBack vm page) = vm ≡ n
IsTraceEvent n _ = ⊥

abbrev pub IsTrace : ℕ → List Event → Type 0
IsTrace n trace = AllByRecursion (IsTraceEvent n) trace

-- it is within a machine of so many pages
abbrev pub IsWithin : Config → ℕ → Event → Type 0
IsWithin c max (Read vm page at len) = (page < max) × (1 ≤ len) × (at + len ≤ c.page)
IsWithin c max (Write vm page at new) = (page < max) × (1 ≤ length new) × (at + length new ≤ c.page)
IsWithin c max _ = Unit {0}

-- Runs.

abbrev pub is_access : Event → Bool
is_access (Read vm page at len) = true
is_access (Write vm page at new) = true
is_access _ = false

abbrev pub page_of : Event → ℕ
page_of (Read vm page at len) = page
page_of (Write vm page at new) = page
page_of (Lend vm page) = page
page_of (TakeBack vm page) = page
page_of _ = 0

abbrev pub is_pressed : Refusal → Bool
is_pressed Held = true
is_pressed Short = true
is_pressed _ = false

abbrev pub is_wait : Said → Bool
is_wait (said.Refused e) = is_pressed e
is_wait _ = false

-- what a guest does next: it sends an event of its trace, asks for advice, or sends what was advised
pub data Stage : Type 0 where
  Send : Stage
  Advise : Stage
  Follow : Help → Stage

abbrev pub IsAskedFor : ℕ → Event → Stage → Call → Type 0
IsAskedFor n e Send call = call ≡ calls.Do e
IsAskedFor n e Advise call = call ≡ calls.Advise n (page_of e)
IsAskedFor n e (Follow h) call = (f : Event) × (call ≡ calls.Do f) × IsNamedBy n (page_of e) h f

-- the call of a guest that has this left of its trace
abbrev pub IsAskedAt : ℕ → List Event → Stage → Call → Type 0
IsAskedAt n [] stage call = ⊥
IsAskedAt n (e ∷ es) stage call = IsAskedFor n e stage call

-- an access that has to wait is sent again
abbrev pub waits : Event → Said → Bool
waits e s = is_access e && is_wait s

abbrev pub left_of : List Event → Stage → Said → List Event
left_of [] stage s = []
left_of (e ∷ es) Send s = if waits e s then e ∷ es else es
left_of (e ∷ es) Advise s = e ∷ es
left_of (e ∷ es) (Follow h) s = e ∷ es

abbrev pub followed : Help → Stage
followed helps.Go = Send
followed (helps.SwapOut m) = Follow (helps.SwapOut m)
followed helps.Rebalance = Follow helps.Rebalance
followed helps.Replace = Follow helps.Replace

abbrev pub stage_by : Said → Stage
stage_by (said.Help h) = followed h
stage_by _ = Send

abbrev pub stage_of : List Event → Stage → Said → Stage
stage_of [] stage s = Send
stage_of (e ∷ es) Send s = if waits e s then Advise else Send
stage_of (e ∷ es) Advise s = stage_by s
stage_of (e ∷ es) (Follow h) s = Send

-- The lines of a guest: its trace's events in order, an access that has to wait again after advice and what is advised. It may stop after any line.
abbrev pub IsGuestRun : ℕ → List Event → Stage → List Line → Type 0
IsGuestRun n left stage [] = Unit {0}
IsGuestRun n left stage (x ∷ xs) = IsAskedAt n left stage x.call × IsGuestRun n (left_of left stage x.reply.said) (stage_of left stage x.reply.said) xs

-- what is left of the trace after them
abbrev pub left_after : List Event → Stage → List Line → List Event
left_after left stage [] = left
left_after left stage (x ∷ xs) = left_after (left_of left stage x.reply.said) (stage_of left stage x.reply.said) xs

-- What is answered.

abbrev pub read_answer : Event → Said → List (List ℕ) → List (List ℕ)
read_answer (Read vm page at len) (said.Done (answers.Bytes bytes)) later = bytes ∷ later
read_answer _ _ later = later

abbrev pub call_answer : Call → Said → List (List ℕ) → List (List ℕ)
call_answer (calls.Do e) s later = read_answer e s later
call_answer _ s later = later

-- what the accepted reads of some lines answered, in order
abbrev pub reads_answered : List Line → List (List ℕ)
reads_answered [] = []
reads_answered (x ∷ xs) = call_answer x.call x.reply.said (reads_answered xs)

-- Others.

abbrev pub DoesOrAsks : Call → Type 0
DoesOrAsks (calls.Do e) = Unit {0}
DoesOrAsks (calls.Undo k) = ⊥
DoesOrAsks (calls.Redo k) = ⊥
DoesOrAsks (calls.Goto n) = ⊥
DoesOrAsks (calls.Visit name) = ⊥
DoesOrAsks (calls.Mark name) = ⊥
DoesOrAsks (calls.Prune n) = ⊥
DoesOrAsks _ = Unit {0}

abbrev pub is_opening : Event → Bool
is_opening (Admit n spec) = true
is_opening (Start n) = true
is_opening _ = false

-- an admission or a start
abbrev pub Opens : Call → Type 0
Opens (calls.Do e) = is_opening e ≡ true
Opens _ = ⊥

-- of machine n it names no more than scans, swap outs, samples and shares
abbrev pub Leaves : ℕ → Call → Type 0
Leaves n (calls.Do e) = names n e ≡ true → is_left_out e ≡ true
Leaves n _ = Unit {0}

abbrev pub lines_by : ℕ → List Line → List Line
lines_by k log = filter (λ x. x.caller == k) log

-- nothing was refused for want of node numbers
abbrev pub NeverFull : List Line → Type 0
NeverFull lines = AllByRecursion (λ x. x.reply.said ≡ said.Refused Full → ⊥) lines
