-- Where the machine runs, the reads of the guest answer what they answer alone.
use Rattle.std.proofs.Common.{◌≡◌, ℕ, ◌+◌, ◌<◌, ◌≤◌, Bool, true, false, ◌&&◌, ◌==◌, List, [], ◌∷◌, ◌++◌, length, take, drop, refl, sym, ap, ◌∙◌, subst, arith, cond, Some, Ok, Err, ◌⊎◌, inl, inr, append_assoc}
use Rattle.std.specs.List.{AllByRecursion}
use Rattle.esx_types.specs.declared.config.Config.{Config}
use Rattle.esx_types.specs.declared.vm.VmState.TheVariants.{Running}
use Rattle.esx_events.specs.declared.event.Event.{Event}
use Rattle.esx_events.specs.declared.event.Event.TheVariants.{Admit, Start, Read, Write, Ask, Lend, TakeBack, Sample, Rebalance, Scan, SwapOut, Replace, SetShares, SetTax, SetVmTax, Stop, DropPage, Gone}
use Rattle.esx_events.specs.declared.event.Answer.{Answer}
use Rattle.esx_events.specs.declared.event.Answer.TheVariants as answers
use Rattle.esx_events.specs.declared.event.Refusal.{Refusal}
use Rattle.esx_events.specs.declared.event.Refusal.TheVariants.{Full}
use Rattle.esx_events.specs.declared.call.Call.{Call}
use Rattle.esx_events.specs.declared.call.Call.TheVariants as calls
use Rattle.esx_events.specs.declared.call.Help.{Help}
use Rattle.esx_events.specs.declared.call.Help.TheVariants as helps
use Rattle.esx_events.specs.declared.call.Line.{Line}
use Rattle.esx_events.specs.declared.call.Said.TheVariants as said
use Rattle.esx_model.specs.declared.scene.Scene.{Scene}
use Rattle.esx_model.specs.History.{History, done}
use Rattle.esx_model.specs.Replay.{next}
use Rattle.esx_model.specs.Advice.{IsNamedBy}
use Rattle.esx_model.specs.Console.{outcome, after}
use Rattle.esx_model.specs.event.Access.{overwritten}
use Rattle.esx_model.specs.Alone.{Contents, with_bytes, reads_from, is_written_first, IsTidy}
use Rattle.esx_model.specs.Memory.{Memory, memory_at, bytes_at, own, names, memory_after, touched, written, unless_reset, given_up, with_cell, blank}
use Rattle.esx_model.specs.Guests.{IsTraceEvent, IsTrace, IsWithin, is_access, is_wait, is_pressed, Stage, Send, Advise, Follow, page_of, waits, left_of, stage_of, IsGuestRun, left_after, read_answer, call_answer, reads_answered, DoesOrAsks, Leaves, lines_by, NeverFull}
use Rattle.esx_isolation.proofs.Turns.{named}
use Rattle.esx_isolation.proofs.Every.{every_event_turns, memory_below, read_told}
use Rattle.esx_isolation.proofs.guest.Histories.{Stands, IsFull, Refuses, Accepts, hear, done_stands, IsAsk, Kind, Does, Asks, kind_of, refused_silent}
use Rattle.esx_isolation.proofs.guest.Up as up
use Rattle.esx_isolation.proofs.guest.Up.{memory_whole, read_refused, write_refused, taken_back_lent}
use Rattle.esx_isolation.proofs.guest.Bytes.{Alike, alike_self, touched_alike, reset_alike, back_alike, lend_gives, Agrees, agrees_alike, agrees_read, after_read, after_other, after_lend, after_write, written_size}
use Rattle.esx_isolation.proofs.guest.Dead.{LeavesOne, leaves_memory, IsDead, NoRoom, named_silent, Follows, said_is}

-- The machine runs, and what is left of the trace reads alone what it reads there.
pub record IsLive (c : Config) (t : Scene) (n max : ℕ) (m : Contents) (left : List Event) : Type 0 where
  pub memory : Memory
  pub there : memory_at c t.site n ≡ Some memory
  pub up : memory.state ≡ Running
  pub size : length memory.pages ≡ max
  pub agrees : Agrees c memory m left

-- what is left of a trace
pub record IsRest (c : Config) (n max : ℕ) (left : List Event) : Type 0 where
  pub trace : IsTrace n left
  pub within : AllByRecursion (IsWithin c max) left
  pub tidy : IsTidy c left

tidy_rest : (c : Config) (e : Event) (es : List Event) → IsTidy c (e ∷ es) → IsTidy c es
tidy_rest c (Lend n page) es h = h.1
tidy_rest c (Admit n spec) es h = h
tidy_rest c (Start n) es h = h
tidy_rest c (Read n page at len) es h = h
tidy_rest c (Write n page at new) es h = h
tidy_rest c (Ask n) es h = h
tidy_rest c (TakeBack n page) es h = h
tidy_rest c (Sample n len words) es h = h
tidy_rest c Rebalance es h = h
tidy_rest c (Scan n page) es h = h
tidy_rest c (SwapOut n word) es h = h
tidy_rest c (Replace n page word) es h = h
tidy_rest c (SetShares n shares) es h = h
tidy_rest c (SetTax tau) es h = h
tidy_rest c (SetVmTax n tau) es h = h
tidy_rest c (Stop n) es h = h
tidy_rest c (DropPage n page) es h = h
tidy_rest c (Gone n) es h = h

rest_on : (c : Config) (n max : ℕ) (e : Event) (es : List Event) → IsRest c n max (e ∷ es) → IsRest c n max es
rest_on c n max e es r = record { trace = r.trace.1; within = r.within.1; tidy = tidy_rest c e es r.tidy }

-- what lines of the guest answer
pub record Answered (c : Config) (left : List Event) (stage : Stage) (m : Contents) (lines : List Line) : Type 0 where
  pub rest : List (List ℕ)
  pub is : reads_answered lines ++ rest ≡ reads_from left m
  pub all : NeverFull lines → left_after left stage lines ≡ [] → rest ≡ []

-- The memory after an event.

same_after : (c : Config) (t : Scene) (e : Event) (u : Scene) (a : Answer) (h : History) (n : ℕ) (x : Memory) → Stands c h t → next c t e ≡ Ok (a, u) → LeavesOne n e → memory_at c t.site n ≡ Some x → memory_at c u.site n ≡ Some x
same_after c t e u a h n x s goes leaves there = every_event_turns c t e (a, u) n s.sound (memory_below c t.site n x s.sound there) goes ∙ leaves_memory c n e (memory_at c t.site n) leaves ∙ there

own_after : (c : Config) (t : Scene) (e : Event) (u : Scene) (a : Answer) (h : History) (n : ℕ) (x : Memory) → Stands c h t → next c t e ≡ Ok (a, u) → names n e ≡ true → memory_at c t.site n ≡ Some x → memory_at c u.site n ≡ own c e (Some x)
unfolding memory_after
own_after c t e u a h n x s goes is_named there =
    every_event_turns c t e (a, u) n s.sound (memory_below c t.site n x s.sound there) goes ∙ ap (λ b. cond b (own c e (memory_at c t.site n)) (memory_at c t.site n)) is_named ∙ ap (own c e) there

live_alike : (c : Config) (t u : Scene) (n max : ℕ) (m : Contents) (left : List Event) (l : IsLive c t n max m left) (y : Memory) → memory_at c u.site n ≡ Some y → Alike c l.memory y → IsLive c u n max m left
live_alike c t u n max m left l y there same = record { memory = y; there = there; up = same.state ∙ l.up; size = same.size ∙ l.size; agrees = agrees_alike c l.memory y m left same l.agrees }

-- One line of the guest, and the ones after it.

module _ (c : Config) (n k max : ℕ) (h : History) (x : Line) (later : List Line) where
  -- how the later lines go on from the history after this one
  abbrev pub GoesOn : Type 0
  GoesOn = (t : Scene) (m : Contents) (left : List Event) (stage : Stage) → Stands c (after h x.call) t → IsLive c t n max m left → IsRest c n max left → IsGuestRun n left stage (lines_by k later)
      → Answered c left stage m (lines_by k later)

  goes_by : (left : List Event) (stage : Stage) (m : Contents) (t : Scene) (m' : Contents) (left' : List Event) (head : List (List ℕ)) → GoesOn → left' ≡ left_of left stage x.reply.said → Stands c (after h x.call) t → IsLive c t n max m' left'
      → IsRest c n max left' → ((xs : List (List ℕ)) → call_answer x.call x.reply.said xs ≡ head ++ xs) → head ++ reads_from left' m' ≡ reads_from left m
      → IsGuestRun n (left_of left stage x.reply.said) (stage_of left stage x.reply.said) (lines_by k later) → Answered c left stage m (x ∷ lines_by k later)
  goes_by left stage m t m' left' head go is stands live rest answers reads run =
      let l = left_of left stage x.reply.said in
      let P : List Event → Type 0 = IsLive c t n max m' in
      let Q : List Event → Type 0 = IsRest c n max in
      let r = go t m' l (stage_of left stage x.reply.said) stands (subst P is live) (subst Q is rest) run in
      let ys = reads_answered (lines_by k later) in
      record {
        rest = r.rest;
        is = ap (λ xs. xs ++ r.rest) (answers ys) ∙ append_assoc head ys r.rest ∙ ap (λ xs. head ++ xs) (r.is ∙ ap (λ e. reads_from e m') (sym is)) ∙ reads;
        all = λ never end. r.all never.1 end;
      }

  -- where the line is of no account
  passes_by : (left : List Event) (stage : Stage) (m : Contents) (t : Scene) → GoesOn → left ≡ left_of left stage x.reply.said → Stands c (after h x.call) t → IsLive c t n max m left
      → IsRest c n max left → ((xs : List (List ℕ)) → call_answer x.call x.reply.said xs ≡ xs)
      → IsGuestRun n (left_of left stage x.reply.said) (stage_of left stage x.reply.said) (lines_by k later) → Answered c left stage m (x ∷ lines_by k later)
  passes_by left stage m t go is stands live rest silent run = goes_by left stage m t m left [] go is stands live rest silent refl run

  -- A line of the trace that was refused.

  full_by : (e : Event) (es : List Event) (m : Contents) → x.call ≡ calls.Do e → x.reply.said ≡ said.Refused Full → reads_answered (lines_by k later) ≡ [] → Answered c (e ∷ es) Send m (x ∷ lines_by k later)
  full_by e es m is told none = record {
    rest = reads_from (e ∷ es) m;
    is = ap (λ xs. xs ++ reads_from (e ∷ es) m) (ap (λ call. call_answer call x.reply.said (reads_answered (lines_by k later))) is ∙ ap (λ s. read_answer e s (reads_answered (lines_by k later))) told
        ∙ refused_silent e Full (reads_answered (lines_by k later)) ∙ none);
    all = λ never end. absurd (never.0 told);
  }

  silent_as : (e : Event) → x.call ≡ calls.Do e → ((xs : List (List ℕ)) → read_answer e x.reply.said xs ≡ xs) → (xs : List (List ℕ)) → call_answer x.call x.reply.said xs ≡ xs
  silent_as e is silent xs = ap (λ call. call_answer call x.reply.said xs) is ∙ silent xs

  refused_as : (e : Event) (r : Refusal) → x.call ≡ calls.Do e → x.reply.said ≡ said.Refused r → (xs : List (List ℕ)) → call_answer x.call x.reply.said xs ≡ xs
  refused_as e r is told = silent_as e is (λ xs. ap (λ s. read_answer e s xs) told ∙ refused_silent e r xs)

  -- an access that has to wait
  waits_by : (e : Event) (es : List Event) (r : Refusal) (m : Contents) (t : Scene) → GoesOn → x.call ≡ calls.Do e → x.reply.said ≡ said.Refused r → (is_access e ≡ true) → is_pressed r ≡ true → Stands c (after h x.call) t → IsLive c t n max m (e ∷ es)
      → IsRest c n max (e ∷ es) → IsGuestRun n (left_of (e ∷ es) Send x.reply.said) (stage_of (e ∷ es) Send x.reply.said) (lines_by k later) → Answered c (e ∷ es) Send m (x ∷ lines_by k later)
  waits_by e es r m t go is told access pressed stands live rest run =
      let wait : waits e x.reply.said ≡ true = ap (λ s. is_access e && is_wait s) told ∙ ap (λ b. b && is_pressed r) access ∙ pressed in
      passes_by (e ∷ es) Send m t go (ap (λ b. cond b (e ∷ es) es) (sym wait)) stands live rest (refused_as e r is told) run

  -- an event that is passed over, or that reads nothing
  next_by : (e : Event) (es : List Event) (m m' : Contents) (t : Scene) (head : List (List ℕ)) → GoesOn → waits e x.reply.said ≡ false → Stands c (after h x.call) t → IsLive c t n max m' es → IsRest c n max (e ∷ es)
      → ((xs : List (List ℕ)) → call_answer x.call x.reply.said xs ≡ head ++ xs) → head ++ reads_from es m' ≡ reads_from (e ∷ es) m
      → IsGuestRun n (left_of (e ∷ es) Send x.reply.said) (stage_of (e ∷ es) Send x.reply.said) (lines_by k later) → Answered c (e ∷ es) Send m (x ∷ lines_by k later)
  next_by e es m m' t head go goes stands live rest silent reads run =
      goes_by (e ∷ es) Send m t m' es head go (ap (λ b. cond b (e ∷ es) es) (sym goes)) stands live (rest_on c n max e es rest) silent reads run

  -- Events of the trace, one kind after the other.

  asks_of : (t : Scene) (m : Contents) (left : List Event) (page at len : ℕ) → Stands c h t → (l : IsLive c t n max m left) → (page < max) → (1 ≤ len) → (at + len ≤ c.page) → up.Asks c t.site n l.memory page at len
  asks_of t m left page at len s l below some fits = record { sound = s.sound; memory = l.there; up = l.up; below = (let size = l.size in omega (arith, below, size)); some = some; fits = fits }

  stays_with : (t : Scene) (e : Event) → x.call ≡ calls.Do e → Stands c h t → after h (calls.Do e) ≡ h → Stands c (after h x.call) t
  stays_with t e is s stays = (let P : History → Type 0 = λ w. Stands c w t in subst P (sym (ap (after h) is ∙ stays)) s)

  goes_with : (t u : Scene) (a : Answer) (e : Event) → x.call ≡ calls.Do e → Stands c h t → after h (calls.Do e) ≡ done e h → next c t e ≡ Ok (a, u) → Stands c (after h x.call) u
  goes_with t u a e is s goes k = (let P : History → Type 0 = λ w. Stands c w u in subst P (sym (ap (after h) is ∙ goes)) (done_stands c e h t u a s k))

  read_accepted : (page at len : ℕ) (es : List Event) (m : Contents) (t u : Scene) (a : Answer) → GoesOn → x.call ≡ calls.Do (Read n page at len) → x.reply.said ≡ said.Done a → Stands c h t → Stands c (after h x.call) u
      → next c t (Read n page at len) ≡ Ok (a, u) → IsLive c t n max m (Read n page at len ∷ es) → IsRest c n max (Read n page at len ∷ es)
      → IsGuestRun n (left_of (Read n page at len ∷ es) Send x.reply.said) (stage_of (Read n page at len ∷ es) Send x.reply.said) (lines_by k later) → Answered c (Read n page at len ∷ es) Send m (x ∷ lines_by k later)
  unfolding reads_from
  read_accepted page at len es m t u a go is told s stands goes l rest run =
      let e : Event = Read n page at len in
      let tells = read_told c t n page at len a u goes in
      let same : tells.0 ≡ l.memory = one tells.0 l.memory (sym tells.1 ∙ l.there) in
      let bytes : bytes_at c tells.0 page ≡ m page = ap (λ y. bytes_at c y page) same ∙ agrees_read c l.memory m n page at len es l.agrees in
      let answer : a ≡ answers.Bytes (take len (drop at (m page))) = tells.2 ∙ ap (λ b. answers.Bytes (take len (drop at b))) bytes in
      let memory : memory_at c u.site n ≡ Some (touched c page l.memory) = own_after c t e u a h n l.memory s goes (named n n refl) l.there in
      let alike = touched_alike c page l.memory in
      let live : IsLive c u n max m es = record {
        memory = touched c page l.memory;
        there = memory;
        up = l.up;
        size = alike.size ∙ l.size;
        agrees = agrees_alike c l.memory (touched c page l.memory) m es alike (after_read c l.memory m n page at len es l.agrees);
      } in
      next_by e es m m u (take len (drop at (m page)) ∷ []) go (ap (λ w. waits e w) told) stands live rest
      (λ xs. ap (λ call. call_answer call x.reply.said xs) is ∙ ap (λ w. read_answer e w xs) (told ∙ ap said.Done answer)) refl run
    where
      one : (y z : Memory) → Some y ≡ Some z → y ≡ z
      one y z e = cc

  write_accepted : (page at : ℕ) (new : List ℕ) (es : List Event) (m : Contents) (t u : Scene) (a : Answer) → GoesOn → x.call ≡ calls.Do (Write n page at new) → x.reply.said ≡ said.Done a → Stands c h t → Stands c (after h x.call) u
      → next c t (Write n page at new) ≡ Ok (a, u) → IsLive c t n max m (Write n page at new ∷ es) → IsRest c n max (Write n page at new ∷ es)
      → IsGuestRun n (left_of (Write n page at new ∷ es) Send x.reply.said) (stage_of (Write n page at new ∷ es) Send x.reply.said) (lines_by k later) → Answered c (Write n page at new ∷ es) Send m (x ∷ lines_by k later)
  unfolding reads_from
  write_accepted page at new es m t u a go is told s stands goes l rest run =
      let e : Event = Write n page at new in
      let within = rest.within.0 in
      let size = l.size in
      let low = within.0 in
      let below : page < length l.memory.pages = omega (arith, low, size) in
      let memory : memory_at c u.site n ≡ Some (written c page at new l.memory) = own_after c t e u a h n l.memory s goes (named n n refl) l.there in
      let live : IsLive c u n max (with_bytes m page (overwritten (m page) at new)) es = record {
        memory = written c page at new l.memory;
        there = memory;
        up = l.up;
        size = written_size c page at new l.memory ∙ l.size;
        agrees = after_write c l.memory m n page at new es below within.2 (memory_whole c t.site n l.memory s.sound l.there page) l.agrees;
      } in
      next_by e es m (with_bytes m page (overwritten (m page) at new)) u [] go (ap (λ w. waits e w) told) stands live rest (silent_as e is (λ xs. refl)) refl run

  -- an event that is no access: accepted with these bytes, or refused
  other_by : (e : Event) (es : List Event) (m : Contents) (u : Scene) → GoesOn → is_access e ≡ false → ((q : ℕ) → is_written_first c q (e ∷ es) ≡ is_written_first c q es) → reads_from es m ≡ reads_from (e ∷ es) m
      → ((xs : List (List ℕ)) → call_answer x.call x.reply.said xs ≡ xs) → Stands c (after h x.call) u → IsLive c u n max m es → IsRest c n max (e ∷ es)
      → IsGuestRun n (left_of (e ∷ es) Send x.reply.said) (stage_of (e ∷ es) Send x.reply.said) (lines_by k later) → Answered c (e ∷ es) Send m (x ∷ lines_by k later)
  other_by e es m u go idle same reads silent stands live rest run =
      next_by e es m m u [] go (ap (λ b. b && is_wait x.reply.said) idle) stands live rest silent reads run

  abbrev live_on : (t : Scene) (m : Contents) (e : Event) (es : List Event) → ((q : ℕ) → is_written_first c q (e ∷ es) ≡ is_written_first c q es) → IsLive c t n max m (e ∷ es) → IsLive c t n max m es
  live_on t m e es same l = record { memory = l.memory; there = l.there; up = l.up; size = l.size; agrees = after_other c l.memory m e es same l.agrees }

  -- A line of the trace, heard.

  abbrev pub IsOver : Type 0
  IsOver = IsDead c (after h x.call) n → reads_answered (lines_by k later) ≡ []

  heard_line : (e : Event) (es : List Event) (m : Contents) (t : Scene) → IsOver → x.call ≡ calls.Do e → x.reply.said ≡ (outcome h x.call).0 → Stands c h t
      → ((r : Refusal) → x.reply.said ≡ said.Refused r → next c t e ≡ Err r → Stands c (after h x.call) t → Answered c (e ∷ es) Send m (x ∷ lines_by k later))
      → ((u : Scene) (a : Answer) → x.reply.said ≡ said.Done a → next c t e ≡ Ok (a, u) → Stands c (after h x.call) u → Answered c (e ∷ es) Send m (x ∷ lines_by k later))
      → Refuses c h t e ⊎ Accepts c h t e → Answered c (e ∷ es) Send m (x ∷ lines_by k later)
  heard_line e es m t over is told s on_err on_ok (inl r) =
      let tells : x.reply.said ≡ said.Refused r.refusal = told ∙ ap (λ call. (outcome h call).0) is ∙ r.told in
      elim r.why [
        | inl w ↦ (let P : History → Type 0 = IsFull in
            let dead : IsDead c (after h x.call) n = NoRoom (subst P (sym (ap (after h) is ∙ r.stays)) w.0) in
            full_by e es m is (tells ∙ ap said.Refused w.1) (over dead))
        | inr w ↦ on_err r.refusal tells w (stays_with t e is s r.stays)
      ]
  heard_line e es m t over is told s on_err on_ok (inr a) = on_ok a.scene a.answer (told ∙ ap (λ call. (outcome h call).0) is ∙ a.told) a.is (goes_with t a.scene a.answer e is s a.goes a.is)

  abbrev pub SendLine : Scene → Contents → List Event → Event → Type 0
  SendLine t m es e = GoesOn → IsOver → x.call ≡ calls.Do e → x.reply.said ≡ (outcome h x.call).0 → Stands c h t → IsLive c t n max m (e ∷ es) → IsRest c n max (e ∷ es)
      → IsGuestRun n (left_of (e ∷ es) Send x.reply.said) (stage_of (e ∷ es) Send x.reply.said) (lines_by k later) → Answered c (e ∷ es) Send m (x ∷ lines_by k later)

  send_read : (t : Scene) (m : Contents) (es : List Event) (page at len : ℕ) → SendLine t m es (Read n page at len)
  send_read t m es page at len go over is told s l rest run =
      let e : Event = Read n page at len in
      let w = rest.within.0 in
      heard_line e es m t over is told s
      (λ r tells err stands. waits_by e es r m t go is tells refl (read_refused c t n page at len l.memory r (asks_of t m (e ∷ es) page at len s l w.0 w.1 w.2) err) stands l rest run)
      (λ u a tells goes stands. read_accepted page at len es m t u a go is tells s stands goes l rest run) (hear c h t e s)

  send_write : (t : Scene) (m : Contents) (es : List Event) (page at : ℕ) (new : List ℕ) → SendLine t m es (Write n page at new)
  send_write t m es page at new go over is told s l rest run =
      let e : Event = Write n page at new in
      let w = rest.within.0 in
      heard_line e es m t over is told s
      (λ r tells err stands. waits_by e es r m t go is tells refl (write_refused c t n page at new l.memory r (asks_of t m (e ∷ es) page at (length new) s l w.0 w.1 w.2) err) stands l rest run)
      (λ u a tells goes stands. write_accepted page at new es m t u a go is tells s stands goes l rest run) (hear c h t e s)

  send_ask : (t : Scene) (m : Contents) (es : List Event) → SendLine t m es (Ask n)
  unfolding is_written_first reads_from
  send_ask t m es go over is told s l rest run =
      let e : Event = Ask n in
      heard_line e es m t over is told s
      (λ r tells err stands. other_by e es m t go refl (λ q. refl) refl (refused_as e r is tells) stands (live_on t m e es (λ q. refl) l) rest run)
      (λ u a tells goes stands. other_by e es m u go refl (λ q. refl) refl (silent_as e is (λ xs. refl)) stands
      (live_alike c t u n max m es (live_on t m e es (λ q. refl) l) (unless_reset (λ y. y) l.memory) (own_after c t e u a h n l.memory s goes (named n n refl) l.there)
      (reset_alike c l.memory (λ y. y) (λ d. alike_self c l.memory))) rest run) (hear c h t e s)

  send_lend : (t : Scene) (m : Contents) (es : List Event) (page : ℕ) → SendLine t m es (Lend n page)
  unfolding is_written_first reads_from
  send_lend t m es page go over is told s l rest run =
      let e : Event = Lend n page in
      let before = live_on t m e es (λ q. refl) l in
      let gave = lend_gives c page l.memory in
      heard_line e es m t over is told s
      (λ r tells err stands. other_by e es m t go refl (λ q. refl) refl (refused_as e r is tells) stands before rest run)
      (λ u a tells goes stands. other_by e es m u go refl (λ q. refl) refl (silent_as e is (λ xs. refl)) stands
      (record {
        memory = unless_reset (given_up c page) l.memory;
        there = own_after c t e u a h n l.memory s goes (named n n refl) l.there;
        up = gave.state ∙ l.up;
        size = gave.size ∙ l.size;
        agrees = after_lend c l.memory (unless_reset (given_up c page) l.memory) m page es gave rest.tidy.0 before.agrees;
      }) rest run) (hear c h t e s)

  send_back : (t : Scene) (m : Contents) (es : List Event) (page : ℕ) → SendLine t m es (TakeBack n page)
  unfolding is_written_first reads_from
  send_back t m es page go over is told s l rest run =
      let e : Event = TakeBack n page in
      let before = live_on t m e es (λ q. refl) l in
      heard_line e es m t over is told s
      (λ r tells err stands. other_by e es m t go refl (λ q. refl) refl (refused_as e r is tells) stands before rest run)
      (λ u a tells goes stands. other_by e es m u go refl (λ q. refl) refl (silent_as e is (λ xs. refl)) stands
      (live_alike c t u n max m es before (unless_reset (with_cell page (blank c)) l.memory) (own_after c t e u a h n l.memory s goes (named n n refl) l.there)
      (back_alike c page l.memory (taken_back_lent c t n page l.memory (a, u) l.there goes))) rest run) (hear c h t e s)

  send_line : (t : Scene) (m : Contents) (es : List Event) (e : Event) → IsTraceEvent n e → SendLine t m es e
  send_line t m es (Read vm page at len) is = (let P : ℕ → Type 0 = λ v. SendLine t m es (Read v page at len) in subst P (sym is) (send_read t m es page at len))
  send_line t m es (Write vm page at new) is = (let P : ℕ → Type 0 = λ v. SendLine t m es (Write v page at new) in subst P (sym is) (send_write t m es page at new))
  send_line t m es (Ask vm) is = (let P : ℕ → Type 0 = λ v. SendLine t m es (Ask v) in subst P (sym is) (send_ask t m es))
  send_line t m es (Lend vm page) is = (let P : ℕ → Type 0 = λ v. SendLine t m es (Lend v page) in subst P (sym is) (send_lend t m es page))
  send_line t m es (TakeBack vm page) is = (let P : ℕ → Type 0 = λ v. SendLine t m es (TakeBack v page) in subst P (sym is) (send_back t m es page))
  send_line t m es _ is = absurd is

  -- A line for help.

  -- an event that leaves the machine's bytes
  abbrev pub Harms : Scene → Event → Type 0
  Harms t f = (u : Scene) (a : Answer) (y : Memory) → next c t f ≡ Ok (a, u) → memory_at c t.site n ≡ Some y → (z : Memory) × (memory_at c u.site n ≡ Some z) × Alike c y z

  follow_heard : (left : List Event) (stage : Stage) (m : Contents) (t : Scene) (f : Event) → GoesOn → left ≡ left_of left stage x.reply.said → x.call ≡ calls.Do f → ((xs : List (List ℕ)) → call_answer x.call x.reply.said xs ≡ xs) → Stands c h t
      → IsLive c t n max m left → IsRest c n max left → Harms t f → IsGuestRun n (left_of left stage x.reply.said) (stage_of left stage x.reply.said) (lines_by k later) → Refuses c h t f ⊎ Accepts c h t f → Answered c left stage m (x ∷ lines_by k later)
  follow_heard left stage m t f go same is silent s l rest harms run (inl r) = passes_by left stage m t go same (stays_with t f is s r.stays) l rest silent run
  follow_heard left stage m t f go same is silent s l rest harms run (inr a) =
      let z = harms a.scene a.answer l.memory a.is l.there in
      passes_by left stage m a.scene go same (goes_with t a.scene a.answer f is s a.goes a.is) (live_alike c t a.scene n max m left l z.0 z.1 z.2) rest silent run

  left_harmless : (t : Scene) (f : Event) → Stands c h t → LeavesOne n f → Harms t f
  left_harmless t f s leaves u a y goes there = (y, same_after c t f u a h n y s goes leaves there, alike_self c y)

  named_harmless : (t : Scene) (page : ℕ) (help : Help) (f : Event) → Stands c h t → IsNamedBy n page help f → Harms t f
  named_harmless t page helps.Go f s is = absurd is
  named_harmless t page (helps.SwapOut j) f s is = (let P : Event → Type 0 = Harms t in subst P (sym is.1) (left_harmless t (SwapOut j is.0) s (λ d. refl)))
  named_harmless t page helps.Rebalance f s is = (let P : Event → Type 0 = Harms t in subst P (sym is) (left_harmless t Rebalance s (λ d. cc)))
  named_harmless t page helps.Replace f s is =
      let P : Event → Type 0 = Harms t in
      let e : Event = Replace n page is.0 in
      subst P (sym is.1) (λ u a y goes there. (touched c page y, own_after c t e u a h n y s goes (named n n refl) there, touched_alike c page y))

  asked_stays : (call : Call) → Kind call → call ≡ x.call → ((f : Event) → x.call ≡ calls.Do f → ⊥) → IsAsk x.call
  asked_stays call (Does f is) same never = absurd (never f (sym same ∙ is))
  asked_stays call (Asks a) same never = (let P : Call → Type 0 = IsAsk in subst P same a)

  own_line : (left : List Event) (stage : Stage) (m : Contents) (t : Scene) → GoesOn → IsOver → x.reply.said ≡ (outcome h x.call).0 → DoesOrAsks x.call → Stands c h t → IsLive c t n max m left → IsRest c n max left
      → IsGuestRun n left stage (x ∷ lines_by k later) → Answered c left stage m (x ∷ lines_by k later)
  own_line [] stage m t go over told does s l rest run = absurd run.0
  own_line (e ∷ es) Send m t go over told does s l rest run = send_line t m es e rest.trace.0 go over run.0 told s l rest run.1
  own_line (e ∷ es) Advise m t go over told does s l rest run =
      let ask = asked_stays x.call (kind_of x.call does) refl (λ f d. (let no = sym run.0 ∙ d in cc)) in
      let P : History → Type 0 = λ w. Stands c w t in
      passes_by (e ∷ es) Advise m t go refl (subst P (sym (ask.stays h)) s) l rest (λ xs. ask.silent x.reply.said xs) run.1
  own_line (e ∷ es) (Follow help) m t go over told does s l rest run =
      let f = run.0.0 in
      follow_heard (e ∷ es) (Follow help) m t f go refl run.0.1 (silent_as f run.0.1 (λ xs. named_silent n (page_of e) help f x.reply.said xs run.0.2)) s l rest (named_harmless t (page_of e) help f s run.0.2) run.1 (hear c h t f s)

  -- A line of another.

  other_heard : (left : List Event) (stage : Stage) (m : Contents) (t : Scene) (e : Event) → GoesOn → x.call ≡ calls.Do e → Stands c h t → IsLive c t n max m left → IsRest c n max left → LeavesOne n e → IsGuestRun n left stage (lines_by k later)
      → Refuses c h t e ⊎ Accepts c h t e → Answered c left stage m (lines_by k later)
  other_heard left stage m t e go is s l rest leaves run (inl r) = go t m left stage (stays_with t e is s r.stays) l rest run
  other_heard left stage m t e go is s l rest leaves run (inr a) =
      go a.scene m left stage (goes_with t a.scene a.answer e is s a.goes a.is)
      (live_alike c t a.scene n max m left l l.memory (same_after c t e a.scene a.answer h n l.memory s a.is leaves l.there) (alike_self c l.memory)) rest run

  other_line : (left : List Event) (stage : Stage) (m : Contents) (t : Scene) → GoesOn → Leaves n x.call → Kind x.call → Stands c h t → IsLive c t n max m left → IsRest c n max left → IsGuestRun n left stage (lines_by k later)
      → Answered c left stage m (lines_by k later)
  other_line left stage m t go leaves (Asks a) s l rest run = (let P : History → Type 0 = λ w. Stands c w t in go t m left stage (subst P (sym (a.stays h)) s) l rest run)
  other_line left stage m t go leaves (Does e is) s l rest run = (let P : Call → Type 0 = Leaves n in other_heard left stage m t e go is s l rest (subst P is leaves) run (hear c h t e s))

  pub line_by : (left : List Event) (stage : Stage) (m : Contents) (t : Scene) (b : Bool) → (x.caller == k) ≡ b → GoesOn → IsOver → Follows n k h (x ∷ later) → Stands c h t → IsLive c t n max m left → IsRest c n max left
      → IsGuestRun n left stage (cond b (x ∷ lines_by k later) (lines_by k later)) → Answered c left stage m (cond b (x ∷ lines_by k later) (lines_by k later))
  line_by left stage m t true own go over f s l rest run = own_line left stage m t go over (said_is n k h x later f) f.does.0 s l rest run
  line_by left stage m t false own go over f s l rest run = other_line left stage m t go (f.others.0 own) (kind_of x.call f.does.0) s l rest run
