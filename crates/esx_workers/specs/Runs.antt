-- The lines of a worker's run, and why it ended.
use Rattle.std.specs.Prelude.{◌≡◌, ◌≢◌, ◌⊎◌, ℕ, true, ◌+◌, ◌<◌, ◌≤◌, Bool, List, [], ◌∷◌, ◌++◌, length, count_by, Option, Some, None}
use Rattle.esx_events.specs.declared.call.Call.{Call}
use Rattle.esx_events.specs.declared.call.Reply.{Reply}
use Rattle.esx_events.specs.declared.call.Line.{Line}
use Rattle.esx_door.specs.Calls.{AreMade}
use Rattle.esx_door.specs.Gates.{LetThrough, GaveUp}
use Rattle.esx_workers.specs.declared.end.How.{How}
use Rattle.esx_workers.specs.declared.end.How.TheVariants.{Rewound, Turns}
use Rattle.esx_workers.specs.declared.end.End.{End}
use Rattle.esx_workers.specs.declared.worker.Worker.{Worker}
use Rattle.esx_workers.specs.Passed.{is_passed_over, may_want}
use Rattle.esx_workers.specs.Workers.{asks, asked, hears, rest}

-- the worker after the reply to its next call
abbrev pub goes_on : Worker → Reply → Worker
goes_on w reply = hears (asked w) reply

-- the worker after the replies of these lines
unfoldable pub worker_after : Worker → List Line → Worker
worker_after w [] = w
worker_after w (x ∷ xs) = worker_after (goes_on w x.reply) xs

-- each line is the caller's, with the call that its worker asks next
unfoldable pub AreAsked : ℕ → Worker → List Line → Type 0
AreAsked k w [] = Unit {0}
AreAsked k w (x ∷ xs) = (x.caller ≡ k) × (asks w ≡ Some x.call) × AreAsked k (goes_on w x.reply) xs

-- each line's reply was given after so many jumps
unfoldable pub AreAfter : ℕ → List Line → Type 0
AreAfter jumps [] = Unit {0}
AreAfter jumps (x ∷ xs) = (x.reply.jumps ≡ jumps) × AreAfter jumps xs

-- the cursor has not jumped between the replies
abbrev pub IsStraight : List Line → Type 0
IsStraight lines = (jumps : ℕ) × AreAfter jumps lines

-- it has jumped before the last of them, and not before
pub record IsRewound (lines : List Line) : Type 0 where
  pub before : List Line
  pub last : Line
  pub are : lines ≡ before ++ last ∷ []
  pub some : 0 < length before
  pub jumps : ℕ
  pub straight : AreAfter jumps before
  pub jumped : last.reply.jumps ≢ jumps

-- Why it ended. Where the cursor has jumped, that is why; else it rests.
abbrev pub Why : Worker → List Line → How → Type 0
Why w lines how = (IsRewound lines × (how ≡ Rewound)) ⊎ (IsStraight lines × (how ≡ rest (worker_after w lines)))

-- nothing is left to ask, or it had no turns left
abbrev pub IsOut : Worker → ℕ → List Line → Type 0
IsOut w turns lines = (asks (worker_after w lines) ≡ None) ⊎ (length lines ≡ turns)

-- The lines of a worker's run: what it asks, call after call, and in no more turns than it has. Where it was let through each time, and no jump ended it, nothing was left to ask, or it had no turns left.
pub record IsRun (let_through : Type 0) (k : ℕ) (w : Worker) (turns : ℕ) (end : End) (lines : List Line) : Type 0 where
  pub are : AreAsked k w lines
  pub most : length lines ≤ turns
  pub passed : end.passed ≡ count_by is_passed_over lines
  pub why : Why w lines end.how
  pub all : let_through → end.how ≢ Rewound → IsOut w turns lines

-- The lines of a worker's run that memory was wanting for: what it asks, call after call, in fewer turns than it has, and with no jump.
pub record IsBroken (k : ℕ) (w : Worker) (turns : ℕ) (lines : List Line) : Type 0 where
  pub are : AreAsked k w lines
  pub most : length lines < turns
  pub straight : IsStraight lines

module _ {G : Type 0} (passes : G → ℕ → Bool → G → Type 0) where
  -- The gate let through once before each line, and was passed no more: there was a jump, nothing was left to ask, or no turn was left.
  abbrev pub StaysOpen : G → G → Worker → ℕ → End → List Line → Type 0
  StaysOpen g h w turns end lines = LetThrough passes (length lines) g h × ((end.how ≡ Rewound) ⊎ IsOut w turns lines)

  -- The gate let through once before each line, and then gave up, before a call that the worker had a turn for.
  abbrev pub GivesUp : G → G → Worker → ℕ → End → List Line → Type 0
  GivesUp g h w turns end lines = GaveUp passes (length lines) g h × (end.how ≡ Turns) × (length lines < turns) × ((call : Call) × (asks (worker_after w lines) ≡ Some call))

  -- the gate before and after these lines of a worker's run
  abbrev pub IsGated : G → G → Worker → ℕ → End → List Line → Type 0
  IsGated g h w turns end lines = StaysOpen g h w turns end lines ⊎ GivesUp g h w turns end lines

  -- The gate let through once before each line, and once more before a call that found no memory, if it was that far.
  abbrev pub StopsShort : G → G → Worker → List Line → Type 0
  StopsShort g h w lines = LetThrough passes (length lines) g h ⊎ (LetThrough passes (length lines + 1) g h × ((call : Call) × (asks (worker_after w lines) ≡ Some call)))

  -- the gate before and after a worker's run that memory was wanting for
  pub record Stopped (g h : G) (w : Worker) (before after : List Line) : Type 0 where
    pub lines : List Line
    pub more : after ≡ before ++ lines
    pub gate : StopsShort g h w lines

  -- the gate before and after a worker's run, which made the caller's lines longer
  pub record Gated (g h : G) (w : Worker) (turns : ℕ) (end : End) (before after : List Line) : Type 0 where
    pub lines : List Line
    pub more : after ≡ before ++ lines
    pub gate : IsGated g h w turns end lines

-- the caller's lines after its worker's run
pub record Ended (let_through : Type 0) (k : ℕ) (w : Worker) (turns : ℕ) (end : End) (before after : List Line) : Type 0 where
  pub lines : List Line
  pub more : after ≡ before ++ lines
  pub run : IsRun let_through k w turns end lines

-- the caller's lines where memory was wanting for one more
pub record Broken (k : ℕ) (w : Worker) (turns : ℕ) (before after : List Line) : Type 0 where
  pub lines : List Line
  pub more : after ≡ before ++ lines
  pub run : IsBroken k w turns lines

-- the jumps of the first reply, if there was one
abbrev pub Since : Option ℕ → List Line → Type 0
Since None lines = lines ≡ []
Since (Some jumps) lines = (0 < length lines) × AreAfter jumps lines

-- the caller's lines while its worker runs
pub record Running (k : ℕ) (w now : Worker) (first : Option ℕ) (passed turn : ℕ) (before after : List Line) : Type 0 where
  pub lines : List Line
  pub more : after ≡ before ++ lines
  pub are : AreAsked k w lines
  pub now_is : now ≡ worker_after w lines
  pub many : length lines ≡ turn
  pub passed_are : passed ≡ count_by is_passed_over lines
  pub since : Since first lines

-- the door before and after a worker's run: each line of it is a call that was answered, and no other call was made
pub record Called {D : Type 0} (made : D → Call → Reply → D → Type 0) (d e : D) (before after : List Line) : Type 0 where
  pub lines : List Line
  pub more : after ≡ before ++ lines
  pub all : AreMade made (length lines) d e

module _ {G D : Type 0} (passes : G → ℕ → Bool → G → Type 0) (made : D → Call → Reply → D → Type 0) (wanted : D → Call → D → Type 0) where
  -- There was no room for what the worker asks next, and it was not called.
  abbrev pub AsksShort : G → G → D → D → Worker → List Line → Type 0
  AsksShort g h d e w lines = LetThrough passes (length lines) g h × AreMade made (length lines) d e × (may_want (asks (worker_after w lines)) ≡ true)

  -- The gate let through once more, and what the worker asks next was called once and found no memory.
  abbrev pub CallsShort : G → G → D → D → Worker → List Line → Type 0
  CallsShort g h d e w lines =
      LetThrough passes (length lines + 1) g h
      × ((m : D) × (call : Call) × AreMade made (length lines) d m × (asks (worker_after w lines) ≡ Some call) × wanted m call e)

  -- the gate and the door before and after a worker's run that memory was wanting for
  pub record Short (g h : G) (d e : D) (w : Worker) (before after : List Line) : Type 0 where
    pub lines : List Line
    pub more : after ≡ before ++ lines
    pub how : AsksShort g h d e w lines ⊎ CallsShort g h d e w lines
