-- What the reads of a guest answer beside others, on a console whose cursor never goes back.
use Rattle.std.specs.Prelude.{◌≡◌, ℕ, ◌==◌, false, List, [], ◌++◌, Some}
use Rattle.std.specs.List.{AllByRecursion}
use Rattle.esx_types.specs.Ranges.{IsConfig}
use Rattle.esx_types.specs.declared.vm.VmState.TheVariants.{Running}
use Rattle.esx_events.specs.declared.event.Event.{Event}
use Rattle.esx_events.specs.declared.call.Line.{Line}
use Rattle.esx_model.specs.declared.scene.Vm.{Vm}
use Rattle.esx_model.specs.Site.{vm_at}
use Rattle.esx_model.specs.History.{scene_at}
use Rattle.esx_model.specs.Console.{Session, IsLegal, history}
use Rattle.esx_model.specs.Alone.{alone, IsTidy}
use Rattle.esx_model.specs.Guests.{IsTrace, IsWithin, Send, IsGuestRun, left_after, reads_answered, DoesOrAsks, Opens, Leaves, lines_by, NeverFull}

-- A legal log of events and questions that opens with admissions and starts, and in which later on caller k runs a tidy trace of machine n, with which the others do no more than scan, swap out, sample and share.
pub record HasGuest (s : Session) (n k : ℕ) (trace : List Event) : Type 0 where
  pub config : IsConfig s.site
  pub legal : IsLegal s
  pub opening : List Line
  pub later : List Line
  pub log : s.log ≡ opening ++ later
  pub opens : AllByRecursion (λ x. Opens x.call) opening
  pub does : AllByRecursion (λ x. DoesOrAsks x.call) later
  pub others : AllByRecursion (λ x. (x.caller == k) ≡ false → Leaves n x.call) later
  pub is_trace : IsTrace n trace
  pub tidy : IsTidy s.site trace
  pub within : (v : Vm) → vm_at (scene_at (history (record s { log = opening }))).site n ≡ Some v → AllByRecursion (IsWithin s.site v.spec.max) trace
  pub run : IsGuestRun n trace Send (lines_by k later)

-- its accepted reads answer, in order, what they answer alone, as far as they come
abbrev pub IsGuestAlone : Type 0
IsGuestAlone = (s : Session) (n k : ℕ) (trace : List Event) (h : HasGuest s n k trace) →
    (rest : List (List ℕ)) × (reads_answered (lines_by k h.later) ++ rest ≡ alone s.site trace)

-- and all of that, if the machine ran when the opening was over, the trace was gone through and no number was wanting
abbrev pub IsGuestWhole : Type 0
IsGuestWhole = (s : Session) (n k : ℕ) (trace : List Event) (h : HasGuest s n k trace) (v : Vm) → vm_at (scene_at (history (record s { log = h.opening }))).site n ≡ Some v → v.state ≡ Running →
    NeverFull (lines_by k h.later) → left_after trace Send (lines_by k h.later) ≡ [] → reads_answered (lines_by k h.later) ≡ alone s.site trace
