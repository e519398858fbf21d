-- What came of a source and of a sink so far, and how a run leaves them.
use Rattle.std.specs.Prelude.{ℕ, List, [], ◌≡◌, ◌⊎◌, ◌+◌, ◌-◌, ◌≤◌, Option, Result, OnOk, IsErrOf}
use Rattle.esx_reading.specs.declared.whole.TheConstants.{READS}
use Rattle.esx_reading.specs.Whole.{AskForPieces}
use Rattle.esx_text.specs.declared.fault.ServeFault.{ServeFault}
use Rattle.esx_text.specs.declared.fault.ServeFault.TheVariants.{Read, Write}
use Rattle.esx_text.specs.Answers.{ReadsOn, write_faults}

-- what a source has left, how often it was read, how many of these reads failed, how many gave nothing, and how many bytes they asked for
pub record SourceState : Type 0 where
  pub remaining : Option (List ℕ)
  pub calls : ℕ
  pub failures : ℕ
  pub empty_reads : ℕ
  pub asked : ℕ

-- what a sink took, what of it waits, how many of its calls failed, and how many flushes did not
pub record SinkState : Type 0 where
  pub contents : Option (List ℕ)
  pub waiting : List ℕ
  pub failures : ℕ
  pub flushes : ℕ

-- a source as it is, by what is known of any such source
abbrev pub source_state : {S : Type 0} → (S → Option (List ℕ)) → (S → ℕ) → (S → ℕ) → (S → ℕ) → (S → ℕ) → S → SourceState
source_state remaining calls failures empty_reads asked source =
    record { remaining = remaining source; calls = calls source; failures = failures source; empty_reads = empty_reads source; asked = asked source }

-- a sink as it is, by what is known of any such sink
abbrev pub sink_state : {S : Type 0} → (S → Option (List ℕ)) → (S → List ℕ) → (S → ℕ) → (S → ℕ) → S → SinkState
sink_state contents waiting failures flushes sink = record { contents = contents sink; waiting = waiting sink; failures = failures sink; flushes = flushes sink }

-- A run ended, and left its source and its sink so.
-- One read gave nothing where the end was found, and none did where reading is at fault. There was at most one read more than bytes that came.
-- The source failed once where reading is at fault, or gave no end, and never elsewhere; the sink failed once where writing is at fault, and never elsewhere.
-- A flush went before each read, and one more at the end where neither end failed. Since any call may fail, the counts also tell the order: nothing was written between a flush and the read behind it.
pub record LeavesStreams (ended : Result ℕ ServeFault) (unread left : SourceState) (out out' : SinkState) : Type 0 where
  pub found : OnOk ended (left.empty_reads ≡ unread.empty_reads + 1)
  pub not_found : IsErrOf ended Read → left.empty_reads ≡ unread.empty_reads
  pub ends : left.empty_reads ≤ unread.empty_reads + 1
  pub reads : left.calls ≤ unread.calls + READS
  pub pieces : AskForPieces unread.calls left.calls unread.asked left.asked
  pub each : ReadsOn unread.remaining left.remaining unread.calls left.calls
  pub read : IsErrOf ended Read
      → (left.failures ≡ unread.failures + 1) ⊎ ((left.failures ≡ unread.failures) × (left.calls ≡ unread.calls + READS))
  pub no_read_fault : (IsErrOf ended Read → ⊥) → left.failures ≡ unread.failures
  pub write : out'.failures ≡ out.failures + write_faults ended
  pub flushes : let failed = left.failures - unread.failures + write_faults ended in
      out'.flushes + unread.calls + failed ≡ out.flushes + left.calls + 1
  pub sent : (IsErrOf ended Write → ⊥) → out'.waiting ≡ []
