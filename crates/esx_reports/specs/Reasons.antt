-- Why pages were lost, with the calls as they are spelled.
use Rattle.std.specs.Prelude.{◌≡◌, ◌+◌, ℕ, List, map, Option, Some, option_map, string_bytes}
use Rattle.esx_events.specs.declared.call.Call.{Call}
use Rattle.esx_words.specs.Commands.{spelling}
use Rattle.esx_session.specs.declared.session.Request.{Request}
use Rattle.esx_report.specs.declared.losses.LossLine.{LossLine}
use Rattle.esx_report.specs.declared.site.Opened.{Opened}
use Rattle.esx_report.specs.declared.why.Why.{Why}
use Rattle.esx_account.specs.Asking.{call_asked}

-- what the sentences on a loss tell: the loss, its call as it is spelled, the frames of the site, and how many of them are free when level high returns
abbrev pub why_told : Why → LossLine × List ℕ × ℕ × ℕ
why_told w = (w.line, string_bytes w.command, w.frames, w.returns_at)

-- what they are to tell
abbrev pub why_by : Opened → LossLine → Call → LossLine × List ℕ × ℕ × ℕ
why_by o line call = (line, spelling call, o.frames, o.high + o.margin)

abbrev pub why_wanted : Opened → List Request → LossLine → Option (LossLine × List ℕ × ℕ × ℕ)
why_wanted o requests line = option_map (why_by o line) (call_asked requests line.call)

-- these tell the reasons of losses of a session with these calls, in their order
abbrev pub AreWhysOf : Opened → List Request → List LossLine → List Why → Type 0
AreWhysOf o requests lines whys = map (λ (w : Why). Some (why_told w)) whys ≡ map (why_wanted o requests) lines
