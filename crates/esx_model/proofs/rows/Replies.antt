-- What calls from the opening on are answered, and short ways to write the values of worked examples.
use Rattle.std.specs.Prelude.{◌≡◌, ℕ, List, [], ◌∷◌, map, Result, Some, None}
use Rattle.esx_types.specs.declared.config.Config.{Config}
use Rattle.esx_types.specs.declared.level.Level.{Level}
use Rattle.esx_types.specs.declared.vm.VmSpec.{VmSpec}
use Rattle.esx_types.specs.declared.vm.VmState.{VmState}
use Rattle.esx_events.specs.declared.event.Reserves.{Reserves}
use Rattle.esx_events.specs.declared.event.Answer.{Answer}
use Rattle.esx_events.specs.declared.event.Refusal.{Refusal}
use Rattle.esx_events.specs.declared.call.Call.{Call}
use Rattle.esx_events.specs.declared.call.Sum.{Sum}
use Rattle.esx_events.specs.declared.call.Stand.{Stand}
use Rattle.esx_events.specs.declared.call.Activity.{Activity}
use Rattle.esx_events.specs.declared.call.TableRow.{TableRow}
use Rattle.esx_events.specs.declared.call.NameRow.{NameRow}
use Rattle.esx_events.specs.declared.call.Sides.{Sides}
use Rattle.esx_events.specs.declared.call.Said.{Said}
use Rattle.esx_events.specs.declared.call.Reply.{Reply}
use Rattle.esx_formulas.specs.Average.{slow_average, fast_average}
use Rattle.esx_formulas.specs.Key.{content_key}
use Rattle.esx_formulas.specs.Level.{next_level}
use Rattle.esx_formulas.specs.Targets.{first_claim, after_revoking, targets_of}
use Rattle.esx_model.specs.Site.{least_free, free_count, least_slot, pages_at, all_places, all_overhead}
use Rattle.esx_model.specs.Hints.{placed}
use Rattle.esx_model.specs.Show.{frame_row, slot_row, shared_rows}
use Rattle.esx_model.specs.event.Admission.{admit}
use Rattle.esx_model.specs.event.Starting.{start}
use Rattle.esx_model.specs.event.Access.{read, write}
use Rattle.esx_model.specs.event.Balloon.{ask, lend, take_back}
use Rattle.esx_model.specs.event.Sampling.{sample}
use Rattle.esx_model.specs.event.Rebalancing.{rows_of, rebalance, set_shares, set_tax, set_vm_tax}
use Rattle.esx_model.specs.event.Sharing.{shared_under, look, scan}
use Rattle.esx_model.specs.event.Paging.{swap_out, replace}
use Rattle.esx_model.specs.event.Leaving.{stop, drop_page, gone}
use Rattle.esx_model.specs.Replay.{next, run_from}
use Rattle.esx_model.specs.Readings.{sum_of, page_state, table_of}
use Rattle.esx_model.specs.Readings as readings
use Rattle.esx_model.specs.Advice.{advice}
use Rattle.esx_model.specs.Tree.{parent, alive, path, on_way, at, last_descent, line}
use Rattle.esx_model.specs.History.{History, opened, done, do_event, up_once, child, down_once, undone, redone, undo, redo}
use Rattle.esx_model.specs.Branching.{goto, visit, mark, dropped, standing_below, prune}
use Rattle.esx_model.specs.WhatIf.{replies_to, scene_of, what_if}
use Rattle.esx_model.specs.Console.{outcome, after, reply_to}
use Rattle.sha2.specs.Sha256.{first_words, schedule, rounds, compress, hash_after, digest_bytes, sha256}

abbrev pub site : ℕ → ℕ → ℕ → ℕ → ℕ → ℕ → ℕ → ℕ → ℕ → Config
site frames page slots tau high soft hard low nodes = record { frames = frames; page = page; slots = slots; tau = tau; high = high; soft = soft; hard = hard; low = low; nodes = nodes }

abbrev pub spec : ℕ → ℕ → ℕ → ℕ → ℕ → VmSpec
spec min max overhead shares balloon = record { min = min; max = max; overhead = overhead; shares = shares; balloon_max = balloon; tau = None }

-- with a tax of its own
abbrev pub taxed : VmSpec → ℕ → VmSpec
taxed asked tau = record asked { tau = Some tau }

abbrev pub reserved : ℕ → ℕ → ℕ → ℕ → Reserves
reserved memory frames swap slots = record { memory = memory; frames = frames; swap = swap; slots = slots }

abbrev pub sum : ℕ → ℕ → ℕ → ℕ → Level → Sum
sum overhead private shared free level = record { overhead = overhead; private = private; shared = shared; free = free; level = level }

abbrev pub stand : ℕ → ℕ → Stand
stand node depth = record { node = node; depth = depth }

abbrev pub activity : ℕ → ℕ → ℕ → ℕ → ℕ → ℕ → ℕ → Activity
activity slow fast active done len touched pages = record { slow = slow; fast = fast; active = active; done = done; length = len; touched = touched; pages = pages }

abbrev pub table_row : ℕ → VmState → ℕ → ℕ → ℕ → ℕ → ℕ → ℕ → ℕ → ℕ → TableRow
table_row vm state min max target here lent out shares active = record { vm = vm; state = state; min = min; max = max; target = target; here = here; lent = lent; out = out; shares = shares; active = active }

abbrev pub name_row : List ℕ → ℕ → NameRow
name_row name node = record { name = name; node = node }

abbrev pub sides : ℕ → Sum → List (Result Answer Refusal) → Sum → Sides
sides given before replies after = record { given = given; before = before; replies = replies; after = after }

abbrev pub reply : ℕ → Said → Reply
reply jumps said = record { jumps = jumps; said = said }

abbrev pub replies_from : List Call → History → List Reply
replies_from [] h = []
replies_from (call ∷ calls) h = reply_to h call ∷ replies_from calls (after h call)

-- the replies to calls from the opening on
unfoldable pub replies_of : Config → List Call → List Reply
unfolding slow_average fast_average content_key next_level first_claim after_revoking targets_of least_free free_count least_slot pages_at all_places all_overhead placed frame_row slot_row shared_rows admit start read write ask lend take_back sample rows_of rebalance set_shares set_tax set_vm_tax shared_under look scan swap_out replace stop drop_page gone next run_from sum_of page_state table_of readings.activity advice parent alive path on_way at last_descent done do_event up_once child down_once undone redone undo redo line goto visit mark dropped standing_below prune replies_to scene_of what_if outcome first_words schedule rounds compress hash_after digest_bytes sha256
replies_of c calls = replies_from calls (opened c)

-- each call has that reply, one after another
abbrev pub AreAnswered : Config → List (Call × Reply) → Type 0
AreAnswered c lines = replies_of c (map (λ (line : Call × Reply). line.0) lines) ≡ map (λ (line : Call × Reply). line.1) lines
