-- Why a page was lost, in sentences.
use Rattle.std.specs.Prelude.{ℕ, Bool, true, false, List, [], ◌++◌, ◌-◌, ◌==◌, codes, decimal, length, flat_map, take, if◌then◌else◌, Option, Some, None, string_bytes, All}
use Rattle.esx_formulas.specs.declared.targets.Row.{Row}
use Rattle.esx_story.specs.declared.change.Asked.{Asked}
use Rattle.esx_story.specs.declared.change.How.{How}
use Rattle.esx_story.specs.declared.change.How.TheVariants as hows
use Rattle.esx_story.specs.declared.change.Loan.{Loan}
use Rattle.esx_story.specs.declared.story.Loss.{Loss}
use Rattle.esx_story.specs.declared.story.Order.{Order}
use Rattle.esx_story.specs.Order.{HasGoodRows}
use Rattle.esx_report.specs.declared.field.Field.TheVariants as fields
use Rattle.esx_report.specs.declared.losses.LossLine.{LossLine}
use Rattle.esx_report.specs.declared.why.Why.{Why}
use Rattle.esx_report.specs.Fields.{field_text}
use Rattle.esx_report.specs.Losses.{row_fields, ratio}
use Rattle.esx_report.specs.LossTable.{active_percent}

abbrev pub mechanism_text : How → List ℕ
mechanism_text hows.Balloon = codes "its balloon lent it; its bytes are given up"
mechanism_text hows.Swap = codes "paged out by the host"
mechanism_text hows.Replaced = codes "it made room for another page of its own guest"
mechanism_text hows.Dropped = codes "given back by the stopping guest"
mechanism_text _ = []

abbrev pub came_text : Option How → List ℕ
came_text (Some hows.SwapIn) = codes "read from its slot"
came_text (Some hows.Pop) = codes "the guest touched it, the balloon popped, and it is zeros"
came_text (Some hows.First) = codes "the guest touched it anew, and it is zeros"
came_text _ = []

abbrev pub wanted_text : ℕ → List ℕ
wanted_text need = if need == 1 then codes " frame was wanted and " else codes " frames were wanted and "

abbrev pub tax_text : Bool → List ℕ
tax_text true = codes "% active, own tax "
tax_text false = codes "% active, tax "

abbrev pub is_drop : How → Bool
is_drop hows.Dropped = true
is_drop _ = false

-- the event, its call and the loss
abbrev pub happened_head : List ℕ → LossLine → List ℕ
happened_head command l = codes "Event " ++ (decimal l.loss.at ++ (codes " (caller " ++ (decimal l.by ++ (codes ": " ++ (take 40 command ++ (codes "): guest " ++ (decimal l.loss.change.vm ++ (codes " lost page " ++ (decimal l.loss.change.page ++ (codes ": "))))))))))

-- how the page went, and where
abbrev pub outcome_text : How → Option ℕ → List ℕ
outcome_text how None = mechanism_text how ++ codes ".\n"
outcome_text how (Some slot) = mechanism_text how ++ (codes ", to slot " ++ (decimal slot ++ codes ".\n"))

abbrev pub happened : Why → List ℕ
happened w = happened_head (string_bytes w.command) w.line ++ outcome_text w.line.loss.change.how w.line.loss.slot

abbrev pub memory_text : Why → List ℕ
memory_text w = codes "  Memory: level " ++ (field_text (codes "-") (fields.Level w.line.loss.seen.level) ++ (codes ", " ++ (decimal w.line.loss.seen.free ++ (codes " of " ++ (decimal w.frames ++ (codes " frames free (level high returns at " ++ (decimal w.returns_at ++ (codes ").\n"))))))))

abbrev pub target_head : Option Row → List ℕ
target_head own = codes "  The guest: " ++ (field_text (codes "-") (row_fields own).pages ++ (codes " pages in frames, target " ++ (field_text (codes "-") (row_fields own).target ++ (codes " "))))

-- since when it has its target
abbrev pub since_text : Option ℕ → Option Asked → List ℕ
since_text None asked = codes "since its admission.\n"
since_text (Some event) None = codes "since event " ++ (decimal event ++ (codes ", at level high.\n"))
since_text (Some event) (Some asked) = codes "since event " ++ (decimal event ++ (codes ", where " ++ (decimal asked.need ++ (wanted_text asked.need ++ (decimal asked.given ++ (codes " of the " ++ (decimal asked.revoked ++ (codes " revoked came from it.\n"))))))))

abbrev pub target_line : LossLine → List ℕ
target_line l = target_head l.loss.seen.order.own ++ since_text l.loss.set l.loss.asked

abbrev pub rate_head : Option Row → Bool → List ℕ
rate_head own own_tax = codes "  Its ratio was " ++ (field_text (codes "-") (row_fields own).ratio ++ (codes " shares a page (" ++ (field_text (codes "-") (row_fields own).shares ++ (codes " shares, " ++ (field_text (codes "-") (active_percent own) ++ (tax_text own_tax ++ (field_text (codes "-") (row_fields own).tax ++ (codes "%)"))))))))

-- who comes behind the first
abbrev pub next_text : Option Row → List ℕ
next_text None = codes "; no other guest is above its target.\n"
next_text (Some row) = codes "; guest " ++ (decimal row.vm ++ (codes " at " ++ (field_text (codes "-") (ratio row) ++ (codes " is next.\n"))))

-- who comes before another
abbrev pub first_text : Option Row → List ℕ
first_text None = codes ".\n"
first_text (Some row) = codes ", although guest " ++ (decimal row.vm ++ (codes " at " ++ (field_text (codes "-") (ratio row) ++ (codes " comes first.\n"))))

abbrev pub place_text : ℕ → ℕ → List ℕ
place_text rank above = if rank == 1 then codes ": the least of " ++ (decimal above ++ (codes " above target")) else codes ": number " ++ (decimal rank ++ (codes " of " ++ (decimal above ++ (codes " above target"))))

abbrev pub other_text : ℕ → Option Row → List ℕ
other_text rank next = if rank == 1 then next_text next else first_text next

abbrev pub rank_text : ℕ → Order → List ℕ
rank_text rank order = place_text rank order.above ++ other_text rank order.next

-- why a machine gives a page that is not above its target: to another of its pages, or to its balloon
abbrev pub unranked_text : Option Loan → List ℕ
unranked_text None = codes ": no frame is free and no guest has more than its minimum, so it gives one of its own.\n"
unranked_text (Some loan) = codes "; the balloon is to hold " ++ (decimal loan.goal ++ (codes " pages and held " ++ (decimal loan.held ++ (codes ".\n"))))

abbrev pub order_from : Option ℕ → Loss → List ℕ
order_from None l = unranked_text l.loan
order_from (Some rank) l = rank_text rank l.seen.order

-- what the order has to do with it
abbrev pub order_text : Loss → List ℕ
order_text l = order_from l.seen.order.rank l

abbrev pub rate_line : LossLine → List ℕ
rate_line l = rate_head l.loss.seen.order.own l.loss.seen.own ++ order_text l.loss

abbrev pub back_from : Option ℕ → ℕ → List ℕ
back_from None at = codes "  It did not come back on this path"
back_from (Some event) at = codes "  It came back at event " ++ (decimal event ++ (codes " (" ++ (decimal (event - at) ++ (codes " later"))))

abbrev pub back_head : Loss → List ℕ
back_head l = back_from l.back l.at

abbrev pub waits_text : ℕ → List ℕ
waits_text waits = if waits == 0 then [] else (if waits == 1 then codes ", after 1 refused access" else codes ", after " ++ (decimal waits ++ codes " refused accesses"))

abbrev pub back_end : Option ℕ → Option How → List ℕ
back_end None came = codes ".\n"
back_end (Some event) came = codes "): " ++ (came_text came ++ (codes ".\n"))

abbrev pub back_tail : Loss → List ℕ
back_tail l = waits_text l.waits ++ back_end l.back l.came

abbrev pub back_line : Loss → List ℕ
back_line l = back_head l ++ back_tail l

abbrev pub guest_lines : Why → List ℕ
guest_lines w = target_line w.line ++ rate_line w.line

abbrev pub grounds : Why → List ℕ
grounds w = memory_text w ++ guest_lines w

-- what a stopping guest gives back needs no reason
abbrev pub reason : Why → List ℕ
reason w = if is_drop w.line.loss.change.how then [] else grounds w

abbrev pub why_rest : Why → List ℕ
why_rest w = reason w ++ back_line w.line.loss

abbrev pub why_text : Why → List ℕ
why_text w = happened w ++ why_rest w

-- the lines before all reasons
abbrev pub why_head : ℕ → List ℕ
why_head count = codes "esx why 1\nlosses " ++ (decimal count ++ (codes "\n"))

-- all reasons, behind how many there are
abbrev pub why_all : List Why → List ℕ
why_all whys = why_head (length whys) ++ flat_map why_text whys

-- the rows that are told of each loss are in their ranges
abbrev pub AreGoodWhys : List Why → Type 0
AreGoodWhys whys = All (λ (w : Why). HasGoodRows w.line.loss.seen.order) whys
