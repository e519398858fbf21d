-- A console may cross threads, and threads may share a desk. This is stated layer by layer: a search through all of a console ends at its limit.
use denote.Param.Send.{IsSend, IsSync, sendable}
use Rattle.std.proofs.Crossing as below
use Rattle.std.proofs.MapsCrossing as maps
use Rattle.std.proofs.alloc.Global.TheSendSync as Global
use Rattle.esx_index.specs.contracts.free.FreeIndex as FreeIndex
use Rattle.esx_index.proofs.free.FreeIndex.TheLaws.TheKnot as Knot
use Rattle.esx_frames.specs.contracts.frames.FrameTable as FrameTable
use Rattle.esx_swap.specs.contracts.slots.Slots as Slots
use Rattle.esx_prints.specs.contracts.prints.Prints as Prints
use Rattle.esx_tables.specs.contracts.vm_table.VmTable as VmTable
use Rattle.esx_tables.specs.contracts.tables.SiteTables as SiteTables
use Rattle.esx_tables.specs.contracts.change.Change as Change
use Rattle.esx_tables.specs.contracts.record.Record as Changes
use Rattle.esx_machine.specs.contracts.record.Held as Held
use Rattle.esx_machine.specs.contracts.record.Record as Record
use Rattle.esx_events.specs.contracts.event.Event as Event
use Rattle.esx_events.specs.contracts.event.Answer as Answer
use Rattle.esx_events.specs.contracts.event.Refusal as Refusal
use Rattle.esx_events.specs.contracts.call.Call as Call
use Rattle.esx_events.specs.contracts.call.Said as Said
use Rattle.esx_events.specs.contracts.call.Line as Line
use Rattle.atomic_table.proofs.badge.Badge.TheSendSync as Badge
use Rattle.atomic_table.proofs.send_lease.SendLease.TheSendSync as SendLease
use Rattle.atomic_table.proofs.shared.Shared.TheSendSync as Shared
use Rattle.esx_journal.specs.contracts.marks.Marks as Marks
use Rattle.esx_journal.specs.contracts.rows.Rows as NodeRows
use Rattle.esx_console.specs.contracts.console.Console as Console
use Rattle.esx_console.specs.contracts.log.VecLineLog.TheImpl.{ghosts as lines}
use Rattle.std.specs.contracts.vec.Vec as Vec
use Rattle.std.specs.contracts.alloc.Global as Heap
use Rattle.std.specs.contracts.impls.GlobalAllocator.TheImpl.{ghosts as heap}
use Rattle.esx_lock.specs.contracts.pass.Pass as Pass
use Rattle.esx_desk.specs.contracts.legal.LegalConsole as LegalConsole
use Rattle.esx_desk.specs.contracts.desk.Desk as Desk

index_send : IsSend FreeIndex.the_row
index_send = search (Knot.crosses, sendable, below.crosses) depth 60 fits 8000

index_sync : IsSync FreeIndex.the_row
index_sync = search (Knot.crosses, sendable, below.crosses) depth 60 fits 8000

frames_send : IsSend FrameTable.the_row
frames_send = search (index_send, sendable, below.crosses) depth 60 fits 8000

frames_sync : IsSync FrameTable.the_row
frames_sync = search (index_sync, sendable, below.crosses) depth 60 fits 8000

slots_send : IsSend Slots.the_row
slots_send = search (index_send, sendable, below.crosses) depth 60 fits 8000

slots_sync : IsSync Slots.the_row
slots_sync = search (index_sync, sendable, below.crosses) depth 60 fits 8000

prints_send : IsSend Prints.the_row
prints_send = search (index_send, sendable, below.crosses) depth 60 fits 8000

prints_sync : IsSync Prints.the_row
prints_sync = search (index_sync, sendable, below.crosses) depth 60 fits 8000

vm_send : IsSend VmTable.the_row
vm_send = search (sendable, below.crosses) depth 60 fits 8000

vm_sync : IsSync VmTable.the_row
vm_sync = search (sendable, below.crosses) depth 60 fits 8000

tables_send : IsSend SiteTables.the_row
tables_send = search (frames_send, slots_send, prints_send, vm_send, sendable, below.crosses) depth 60 fits 8000

tables_sync : IsSync SiteTables.the_row
tables_sync = search (frames_sync, slots_sync, prints_sync, vm_sync, sendable, below.crosses) depth 60 fits 8000

change_send : IsSend Change.the_row
change_send = search (vm_send, sendable, below.crosses) depth 60 fits 8000

change_sync : IsSync Change.the_row
change_sync = search (vm_sync, sendable, below.crosses) depth 60 fits 8000

changes_send : IsSend Changes.the_row
changes_send = search (change_send, sendable, below.crosses) depth 60 fits 8000

changes_sync : IsSync Changes.the_row
changes_sync = search (change_sync, sendable, below.crosses) depth 60 fits 8000

held_change_send : IsSend (Change.the_field).row
held_change_send = search (vm_send, sendable, below.crosses) depth 60 fits 8000

held_change_sync : IsSync (Change.the_field).row
held_change_sync = search (vm_sync, sendable, below.crosses) depth 60 fits 8000

held_send : IsSend (Held.the_field).row
held_send = search (held_change_send, changes_send, sendable, below.crosses) depth 60 fits 8000

held_sync : IsSync (Held.the_field).row
held_sync = search (held_change_sync, changes_sync, sendable, below.crosses) depth 60 fits 8000

record_send : IsSend Record.the_row
record_send = search (held_send, sendable, below.crosses) depth 60 fits 8000

record_sync : IsSync Record.the_row
record_sync = search (held_sync, sendable, below.crosses) depth 60 fits 8000

event_send : IsSend (Event.the_field).row
event_send = search (sendable, below.crosses) depth 60 fits 8000

event_sync : IsSync (Event.the_field).row
event_sync = search (sendable, below.crosses) depth 60 fits 8000

call_send : IsSend (Call.the_field).row
call_send = search (event_send, sendable, below.crosses) depth 60 fits 8000

call_sync : IsSync (Call.the_field).row
call_sync = search (event_sync, sendable, below.crosses) depth 60 fits 8000

answer_send : IsSend (Answer.the_field).row
answer_send = search (sendable, below.crosses) depth 60 fits 8000

answer_sync : IsSync (Answer.the_field).row
answer_sync = search (sendable, below.crosses) depth 60 fits 8000

refusal_send : IsSend (Refusal.the_field).row
refusal_send = search (sendable, below.crosses) depth 60 fits 8000

refusal_sync : IsSync (Refusal.the_field).row
refusal_sync = search (sendable, below.crosses) depth 60 fits 8000

said_send : IsSend (Said.the_field).row
said_send = search (answer_send, refusal_send, sendable, below.crosses) depth 60 fits 8000

said_sync : IsSync (Said.the_field).row
said_sync = search (answer_sync, refusal_sync, sendable, below.crosses) depth 60 fits 8000

line_send : IsSend Line.the_row
line_send = search (call_send, said_send, sendable, below.crosses) depth 60 fits 8000

line_sync : IsSync Line.the_row
line_sync = search (call_sync, said_sync, sendable, below.crosses) depth 60 fits 8000

marks_send : IsSend Marks.the_row
marks_send = search (maps.crosses, sendable, below.crosses) depth 60 fits 8000

marks_sync : IsSync Marks.the_row
marks_sync = search (maps.crosses, sendable, below.crosses) depth 60 fits 8000

rows_send : IsSend NodeRows.the_row
rows_send = search (record_send, sendable, below.crosses) depth 60 fits 8000

rows_sync : IsSync NodeRows.the_row
rows_sync = search (record_sync, sendable, below.crosses) depth 60 fits 8000

pub console_send : IsSend (Console.the_row (Vec.the_row Line.the_row Heap.the_row heap) lines)
console_send = search (tables_send, rows_send, marks_send, line_send, sendable, below.crosses) depth 60 fits 8000

pub console_sync : IsSync (Console.the_row (Vec.the_row Line.the_row Heap.the_row heap) lines)
console_sync = search (tables_sync, rows_sync, marks_sync, line_sync, sendable, below.crosses) depth 60 fits 8000

legal_send : IsSend LegalConsole.the_row
legal_send = search (console_send, sendable, below.crosses) depth 60 fits 8000

pub desk_sync : IsSync Desk.the_row
desk_sync = search (legal_send, Shared.the_sync, SendLease.the_sync, sendable, below.crosses) depth 60 fits 8000

pub pass_send : IsSend Pass.the_row
pass_send = search (Badge.the_send, sendable, below.crosses) depth 60 fits 8000

-- for a function that starts threads at a desk
pub ruleset crosses = (console_send, console_sync, desk_sync, pass_send, Global.the_send, Global.the_sync, below.crosses, sendable)
