-- The numbers and names under which refusals are printed.
use Rattle.std.specs.Prelude.{ℕ, List, codes}
use Rattle.esx_events.specs.declared.event.Refusal.{Refusal}
use Rattle.esx_events.specs.declared.event.Refusal.TheVariants as refusals

abbrev pub refusal_number : Refusal → ℕ
refusal_number refusals.NoVm = 1
refusal_number refusals.VmThere = 2
refusal_number refusals.BadSpec = 3
refusal_number refusals.NoMemoryReserve = 4
refusal_number refusals.NoSwapReserve = 5
refusal_number refusals.NotRunning = 6
refusal_number refusals.OutOfRange = 7
refusal_number refusals.Held = 8
refusal_number refusals.Short = 9
refusal_number refusals.OverGoal = 10
refusal_number refusals.NotLent = 11
refusal_number refusals.LentAlready = 12
refusal_number (refusals.NotNow level) = 13
refusal_number refusals.AtTarget = 14
refusal_number refusals.NotResident = 15
refusal_number refusals.BadWords = 16
refusal_number refusals.NotNeeded = 17
refusal_number refusals.PagesLeft = 18
refusal_number refusals.NothingToUndo = 19
refusal_number refusals.NothingToRedo = 20
refusal_number refusals.NoSuchNode = 21
refusal_number refusals.NameTaken = 22
refusal_number refusals.NoSuchName = 23
refusal_number refusals.OnPath = 24
refusal_number refusals.Full = 25
refusal_number refusals.OutOfMemory = 26
refusal_number refusals.SampleOpen = 27

abbrev pub refusal_name : Refusal → List ℕ
refusal_name refusals.NoVm = codes "NoVm"
refusal_name refusals.VmThere = codes "VmThere"
refusal_name refusals.BadSpec = codes "BadSpec"
refusal_name refusals.NoMemoryReserve = codes "NoMemoryReserve"
refusal_name refusals.NoSwapReserve = codes "NoSwapReserve"
refusal_name refusals.NotRunning = codes "NotRunning"
refusal_name refusals.OutOfRange = codes "OutOfRange"
refusal_name refusals.Held = codes "Held"
refusal_name refusals.Short = codes "Short"
refusal_name refusals.OverGoal = codes "OverGoal"
refusal_name refusals.NotLent = codes "NotLent"
refusal_name refusals.LentAlready = codes "LentAlready"
refusal_name (refusals.NotNow level) = codes "NotNow"
refusal_name refusals.AtTarget = codes "AtTarget"
refusal_name refusals.NotResident = codes "NotResident"
refusal_name refusals.BadWords = codes "BadWords"
refusal_name refusals.NotNeeded = codes "NotNeeded"
refusal_name refusals.PagesLeft = codes "PagesLeft"
refusal_name refusals.NothingToUndo = codes "NothingToUndo"
refusal_name refusals.NothingToRedo = codes "NothingToRedo"
refusal_name refusals.NoSuchNode = codes "NoSuchNode"
refusal_name refusals.NameTaken = codes "NameTaken"
refusal_name refusals.NoSuchName = codes "NoSuchName"
refusal_name refusals.OnPath = codes "OnPath"
refusal_name refusals.Full = codes "Full"
refusal_name refusals.OutOfMemory = codes "OutOfMemory"
refusal_name refusals.SampleOpen = codes "SampleOpen"
