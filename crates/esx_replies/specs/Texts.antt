-- The texts of answers, by mechanism.
use Rattle.std.specs.Prelude.{ℕ, Bool, true, false, List, [], ◌∷◌, ◌++◌, codes, decimal}
use Rattle.hex.specs.Hex.{encode_lower}
use Rattle.esx_types.specs.declared.level.Level.{Level}
use Rattle.esx_types.specs.declared.level.Level.TheVariants.{High, Soft, Hard, Low}
use Rattle.esx_types.specs.declared.vm.VmState.{VmState}
use Rattle.esx_types.specs.declared.vm.VmState.TheVariants.{Starting, Running, Stopping}
use Rattle.esx_events.specs.Numbers.{refusal_number, refusal_name}
use Rattle.esx_events.specs.declared.event.Refusal.{Refusal}
use Rattle.esx_events.specs.declared.event.Refusal.TheVariants as refusals
use Rattle.esx_events.specs.declared.event.Reserves.{Reserves}
use Rattle.esx_events.specs.declared.call.Sum.{Sum}
use Rattle.esx_events.specs.declared.call.Stand.{Stand}
use Rattle.esx_events.specs.declared.call.Activity.{Activity}
use Rattle.esx_events.specs.declared.event.Scanned.{Scanned}
use Rattle.esx_events.specs.declared.event.Scanned.TheVariants as looks
use Rattle.esx_events.specs.declared.call.PageState.{PageState}
use Rattle.esx_events.specs.declared.call.PageState.TheVariants as pages
use Rattle.esx_events.specs.declared.call.Help.{Help}
use Rattle.esx_events.specs.declared.call.Help.TheVariants as helps

abbrev pub level_text : Level → List ℕ
level_text High = codes "high"
level_text Soft = codes "soft"
level_text Hard = codes "hard"
level_text Low = codes "low"

abbrev pub state_text : VmState → List ℕ
state_text Starting = codes "starting"
state_text Running = codes "running"
state_text Stopping = codes "stopping"

-- a virtual machine after a start
abbrev pub running_text : Bool → List ℕ
running_text true = codes "running"
running_text false = codes "starting"

-- a refusal for its level tells the level
abbrev pub refusal_ending : Refusal → List ℕ
refusal_ending refusals.NoVm = codes "\n"
refusal_ending refusals.VmThere = codes "\n"
refusal_ending refusals.BadSpec = codes "\n"
refusal_ending refusals.NoMemoryReserve = codes "\n"
refusal_ending refusals.NoSwapReserve = codes "\n"
refusal_ending refusals.NotRunning = codes "\n"
refusal_ending refusals.OutOfRange = codes "\n"
refusal_ending refusals.Held = codes "\n"
refusal_ending refusals.Short = codes "\n"
refusal_ending refusals.OverGoal = codes "\n"
refusal_ending refusals.NotLent = codes "\n"
refusal_ending refusals.LentAlready = codes "\n"
refusal_ending (refusals.NotNow High) = codes " high\n"
refusal_ending (refusals.NotNow Soft) = codes " soft\n"
refusal_ending (refusals.NotNow Hard) = codes " hard\n"
refusal_ending (refusals.NotNow Low) = codes " low\n"
refusal_ending refusals.AtTarget = codes "\n"
refusal_ending refusals.NotResident = codes "\n"
refusal_ending refusals.BadWords = codes "\n"
refusal_ending refusals.NotNeeded = codes "\n"
refusal_ending refusals.PagesLeft = codes "\n"
refusal_ending refusals.NothingToUndo = codes "\n"
refusal_ending refusals.NothingToRedo = codes "\n"
refusal_ending refusals.NoSuchNode = codes "\n"
refusal_ending refusals.NameTaken = codes "\n"
refusal_ending refusals.NoSuchName = codes "\n"
refusal_ending refusals.OnPath = codes "\n"
refusal_ending refusals.Full = codes "\n"
refusal_ending refusals.OutOfMemory = codes "\n"
refusal_ending refusals.SampleOpen = codes "\n"

-- admission
abbrev pub admitted_text : Reserves → List ℕ
admitted_text r = codes "ok memory " ++ (decimal r.memory ++ (codes "/" ++ (decimal r.frames ++ (codes " swap " ++ (decimal r.swap ++ (codes "/" ++ (decimal r.slots ++ (10 ∷ []))))))))

abbrev pub started_text : ℕ → ℕ → ℕ → Bool → List ℕ
started_text frame taken overhead running = codes "ok frame " ++ (decimal frame ++ (codes " overhead " ++ (decimal taken ++ (codes "/" ++ (decimal overhead ++ (codes " " ++ (running_text running ++ (10 ∷ []))))))))

-- balloon
abbrev pub goal_text : ℕ → ℕ → ℕ → List ℕ
goal_text goal lent epoch = codes "ok goal " ++ (decimal goal ++ (codes " lent " ++ (decimal lent ++ (codes " epoch " ++ (decimal epoch ++ (10 ∷ []))))))

abbrev pub reset_text : ℕ → List ℕ
reset_text epoch = codes "reset epoch " ++ (decimal epoch ++ (10 ∷ []))

abbrev pub lent_text : ℕ → ℕ → List ℕ
lent_text lent goal = codes "ok lent " ++ (decimal lent ++ (codes " goal " ++ (decimal goal ++ (10 ∷ []))))

abbrev pub taken_back_text : ℕ → List ℕ
taken_back_text lent = codes "ok lent " ++ (decimal lent ++ (10 ∷ []))

-- sampling
abbrev pub opened_text : ℕ → ℕ → List ℕ
opened_text length pages = codes "ok period " ++ (decimal length ++ (codes " pages " ++ (decimal pages ++ (10 ∷ []))))

abbrev pub rebalanced_text : ℕ → ℕ → List ℕ
rebalanced_text need revoked = codes "ok need " ++ (decimal need ++ (codes " revoked " ++ (decimal revoked ++ (10 ∷ []))))

-- paging
abbrev pub paged_out_text : ℕ → ℕ → List ℕ
paged_out_text page slot = codes "ok out " ++ (decimal page ++ (codes " slot " ++ (decimal slot ++ (10 ∷ []))))

abbrev pub shared_out_text : ℕ → ℕ → List ℕ
shared_out_text page frame = codes "ok shared " ++ (decimal page ++ (codes " frame " ++ (decimal frame ++ (10 ∷ []))))

abbrev pub replaced_text : ℕ → ℕ → ℕ → List ℕ
replaced_text page slot frame = codes "ok out " ++ (decimal page ++ (codes " slot " ++ (decimal slot ++ (codes " frame " ++ (decimal frame ++ (10 ∷ []))))))

-- sharing
abbrev pub found_shared_text : ℕ → ℕ → List ℕ
found_shared_text frame count = codes "ok shared frame " ++ (decimal frame ++ (codes " count " ++ (decimal count ++ (10 ∷ []))))

-- leaving
abbrev pub given_back_text : ℕ → List ℕ
given_back_text kept = codes "ok overhead " ++ (decimal kept ++ (10 ∷ []))

-- moves
abbrev pub stand_text : Stand → ℕ → List ℕ
stand_text stand jumps = codes "at " ++ (decimal stand.node ++ (codes " depth " ++ (decimal stand.depth ++ (codes " jumps " ++ (decimal jumps ++ (10 ∷ []))))))

abbrev pub marked_text : List ℕ → ℕ → List ℕ
marked_text name node = codes "ok mark " ++ (name ++ (codes " at " ++ (decimal node ++ (10 ∷ []))))

abbrev pub pruned_text : ℕ → List ℕ
pruned_text count = codes "ok pruned " ++ (decimal count ++ (10 ∷ []))

-- questions
abbrev pub sum_text : Sum → List ℕ
sum_text sum = codes "overhead " ++ (decimal sum.overhead ++ (codes " private " ++ (decimal sum.private ++ (codes " shared " ++ (decimal sum.shared ++ (codes " free " ++ (decimal sum.free ++ (codes " " ++ (level_text sum.level ++ (10 ∷ []))))))))))

abbrev pub activity_text : Activity → List ℕ
activity_text a = codes "slow " ++ (decimal a.slow ++ (codes " fast " ++ (decimal a.fast ++ (codes " active " ++ (decimal a.active ++ (codes " period " ++ (decimal a.done ++ (codes "/" ++ (decimal a.length ++ (codes " touched " ++ (decimal a.touched ++ (codes "/" ++ (decimal a.pages ++ (10 ∷ []))))))))))))))

abbrev pub private_text : ℕ → List ℕ
private_text frame = codes "here frame " ++ (decimal frame ++ codes " private\n")

abbrev pub hinted_text : ℕ → List ℕ
hinted_text frame = codes "here frame " ++ (decimal frame ++ codes " private hint\n")

abbrev pub shared_text : ℕ → ℕ → List ℕ
shared_text frame count = codes "here frame " ++ (decimal frame ++ (codes " shared " ++ (decimal count ++ (10 ∷ []))))

abbrev pub out_text : ℕ → List ℕ
out_text slot = codes "out slot " ++ (decimal slot ++ (10 ∷ []))

abbrev pub page_out_text : ℕ → List ℕ
page_out_text vm = codes "swapout " ++ (decimal vm ++ (10 ∷ []))

-- refusals
abbrev pub refusal_text : Refusal → List ℕ
refusal_text refusal = codes "no " ++ (decimal (refusal_number refusal) ++ (codes " " ++ (refusal_name refusal ++ (refusal_ending refusal))))

-- bytes that were read
abbrev pub bytes_text : List ℕ → List ℕ
bytes_text bytes = codes "ok " ++ (encode_lower bytes ++ 10 ∷ [])

abbrev pub looked_text : Scanned → List ℕ
looked_text looks.Hinted = codes "ok hinted\n"
looked_text (looks.Shared frame count) = found_shared_text frame count
looked_text looks.Stale = codes "ok stale\n"
looked_text looks.Clash = codes "ok clash\n"
looked_text looks.Already = codes "ok already\n"

abbrev pub page_text : PageState → List ℕ
page_text pages.Untouched = codes "untouched\n"
page_text (pages.Private frame) = private_text frame
page_text (pages.Hinted frame) = hinted_text frame
page_text (pages.Shared frame count) = shared_text frame count
page_text (pages.Out slot) = out_text slot
page_text pages.Lent = codes "lent\n"

abbrev pub help_text : Help → List ℕ
help_text helps.Go = codes "go\n"
help_text (helps.SwapOut vm) = page_out_text vm
help_text helps.Rebalance = codes "rebalance\n"
help_text helps.Replace = codes "replace\n"
