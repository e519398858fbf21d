-- A page's word draws it, and by this word it goes out.
use Rattle.std.specs.Prelude.{◌≡◌, ℕ, ◌<◌, Some, Ok, Err}
use Rattle.esx_types.specs.declared.config.Config.{Config}
use Rattle.esx_events.specs.declared.event.Answer.{Answer}
use Rattle.esx_events.specs.declared.event.Answer.TheVariants as answers
use Rattle.esx_events.specs.declared.event.Event.TheVariants.{SwapOut}
use Rattle.esx_events.specs.declared.event.Refusal.{Refusal}
use Rattle.esx_model.specs.declared.scene.Vm.{Vm}
use Rattle.esx_model.specs.declared.scene.Site.{Site}
use Rattle.esx_model.specs.declared.scene.Scene.{Scene}
use Rattle.esx_model.specs.Site.{vm_at, resident}
use Rattle.esx_model.specs.Replay.{next}
use Rattle.esx_model.specs.event.Paging.{victim}
use Rattle.esx_pageout.specs.Word.{word_of}

-- the word of a page is less than how many pages are in frames, and draws the page
abbrev pub DrawsItsPage : Type 0
DrawsItsPage = (s : Site) (n page word : ℕ) (v : Vm) → vm_at s n ≡ Some v → word_of s n page ≡ Ok word → (word < resident v) × (victim v word ≡ Some page)

-- no word draws a page that has none
abbrev pub IsDrawnByNone : Type 0
IsDrawnByNone = (s : Site) (n page word : ℕ) (e : Refusal) (v : Vm) → vm_at s n ≡ Some v → word_of s n page ≡ Err e → victim v word ≡ Some page → ⊥

-- the answer tells this page
abbrev pub TellsOut : ℕ → Answer → Type 0
TellsOut page (answers.PagedOut other slot) = other ≡ page
TellsOut page (answers.SharedOut other frame) = other ≡ page
TellsOut page _ = ⊥

-- where a swap-out by the word of a page is accepted, its answer tells the page: it is out, or it came into a shared frame
abbrev pub GoesOut : Type 0
GoesOut = (c : Config) (t : Scene) (n page word : ℕ) (r : Answer × Scene) → word_of t.site n page ≡ Ok word → next c t (SwapOut n word) ≡ Ok r → TellsOut page r.0
