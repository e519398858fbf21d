-- Where the rules of version 1 and those of version 2 agree: on paths of version 1's events, where no two contents that its looks were at have different keys with the same upper bits.
use Rattle.std.specs.Prelude.{◌≡◌, ℕ, true, Bool, List, [], ◌∷◌, map, Option, Some, None, Result, Ok, Err}
use Rattle.std.specs.List.{AllByRecursion}
use Rattle.esx_types.specs.declared.config.Config.{Config}
use Rattle.esx_types.specs.Ranges.{IsConfig}
use Rattle.esx_types.specs.declared.table.Hint.{Hint}
use Rattle.esx_events.specs.declared.event.Event.{Event}
use Rattle.esx_events.specs.declared.event.Event.TheVariants.{Scan, SwapOut}
use Rattle.esx_events.specs.declared.event.Answer.{Answer}
use Rattle.esx_events.specs.declared.event.Refusal.{Refusal}
use Rattle.esx_formulas.specs.Key.{content_key, short_of, hint_key}
use Rattle.esx_model.specs.declared.scene.Place.{Place}
use Rattle.esx_model.specs.declared.scene.Place.TheVariants.{Untouched, Here, Out, Lent}
use Rattle.esx_model.specs.declared.scene.Vm.{Vm}
use Rattle.esx_model.specs.declared.scene.Site.{Site}
use Rattle.esx_model.specs.declared.scene.Scene.{Scene}
use Rattle.esx_model.specs.Site.{vm_at, place_at, place_of}
use Rattle.esx_model.specs.Hints.{other_hint}
use Rattle.esx_model.specs.event.Paging.{victim}
use Rattle.esx_model.specs.declared.book.Book.{Book}
use Rattle.esx_model.specs.Show.{shown}
use Rattle.esx_model.specs.Replay.{opening, next}
use Rattle.esx_laws.specs.v1.Replay as v1
use Rattle.esx_laws.specs.v1.Step.{IsOfVersion1}

-- a site with each hint under the short of its key
abbrev pub cut_hint : Hint → Hint
cut_hint h = record { key = short_of h.key; vm = h.vm; page = h.page }

abbrev pub cut : Site → Site
cut s = record s { hints = map cut_hint s.hints }

abbrev pub cut_scene : Scene → Scene
cut_scene t = record t { site = cut t.site }

-- the contents that a look of version 1 is at: those of the page, and of the page whose hint stands under its key
abbrev pub bytes_in : Place → List (List ℕ)
bytes_in Untouched = []
bytes_in (Here bytes f shared) = bytes ∷ []
bytes_in (Out bytes slot) = []
bytes_in (Lent epoch) = []

abbrev pub bytes_of_hint : Site → Option Hint → List (List ℕ)
bytes_of_hint s None = []
bytes_of_hint s (Some h) = bytes_in (place_of s h.vm h.page)

abbrev pub looked_from : Site → ℕ → ℕ → Place → List (List ℕ)
looked_from s n page Untouched = []
looked_from s n page (Here bytes f shared) = bytes ∷ bytes_of_hint s (other_hint (content_key bytes) n page s.hints)
looked_from s n page (Out bytes slot) = []
looked_from s n page (Lent epoch) = []

abbrev pub looked_of_page : Site → ℕ → Vm → Option ℕ → List (List ℕ)
looked_of_page s n v None = []
looked_of_page s n v (Some page) = looked_from s n page (place_at v page)

abbrev pub looked_of_vm : Site → ℕ → (Vm → Option ℕ) → Option Vm → List (List ℕ)
looked_of_vm s n drawn None = []
looked_of_vm s n drawn (Some v) = looked_of_page s n v (drawn v)

abbrev pub looked_by : Site → Event → List (List ℕ)
looked_by s (Scan n page) = looked_of_vm s n (λ v. Some page) (vm_at s n)
looked_by s (SwapOut n word) = looked_of_vm s n (λ v. victim v word) (vm_at s n)
looked_by s e = []

-- of contents that a test lets through no two have different keys with the same upper bits
abbrev pub AreApart : (List ℕ → Bool) → Type 0
AreApart looked = (a b : List ℕ) → looked a ≡ true → looked b ≡ true → hint_key a ≡ hint_key b → content_key a ≡ content_key b

abbrev pub AreLooked : (List ℕ → Bool) → List (List ℕ) → Type 0
AreLooked looked contents = AllByRecursion (λ bytes. looked bytes ≡ true) contents

-- the scene after an event, which is the old one where it is refused
abbrev pub scene_after : Scene → Result (Answer × Scene) Refusal → Scene
scene_after t (Err e) = t
scene_after t (Ok r) = r.1

-- events of version 1, whose looks are at no other contents
unfoldable pub ArePlayed : (List ℕ → Bool) → Config → List Event → Scene → Type 0
ArePlayed looked c [] t = Unit {0}
ArePlayed looked c (e ∷ es) t = IsOfVersion1 e × AreLooked looked (looked_by t.site e) × ArePlayed looked c es (scene_after t (v1.next c t e))

-- what events are answered, and the scene after them
abbrev pub Play : Type 0
Play = List (Result Answer Refusal) × Scene

abbrev pub answer_of : Result (Answer × Scene) Refusal → Result Answer Refusal
answer_of (Err e) = Err e
answer_of (Ok r) = Ok r.0

unfoldable pub played : (Scene → Event → Result (Answer × Scene) Refusal) → List Event → Scene → Play
played next [] t = ([], t)
played next (e ∷ es) t = (answer_of (next t e) ∷ (played next es (scene_after t (next t e))).0, (played next es (scene_after t (next t e))).1)

abbrev pub cut_play : Play → Play
cut_play p = (p.0, cut_scene p.1)

-- equal answers, and the same scene but for the cut of hints
abbrev pub DoVersionsAgree : Type 0
DoVersionsAgree = (looked : List ℕ → Bool) (c : Config) (es : List Event) → IsConfig c → AreApart looked → ArePlayed looked c es (opening c) →
    played (next c) es (opening c) ≡ cut_play (played (v1.next c) es (opening c))

-- the tables of a scene that is cut are those of the scene, but for the keys of hints
abbrev pub cut_book : Book → Book
cut_book b = record b { hints = map cut_hint b.hints }

abbrev pub DoBooksAgree : Type 0
DoBooksAgree = (c : Config) (t : Scene) → shown c (cut_scene t) ≡ cut_book (shown c t)
