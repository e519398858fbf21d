-- Pages with equal bytes come to share one frame (Waldspurger, "Content-Based Page Sharing").
use Rattle.std.specs.Prelude.{ℕ, Bool, true, false, not, ◌==◌, nat_le, List, Option, Some, None, find, bytes_eq, if◌then◌else◌, Ok, ◌∷◌, []}
use Rattle.esx_types.specs.declared.config.Config.{Config}
use Rattle.esx_events.specs.declared.event.Answer.TheVariants as answers
use Rattle.esx_events.specs.declared.event.Scanned.{Scanned}
use Rattle.esx_events.specs.declared.event.Scanned.TheVariants as scanned
use Rattle.esx_events.specs.declared.event.Refusal.TheVariants.{NotRunning, OutOfRange, NotResident}
use Rattle.esx_model.specs.declared.look.Standing.{Standing}
use Rattle.esx_model.specs.declared.look.Look.{Look}
use Rattle.esx_model.specs.declared.look.Look.TheVariants.{Already, SharedFrame, OtherPage, Changed, OtherBytes, Nothing}
use Rattle.esx_model.specs.declared.scene.Place.{Place}
use Rattle.esx_model.specs.declared.scene.Place.TheVariants.{Untouched, Here, Out, Lent}
use Rattle.esx_types.specs.declared.table.Hint.{Hint}
use Rattle.esx_model.specs.declared.scene.Site.{Site}
use Rattle.esx_formulas.specs.Key.{content_key, hint_key}
use Rattle.esx_model.specs.Places.{is_here, contents}
use Rattle.esx_model.specs.Site.{vm_at, place_at, place_of, pages_at, all_places}
use Rattle.esx_model.specs.Hints.{with_hint, other_hint, placed}
use Rattle.esx_model.specs.event.Outcome.{Outcome, Gate, at_vm, unless, standing, is_running}

-- the page is shared, and its content has that key
abbrev pub is_shared_under : ℕ → Place → Bool
is_shared_under key Untouched = false
is_shared_under key (Here bytes f true) = content_key bytes == key
is_shared_under key (Here bytes f false) = false
is_shared_under key (Out bytes slot) = false
is_shared_under key (Lent epoch) = false

unfoldable pub shared_under : ℕ → Site → Option Place
shared_under key s = find (is_shared_under key) (all_places s)

-- at a shared page under the same key
abbrev pub look_at_shared : List ℕ → Place → Look
look_at_shared bytes (Here others f shared) = if bytes_eq bytes others then SharedFrame f else OtherBytes
look_at_shared bytes Untouched = Nothing
look_at_shared bytes (Out others slot) = Nothing
look_at_shared bytes (Lent epoch) = Nothing

-- at the page of a hint under the same short: it is another content where its bytes say so, and stale only where its short is another one now
abbrev pub look_at_hinted : List ℕ → Hint → Place → Look
look_at_hinted bytes h (Here others f shared) =
    if not (hint_key others == h.key) then Changed
    else (if bytes_eq bytes others then OtherPage h.vm h.page f else OtherBytes)
look_at_hinted bytes h Untouched = Changed
look_at_hinted bytes h (Out others slot) = Changed
look_at_hinted bytes h (Lent epoch) = Changed

abbrev pub look_at_hint : Site → List ℕ → Option Hint → Look
look_at_hint s bytes None = Nothing
look_at_hint s bytes (Some h) = look_at_hinted bytes h (place_of s h.vm h.page)

-- a shared page comes before a hint
abbrev pub look_private : Site → ℕ → ℕ → List ℕ → Option Place → Look
look_private s n page bytes (Some p) = look_at_shared bytes p
look_private s n page bytes None = look_at_hint s bytes (other_hint (hint_key bytes) n page s.hints)

unfoldable pub look : Site → ℕ → ℕ → Place → Look
look s n page (Here bytes f true) = Already
look s n page (Here bytes f false) = look_private s n page bytes (shared_under (content_key bytes) s)
look s n page Untouched = Nothing
look s n page (Out bytes slot) = Nothing
look s n page (Lent epoch) = Nothing

-- the page that is found to be equal to a page, and was alone in its frame until then
abbrev pub other_found : Look → Option (ℕ × ℕ)
other_found (OtherPage m q frame) = Some (m, q)
other_found _ = None

abbrev pub found_by : Site → Option (ℕ × ℕ) → Option (ℕ × ℕ)
found_by s None = None
found_by s (Some p) = other_found (look s p.0 p.1 (place_of s p.0 p.1))

-- the site where the page is the hint under its short
abbrev pub hinted : Site → ℕ → ℕ → List ℕ → Site
hinted s n page bytes = record s { hints = with_hint (record { key = hint_key bytes; vm = n; page = page }) s.hints }

-- the site after a look: equal pages come into one frame, and what finds nothing is remembered
abbrev pub after_look : Site → ℕ → ℕ → List ℕ → Look → Site
after_look s n page bytes Already = s
after_look s n page bytes (SharedFrame f) = placed s n page (Here bytes f true)
after_look s n page bytes (OtherPage m q f) = placed (placed s m q (Here bytes f true)) n page (Here bytes f true)
after_look s n page bytes Changed = hinted s n page bytes
after_look s n page bytes OtherBytes = s
after_look s n page bytes Nothing = hinted s n page bytes

-- what is said of a look, given the site after it
abbrev pub said_of : Site → Look → Scanned
said_of after Already = scanned.Already
said_of after (SharedFrame f) = scanned.Shared f (pages_at f after)
said_of after (OtherPage m q f) = scanned.Shared f (pages_at f after)
said_of after Changed = scanned.Stale
said_of after OtherBytes = scanned.Clash
said_of after Nothing = scanned.Hinted

abbrev pub looked : Look → Site → Outcome
looked l after = Ok (answers.Looked (said_of after l), after)

abbrev pub scan_gate : Standing → ℕ → Bool → Gate
scan_gate m page here = (not (is_running m.state), NotRunning) ∷ (nat_le m.spec.max page, OutOfRange) ∷ (not here, NotResident) ∷ []

abbrev pub scan_place : Config → Site → ℕ → ℕ → Place → Outcome
scan_place c s n page p = looked (look s n page p) (after_look s n page (contents c p) (look s n page p))

unfoldable pub scan : Config → Site → ℕ → ℕ → Outcome
scan c s n page = at_vm (vm_at s n) (λ v. unless (scan_gate (standing v) page (is_here (place_at v page))) (scan_place c s n page (place_at v page)))
