-- What questions read of the raw tables, and what the tables of every sound site have on which they rest. No public clause cites this module.
use Rattle.std.specs.Prelude.{◌≡◌, ℕ, ◌≤◌, ◌==◌, Bool, true, false, ◌&&◌, not, is_some, nat_lt, nat_le, List, [], ◌∷◌, length, Option, Some, None, option_map, if◌then◌else◌, Result, Ok, Err}
use Rattle.std.specs.List.{list_any}
use Rattle.esx_types.specs.Ranges.{IsTax}
use Rattle.esx_types.specs.declared.config.TheConstants.{MAX_PAGES, MAX_SHARES, MAX_TAU, VM_NUMBERS}
use Rattle.esx_types.specs.declared.level.Level.{Level}
use Rattle.esx_types.specs.declared.table.Listing.{Listing}
use Rattle.esx_types.specs.declared.table.Listing.TheVariants.{Unlisted, Shared, Hinted}
use Rattle.esx_types.specs.declared.table.MapRow.{MapRow}
use Rattle.esx_types.specs.declared.table.MapRow.TheVariants as maps
use Rattle.esx_types.specs.Frames.{frame_at, ref_count, least_frame}
use Rattle.esx_types.specs.Listings.{listing_at}
use Rattle.esx_types.specs.Pages.{page_at}
use Rattle.esx_events.specs.declared.call.Help.{Help}
use Rattle.esx_events.specs.declared.call.Help.TheVariants as helps
use Rattle.esx_events.specs.declared.call.PageState.{PageState}
use Rattle.esx_events.specs.declared.call.PageState.TheVariants as states
use Rattle.esx_events.specs.declared.call.TableRow.{TableRow}
use Rattle.esx_events.specs.declared.event.Event.{Event}
use Rattle.esx_events.specs.declared.event.Event.TheVariants.{Scan, SwapOut}
use Rattle.esx_events.specs.declared.event.Refusal.{Refusal}
use Rattle.esx_events.specs.declared.event.Refusal.TheVariants.{NoVm, OutOfRange}
use Rattle.esx_formulas.specs.declared.targets.Row.{Row}
use Rattle.esx_formulas.specs.Ratio.{Claim, claim}
use Rattle.esx_formulas.specs.Targets.{sooner, first_claim}
use Rattle.esx_model.specs.declared.book.VmRow.{VmRow}
use Rattle.esx_model.specs.declared.tables.Tables.{Tables}
use Rattle.esx_model.specs.Tables.{standing_of}
use Rattle.esx_model.specs.Readings.{state_in, table_row}
use Rattle.esx_model.specs.Advice.{help_by}
use Rattle.esx_model.specs.event.Access.{is_blocked}
use Rattle.esx_model.specs.event.Sharing.{other_found}
use Rattle.esx_model.specs.event.Outcome.{unless, page_gate}
use Rattle.esx_tables.specs.Readings.{row_at}
use Rattle.esx_changes.specs.Activity.{IsTold}
use Rattle.esx_changes.specs.Drawn.{drawn_page}
use Rattle.esx_changes.specs.Spare.{has_spare}
use Rattle.esx_plans.specs.plan.Ratios.{numbered, ratio_row}
use Rattle.esx_sharing.specs.Sharing.{look_in}

-- a machine's numbers are in their ranges
pub record IsReadable (v : VmRow) : Type 0 where
  pub least_shares : 1 ≤ v.spec.shares
  pub most_shares : v.spec.shares ≤ MAX_SHARES
  pub most_target : v.target ≤ MAX_PAGES
  pub most_tau : IsTax v.spec.tau
  pub period : IsTold v.period

pub record AreReadable (t : Tables) : Type 0 where
  pub vms : length t.vms ≡ VM_NUMBERS
  pub each : (n : ℕ) (v : VmRow) → row_at t n ≡ Some v → IsReadable v
  pub tau : t.tau ≤ MAX_TAU

-- Where a page is.

abbrev pub is_hinted : Listing → Bool
is_hinted Unlisted = false
is_hinted (Shared key) = false
is_hinted (Hinted vm page key) = true

abbrev pub state_of : Tables → ℕ → MapRow → PageState
state_of t epoch maps.Untouched = states.Untouched
state_of t epoch (maps.Here f) = state_in (is_hinted (listing_at t.listings f)) f (frame_at t.frames f)
state_of t epoch (maps.Out slot) = states.Out slot
state_of t epoch (maps.Lent e) = if e == epoch then states.Lent else states.Untouched

abbrev pub page_from : Tables → ℕ → Option VmRow → Result PageState Refusal
page_from t page None = Err NoVm
page_from t page (Some v) = if nat_le v.spec.max page then Err OutOfRange else Ok (state_of t v.epoch (page_at v.pages page))

-- What lets a write go on.

-- the frame that a page is in after a write: a frame that others use is not written
abbrev pub written_frame : Tables → MapRow → Option ℕ
written_frame t maps.Untouched = least_frame t.frames
written_frame t (maps.Here f) = if nat_lt 1 (ref_count (frame_at t.frames f)) then least_frame t.frames else Some f
written_frame t (maps.Out slot) = least_frame t.frames
written_frame t (maps.Lent e) = least_frame t.frames

abbrev pub can_go : Tables → Level → VmRow → ℕ → Bool
can_go t level v page = not (is_blocked level (standing_of v)) && is_some (written_frame t (page_at v.pages page))

-- what a machine has where the site has that tax, of which it keeps its target
abbrev pub target_row : ℕ → ℕ → VmRow → Row
target_row tau n v = ratio_row tau (λ (w : VmRow). w.target) n v

abbrev pub target_rows : ℕ → ℕ → List (Option VmRow) → List Row
target_rows tau n vms = numbered (ratio_row tau (λ (w : VmRow). w.target)) n vms

-- the claim of the row that came first so far, and with one more row, or one more place of a machine
abbrev pub claim_of : Option Row → Option Claim
claim_of None = None
claim_of (Some row) = Some (claim row row.pages)

abbrev pub claim_step : Option Claim → Row → Option Claim
claim_step best row = if nat_lt row.floor row.pages then sooner best (claim row row.pages) else best

abbrev pub vm_step : ℕ → ℕ → Option Claim → Option VmRow → Option Claim
vm_step tau n best None = best
vm_step tau n best (Some v) = claim_step best (target_row tau n v)

abbrev pub help_from : Tables → Level → VmRow → ℕ → Help
help_from t level v page = if can_go t level v page then helps.Go else help_by (list_any has_spare t.vms) (first_claim (target_rows t.tau 0 t.vms))

abbrev pub advice_from : Tables → Level → ℕ → Option VmRow → Result Help Refusal
advice_from t level page None = Err NoVm
advice_from t level page (Some v) = unless (page_gate (standing_of v) page) (Ok (help_from t level v page))

-- the line of a place of a machine
abbrev pub line_of : ℕ → Option VmRow → List TableRow
line_of n None = []
line_of n (Some v) = table_row n v ∷ []

-- What an event finds to be equal to its page: the page by its row, and by that of its machine.
abbrev pub found_at : Tables → ℕ → ℕ → MapRow → Option (ℕ × ℕ)
found_at t n page maps.Untouched = None
found_at t n page (maps.Here f) = other_found (look_in t n page (frame_at t.frames f))
found_at t n page (maps.Out slot) = None
found_at t n page (maps.Lent e) = None

abbrev pub found_of : Tables → ℕ → ℕ → Option VmRow → Option (ℕ × ℕ)
found_of t n page None = None
found_of t n page (Some v) = found_at t n page (page_at v.pages page)

abbrev pub equal_in : Tables → Option (ℕ × ℕ) → Option (ℕ × ℕ)
equal_in t None = None
equal_in t (Some p) = found_of t p.0 p.1 (row_at t p.0)

-- the page that a word draws, and the one that an event compares with others
abbrev pub drawn_in : ℕ → Option VmRow → ℕ → Option (ℕ × ℕ)
drawn_in n None word = None
drawn_in n (Some v) word = option_map (λ page. (n, page)) (drawn_page v word)

abbrev pub compared_in : Tables → Event → Option (ℕ × ℕ)
compared_in t (Scan n page) = Some (n, page)
compared_in t (SwapOut n word) = drawn_in n (row_at t n) word
compared_in t _ = None
