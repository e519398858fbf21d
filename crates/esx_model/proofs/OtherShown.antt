-- The tables of a site after an overhead frame came or went, after a machine came or went, and after targets, the tax and hints changed.
use Rattle.std.proofs.Common.{◌≡◌, ◌≢◌, ℕ, ◌+◌, ◌-◌, ◌<◌, ◌≤◌, Bool, true, false, ◌||◌, not, List, [], ◌∷◌, length, get_or, set, map, count_by, nat_le, refl, sym, ap, ◌∙◌, subst, arith, cond, Option, Some, None, inl, inr, ◌==◌}
use Rattle.std.specs.Option.{option_map}
use Rattle.std.specs.List.{filter, find, list_any, range_with_len, AllByRecursion}
use Rattle.std.proofs.lemmas.List.{map-set}
use Rattle.std.proofs.lemmas.List.Sums.{sum_by-cons}
use Rattle.std.proofs.lemmas.Bool.{false≢true}
use Rattle.esx_types.specs.declared.config.Config.{Config}
use Rattle.esx_types.specs.declared.vm.VmSpec.{VmSpec}
use Rattle.esx_types.specs.declared.table.FrameRow.{FrameRow}
use Rattle.esx_types.specs.declared.table.FrameRow.TheVariants as frames
use Rattle.esx_types.specs.declared.table.Hint.{Hint}
use Rattle.esx_model.specs.declared.scene.Place.{Place}
use Rattle.esx_model.specs.declared.scene.Place.TheVariants.{Here}
use Rattle.esx_model.specs.declared.scene.Vm.{Vm}
use Rattle.esx_model.specs.declared.scene.Site.{Site}
use Rattle.esx_types.specs.declared.table.Listing.{Listing}
use Rattle.esx_types.specs.declared.table.Listing.TheVariants as listings
use Rattle.esx_model.specs.Places.{is_here, is_here_at, is_out, is_out_at, is_private}
use Rattle.esx_model.specs.Site.{vm_at, with_vm, place_at, place_in, place_of, all_places, all_overhead, least_free, resident, paged_out}
use Rattle.esx_model.specs.Show.{in_frame, in_slot, pages_in, is_listed, row_of, frame_row, slot_row, frame_rows, slot_rows}
use Rattle.esx_model.specs.Tables.{vm_table, is_hint_in, hint_listing, listing_by, listing_row, listing_rows, tables_of}
use Rattle.esx_model.specs.Moved.{listing_without, put_vm, put_frame}
use Rattle.esx_model.specs.sound.Machines.{IsPlace}
use Rattle.esx_model.specs.event.Sharing.{hinted}
use Rattle.esx_model.specs.event.Admission.{admitted}
use Rattle.esx_model.specs.event.Starting.{with_overhead}
use Rattle.esx_model.specs.event.Leaving.{without_last}
use Rattle.esx_formulas.specs.Key.{hint_key}
use Rattle.esx_model.specs.Hints.{is_hint_of, in_order, with_hint}
use Rattle.esx_model.specs.event.Rebalancing.{with_targets}
use Rattle.esx_model.specs.sound.Sound.{IsSound}
use Rattle.esx_model.proofs.Lists.{Inserted, rows_same, rows_move, listed_more, counted_more, all_middle, all_map, chosen, find_passes, one, eqb_same, eqb_other}
use Rattle.esx_model.proofs.Machines.{old_place}
use Rattle.esx_model.proofs.Kept.{places_same, place_changed, page_is_in}
use Rattle.esx_model.proofs.Rooms.{IsIn, row_here, private_row, least_unused}
use Rattle.esx_model.proofs.Shown.{own_hint, find_same, row_by, row_same, row_clear, out_row_same, listing_is, shown_by}
use Rattle.esx_model.proofs.OnePage.{one_page, one_hint, nothing_passes}
use Rattle.esx_model.proofs.event.Rebalancing.{retargeted, places_retargeted, overhead_retargeted, place_retargeted}
use Rattle.esx_model.proofs.event.Starting.{overhead_inserted}
use Rattle.esx_model.proofs.event.Gone.{last_inserted, without_vm, places_fewer, overhead_gone, overhead_last, in_frame_here, in_slot_out, place_left}
use Rattle.esx_model.proofs.event.Admission.{places_more, overhead_more, place_kept}

or_nothing : (b : Bool) → (b || false) ≡ b
or_nothing true = refl
or_nothing false = refl

or_true : (b : Bool) → (b || true) ≡ true
or_true true = refl
or_true false = refl

-- a frame that is listed as it was
listed_same : (f g : ℕ) (os ns : List ℕ) → Inserted f os ns → g ≢ f → is_listed g ns ≡ is_listed g os
listed_same f g os ns i other = listed_more (λ x. x == g) f os ns i ∙ ap (λ b. is_listed g os || b) (eqb_other f g other) ∙ or_nothing (is_listed g os)

listed_now : (f : ℕ) (os ns : List ℕ) → Inserted f os ns → is_listed f ns ≡ true
listed_now f os ns i = listed_more (λ x. x == f) f os ns i ∙ ap (λ b. is_listed f os || b) (eqb_same f) ∙ or_true (is_listed f os)

none_any : (p : ℕ → Bool) (xs : List ℕ) → count_by p xs ≡ 0 → list_any p xs ≡ false
none_any p [] h = refl
none_any p (x ∷ xs) h = of (p x) refl (sum_by-cons (λ y. one (p y)) x xs) (λ k. none_any p xs k)
  where
    of : (b : Bool) → p x ≡ b → count_by p (x ∷ xs) ≡ one (p x) + count_by p xs → (count_by p xs ≡ 0 → list_any p xs ≡ false) → (p x || list_any p xs) ≡ false
    of true e more rest = absurd (let some : one (p x) ≡ 1 = ap one e in omega (arith, more, some, h))
    of false e more rest = ap (λ b. b || list_any p xs) e ∙ rest (omega (arith, more, h))

row_listed : (s t : Site) (f : ℕ) → is_listed f (all_overhead t) ≡ is_listed f (all_overhead s) → pages_in t f ≡ pages_in s f → frame_row t f ≡ frame_row s f
row_listed s t f listed pages =
    row_by t f ∙ ap (λ b. cond b frames.Overhead (row_of (pages_in t f))) listed ∙ ap (λ ps. cond (is_listed f (all_overhead s)) frames.Overhead (row_of ps)) pages ∙ sym (row_by s f)

-- A machine takes an overhead frame.
pub start_shown : (c : Config) (s : Site) (n f : ℕ) (v : Vm) → vm_at s n ≡ Some v → least_free c.frames s ≡ Some f
    → tables_of c (with_vm s n (with_overhead v f)) ≡ put_vm (put_frame (tables_of c s) f frames.Overhead listings.Unlisted) n (Some (vm_table (with_overhead v f)))
start_shown c s n f v there found =
    let w = with_overhead v f in
    let t = with_vm s n w in
    let unused = least_unused c.frames s f found in
    let same : all_places t ≡ all_places s = places_same s n v w s.hints there refl in
    let more = overhead_inserted s n f v there in
    let row : frame_row t f ≡ frames.Overhead = row_by t f ∙ ap (λ b. cond b frames.Overhead (row_of (pages_in t f))) (listed_now f (all_overhead s) (all_overhead t) more) in
    let others : (k : ℕ) → k ≢ f → frame_row t k ≡ frame_row s k = λ k other. row_listed s t k (listed_same f k (all_overhead s) (all_overhead t) more other) (ap (in_frame k) same) in
    let hint : (k : ℕ) → find (is_hint_in t k) s.hints ≡ find (is_hint_in s k) s.hints =
    λ k. find_same (is_hint_in s k) (is_hint_in t k) s.hints (λ h. ap (is_here_at k) (place_changed s n h.vm h.page v w s.hints there (λ e. refl))) in
    shown_by c s n w s.hints (set (frame_rows c.frames s) f frames.Overhead) (slot_rows c.slots s) (set (listing_rows c.frames s) f listings.Unlisted)
    (rows_move (frame_row s) (frame_row t) f c.frames frames.Overhead frames.Free row others unused.below)
    (rows_same (slot_row s) (slot_row t) 0 c.slots (λ i. out_row_same s t i (ap (in_slot i) same)))
    (rows_move (listing_row s) (listing_row t) f c.frames listings.Unlisted listings.Unlisted (listing_is t f ∙ ap (λ r. listing_by r (find (is_hint_in t f) s.hints)) row)
    (λ k other. listing_is t k ∙ ap (λ r. listing_by r (find (is_hint_in t k) s.hints)) (others k other) ∙ ap (listing_by (frame_row s k)) (hint k) ∙ sym (listing_is s k)) unused.below)

-- what is known of a frame that is overhead no more
record Freed (c : Config) (s t : Site) (f : ℕ) : Type 0 where
  below : f < c.frames
  row : frame_row t f ≡ frames.Free
  others : (k : ℕ) → k ≢ f → frame_row t k ≡ frame_row s k

freed : (c : Config) (s t : Site) (f : ℕ) → IsSound c s → Inserted f (all_overhead t) (all_overhead s) → ((k : ℕ) → pages_in t k ≡ pages_in s k) → Freed c s t f
freed c s t f sound i pages = record {
  below = (let P : List ℕ → Type 0 = AllByRecursion (λ g. g < c.frames) in all_middle (λ g. g < c.frames) i.front i.back f (subst P i.after sound.frames.below));
  row = row_clear t f (none_any (λ g. g == f) (all_overhead t) (
      let more = counted_more (λ g. g == f) f (all_overhead t) (all_overhead s) i in
      let some : one (f == f) ≡ 1 = ap one (eqb_same f) in
      let once = sound.frames.once f in
      omega (arith, more, some, once)))
      ∙ ap row_of (pages f ∙ sound.frames.apart f (listed_now f (all_overhead t) (all_overhead s) i));
  others = λ k other. row_listed s t k (sym (listed_same f k (all_overhead t) (all_overhead s) i other)) (pages k);
}

-- A machine gives its last overhead frame back.
pub given_back_shown : (c : Config) (s : Site) (n : ℕ) (v : Vm) → IsSound c s → vm_at s n ≡ Some v → 0 < length v.overhead
    → tables_of c (with_vm s n (without_last v)) ≡ put_vm (put_frame (tables_of c s) (get_or v.overhead (length v.overhead - 1) 0) frames.Free listings.Unlisted) n (Some (vm_table (without_last v)))
given_back_shown c s n v sound there some =
    let w = without_last v in
    let t = with_vm s n w in
    let f = get_or v.overhead (length v.overhead - 1) 0 in
    let same : all_places t ≡ all_places s = places_same s n v w s.hints there refl in
    let free = freed c s t f sound (last_inserted s n v there some) (λ k. ap (in_frame k) same) in
    let hint : (k : ℕ) → find (is_hint_in t k) s.hints ≡ find (is_hint_in s k) s.hints =
    λ k. find_same (is_hint_in s k) (is_hint_in t k) s.hints (λ h. ap (is_here_at k) (place_changed s n h.vm h.page v w s.hints there (λ e. refl))) in
    shown_by c s n w s.hints (set (frame_rows c.frames s) f frames.Free) (slot_rows c.slots s) (set (listing_rows c.frames s) f listings.Unlisted)
    (rows_move (frame_row s) (frame_row t) f c.frames frames.Free frames.Free free.row free.others free.below)
    (rows_same (slot_row s) (slot_row t) 0 c.slots (λ i. out_row_same s t i (ap (in_slot i) same)))
    (rows_move (listing_row s) (listing_row t) f c.frames listings.Unlisted listings.Unlisted (listing_is t f ∙ ap (λ r. listing_by r (find (is_hint_in t f) s.hints)) free.row)
    (λ k other. listing_is t k ∙ ap (λ r. listing_by r (find (is_hint_in t k) s.hints)) (free.others k other) ∙ ap (listing_by (frame_row s k)) (hint k) ∙ sym (listing_is s k)) free.below)

-- A machine comes.
pub admitted_shown : (c : Config) (s : Site) (n : ℕ) (spec : VmSpec) → n < length s.vms → vm_at s n ≡ None → tables_of c (with_vm s n (admitted spec)) ≡ put_vm (tables_of c s) n (Some (vm_table (admitted spec)))
admitted_shown c s n spec below there =
    let w = admitted spec in
    let t = with_vm s n w in
    let row : (f : ℕ) → frame_row t f ≡ frame_row s f = λ f. row_same s t f (overhead_more s n spec below there) (places_more s n spec (is_here_at f) below there refl) in
    let hint : (k : ℕ) → find (is_hint_in t k) s.hints ≡ find (is_hint_in s k) s.hints =
    λ k. find_same (is_hint_in s k) (is_hint_in t k) s.hints (λ h. ap (is_here_at k) (place_kept s n h.vm h.page spec below there)) in
    shown_by c s n w s.hints (frame_rows c.frames s) (slot_rows c.slots s) (listing_rows c.frames s)
    (rows_same (frame_row s) (frame_row t) 0 c.frames row)
    (rows_same (slot_row s) (slot_row t) 0 c.slots (λ i. out_row_same s t i (places_more s n spec (is_out_at i) below there refl)))
    (rows_same (listing_row s) (listing_row t) 0 c.frames (λ k. listing_is t k ∙ ap (λ r. listing_by r (find (is_hint_in t k) s.hints)) (row k) ∙ ap (listing_by (frame_row s k)) (hint k) ∙ sym (listing_is s k)))

-- A machine goes.

find_along : {X : Type 0} (p q : X → Bool) (xs : List X) → AllByRecursion (λ x. q x ≡ p x) xs → find q xs ≡ find p xs
find_along p q [] same = refl
find_along p q (x ∷ xs) same = ap (λ b. cond b (Some x) (find q xs)) same.0 ∙ ap (cond (p x) (Some x)) (find_along p q xs same.1)

gone_by : (c : Config) (s : Site) (n : ℕ) (fs : List FrameRow) (ls : List Listing) (v : Vm) → vm_at s n ≡ Some v → paged_out v ≡ 0
    → frame_rows c.frames (without_vm s n) ≡ fs → listing_rows c.frames (without_vm s n) ≡ ls
    → tables_of c (without_vm s n) ≡ put_vm (record (tables_of c s) { frames = fs; listings = ls }) n None
gone_by c s n fs ls v there out f l =
    let t = without_vm s n in
    ap (λ xs. record (tables_of c t) { frames = xs }) f
    ∙ ap (λ xs. record (tables_of c t) { frames = fs; slots = xs }) (rows_same (slot_row s) (slot_row t) 0 c.slots (λ i. out_row_same s t i (places_fewer s n v is_out (is_out_at i) there (in_slot_out i) out)))
    ∙ ap (λ xs. record (tables_of c t) { frames = fs; slots = slot_rows c.slots s; listings = xs }) l
    ∙ ap (λ xs. record (tables_of c t) { frames = fs; slots = slot_rows c.slots s; listings = ls; vms = xs }) (map-set (option_map vm_table) s.vms n None)

gone_hints : (c : Config) (s : Site) (n : ℕ) (v : Vm) → IsSound c s → vm_at s n ≡ Some v → resident v ≡ 0 → (k : ℕ) → find (is_hint_in (without_vm s n) k) s.hints ≡ find (is_hint_in s k) s.hints
gone_hints c s n v sound there here k =
    find_along (is_hint_in s k) (is_hint_in (without_vm s n) k) s.hints
    (all_map (λ (h : Hint). is_private (place_of s h.vm h.page) ≡ true) (λ (h : Hint). is_hint_in (without_vm s n) k h ≡ is_hint_in s k h) (λ h private. ap (is_here_at k) (place_left s n h.vm h.page v there here private)) s.hints sound.hints.private)

-- with its last overhead frame
pub gone_shown : (c : Config) (s : Site) (n f : ℕ) (v : Vm) → IsSound c s → vm_at s n ≡ Some v → resident v ≡ 0 → paged_out v ≡ 0 → v.overhead ≡ f ∷ []
    → tables_of c (without_vm s n) ≡ put_vm (put_frame (tables_of c s) f frames.Free listings.Unlisted) n None
gone_shown c s n f v sound there here out is =
    let t = without_vm s n in
    let free = freed c s t f sound (overhead_last s n f v there is) (λ k. places_fewer s n v is_here (is_here_at k) there (in_frame_here k) here) in
    gone_by c s n (set (frame_rows c.frames s) f frames.Free) (set (listing_rows c.frames s) f listings.Unlisted) v there out
    (rows_move (frame_row s) (frame_row t) f c.frames frames.Free frames.Free free.row free.others free.below)
    (rows_move (listing_row s) (listing_row t) f c.frames listings.Unlisted listings.Unlisted (listing_is t f ∙ ap (λ r. listing_by r (find (is_hint_in t f) s.hints)) free.row)
    (λ k other. listing_is t k ∙ ap (λ r. listing_by r (find (is_hint_in t k) s.hints)) (free.others k other) ∙ ap (listing_by (frame_row s k)) (gone_hints c s n v sound there here k) ∙ sym (listing_is s k)) free.below)

-- without one
pub gone_bare_shown : (c : Config) (s : Site) (n : ℕ) (v : Vm) → IsSound c s → vm_at s n ≡ Some v → resident v ≡ 0 → paged_out v ≡ 0 → v.overhead ≡ [] → tables_of c (without_vm s n) ≡ put_vm (tables_of c s) n None
gone_bare_shown c s n v sound there here out is =
    let t = without_vm s n in
    let row : (f : ℕ) → frame_row t f ≡ frame_row s f = λ f. row_same s t f (overhead_gone s n v there is) (places_fewer s n v is_here (is_here_at f) there (in_frame_here f) here) in
    gone_by c s n (frame_rows c.frames s) (listing_rows c.frames s) v there out
    (rows_same (frame_row s) (frame_row t) 0 c.frames row)
    (rows_same (listing_row s) (listing_row t) 0 c.frames (λ k. listing_is t k ∙ ap (λ r. listing_by r (find (is_hint_in t k) s.hints)) (row k) ∙ ap (listing_by (frame_row s k)) (gone_hints c s n v sound there here k) ∙ sym (listing_is s k)))

-- The tax.
pub taxed_shown : (c : Config) (s : Site) (tau : ℕ) → tables_of c (record s { tau = tau }) ≡ record (tables_of c s) { tau = tau }
unfolding all_places all_overhead frame_row slot_row listing_row
taxed_shown c s tau = refl

-- New targets.
pub retargeted_shown : (c : Config) (s : Site) (ts : List ℕ) → tables_of c (retargeted s ts) ≡ record (tables_of c s) { vms = map (option_map vm_table) (with_targets s.vms ts) }
retargeted_shown c s ts =
    let t = retargeted s ts in
    let same = places_retargeted s ts in
    let row : (f : ℕ) → frame_row t f ≡ frame_row s f = λ f. row_same s t f (overhead_retargeted s ts) (ap (in_frame f) same) in
    let hint : (k : ℕ) → find (is_hint_in t k) s.hints ≡ find (is_hint_in s k) s.hints = λ k. find_same (is_hint_in s k) (is_hint_in t k) s.hints (λ h. ap (is_here_at k) (place_retargeted s.vms ts h.vm h.page)) in
    let fs : frame_rows c.frames t ≡ frame_rows c.frames s = rows_same (frame_row s) (frame_row t) 0 c.frames row in
    let ss : slot_rows c.slots t ≡ slot_rows c.slots s = rows_same (slot_row s) (slot_row t) 0 c.slots (λ i. out_row_same s t i (ap (in_slot i) same)) in
    let ls : listing_rows c.frames t ≡ listing_rows c.frames s =
    rows_same (listing_row s) (listing_row t) 0 c.frames (λ k. listing_is t k ∙ ap (λ r. listing_by r (find (is_hint_in t k) s.hints)) (row k) ∙ ap (listing_by (frame_row s k)) (hint k) ∙ sym (listing_is s k)) in
    ap (λ xs. record (tables_of c t) { frames = xs }) fs
    ∙ ap (λ xs. record (tables_of c t) { frames = frame_rows c.frames s; slots = xs }) ss
    ∙ ap (λ xs. record (tables_of c t) { frames = frame_rows c.frames s; slots = slot_rows c.slots s; listings = xs }) ls

-- A hint comes under a short.

hinted_rows : (c : Config) (s : Site) (hints : List Hint) → ((f : ℕ) → frame_row (record s { hints = hints }) f ≡ frame_row s f) × ((i : ℕ) → slot_row (record s { hints = hints }) i ≡ slot_row s i)
unfolding all_places all_overhead frame_row slot_row
hinted_rows c s hints = (λ f. refl, λ i. refl)

-- what is left of a search after some are dropped, where one passes at most
abbrev kept : {X : Type 0} → (X → Bool) → Option X → Option X
kept keep None = None
kept keep (Some x) = cond (keep x) (Some x) None

found_kept_one : {X : Type 0} (q keep : X → Bool) (x : X) (xs : List X) (a b : Bool) → keep x ≡ a → q x ≡ b → (length (filter q xs) ≤ 1 → find q (filter keep xs) ≡ kept keep (find q xs))
    → length (cond b (x ∷ filter q xs) (filter q xs)) ≤ 1 → find q (cond a (x ∷ filter keep xs) (filter keep xs)) ≡ kept keep (cond b (Some x) (find q xs))
found_kept_one q keep x xs true true e d rest one = ap (λ b. cond b (Some x) (find q (filter keep xs))) d ∙ sym (ap (λ b. cond b (Some x) None) e)
found_kept_one q keep x xs true false e d rest one = ap (λ b. cond b (Some x) (find q (filter keep xs))) d ∙ rest one
found_kept_one q keep x xs false true e d rest one =
    let nil = rest (omega (arith, one)) in
    let none : find q xs ≡ None = nothing_passes q xs (omega (arith, one)) in
    nil ∙ ap (kept keep) none ∙ sym (ap (λ b. cond b (Some x) None) e)
found_kept_one q keep x xs false false e d rest one = rest one

found_kept : {X : Type 0} (q keep : X → Bool) (xs : List X) → length (filter q xs) ≤ 1 → find q (filter keep xs) ≡ kept keep (find q xs)
found_kept q keep [] one = refl
found_kept q keep (x ∷ xs) one = found_kept_one q keep x xs (keep x) (q x) refl refl (λ few. found_kept q keep xs few) one

-- a search in the order of shorts
found_in_order : (q : Hint → Bool) (new : Hint) (xs : List Hint) → q new ≡ false → find q (in_order new xs) ≡ find q xs
found_in_order q new [] fails = ap (λ b. cond b (Some new) None) fails
found_in_order q new (x ∷ xs) fails = of (nat_le new.key x.key) (found_in_order q new xs fails)
  where
    of : (b : Bool) → find q (in_order new xs) ≡ find q xs → find q (cond b (new ∷ x ∷ xs) (x ∷ in_order new xs)) ≡ find q (x ∷ xs)
    of true rest = ap (λ b. cond b (Some new) (find q (x ∷ xs))) fails
    of false rest = ap (cond (q x) (Some x)) rest

found_first : (q : Hint → Bool) (new : Hint) (xs : List Hint) → q new ≡ true → find q xs ≡ None → find q (in_order new xs) ≡ Some new
found_first q new [] passes none = ap (λ b. cond b (Some new) None) passes
found_first q new (x ∷ xs) passes none = elim (chosen (q x) (Some x) (find q xs) None none) [
  | inl w ↦ cc
  | inr w ↦ of (nat_le new.key x.key) w.0 (found_first q new xs passes w.1)
]
  where
    of : (b : Bool) → q x ≡ false → find q (in_order new xs) ≡ Some new → find q (cond b (new ∷ x ∷ xs) (x ∷ in_order new xs)) ≡ Some new
    of true fails rest = ap (λ b. cond b (Some new) (find q (x ∷ xs))) passes
    of false fails rest = ap (λ b. cond b (Some x) (find q (in_order new xs))) fails ∙ rest

-- the listing of a frame that the page is not in
without_key : (key n page : ℕ) (r : FrameRow) (o : Option Hint) → ((h : Hint) → o ≡ Some h → is_hint_of n page h ≡ false)
    → listing_by r (kept (λ h. not ((h.key == key) || is_hint_of n page h)) o) ≡ listing_without key (listing_by r o)
without_key key n page frames.Free o other = refl
without_key key n page frames.Overhead o other = refl
without_key key n page (frames.Shared count bytes) o other = refl
without_key key n page (frames.Private bytes) None other = refl
without_key key n page (frames.Private bytes) (Some h) other = of (h.key == key) (is_hint_of n page h) (other h refl)
  where
    of : (a b : Bool) → b ≡ false → hint_listing (cond (not (a || b)) (Some h) None) ≡ cond a listings.Unlisted (listings.Hinted h.vm h.page h.key)
    of true b e = refl
    of false true e = cc
    of false false e = refl

-- and of its own
its_own : (key n page : ℕ) (o : Option Hint) → ((h : Hint) → o ≡ Some h → is_hint_of n page h ≡ true) → kept (λ (h : Hint). not ((h.key == key) || is_hint_of n page h)) o ≡ None
its_own key n page None own = refl
its_own key n page (Some h) own = of (h.key == key) (is_hint_of n page h) (own h refl)
  where
    of : (a b : Bool) → b ≡ true → cond (not (a || b)) (Some h) None ≡ None
    of true b e = refl
    of false true e = refl
    of false false e = cc

map_twice : {X Y Z : Type 0} (f : X → Y) (g : Y → Z) (xs : List X) → map (λ x. g (f x)) xs ≡ map g (map f xs)
map_twice f g [] = refl
map_twice {Z = Z} f g (x ∷ xs) = ap (λ (zs : List Z). g (f x) ∷ zs) (map_twice f g xs)

-- A page that is private in frame f becomes the hint under its short.
pub hinted_shown : (c : Config) (s : Site) (n page : ℕ) (v : Vm) (bytes old : List ℕ) (f : ℕ) → IsSound c s → vm_at s n ≡ Some v → page < length v.places → place_at v page ≡ Here old f false
    → tables_of c (hinted s n page bytes) ≡ record (tables_of c s) { listings = set (map (listing_without (hint_key bytes)) (listing_rows c.frames s)) f (listings.Hinted n page (hint_key bytes)) }
hinted_shown c s n page v bytes old f sound there within was =
    let key = hint_key bytes in
    let new : Hint = record { key = key; vm = n; page = page } in
    let keep : Hint → Bool = λ h. not ((h.key == key) || is_hint_of n page h) in
    let t = hinted s n page bytes in
    let rows = hinted_rows c s (with_hint new s.hints) in
    let P : Place → Type 0 = IsPlace c v.epoch in
    let below : f < c.frames = (let place : IsPlace c v.epoch (Here old f false) = subst P was (old_place c v page (sound.each n v there) within) in place.0) in
    let Q : Place → Type 0 = IsIn (all_places s) in
    let i : IsIn (all_places s) (Here old f false) = subst Q was (page_is_in s n page v there within) in
    let at : place_of s n page ≡ Here old f false = ap (λ o. place_in o page) there ∙ was in
    let row : frame_row s f ≡ frames.Private old =
    row_clear s f (row_here c.frames (all_places s) (all_overhead s) old f false sound.frames i).1 ∙ private_row c.frames (all_places s) (all_overhead s) old f sound.frames i in
    let own : (h : Hint) → find (is_hint_in s f) s.hints ≡ Some h → is_hint_of n page h ≡ true =
    λ h found. one_page c s n page h.vm h.page (vm_at s n) (place_of s n page) f sound refl refl (ap is_private at) (ap (is_here_at f) at ∙ eqb_same f) (find_passes (is_hint_in s f) s.hints h found) in
    let here : listing_row t f ≡ listings.Hinted n page key =
    listing_is t f ∙ ap (λ r. listing_by r (find (is_hint_in s f) (with_hint new s.hints))) (rows.0 f ∙ row)
    ∙ ap hint_listing (found_first (is_hint_in s f) new (filter keep s.hints) (ap (is_here_at f) at ∙ eqb_same f)
    (found_kept (is_hint_in s f) keep s.hints (one_hint c s f sound) ∙ its_own key n page (find (is_hint_in s f) s.hints) own)) in
    let others : (g : ℕ) → g ≢ f → listing_row t g ≡ listing_without key (listing_row s g) =
    λ g apart. (let away : is_hint_in s g new ≡ false = ap (is_here_at g) at ∙ eqb_other f g apart in
    listing_is t g ∙ ap (λ r. listing_by r (find (is_hint_in s g) (with_hint new s.hints))) (rows.0 g)
    ∙ ap (listing_by (frame_row s g)) (found_in_order (is_hint_in s g) new (filter keep s.hints) away ∙ found_kept (is_hint_in s g) keep s.hints (one_hint c s g sound))
    ∙ without_key key n page (frame_row s g) (find (is_hint_in s g) s.hints) (λ h found. not_own s n page g h away (find_passes (is_hint_in s g) s.hints h found) (is_hint_of n page h) refl)
    ∙ ap (listing_without key) (sym (listing_is s g))) in
    let listing : listing_rows c.frames t ≡ set (map (listing_without key) (listing_rows c.frames s)) f (listings.Hinted n page key) =
    rows_move (λ g. listing_without key (listing_row s g)) (listing_row t) f c.frames (listings.Hinted n page key) listings.Unlisted here others below
    ∙ ap (λ (xs : List Listing). set xs f (listings.Hinted n page key)) (map_twice (listing_row s) (listing_without key) (range_with_len 0 c.frames)) in
    ap (λ xs. record (tables_of c t) { frames = xs }) (rows_same (frame_row s) (frame_row t) 0 c.frames rows.0)
    ∙ ap (λ xs. record (tables_of c t) { frames = frame_rows c.frames s; slots = xs }) (rows_same (slot_row s) (slot_row t) 0 c.slots rows.1)
    ∙ ap (λ xs. record (tables_of c t) { frames = frame_rows c.frames s; slots = slot_rows c.slots s; listings = xs }) listing
  where
    not_own : (s : Site) (n page g : ℕ) (h : Hint) → is_here_at g (place_of s n page) ≡ false → is_hint_in s g h ≡ true → (b : Bool) → is_hint_of n page h ≡ b → b ≡ false
    not_own s n page g h away at false e = refl
    not_own s n page g h away at true e = absurd (false≢true (sym away ∙ sym (own_hint s g n page h e) ∙ at))
