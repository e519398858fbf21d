-- The book is read from the tables.
use Rattle.std.proofs.Common.{zero, suc, ◌≡◌, ◌≢◌, ℕ, ◌+◌, ◌<◌, ◌≤◌, Bool, true, false, nat_le, List, [], ◌∷◌, ◌++◌, length, map, refl, sym, ap, ◌∙◌, subst, arith, cond, Option, Some, None, ◌⊎◌, inl, inr, ◌==◌}
use Rattle.std.specs.Option.{option_map}
use Rattle.std.specs.List.{filter, find, range_with_len, AllByRecursion}
use Rattle.std.proofs.lemmas.Bool.{cases_eq, false≢true}
use Rattle.std.proofs.lemmas.Bool.Decides.{nat_tests}
use Rattle.esx_types.specs.declared.config.Config.{Config}
use Rattle.esx_types.specs.declared.level.Level.{Level}
use Rattle.esx_types.specs.declared.table.FrameRow.{FrameRow}
use Rattle.esx_types.specs.declared.table.FrameRow.TheVariants as frames
use Rattle.esx_types.specs.declared.table.MapRow.{MapRow}
use Rattle.esx_types.specs.declared.table.Hint.{Hint}
use Rattle.esx_model.specs.declared.scene.Place.{Place}
use Rattle.esx_model.specs.declared.scene.Place.TheVariants.{Untouched, Here, Out, Lent}
use Rattle.esx_model.specs.declared.scene.Vm.{Vm}
use Rattle.esx_model.specs.declared.scene.Site.{Site}
use Rattle.esx_model.specs.declared.book.VmRow.{VmRow}
use Rattle.esx_types.specs.declared.table.KeyRow.{KeyRow}
use Rattle.esx_types.specs.declared.table.Listing.{Listing}
use Rattle.esx_model.specs.Places.{is_here_at, is_private}
use Rattle.esx_model.specs.Site.{vm_at, place_at, place_in, place_of, all_places, all_overhead}
use Rattle.esx_model.specs.Hints.{in_order}
use Rattle.esx_model.specs.Show.{frame_row, frame_rows, map_row, vm_row, shared_from, shared_rows, book_of, with_key}
use Rattle.esx_types.specs.Listings as listed
use Rattle.esx_model.specs.Tables.{raw_place, vm_table, is_hint_in, listing_by, listing_row, listing_rows, tables_of, read_place, read_vm, read_hints, read_keys, book_from}
use Rattle.esx_model.specs.sound.Hints.{AreOrdered}
use Rattle.esx_model.specs.sound.Sound.{IsSound}
use Rattle.esx_model.proofs.Lists.{find_passes, find_in, one}
use Rattle.esx_model.proofs.HintsKept.{in_order_ordered}
use Rattle.esx_model.proofs.Kept.{page_is_in}
use Rattle.esx_model.proofs.Rooms.{IsIn, row_here, private_row}
use Rattle.esx_model.proofs.Shown.{row_clear, listing_is, within_places}
use Rattle.esx_model.proofs.OnePage.{one_hint, nothing_passes}
use Rattle.esx_model.proofs.event.Sharing.{frame_below}
use Rattle.esx_formulas.specs.Key.{content_key}

-- Machines.

place_read : (e : ℕ) (p : Place) → read_place e (raw_place p) ≡ map_row e p
place_read e Untouched = refl
place_read e (Here bytes f shared) = refl
place_read e (Out bytes i) = refl
place_read e (Lent d) = refl

places_read : (e : ℕ) (ps : List Place) → map (read_place e) (map raw_place ps) ≡ map (map_row e) ps
places_read e [] = refl
places_read e (p ∷ ps) = ap (λ r. r ∷ map (read_place e) (map raw_place ps)) (place_read e p) ∙ ap (λ (rs : List MapRow). map_row e p ∷ rs) (places_read e ps)

vm_read : (v : Vm) → read_vm (vm_table v) ≡ vm_row v
vm_read v = ap (λ (rs : List MapRow). record (vm_row v) { pages = rs }) (places_read v.epoch v.places)

vms_read : (vms : List (Option Vm)) → map (option_map read_vm) (map (option_map vm_table) vms) ≡ map (option_map vm_row) vms
vms_read [] = refl
vms_read (None ∷ os) = ap (λ (rs : List (Option VmRow)). None ∷ rs) (vms_read os)
vms_read (Some v ∷ os) = ap (λ r. Some r ∷ map (option_map read_vm) (map (option_map vm_table) os)) (vm_read v) ∙ ap (λ (rs : List (Option VmRow)). Some (vm_row v) ∷ rs) (vms_read os)

-- Shared frames.

abbrev by_key : KeyRow → ℕ
by_key row = row.key

key_read : (a : ℕ) (r : FrameRow) (o : Option Hint) (ls : List Listing) (rs : List FrameRow) → listed.in_order by_key (listed.shared_from (a + 1) ls) ≡ shared_from (a + 1) rs
    → listed.in_order by_key (listed.shared_from a (listing_by r o ∷ ls)) ≡ shared_from a (r ∷ rs)
key_read a frames.Free o ls rs rest = rest
key_read a frames.Overhead o ls rs rest = rest
key_read a (frames.Private bytes) None ls rs rest = rest
key_read a (frames.Private bytes) (Some h) ls rs rest = rest
key_read a (frames.Shared count bytes) o ls rs rest = ap (with_key (record { key = content_key bytes; frame = a })) rest

keys_read : (s : Site) (a k : ℕ) → listed.in_order by_key (listed.shared_from a (map (listing_row s) (range_with_len a k))) ≡ shared_from a (map (frame_row s) (range_with_len a k))
keys_read s a zero = refl
keys_read s a (suc k) =
    let ls = map (listing_row s) (range_with_len (a + 1) k) in
    ap (λ l. listed.in_order by_key (listed.shared_from a (l ∷ ls))) (listing_is s a)
    ∙ key_read a (frame_row s a) (find (is_hint_in s a) s.hints) ls (map (frame_row s) (range_with_len (a + 1) k)) (keys_read s (a + 1) k)

shared_read : (s : Site) (n : ℕ) → read_keys (listing_rows n s) ≡ shared_rows (frame_rows n s)
unfolding shared_rows
shared_read s n = keys_read s 0 n

-- Members of lists.

abbrev Mem : Hint → List Hint → Type 0
Mem h [] = ⊥
Mem h (x ∷ xs) = (x ≡ h) ⊎ Mem h xs

all_mem : (P : Hint → Type 0) (xs : List Hint) (h : Hint) → AllByRecursion P xs → Mem h xs → P h
all_mem P [] h all mem = absurd mem
all_mem P (x ∷ xs) h all (inl e) = subst P e all.0
all_mem P (x ∷ xs) h all (inr mem) = all_mem P xs h all.1 mem

mem_all : (P : Hint → Type 0) (xs : List Hint) → ((h : Hint) → Mem h xs → P h) → AllByRecursion P xs
mem_all P [] go = tt
mem_all P (x ∷ xs) go = (go x (inl refl), mem_all P xs (λ h mem. go h (inr mem)))

split_mem : (h : Hint) (front back : List Hint) → Mem h (front ++ h ∷ back)
split_mem h [] back = inl refl
split_mem h (x ∷ front) back = inr (split_mem h front back)

-- in strict order, a key has one member
same_key : (xs : List Hint) (g h : Hint) → AreOrdered xs → Mem g xs → Mem h xs → g.key ≡ h.key → g ≡ h
same_key [] g h order a b e = absurd a
same_key (x ∷ xs) g h order (inl d) (inl c) e = sym d ∙ c
same_key (x ∷ xs) g h order (inl d) (inr b) e = (let less = all_mem (λ (later : Hint). x.key < later.key) xs h order.0 b in let k = ap (λ (y : Hint). y.key) d in absurd (omega (arith, less, k, e)))
same_key (x ∷ xs) g h order (inr a) (inl c) e = (let less = all_mem (λ (later : Hint). x.key < later.key) xs g order.0 a in let k = ap (λ (y : Hint). y.key) c in absurd (omega (arith, less, k, e)))
same_key (x ∷ xs) g h order (inr a) (inr b) e = same_key xs g h order.1 a b e

first_same : (x y : Hint) (xs ys : List Hint) → AllByRecursion (λ (later : Hint). x.key < later.key) xs → AllByRecursion (λ (later : Hint). y.key < later.key) ys → Mem x (y ∷ ys) → Mem y (x ∷ xs) → x ≡ y
first_same x y xs ys low high (inl e) b = sym e
first_same x y xs ys low high (inr a) (inl e) = e
first_same x y xs ys low high (inr a) (inr b) =
    (let one = all_mem (λ (later : Hint). y.key < later.key) ys x high a in let two = all_mem (λ (later : Hint). x.key < later.key) xs y low b in absurd (omega (arith, one, two)))

later_mem : (x y h : Hint) (ys : List Hint) → x ≡ y → x.key < h.key → Mem h (y ∷ ys) → Mem h ys
later_mem x y h ys same less (inl e) = (let k = ap (λ (z : Hint). z.key) (same ∙ e) in absurd (omega (arith, less, k)))
later_mem x y h ys same less (inr mem) = mem

-- two lists in strict order with the same members are one
same_members : (xs ys : List Hint) → AreOrdered xs → AreOrdered ys → ((h : Hint) → Mem h xs → Mem h ys) → ((h : Hint) → Mem h ys → Mem h xs) → xs ≡ ys
same_members [] [] a b go back = refl
same_members [] (y ∷ ys) a b go back = absurd (back y (inl refl))
same_members (x ∷ xs) [] a b go back = absurd (go x (inl refl))
same_members (x ∷ xs) (y ∷ ys) a b go back =
    let same = first_same x y xs ys a.0 b.0 (go x (inl refl)) (back y (inl refl)) in
    let rest = same_members xs ys a.1 b.1
    (λ h mem. later_mem x y h ys same (all_mem (λ (later : Hint). x.key < later.key) xs h a.0 mem) (go h (inr mem)))
    (λ h mem. later_mem y x h xs (sym same) (all_mem (λ (later : Hint). y.key < later.key) ys h b.0 mem) (back h (inr mem))) in
    ap (λ z. z ∷ xs) same ∙ ap (λ (zs : List Hint). y ∷ zs) rest

ordered_mem : (new h : Hint) (xs : List Hint) → Mem h (in_order new xs) → (new ≡ h) ⊎ Mem h xs
ordered_mem new h [] (inl e) = inl e
ordered_mem new h [] (inr mem) = absurd mem
ordered_mem new h (x ∷ xs) mem = of (nat_le new.key x.key) mem (λ m. ordered_mem new h xs m)
  where
    of : (b : Bool) → Mem h (cond b (new ∷ x ∷ xs) (x ∷ in_order new xs)) → (Mem h (in_order new xs) → (new ≡ h) ⊎ Mem h xs) → (new ≡ h) ⊎ Mem h (x ∷ xs)
    of true (inl e) rest = inl e
    of true (inr m) rest = inr m
    of false (inl e) rest = inr (inl e)
    of false (inr m) rest = elim (rest m) [
      | inl e ↦ inl e
      | inr k ↦ inr (inr k)
    ]

mem_new : (new : Hint) (xs : List Hint) → Mem new (in_order new xs)
mem_new new [] = inl refl
mem_new new (x ∷ xs) = of (nat_le new.key x.key) (mem_new new xs)
  where
    of : (b : Bool) → Mem new (in_order new xs) → Mem new (cond b (new ∷ x ∷ xs) (x ∷ in_order new xs))
    of true rest = inl refl
    of false rest = inr rest

mem_old : (new h : Hint) (xs : List Hint) → Mem h xs → Mem h (in_order new xs)
mem_old new h [] mem = absurd mem
mem_old new h (x ∷ xs) mem = of (nat_le new.key x.key) mem (λ m. mem_old new h xs m)
  where
    of : (b : Bool) → Mem h (x ∷ xs) → (Mem h xs → Mem h (in_order new xs)) → Mem h (cond b (new ∷ x ∷ xs) (x ∷ in_order new xs))
    of true m rest = inr m
    of false (inl e) rest = inl e
    of false (inr m) rest = inr (rest m)

-- The hint of a frame.

abbrev the_hint : FrameRow → Option Hint → Option Hint
the_hint frames.Free o = None
the_hint frames.Overhead o = None
the_hint (frames.Private bytes) o = o
the_hint (frames.Shared count bytes) o = None

abbrev with_some : Option Hint → List Hint → List Hint
with_some None xs = xs
with_some (Some h) xs = in_order h xs

abbrev hint_at : Site → ℕ → Option Hint
hint_at s f = the_hint (frame_row s f) (find (is_hint_in s f) s.hints)

hint_read : (r : FrameRow) (o : Option Hint) (ls : List Listing) → read_hints (listing_by r o ∷ ls) ≡ with_some (the_hint r o) (read_hints ls)
hint_read frames.Free o ls = refl
hint_read frames.Overhead o ls = refl
hint_read (frames.Private bytes) None ls = refl
hint_read (frames.Private bytes) (Some h) ls = refl
hint_read (frames.Shared count bytes) o ls = refl

one_more : (s : Site) (a k : ℕ) → read_hints (map (listing_row s) (range_with_len a (suc k))) ≡ with_some (hint_at s a) (read_hints (map (listing_row s) (range_with_len (a + 1) k)))
one_more s a k =
    let ls = map (listing_row s) (range_with_len (a + 1) k) in
    ap (λ l. read_hints (l ∷ ls)) (listing_is s a) ∙ hint_read (frame_row s a) (find (is_hint_in s a) s.hints) ls

-- a frame's hint is a hint of the site, in that frame
known_by : (s : Site) (f : ℕ) (r : FrameRow) (o : Option Hint) (h : Hint) → find (is_hint_in s f) s.hints ≡ o → the_hint r o ≡ Some h → Mem h s.hints × (is_hint_in s f h ≡ true)
known_by s f frames.Free o h found e = cc
known_by s f frames.Overhead o h found e = cc
known_by s f (frames.Shared count bytes) o h found e = cc
known_by s f (frames.Private bytes) o h found e =
    let is = found ∙ e in
    let split = find_in (is_hint_in s f) s.hints h is in
    let P : List Hint → Type 0 = Mem h in
    (subst P (sym split.2) (split_mem h split.0 split.1), find_passes (is_hint_in s f) s.hints h is)

known : (s : Site) (f : ℕ) (h : Hint) → hint_at s f ≡ Some h → Mem h s.hints × (is_hint_in s f h ≡ true)
known s f h e = known_by s f (frame_row s f) (find (is_hint_in s f) s.hints) h refl e

-- the one that passes is found
found_only_one : (q : Hint → Bool) (x : Hint) (xs : List Hint) (h : Hint) (b : Bool) → q x ≡ b → (length (filter q xs) ≤ 1 → Mem h xs → find q xs ≡ Some h) → length (cond b (x ∷ filter q xs) (filter q xs)) ≤ 1
    → Mem h (x ∷ xs) → q h ≡ true → cond b (Some x) (find q xs) ≡ Some h
found_only_one q x xs h true e rest one (inl d) passes = ap Some d
found_only_one q x xs h true e rest one (inr mem) passes =
    absurd (let none = nothing_passes q xs (omega (arith, one)) in let some = rest (omega (arith, one)) mem in let no = sym none ∙ some in (let f : None ≡ Some h = no in cc))
found_only_one q x xs h false e rest one (inl d) passes = absurd (false≢true (sym e ∙ ap q d ∙ passes))
found_only_one q x xs h false e rest one (inr mem) passes = rest one mem

found_only : (q : Hint → Bool) (xs : List Hint) (h : Hint) → length (filter q xs) ≤ 1 → Mem h xs → q h ≡ true → find q xs ≡ Some h
found_only q [] h one mem passes = absurd mem
found_only q (x ∷ xs) h one mem passes = found_only_one q x xs h (q x) refl (λ few m. found_only q xs h few m passes) one mem passes

-- a hint of the site is that of its frame
frame_of : (c : Config) (s : Site) (m k f : ℕ) (o : Option Vm) (p : Place) → IsSound c s → vm_at s m ≡ o → place_in o k ≡ p → is_private p ≡ true → is_here_at f p ≡ true → (bytes : List ℕ) × (frame_row s f ≡ frames.Private bytes) × (f < c.frames)
frame_of c s m k f o Untouched sound there was private at = cc
frame_of c s m k f o (Out bytes i) sound there was private at = cc
frame_of c s m k f o (Lent e) sound there was private at = cc
frame_of c s m k f o (Here bytes g true) sound there was private at = cc
frame_of c s m k f None (Here bytes g false) sound there was private at = cc
frame_of c s m k f (Some v) (Here bytes g false) sound there was private at =
    let same : g ≡ f = grind (arith, nat_tests) in
    let P : ℕ → Type 0 = λ x. place_at v k ≡ Here bytes x false in
    let here : place_at v k ≡ Here bytes f false = subst P same was in
    let Q : Place → Type 0 = IsIn (all_places s) in
    let i : IsIn (all_places s) (Here bytes f false) = subst Q here (page_is_in s m k v there (within_places v.places k bytes f false here)) in
    (bytes, row_clear s f (row_here c.frames (all_places s) (all_overhead s) bytes f false sound.frames i).1 ∙ private_row c.frames (all_places s) (all_overhead s) bytes f sound.frames i, frame_below c s bytes f false sound i)

is_known : (c : Config) (s : Site) (f : ℕ) (h : Hint) → IsSound c s → Mem h s.hints → is_hint_in s f h ≡ true → hint_at s f ≡ Some h
is_known c s f h sound mem at =
    let private = all_mem (λ (x : Hint). is_private (place_of s x.vm x.page) ≡ true) s.hints h sound.hints.private mem in
    let row = frame_of c s h.vm h.page f (vm_at s h.vm) (place_of s h.vm h.page) sound refl refl private at in
    ap (λ r. the_hint r (find (is_hint_in s f) s.hints)) row.1 ∙ found_only (is_hint_in s f) s.hints h (one_hint c s f sound) mem at

-- What is read from the listings of frames a and up.

pub record IsFrom (s : Site) (a : ℕ) (h : Hint) : Type 0 where
  mem : Mem h s.hints
  frame : ℕ
  from : a ≤ frame
  at : is_hint_in s frame h ≡ true

from_some : (s : Site) (a : ℕ) (o : Option Hint) (xs : List Hint) (h : Hint) → hint_at s a ≡ o → (Mem h xs → IsFrom s (a + 1) h) → Mem h (with_some o xs) → IsFrom s a h
from_some s a None xs h is rest mem = (let r = rest mem in let low = r.from in record { mem = r.mem; frame = r.frame; from = omega (arith, low); at = r.at })
from_some s a (Some g) xs h is rest mem = elim (ordered_mem g h xs mem) [
  | inl e ↦ (let k = known s a g is in let P : Hint → Type 0 = λ x. Mem x s.hints × (is_hint_in s a x ≡ true) in let d = subst P e k in record { mem = d.0; frame = a; from = omega arith; at = d.1 })
  | inr m ↦ (let r = rest m in let low = r.from in record { mem = r.mem; frame = r.frame; from = omega (arith, low); at = r.at })
]

read_from : (s : Site) (a k : ℕ) (h : Hint) → Mem h (read_hints (map (listing_row s) (range_with_len a k))) → IsFrom s a h
read_from s a zero h mem = absurd mem
read_from s a (suc k) h mem =
    let P : List Hint → Type 0 = Mem h in
    from_some s a (hint_at s a) (read_hints (map (listing_row s) (range_with_len (a + 1) k))) h refl (λ m. read_from s (a + 1) k h m) (subst P (one_more s a k) mem)

to_some : (o : Option Hint) (xs : List Hint) (h : Hint) → Mem h xs → Mem h (with_some o xs)
to_some None xs h mem = mem
to_some (Some g) xs h mem = mem_old g h xs mem

to_own : (o : Option Hint) (xs : List Hint) (h : Hint) → o ≡ Some h → Mem h (with_some o xs)
to_own None xs h e = cc
to_own (Some g) xs h e = (let same : g ≡ h = cc in let P : Hint → Type 0 = λ x. Mem x (in_order g xs) in subst P same (mem_new g xs))

read_to : (c : Config) (s : Site) (a k f : ℕ) (h : Hint) → IsSound c s → Mem h s.hints → a ≤ f → f < a + k → is_hint_in s f h ≡ true → Mem h (read_hints (map (listing_row s) (range_with_len a k)))
read_to c s a zero f h sound mem low high at = absurd (omega (arith, low, high))
read_to c s a (suc k) f h sound mem low high at =
    let xs = read_hints (map (listing_row s) (range_with_len (a + 1) k)) in
    let P : List Hint → Type 0 = Mem h in
    subst P (sym (one_more s a k)) (elim (cases_eq f a) [
      | inl e ↦ (let Q : ℕ → Type 0 = λ x. is_hint_in s x h ≡ true in to_own (hint_at s a) xs h (is_known c s a h sound mem (subst Q e at)))
      | inr other ↦ to_some (hint_at s a) xs h (read_to c s (a + 1) k f h sound mem (omega (arith, low, other)) (omega (arith, high)) at)
    ])

one_frame : (f g : ℕ) (p : Place) → is_here_at f p ≡ true → is_here_at g p ≡ true → f ≡ g
one_frame f g Untouched a b = cc
one_frame f g (Out bytes i) a b = cc
one_frame f g (Lent e) a b = cc
one_frame f g (Here bytes k shared) a b = grind (arith, nat_tests)

ordered_some : (c : Config) (s : Site) (a : ℕ) (o : Option Hint) (xs : List Hint) → IsSound c s → hint_at s a ≡ o → AreOrdered xs → ((h : Hint) → Mem h xs → IsFrom s (a + 1) h) → AreOrdered (with_some o xs)
ordered_some c s a None xs sound is order from = order
ordered_some c s a (Some g) xs sound is order from =
    let k = known s a g is in
    in_order_ordered g xs order (mem_all (λ (h : Hint). h.key ≢ g.key) xs (λ h mem e. (
    let r = from h mem in
    let same = same_key s.hints h g sound.hints.ordered r.mem k.0 e in
    let P : Hint → Type 0 = λ x. is_hint_in s r.frame x ≡ true in
    let one = one_frame r.frame a (place_of s g.vm g.page) (subst P same r.at) k.1 in
    let low = r.from in
    omega (arith, one, low))))

read_ordered : (c : Config) (s : Site) (a k : ℕ) → IsSound c s → AreOrdered (read_hints (map (listing_row s) (range_with_len a k)))
read_ordered c s a zero sound = tt
read_ordered c s a (suc k) sound =
    let P : List Hint → Type 0 = AreOrdered in
    let xs = read_hints (map (listing_row s) (range_with_len (a + 1) k)) in
    subst P (sym (one_more s a k)) (ordered_some c s a (hint_at s a) xs sound refl (read_ordered c s (a + 1) k sound) (λ h mem. read_from s (a + 1) k h mem))

the_frame : (p : Place) → is_private p ≡ true → (f : ℕ) × (is_here_at f p ≡ true)
the_frame Untouched h = cc
the_frame (Here bytes f shared) h = (f, (let e : (f == f) ≡ true = grind (arith, nat_tests) in e))
the_frame (Out bytes i) h = cc
the_frame (Lent e) h = cc

hints_read : (c : Config) (s : Site) → IsSound c s → read_hints (listing_rows c.frames s) ≡ s.hints
hints_read c s sound =
    same_members (read_hints (listing_rows c.frames s)) s.hints (read_ordered c s 0 c.frames sound) sound.hints.ordered (λ h mem. (read_from s 0 c.frames h mem).mem) (λ h mem. (
    let private = all_mem (λ (x : Hint). is_private (place_of s x.vm x.page) ≡ true) s.hints h sound.hints.private mem in
    let f = the_frame (place_of s h.vm h.page) private in
    let row = frame_of c s h.vm h.page f.0 (vm_at s h.vm) (place_of s h.vm h.page) sound refl refl private f.1 in
    read_to c s 0 c.frames f.0 h sound mem (omega arith) (let low = row.2 in omega (arith, low)) f.1))

-- The book of a sound site is read from its tables.
pub book_read : (c : Config) (s : Site) (level : Level) → IsSound c s → book_from (tables_of c s) level ≡ book_of c s level
book_read c s level sound =
    ap (λ xs. record (book_from (tables_of c s) level) { vms = xs }) (vms_read s.vms)
    ∙ ap (λ xs. record (book_of c s level) { hints = xs; shared = read_keys (listing_rows c.frames s) }) (hints_read c s sound)
    ∙ ap (λ xs. record (book_of c s level) { shared = xs }) (shared_read s c.frames)
