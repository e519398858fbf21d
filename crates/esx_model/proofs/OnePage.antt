-- A private frame has one page, and one hint at most.
use Rattle.std.proofs.Common.{inl, inr, ◌≡◌, ℕ, ◌≤◌, Bool, true, false, List, [], ◌∷◌, length, refl, sym, ap, ◌∙◌, subst, arith, cond, Option, Some, None}
use Rattle.std.specs.List.{filter, find, AllByRecursion}
use Rattle.std.proofs.lemmas.Bool.{false≢true}
use Rattle.std.proofs.lemmas.Bool.Decides.{nat_tests}
use Rattle.esx_types.specs.declared.config.Config.{Config}
use Rattle.esx_types.specs.declared.table.Hint.{Hint}
use Rattle.esx_model.specs.declared.scene.Place.{Place}
use Rattle.esx_model.specs.declared.scene.Place.TheVariants.{Untouched, Here, Out, Lent}
use Rattle.esx_model.specs.declared.scene.Vm.{Vm}
use Rattle.esx_model.specs.declared.scene.Site.{Site}
use Rattle.esx_model.specs.Places.{is_here_at, is_private}
use Rattle.esx_model.specs.Site.{vm_at, place_at, place_in, place_of, all_places, all_overhead}
use Rattle.esx_model.specs.Hints.{is_hint_of, placed}
use Rattle.esx_model.specs.Show.{in_frame, pages_in}
use Rattle.esx_model.specs.Tables.{is_hint_in}
use Rattle.esx_model.specs.sound.Sound.{IsSound}
use Rattle.esx_model.proofs.Lists.{Changed, chosen, find_passes, find_in, all_middle}
use Rattle.esx_model.proofs.FramesKept.{alone_on_the_way}
use Rattle.esx_model.proofs.Kept.{placed_changed, page_is_in}
use Rattle.esx_model.proofs.Rooms.{IsIn, private_alone}
use Rattle.esx_model.proofs.Shown.{Moves, others_at, place_in_frame, within_places}

-- the frame that a private page was in has no page after it left
frame_left_alone : (c : Config) (s : Site) (m k : ℕ) (v : Vm) (bytes : List ℕ) (g : ℕ) → IsSound c s → vm_at s m ≡ Some v → place_at v k ≡ Here bytes g false → pages_in (placed s m k Untouched) g ≡ []
frame_left_alone c s m k v bytes g sound there was =
    let within = within_places v.places k bytes g false was in
    let P : Place → Type 0 = λ x. Changed x Untouched (all_places s) (all_places (placed s m k Untouched)) in
    let ch = subst P was (placed_changed s m k v Untouched there within) in
    let Q : Place → Type 0 = IsIn (all_places s) in
    let few = private_alone c.frames (all_places s) (all_overhead s) bytes g sound.frames (subst Q was (page_is_in s m k v there within)) in
    ap (in_frame g) ch.after ∙ alone_on_the_way bytes g false Untouched (all_places s) (all_places (placed s m k Untouched)) ch few

only_page : (c : Config) (s : Site) (m k j l : ℕ) (v : Vm) (bytes : List ℕ) (g : ℕ) → IsSound c s → vm_at s m ≡ Some v → place_at v k ≡ Here bytes g false → is_here_at g (place_of s j l) ≡ true
    → (b : Bool) → is_hint_of m k (record { key = 0; vm = j; page = l }) ≡ b → b ≡ true
only_page c s m k j l v bytes g sound there was here true e = refl
only_page c s m k j l v bytes g sound there was here false e =
    let h : Hint = record { key = 0; vm = j; page = l } in
    let moves : Moves c s m k v (Here bytes g false) = record { sound = sound; there = there; within = within_places v.places k bytes g false was; was = was } in
    let mid = placed s m k Untouched in
    let none = frame_left_alone c s m k v bytes g sound there was in
    let gone : is_here_at g (place_of mid j l) ≡ false = place_in_frame mid j l g (vm_at mid j) refl none in
    absurd (false≢true (sym gone ∙ ap (is_here_at g) (others_at c s m k v (Here bytes g false) Untouched moves h e) ∙ here))

-- the pages at a frame with a private page are that page
pub one_page : (c : Config) (s : Site) (m k j l : ℕ) (o : Option Vm) (p : Place) (g : ℕ) → IsSound c s → vm_at s m ≡ o → place_in o k ≡ p → is_private p ≡ true → is_here_at g p ≡ true → is_here_at g (place_of s j l) ≡ true
    → is_hint_of m k (record { key = 0; vm = j; page = l }) ≡ true
one_page c s m k j l o Untouched g sound there was private at here = cc
one_page c s m k j l o (Out bytes i) g sound there was private at here = cc
one_page c s m k j l o (Lent e) g sound there was private at here = cc
one_page c s m k j l o (Here bytes f true) g sound there was private at here = cc
one_page c s m k j l None (Here bytes f false) g sound there was private at here = cc
one_page c s m k j l (Some v) (Here bytes f false) g sound there was private at here =
    let same : f ≡ g = grind (arith, nat_tests) in
    let P : ℕ → Type 0 = λ x. place_at v k ≡ Here bytes x false in
    let test = is_hint_of m k (record { key = 0; vm = j; page = l }) in
    only_page c s m k j l v bytes g sound there (subst P same was) here test refl

-- a test that passes no more than another
within_one : {X : Type 0} (p q : X → Bool) (x : X) (xs : List X) (a b : Bool) → p x ≡ a → q x ≡ b → (p x ≡ true → q x ≡ true) → length (filter p xs) ≤ length (filter q xs)
    → length (cond a (x ∷ filter p xs) (filter p xs)) ≤ length (cond b (x ∷ filter q xs) (filter q xs))
within_one p q x xs true true e d go rest = omega (arith, rest)
within_one p q x xs true false e d go rest = absurd (false≢true (sym d ∙ go e))
within_one p q x xs false true e d go rest = omega (arith, rest)
within_one p q x xs false false e d go rest = rest

pub filter_within : {X : Type 0} (p q : X → Bool) (xs : List X) → ((x : X) → p x ≡ true → q x ≡ true) → length (filter p xs) ≤ length (filter q xs)
filter_within p q [] go = omega arith
filter_within p q (x ∷ xs) go = within_one p q x xs (p x) (q x) refl refl (go x) (filter_within p q xs go)

pub none_then_nil : {X : Type 0} (p : X → Bool) (xs : List X) → find p xs ≡ None → filter p xs ≡ []
none_then_nil p [] h = refl
none_then_nil p (x ∷ xs) h = elim (chosen (p x) (Some x) (find p xs) None h) [
  | inl w ↦ cc
  | inr w ↦ ap (λ b. cond b (x ∷ filter p xs) (filter p xs)) w.0 ∙ none_then_nil p xs w.1
]

hints_by : (c : Config) (s : Site) (g : ℕ) (o : Option Hint) → IsSound c s → find (is_hint_in s g) s.hints ≡ o → length (filter (is_hint_in s g) s.hints) ≤ 1
hints_by c s g None sound found = (let nil = ap length (none_then_nil (is_hint_in s g) s.hints found) in omega (arith, nil))
hints_by c s g (Some h) sound found =
    let at = find_passes (is_hint_in s g) s.hints h found in
    let split = find_in (is_hint_in s g) s.hints h found in
    let P : List Hint → Type 0 = AllByRecursion (λ (x : Hint). is_private (place_of s x.vm x.page) ≡ true) in
    let private = all_middle (λ (x : Hint). is_private (place_of s x.vm x.page) ≡ true) split.0 split.1 h (subst P split.2 sound.hints.private) in
    let within = filter_within (is_hint_in s g) (is_hint_of h.vm h.page) s.hints (λ x here. one_page c s h.vm h.page x.vm x.page (vm_at s h.vm) (place_of s h.vm h.page) g sound refl refl private at here) in
    let one = sound.hints.one h.vm h.page in
    omega (arith, within, one)

-- one hint at most is in a frame
pub one_hint : (c : Config) (s : Site) (g : ℕ) → IsSound c s → length (filter (is_hint_in s g) s.hints) ≤ 1
one_hint c s g sound = hints_by c s g (find (is_hint_in s g) s.hints) sound refl

pub nothing_passes : {X : Type 0} (q : X → Bool) (xs : List X) → length (filter q xs) ≤ 0 → find q xs ≡ None
nothing_passes q [] few = refl
nothing_passes q (x ∷ xs) few = nothing_one q x xs (q x) few (λ k. nothing_passes q xs k)
  where
    nothing_one : {X : Type 0} (q : X → Bool) (x : X) (xs : List X) (b : Bool) → length (cond b (x ∷ filter q xs) (filter q xs)) ≤ 0 → (length (filter q xs) ≤ 0 → find q xs ≡ None) → cond b (Some x) (find q xs) ≡ None
    nothing_one q x xs true few rest = absurd (omega (arith, few))
    nothing_one q x xs false few rest = rest few
