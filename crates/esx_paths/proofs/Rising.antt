-- Numbers that rise along a way.
use Rattle.std.proofs.Common.{◌≡◌, ℕ, zero, suc, ◌+◌, ◌<◌, ◌≤◌, ◌==◌, cond, false, List, [], ◌∷◌, ◌++◌, length, map, reverse, get_or, Some, None, refl, sym, ◌∙◌, ap, subst, arith, append_assoc, append-nil, ◌≢◌, inl, inr}
use Rattle.std.proofs.lemmas.List.{map-append}
use Rattle.std.proofs.lemmas.Bool.{eq-eqb}
use Rattle.std.proofs.lemmas.Bool.Decides.{eqb_tells}
use Rattle.std.specs.List.{position_from}
use Rattle.esx_paths.specs.declared.makers.Maker.{Maker}
use Rattle.esx_paths.specs.declared.way.Waypoint.{Waypoint}
use Rattle.esx_paths.specs.Paths.{RiseFrom}
use Rattle.esx_paths.specs.Ways.{maker_at, waypoint_at, IsWayUp, LeadsUp, AreDown}
use Rattle.esx_paths.proofs.Lists.{reverse_cons}

-- a number of each node: 0 of the opening, and of each other more than of its parent
record Climbs (makers : List Maker) (top : ℕ) (number : ℕ → ℕ) : Type 0 where
  none : number 0 ≡ 0
  more : (n : ℕ) → 0 < n → n ≤ top → number (maker_at makers n).parent < number n
  up : (n : ℕ) → 0 < n → n ≤ top → (maker_at makers n).parent ≤ top

-- what a waypoint has of it
climbs : (makers : List Maker) (top : ℕ) (number : ℕ → ℕ) (told : Waypoint → ℕ) → Climbs makers top number → ((n : ℕ) → told (waypoint_at makers n) ≡ number n)
    → (n : ℕ) (ups : List Waypoint) (later : List ℕ) → n ≤ top → IsWayUp makers n ups → RiseFrom (number n) later → RiseFrom 0 (map told (reverse ups) ++ later)
climbs makers top number told climb is n [] later fits up rise = (let P : ℕ → Type 0 = λ low. RiseFrom low later in subst P (ap number up ∙ climb.none) rise)
climbs makers top number told climb is n (w ∷ ups) later fits up rise =
    let number_is : told w ≡ number n = ap told up.1 ∙ is n in
    let whole : map told (reverse (w ∷ ups)) ++ later ≡ map told (reverse ups) ++ (told w ∷ later) =
    ap (λ l. l ++ later) (ap (map told) (reverse_cons w ups) ∙ map-append told (reverse ups) (w ∷ [])) ∙ append_assoc (map told (reverse ups)) (told w ∷ []) later in
    let here : RiseFrom (number (maker_at makers n).parent) (told w ∷ later) =
    ((let m = climb.more n up.0 fits in omega arith), (let P : ℕ → Type 0 = λ low. RiseFrom low later in subst P (sym number_is) rise)) in
    subst (RiseFrom 0) (sym whole) (climbs makers top number told climb is (maker_at makers n).parent ups (told w ∷ later) (climb.up n up.0 fits) up.2 here)

parent_below : (makers : List Maker) → LeadsUp makers → (n : ℕ) → 0 < n → n ≤ length makers → (maker_at makers n).parent < n
parent_below makers up zero some fits = absurd (omega arith)
parent_below makers up (suc k) some fits = (let h = up k (omega arith) in omega arith)

-- the nodes of a way rise
pub nodes_rise : (makers : List Maker) (n : ℕ) (ups : List Waypoint) → LeadsUp makers → n ≤ length makers → IsWayUp makers n ups → RiseFrom 0 (map (λ (w : Waypoint). w.node) (reverse ups))
nodes_rise makers n ups up fits way =
    let climb : Climbs makers (length makers) (λ k. k) = record {
      none = refl;
      more = λ k some within. parent_below makers up k some within;
      up = λ k some within. (let h = parent_below makers up k some within in omega arith);
    } in
    subst (RiseFrom 0) (append-nil (map (λ (w : Waypoint). w.node) (reverse ups))) (climbs makers (length makers) (λ k. k) (λ w. w.node) climb (λ k. refl) n ups [] fits way tt)

-- and so do their calls, where a younger node was made by a later call
pub calls_of_way : (makers : List Maker) (n : ℕ) (ups : List Waypoint) → LeadsUp makers → ((i j : ℕ) → i < j → j ≤ length makers → (maker_at makers i).call < (maker_at makers j).call)
    → n ≤ length makers → IsWayUp makers n ups → RiseFrom 0 (map (λ (w : Waypoint). w.call) (reverse ups))
calls_of_way makers n ups up later fits way =
    let climb : Climbs makers (length makers) (λ k. (maker_at makers k).call) = record {
      none = refl;
      more = λ k some within. later (maker_at makers k).parent k (parent_below makers up k some within) within;
      up = λ k some within. (let h = parent_below makers up k some within in omega arith);
    } in
    subst (RiseFrom 0) (append-nil (map (λ (w : Waypoint). w.call) (reverse ups))) (climbs makers (length makers) (λ k. (maker_at makers k).call) (λ w. w.call) climb (λ k. refl) n ups [] fits way tt)

-- each waypoint of a way is what is told of its node
pub made_of_way : (makers : List Maker) (n : ℕ) (ups : List Waypoint) → IsWayUp makers n ups → map (λ (w : Waypoint). waypoint_at makers w.node) (reverse ups) ≡ reverse ups
made_of_way makers n [] up = refl
made_of_way makers n (w ∷ ups) up =
    let told : Waypoint → Waypoint = λ x. waypoint_at makers x.node in
    let here : told w ≡ w = ap (λ (x : Waypoint). told x) up.1 ∙ sym up.1 in
    ap (map told) (reverse_cons w ups) ∙ map-append told (reverse ups) (w ∷ [])
    ∙ ap (λ (xs : List Waypoint). xs ++ told w ∷ []) (made_of_way makers (maker_at makers n).parent ups up.2)
    ∙ ap (λ (x : Waypoint). reverse ups ++ x ∷ []) here ∙ sym (reverse_cons w ups)

-- a way has no more waypoints than its node's number
pub way_short : (makers : List Maker) (n : ℕ) (ups : List Waypoint) → LeadsUp makers → n ≤ length makers → IsWayUp makers n ups → length ups ≤ n
way_short makers n [] up fits way = omega arith
way_short makers n (w ∷ ups) up fits way =
    let below = parent_below makers up n way.0 fits in
    let rest = way_short makers (maker_at makers n).parent ups up (omega arith) way.2 in
    omega arith

-- Numbers that rise, one by one.

above : (low : ℕ) (xs : List ℕ) (i : ℕ) → RiseFrom low xs → i < length xs → low < get_or xs i 0
above low [] i rise fits = absurd (omega arith)
above low (x ∷ xs) zero rise fits = rise.0
above low (x ∷ xs) (suc i) rise fits = (let h = above x xs i rise.1 (omega arith) in let l = rise.0 in omega arith)

pub never_fall : (y : ℕ) (ys : List ℕ) (i j : ℕ) → RiseFrom y ys → i ≤ j → j < length (y ∷ ys) → get_or (y ∷ ys) i 0 ≤ get_or (y ∷ ys) j 0
never_fall y ys zero zero rise le fits = omega arith
never_fall y ys zero (suc j) rise le fits = (let h = above y ys j rise (omega arith) in omega arith)
never_fall y ys (suc i) zero rise le fits = absurd (omega arith)
never_fall y [] (suc i) (suc j) rise le fits = absurd (omega arith)
never_fall y (z ∷ zs) (suc i) (suc j) rise le fits = never_fall z zs i j rise.1 (omega arith) (omega arith)

other : (n k : ℕ) → n ≢ k → (n == k) ≡ false
other n k h = elim (eqb_tells n k) as (λ _. (n == k) ≡ false) [ inl e ↦ absurd (h e.1) | inr e ↦ e.0 ]

-- the place of a number that is there
pub placed_at : (y : ℕ) (ys : List ℕ) (x at i : ℕ) → RiseFrom y ys → i < length (y ∷ ys) → get_or (y ∷ ys) i 0 ≡ x → position_from (λ n. n == x) at (y ∷ ys) ≡ Some (at + i)
placed_at y ys x at zero rise fits e =
    let here : at ≡ at + 0 = omega arith in
    ap (λ b. cond b (Some at) (position_from (λ n. n == x) (at + 1) ys)) (eq-eqb y x e) ∙ ap (λ k. Some k) here
placed_at y [] x at (suc i) rise fits e = absurd (omega arith)
placed_at y (z ∷ zs) x at (suc i) rise fits e =
    let h = above y (z ∷ zs) i rise (omega arith) in
    let there : at + 1 + i ≡ at + suc i = omega arith in
    ap (λ b. cond b (Some at) (position_from (λ n. n == x) (at + 1) (z ∷ zs))) (other y x (λ s. omega arith))
    ∙ placed_at z zs x (at + 1) i rise.1 (omega arith) e ∙ ap (λ k. Some k) there

-- and of one that is not
pub placed_nowhere : (xs : List ℕ) (x at : ℕ) → ((i : ℕ) → i < length xs → get_or xs i 0 ≢ x) → position_from (λ n. n == x) at xs ≡ None
placed_nowhere [] x at none = refl
placed_nowhere (y ∷ ys) x at none =
    ap (λ b. cond b (Some at) (position_from (λ n. n == x) (at + 1) ys)) (other y x (none 0 (omega arith)))
    ∙ placed_nowhere ys x (at + 1) (λ i fits. none (suc i) (omega arith))

-- The same of nodes that rise from the opening.

pub down_never_falls : (nodes : List ℕ) → AreDown nodes → (i j : ℕ) → i ≤ j → j < length nodes → get_or nodes i 0 ≤ get_or nodes j 0
down_never_falls nodes down i j le fits =
    let P : List ℕ → Type 0 = λ l. j < length l → get_or l i 0 ≤ get_or l j 0 in
    subst P (sym down.whole) (λ within. never_fall 0 down.later i j down.rise le within) fits

pub down_placed : (nodes : List ℕ) → AreDown nodes → (x i : ℕ) → i < length nodes → get_or nodes i 0 ≡ x → position_from (λ n. n == x) 0 nodes ≡ Some i
down_placed nodes down x i fits e =
    let P : List ℕ → Type 0 = λ l. i < length l → get_or l i 0 ≡ x → position_from (λ n. n == x) 0 l ≡ Some i in
    let from : 0 + i ≡ i = omega arith in
    subst P (sym down.whole) (λ within is. placed_at 0 down.later x 0 i down.rise within is ∙ ap (λ k. Some k) from) fits e
