-- The shortest way between two nodes.
use Rattle.std.proofs.Common.{◌≡◌, ◌≢◌, Bool, true, false, nat_lt, ℕ, zero, suc, ◌+◌, ◌-◌, ◌<◌, ◌≤◌, ◌==◌, cond, List, [], ◌∷◌, ◌++◌, length, length-append, map, reverse, drop, replicate, append_assoc, refl, sym, ap, ◌∙◌, subst, arith, ◌⊎◌, inl, inr}
use Rattle.std.proofs.lemmas.List.{drop-append-le, map-append, reverse-append, length-reverse, length-map, length-drop, length-replicate}
use Rattle.std.proofs.lemmas.List.Sums.{common_prefix_len-le}
use Rattle.std.proofs.lemmas.Grind.{common_steps, replicate_next}
use Rattle.std.proofs.lemmas.Bool.Decides.{eqb_tells, nat_tests}
use Rattle.std.proofs.lemmas.Bool.{eq-eqb}
use Rattle.esx_model.specs.Tree.{Node, Move, Up, Down, parent, at, IsTree, IsWalk}
use Rattle.esx_model.specs.Tree.{line, in_common, way}
use Rattle.esx_journal.proofs.Paths.{newest, is_other, is_older, parent_new, parent_old, parent_below, parent_zero, walk_ends}

line_new : (x : Node) (older : List Node) (n : ℕ) → n ≡ length older + 1 → line (x ∷ older) n ≡ line older x.parent ++ n ∷ []
unfolding line
line_new x older n e = ap (λ b. cond b (line older x.parent ++ n ∷ []) (line older n)) (eq-eqb n (length older + 1) e)

line_old : (x : Node) (older : List Node) (n : ℕ) → n ≤ length older → line (x ∷ older) n ≡ line older n
unfolding line
line_old x older n h = ap (λ b. cond b (line older x.parent ++ n ∷ []) (line older n)) (is_older n (length older) h)

-- a line is its parent's line and the node
pub line_child : (nodes : List Node) (n : ℕ) → IsTree nodes → 0 < n → n ≤ length nodes → line nodes n ≡ line nodes (parent nodes n) ++ n ∷ []
line_child [] n tree some fits = absurd (omega arith)
line_child (x ∷ older) n tree some fits = of (newest n (length older) (omega arith)) (λ h. line_child older n tree.1 some h)
  where
    of : (n ≡ length older + 1) ⊎ (n ≤ length older) → (n ≤ length older → line older n ≡ line older (parent older n) ++ n ∷ []) → line (x ∷ older) n ≡ line (x ∷ older) (parent (x ∷ older) n) ++ n ∷ []
    of (inl e) go = line_new x older n e ∙ ap (λ l. l ++ n ∷ []) (sym (line_old x older x.parent tree.0) ∙ ap (line (x ∷ older)) (sym (parent_new x older n e)))
    of (inr h) go = (let p = parent_old x older n h in let q = parent_below older n tree.1 some h in
        line_old x older n h ∙ go h ∙ ap (λ l. l ++ n ∷ []) (sym (line_old x older (parent older n) (omega arith)) ∙ ap (line (x ∷ older)) (sym p)))

-- all numbers are below a
abbrev pub AllBelow : ℕ → List ℕ → Type 0
AllBelow a [] = Unit {0}
AllBelow a (x ∷ xs) = (x < a) × AllBelow a xs

all_below_append : (a : ℕ) (xs ys : List ℕ) → AllBelow a xs → AllBelow a ys → AllBelow a (xs ++ ys)
all_below_append a [] ys h k = k
all_below_append a (x ∷ xs) ys h k = (h.0, all_below_append a xs ys h.1 k)

line_below : (nodes : List Node) (n a : ℕ) → IsTree nodes → n ≤ length nodes → n < a → AllBelow a (line nodes n)
unfolding line
line_below [] n a tree fits h = tt
line_below (x ∷ older) n a tree fits h = of (newest n (length older) (omega arith)) (λ k. line_below older x.parent a tree.1 tree.0 k) (λ k. line_below older n a tree.1 k h)
  where
    P : List ℕ → Type 0
    P = AllBelow a

    of : (n ≡ length older + 1) ⊎ (n ≤ length older) → (x.parent < a → AllBelow a (line older x.parent)) → (n ≤ length older → AllBelow a (line older n)) → AllBelow a (line (x ∷ older) n)
    of (inl e) up go = (let t = tree.0 in subst P (sym (line_new x older n e)) (all_below_append a (line older x.parent) (n ∷ []) (up (omega arith)) (h, tt)))
    of (inr k) up go = subst P (sym (line_old x older n k)) (go k)

-- How far two lines are one.

common_left : (p q : List ℕ) (a : ℕ) → AllBelow a q → in_common (p ++ a ∷ []) q ≡ in_common p q
common_left [] [] a h = refl
common_left [] (y ∷ ys) a h = ap (λ b. cond b (1 + in_common [] ys) 0) (is_other a y (λ e. (let k = h.0 in omega arith)))
common_left (x ∷ xs) [] a h = refl
common_left (x ∷ xs) (y ∷ ys) a h = ap (λ k. cond (x == y) (1 + k) 0) (common_left xs ys a h.1)

common_right : (p q : List ℕ) (b : ℕ) → AllBelow b p → in_common p (q ++ b ∷ []) ≡ in_common p q
common_right [] q b h = refl
common_right (x ∷ xs) [] b h = ap (λ t. cond t (1 + in_common xs []) 0) (is_other x b (λ e. (let k = h.0 in omega arith)))
common_right (x ∷ xs) (y ∷ ys) b h = ap (λ k. cond (x == y) (1 + k) 0) (common_right xs ys b h.1)

common_self : (p : List ℕ) → in_common p p ≡ length p
common_self [] = refl
common_self (x ∷ xs) = ap (λ b. cond b (1 + in_common xs xs) 0) (eq-eqb x x refl) ∙ (let i = common_self xs in omega arith)

-- the part of the way that goes down, and the part that goes up
abbrev downward : ℕ → List ℕ → List Move
downward k to = reverse (map Down (drop k to))

abbrev upward : ℕ → List Move
upward k = replicate k Up

up_last : (r w : List Move) (k : ℕ) → (r ++ upward (k + 1)) ++ w ≡ (r ++ upward k) ++ Up ∷ w
up_last r w k = ap (λ s. (r ++ s) ++ w) (replicate_next k Up) ∙ append_assoc r (upward k ++ Up ∷ []) w ∙ ap (λ s. r ++ s) (append_assoc (upward k) (Up ∷ []) w) ∙ sym (append_assoc r (upward k) (Up ∷ w))

-- from a node that is not on the other line, up first
lines_up : (p q : List ℕ) (a : ℕ) (w : List Move) → AllBelow a q → way (p ++ a ∷ []) q ++ w ≡ way p q ++ Up ∷ w
lines_up p q a w h =
    let c = in_common p q in
    let l = length-append p (a ∷ []) in
    let le = (common_prefix_len-le ◌==◌ p q).0 in
    let n : length (p ++ a ∷ []) - c ≡ (length p - c) + 1 = omega arith in
    ap (λ k. (downward k q ++ upward (length (p ++ a ∷ []) - k)) ++ w) (common_left p q a h)
    ∙ ap (λ k. (downward c q ++ upward k) ++ w) n ∙ up_last (downward c q) w (length p - c)

-- to a node that is not on the other line, down last
lines_down : (p q : List ℕ) (b : ℕ) (w : List Move) → AllBelow b p → way p (q ++ b ∷ []) ++ w ≡ Down b ∷ (way p q ++ w)
lines_down p q b w h =
    let c = in_common p q in
    let le = (common_prefix_len-le ◌==◌ p q).1 in
    let last : downward c (q ++ b ∷ []) ≡ Down b ∷ downward c q
    = ap (λ s. reverse (map Down s)) (drop-append-le c q (b ∷ []) le) ∙ ap reverse (map-append Down (drop c q) (b ∷ [])) ∙ reverse-append (map Down (drop c q)) (Down b ∷ []) in
    ap (λ k. (downward k (q ++ b ∷ []) ++ upward (length p - k)) ++ w) (common_right p q b h)
    ∙ ap (λ s. (s ++ upward (length p - c)) ++ w) last

drop_all : (p : List ℕ) → drop (length p) p ≡ []
drop_all p = grind (arith, common_steps)

-- no way from a node to itself
pub way_none : (p : List ℕ) (w : List Move) → way p p ++ w ≡ w
way_none p w =
    let none : length p - length p ≡ 0 = omega arith in
    ap (λ k. (downward k p ++ upward (length p - k)) ++ w) (common_self p)
    ∙ ap (λ s. (reverse (map Down s) ++ upward (length p - length p)) ++ w) (drop_all p) ∙ ap (λ k. upward k ++ w) none

-- the greater of two numbers climbs
pub way_from : (nodes : List Node) (a b : ℕ) (w : List Move) → IsTree nodes → a ≤ length nodes → b < a → way (line nodes a) (line nodes b) ++ w ≡ way (line nodes (parent nodes a)) (line nodes b) ++ Up ∷ w
way_from nodes a b w tree fits h =
    ap (λ l. way l (line nodes b) ++ w) (line_child nodes a tree (omega arith) fits)
    ∙ lines_up (line nodes (parent nodes a)) (line nodes b) a w (line_below nodes b a tree (omega arith) h)

pub way_to : (nodes : List Node) (a b : ℕ) (w : List Move) → IsTree nodes → b ≤ length nodes → a < b → way (line nodes a) (line nodes b) ++ w ≡ Down b ∷ (way (line nodes a) (line nodes (parent nodes b)) ++ w)
way_to nodes a b w tree fits h =
    ap (λ l. way (line nodes a) l ++ w) (line_child nodes b tree (omega arith) fits)
    ∙ lines_down (line nodes a) (line nodes (parent nodes b)) b w (line_below nodes a b tree (omega arith) h)

sides : (a b : ℕ) → (a ≡ b) ⊎ ((a < b) ⊎ (b < a))
sides a b = of (eqb_tells a b) (nat_lt a b) refl
  where
    less : nat_lt a b ≡ true → a < b
    less h = grind (arith, nat_tests)

    more : nat_lt a b ≡ false → b ≤ a
    more h = grind (arith, nat_tests)

    of : (((a == b) ≡ true) × (a ≡ b)) ⊎ (((a == b) ≡ false) × (a ≢ b)) → (t : Bool) → nat_lt a b ≡ t → (a ≡ b) ⊎ ((a < b) ⊎ (b < a))
    of (inl e) t h = inl e.1
    of (inr e) true h = inr (inl (less h))
    of (inr e) false h = inr (inr (let n = e.1 in let m = more h in omega arith))

-- a walk that goes on by the way between two nodes
pub record Arrived (nodes : List Node) (walk : List Move) (b : ℕ) : Type 0 where
  pub walks : IsWalk nodes walk
  pub ends : at nodes walk ≡ b

-- the way leads there
pub way_leads : (nodes : List Node) (k a b : ℕ) (walk : List Move) → IsTree nodes → a + b ≤ k → a ≤ length nodes → b ≤ length nodes → at nodes walk ≡ a → IsWalk nodes walk
    → Arrived nodes (way (line nodes a) (line nodes b) ++ walk) b
unfolding at
way_leads nodes zero a b walk tree small from to is ok =
    let P : List Move → Type 0 = λ w. Arrived nodes w b in
    let e : a ≡ b = omega arith in
    subst P (sym (ap (λ n. way (line nodes a) (line nodes n) ++ walk) (sym e) ∙ way_none (line nodes a) walk)) (record { walks = ok; ends = is ∙ e })
way_leads nodes (suc k) a b walk tree small from to is ok = of (sides a b)
    (λ c w f g i o. way_leads nodes k c b w tree f g to i o) (λ c f g. way_leads nodes k a c walk tree f from g is ok)
  where
    P : List Move → Type 0
    P = λ w. Arrived nodes w b

    of : (a ≡ b) ⊎ ((a < b) ⊎ (b < a)) → ((c : ℕ) (w : List Move) → c + b ≤ k → c ≤ length nodes → at nodes w ≡ c → IsWalk nodes w → Arrived nodes (way (line nodes c) (line nodes b) ++ w) b)
        → ((c : ℕ) → a + c ≤ k → c ≤ length nodes → Arrived nodes (way (line nodes a) (line nodes c) ++ walk) c) → Arrived nodes (way (line nodes a) (line nodes b) ++ walk) b
    of (inl e) up down = subst P (sym (ap (λ n. way (line nodes a) (line nodes n) ++ walk) (sym e) ∙ way_none (line nodes a) walk)) (record { walks = ok; ends = is ∙ e })
    of (inr (inl h)) up down = (
        let less = parent_below nodes b tree (omega arith) to in
        let rest = down (parent nodes b) (omega arith) (omega arith) in
        let some : 0 < b = omega arith in
        subst P (sym (way_to nodes a b walk tree to h)) (record { walks = (some, to, sym rest.ends, rest.walks); ends = refl }))
    of (inr (inr h)) up down = (
        let less = parent_below nodes a tree (omega arith) from in
        subst P (sym (way_from nodes a b walk tree from h)) (up (parent nodes a) (Up ∷ walk) (omega arith) (omega arith) (ap (parent nodes) is) ok))

-- How long a way is.

way_length : (p q : List ℕ) → length (way p q) ≡ (length q - in_common p q) + (length p - in_common p q)
way_length p q =
    let c = in_common p q in
    length-append (downward c q) (upward (length p - c))
    ∙ ap (λ n. n + length (upward (length p - c))) (length-reverse (map Down (drop c q)) ∙ length-map (drop c q) Down ∙ length-drop c q)
    ∙ ap (λ n. (length q - c) + n) (length-replicate (length p - c) Up)

-- one more node on a line is in common, or is not
common_next : (p q : List ℕ) (x : ℕ) → (in_common p q ≤ in_common p (q ++ x ∷ [])) × (in_common p (q ++ x ∷ []) ≤ in_common p q + 1)
common_next [] q x = (omega arith, omega arith)
common_next (y ∷ ys) [] x = (omega arith, (let l = (common_prefix_len-le ◌==◌ (y ∷ ys) (x ∷ [])).1 in omega arith))
common_next (y ∷ ys) (z ∷ zs) x = of (y == z) (common_next ys zs x)
  where
    of : (b : Bool) → (in_common ys zs ≤ in_common ys (zs ++ x ∷ [])) × (in_common ys (zs ++ x ∷ []) ≤ in_common ys zs + 1)
        → (cond b (1 + in_common ys zs) 0 ≤ cond b (1 + in_common ys (zs ++ x ∷ [])) 0) × (cond b (1 + in_common ys (zs ++ x ∷ [])) 0 ≤ cond b (1 + in_common ys zs) 0 + 1)
    of true h = (let l = h.0 in omega arith, let l = h.1 in omega arith)
    of false h = (omega arith, omega arith)

way_next : (p q : List ℕ) (x : ℕ) → (length (way p (q ++ x ∷ [])) ≤ length (way p q) + 1) × (length (way p q) ≤ length (way p (q ++ x ∷ [])) + 1)
way_next p q x =
    let a = way_length p q in
    let b = way_length p (q ++ x ∷ []) in
    let n = common_next p q x in
    let low = n.0 in
    let high = n.1 in
    let l = length-append q (x ∷ []) in
    let one = common_prefix_len-le ◌==◌ p q in
    let two = common_prefix_len-le ◌==◌ p (q ++ x ∷ []) in
    let c = one.0 in
    let d = one.1 in
    let e = two.0 in
    let f = two.1 in
    (omega arith, omega arith)

-- no walk comes there by fewer moves
pub way_fewest : (nodes : List Node) (walk others : List Move) → IsTree nodes → IsWalk nodes (others ++ walk) → length (way (line nodes (at nodes walk)) (line nodes (at nodes (others ++ walk)))) ≤ length others
unfolding at
way_fewest nodes walk [] tree ok =
    let l = way_length (line nodes (at nodes walk)) (line nodes (at nodes walk)) in
    let c = common_self (line nodes (at nodes walk)) in
    omega arith
way_fewest nodes walk (Up ∷ w) tree ok = of (at nodes (w ++ walk)) refl (way_fewest nodes walk w tree ok)
  where
    p : List ℕ
    p = line nodes (at nodes walk)

    of : (m : ℕ) → m ≡ at nodes (w ++ walk) → length (way p (line nodes (at nodes (w ++ walk)))) ≤ length w → length (way p (line nodes (parent nodes (at nodes (w ++ walk))))) ≤ length (Up ∷ w)
    of zero e h = (let same : parent nodes (at nodes (w ++ walk)) ≡ at nodes (w ++ walk) = ap (parent nodes) (sym e) ∙ parent_zero nodes ∙ e in
        let k = ap (λ n. length (way p (line nodes n))) same in omega arith)
    of (suc m) e h = (
        let fits = walk_ends nodes (w ++ walk) tree ok in
        let k = ap (λ l. length (way p l)) (line_child nodes (at nodes (w ++ walk)) tree (omega arith) fits) in
        let n = (way_next p (line nodes (parent nodes (at nodes (w ++ walk)))) (at nodes (w ++ walk))).1 in
        omega arith)
way_fewest nodes walk (Down n ∷ w) tree ok =
    let p = line nodes (at nodes walk) in
    let h = way_fewest nodes walk w tree ok.3 in
    let k = ap (λ l. length (way p l)) (line_child nodes n tree ok.0 ok.1) in
    let up = ap (λ m. length (way p (line nodes m))) ok.2 in
    let more = (way_next p (line nodes (parent nodes n)) n).0 in
    omega arith
