-- The map of what is picked out of a list: at each key what some element gives.
use Rattle.std.proofs.Common.{◌≡◌, ◌≢◌, ◌⊎◌, ℕ, zero, suc, ◌+◌, ◌<◌, Bool, true, false, cond, List, [], ◌∷◌, length, get_or, set, map, Option, Some, None, Ordering, count_by, refl, sym, ap, ◌∙◌, inl, inr, arith}
use Rattle.std.proofs.lemmas.Bool.{cases_eq, cond-true, cond-false}
use Rattle.std.proofs.lemmas.List.{nil_from_length, get_or-set_same, get_or-set_other}
use Rattle.std.proofs.lemmas.List.Sums.{sum_by-cons}
use Rattle.std.proofs.lemmas.Option.{some_pair_parts, same_Some}
use Rattle.std.specs.List.{filter_map, cons_option}
use Rattle.std.specs.Ordering.{nat_cmp, eq_by_cmp, is_eq, MatchOrdering}
use Rattle.std.specs.declared.cmp.Ordering.TheVariants.{Less, Equal, Greater}
use Rattle.std.specs.Cmp.{ranks, nat_cmp_total}
use Rattle.std.specs.FinMap.{find, put, get, insert, remove, entries, keys, from_entries, get-entries, get-insert, get-remove, get-from_entries, entries-insert, len-empty, len-entries, same_map, nat_cmp-IsAntisymmetric}
use Rattle.std.specs.FinMap.Entries.{by_order}

same_rank : (q k : ℕ) (r : Ordering) → MatchOrdering r (q < k) (q ≡ k) (k < q) → q ≡ k → is_eq r ≡ true
same_rank q k Less below e = absurd (omega arith)
same_rank q k Equal same e = refl
same_rank q k Greater above e = absurd (omega arith)

other_rank : (q k : ℕ) (r : Ordering) → MatchOrdering r (q < k) (q ≡ k) (k < q) → q ≢ k → is_eq r ≡ false
other_rank q k Less below ne = refl
other_rank q k Equal same ne = absurd (ne same)
other_rank q k Greater above ne = refl

-- two keys tie exactly where they are equal
pub tie_same : (q k : ℕ) → q ≡ k → eq_by_cmp nat_cmp q k ≡ true
tie_same q k e = same_rank q k (nat_cmp q k) (ranks q k) e

pub tie_apart : (q k : ℕ) → q ≢ k → eq_by_cmp nat_cmp q k ≡ false
tie_apart q k ne = other_rank q k (nat_cmp q k) (ranks q k) ne

-- a new key adds one to a count of the keys, where it passes
count-put : {V : Type 0} (p : ℕ → Bool) (k : ℕ) (v : V) (es : List (ℕ × V)) → find nat_cmp k es ≡ None → count_by p (map (λ e. e.0) (put nat_cmp k v es)) ≡ cond (p k) 1 0 + count_by p (map (λ e. e.0) es)
count-put p k v [] none = omega (arith, sum_by-cons (λ x. cond (p x) 1 0) k [])
count-put {V} p k v (e ∷ es) none =
    elim (nat_cmp k e.0) as (λ r. cond (is_eq r) (Some e.1) (find nat_cmp k es) ≡ None → count_by p (map (λ x. x.0) (by_order r ((k, v) ∷ e ∷ es) ((e.0, v) ∷ es) (e ∷ put nat_cmp k v es))) ≡ cond (p k) 1 0 + count_by p (map (λ x. x.0) (e ∷ es))) [
      | Less ↦ λ h. sum_by-cons (λ x. cond (p x) 1 0) k (map (λ x. x.0) (e ∷ es))
      | Equal ↦ λ h. absurd (cc)
      | Greater ↦ λ h.
          let more = count-put p k v es h in
          omega (arith, sum_by-cons (λ x. cond (p x) 1 0) e.0 (map (λ x. x.0) es), sum_by-cons (λ x. cond (p x) 1 0) e.0 (map (λ x. x.0) (put nat_cmp k v es)))
    ] none

module _ {V : Type 0} where
  -- whether the key of what is picked passes a test
  abbrev pub passes : (ℕ → Bool) → Option (ℕ × V) → Bool
  passes p None = false
  passes p (Some e) = p e.0

  -- something is picked under the key, or nothing is
  keyed : (q : ℕ) (o : Option (ℕ × V)) → ((w : V) × (o ≡ Some (q, w))) ⊎ ((w : V) → o ≢ Some (q, w))
  keyed q None = inr (λ w e. cc)
  keyed q (Some (k, v)) =
      elim (cases_eq k q) [
        | inl e ↦ inl (v, ap (λ x. Some (x, v)) e)
        | inr ne ↦ inr (λ w e. ne (some_pair_parts k q v w e).0)
      ]

  head_here : (q : ℕ) (o : Option (ℕ × V)) (w : V) (es : List (ℕ × V)) → o ≡ Some (q, w) → find nat_cmp q (cons_option o es) ≡ Some w
  head_here q o w es e = ap (λ x. find nat_cmp q (cons_option x es)) e ∙ cond-true _ _ _ (tie_same q q refl)

  head_other : (q : ℕ) (o : Option (ℕ × V)) (es : List (ℕ × V)) → ((w : V) → o ≢ Some (q, w)) → find nat_cmp q (cons_option o es) ≡ find nat_cmp q es
  head_other q None es other = refl
  head_other q (Some (k, v)) es other = cond-false _ _ _ (tie_apart q k (λ e. other v (ap (λ x. Some (x, v)) (sym e))))

module _ {X V : Type 0} (pick : X → Option (ℕ × V)) where
  -- to write an element that gives the same keeps what is picked
  pub filter_map-set_same : (xs : List X) (i : ℕ) (y d : X) → pick y ≡ pick (get_or xs i d) → filter_map pick (set xs i y) ≡ filter_map pick xs
  filter_map-set_same [] i y d e = refl
  filter_map-set_same (x ∷ xs) zero y d e = ap (λ o. cons_option o (filter_map pick xs)) e
  filter_map-set_same (x ∷ xs) (suc i) y d e = ap (cons_option (pick x)) (filter_map-set_same xs i y d e)

  module _ (d : X) (nothing : pick d ≡ None) where
    -- at most one place gives anything under a key
    abbrev pub IsKeyed : List X → Type 0
    IsKeyed xs = (i j q : ℕ) (v w : V) → pick (get_or xs i d) ≡ Some (q, v) → pick (get_or xs j d) ≡ Some (q, w) → i ≡ j

    pub find-found : (xs : List X) (q : ℕ) (v : V) (i : ℕ) → pick (get_or xs i d) ≡ Some (q, v) → ((j : ℕ) (w : V) → pick (get_or xs j d) ≡ Some (q, w) → w ≡ v) → find nat_cmp q (filter_map pick xs) ≡ Some v
    find-found [] q v i here one = absurd (cc)
    find-found (x ∷ xs) q v zero here one = head_here q (pick x) v _ here
    find-found (x ∷ xs) q v (suc i) here one =
        let later = find-found xs q v i here (λ j. one (suc j)) in
        elim (keyed q (pick x)) [
          | inl (w, e) ↦ head_here q (pick x) w _ e ∙ ap Some (one 0 w e)
          | inr other ↦ head_other q (pick x) _ other ∙ later
        ]

    pub find-absent : (xs : List X) (q : ℕ) → ((j : ℕ) (w : V) → pick (get_or xs j d) ≢ Some (q, w)) → find nat_cmp q (filter_map pick xs) ≡ None
    find-absent [] q absent = refl
    find-absent (x ∷ xs) q absent = head_other q (pick x) _ (absent 0) ∙ find-absent xs q (λ j. absent (suc j))

    pub find-where : (xs : List X) (q : ℕ) (v : V) → find nat_cmp q (filter_map pick xs) ≡ Some v → (i : ℕ) × (pick (get_or xs i d) ≡ Some (q, v))
    find-where [] q v e = absurd (cc)
    find-where (x ∷ xs) q v e =
        elim (keyed q (pick x)) [
          | inl (w, h) ↦ (0, h ∙ ap (λ u. Some (q, u)) (same_Some w v (sym (head_here q (pick x) w _ h) ∙ e)))
          | inr other ↦ let later = find-where xs q v (sym (head_other q (pick x) _ other) ∙ e) in (suc later.0, later.1)
        ]

    -- under a key the two lists give the same
    pub record SameUnder (xs ys : List X) (q : ℕ) : Type 0 where
      pub forth : (i : ℕ) (v : V) → pick (get_or xs i d) ≡ Some (q, v) → (j : ℕ) × (pick (get_or ys j d) ≡ Some (q, v))
      pub back : (j : ℕ) (v : V) → pick (get_or ys j d) ≡ Some (q, v) → (i : ℕ) × (pick (get_or xs i d) ≡ Some (q, v))

    one_value : (xs : List X) → IsKeyed xs → (i j q : ℕ) (v w : V) → pick (get_or xs i d) ≡ Some (q, v) → pick (get_or xs j d) ≡ Some (q, w) → w ≡ v
    one_value xs is_keyed i j q v w a b =
        let same : i ≡ j = is_keyed i j q v w a b in
        let moved : pick (get_or xs i d) ≡ Some (q, w) = ap (λ k. pick (get_or xs k d)) same ∙ b in
        (some_pair_parts q q w v (sym moved ∙ a)).1

    pub find-same : (xs ys : List X) (q : ℕ) → IsKeyed xs → SameUnder xs ys q → find nat_cmp q (filter_map pick ys) ≡ find nat_cmp q (filter_map pick xs)
    find-same xs ys q is_keyed same = by_found (find nat_cmp q (filter_map pick xs)) refl
      where
        by_found : (o : Option V) → find nat_cmp q (filter_map pick xs) ≡ o → find nat_cmp q (filter_map pick ys) ≡ find nat_cmp q (filter_map pick xs)
        by_found None e = find-absent ys q (λ j w h. let there = same.back j w h in let found = find-found xs q w there.0 there.1 (λ k u g. one_value xs is_keyed there.0 k q w u there.1 g) in absurd (cc)) ∙ sym e
        by_found (Some v) e =
            let here = find-where xs q v e in
            let there = same.forth here.0 v here.1 in
            find-found ys q v there.0 there.1 (λ j w h. let old = same.back j w h in one_value xs is_keyed here.0 old.0 q v w here.1 old.1) ∙ sym e

    -- one element more under a key that had none
    pub from_entries-inserted : (xs ys : List X) (k : ℕ) (v : V) (at : ℕ) → IsKeyed xs → IsKeyed ys → pick (get_or ys at d) ≡ Some (k, v) → ((q : ℕ) → q ≢ k → SameUnder xs ys q) → from_entries {R = nat_cmp} (filter_map pick ys) ≡ insert (from_entries (filter_map pick xs)) k v
    from_entries-inserted xs ys k v at keyed_xs keyed_ys here others =
        same_map nat_cmp_total nat_cmp-IsAntisymmetric _ _ (λ q. get-from_entries nat_cmp_total _ q ∙ at_key q ∙ sym (get-insert nat_cmp_total _ k v q))
      where
        at_key : (q : ℕ) → find nat_cmp q (filter_map pick ys) ≡ cond (eq_by_cmp nat_cmp q k) (Some v) (get (from_entries {R = nat_cmp} (filter_map pick xs)) q)
        at_key q =
            elim (cases_eq q k) [
              | inl e ↦ ap (λ x. find nat_cmp x (filter_map pick ys)) e ∙ find-found ys k v at here (λ j w h. one_value ys keyed_ys at j k v w here h) ∙ sym (cond-true _ _ _ (tie_same q k e))
              | inr ne ↦ find-same xs ys q keyed_xs (others q ne) ∙ sym (get-from_entries nat_cmp_total _ q) ∙ sym (cond-false _ _ _ (tie_apart q k ne))
            ]

    -- no element under a key any more
    pub from_entries-removed : (xs ys : List X) (k : ℕ) → IsKeyed xs → ((j : ℕ) (w : V) → pick (get_or ys j d) ≢ Some (k, w)) → ((q : ℕ) → q ≢ k → SameUnder xs ys q) → from_entries {R = nat_cmp} (filter_map pick ys) ≡ remove (from_entries (filter_map pick xs)) k
    from_entries-removed xs ys k keyed_xs none others =
        same_map nat_cmp_total nat_cmp-IsAntisymmetric _ _ (λ q. get-from_entries nat_cmp_total _ q ∙ at_key q ∙ sym (get-remove nat_cmp_total _ k q))
      where
        at_key : (q : ℕ) → find nat_cmp q (filter_map pick ys) ≡ cond (eq_by_cmp nat_cmp q k) None (get (from_entries {R = nat_cmp} (filter_map pick xs)) q)
        at_key q =
            elim (cases_eq q k) [
              | inl e ↦ ap (λ x. find nat_cmp x (filter_map pick ys)) e ∙ find-absent ys k none ∙ sym (cond-true _ _ _ (tie_same q k e))
              | inr ne ↦ find-same xs ys q keyed_xs (others q ne) ∙ sym (get-from_entries nat_cmp_total _ q) ∙ sym (cond-false _ _ _ (tie_apart q k ne))
            ]

    -- the same under each key
    pub from_entries-same : (xs ys : List X) → IsKeyed xs → ((q : ℕ) → SameUnder xs ys q) → from_entries {R = nat_cmp} (filter_map pick ys) ≡ from_entries (filter_map pick xs)
    from_entries-same xs ys keyed_xs same =
        same_map nat_cmp_total nat_cmp-IsAntisymmetric _ _ (λ q. get-from_entries nat_cmp_total _ q ∙ find-same xs ys q keyed_xs (same q) ∙ sym (get-from_entries nat_cmp_total _ q))

    counted : (ℕ → Bool) → List X → Type 0
    counted p xs = count_by p (keys (from_entries {R = nat_cmp} (filter_map pick xs))) ≡ count_by (λ x. passes p (pick x)) xs

    count_by-head : (p : ℕ → Bool) (x : X) (xs : List X) → IsKeyed (x ∷ xs) → (o : Option (ℕ × V)) → pick x ≡ o → counted p xs → counted p (x ∷ xs)
    unfolding counted
    count_by-head p x xs is_keyed None e rest =
        ap (λ o. count_by p (keys (from_entries {R = nat_cmp} (cons_option o (filter_map pick xs))))) e
        ∙ omega (arith, rest, sum_by-cons (λ y. cond (passes p (pick y)) 1 0) x xs, ap {B = ℕ} (λ o. cond (passes p o) 1 0) e)
    count_by-head p x xs is_keyed (Some (k, v)) e rest =
        let es = entries (from_entries {R = nat_cmp} (filter_map pick xs)) in
        let absent : find nat_cmp k (filter_map pick xs) ≡ None = find-absent xs k (λ j w h. absurd (omega (arith, is_keyed zero (suc j) k v w e h))) in
        let new : find nat_cmp k es ≡ None = sym (get-entries (from_entries {R = nat_cmp} (filter_map pick xs)) k) ∙ get-from_entries nat_cmp_total _ k ∙ absent in
        let placed : entries (insert (from_entries {R = nat_cmp} (filter_map pick xs)) k v) ≡ put nat_cmp k v es = entries-insert nat_cmp_total _ k v in
        ap (λ o. count_by p (keys (from_entries {R = nat_cmp} (cons_option o (filter_map pick xs))))) e
        ∙ ap (λ l. count_by p (map (λ y. y.0) l)) placed
        ∙ count-put p k v es new
        ∙ omega (arith, rest, sum_by-cons (λ y. cond (passes p (pick y)) 1 0) x xs, ap {B = ℕ} (λ o. cond (passes p o) 1 0) e)

    -- as many keys pass a test as elements give a key that does
    pub count_by-keys : (p : ℕ → Bool) (xs : List X) → IsKeyed xs → count_by p (keys (from_entries {R = nat_cmp} (filter_map pick xs))) ≡ count_by (λ x. passes p (pick x)) xs
    unfolding counted
    count_by-keys p [] is_keyed = ap (λ es. count_by p (map (λ e. e.0) es)) (nil_from_length _ (sym (len-entries _) ∙ len-empty nat_cmp V))
    count_by-keys p (x ∷ xs) is_keyed =
        let later : IsKeyed xs = λ i j q v w a b. omega (arith, is_keyed (suc i) (suc j) q v w a b) in
        count_by-head p x xs is_keyed (pick x) refl (count_by-keys p xs later)

    -- an element that gave nothing gives an entry under a new key
    pub from_entries-set : (xs : List X) (i : ℕ) (y : X) (k : ℕ) (v : V) → i < length xs → pick (get_or xs i d) ≡ None → pick y ≡ Some (k, v) → IsKeyed xs → IsKeyed (set xs i y) → from_entries {R = nat_cmp} (filter_map pick (set xs i y)) ≡ insert (from_entries (filter_map pick xs)) k v
    from_entries-set xs i y k v within was now keyed_xs keyed_ys =
        from_entries-inserted xs (set xs i y) k v i keyed_xs keyed_ys (ap pick (get_or-set_same xs i y d within) ∙ now) others
      where
        kept : (j : ℕ) → j ≢ i → pick (get_or (set xs i y) j d) ≡ pick (get_or xs j d)
        kept j ne = ap pick (get_or-set_other xs i j y d ne)

        not_before : (j q : ℕ) (w : V) → pick (get_or xs j d) ≡ Some (q, w) → j ≢ i
        not_before j q w e same = let there = sym was ∙ ap (λ n. pick (get_or xs n d)) (sym same) ∙ e in absurd (cc)

        not_after : (j q : ℕ) (w : V) → q ≢ k → pick (get_or (set xs i y) j d) ≡ Some (q, w) → j ≢ i
        not_after j q w apart e same =
            let there : Some (k, v) ≡ Some (q, w) = sym now ∙ ap pick (sym (get_or-set_same xs i y d within)) ∙ ap (λ n. pick (get_or (set xs i y) n d)) (sym same) ∙ e in
            apart (sym (some_pair_parts k q v w there).0)

        others : (q : ℕ) → q ≢ k → SameUnder xs (set xs i y) q
        others q apart =
            record {
              forth = λ j w e. (j, kept j (not_before j q w e) ∙ e);
              back = λ j w e. (j, sym (kept j (not_after j q w apart e)) ∙ e);
            }

    -- the second list has at place `at` what the first has at place f, and at place f nothing
    pub record Refills (xs ys : List X) (at f : ℕ) : Type 0 where
      pub gone : (i : ℕ) → i ≡ f → pick (get_or ys i d) ≡ None
      pub filled : (i : ℕ) → i ≢ f → i ≡ at → pick (get_or ys i d) ≡ pick (get_or xs f d)
      pub kept : (i : ℕ) → i ≢ f → i ≢ at → pick (get_or ys i d) ≡ pick (get_or xs i d)

    module _ (xs ys : List X) (at f : ℕ) (refills : Refills xs ys at f) where
      came_from : (q j : ℕ) (v : V) → pick (get_or ys j d) ≡ Some (q, v) → (i : ℕ) × (pick (get_or xs i d) ≡ Some (q, v))
      came_from q j v e =
          elim (cases_eq j f) [
            | inl same ↦ let nothing = refills.gone j same in absurd (cc)
            | inr ne ↦
                elim (cases_eq j at) [
                  | inl here ↦ (f, sym (refills.filled j ne here) ∙ e)
                  | inr apart ↦ (j, sym (refills.kept j ne apart) ∙ e)
                ]
          ]

      went_to : (q : ℕ) → ((v : V) → pick (get_or xs at d) ≢ Some (q, v)) → (i : ℕ) (v : V) → pick (get_or xs i d) ≡ Some (q, v) → (j : ℕ) × (pick (get_or ys j d) ≡ Some (q, v))
      went_to q not_at i v e =
          elim (cases_eq i at) [
            | inl here ↦ absurd (not_at v (ap (λ n. pick (get_or xs n d)) (sym here) ∙ e))
            | inr apart ↦
                elim (cases_eq i f) [
                  | inl same ↦
                      (at, refills.filled at (λ x. apart (same ∙ sym x)) refl ∙ ap (λ n. pick (get_or xs n d)) (sym same) ∙ e)
                  | inr ne ↦ (i, refills.kept i ne apart ∙ e)
                ]
          ]

      same_under : (q : ℕ) → ((v : V) → pick (get_or xs at d) ≢ Some (q, v)) → SameUnder xs ys q
      same_under q not_at = record { forth = went_to q not_at; back = came_from q }

      -- what stood at place `at` is taken out
      pub from_entries-taken : (k : ℕ) (v : V) → IsKeyed xs → pick (get_or xs at d) ≡ Some (k, v) → from_entries {R = nat_cmp} (filter_map pick ys) ≡ remove (from_entries (filter_map pick xs)) k
      from_entries-taken k v keyed_xs here =
          from_entries-removed xs ys k keyed_xs none_left (λ q apart. same_under q (λ w e. apart (sym (some_pair_parts k q v w (sym here ∙ e)).0)))
        where
          none_left : (j : ℕ) (w : V) → pick (get_or ys j d) ≢ Some (k, w)
          none_left j w e =
              elim (cases_eq j f) [
                | inl same ↦ let nothing = refills.gone j same in absurd (cc)
                | inr ne ↦
                    elim (cases_eq j at) [
                      | inl at_hole ↦ ne (at_hole ∙ keyed_xs at f k v w here (sym (refills.filled j ne at_hole) ∙ e))
                      | inr apart ↦ apart (keyed_xs j at k w v (sym (refills.kept j ne apart) ∙ e) here)
                    ]
              ]

      -- nothing stood at place `at`
      pub from_entries-refilled : IsKeyed xs → pick (get_or xs at d) ≡ None → from_entries {R = nat_cmp} (filter_map pick ys) ≡ from_entries (filter_map pick xs)
      from_entries-refilled keyed_xs nothing =
          from_entries-same xs ys keyed_xs (λ q. same_under q (λ v e. absurd (cc)))
