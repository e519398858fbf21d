-- The rows of the table of guests are those of all lives.
use Rattle.std.proofs.Common.{◌≡◌, ℕ, zero, suc, ◌+◌, ◌-◌, ◌<◌, ◌≤◌, ◌==◌, nat_lt, Bool, true, false, cond, List, [], ◌∷◌, ◌++◌, length, map, get_or, take, append_assoc, refl, sym, ap, ◌∙◌, arith, Option, None, option_map}
use Rattle.std.specs.List.{filter, flat_map, range_with_len}
use Rattle.std.proofs.lemmas.Bool.Decides.{nat_tests}
use Rattle.std.proofs.lemmas.List.{take_more, map-append, append-nil}
use Rattle.std.proofs.lemmas.List.Concat.{flat_map-cons}
use Rattle.std.proofs.lemmas.List.Elements.{filter-append}
use Rattle.std.proofs.lemmas.List.FromFn.{map-range_with_len_more}
use Rattle.std.proofs.lemmas.Grind.{flat_map-append}
use Rattle.esx_types.specs.declared.config.TheConstants.{VM_NUMBERS}
use Rattle.esx_types.specs.declared.config.Config.{Config}
use Rattle.esx_model.specs.Site.{vm_at}
use Rattle.esx_model.proofs.Callers.{eqb_same, eqb_other}
use Rattle.esx_story.specs.declared.story.Loss.{Loss}
use Rattle.esx_story.specs.Moments.{Moment}
use Rattle.esx_sums.specs.declared.guest.Guest.{Guest}
use Rattle.esx_sums.specs.declared.present.Present.{Present}
use Rattle.esx_sums.specs.declared.tally.Tally.{Tally}
use Rattle.esx_sums.specs.declared.tally.Over.{Over}
use Rattle.esx_sums.specs.Accounts.{is_over_of, over, IsSums}
use Rattle.esx_sums.specs.Guests.{tally}
use Rattle.esx_sums.specs.Lives.{lives, end_of}
use Rattle.esx_sums.specs.Losses.{came_back}
use Rattle.esx_story.specs.Waits.{Met}
use Rattle.esx_sums.specs.Rows.{row_of, guest, of_each, guests_of, guests, over_row, last_rows, machine_rows}
use Rattle.esx_sums.specs.Sums.{Sums, tally_in, present_of, all_present}
use Rattle.esx_sums.proofs.Lists.{same_range}
use Rattle.esx_sums.proofs.Living.{present_read}

-- Loops.

range_next : (a n : ℕ) → range_with_len a (suc n) ≡ range_with_len a n ++ (a + n) ∷ []
range_next a zero = ap (λ k. k ∷ []) (let e : a ≡ a + 0 = omega arith in e)
range_next a (suc n) = ap (λ ks. a ∷ ks) (range_next (a + 1) n ∙ ap (λ k. range_with_len (a + 1) n ++ k ∷ []) (let e : a + 1 + n ≡ a + suc n = omega arith in e))

pub flat_next : {X : Type 0} (f : ℕ → List X) (n : ℕ) → flat_map f (range_with_len 0 (n + 1)) ≡ flat_map f (range_with_len 0 n) ++ f n
flat_next f n =
    ap (λ k. flat_map f (range_with_len 0 k)) (let e : n + 1 ≡ suc n = omega arith in e) ∙ ap (flat_map f) (range_next 0 n) ∙ flat_map-append f (range_with_len 0 n) ((0 + n) ∷ [])
    ∙ ap (λ ys. flat_map f (range_with_len 0 n) ++ ys) (flat_map-cons f (0 + n) [] ∙ append-nil (f (0 + n)) ∙ ap f (let e : 0 + n ≡ n = omega arith in e))

same_flat : {X : Type 0} (f g : ℕ → List X) (a k : ℕ) → ((i : ℕ) → a ≤ i → i < a + k → f i ≡ g i) → flat_map f (range_with_len a k) ≡ flat_map g (range_with_len a k)
same_flat f g a zero same = refl
same_flat f g a (suc k) same =
    flat_map-cons f a (range_with_len (a + 1) k) ∙ ap (λ xs. xs ++ flat_map f (range_with_len (a + 1) k)) (same a (omega arith) (omega arith))
    ∙ ap (λ xs. g a ++ xs) (same_flat f g (a + 1) k (λ i low high. same i (omega (arith, low)) (omega (arith, high)))) ∙ sym (flat_map-cons g a (range_with_len (a + 1) k))

pub no_rows : (f : ℕ → List Guest) → of_each f 0 ≡ []
unfolding of_each
no_rows f = refl

each_next : (f : ℕ → List Guest) (n : ℕ) → of_each f (n + 1) ≡ of_each f n ++ f n
unfolding of_each
each_next f n = flat_next f n

-- with one more of the lives that are over
one_over : (n : ℕ) (f : Over → Guest) (o : Over) → map f (filter (is_over_of n) (o ∷ [])) ≡ cond (o.vm == n) (f o ∷ []) []
one_over n f o = by (o.vm == n)
  where
    by : (b : Bool) → map f (cond b (o ∷ []) []) ≡ cond b (f o ∷ []) []
    by true = refl
    by false = refl

pub past_next : (n : ℕ) (f : Over → Guest) (past : List Over) (i : ℕ) (o : Over) → i < length past → o ≡ get_or past i o
    → map f (filter (is_over_of n) (take (i + 1) past)) ≡ map f (filter (is_over_of n) (take i past)) ++ cond (o.vm == n) (f o ∷ []) []
past_next n f past i o below is =
    ap (λ (os : List Over). map f (filter (is_over_of n) os)) (take_more past i o below ∙ ap (λ (z : Over). take i past ++ z ∷ []) (sym is))
    ∙ ap (map f) (filter-append (is_over_of n) (take i past) (o ∷ [])) ∙ map-append f (filter (is_over_of n) (take i past)) (filter (is_over_of n) (o ∷ []))
    ∙ ap (λ gs. map f (filter (is_over_of n) (take i past)) ++ gs) (one_over n f o)

-- with one more machine
pub rows_next : (now : List Tally) (past : List Over) (present : List (Option Present)) (losses : List Loss) (n vm : ℕ) (t : Tally) (p : Option Present) (items a b : List Guest) → vm ≡ n → t ≡ tally_in now n → p ≡ get_or present n None
    → a ≡ items ++ map (over_row losses) (filter (is_over_of vm) past) → b ≡ a ++ last_rows vm t p losses → items ≡ of_each (machine_rows now past present losses) n → b ≡ of_each (machine_rows now past present losses) (n + 1)
rows_next now past present losses n vm t p items a b same tally_is present_is add last is =
    let front : ℕ → List Guest = λ k. map (over_row losses) (filter (is_over_of k) past) in
    last ∙ ap (λ gs. gs ++ last_rows vm t p losses) add ∙ append_assoc items (front vm) (last_rows vm t p losses)
    ∙ ap (λ k. items ++ (front k ++ last_rows k t p losses)) same
    ∙ ap (λ (z : Tally). items ++ (front n ++ last_rows n z p losses)) tally_is
    ∙ ap (λ (z : Option Present). items ++ (front n ++ last_rows n (tally_in now n) z losses)) present_is
    ∙ ap (λ gs. gs ++ machine_rows now past present losses n) is ∙ sym (each_next (machine_rows now past present losses) n)

-- Of a path.

map_map : {X Y Z : Type 0} (f : Y → Z) (g : X → Y) (xs : List X) → map f (map g xs) ≡ map (λ x. f (g x)) xs
map_map f g [] = refl
map_map f g (x ∷ xs) = ap (λ ys. f (g x) ∷ ys) (map_map f g xs)

some_lives : (k : ℕ) → nat_lt 0 (suc k) ≡ true
some_lives k = grind (arith, nat_tests)

rows_told : (c : Config) (ms : List Moment) (mets : List Met) (losses : List Loss) (n k : ℕ) (p : Option Present) → lives n ms ≡ k → p ≡ option_map present_of (vm_at (end_of c ms).site n)
    → map (λ l. over_row losses (over n ms mets l)) (range_with_len 1 (k - 1)) ++ cond (nat_lt 0 k) (row_of n (tally n k ms mets) p (came_back n k losses) ∷ []) [] ≡ map (guest c ms mets losses n) (range_with_len 1 k)
rows_told c ms mets losses n zero p is stands = refl
rows_told c ms mets losses n (suc k) p is stands =
    let own : Guest = row_of n (tally n (suc k) ms mets) p (came_back n (suc k) losses) in
    let last : own ≡ guest c ms mets losses n (suc k) =
    ap (λ (o : Option Present). row_of n (tally n (suc k) ms mets) o (came_back n (suc k) losses))
    (stands ∙ ap (λ b. let o : Option Present = cond b (option_map present_of (vm_at (end_of c ms).site n)) None in o) (sym (ap (λ j. suc k == j) is ∙ eqb_same (suc k)))) in
    let f = λ (l : ℕ). over_row losses (over n ms mets l) in
    let front : map f (range_with_len 1 k) ≡ map (guest c ms mets losses n) (range_with_len 1 k) =
    same_range f (guest c ms mets losses n) 1 k (λ l low high. ap (λ (o : Option Present). row_of n (tally n l ms mets) o (came_back n l losses))
    (ap (λ b. let o : Option Present = cond b (option_map present_of (vm_at (end_of c ms).site n)) None in o) (sym (eqb_other l (lives n ms) (λ e. omega (arith, e, is, high)))))) in
    ap (λ b. map f (range_with_len 1 (suc k - 1)) ++ cond b (own ∷ []) []) (some_lives k)
    ∙ ap (λ j. map f (range_with_len 1 j) ++ own ∷ []) (let e : suc k - 1 ≡ k = omega arith in e)
    ∙ ap (λ gs. gs ++ own ∷ []) front ∙ ap (λ (g : Guest). map (guest c ms mets losses n) (range_with_len 1 k) ++ g ∷ []) last
    ∙ sym (map-range_with_len_more (guest c ms mets losses n) 1 k (suc k) (let e : 1 + k ≡ suc k = omega arith in e))
    ∙ ap (λ j. map (guest c ms mets losses n) (range_with_len 1 j)) (let e : k + 1 ≡ suc k = omega arith in e)

machine_told : (c : Config) (ms : List Moment) (mets : List Met) (s : Sums) (present : List (Option Present)) (losses : List Loss) (n : ℕ) → IsSums c ms mets s → present ≡ all_present (end_of c ms).site → n < VM_NUMBERS
    → machine_rows s.now s.past present losses n ≡ guests_of c ms mets losses n
machine_told c ms mets s present losses n is stands below =
    let l = lives n ms in
    let p = get_or present n None in
    ap (λ (os : List Over). map (over_row losses) os ++ last_rows n (tally_in s.now n) p losses) (is.past n below)
    ∙ ap (λ gs. gs ++ last_rows n (tally_in s.now n) p losses) (map_map (over_row losses) (over n ms mets) (range_with_len 1 (l - 1)))
    ∙ ap (λ (t : Tally). map (λ j. over_row losses (over n ms mets j)) (range_with_len 1 (l - 1)) ++ last_rows n t p losses) (is.now n below)
    ∙ rows_told c ms mets losses n l p refl (ap (λ (ps : List (Option Present)). get_or ps n None) stands ∙ present_read (end_of c ms).site.vms n)

pub rows_are : (c : Config) (ms : List Moment) (mets : List Met) (s : Sums) (present : List (Option Present)) (losses : List Loss) → IsSums c ms mets s → present ≡ all_present (end_of c ms).site
    → of_each (machine_rows s.now s.past present losses) VM_NUMBERS ≡ guests c ms mets losses
unfolding of_each
rows_are c ms mets s present losses is stands =
    same_flat (machine_rows s.now s.past present losses) (guests_of c ms mets losses) 0 VM_NUMBERS (λ n low high. machine_told c ms mets s present losses n is stands (omega (arith, high)))
