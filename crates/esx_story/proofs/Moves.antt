-- What is here after an event, from what was, what it takes out and what it brings.
use Rattle.std.proofs.Common.{◌≡◌, ◌≢◌, ℕ, zero, suc, ◌+◌, ◌<◌, Bool, true, false, ◌||◌, ◌&&◌, not, List, [], ◌∷◌, length, get_or, set, refl, sym, ap, ◌∙◌, subst, arith, cond, Option, Some, None, inl, inr, ◌==◌}
use Rattle.std.proofs.lemmas.List.{get_or-set_same, get_or-set_other, length-set}
use Rattle.std.proofs.lemmas.List.Sums.{sum_by-set}
use Rattle.std.proofs.lemmas.Bool.{cases_eq}
use Rattle.esx_model.specs.declared.scene.Site.{Site}
use Rattle.esx_model.proofs.Callers.{one, eqb_same}
use Rattle.esx_story.specs.Changes.{How, Change, change, is_of}
use Rattle.esx_story.proofs.Bits.{named, not_named, bits_at, trues, Has, Keeps}

-- the change is of that page of machine n
abbrev pub is_that : ℕ → ℕ → Option Change → Bool
is_that n page None = false
is_that n page (Some x) = (x.vm == n) && (x.page == page)

-- pages that are here, as they are asked for and as they are counted
pub record Moves (s t : Site) (l g : Option Change) : Type 0 where
  pub bit : (m p : ℕ) → get_or (bits_at t m) p false ≡ (is_that m p g || (get_or (bits_at s m) p false && not (is_that m p l)))
  pub count : (m : ℕ) → trues (bits_at t m) + one (is_of m l) ≡ trues (bits_at s m) + one (is_of m g)
  pub was : (x : Change) → l ≡ Some x → get_or (bits_at s x.vm) x.page false ≡ true
  pub away : (x : Change) → g ≡ Some x → get_or (bits_at s x.vm) x.page false ≡ false

plain : (b : Bool) → b ≡ (b && not false)
plain true = refl
plain false = refl

pub moves_same : (s t : Site) → ((m p : ℕ) → get_or (bits_at t m) p false ≡ get_or (bits_at s m) p false) → ((m : ℕ) → trues (bits_at t m) ≡ trues (bits_at s m)) → Moves s t None None
moves_same s t bit count = record {
  bit = λ m p. bit m p ∙ plain (get_or (bits_at s m) p false);
  count = λ m. ap (λ k. k + 0) (count m);
  was = λ x h. cc;
  away = λ x h. cc;
}

pub moves_none : (s t : Site) → Keeps s t → Moves s t None None
moves_none s t keeps = moves_same s t (λ m p. ap (λ bs. get_or bs p false) (keeps m)) (λ m. ap trues (keeps m))

-- so many, after one page
trues_set : (bs : List Bool) (page : ℕ) (b : Bool) → page < length bs → trues (set bs page b) + one (get_or bs page false) ≡ trues bs + one b
trues_set bs page b within = sum_by-set (λ x. cond x 1 0) bs page b false within

-- a page that is here is within
pub within_of : (bs : List Bool) (page : ℕ) → get_or bs page false ≡ true → page < length bs
within_of [] page h = cc
within_of (b ∷ bs) zero h = omega arith
within_of (b ∷ bs) (suc page) h = (let rest = within_of bs page h in omega (arith, rest))

bit_set : (bs : List Bool) (page : ℕ) (b : Bool) (p : ℕ) → page < length bs → get_or (set bs page b) p false ≡ cond (page == p) b (get_or bs p false)
bit_set bs page b p within = elim (cases_eq p page) [
  | inl e ↦ ap (λ j. get_or (set bs page b) j false) e ∙ get_or-set_same bs page b false within ∙ ap (λ x. cond x b (get_or bs p false)) (sym (named page p e))
  | inr other ↦ get_or-set_other bs page p b false other ∙ ap (λ x. cond x b (get_or bs p false)) (sym (not_named page p other))
]

lose_bit : (a b x y : Bool) → cond a (cond b false x) y ≡ (cond a x y && not (a && b))
lose_bit true true true y = refl
lose_bit true true false y = refl
lose_bit true false true y = refl
lose_bit true false false y = refl
lose_bit false b x true = refl
lose_bit false b x false = refl

gain_bit : (a b x y : Bool) → cond a (cond b true x) y ≡ ((a && b) || (cond a x y && not false))
gain_bit true true x y = refl
gain_bit true false true y = refl
gain_bit true false false y = refl
gain_bit false b x true = refl
gain_bit false b x false = refl

trade_bit : (a b d x y : Bool) → cond a (cond d true (cond b false x)) y ≡ ((a && d) || (cond a x y && not (a && b)))
trade_bit true b true x y = refl
trade_bit true true false true y = refl
trade_bit true true false false y = refl
trade_bit true false false true y = refl
trade_bit true false false false y = refl
trade_bit false b d x true = refl
trade_bit false b d x false = refl

get_cond : (a : Bool) (xs ys : List Bool) (p : ℕ) → get_or (cond a xs ys) p false ≡ cond a (get_or xs p false) (get_or ys p false)
get_cond true xs ys p = refl
get_cond false xs ys p = refl

-- what a machine has, asked for beside the others
abbrev Own : Site → ℕ → List Bool → Type 0
Own s n bs = bits_at s n ≡ bs

own_bit : (s : Site) (n : ℕ) (bs : List Bool) (m p : ℕ) → Own s n bs → cond (n == m) (get_or bs p false) (get_or (bits_at s m) p false) ≡ get_or (bits_at s m) p false
own_bit s n bs m p own = elim (cases_eq m n) [
  | inl e ↦ ap (λ b. cond b (get_or bs p false) (get_or (bits_at s m) p false)) (named n m e) ∙ ap (λ xs. get_or xs p false) (sym own) ∙ ap (λ j. get_or (bits_at s j) p false) (sym e)
  | inr other ↦ ap (λ b. cond b (get_or bs p false) (get_or (bits_at s m) p false)) (not_named n m other)
]

own_count : (s t : Site) (n : ℕ) (bs cs : List Bool) (l g : ℕ → Bool) → Own s n bs → Has s n cs t → trues cs + one (l n) ≡ trues bs + one (g n) → ((m : ℕ) → m ≢ n → (l m ≡ false) × (g m ≡ false))
    → (m : ℕ) → trues (bits_at t m) + one (l m) ≡ trues (bits_at s m) + one (g m)
own_count s t n bs cs l g own has is others m = elim (cases_eq m n) [
  | inl e ↦ (let after : trues (bits_at t m) ≡ trues cs = ap trues (has m) ∙ ap (λ b. trues (cond b cs (bits_at s m))) (named n m e) in
      let before : trues (bits_at s m) ≡ trues bs = ap (λ j. trues (bits_at s j)) e ∙ ap trues own in
      let a : one (l m) ≡ one (l n) = ap (λ j. one (l j)) e in
      let b : one (g m) ≡ one (g n) = ap (λ j. one (g j)) e in
      omega (arith, after, before, a, b, is))
  | inr other ↦ (let after : trues (bits_at t m) ≡ trues (bits_at s m) = ap trues (has m) ∙ ap (λ b. trues (cond b cs (bits_at s m))) (not_named n m other) in
      let no = others m other in
      let a : one (l m) ≡ 0 = ap one no.0 in
      let b : one (g m) ≡ 0 = ap one no.1 in
      omega (arith, after, a, b))
]

-- a page left its frame
pub moves_lost : (s t : Site) (n page : ℕ) (bs : List Bool) (how : How) → Own s n bs → get_or bs page false ≡ true → Has s n (set bs page false) t → Moves s t (Some (change n page how)) None
moves_lost s t n page bs how own here has = record {
  bit = λ m p. ap (λ xs. get_or xs p false) (has m) ∙ get_cond (n == m) (set bs page false) (bits_at s m) p
      ∙ ap (λ x. cond (n == m) x (get_or (bits_at s m) p false)) (bit_set bs page false p (within_of bs page here))
      ∙ lose_bit (n == m) (page == p) (get_or bs p false) (get_or (bits_at s m) p false)
      ∙ ap (λ x. x && not ((n == m) && (page == p))) (own_bit s n bs m p own);
  count = own_count s t n bs (set bs page false) (λ m. n == m) (λ m. false) own has
      (let counts = trues_set bs page false (within_of bs page here) in
      let was : one (get_or bs page false) ≡ 1 = ap one here in
      let is : one (n == n) ≡ 1 = ap one (eqb_same n) in
      omega (arith, counts, was, is))
      (λ m other. (not_named n m other, refl));
  was = λ x h. (let same : change n page how ≡ x = cc in
      let P : Change → Type 0 = λ y. get_or (bits_at s y.vm) y.page false ≡ true in
      subst P same (ap (λ xs. get_or xs page false) own ∙ here));
  away = λ x h. cc;
}

-- a page came into a frame
pub moves_gained : (s t : Site) (n page : ℕ) (bs : List Bool) (how : How) → Own s n bs → page < length bs → get_or bs page false ≡ false → Has s n (set bs page true) t → Moves s t None (Some (change n page how))
moves_gained s t n page bs how own within gone has = record {
  bit = λ m p. ap (λ xs. get_or xs p false) (has m) ∙ get_cond (n == m) (set bs page true) (bits_at s m) p
      ∙ ap (λ x. cond (n == m) x (get_or (bits_at s m) p false)) (bit_set bs page true p within)
      ∙ gain_bit (n == m) (page == p) (get_or bs p false) (get_or (bits_at s m) p false)
      ∙ ap (λ x. ((n == m) && (page == p)) || (x && not false)) (own_bit s n bs m p own);
  count = own_count s t n bs (set bs page true) (λ m. false) (λ m. n == m) own has
      (let counts = trues_set bs page true within in
      let was : one (get_or bs page false) ≡ 0 = ap one gone in
      let is : one (n == n) ≡ 1 = ap one (eqb_same n) in
      omega (arith, counts, was, is))
      (λ m other. (refl, not_named n m other));
  was = λ x h. cc;
  away = λ x h. (let same : change n page how ≡ x = cc in
      let P : Change → Type 0 = λ y. get_or (bits_at s y.vm) y.page false ≡ false in
      subst P same (ap (λ xs. get_or xs page false) own ∙ gone));
}

-- a page came into the frame of another of its machine
pub moves_traded : (s t : Site) (n page q : ℕ) (bs : List Bool) (how by : How) → Own s n bs → page < length bs → get_or bs page false ≡ false → get_or bs q false ≡ true → Has s n (set (set bs q false) page true) t
    → Moves s t (Some (change n q by)) (Some (change n page how))
moves_traded s t n page q bs how by own within gone here has =
    let mid = set bs q false in
    let len : length mid ≡ length bs = length-set bs q false in
    let within_mid : page < length mid = omega (arith, len, within) in
    let apart : page ≢ q = (λ e. (let one : true ≡ false = sym here ∙ ap (λ j. get_or bs j false) (sym e) ∙ gone in cc)) in
    let gone_mid : get_or mid page false ≡ false = get_or-set_other bs q page false false apart ∙ gone in
    record {
      bit = λ m p. ap (λ xs. get_or xs p false) (has m) ∙ get_cond (n == m) (set mid page true) (bits_at s m) p
          ∙ ap (λ x. cond (n == m) x (get_or (bits_at s m) p false)) (bit_set mid page true p within_mid ∙ ap (cond (page == p) true) (bit_set bs q false p (within_of bs q here)))
          ∙ trade_bit (n == m) (q == p) (page == p) (get_or bs p false) (get_or (bits_at s m) p false)
          ∙ ap (λ x. ((n == m) && (page == p)) || (x && not ((n == m) && (q == p)))) (own_bit s n bs m p own);
      count = own_count s t n bs (set mid page true) (λ m. n == m) (λ m. n == m) own has
          (let left = trues_set bs q false (within_of bs q here) in
          let came = trues_set mid page true within_mid in
          let was : one (get_or bs q false) ≡ 1 = ap one here in
          let before : one (get_or mid page false) ≡ 0 = ap one gone_mid in
          omega (arith, left, came, was, before))
          (λ m other. (not_named n m other, not_named n m other));
      was = λ x h. (let same : change n q by ≡ x = cc in
          let P : Change → Type 0 = λ y. get_or (bits_at s y.vm) y.page false ≡ true in
          subst P same (ap (λ xs. get_or xs q false) own ∙ here));
      away = λ x h. (let same : change n page how ≡ x = cc in
          let P : Change → Type 0 = λ y. get_or (bits_at s y.vm) y.page false ≡ false in
          subst P same (ap (λ xs. get_or xs page false) own ∙ gone));
    }
