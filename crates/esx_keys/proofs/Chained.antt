-- What becomes of chains when a number goes into one or comes out of it.
use Rattle.std.proofs.Common.{◌≡◌, ◌≢◌, ℕ, ◌+◌, ◌<◌, ◌≤◌, List, length, Option, Some, None, ◌⊎◌, inl, inr, refl, sym, ap, subst, ◌∙◌, arith, get_or, set, get_or-set_same, get_or-set_other}
use Rattle.std.proofs.lemmas.Bool.{cases_eq}
use Rattle.esx_keys.specs.Chains.{after, link_at, IsIn, AreApart, Leads, IsChained, IsBefore, IsMoved}

-- two places of chains are one, or have links of their own
same_or_apart : (group : ℕ → Option ℕ) (b c : ℕ) (o p : Option ℕ) → IsIn group b o → IsIn group c p → ((b ≡ c) × (o ≡ p)) ⊎ AreApart b o c p
same_or_apart group b c None None h i =
    elim (cases_eq b c) [ inl e ↦ inl (e, refl) | inr d ↦ inr d ]
same_or_apart group b c None (Some k) h i = inr tt
same_or_apart group b c (Some j) None h i = inr tt
same_or_apart group b c (Some j) (Some k) h i =
    elim (cases_eq j k) [
      | inl e ↦ let same : b ≡ c = cc (h, i, e) in inl (same, ap Some e)
      | inr d ↦ inr d
    ]

-- one place of a chain alone comes right before a number
only_place : (group : ℕ → Option ℕ) (b f : ℕ) (o p : Option ℕ) → IsIn group b o → after o ≤ f → ((k : ℕ) → after o ≤ k → k < f → group k ≢ Some b) → IsBefore group b f p → o ≡ p
only_place group b f None None h onward skips before = refl
only_place group b f None (Some k) h onward skips before =
    absurd (skips k (omega arith) (let l : k + 1 ≤ f = before.below in omega arith) before.within)
only_place group b f (Some j) None h onward skips before =
    absurd (before.last j (omega arith) (let l : j + 1 ≤ f = onward in omega arith) h)
only_place group b f (Some j) (Some k) h onward skips before =
    let below : k + 1 ≤ f = before.below in
    let past : j + 1 ≤ f = onward in
    let up : j < k → ⊥ = λ l. skips k (omega arith) (omega arith) before.within in
    let down : k < j → ⊥ = λ l. before.last j (omega arith) (omega arith) h in
    let same : j ≡ k = omega arith in
    ap Some same

not_apart : (b : ℕ) (o : Option ℕ) → AreApart b o b o → ⊥
not_apart b None apart = apart refl
not_apart b (Some k) apart = apart refl

-- another place of the chains does not come right before it
other_place : (group : ℕ → Option ℕ) (b c f : ℕ) (o p : Option ℕ) → b ≡ c → IsIn group b o → AreApart b o c p → after o ≤ f → ((k : ℕ) → after o ≤ k → k < f → group k ≢ Some b) → IsBefore group c f p → ⊥
other_place group b c f o p same h apart onward skips before =
    let place : o ≡ p = only_place group b f o p h onward skips (subst (λ t. IsBefore group t f p) (sym same) before) in
    not_apart b o (rw (← same, ← place) at apart)

-- a place that does not lead to the number that moves, nor over where it stands in order, leads where it did
leads_aside : (n : ℕ) (group moved : ℕ → Option ℕ) (b i f to : ℕ) (o : Option ℕ) → IsMoved group f o moved → (i ≤ f → f < to → o ≢ Some b) → to ≢ f → Leads n group b i to → Leads n moved b i to
leads_aside n group moved b i f to o moves other off leads = record {
  onward = leads.onward;
  skips = λ k from below here. elim (cases_eq k f) [
    | inl e ↦ other (rw e at from) (rw e at below) (sym moves.there ∙ ap moved (sym e) ∙ here)
    | inr d ↦ leads.skips k from below (sym (moves.others k d) ∙ here)
  ];
  lands = λ l. moves.others to off ∙ leads.lands l;
}

-- past a number that goes out of its chain, a place leads where that number led
leads_over : (n : ℕ) (group moved : ℕ → Option ℕ) (b i f to : ℕ) → IsMoved group f None moved → i ≤ f → ((k : ℕ) → i ≤ k → k < f → group k ≢ Some b) → Leads n group b (f + 1) to → Leads n moved b i to
leads_over n group moved b i f to moves before none leads = record {
  onward = omega (arith, leads.onward);
  skips = λ k from below here.
      let off : k ≢ f = λ e. let h : None ≡ Some b = sym moves.there ∙ ap moved (sym e) ∙ here in cc in
      let was : group k ≡ Some b = sym (moves.others k off) ∙ here in
      let up : k < f → ⊥ = λ l. none k from l was in
      leads.skips k (omega arith) below was;
  lands = λ l. let past : f + 1 ≤ to = leads.onward in let off : to ≢ f = omega arith in moves.others to off ∙ leads.lands l;
}

-- a place leads to a number that goes into the chain where it stands in order
leads_onto : (n : ℕ) (group moved : ℕ → Option ℕ) (b i f : ℕ) → IsMoved group f (Some b) moved → i ≤ f → ((k : ℕ) → i ≤ k → k < f → group k ≢ Some b) → Leads n moved b i f
leads_onto n group moved b i f moves before none = record {
  onward = before;
  skips = λ k from below here. let off : k ≢ f = omega arith in none k from below (sym (moves.others k off) ∙ here);
  lands = λ l. moves.there;
}

-- and that number leads on to where the place led
leads_past : (n : ℕ) (group moved : ℕ → Option ℕ) (b i f to : ℕ) → IsMoved group f (Some b) moved → group f ≡ None → f < n → i ≤ f → ((k : ℕ) → i ≤ k → k < f → group k ≢ Some b) → Leads n group b i to → Leads n moved b (f + 1) to
leads_past n group moved b i f to moves out small before none leads =
    let off : to ≢ f = λ e. let h : None ≡ Some b = sym out ∙ ap group (sym e) ∙ leads.lands (let l : to < n = omega arith in l) in cc in
    let down : to < f → ⊥ = λ l. none to leads.onward l (leads.lands (omega arith)) in
    record {
      onward = omega arith;
      skips = λ k from below here. let aside : k ≢ f = omega arith in leads.skips k (omega arith) below (sym (moves.others k aside) ∙ here);
      lands = λ l. moves.others to off ∙ leads.lands l;
    }

-- a place of a chain was one before a number came out
within_before : (group moved : ℕ → Option ℕ) (b f : ℕ) (o : Option ℕ) → IsMoved group f None moved → IsIn moved b o → IsIn group b o
within_before group moved b f None moves h = tt
within_before group moved b f (Some k) moves h =
    let off : k ≢ f = λ e. let x : None ≡ Some b = sym moves.there ∙ ap moved (sym e) ∙ h in cc in
    sym (moves.others k off) ∙ h

-- a walk along a chain comes to its numbers, and goes up
pub lands_in : (n : ℕ) (group : ℕ → Option ℕ) (heads next : List ℕ) (b k : ℕ) (o : Option ℕ) → IsChained n group heads next → b < length heads → IsIn group b o → k ≡ link_at heads next b o → k < n → group k ≡ Some b
lands_in n group heads next b k o chained small h e below = rw e ((chained b o small h).lands (rw e at below))

pub goes_up : (n : ℕ) (group : ℕ → Option ℕ) (heads next : List ℕ) (b k : ℕ) → IsChained n group heads next → b < length heads → group k ≡ Some b → k < get_or next k 0
goes_up n group heads next b k chained small h = omega (arith, (chained b (Some k) small h).onward)

pub found_before : (n : ℕ) (group : ℕ → Option ℕ) (heads next : List ℕ) (b f at : ℕ) (o : Option ℕ) → IsChained n group heads next → b < length heads → IsIn group b o → at ≡ link_at heads next b o → after o ≤ f → f ≤ at → IsBefore group b f o
found_before n group heads next b f at o chained small h e below past = record {
  within = h;
  below = below;
  last = λ k from under. let short : k < link_at heads next b o = omega arith in (chained b o small h).skips k from short;
}

pub IsChained-unlinked : (n : ℕ) (group moved : ℕ → Option ℕ) (heads next heads' next' : List ℕ) (c f : ℕ) (p : Option ℕ) → length heads' ≡ length heads → f < n → IsChained n group heads next → group f ≡ Some c → c < length heads → IsBefore group c f p → link_at heads' next' c p ≡ get_or next f 0 → ((b : ℕ) (o : Option ℕ) → AreApart b o c p → link_at heads' next' b o ≡ link_at heads next b o) → IsMoved group f None moved → IsChained n moved heads' next'
IsChained-unlinked n group moved heads next heads' next' c f p same fits chained here small before there others moves = λ b o less h.
    let inside : b < length heads = omega arith in
    let was : IsIn group b o = within_before group moved b f o moves h in
    elim (same_or_apart group b c o p was before.within) [
      | inl e ↦
          let over : Leads n moved c (after p) (link_at heads' next' c p) = rw there (leads_over n group moved c (after p) f (get_or next f 0) moves before.below before.last (chained c (Some f) small here)) in
          rw (e.0, e.1) over
      | inr apart ↦
          let leads : Leads n group b (after o) (link_at heads next b o) = chained b o inside was in
          let off : link_at heads next b o ≢ f = λ e.
          let to_f : Leads n group b (after o) f = subst (λ t. Leads n group b (after o) t) e leads in
          let one : Some b ≡ Some c = sym (to_f.lands fits) ∙ here in
          other_place group b c f o p (cc one) was apart to_f.onward to_f.skips before in
          rw (others b o apart) (leads_aside n group moved b (after o) f (link_at heads next b o) None moves (λ _ _ x. cc) off leads)
    ]

-- a place of a chain after a number came in is the one after it, or was one before
new_or_old : (group moved : ℕ → Option ℕ) (b c f : ℕ) (o : Option ℕ) → IsMoved group f (Some c) moved → IsIn moved b o → ((b ≡ c) × (o ≡ Some f)) ⊎ (IsIn group b o × AreApart b o c (Some f))
new_or_old group moved b c f None moves h = inr (tt, tt)
new_or_old group moved b c f (Some k) moves h =
    elim (cases_eq k f) [
      | inl e ↦
          let there : moved k ≡ Some c = ap moved e ∙ moves.there in
          let same : b ≡ c = cc (there, h) in
          inl (same, ap Some e)
      | inr d ↦ inr (sym (moves.others k d) ∙ h, d)
    ]

inserted_links : (n : ℕ) (group moved : ℕ → Option ℕ) (heads next heads' next' : List ℕ) (c f : ℕ) (p : Option ℕ) → length heads' ≡ length heads → f < n → IsChained n group heads next → group f ≡ None → c < length heads → IsBefore group c f p → get_or next' f 0 ≡ link_at heads next c p → link_at heads' next' c p ≡ f → ((b : ℕ) (o : Option ℕ) → AreApart b o c p → AreApart b o c (Some f) → link_at heads' next' b o ≡ link_at heads next b o) → IsMoved group f (Some c) moved → IsChained n moved heads' next'
inserted_links n group moved heads next heads' next' c f p same fits chained out small before on there others moves = λ b o less h.
    let inside : b < length heads = omega arith in
    elim (new_or_old group moved b c f o moves h) [
      | inl e ↦
          let past : Leads n moved c (f + 1) (get_or next' f 0) = rw on (leads_past n group moved c (after p) f (link_at heads next c p) moves out fits before.below before.last (chained c p small before.within)) in
          rw (e.0, e.1) past
      | inr old ↦
          elim (same_or_apart group b c o p old.0 before.within) [
            | inl e ↦
                let onto : Leads n moved c (after p) (link_at heads' next' c p) = rw there (leads_onto n group moved c (after p) f moves before.below before.last) in
                rw (e.0, e.1) onto
            | inr apart ↦
                let leads : Leads n group b (after o) (link_at heads next b o) = chained b o inside old.0 in
                let off : link_at heads next b o ≢ f = λ e.
                let to_f : Leads n group b (after o) f = subst (λ t. Leads n group b (after o) t) e leads in
                let nothing : None ≡ Some b = sym out ∙ to_f.lands fits in
                cc in
                let over : after o ≤ f → f < link_at heads next b o → Some c ≢ Some b = λ from below e.
                other_place group b c f o p (cc e) old.0 apart from (λ k past under. leads.skips k past (omega arith)) before in
                rw (others b o apart old.1) (leads_aside n group moved b (after o) f (link_at heads next b o) (Some c) moves over off leads)
          ]
    ]

-- the links where the number that comes in was first given the one after it
links_aside : (heads next : List ℕ) (b c f to : ℕ) (o : Option ℕ) → AreApart b o c (Some f) → link_at heads (set next f to) b o ≡ link_at heads next b o
links_aside heads next b c f to None apart = refl
links_aside heads next b c f to (Some k) apart = get_or-set_other next f k to 0 apart

before_is_apart : (group : ℕ → Option ℕ) (c f : ℕ) (p : Option ℕ) → IsBefore group c f p → AreApart c (Some f) c p
before_is_apart group c f None before = tt
before_is_apart group c f (Some k) before = λ e. let below : k + 1 ≤ f = before.below in omega arith

pub IsChained-inserted : (n : ℕ) (group moved : ℕ → Option ℕ) (heads next heads' next' : List ℕ) (c f : ℕ) (p : Option ℕ) → length heads' ≡ length heads → n ≡ length next → f < n → IsChained n group heads next → group f ≡ None → c < length heads → IsBefore group c f p → link_at heads' next' c p ≡ f → ((b : ℕ) (o : Option ℕ) → AreApart b o c p → link_at heads' next' b o ≡ link_at heads (set next f (link_at heads next c p)) b o) → IsMoved group f (Some c) moved → IsChained n moved heads' next'
IsChained-inserted n group moved heads next heads' next' c f p same size fits chained out small before there others moves =
    let inside : f < length next = omega arith in
    let on : get_or next' f 0 ≡ link_at heads next c p = others c (Some f) (before_is_apart group c f p before) ∙ get_or-set_same next f (link_at heads next c p) 0 inside in
    inserted_links n group moved heads next heads' next' c f p same fits chained out small before on there (λ b o apart aside. others b o apart ∙ links_aside heads next b c f (link_at heads next c p) o aside) moves
