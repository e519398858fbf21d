-- The first place of one linked list goes to the front of another.
use Rattle.std.proofs.Common.{◌≡◌, ◌≢◌, ℕ, ◌+◌, ◌<◌, sym, ap, ◌∙◌, inl, inr, arith}
use Rattle.std.proofs.lemmas.Bool.{cases_eq}
use Rattle.esx_keys.specs.Links.{Links}

-- f, the first of list a, is the first of list b, and nothing else has changed
pub record MovesFirst (a b f : ℕ) (group rank next first len group' rank' next' first' len' : ℕ → ℕ) : Type 0 where
  pub was_first : f ≡ first a
  pub lists_apart : a ≢ b
  pub filled : 0 < len a
  pub group_moved : (i : ℕ) → i ≡ f → group' i ≡ b
  pub group_kept : (i : ℕ) → i ≢ f → group' i ≡ group i
  pub rank_moved : (i : ℕ) → i ≡ f → rank' i ≡ len b
  pub rank_kept : (i : ℕ) → i ≢ f → rank' i ≡ rank i
  pub next_moved : (i : ℕ) → i ≡ f → next' i ≡ first b
  pub next_kept : (i : ℕ) → i ≢ f → next' i ≡ next i
  pub first_left : (h : ℕ) → h ≡ a → first' h ≡ next f
  pub first_joined : (h : ℕ) → h ≡ b → first' h ≡ f
  pub first_kept : (h : ℕ) → h ≢ a → h ≢ b → first' h ≡ first h
  pub len_left : (h : ℕ) → h ≡ a → len' h + 1 ≡ len a
  pub len_joined : (h : ℕ) → h ≡ b → len' h ≡ len b + 1
  pub len_kept : (h : ℕ) → h ≢ a → h ≢ b → len' h ≡ len h

module _ {n m a b f : ℕ} {group rank next first len group' rank' next' first' len' : ℕ → ℕ} (links : Links n m group rank next first len) (within : a < m) (to_within : b < m) (moves : MovesFirst a b f group rank next first len group' rank' next' first' len') where
  f_within : f < n
  f_within = grind (arith, links.first_within, moves.was_first, moves.filled)

  f_group : group f ≡ a
  f_group = grind (arith, links.first_group, moves.was_first, moves.filled)

  f_rank : rank f + 1 ≡ len a
  f_rank = grind (arith, links.first_rank, moves.was_first, moves.filled)

  -- no other place of its list has the rank of f
  below_f : (i : ℕ) → i < n → i ≢ f → group i ≡ a → rank i + 1 < len a
  below_f i lt ne e =
      let below : rank i < len (group i) = links.ranked i lt in
      let same : len (group i) ≡ len a = ap len e in
      let differs : rank i ≢ rank f = λ r. ne (links.apart i f lt f_within (e ∙ sym f_group) r) in
      let was = f_rank in
      omega arith

  -- no other place names f
  next_apart : (i : ℕ) → i < n → i ≢ f → 0 < rank i → next i ≢ f
  next_apart i lt ne pos e =
      let here : group i ≡ a = sym (links.together i lt pos) ∙ ap group e ∙ f_group in
      let low = below_f i lt ne here in
      let falls : rank (next i) + 1 ≡ rank i = links.falling i lt pos in
      let same : rank (next i) ≡ rank f = ap rank e in
      let was = f_rank in
      omega arith

  -- the first of another list is not f
  first_apart : (h : ℕ) → h < m → h ≢ a → 0 < len h → first h ≢ f
  first_apart h lt ne pos e = ne (sym (links.first_group h lt pos) ∙ ap group e ∙ f_group)

  moved_grouped : (i : ℕ) → i < n → group' i < m
  moved_grouped i lt = grind (arith, cases_eq i f, moves.group_moved i, moves.group_kept i, links.grouped i)

  moved_ranked : (i : ℕ) → i < n → rank' i < len' (group' i)
  moved_ranked i lt =
      elim (cases_eq i f) [
        | inl e ↦
            let r = moves.rank_moved i e in
            let g : len' (group' i) ≡ len b + 1 = moves.len_joined (group' i) (moves.group_moved i e) in
            omega arith
        | inr ne ↦
            let r = moves.rank_kept i ne in
            let gl : len' (group' i) ≡ len' (group i) = ap len' (moves.group_kept i ne) in
            let below : rank i < len (group i) = links.ranked i lt in
            elim (cases_eq (group i) a) [
              | inl ea ↦
                  let low = below_f i lt ne ea in
                  let left = moves.len_left (group i) ea in
                  omega arith
              | inr na ↦
                  elim (cases_eq (group i) b) [
                    | inl eb ↦
                        let joined = moves.len_joined (group i) eb in
                        let lb : len (group i) ≡ len b = ap len eb in
                        omega arith
                    | inr nb ↦
                        let kept = moves.len_kept (group i) na nb in
                        omega arith
                  ]
            ]
      ]

  moved_within : (i : ℕ) → i < n → 0 < rank' i → next' i < n
  moved_within i lt pos =
      elim (cases_eq i f) [
        | inl e ↦
            let r = moves.rank_moved i e in
            let x = moves.next_moved i e in
            let y = links.first_within b to_within (omega arith) in
            omega arith
        | inr ne ↦
            let r = moves.rank_kept i ne in
            let x = moves.next_kept i ne in
            let y = links.within i lt (omega arith) in
            omega arith
      ]

  moved_together : (i : ℕ) → i < n → 0 < rank' i → group' (next' i) ≡ group' i
  moved_together i lt pos =
      elim (cases_eq i f) [
        | inl e ↦
            let filled : 0 < len b = omega (arith, moves.rank_moved i e) in
            let other = first_apart b to_within (λ s. moves.lists_apart (sym s)) filled in
            ap group' (moves.next_moved i e) ∙ moves.group_kept (first b) other ∙ links.first_group b to_within filled ∙ sym (moves.group_moved i e)
        | inr ne ↦
            let ranked : 0 < rank i = omega (arith, moves.rank_kept i ne) in
            ap group' (moves.next_kept i ne) ∙ moves.group_kept (next i) (next_apart i lt ne ranked) ∙ links.together i lt ranked ∙ sym (moves.group_kept i ne)
      ]

  moved_falling : (i : ℕ) → i < n → 0 < rank' i → rank' (next' i) + 1 ≡ rank' i
  moved_falling i lt pos =
      elim (cases_eq i f) [
        | inl e ↦
            let filled : 0 < len b = omega (arith, moves.rank_moved i e) in
            let other = first_apart b to_within (λ s. moves.lists_apart (sym s)) filled in
            let x : rank' (next' i) ≡ rank (first b) = ap rank' (moves.next_moved i e) ∙ moves.rank_kept (first b) other in
            omega (arith, links.first_rank b to_within filled, moves.rank_moved i e)
        | inr ne ↦
            let ranked : 0 < rank i = omega (arith, moves.rank_kept i ne) in
            let x : rank' (next' i) ≡ rank (next i) = ap rank' (moves.next_kept i ne) ∙ moves.rank_kept (next i) (next_apart i lt ne ranked) in
            omega (arith, links.falling i lt ranked, moves.rank_kept i ne)
      ]

  -- where a list still has a place, f named one other than itself
  after_f : (h : ℕ) → h ≡ a → 0 < len' h → 0 < rank f
  after_f h e pos = omega (arith, moves.len_left h e, f_rank)

  after_apart : 0 < rank f → next f ≢ f
  after_apart pos e =
      let same : rank (next f) ≡ rank f = ap rank e in
      omega (arith, links.falling f f_within pos)

  moved_first_within : (h : ℕ) → h < m → 0 < len' h → first' h < n
  moved_first_within h lt pos =
      elim (cases_eq h a) [
        | inl e ↦ omega (arith, moves.first_left h e, links.within f f_within (after_f h e pos))
        | inr na ↦
            elim (cases_eq h b) [
              | inl e ↦ omega (arith, moves.first_joined h e, f_within)
              | inr nb ↦ omega (arith, moves.first_kept h na nb, links.first_within h lt (omega (arith, moves.len_kept h na nb)))
            ]
      ]

  moved_first_group : (h : ℕ) → h < m → 0 < len' h → group' (first' h) ≡ h
  moved_first_group h lt pos =
      elim (cases_eq h a) [
        | inl e ↦
            let ranked = after_f h e pos in
            ap group' (moves.first_left h e) ∙ moves.group_kept (next f) (after_apart ranked) ∙ links.together f f_within ranked ∙ f_group ∙ sym e
        | inr na ↦
            elim (cases_eq h b) [
              | inl e ↦ moves.group_moved (first' h) (moves.first_joined h e) ∙ sym e
              | inr nb ↦
                  let filled : 0 < len h = omega (arith, moves.len_kept h na nb) in
                  ap group' (moves.first_kept h na nb) ∙ moves.group_kept (first h) (first_apart h lt na filled) ∙ links.first_group h lt filled
            ]
      ]

  moved_first_rank : (h : ℕ) → h < m → 0 < len' h → rank' (first' h) + 1 ≡ len' h
  moved_first_rank h lt pos =
      elim (cases_eq h a) [
        | inl e ↦
            let ranked = after_f h e pos in
            let x : rank' (first' h) ≡ rank (next f) = ap rank' (moves.first_left h e) ∙ moves.rank_kept (next f) (after_apart ranked) in
            omega (arith, links.falling f f_within ranked, f_rank, moves.len_left h e)
        | inr na ↦
            elim (cases_eq h b) [
              | inl e ↦ omega (arith, moves.rank_moved (first' h) (moves.first_joined h e), moves.len_joined h e)
              | inr nb ↦
                  let filled : 0 < len h = omega (arith, moves.len_kept h na nb) in
                  let x : rank' (first' h) ≡ rank (first h) = ap rank' (moves.first_kept h na nb) ∙ moves.rank_kept (first h) (first_apart h lt na filled) in
                  omega (arith, links.first_rank h lt filled, moves.len_kept h na nb)
            ]
      ]

  -- no place that stood in list b has the rank that f has there
  not_joined : (i j : ℕ) → i ≡ f → j ≢ f → j < n → group' i ≡ group' j → rank' i ≡ rank' j → ⊥
  not_joined i j e ne lt g r =
      let here : group j ≡ b = sym (moves.group_kept j ne) ∙ sym g ∙ moves.group_moved i e in
      let same : len (group j) ≡ len b = ap len here in
      omega (arith, links.ranked j lt, moves.rank_moved i e, moves.rank_kept j ne)

  moved_apart : (i j : ℕ) → i < n → j < n → group' i ≡ group' j → rank' i ≡ rank' j → i ≡ j
  moved_apart i j li lj g r =
      elim (cases_eq i f) [
        | inl ei ↦
            elim (cases_eq j f) [
              | inl ej ↦ ei ∙ sym ej
              | inr nj ↦ absurd (not_joined i j ei nj lj g r)
            ]
        | inr ni ↦
            elim (cases_eq j f) [
              | inl ej ↦ absurd (not_joined j i ej ni li (sym g) (sym r))
              | inr nj ↦
                  links.apart i j li lj
                  (sym (moves.group_kept i ni) ∙ g ∙ moves.group_kept j nj)
                  (sym (moves.rank_kept i ni) ∙ r ∙ moves.rank_kept j nj)
            ]
      ]

  pub Links-moved : Links n m group' rank' next' first' len'
  Links-moved =
      record {
        grouped = moved_grouped;
        ranked = moved_ranked;
        within = moved_within;
        together = moved_together;
        falling = moved_falling;
        first_within = moved_first_within;
        first_group = moved_first_group;
        first_rank = moved_first_rank;
        apart = moved_apart;
      }
