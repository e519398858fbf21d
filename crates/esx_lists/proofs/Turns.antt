-- Trading a list of changes twice gives both back, where trading one twice does.
use Rattle.std.proofs.Common.{◌≡◌, List, [], ◌∷◌, ◌++◌, refl, sym, ap, ◌∙◌, append_assoc}
use Rattle.std.proofs.lemmas.List.{append-nil}
use Rattle.esx_lists.specs.Trades.{LeadsBack, in_turn}

module _ {S C : Type 0} (one : S → C → S × C) where
  pub turn-append : (s : S) (xs ys : List C) → in_turn one s (xs ++ ys) ≡ ((in_turn one (in_turn one s xs).0 ys).0, (in_turn one (in_turn one s xs).0 ys).1 ++ (in_turn one s xs).1)
  turn-append s [] ys = ap (λ (l : List C). ((in_turn one s ys).0, l)) (sym (append-nil (in_turn one s ys).1))
  turn-append s (x ∷ xs) ys =
      let e = turn-append (one s x).0 xs ys in
      ap (λ (r : S × List C). (r.0, r.1 ++ (one s x).1 ∷ [])) e
      ∙ ap (λ (l : List C). ((in_turn one (in_turn one (one s x).0 xs).0 ys).0, l)) (simp append_assoc)

  -- one more at the end
  pub then_one : (s t : S) (c : C) (ds : List C) (cs : List C) → in_turn one t ds ≡ (s, cs) → (u : S) (d : C) → one s c ≡ (u, d) → in_turn one t (ds ++ c ∷ []) ≡ (u, d ∷ cs)
  then_one s t c ds cs e u d f = turn-append t ds (c ∷ [])
      ∙ ap (λ (r : S × List C). ((one r.0 c).0, (one r.0 c).1 ∷ r.1)) e
      ∙ ap (λ (r : S × C). (r.0, r.1 ∷ cs)) f

  pub turn_back : LeadsBack one → LeadsBack (in_turn one)
  turn_back back s [] = refl
  turn_back back s (c ∷ cs) = then_one (one s c).0 (in_turn one (one s c).0 cs).0 (one s c).1 (in_turn one (one s c).0 cs).1 cs (turn_back back (one s c).0 cs) s c (back s c)
