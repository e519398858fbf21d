-- What several steps tell together.
use Rattle.std.proofs.Common.{◌≡◌, ◌≢◌, ◌⊎◌, ◌||◌, ◌+◌, ◌%◌, ◌<◌, Bool, true, false, true≢false, ℕ, inl, inr, List, [], ◌∷◌, refl, ap, sym, ◌∙◌, subst, Option, Some, None, arith}
use Rattle.atomic_table.specs.Table.{Me, rest}
use Rattle.esx_types.specs.declared.ids.Ids.{Ids}
use Rattle.esx_events.specs.declared.call.Line.{Line}
use Rattle.esx_types.specs.declared.level.Level.{Level}
use Rattle.esx_types.specs.declared.config.Config.{Config}
use Rattle.esx_lock.specs.declared.view.View.{View}
use Rattle.esx_lock.specs.Logs.{Follows}
use Rattle.esx_lock.specs.Words.{bits}
use Rattle.esx_lock.specs.Plays.{having_seen, having_read, having_exchanged, moving, holding, joined, Sees}
use Rattle.esx_lock.specs.Passes.{Took, Missed, FoundBusy, Learns, IsSame, Meet}
use Rattle.esx_lock.proofs.Logs.{follows_trans, follows_self}
use Rattle.esx_lock.proofs.Keeps.{joined_cases}

module _ {X : Type 0} where
  abbrev pub slot_or : Option X → List (ℕ × Option X) → Option X
  slot_or d [] = d
  slot_or d ((k, x) ∷ xs) = x

  abbrev pub some_or : X → Option X → X
  some_or d None = d
  some_or d (Some x) = x

  pub rest_one : (l l' : List (ℕ × Option X)) (a b : ℕ × Option X) → l ≡ a ∷ [] → l' ≡ b ∷ rest l → l' ≡ b ∷ []
  rest_one l l' a b e e' = e' ∙ ap (λ (m : List (ℕ × Option X)). b ∷ rest m) e

pub one_of : (a b : Bool) → (a || b) ≡ true → (a ≡ true) ⊎ (b ≡ true)
one_of true b e = inl refl
one_of false b e = inr e

pub of_left : (a b : Bool) → a ≡ true → (a || b) ≡ true
of_left a b e = ap (λ (c : Bool). c || b) e

-- what a join told, once the note was compared
pub met : (ids : Ids) (v u : View) → Follows (joined ids v u).callers (joined ids v u).note.ids (joined ids v u).note.seen (joined ids v u).seen → Meet v u (joined ids v u).seen
met ids v u = joined_cases ids v u (λ z. Follows z.callers z.note.ids z.note.seen z.seen → Meet v u z.seen)
    (λ _ f. (inr refl, f, follows_self v.callers u.ids u.seen))
    (λ _ f. (inl refl, follows_self v.callers v.ids v.seen, f))

module _ {X : Type 0} (site_of : X → Config) (lines : X → List Line) (legal : Config → List Line → Type 0) (gauge : Config → List Line → ℕ × Level) where
  pub took : (me₀ me₁ me₂ me₃ me₄ : Me (Option X) View) (log : List Line) (r again : ℕ) (x y : X) (result : Option X)
      → me₁ ≡ (having_read (having_seen me₀.0 log) r, me₀.1) → Sees site_of lines legal gauge me₀.0 log → again ≡ r
      → me₂ ≡ (moving (having_exchanged (having_seen me₁.0 (lines x)) again), (0, Some x) ∷ []) → site_of x ≡ me₁.0.site → again ≡ bits (gauge me₁.0.site (lines x)) → Sees site_of lines legal gauge me₁.0 (lines x)
      → me₂.1 ≡ (0, result) ∷ rest me₂.1 → me₃ ≡ (me₂.0, (0, None) ∷ rest me₂.1)
      → me₄ ≡ (holding me₃.0, []) → result ≡ Some y
      → Took legal gauge me₀.0 me₄.0 (site_of y) (lines y)
  took me₀ me₁ me₂ me₃ me₄ log r again x y result e₁ s₁ hit e₂ at word s₂ had e₃ e₄ is =
      let v : View = me₀.0 in
      let a : View = having_read (having_seen v log) r in
      let v₁ : me₁.0 ≡ a = ap (λ (m : Me (Option X) View). m.0) e₁ in
      let b : View = holding (moving (having_exchanged (having_seen a (lines x)) again)) in
      let v₄ : me₄.0 ≡ b = ap (λ (m : Me (Option X) View). m.0) e₄ ∙ ap holding (ap (λ (m : Me (Option X) View). m.0) e₃ ∙ (ap (λ (m : Me (Option X) View). m.0) e₂ ∙ ap (λ (z : View). moving (having_exchanged (having_seen z (lines x)) again)) v₁)) in
      let same : x ≡ y = ap (λ (l : List (ℕ × Option X)). some_or x (slot_or (Some x) l)) (sym (ap (λ (m : Me (Option X) View). m.1) e₂) ∙ had) ∙ ap (some_or x) is in
      let s₂' : Sees site_of lines legal gauge a (lines x) = subst (λ (z : View). Sees site_of lines legal gauge z (lines x)) v₁ s₂ in
      let there : site_of x ≡ v.site = at ∙ ap (λ (z : View). z.site) v₁ in
      let found : again ≡ bits (gauge (site_of x) (lines x)) = word ∙ ap (λ (z : Config). bits (gauge z (lines x))) (sym at) in
      subst (λ (z : X). Took legal gauge v me₄.0 (site_of z) (lines z)) same
      (subst (λ (z : View). Took legal gauge v z (site_of x) (lines x)) (sym v₄) record {
        same = (refl, refl, refl);
        held = refl;
        at_site = there;
        seen = refl;
        learnt = (follows_trans v.callers v.ids v.seen log (lines x) s₁.0 s₂'.0, s₂'.1);
        word = found;
        exchanged = refl;
      })

  -- what is known of a pass, from a view that it had before
  pub learns_on : (v u : View) (log : List Line) → IsSame v u → Follows v.callers v.ids v.seen u.seen → Learns legal u log → Learns legal v log
  learns_on v u log same f l = (follows_trans v.callers v.ids v.seen u.seen log f (subst (λ (z : ℕ × Ids). Follows z.0 z.1 u.seen log) (λ i. (same.2 i, same.1 i)) l.0), subst (λ (z : Config). legal z log) same.0 l.1)

  pub took_on : (v u w : View) (site : Config) (log : List Line) → IsSame v u → Follows v.callers v.ids v.seen u.seen → Took legal gauge u w site log → Took legal gauge v w site log
  took_on v u w site log same f t = record {
    same = (t.same.0 ∙ same.0, t.same.1 ∙ same.1, t.same.2 ∙ same.2);
    held = t.held;
    at_site = t.at_site ∙ same.0;
    seen = t.seen;
    learnt = learns_on v u log same f t.learnt;
    word = t.word;
    exchanged = t.exchanged;
  }

  pub missed_on : (v u w : View) (word : ℕ) → IsSame v u → Follows v.callers v.ids v.seen u.seen → Missed legal u w word → IsSame v w × Follows v.callers v.ids v.seen w.seen
  missed_on v u w word same f t = ((t.same.0 ∙ same.0, t.same.1 ∙ same.1, t.same.2 ∙ same.2), (learns_on v u w.seen same f t.learnt).0)

  -- a load that found an odd word
  pub found_held : (me₀ me₁ : Me (Option X) View) (log : List Line) (bit r : ℕ) → me₁ ≡ (having_read (having_seen me₀.0 log) r, me₀.1) → bit < 2 → r ≡ bits (gauge me₀.0.site log) + bit → r % 2 ≡ 1 → FoundBusy gauge me₁.0 r
  found_held me₀ me₁ log bit r e small word odd =
      let held : r ≡ bits (gauge me₀.0.site log) + 1 = omega (arith, odd) in
      subst (λ (v : View). FoundBusy gauge v r) (sym (ap (λ (m : Me (Option X) View). m.0) e)) ((λ _. held), (λ by. absurd (true≢false (sym by))))

  -- an exchange that found another word than the even one that was loaded
  pub found_other : (me₀ me₁ me₂ : Me (Option X) View) (log : List Line) (bit r again : ℕ) → me₁ ≡ (having_read (having_seen me₀.0 log) r, me₀.1) → bit < 2 → r ≡ bits (gauge me₀.0.site log) + bit → r % 2 ≢ 1
      → me₂ ≡ (having_exchanged me₁.0 again, me₁.1) → again ≢ r → FoundBusy gauge me₂.0 again
  found_other me₀ me₁ me₂ log bit r again e small word even e' other =
      let v : View = having_exchanged (having_read (having_seen me₀.0 log) r) again in
      let free : r ≡ bits (gauge me₀.0.site log) = omega (arith, even) in
      let view : me₂.0 ≡ v = ap (λ (m : Me (Option X) View). m.0) e' ∙ ap (λ (m : Me (Option X) View). having_exchanged m.0 again) e in
      subst (λ (w : View). FoundBusy gauge w again) (sym view) ((λ by. absurd (true≢false by)), (λ _ same. other (same ∙ sym free)))
