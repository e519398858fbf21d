-- Each step keeps the lock's rule.
use Rattle.std.proofs.Common.{◌≡◌, ◌≢◌, ◌⊎◌, ℕ, zero, suc, ◌+◌, ◌*◌, ◌%◌, ◌^◌, ◌<◌, ◌≤◌, eqb, ltb, cond, Bool, true, false, List, [], ◌∷◌, ◌++◌, length, get_or, set, refl, ap, sym, ◌∙◌, subst, ⊎_elim, arith, append_assoc, append-nil, add-zero, ltb-false, eq-eqb, ne_eqb, Option, Some, None}
use Rattle.std.proofs.lemmas.List.{set-get_or}
use Rattle.std.proofs.lemmas.Bool.{false_from_ne_true, cases_Bool, ltb-true}
use mathlib.Core.List.{IsPrefix}
use mathlib.Core.Option as optional
use mathlib.Core.Option.{some, none, some-injective, some-ne-none}
use mathlib.Core.Logic.{dite}
use native.Mathlib.Decide.{ℕ_discrete}
use lib.ListN.{get_elem?}
use prog.Atomic.{either}
use Rattle.atomic_table.specs.Table.{State, Me, keeps, takes, gives, step, stepped, homes_after, Allows, Splits, Joins, opening, Final, Seen, rest}
use Rattle.esx_types.specs.declared.ids.Ids.{Ids}
use Rattle.esx_events.specs.declared.call.Line.{Line}
use Rattle.esx_types.specs.declared.level.Level.{Level}
use Rattle.esx_types.specs.declared.config.Config.{Config}
use Rattle.esx_types.specs.Ids.{has, no_ids}
use Rattle.esx_types.proofs.Bits.{no_one}
use Rattle.esx_lock.specs.declared.view.Hold.{Hold}
use Rattle.esx_lock.specs.declared.view.Hold.TheVariants.{Free, Moving, Held}
use Rattle.esx_lock.specs.declared.view.View.{View}
use Rattle.esx_lock.specs.Logs.{OnlyOf, Follows}
use Rattle.esx_lock.specs.Words.{bits}
use Rattle.esx_lock.specs.Rule.{Where, home, with_seat, no_note, newcomer, spent, held_bit, homes_of, Fits, Roll, Holds, OthersFree, Stands, Kept}
use Rattle.esx_lock.specs.Plays.{having_seen, having_read, having_exchanged, moving, holding, released, compared, with_ids, joined, Sees, looked, taken, settled, fetched, gave, recalled}
use Rattle.esx_lock.proofs.Logs.{callers_append, callers_map, prefix_trans, prefix_of, follows_self, follows_more, follows_shorter, follows_either, follows_fewer, follows_whole}
use Rattle.atomic_table.proofs.Lists.{at_set, set_else}
use Rattle.esx_lock.proofs.Seats.{off, set_swap, roll_set, alone, roll_end, free_set, free_end, holds_other, holds_own, holds_end, holder_is}

-- a join, by which log is the longer
pub joined_cases : (all : Ids) (v u : View) (P : View → Type 0)
    → (length v.seen < length u.seen → P record { site = v.site; callers = v.callers; ids = all; seen = u.seen; last = v.last; by_exchange = v.by_exchange; hold = v.hold; note = record { ids = v.ids; seen = v.seen } })
    → (length u.seen ≤ length v.seen → P record { site = v.site; callers = v.callers; ids = all; seen = v.seen; last = v.last; by_exchange = v.by_exchange; hold = v.hold; note = record { ids = u.ids; seen = u.seen } })
    → P (joined all v u)
joined_cases all v u P shorter longer =
    let a : View = record { site = v.site; callers = v.callers; ids = all; seen = u.seen; last = v.last; by_exchange = v.by_exchange; hold = v.hold; note = record { ids = v.ids; seen = v.seen } } in
    let b : View = record { site = v.site; callers = v.callers; ids = all; seen = v.seen; last = v.last; by_exchange = v.by_exchange; hold = v.hold; note = record { ids = u.ids; seen = u.seen } } in ⊎_elim
    (λ (t : ltb (length v.seen) (length u.seen) ≡ true). subst (λ (c : Bool). P (cond c a b)) (sym t) (shorter (ltb-true (length v.seen) (length u.seen) t)))
    (λ (t : ltb (length v.seen) (length u.seen) ≡ false). subst (λ (c : Bool). P (cond c a b)) (sym t) (longer (ltb-false (length v.seen) (length u.seen) t)))
    (cases_Bool (ltb (length v.seen) (length u.seen)))

module _ {X : Type 0} (site_of : X → Config) (lines : X → List Line) (legal : Config → List Line → Type 0) (gauge : Config → List Line → ℕ × Level) (n : ℕ) (site : Config) (base : List Line) where
  abbrev St : Type 0
  St = State (Option X) View

  abbrev M : Type 0
  M = Me (Option X) View

  abbrev Rule : St → Type 0
  Rule = Kept site_of lines legal gauge n site base

  abbrev Standing : List Line → List View → Where X → Type 0
  Standing = Stands site_of lines legal gauge site

  -- a seat's view changes, which holds as much as before
  stands_same : (log : List Line) (views : List View) (at : Where X) (id k : ℕ) (v w : View) → get_elem? views id ≡ some v → w.hold ≡ v.hold → (v.seen ≡ log → w.seen ≡ log) → has w.ids k ≡ true → Standing log views at → Standing log (set views id w) at
  stands_same log views (home x) id k v w there hold seen own st = (st.0, st.1, free_set views id w (hold ∙ st.2 id v there) st.2)
  stands_same log views (with_seat p h) id k v w there hold seen own st = dite (ℕ_discrete id h)
      (λ e. let there' : get_elem? views h ≡ some v = subst (λ (z : ℕ). get_elem? views z ≡ some v) e there in let is = holder_is log p h views v there' st in
      subst (λ (z : ℕ). Holds log p h (set views z w)) (sym e) (holds_own log p views h v w k there' (hold ∙ is.0) st.not_free (seen is.1) own st.others))
      (λ ne. holds_other log p h views id w ne (hold ∙ st.others id v ne there) st)

  -- a seat that doesn't hold the lock changes
  stands_free : (log : List Line) (views : List View) (at : Where X) (id : ℕ) (v w : View) → get_elem? views id ≡ some v → v.hold ≡ Free → w.hold ≡ Free → Standing log views at → Standing log (set views id w) at
  stands_free log views (home x) id v w there was free st = (st.0, st.1, free_set views id w free st.2)
  stands_free log views (with_seat p h) id v w there was free st = dite (ℕ_discrete id h)
      (λ e. let is = holder_is log p h views v (subst (λ (z : ℕ). get_elem? views z ≡ some v) e there) st in absurd (st.not_free (sym is.0 ∙ was)))
      (λ ne. holds_other log p h views id w ne free st)

  stands_end : (log : List Line) (views : List View) (at : Where X) (w : View) → w.hold ≡ Free → Standing log views at → Standing log (views ++ w ∷ []) at
  stands_end log views (home x) w free st = (st.0, st.1, free_end views w free st.2)
  stands_end log views (with_seat p h) w free st = holds_end log p h views w free st

  -- where a seat holds the lock, it is the holder
  at_hand : (log : List Line) (views : List View) (at : Where X) (id : ℕ) (v : View) (p : Hold) → get_elem? views id ≡ some v → v.hold ≡ p → p ≢ Free → Standing log views at → (at ≡ with_seat p id) × OthersFree id views × (v.seen ≡ log)
  at_hand log views (home x) id v p there hold not st = absurd (not (sym hold ∙ st.2 id v there))
  at_hand log views (with_seat q h) id v p there hold not st = dite (ℕ_discrete id h)
      (λ e. let is = holder_is log q h views v (subst (λ (z : ℕ). get_elem? views z ≡ some v) e there) st in ((λ i. with_seat ((sym is.0 ∙ hold) i) (sym e i)), subst (λ (z : ℕ). OthersFree z views) (sym e) st.others, is.1))
      (λ ne. absurd (not (sym hold ∙ st.others id v ne there)))

  -- the word stays, and so does the log
  unmoved : (s : St) (r : Rule s) (at : Where X) (hs : List (optional.Option (Option X))) (views : List View) → held_bit at ≡ held_bit r.at → hs ≡ homes_of at → Standing r.log views at → Roll n site base r.log views
      → Rule record { words = set s.words 0 (get_or s.words 0 0); homes = hs; views = views }
  unmoved s r at hs views bit homes st roll = record {
    log = r.log;
    at = at;
    legal_log = r.legal_log;
    small = r.small;
    later = r.later;
    begins = r.begins;
    callers = r.callers;
    word = set-get_or s.words 0 0 ∙ (r.word ∙ ap (λ (b : ℕ). (bits (gauge site r.log) + b) ∷ []) (sym bit));
    homes = homes;
    stands = st;
    roll = roll;
  }

  -- what a seat knows that has seen the log
  up_to_date : (s : St) (r : Rule s) (v w : View) → Fits n site base r.log v → w.site ≡ v.site → w.callers ≡ v.callers → w.ids ≡ v.ids → w.seen ≡ r.log → w.note ≡ no_note w.seen → Fits n site base r.log w
  up_to_date s r v w f at told ids seen note = record {
    at_site = at ∙ f.at_site;
    told = told ∙ f.told;
    begins = subst (IsPrefix base) (sym seen) (prefix_trans base v.seen r.log f.begins (prefix_of n v.ids v.seen r.log f.follows));
    follows = subst (λ (l : List Line). Follows n w.ids l r.log) (sym seen) (follows_self n w.ids r.log);
    noted = subst (λ (z : _). Follows n z.ids z.seen w.seen) (sym note) (follows_self n no_ids w.seen);
    below = λ k own. f.below k (subst (λ (i : Ids). has i k ≡ true) ids own);
  }

  -- the same seat, where what it knows of the log stays
  same_fit : (log : List Line) (v w : View) → Fits n site base log v → w.site ≡ v.site → w.callers ≡ v.callers → w.ids ≡ v.ids → w.seen ≡ v.seen → Follows n w.note.ids w.note.seen w.seen → Fits n site base log w
  same_fit log v w f at told ids seen noted = record {
    at_site = at ∙ f.at_site;
    told = told ∙ f.told;
    begins = subst (IsPrefix base) (sym seen) f.begins;
    follows = subst (λ (z : Ids × List Line). Follows n z.0 z.1 log) (λ i. (sym ids i, sym seen i)) f.follows;
    noted = noted;
    below = λ k own. f.below k (subst (λ (i : Ids). has i k ≡ true) ids own);
  }

  -- one seat changes, and keeps its ids
  rolls : (log : List Line) (views : List View) (id : ℕ) (v w : View) → get_elem? views id ≡ some v → w.ids ≡ v.ids → ((k : ℕ) → has v.ids k ≡ true → Fits n site base log v → Fits n site base log w) → Roll n site base log views → Roll n site base log (set views id w)
  rolls log views id v w there ids fits roll =
      let back : (k : ℕ) → has w.ids k ≡ true → has v.ids k ≡ true = λ k own. subst (λ (i : Ids). has i k ≡ true) ids own in
      roll_set n site base log log views id w (λ k own. fits k (back k own) (roll.each id k v there (back k own)))
      (λ j k u ne e own own'. alone n site base log views id v there roll j k u ne e own (back k own'))
      (λ j k u ne e own f. f) roll

  sees : (s : St) (r : Rule s) (v : View) → Fits n site base r.log v → Sees site_of lines legal gauge v r.log
  sees s r v f = (subst (λ (c : ℕ). Follows c v.ids v.seen r.log) (sym f.told) f.follows, subst (λ (z : Config). legal z r.log) (sym f.at_site) r.legal_log)

  word_is : (s : St) (r : Rule s) → get_or s.words 0 0 ≡ bits (gauge site r.log) + held_bit r.at
  word_is s r = ap (λ (ws : List ℕ). get_or ws 0 0) r.word

  bit_below : (at : Where X) → held_bit at < 2
  bit_below (home x) = omega arith
  bit_below (with_seat p h) = omega arith

  pub looks : (slots id k : ℕ) (me : M) → has me.0.ids k ≡ true → Allows Rule slots id me 0 (λ x. x) (looked site_of lines legal gauge (step slots 0 0 0 none) me)
  looks slots id k me own s r wide there small =
      let found : ℕ = get_or s.words 0 0 in
      let w : View = having_read (having_seen me.0 r.log) found in
      let f = r.roll.each id k me.0 there own in (
        w,
        keeps,
        tt,
        unmoved s r r.at s.homes (set s.views id w) refl r.homes
            (stands_same r.log s.views r.at id k me.0 w there refl (λ _. refl) own r.stands)
            (rolls r.log s.views id me.0 w there refl (λ j o g. up_to_date s r me.0 w g refl refl refl refl refl) r.roll),
        (r.log, held_bit r.at, bit_below r.at, word_is s r ∙ ap (λ (z : Config). bits (gauge z r.log) + held_bit r.at) (sym f.at_site), subst (λ (z : Config). (gauge z r.log).0 < 2 ^ 32) (sym f.at_site) r.small, sees s r me.0 f, refl),
      )

  pub recalls : (slots id k : ℕ) (me : M) → has me.0.ids k ≡ true → Allows Rule slots id me 0 (λ x. x) (recalled site_of lines legal gauge (step slots 0 0 0 none) me)
  recalls slots id k me own s r wide there small =
      let w : View = compared me.0 in
      let f = r.roll.each id k me.0 there own in (
        w,
        keeps,
        tt,
        unmoved s r r.at s.homes (set s.views id w) refl r.homes
            (stands_same r.log s.views r.at id k me.0 w there refl (λ e. e) own r.stands)
            (rolls r.log s.views id me.0 w there refl (λ j o g. same_fit r.log me.0 w g refl refl refl refl (follows_self n no_ids me.0.seen)) r.roll),
        (refl, subst (λ (c : ℕ). Follows c me.0.note.ids me.0.note.seen me.0.seen) (sym f.told) f.noted),
      )

  free_at_home : (s : St) (r : Rule s) (at : Where X) → get_or s.words 0 0 ≡ bits (gauge site r.log) + held_bit at → get_or s.words 0 0 % 2 ≡ 0 → held_bit at ≡ 0
  free_at_home s r (home x) e even = refl
  free_at_home s r (with_seat p h) e even = let g = gauge site r.log in let a : ℕ = g.0 in let b : ℕ = Rattle.esx_lock.specs.Words.level_number g.1 in let e' : get_or s.words 0 0 ≡ 8 * a + 2 * b + 1 = e in absurd (omega arith)

  take_at : (s : St) (r : Rule s) (at : Where X) → held_bit at ≡ 0 → s.homes ≡ homes_of at → Standing r.log s.views at → (x : X) × (s.homes ≡ some (Some x) ∷ []) × (site_of x ≡ site) × (lines x ≡ r.log) × ((i : ℕ) (v : View) → get_elem? s.views i ≡ some v → v.hold ≡ Free)
  take_at s r (home x) z homes st = (x, homes, st.0, st.1, st.2)
  take_at s r (with_seat p h) z homes st = absurd (omega arith)

  not_free_moving : Moving ≢ Free
  not_free_moving e = cc

  not_free_held : Held ≢ Free
  not_free_held e = cc

  pub takes_it : (slots id k : ℕ) (me : M) (old new : ℕ) → has me.0.ids k ≡ true → me.1 ≡ [] → old % 2 ≡ 0 → new ≡ old + 1
      → Allows Rule slots id me 0 (λ x. either (eqb x old) new x) (taken site_of lines legal gauge (step slots 0 old new none) me)
  takes_it slots id k me old new own empty even up s r wide there small =
      let found : ℕ = get_or s.words 0 0 in let f = r.roll.each id k me.0 there own in dite (ℕ_discrete found old)
      (λ hit.
      let zero_bit : held_bit r.at ≡ 0 = free_at_home s r r.at (word_is s r) (ap (λ (z : ℕ). z % 2) hit ∙ even) in
      let t = take_at s r r.at zero_bit r.homes r.stands in
      let x : X = t.0 in
      let w : View = moving (having_exchanged (having_seen me.0 (lines x)) found) in
      let free_word : found ≡ bits (gauge site r.log) = word_is s r ∙ (ap (λ (z : ℕ). bits (gauge site r.log) + z) zero_bit ∙ add-zero _) in
      let word : new ≡ bits (gauge site r.log) + 1 = up ∙ ap (λ (z : ℕ). z + 1) (sym hit ∙ free_word) in (
        w,
        takes 0 (Some x),
        ap (λ (hs : _). get_elem? hs 0) t.1,
        subst (λ b. Rule (stepped s 0 (either b new found) id me.1 w (takes 0 (Some x)))) (sym (eq-eqb found old hit)) record {
          log = r.log;
          at = with_seat Moving id;
          legal_log = r.legal_log;
          small = r.small;
          later = r.later;
          begins = r.begins;
          callers = r.callers;
          word = ap (λ (ws : List ℕ). set ws 0 new) r.word ∙ ap (λ (z : ℕ). z ∷ []) word;
          homes = ap (λ (hs : _). set hs 0 none) t.1;
          stands = holds_own r.log Moving s.views id me.0 w k there refl not_free_moving t.3 own (λ i v _ e. t.4 i v e);
          roll = rolls r.log s.views id me.0 w there refl (λ j o g. up_to_date s r me.0 w g refl refl refl t.3 refl) r.roll;
        },
        ((λ _. (x, t.2 ∙ sym f.at_site, free_word ∙ (λ i. bits (gauge (sym f.at_site i) (sym t.3 i))), subst (Sees site_of lines legal gauge me.0) (sym t.3) (sees s r me.0 f), λ i. (w, (0, Some x) ∷ empty i))), λ miss. absurd (miss hit)),
      ))
      (λ miss. let w : View = having_exchanged me.0 found in (
        w,
        keeps,
        tt,
        subst (λ b. Rule (stepped s 0 (either b new found) id me.1 w keeps)) (sym (ne_eqb found old miss))
            (unmoved s r r.at s.homes (set s.views id w) refl r.homes
            (stands_same r.log s.views r.at id k me.0 w there refl (λ e. e) own r.stands)
            (rolls r.log s.views id me.0 w there refl (λ j o g. same_fit r.log me.0 w g refl refl refl refl g.noted) r.roll)),
        ((λ hit. absurd (miss hit)), λ _. refl),
      ))

  abbrev in_slot : X → List (ℕ × Option X) → X
  in_slot d [] = d
  in_slot d ((k, None) ∷ xs) = d
  in_slot d ((k, Some x) ∷ xs) = x

  pub settles : (slots id k : ℕ) (me : M) → has me.0.ids k ≡ true → me.0.hold ≡ Moving → me.1 ≡ (0, None) ∷ [] → Allows Rule slots id me 0 (λ x. x) (settled site_of lines legal gauge (step slots 0 0 0 none) me)
  settles slots id k me own hold carried s r wide there small =
      let w : View = holding me.0 in
      let h = at_hand r.log s.views r.at id me.0 Moving there hold not_free_moving r.stands in (
        w,
        gives,
        tt,
        unmoved s r (with_seat Held id) (homes_after s.homes me.1 gives) (set s.views id w) (ap held_bit (sym h.0))
            ((λ i. homes_after ((r.homes ∙ ap homes_of h.0) i) (carried i) gives))
            (holds_own r.log Held s.views id me.0 w k there refl not_free_held h.2 own h.1)
            (rolls r.log s.views id me.0 w there refl (λ j o g. same_fit r.log me.0 w g refl refl refl refl g.noted) r.roll),
        (λ i. (w, rest (carried i))),
      )

  pub fetches : (slots id k : ℕ) (me : M) → has me.0.ids k ≡ true → me.0.hold ≡ Held → me.1 ≡ [] → Allows Rule slots id me 0 (λ x. x) (fetched site_of lines legal gauge (step slots 0 0 0 none) me)
  fetches slots id k me own hold empty s r wide there small =
      let w : View = moving me.0 in
      let h = at_hand r.log s.views r.at id me.0 Held there hold not_free_held r.stands in
      let homes : s.homes ≡ some None ∷ [] = r.homes ∙ ap homes_of h.0 in (
        w,
        takes 0 None,
        ap (λ (hs : _). get_elem? hs 0) homes,
        unmoved s r (with_seat Moving id) (set s.homes 0 none) (set s.views id w) (ap held_bit (sym h.0))
            (ap (λ (hs : _). set hs 0 none) homes)
            (holds_own r.log Moving s.views id me.0 w k there refl not_free_moving h.2 own h.1)
            (rolls r.log s.views id me.0 w there refl (λ j o g. same_fit r.log me.0 w g refl refl refl refl g.noted) r.roll),
        (λ i. (w, (0, None) ∷ empty i)),
      )

  module _ (legal_value : (x : X) → legal (site_of x) (lines x)) where
    pub gives_it : (slots id k : ℕ) (me : M) (x : X) (new : List Line) (number : ℕ) → has me.0.ids k ≡ true → me.0.hold ≡ Moving → me.1 ≡ (0, Some x) ∷ []
        → site_of x ≡ me.0.site → me.0.seen ++ new ≡ lines x → OnlyOf me.0.ids new → number ≡ bits (gauge (site_of x) (lines x)) → (gauge (site_of x) (lines x)).0 < 2 ^ 32
        → Allows Rule slots id me 0 (λ _. number) (λ _. gave site_of lines legal gauge (step slots 0 number 0 none) me number)
    gives_it slots id k me x new number own hold carried at grows mine word low s r wide there small =
        let w : View = released (having_seen me.0 (lines x)) in
        let h = at_hand r.log s.views r.at id me.0 Moving there hold not_free_moving r.stands in
        let f = r.roll.each id k me.0 there own in
        let log' : List Line = lines x in
        let here : site_of x ≡ site = at ∙ f.at_site in
        let longer : r.log ++ new ≡ log' = ap (λ (l : List Line). l ++ new) (sym h.2) ∙ grows in
        let homes : s.homes ≡ none ∷ [] = r.homes ∙ ap homes_of h.0 in
        let others : (j i : ℕ) (u : View) → j ≢ id → get_elem? s.views j ≡ some u → has u.ids i ≡ true → Fits n site base r.log u → Fits n site base log' u =
        λ j i u ne e o g. record {
          at_site = g.at_site;
          told = g.told;
          begins = g.begins;
          follows = subst (Follows n u.ids u.seen) longer (follows_more n u.ids u.seen r.log new g.follows
              (callers_map (λ (c : ℕ). has me.0.ids c ≡ true) (λ (c : ℕ). (c < n) × (has u.ids c ≡ false)) (λ c m. (f.below c m, false_from_ne_true (has u.ids c) (λ b. alone n site base r.log s.views id me.0 there r.roll j c u ne e b m))) new mine));
          noted = g.noted;
          below = g.below;
        } in (
          w,
          gives,
          tt,
          record {
            log = log';
            at = home x;
            legal_log = subst (λ (z : Config). legal z log') here (legal_value x);
            small = subst (λ (z : Config). (gauge z log').0 < 2 ^ 32) here low;
            later = r.later ++ new;
            begins = sym (append_assoc base r.later new) ∙ (ap (λ (l : List Line). l ++ new) r.begins ∙ longer);
            callers = callers_append (λ (c : ℕ). c < n) r.later new r.callers (callers_map (λ (c : ℕ). has me.0.ids c ≡ true) (λ (c : ℕ). c < n) (λ c m. f.below c m) new mine);
            word = ap (λ (ws : List ℕ). set ws 0 number) r.word ∙ ap (λ (z : ℕ). z ∷ []) (word ∙ (ap (λ (z : Config). bits (gauge z log')) here ∙ sym (add-zero _)));
            homes = λ i. homes_after (homes i) (carried i) gives;
            stands = (
              here,
              refl,
              λ i u e. ⊎_elim
                  (λ (t : (i ≡ id) × (w ≡ u)). subst (λ (z : View). z.hold ≡ Free) t.1 refl)
                  (λ (t : (i ≢ id) × (get_elem? s.views i ≡ some u)). h.1 i u t.0 t.1)
                  (at_set s.views id i w u e),
            );
            roll = roll_set n site base r.log log' s.views id w
                (λ j o. record {
                  at_site = f.at_site;
                  told = f.told;
                  begins = prefix_trans base me.0.seen log' f.begins (new, grows);
                  follows = follows_self n me.0.ids log';
                  noted = follows_self n no_ids log';
                  below = f.below;
                })
                (λ j i u ne e o o'. alone n site base r.log s.views id me.0 there r.roll j i u ne e o o')
                others r.roll;
          },
          (λ y same. let one : x ≡ y = λ i. in_slot x ((sym carried ∙ same) i) in λ i. (released (having_seen me.0 (lines (one i))), rest (same i))),
        )

  pub splits : (id k : ℕ) (v : View) (kept given : Ids) → v.hold ≡ Free → ((c : ℕ) → has kept c ≡ true → has v.ids c ≡ true) → ((c : ℕ) → has given c ≡ true → has v.ids c ≡ true) → ((c : ℕ) → has kept c ≡ true → has given c ≡ true → ⊥)
      → Splits Rule id v (with_ids v kept) (with_ids v given)
  splits id k v kept given free left right apart s r there =
      let w : View = with_ids v kept in
      let u : View = with_ids v given in
      let fits : (ids : Ids) → ((c : ℕ) → has ids c ≡ true → has v.ids c ≡ true) → (c : ℕ) → has ids c ≡ true → Fits n site base r.log (with_ids v ids) =
      λ ids part c o. let f = r.roll.each id c v there (part c o) in record {
        at_site = f.at_site;
        told = f.told;
        begins = f.begins;
        follows = follows_fewer n v.ids ids v.seen r.log (λ b out. false_from_ne_true (has ids b) (λ t. off (has v.ids b) (part b t) out)) f.follows;
        noted = f.noted;
        below = λ b t. f.below b (part b t);
      } in
      let first : Roll n site base r.log (set s.views id w) = roll_set n site base r.log r.log s.views id w (fits kept left) (λ j c z ne e o o'. alone n site base r.log s.views id v there r.roll j c z ne e o (left c o')) (λ j c z ne e o g. g) r.roll in
      record {
        log = r.log;
        at = r.at;
        legal_log = r.legal_log;
        small = r.small;
        later = r.later;
        begins = r.begins;
        callers = r.callers;
        word = r.word;
        homes = r.homes;
        stands = stands_end r.log (set s.views id w) r.at u free (stands_free r.log s.views r.at id v w there free free r.stands);
        roll = roll_end n site base r.log (set s.views id w) u (fits given right)
            (λ j c z e o o'. ⊎_elim
            (λ (t : (j ≡ id) × (w ≡ z)). apart c (subst (λ (y : View). has y.ids c ≡ true) (sym t.1) o) o')
            (λ (t : (j ≢ id) × (get_elem? s.views j ≡ some z)). alone n site base r.log s.views id v there r.roll j c z t.0 t.1 o (right c o'))
            (at_set s.views id j w z e))
            first;
      }

  pub joins : (id : ℕ) (v : View) (other : ℕ) (u : View) (all : Ids) → v.hold ≡ Free → u.hold ≡ Free → ((c : ℕ) × (has v.ids c ≡ true)) → ((c : ℕ) × (has u.ids c ≡ true))
      → ((c : ℕ) → has all c ≡ true → (has v.ids c ≡ true) ⊎ (has u.ids c ≡ true)) → Joins Rule id v other u (joined all v u) spent
  joins id v other u all free free' some_id some_id' union s r there ne there' =
      let w : View = joined all v u in
      let there_u : get_elem? s.views other ≡ some u = ⊎_elim (λ (t : (other ≡ id) × (w ≡ u)). absurd (ne t.0)) (λ (t : (other ≢ id) × (get_elem? s.views other ≡ some u)). t.1) (at_set s.views id other w u there') in
      let f = r.roll.each id some_id.0 v there some_id.1 in
      let g = r.roll.each other some_id'.0 u there_u some_id'.1 in
      let out : (c : ℕ) → has v.ids c ≡ false → has u.ids c ≡ false → has all c ≡ false = λ c a b. false_from_ne_true (has all c) (λ t. ⊎_elim (λ (o : has v.ids c ≡ true). off (has v.ids c) o a) (λ (o : has u.ids c ≡ true). off (has u.ids c) o b) (union c t)) in
      let below : (c : ℕ) → has all c ≡ true → c < n = λ c t. ⊎_elim (λ (o : has v.ids c ≡ true). f.below c o) (λ (o : has u.ids c ≡ true). g.below c o) (union c t) in
      let hold : w.hold ≡ Free = joined_cases all v u (λ z. z.hold ≡ Free) (λ _. free) (λ _. free) in
      let ids : w.ids ≡ all = joined_cases all v u (λ z. z.ids ≡ all) (λ _. refl) (λ _. refl) in
      let fits : Fits n site base r.log w = joined_cases all v u (Fits n site base r.log)
      (λ lt. record {
        at_site = f.at_site;
        told = f.told;
        begins = g.begins;
        follows = follows_either n v.ids u.ids all v.seen u.seen r.log f.follows g.follows (omega (arith, lt)) out;
        noted = follows_shorter n v.ids u.ids v.seen u.seen r.log f.follows g.follows (omega (arith, lt));
        below = below;
      })
      (λ ge. record {
        at_site = f.at_site;
        told = f.told;
        begins = f.begins;
        follows = follows_either n u.ids v.ids all u.seen v.seen r.log g.follows f.follows ge (λ c a b. out c b a);
        noted = follows_shorter n u.ids v.ids u.seen v.seen r.log g.follows f.follows ge;
        below = below;
      }) in
      let without : List View = set s.views other spent in
      let there_v : get_elem? without id ≡ some v = set_else s.views other id spent (λ e. ne (sym e)) ∙ there in
      let first : Roll n site base r.log without = roll_set n site base r.log r.log s.views other spent (λ c o. absurd (off (has no_ids c) o (no_one c))) (λ j c z _ e o o'. absurd (off (has no_ids c) o' (no_one c))) (λ j c z _ e o h. h) r.roll in
      let second : Roll n site base r.log (set without id w) = roll_set n site base r.log r.log without id w (λ c o. fits)
      (λ j c z apart e o o'. ⊎_elim
      (λ (t : (j ≡ other) × (spent ≡ z)). off (has no_ids c) (subst (λ (y : View). has y.ids c ≡ true) (sym t.1) o) (no_one c))
      (λ (t : (j ≢ other) × (get_elem? s.views j ≡ some z)). ⊎_elim
      (λ (m : has v.ids c ≡ true). alone n site base r.log s.views id v there r.roll j c z apart t.1 o m)
      (λ (m : has u.ids c ≡ true). alone n site base r.log s.views other u there_u r.roll j c z t.0 t.1 o m)
      (union c (subst (λ (i : Ids). has i c ≡ true) ids o')))
      (at_set s.views other j spent z e))
      (λ j c z _ e o h. h) first in
      let same : set without id w ≡ set (set s.views id w) other spent = set_swap s.views other id spent w ne in
      record {
        log = r.log;
        at = r.at;
        legal_log = r.legal_log;
        small = r.small;
        later = r.later;
        begins = r.begins;
        callers = r.callers;
        word = r.word;
        homes = r.homes;
        stands = subst (λ (vs : List View). Standing r.log vs r.at) same (stands_free r.log without r.at id v w there_v free hold (stands_free r.log s.views r.at other u spent there_u free' refl r.stands));
        roll = subst (Roll n site base r.log) same second;
      }

  pub opens : (x : X) (ids : Ids) (w : ℕ) → w ≡ bits (gauge (site_of x) (lines x)) → (gauge (site_of x) (lines x)).0 < 2 ^ 32 → site_of x ≡ site → lines x ≡ base → legal site base → ((c : ℕ) → has ids c ≡ true → c < n) → Rule (opening (w ∷ []) (Some x ∷ []) (newcomer n site ids base))
  opens x ids w word low at start ok below = record {
    log = base;
    at = home x;
    legal_log = ok;
    small = subst (λ (z : Config × List Line). (gauge z.0 z.1).0 < 2 ^ 32) (λ i. (at i, start i)) low;
    later = [];
    begins = append-nil base;
    callers = tt;
    word = ap (λ (z : ℕ). z ∷ []) (word ∙ (ap (λ (z : Config × List Line). bits (gauge z.0 z.1)) (λ i. (at i, start i)) ∙ sym (add-zero _)));
    homes = refl;
    stands = (at, start, λ i v e. subst (λ (z : View). z.hold ≡ Free) (first_is i v e).1 refl);
    roll = record {
      each = λ i k v e own. subst (Fits n site base base) (first_is i v e).1 record {
        at_site = refl;
        told = refl;
        begins = ([], append-nil base);
        follows = follows_self n ids base;
        noted = follows_self n no_ids base;
        below = below;
      };
      apart = λ i j k v u e e' _ _. (first_is i v e).0 ∙ sym (first_is j u e').0;
    };
  }
    where
      first_is : (i : ℕ) (v : View) → get_elem? (newcomer n site ids base ∷ []) i ≡ some v → (i ≡ 0) × (newcomer n site ids base ≡ v)
      first_is zero v e = (refl, some-injective _ _ e)
      first_is (suc i) v e = absurd (some-ne-none v (sym e))

  -- where a seat has all ids and doesn't hold the lock, the value is at home, and its log is what the seat has seen
  closes_at : (id : ℕ) (v : View) (s : St) (r : Rule s) (at : Where X) → v.hold ≡ Free → ((c : ℕ) → c < n → has v.ids c ≡ true) → 0 < n → get_elem? s.views id ≡ some v → s.homes ≡ homes_of at → Standing r.log s.views at
      → (x : X) × (s.homes ≡ some (Some x) ∷ []) × (lines x ≡ r.log) × (site_of x ≡ site)
  closes_at id v s r (home x) free all positive there homes st = (x, homes, st.1, st.0)
  closes_at id v s r (with_seat p h) free all positive there homes st =
      let g = r.roll.each h st.id st.view st.there st.own in
      let same : id ≡ h = r.roll.apart id h st.id v st.view there st.there (all st.id (g.below st.id st.own)) st.own in
      let is = holder_is r.log p h s.views v (subst (λ (z : ℕ). get_elem? s.views z ≡ some v) same there) st in
      absurd (st.not_free (sym is.0 ∙ free))

  pub closes : (id : ℕ) (v : View) (ws : List ℕ) (xs : List (Option X)) → v.hold ≡ Free → ((c : ℕ) → c < n → has v.ids c ≡ true) → 0 < n → Final (Seen Rule id v) ws xs
      → (x : X) × (get_elem? xs 0 ≡ some (Some x)) × (lines x ≡ v.seen) × (site_of x ≡ v.site)
  closes id v ws xs free all positive final =
      let s = final.0 in
      let r = final.1.0 in
      let there = final.1.1 in
      let c = closes_at id v s r r.at free all positive there r.homes r.stands in
      let f = r.roll.each id 0 v there (all 0 positive) in
      let whole : v.seen ≡ r.log = sym (follows_whole n v.ids v.seen r.log all f.follows) in
      (c.0, final.4 0 (Some c.0) (ap (λ (hs : _). get_elem? hs 0) c.1), c.2 ∙ sym whole, c.3 ∙ sym f.at_site)
