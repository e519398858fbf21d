-- What events do to the bytes of a memory, beside the bytes that a trace alone leaves.
use Rattle.std.proofs.Common.{◌≡◌, ◌≢◌, ℕ, zero, suc, ◌+◌, ◌≤◌, ◌<◌, Bool, true, false, ◌&&◌, ◌==◌, List, [], ◌∷◌, ◌++◌, length, get_or, set, drop, refl, sym, ap, ◌∙◌, subst, arith, cond, Some, None, ◌⊎◌, inl, inr, append-nil}
use Rattle.std.proofs.lemmas.List.{length-set, get_or-set_same, get_or-set_other}
use Rattle.std.proofs.Math.ListN.{drop_of_length-le}
use Rattle.std.proofs.lemmas.Bool.{cases_eq, false≢true}
use Rattle.std.proofs.lemmas.Bool.Decides.{nat_tests}
use Rattle.std.proofs.lemmas.Grind.{common_steps}
use Rattle.esx_types.specs.declared.config.Config.{Config}
use Rattle.esx_events.specs.declared.event.Event.{Event}
use Rattle.esx_events.specs.declared.event.Event.TheVariants.{Read, Write}
use Rattle.esx_model.specs.Places.{zeros}
use Rattle.esx_model.specs.event.Access.{overwritten}
use Rattle.esx_model.specs.Alone.{Contents, with_bytes, is_written_first}
use Rattle.esx_model.proofs.Callers.{chosen}
use Rattle.esx_model.specs.Memory.{Cell, Memory, bytes_at, blank, with_cell, touched, written, unless_reset, given_up}
use Rattle.esx_isolation.proofs.guest.Up.{WasLent}

-- the same bytes, and as many pages
pub record Alike (c : Config) (x y : Memory) : Type 0 where
  pub state : y.state ≡ x.state
  pub size : length y.pages ≡ length x.pages
  pub bytes : (q : ℕ) → bytes_at c y q ≡ bytes_at c x q

pub alike_self : (c : Config) (x : Memory) → Alike c x x
alike_self c x = record { state = refl; size = refl; bytes = λ q. refl }

cells_alike : (cells : List Cell) (page q : ℕ) (new d : Cell) → new.bytes ≡ (get_or cells page d).bytes → (get_or (set cells page new) q d).bytes ≡ (get_or cells q d).bytes
cells_alike [] page q new d h = refl
cells_alike (x ∷ xs) zero zero new d h = h
cells_alike (x ∷ xs) zero (suc q) new d h = refl
cells_alike (x ∷ xs) (suc page) zero new d h = refl
cells_alike (x ∷ xs) (suc page) (suc q) new d h = cells_alike xs page q new d h

pub touched_alike : (c : Config) (page : ℕ) (x : Memory) → Alike c x (touched c page x)
touched_alike c page x =
    let new : Cell = record { bytes = bytes_at c x page; lent = None } in
    record { state = refl; size = length-set x.pages page new; bytes = λ q. cells_alike x.pages page q new (blank c) refl }

pub reset_alike : (c : Config) (x : Memory) (f : Memory → Memory) → (x.due ≡ false → Alike c x (f x)) → Alike c x (unless_reset f x)
reset_alike c x f rest = of x.due refl
  where
    of : (b : Bool) → x.due ≡ b → Alike c x (cond b (record x { epoch = x.epoch + 1; due = false }) (f x))
    of true e = record { state = refl; size = refl; bytes = λ q. refl }
    of false e = rest e

pub back_alike : (c : Config) (page : ℕ) (x : Memory) → WasLent c x page → Alike c x (unless_reset (with_cell page (blank c)) x)
back_alike c page x (inl due) = reset_alike c x (with_cell page (blank c)) (λ e. (let no = sym due ∙ e in cc))
back_alike c page x (inr none) = reset_alike c x (with_cell page (blank c)) (λ e. record {
  state = refl;
  size = length-set x.pages page (blank c);
  bytes = λ q. cells_alike x.pages page q (blank c) (blank c) (sym none);
})

-- a page is given up, and no other page has other bytes
pub record GaveUp (c : Config) (page : ℕ) (x y : Memory) : Type 0 where
  pub state : y.state ≡ x.state
  pub size : length y.pages ≡ length x.pages
  pub bytes : (q : ℕ) → q ≢ page → bytes_at c y q ≡ bytes_at c x q

pub lend_gives : (c : Config) (page : ℕ) (x : Memory) → GaveUp c page x (unless_reset (given_up c page) x)
lend_gives c page x = of x.due
  where
    of : (b : Bool) → GaveUp c page x (cond b (record x { epoch = x.epoch + 1; due = false }) (given_up c page x))
    of true = record { state = refl; size = refl; bytes = λ q other. refl }
    of false =
        let new : Cell = record { bytes = zeros c; lent = Some x.epoch } in
        record { state = refl; size = length-set x.pages page new; bytes = λ q other. ap (λ (k : Cell). k.bytes) (get_or-set_other x.pages page q new (blank c) other) }

-- Beside the bytes that a trace leaves alone.

-- each page has the bytes that it would have alone, or is written whole before it is read
pub record Agrees (c : Config) (x : Memory) (m : Contents) (left : List Event) : Type 0 where
  pub bytes : (q : ℕ) → (bytes_at c x q ≡ m q) ⊎ (is_written_first c q left ≡ true)
  pub whole : (q : ℕ) → length (m q) ≡ c.page

pub agrees_alike : (c : Config) (x y : Memory) (m : Contents) (left : List Event) → Alike c x y → Agrees c x m left → Agrees c y m left
agrees_alike c x y m left same a = record {
  bytes = λ q. elim (a.bytes q) [
    | inl e ↦ inl (same.bytes q ∙ e)
    | inr w ↦ inr w
  ];
  whole = a.whole;
}

same_page : (q : ℕ) → (q == q) ≡ true
same_page q = grind (arith, nat_tests)

other_page : (p q : ℕ) → q ≢ p → (p == q) ≡ false
other_page p q h = grind (arith, nat_tests)

-- a page that is read next has them
pub agrees_read : (c : Config) (x : Memory) (m : Contents) (n page at len : ℕ) (left : List Event) → Agrees c x m (Read n page at len ∷ left) → bytes_at c x page ≡ m page
unfolding is_written_first
agrees_read c x m n page at len left a = elim (a.bytes page) [
  | inl e ↦ e
  | inr w ↦ absurd (false≢true (ap (λ b. cond b false (is_written_first c page left)) (sym (same_page page)) ∙ w))
]

pub after_read : (c : Config) (x : Memory) (m : Contents) (n page at len : ℕ) (left : List Event) → Agrees c x m (Read n page at len ∷ left) → Agrees c x m left
unfolding is_written_first
after_read c x m n page at len left a = record {
  bytes = λ q. elim (a.bytes q) [
    | inl e ↦ inl e
    | inr w ↦ elim (chosen (page == q) false (is_written_first c q left) true w) [
      | inl k ↦ absurd (false≢true k.1)
      | inr k ↦ inr k.1
    ]
  ];
  whole = a.whole;
}

-- an event of a trace that is no access
pub after_other : (c : Config) (x : Memory) (m : Contents) (e : Event) (left : List Event) → ((q : ℕ) → is_written_first c q (e ∷ left) ≡ is_written_first c q left) → Agrees c x m (e ∷ left) → Agrees c x m left
after_other c x m e left same a = record {
  bytes = λ q. elim (a.bytes q) [
    | inl k ↦ inl k
    | inr w ↦ inr (sym (same q) ∙ w)
  ];
  whole = a.whole;
}

-- a page is given up that is written whole before it is read
pub after_lend : (c : Config) (x y : Memory) (m : Contents) (page : ℕ) (left : List Event) → GaveUp c page x y → is_written_first c page left ≡ true → Agrees c x m left → Agrees c y m left
after_lend c x y m page left gave first a = record {
  bytes = λ q. elim (cases_eq q page) [
    | inl e ↦ inr (ap (λ k. is_written_first c k left) e ∙ first)
    | inr other ↦ elim (a.bytes q) [
      | inl k ↦ inl (gave.bytes q other ∙ k)
      | inr w ↦ inr w
    ]
  ];
  whole = a.whole;
}

written_length : (old : List ℕ) (at : ℕ) (new : List ℕ) (page : ℕ) → length old ≡ page → at + length new ≤ page → length (overwritten old at new) ≡ page
written_length old at new page h fits = grind (arith, common_steps)

all_new : (old : List ℕ) (new : List ℕ) (page : ℕ) → length old ≡ page → length new ≡ page → overwritten old 0 new ≡ new
all_new old new page h fits =
    let none : drop (0 + length new) old ≡ [] = drop_of_length-le old (omega arith) in
    ap (λ xs. new ++ xs) none ∙ append-nil new

whole_write : (old other : List ℕ) (at : ℕ) (new : List ℕ) (page : ℕ) → length old ≡ page → length other ≡ page → ((at == 0) && (length new == page)) ≡ true → overwritten old at new ≡ overwritten other at new
whole_write old other at new page h k test =
    let start : at ≡ 0 = grind (arith, nat_tests) in
    let long : length new ≡ page = grind (arith, nat_tests) in
    ap (λ i. overwritten old i new) start ∙ all_new old new page h long ∙ sym (ap (λ i. overwritten other i new) start ∙ all_new other new page k long)

pub written_bytes : (c : Config) (page at : ℕ) (new : List ℕ) (x : Memory) → page < length x.pages → bytes_at c (written c page at new x) page ≡ overwritten (bytes_at c x page) at new
written_bytes c page at new x below = ap (λ (k : Cell). k.bytes) (get_or-set_same x.pages page (record { bytes = overwritten (bytes_at c x page) at new; lent = None }) (blank c) below)

pub after_write : (c : Config) (x : Memory) (m : Contents) (n page at : ℕ) (new : List ℕ) (left : List Event) → page < length x.pages → at + length new ≤ c.page → length (bytes_at c x page) ≡ c.page
    → Agrees c x m (Write n page at new ∷ left) → Agrees c (written c page at new x) (with_bytes m page (overwritten (m page) at new)) left
unfolding is_written_first
after_write c x m n page at new left below fits long a = record {
  bytes = λ q. elim (cases_eq q page) [
    | inl e ↦ (let P : ℕ → Type 0 = λ k. (bytes_at c (written c page at new x) k ≡ with_bytes m page (overwritten (m page) at new) k) ⊎ (is_written_first c k left ≡ true) in subst P (sym e) here)
    | inr other ↦ elim (a.bytes q) [
      | inl k ↦ inl (ap (λ (j : Cell). j.bytes) (get_or-set_other x.pages page q (record { bytes = overwritten (bytes_at c x page) at new; lent = None }) (blank c) other) ∙ k
          ∙ sym (ap (λ b. cond b (overwritten (m page) at new) (m q)) (other_page q page (λ d. other (sym d)))))
      | inr w ↦ inr (sym (ap (λ b. cond b (cond ((at == 0) && (length new == c.page)) true (is_written_first c q left)) (is_written_first c q left)) (other_page page q other)) ∙ w)
    ]
  ];
  whole = λ q. of q (q == page);
}
  where
    new_bytes : List ℕ
    new_bytes = overwritten (m page) at new

    at_page : with_bytes m page (overwritten (m page) at new) page ≡ overwritten (m page) at new
    at_page = ap (λ b. cond b (overwritten (m page) at new) (m page)) (same_page page)

    of : (q : ℕ) (b : Bool) → length (cond b (overwritten (m page) at new) (m q)) ≡ c.page
    of q true = written_length (m page) at new c.page (a.whole page) fits
    of q false = a.whole q

    by_test : (b : Bool) → ((at == 0) && (length new == c.page)) ≡ b → cond b true (is_written_first c page left) ≡ true
        → (bytes_at c (written c page at new x) page ≡ with_bytes m page (overwritten (m page) at new) page) ⊎ (is_written_first c page left ≡ true)
    by_test true e w = inl (written_bytes c page at new x below ∙ whole_write (bytes_at c x page) (m page) at new c.page long (a.whole page) e ∙ sym at_page)
    by_test false e w = inr w

    here : (bytes_at c (written c page at new x) page ≡ with_bytes m page (overwritten (m page) at new) page) ⊎ (is_written_first c page left ≡ true)
    here = elim (a.bytes page) [
      | inl e ↦ inl (written_bytes c page at new x below ∙ ap (λ xs. overwritten xs at new) e ∙ sym at_page)
      | inr w ↦ by_test ((at == 0) && (length new == c.page)) refl
          (sym (ap (λ b. cond b (cond ((at == 0) && (length new == c.page)) true (is_written_first c page left)) (is_written_first c page left)) (same_page page)) ∙ w)
    ]

pub written_size : (c : Config) (page at : ℕ) (new : List ℕ) (x : Memory) → length (written c page at new x).pages ≡ length x.pages
written_size c page at new x = length-set x.pages page (record { bytes = overwritten (bytes_at c x page) at new; lent = None })
