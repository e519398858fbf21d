-- What stands at each number after one more event.
use Rattle.std.proofs.Common.{zero, suc, ◌≡◌, ℕ, ◌+◌, ◌<◌, ◌==◌, Bool, true, false, cond, List, [], ◌∷◌, length, get_or, set, take, refl, sym, ap, ◌∙◌, subst, arith, Option, Some, None, inl, inr}
use Rattle.std.proofs.lemmas.Bool.{cases_eq, cases_lt}
use Rattle.std.proofs.lemmas.List.{length-set, get_or-set_same, get_or-set_other, get_or_past}
use Rattle.esx_events.specs.declared.event.Event.{Event}
use Rattle.esx_events.specs.declared.event.Event.TheVariants.{Admit, Read, Write}
use Rattle.esx_model.proofs.Callers.{eqb_same, eqb_other}
use Rattle.esx_story.specs.declared.change.Change.{Change}
use Rattle.esx_story.specs.declared.change.Counts.{Counts}
use Rattle.esx_story.specs.Counts.{with_change, counted, admits}
use Rattle.esx_sums.specs.declared.present.Present.{Present}
use Rattle.esx_sums.specs.declared.sums.Changes.{Changes}
use Rattle.esx_sums.specs.declared.tally.Accesses.{Accesses}
use Rattle.esx_sums.specs.declared.tally.Moves.{Moves}
use Rattle.esx_sums.specs.declared.tally.Tally.{Tally}
use Rattle.esx_sums.specs.Sums.{blank, tally_in, with_access, with_move, accessed_in, counted_in, moved_in, hosted_in, stayed, stood_at, stood_in, begun_in, tallied}
use Rattle.esx_sums.proofs.Pushed.{accessed, moved, hosted, after}

-- within a list it does not matter what stands for what is past it
pub same_or : {X : Type 0} (xs : List X) (i : ℕ) (d e : X) → i < length xs → get_or xs i d ≡ get_or xs i e
same_or [] i d e below = absurd (omega (arith, below))
same_or (x ∷ xs) zero d e below = refl
same_or (x ∷ xs) (suc i) d e below = same_or xs i d e (omega (arith, below))

-- one of them changed
pub at_read : (f : Tally → Tally) (now : List Tally) (m n : ℕ) → n < length now → tally_in (set now m (f (tally_in now m))) n ≡ cond (m == n) (f (tally_in now n)) (tally_in now n)
at_read f now m n below = elim (cases_eq n m) [
  | inl e ↦ (let P : ℕ → Type 0 = λ k. tally_in (set now k (f (tally_in now k))) n ≡ cond (k == n) (f (tally_in now n)) (tally_in now n) in
      subst P e (get_or-set_same now n (f (tally_in now n)) (blank 0) below ∙ ap (λ b. cond b (f (tally_in now n)) (tally_in now n)) (sym (eqb_same n))))
  | inr other ↦ get_or-set_other now m n (f (tally_in now m)) (blank 0) other ∙ ap (λ b. cond b (f (tally_in now n)) (tally_in now n)) (sym (eqb_other m n other))
]

pub put_accesses : (b : Bool) (t : Tally) (a : Accesses) → cond b (record t { accesses = a }) t ≡ record t { accesses = cond b a t.accesses }
put_accesses true t a = refl
put_accesses false t a = refl

put_counts : (b : Bool) (t : Tally) (k : Counts) → cond b (record t { counts = k }) t ≡ record t { counts = cond b k t.counts }
put_counts true t k = refl
put_counts false t k = refl

put_moves : (b : Bool) (t : Tally) (k : Moves) → cond b (record t { moves = k }) t ≡ record t { moves = cond b k t.moves }
put_moves true t k = refl
put_moves false t k = refl

read_begun : (now : List Tally) (e : Event) (n : ℕ) → n < length now → tally_in (begun_in now e) n ≡ cond (admits n e) (blank ((tally_in now n).life + 1)) (tally_in now n)
read_begun now (Admit m spec) n below = at_read (λ (t : Tally). blank (t.life + 1)) now m n below
read_begun now _ n below = refl

read_accessed : (now : List Tally) (e : Event) (n : ℕ) → n < length now → tally_in (accessed_in now e) n ≡ record (tally_in now n) { accesses = accessed n e (tally_in now n).accesses }
read_accessed now (Read m page at len) n below =
    at_read (λ (t : Tally). record t { accesses = with_access t.accesses (Read m page at len) }) now m n below
    ∙ put_accesses (m == n) (tally_in now n) (with_access (tally_in now n).accesses (Read m page at len))
read_accessed now (Write m page at new) n below =
    at_read (λ (t : Tally). record t { accesses = with_access t.accesses (Write m page at new) }) now m n below
    ∙ put_accesses (m == n) (tally_in now n) (with_access (tally_in now n).accesses (Write m page at new))
read_accessed now _ n below = refl

read_counted : (now : List Tally) (o : Option Change) (n : ℕ) → n < length now → tally_in (counted_in now o) n ≡ record (tally_in now n) { counts = counted n o (tally_in now n).counts }
read_counted now None n below = refl
read_counted now (Some y) n below =
    at_read (λ (t : Tally). record t { counts = with_change t.counts y.how }) now y.vm n below ∙ put_counts (y.vm == n) (tally_in now n) (with_change (tally_in now n).counts y.how)

read_moved : (now : List Tally) (o : Option Change) (n : ℕ) → n < length now → tally_in (moved_in now o) n ≡ record (tally_in now n) { moves = moved n o (tally_in now n).moves }
read_moved now None n below = refl
read_moved now (Some y) n below =
    at_read (λ (t : Tally). record t { moves = with_move t.moves y.how }) now y.vm n below ∙ put_moves (y.vm == n) (tally_in now n) (with_move (tally_in now n).moves y.how)

read_hosted : (now : List Tally) (o : Option ℕ) (n : ℕ) → n < length now → tally_in (hosted_in now o) n ≡ record (tally_in now n) { moves = hosted n o (tally_in now n).moves }
read_hosted now None n below = refl
read_hosted now (Some m) n below =
    at_read (λ (t : Tally). record t { moves = record t.moves { host = t.moves.host + 1 } }) now m n below
    ∙ put_moves (m == n) (tally_in now n) (record (tally_in now n).moves { host = (tally_in now n).moves.host + 1 })

read_stood : (now : List Tally) (present : List (Option Present)) (n : ℕ) → n < length now → tally_in (stood_in now present) n ≡ stayed (tally_in now n) (get_or present n None)
read_stood [] present n below = absurd (omega (arith, below))
read_stood (t ∷ now) [] zero below = refl
read_stood (t ∷ now) [] (suc n) below = refl
read_stood (t ∷ now) (o ∷ present) zero below = refl
read_stood (t ∷ now) (o ∷ present) (suc n) below = read_stood now present n (omega (arith, below))

stood_long : (now : List Tally) (present : List (Option Present)) → length (stood_in now present) ≡ length now
stood_long [] present = refl
stood_long (t ∷ now) [] = refl
stood_long (t ∷ now) (o ∷ present) = ap suc (stood_long now present)

pub stood_none : (now : List Tally) → stood_in now [] ≡ now
stood_none [] = refl
stood_none (t ∷ now) = refl

-- one after another
stood_later : (t : Tally) (now : List Tally) (n : ℕ) (o : Option Present) → stood_at (t ∷ now) (suc n) o ≡ t ∷ stood_at now n o
stood_later t now n None = refl
stood_later t now n (Some p) = refl

stood_first : (t : Tally) (now : List Tally) (o : Option Present) → stayed t o ∷ now ≡ stood_at (t ∷ now) zero o
stood_first t now None = refl
stood_first t now (Some p) = refl

stood_nobody : (n : ℕ) (o : Option Present) → [] ≡ stood_at [] n o
stood_nobody n None = refl
stood_nobody n (Some p) = refl

stood_suc : (now : List Tally) (present : List (Option Present)) (n : ℕ) → n < length present → stood_in now (take (suc n) present) ≡ stood_at (stood_in now (take n present)) n (get_or present n None)
stood_suc now [] n below = absurd (omega (arith, below))
stood_suc [] (o ∷ present) zero below = stood_nobody zero o
stood_suc [] (o ∷ present) (suc n) below = stood_nobody (suc n) (get_or present n None)
stood_suc (t ∷ now) (o ∷ present) zero below = ap (λ ts. stayed t o ∷ ts) (stood_none now) ∙ stood_first t now o
stood_suc (t ∷ now) (o ∷ present) (suc n) below =
    ap (λ ts. stayed t o ∷ ts) (stood_suc now present n (omega (arith, below))) ∙ sym (stood_later (stayed t o) (stood_in now (take n present)) n (get_or present n None))

pub stood_next : (now : List Tally) (present : List (Option Present)) (n : ℕ) → n < length present → stood_in now (take (n + 1) present) ≡ stood_at (stood_in now (take n present)) n (get_or present n None)
stood_next now present n below = ap (λ k. stood_in now (take k present)) (let e : n + 1 ≡ suc n = omega arith in e) ∙ stood_suc now present n below

none_past : (present : List (Option Present)) (n : ℕ) → get_or (take n present) n None ≡ None
none_past [] zero = refl
none_past [] (suc n) = refl
none_past (o ∷ present) zero = refl
none_past (o ∷ present) (suc n) = none_past present n

-- those to come are as they were
pub stood_front : (now : List Tally) (present : List (Option Present)) (n : ℕ) → tally_in (stood_in now (take n present)) n ≡ tally_in now n
stood_front now present n = elim (cases_lt n (length now)) [
  | inl below ↦ read_stood now (take n present) n below ∙ ap (stayed (tally_in now n)) (none_past present n)
  | inr past ↦ get_or_past (stood_in now (take n present)) n (blank 0) (let long = stood_long now (take n present) in omega (arith, long, past)) ∙ sym (get_or_past now n (blank 0) past)
]

-- As many as before.

begun_long : (now : List Tally) (e : Event) → length (begun_in now e) ≡ length now
begun_long now (Admit m spec) = length-set now m _
begun_long now _ = refl

accessed_long : (now : List Tally) (e : Event) → length (accessed_in now e) ≡ length now
accessed_long now (Read m page at len) = length-set now m _
accessed_long now (Write m page at new) = length-set now m _
accessed_long now _ = refl

counted_long : (now : List Tally) (o : Option Change) → length (counted_in now o) ≡ length now
counted_long now None = refl
counted_long now (Some y) = length-set now y.vm _

moved_long : (now : List Tally) (o : Option Change) → length (moved_in now o) ≡ length now
moved_long now None = refl
moved_long now (Some y) = length-set now y.vm _

hosted_long : (now : List Tally) (o : Option ℕ) → length (hosted_in now o) ≡ length now
hosted_long now None = refl
hosted_long now (Some m) = length-set now m _

-- before those that stand are counted
abbrev named : List Tally → Event → Changes → List Tally
named now e y = accessed_in (hosted_in (moved_in (counted_in (counted_in (begun_in now e) y.gained) y.lost) y.moved) y.host) e

named_long : (now : List Tally) (e : Event) (y : Changes) → length (named now e y) ≡ length now
named_long now e y =
    let b = begun_in now e in
    let c = counted_in b y.gained in
    let d = counted_in c y.lost in
    let m = moved_in d y.moved in
    accessed_long (hosted_in m y.host) e ∙ hosted_long m y.host ∙ moved_long d y.moved ∙ counted_long c y.lost ∙ counted_long b y.gained ∙ begun_long now e

pub tallied_long : (now : List Tally) (e : Event) (y : Changes) (present : List (Option Present)) → length (tallied now e y present) ≡ length now
tallied_long now e y present = stood_long (named now e y) present ∙ named_long now e y

pub tallied_read : (now : List Tally) (e : Event) (y : Changes) (present : List (Option Present)) (n : ℕ) → n < length now
    → tally_in (tallied now e y present) n ≡ after n e y (get_or present n None) (cond (admits n e) (blank ((tally_in now n).life + 1)) (tally_in now n))
tallied_read now e y present n below =
    let p = get_or present n None in
    let b = begun_in now e in
    let c = counted_in b y.gained in
    let d = counted_in c y.lost in
    let m = moved_in d y.moved in
    let h = hosted_in m y.host in
    let lb = begun_long now e in
    let lc = counted_long b y.gained in
    let ld = counted_long c y.lost in
    let lm = moved_long d y.moved in
    let lh = hosted_long m y.host in
    let la = named_long now e y in
    read_stood (named now e y) present n (omega (arith, la, below))
    ∙ ap (λ (t : Tally). stayed t p) (read_accessed h e n (omega (arith, lb, lc, ld, lm, lh, below))
    ∙ ap (λ (t : Tally). record t { accesses = accessed n e t.accesses }) (read_hosted m y.host n (omega (arith, lb, lc, ld, lm, below))
    ∙ ap (λ (t : Tally). record t { moves = hosted n y.host t.moves }) (read_moved d y.moved n (omega (arith, lb, lc, ld, below))
    ∙ ap (λ (t : Tally). record t { moves = moved n y.moved t.moves }) (read_counted c y.lost n (omega (arith, lb, lc, below))
    ∙ ap (λ (t : Tally). record t { counts = counted n y.lost t.counts }) (read_counted b y.gained n (omega (arith, lb, below))
    ∙ ap (λ (t : Tally). record t { counts = counted n y.gained t.counts }) (read_begun now e n below))))))
