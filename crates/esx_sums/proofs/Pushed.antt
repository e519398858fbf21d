-- What is counted of a life, with one more moment.
use Rattle.std.proofs.Common.{◌≡◌, ℕ, ◌+◌, ◌==◌, ◌&&◌, max, Bool, true, false, cond, List, [], ◌∷◌, ◌++◌, count_by, sum_by, refl, sym, ap, ◌∙◌, arith, Option, Some, None, option_map}
use Rattle.std.proofs.lemmas.List.Sums.{sum_by_push}
use Rattle.esx_events.specs.declared.event.Event.{Event}
use Rattle.esx_events.specs.declared.event.Event.TheVariants.{Admit, Read, Write}
use Rattle.esx_events.specs.declared.event.Answer.{Answer}
use Rattle.esx_model.specs.declared.scene.Vm.{Vm}
use Rattle.esx_model.specs.declared.scene.Site.{Site}
use Rattle.esx_model.specs.Site.{vm_at}
use Rattle.esx_story.specs.declared.change.How.{How}
use Rattle.esx_story.specs.declared.change.How.TheVariants.{Share, Cow, Own}
use Rattle.esx_story.specs.declared.change.Change.{Change}
use Rattle.esx_story.specs.declared.change.Counts.{Counts}
use Rattle.esx_story.specs.Changes.{resident_in}
use Rattle.esx_story.specs.Moments.{Moment}
use Rattle.esx_story.specs.Losses.{lost, lost_at}
use Rattle.esx_story.specs.Gains.{gained, gained_at}
use Rattle.esx_story.specs.Counts.{no_counts, counted, admits, counts_after, counts_from, counts}
use Rattle.esx_sums.specs.declared.present.Present.{Present}
use Rattle.esx_sums.specs.declared.sums.Changes.{Changes}
use Rattle.esx_sums.specs.declared.tally.Accesses.{Accesses}
use Rattle.esx_sums.specs.declared.tally.Moves.{Moves}
use Rattle.esx_sums.specs.declared.tally.Stay.{Stay}
use Rattle.esx_sums.specs.declared.tally.Tally.{Tally}
use Rattle.esx_sums.specs.Guests.{is_read, is_write, accesses_of, moves_of, is_there, is_above, is_below, here_after, most_by, stay_of, tally_of}
use Rattle.esx_sums.specs.Moving.{moved_at, is_so, is_share, is_cow, is_own, host_at, is_vm}
use Rattle.esx_sums.specs.Sums.{one_if, with_access, with_move, stay_by, present_of}
use Rattle.esx_sums.proofs.Lists.{count_push}

-- Accesses.

abbrev acc : ℕ → ℕ → ℕ → ℕ → Accesses
acc r w h s = record { reads = r; writes = w; held = h; short = s }

acc_same : (r q w v h s : ℕ) → r ≡ q → w ≡ v → acc r w h s ≡ acc q v h s
acc_same r q w v h s a b = ap (λ k. acc k w h s) a ∙ ap (λ k. acc q k h s) b

-- an access counts for its machine
abbrev pub accessed : ℕ → Event → Accesses → Accesses
accessed n (Read m page at len) a = cond (m == n) (with_access a (Read m page at len)) a
accessed n (Write m page at new) a = cond (m == n) (with_access a (Write m page at new)) a
accessed n _ a = a

accessed_push : (n : ℕ) (e : Event) (r w h s : ℕ) → acc (r + cond (is_read n e) 1 0) (w + cond (is_write n e) 1 0) h s ≡ accessed n e (acc r w h s)
accessed_push n (Read m page at len) r w h s = by (m == n)
  where
    by : (b : Bool) → acc (r + cond b 1 0) (w + 0) h s ≡ cond b (acc (r + 1) w h s) (acc r w h s)
    by true = acc_same (r + 1) (r + 1) (w + 0) w h s refl (omega arith)
    by false = acc_same (r + 0) r (w + 0) w h s (omega arith) (omega arith)
accessed_push n (Write m page at new) r w h s = by (m == n)
  where
    by : (b : Bool) → acc (r + 0) (w + cond b 1 0) h s ≡ cond b (acc r (w + 1) h s) (acc r w h s)
    by true = acc_same (r + 0) r (w + 1) (w + 1) h s (omega arith) refl
    by false = acc_same (r + 0) r (w + 0) w h s (omega arith) (omega arith)
accessed_push n _ r w h s = acc_same (r + 0) r (w + 0) w h s (omega arith) (omega arith)

accesses_push : (n : ℕ) (xs : List Moment) (x : Moment) (h s : ℕ) → accesses_of n (xs ++ x ∷ []) h s ≡ accessed n x.event (accesses_of n xs h s)
accesses_push n xs x h s =
    let p = λ (y : Moment). is_read n y.event in
    let q = λ (y : Moment). is_write n y.event in
    acc_same (count_by p (xs ++ x ∷ [])) (count_by p xs + cond (p x) 1 0) (count_by q (xs ++ x ∷ [])) (count_by q xs + cond (q x) 1 0) h s (count_push p xs x) (count_push q xs x)
    ∙ accessed_push n x.event (count_by p xs) (count_by q xs) h s

-- Moves.

abbrev mv : ℕ → ℕ → ℕ → ℕ → Moves
mv a b c d = record { share = a; host = b; cow = c; own = d }

mv_same : (a e b c f d g : ℕ) → a ≡ e → c ≡ f → d ≡ g → mv a b c d ≡ mv e b f g
mv_same a e b c f d g x y z = ap (λ k. mv k b c d) x ∙ ap (λ k. mv e b k d) y ∙ ap (λ k. mv e b f k) z

abbrev pub moved : ℕ → Option Change → Moves → Moves
moved n None k = k
moved n (Some y) k = cond (y.vm == n) (with_move k y.how) k

moved_push : (n : ℕ) (o : Option Change) (a b c d : ℕ) → mv (a + cond (is_so n is_share o) 1 0) b (c + cond (is_so n is_cow o) 1 0) (d + cond (is_so n is_own o) 1 0) ≡ moved n o (mv a b c d)
moved_push n None a b c d = mv_same (a + 0) a b (c + 0) c (d + 0) d (omega arith) (omega arith) (omega arith)
moved_push n (Some y) a b c d = by (y.vm == n) y.how
  where
    by : (t : Bool) (how : How) → mv (a + cond (t && is_share how) 1 0) b (c + cond (t && is_cow how) 1 0) (d + cond (t && is_own how) 1 0) ≡ cond t (with_move (mv a b c d) how) (mv a b c d)
    by false how = mv_same (a + 0) a b (c + 0) c (d + 0) d (omega arith) (omega arith) (omega arith)
    by true Share = mv_same (a + 1) (a + 1) b (c + 0) c (d + 0) d refl (omega arith) (omega arith)
    by true Cow = mv_same (a + 0) a b (c + 1) (c + 1) (d + 0) d (omega arith) refl (omega arith)
    by true Own = mv_same (a + 0) a b (c + 0) c (d + 1) (d + 1) (omega arith) (omega arith) refl
    by true _ = mv_same (a + 0) a b (c + 0) c (d + 0) d (omega arith) (omega arith) (omega arith)

abbrev pub hosted : ℕ → Option ℕ → Moves → Moves
hosted n None k = k
hosted n (Some m) k = cond (m == n) (record k { host = k.host + 1 }) k

hosted_push : (n : ℕ) (o : Option ℕ) (k : Moves) → record k { host = k.host + one_if (is_vm n o) } ≡ hosted n o k
hosted_push n None k = ap (λ (b : ℕ). record k { host = b }) (let e : k.host + 0 ≡ k.host = omega arith in e)
hosted_push n (Some m) k = by (m == n)
  where
    by : (t : Bool) → record k { host = k.host + one_if t } ≡ cond t (record k { host = k.host + 1 }) k
    by true = refl
    by false = ap (λ (b : ℕ). record k { host = b }) (let e : k.host + 0 ≡ k.host = omega arith in e)

moves_push : (n : ℕ) (xs : List Moment) (x : Moment) (o : Option Change) (host : Option ℕ) → moved_at x ≡ o → host_at x ≡ host → moves_of n (xs ++ x ∷ []) ≡ hosted n host (moved n o (moves_of n xs))
moves_push n xs x o host is has =
    let p = λ (y : Moment). is_so n is_share (moved_at y) in
    let q = λ (y : Moment). is_so n is_cow (moved_at y) in
    let r = λ (y : Moment). is_so n is_own (moved_at y) in
    let t = λ (y : Moment). is_vm n (host_at y) in
    let h = count_by t xs in
    let b = count_by t (xs ++ x ∷ []) in
    let more : b ≡ h + one_if (is_vm n host) = count_push t xs x ∙ ap (λ (o : Option ℕ). h + one_if (is_vm n o)) has in
    mv_same (count_by p (xs ++ x ∷ [])) (count_by p xs + cond (p x) 1 0) b (count_by q (xs ++ x ∷ [])) (count_by q xs + cond (q x) 1 0) (count_by r (xs ++ x ∷ [])) (count_by r xs + cond (r x) 1 0)
    (count_push p xs x) (count_push q xs x) (count_push r xs x)
    ∙ ap (λ k. mv (count_by p xs + cond (p x) 1 0) k (count_by q xs + cond (q x) 1 0) (count_by r xs + cond (r x) 1 0)) more
    ∙ ap (λ (k : Moves). record k { host = k.host + one_if (is_vm n host) }) (moved_push n (moved_at x) (count_by p xs) h (count_by q xs) (count_by r xs))
    ∙ hosted_push n host (moved n (moved_at x) (moves_of n xs))
    ∙ ap (λ (y : Option Change). hosted n host (moved n y (moves_of n xs))) is

-- Stays.

abbrev st : ℕ → ℕ → ℕ → ℕ → ℕ → Stay
st e a b s m = record { events = e; above = a; below = b; sum_here = s; most = m }

st_same : (e f a c b d s t m o : ℕ) → e ≡ f → a ≡ c → b ≡ d → s ≡ t → m ≡ o → st e a b s m ≡ st f c d t o
st_same e f a c b d s t m o p q r u v = ap (λ k. st k a b s m) p ∙ ap (λ k. st f k b s m) q ∙ ap (λ k. st f c k s m) r ∙ ap (λ k. st f c d k m) u ∙ ap (λ k. st f c d t k) v

stay_push : (o : Option Vm) (e a b s m : ℕ)
    → st (e + cond (is_there o) 1 0) (a + cond (is_above o) 1 0) (b + cond (is_below o) 1 0) (s + resident_in o) (max m (resident_in o)) ≡ stay_by (option_map present_of o) (st e a b s m)
stay_push None e a b s m = st_same (e + 0) e (a + 0) a (b + 0) b (s + 0) s (max m 0) m (omega arith) (omega arith) (omega arith) (omega arith) (omega arith)
stay_push (Some v) e a b s m = refl

most_push : (f : Moment → ℕ) (xs : List Moment) (x : Moment) → most_by f (xs ++ x ∷ []) ≡ max (most_by f xs) (f x)
most_push f [] x = omega arith
most_push f (y ∷ xs) x = (let rest = most_push f xs x in omega (arith, rest))

stays_push : (n : ℕ) (xs : List Moment) (x : Moment) (p : Option Present) → p ≡ option_map present_of (vm_at x.after.site n) → stay_of n (xs ++ x ∷ []) ≡ stay_by p (stay_of n xs)
stays_push n xs x p is =
    let t = λ (y : Moment). is_there (vm_at y.after.site n) in
    let a = λ (y : Moment). is_above (vm_at y.after.site n) in
    let b = λ (y : Moment). is_below (vm_at y.after.site n) in
    let f = here_after n in
    st_same (count_by t (xs ++ x ∷ [])) (count_by t xs + cond (t x) 1 0) (count_by a (xs ++ x ∷ [])) (count_by a xs + cond (a x) 1 0) (count_by b (xs ++ x ∷ [])) (count_by b xs + cond (b x) 1 0)
    (sum_by f (xs ++ x ∷ [])) (sum_by f xs + f x) (most_by f (xs ++ x ∷ [])) (max (most_by f xs) (f x)) (count_push t xs x) (count_push a xs x) (count_push b xs x) (sum_by_push f xs x) (most_push f xs x)
    ∙ stay_push (vm_at x.after.site n) (count_by t xs) (count_by a xs) (count_by b xs) (sum_by f xs) (most_by f xs)
    ∙ ap (λ (o : Option Present). stay_by o (stay_of n xs)) (sym is)

-- Counts.

pub counts_more : (n : ℕ) (ms : List Moment) (x : Moment) (k : Counts) → counts_from n (ms ++ x ∷ []) k ≡ counts_after n x (counts_from n ms k)
counts_more n [] x k = refl
counts_more n (m ∷ ms) x k = counts_more n ms x (counts_after n m k)

-- an admission changes no page
admits_none : (n : ℕ) (e : Event) (a : Answer) (s : Site) → admits n e ≡ true → (lost e a s ≡ None) × (gained e s ≡ None)
admits_none n (Admit m spec) a s h = (refl, refl)
admits_none n _ a s h = cc

counts_push : (n : ℕ) (xs : List Moment) (x : Moment) → (admits n x.event ≡ true → counts n xs ≡ no_counts) → counts n (xs ++ x ∷ []) ≡ counted n (lost_at x) (counted n (gained_at x) (counts n xs))
counts_push n xs x anew = counts_more n xs x no_counts ∙ by (admits n x.event) refl
  where
    by : (b : Bool) → admits n x.event ≡ b → cond b no_counts (counted n (lost_at x) (counted n (gained_at x) (counts n xs))) ≡ counted n (lost_at x) (counted n (gained_at x) (counts n xs))
    by true e =
        let none = admits_none n x.event x.answer x.before.site e in
        sym (ap (λ o. counted n o (counted n (gained_at x) (counts n xs))) none.0 ∙ ap (λ o. counted n o (counts n xs)) none.1 ∙ anew e)
    by false e = refl

-- The whole.

-- what is told of machine n by its event, what it changed, and what stands after it
pub record IsFor (n : ℕ) (x : Moment) (e : Event) (y : Changes) (p : Option Present) : Type 0 where
  pub made : x.event ≡ e
  pub lost : lost_at x ≡ y.lost
  pub gained : gained_at x ≡ y.gained
  pub moved : moved_at x ≡ y.moved
  pub host : host_at x ≡ y.host
  pub present : p ≡ option_map present_of (vm_at x.after.site n)

abbrev pub after : ℕ → Event → Changes → Option Present → Tally → Tally
after n e y p t = record {
  life = t.life;
  accesses = accessed n e t.accesses;
  counts = counted n y.lost (counted n y.gained t.counts);
  moves = hosted n y.host (moved n y.moved t.moves);
  stay = stay_by p t.stay;
}

abbrev tl : ℕ → Accesses → Counts → Moves → Stay → Tally
tl l a k m s = record { life = l; accesses = a; counts = k; moves = m; stay = s }

pub after_push : (n l : ℕ) (xs : List Moment) (h s : ℕ) (x : Moment) (e : Event) (y : Changes) (p : Option Present) → IsFor n x e y p → (admits n x.event ≡ true → counts n xs ≡ no_counts)
    → tally_of n l (xs ++ x ∷ []) h s ≡ after n e y p (tally_of n l xs h s)
after_push n l xs h s x e y p is anew =
    let zs = xs ++ x ∷ [] in
    let a = accesses_push n xs x h s ∙ ap (λ (z : Event). accessed n z (accesses_of n xs h s)) is.made in
    let k = counts_push n xs x anew ∙ ap (λ o. counted n o (counted n (gained_at x) (counts n xs))) is.lost ∙ ap (λ o. counted n y.lost (counted n o (counts n xs))) is.gained in
    let m = moves_push n xs x y.moved y.host is.moved is.host in
    let t = stays_push n xs x p is.present in
    ap (λ z. tl l z (counts n zs) (moves_of n zs) (stay_of n zs)) a
    ∙ ap (λ z. tl l (accessed n e (accesses_of n xs h s)) z (moves_of n zs) (stay_of n zs)) k
    ∙ ap (λ z. tl l (accessed n e (accesses_of n xs h s)) (counted n y.lost (counted n y.gained (counts n xs))) z (stay_of n zs)) m
    ∙ ap (λ z. tl l (accessed n e (accesses_of n xs h s)) (counted n y.lost (counted n y.gained (counts n xs))) (hosted n y.host (moved n y.moved (moves_of n xs))) z) t
