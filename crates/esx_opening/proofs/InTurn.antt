-- Events that are accepted in turn, or refused at one.
use Rattle.std.proofs.Common.{◌≡◌, ◌⊎◌, inl, inr, ℕ, zero, suc, ◌+◌, ◌-◌, ◌<◌, List, [], ◌∷◌, ◌++◌, length, take, drop, map, replicate, get_or, append_assoc, Result, Ok, Err, IfErr, refl, sym, ap, ◌∙◌, subst, arith}
use Rattle.std.specs.Prelude.{IsErrAnd}
use Rattle.std.specs.Borrow.{Bor}
use Rattle.std.specs.List.{flat_map}
use Rattle.std.proofs.lemmas.List.Folds.{flat_map-map}
use Rattle.std.proofs.lemmas.List.{flat_map_more, take_more, take-append-drop}
use Rattle.std.proofs.lemmas.Grind.{flat_map-append}
use Rattle.esx_events.specs.declared.call.Call.TheVariants.{Do}
use Rattle.esx_events.specs.declared.call.Said.TheVariants as said
use Rattle.esx_events.specs.declared.event.Answer.{Answer}
use Rattle.esx_events.specs.declared.event.Event.{Event}
use Rattle.esx_events.specs.declared.event.Refusal.{Refusal}
use Rattle.esx_model.specs.History.{History, do_event}
use Rattle.esx_model.specs.Console.{Session, history, outcome, event_outcome, next_reply, lined}
use Rattle.esx_scenario.specs.declared.plan.Guest.{Guest}
use Rattle.esx_opening.specs.Openings.{IsAccepted, AreAccepted, IsRefusedAt, EndsRefused, AreBegun}

-- what is said to an event is an answer or a refusal
said_to : (h : History) (r : Result (Answer × History) Refusal) → ((a : Answer) × ((event_outcome h r).0 ≡ said.Done a)) ⊎ ((e : Refusal) × ((event_outcome h r).0 ≡ said.Refused e))
said_to h (Ok r) = inl (r.0, refl)
said_to h (Err e) = inr (e, refl)

pub said_event : (s : Session) (e : Event) → ((a : Answer) × ((next_reply s (Do e)).said ≡ said.Done a)) ⊎ ((r : Refusal) × ((next_reply s (Do e)).said ≡ said.Refused r))
unfolding next_reply outcome
said_event s e = said_to (history s) (do_event e (history s))

pub accepted_none : (s : Session) → AreAccepted [] s s
unfolding AreAccepted
accepted_none s = refl

pub accepted_on : (xs ys : List Event) (s t u : Session) → AreAccepted xs s t → AreAccepted ys t u → AreAccepted (xs ++ ys) s u
unfolding AreAccepted
accepted_on [] ys s t u f g = subst (λ (v : Session). AreAccepted ys v u) f g
accepted_on (x ∷ xs) ys s t u f g = (f.0, accepted_on xs ys (lined s 0 (Do x)) t u f.1 g)

pub accepted_one : (e : Event) (s t : Session) → IsAccepted (next_reply s (Do e)) → t ≡ lined s 0 (Do e) → AreAccepted (e ∷ []) s t
unfolding AreAccepted
accepted_one e s t is now = (is, now)

pub refused_one : (e : Event) (s t : Session) (r : Refusal) → ((next_reply s (Do e)).said ≡ said.Refused r) × (t ≡ lined s 0 (Do e)) → EndsRefused (e ∷ []) s t r
refused_one e s t r is = (record { before = []; event = e; later = []; are = refl; at = s; accepted = accepted_none s; refused = is.0 }, is.1)

pub begun_none : (xs : List Event) (s t : Session) → t ≡ s → AreBegun xs s t
unfolding AreAccepted
begun_none xs s t same = record { before = []; later = xs; are = refl; accepted = same }

pub refused_on : (xs ys : List Event) (s t : Session) (r : Refusal) → AreAccepted xs s t → IsRefusedAt ys t r → IsRefusedAt (xs ++ ys) s r
refused_on xs ys s t r f at = record {
  before = xs ++ at.before;
  event = at.event;
  later = at.later;
  are = append_assoc xs at.before (at.event ∷ at.later) ∙ ap (λ (l : List Event). xs ++ l) at.are;
  at = at.at;
  accepted = accepted_on xs at.before s t at.at f at.accepted;
  refused = at.refused;
}

pub refused_more : (xs ys : List Event) (s : Session) (r : Refusal) → IsRefusedAt xs s r → IsRefusedAt (xs ++ ys) s r
refused_more xs ys s r at = record {
  before = at.before;
  event = at.event;
  later = at.later ++ ys;
  are = sym (append_assoc at.before (at.event ∷ at.later) ys) ∙ ap (λ (l : List Event). l ++ ys) at.are;
  at = at.at;
  accepted = at.accepted;
  refused = at.refused;
}

-- some of the events, after those that were accepted and before others
module _ (xs ys zs all : List Event) (whole : xs ++ (ys ++ zs) ≡ all) (s t u : Session) (f : AreAccepted xs s t) where
  refused_amid : (r : Refusal) → EndsRefused ys t u r → EndsRefused all s u r
  unfolding refused_on refused_more
  refused_amid r ends =
      let at : IsRefusedAt (xs ++ (ys ++ zs)) s r = refused_on xs (ys ++ zs) s t r f (refused_more ys zs t r ends.0) in
      (record { before = at.before; event = at.event; later = at.later; are = at.are ∙ whole; at = at.at; accepted = at.accepted; refused = at.refused }, ends.1)

  begun_amid : AreBegun ys t u → AreBegun all s u
  begun_amid b = record {
    before = xs ++ b.before;
    later = b.later ++ zs;
    are = append_assoc xs b.before (b.later ++ zs) ∙ (ap (λ (l : List Event). xs ++ l) (sym (append_assoc b.before b.later zs) ∙ ap (λ (l : List Event). l ++ zs) b.are) ∙ whole);
    accepted = accepted_on xs b.before s t u f b.accepted;
  }

replicate_more : {A : Type 0} (n : ℕ) (x : A) → replicate n x ++ x ∷ [] ≡ replicate (suc n) x
replicate_more zero x = refl
replicate_more {A = A} (suc n) x = ap (λ (l : List A). x ∷ l) (replicate_more n x)

replicate_parts : {A : Type 0} (m n : ℕ) (x : A) → replicate m x ++ replicate n x ≡ replicate (m + n) x
replicate_parts zero n x = let e : n ≡ 0 + n = omega arith in ap (λ (k : ℕ). replicate k x) e
replicate_parts {A = A} (suc m) n x = let e : suc (m + n) ≡ suc m + n = omega arith in ap (λ (l : List A). x ∷ l) (replicate_parts m n x) ∙ ap (λ (k : ℕ). replicate k x) e

-- one event over and over
pub again_accepted : (e : Event) (i : ℕ) (s t u : Session) → AreAccepted (replicate i e) s t → AreAccepted (e ∷ []) t u → AreAccepted (replicate (i + 1) e) s u
again_accepted e i s t u f g =
    let next : suc i ≡ i + 1 = omega arith in
    subst (λ (k : ℕ). AreAccepted (replicate k e) s u) next (subst (λ (l : List Event). AreAccepted l s u) (replicate_more i e) (accepted_on (replicate i e) (e ∷ []) s t u f g))

again_parts : (e : Event) (i n : ℕ) → i < n → replicate i e ++ ((e ∷ []) ++ replicate (n - (i + 1)) e) ≡ replicate n e
again_parts e i n lt =
    let left : i + suc (n - (i + 1)) ≡ n = omega arith in
    replicate_parts i (suc (n - (i + 1))) e ∙ ap (λ (k : ℕ). replicate k e) left

pub again_refused : (e : Event) (i n : ℕ) (s t u : Session) (r : Refusal) → i < n → AreAccepted (replicate i e) s t → EndsRefused (e ∷ []) t u r → EndsRefused (replicate n e) s u r
again_refused e i n s t u r lt f ends = refused_amid (replicate i e) (e ∷ []) (replicate (n - (i + 1)) e) (replicate n e) (again_parts e i n lt) s t u f r ends

pub again_begun : (e : Event) (i n : ℕ) (s t u : Session) → i < n → AreAccepted (replicate i e) s t → AreBegun (e ∷ []) t u → AreBegun (replicate n e) s u
again_begun e i n s t u lt f b = begun_amid (replicate i e) (e ∷ []) (replicate (n - (i + 1)) e) (replicate n e) (again_parts e i n lt) s t u f b

-- the events of each of some, one after another
module _ {A : Type 0} (f : A → List Event) where
  one_after : (xs : List A) (i : ℕ) (d : A) → i < length xs → flat_map f (take i xs) ++ f (get_or xs i d) ≡ flat_map f (take (i + 1) xs)
  one_after xs i d lt = flat_map_more f [] (take i xs) (get_or xs i d) ∙ ap (flat_map f) (sym (take_more xs i d lt))

  pub each_accepted : (xs : List A) (i : ℕ) (x : A) (s t u : Session) → i < length xs → x ≡ get_or xs i x → AreAccepted (flat_map f (take i xs)) s t → AreAccepted (f x) t u → AreAccepted (flat_map f (take (i + 1) xs)) s u
  each_accepted xs i x s t u lt is g h = subst (λ (l : List Event). AreAccepted l s u) (one_after xs i x lt) (accepted_on (flat_map f (take i xs)) (f (get_or xs i x)) s t u g (subst (λ (y : A). AreAccepted (f y) t u) is h))

  each_parts : (xs : List A) (i : ℕ) (x : A) → i < length xs → x ≡ get_or xs i x → flat_map f (take i xs) ++ (f x ++ flat_map f (drop (i + 1) xs)) ≡ flat_map f xs
  each_parts xs i x lt is =
      let rest : List Event = flat_map f (drop (i + 1) xs) in
      let next : flat_map f (take i xs) ++ f x ≡ flat_map f (take (i + 1) xs) = ap (λ (y : A). flat_map f (take i xs) ++ f y) is ∙ one_after xs i x lt in
      sym (append_assoc (flat_map f (take i xs)) (f x) rest) ∙ (ap (λ (l : List Event). l ++ rest) next ∙ (sym (flat_map-append f (take (i + 1) xs) (drop (i + 1) xs)) ∙ ap (flat_map f) (take-append-drop (i + 1) xs)))

  pub each_refused : (xs : List A) (i : ℕ) (x : A) (s t u : Session) (r : Refusal) → i < length xs → x ≡ get_or xs i x → AreAccepted (flat_map f (take i xs)) s t → EndsRefused (f x) t u r → EndsRefused (flat_map f xs) s u r
  each_refused xs i x s t u r lt is g ends = refused_amid (flat_map f (take i xs)) (f x) (flat_map f (drop (i + 1) xs)) (flat_map f xs) (each_parts xs i x lt is) s t u g r ends

  pub each_begun : (xs : List A) (i : ℕ) (x : A) (s t u : Session) → i < length xs → x ≡ get_or xs i x → AreAccepted (flat_map f (take i xs)) s t → AreBegun (f x) t u → AreBegun (flat_map f xs) s u
  each_begun xs i x s t u lt is g b = begun_amid (flat_map f (take i xs)) (f x) (flat_map f (drop (i + 1) xs)) (flat_map f xs) (each_parts xs i x lt is) s t u g b

-- an error that is handed on
pub handed_on : {T E : Type 0} (r : Result T E) (x : E) (P : E → Type 0) → IsErrAnd r (λ y. y ≡ x) → P x → IfErr r P
handed_on (Ok a) x P same p = tt
handed_on (Err e) x P same p = subst P (sym same) p

-- the machines behind references
pub behind : (f : Guest → List Event) (refs : List (Bor Guest)) (guests : List Guest) → map (λ g. g.now) refs ≡ guests → flat_map (λ g. f g.now) refs ≡ flat_map f guests
behind f refs guests e = sym (flat_map-map f (λ (g : Bor Guest). g.now) refs) ∙ ap (flat_map f) e
