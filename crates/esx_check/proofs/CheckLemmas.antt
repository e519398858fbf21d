-- What a check knows on its way, and at its end.
use Rattle.std.proofs.Common.{◌≡◌, ◌≢◌, ◌≤◌, ℕ, ◌+◌, ◌-◌, List, [], ◌∷◌, ◌++◌, Some, Bool, false, IsTrue, ◌↔◌, refl, sym, ◌∙◌, ap, subst, append_assoc, length, map, take, arith}
use Rattle.std.proofs.Math.Seq.{take-append_seam}
use Rattle.std.proofs.lemmas.List.{map-append, length-map, length-append}
use Rattle.std.specs.Prelude.{slice_get}
use Rattle.esx_types.specs.declared.config.Config.{Config}
use Rattle.esx_events.specs.declared.call.Reply.{Reply}
use Rattle.esx_model.specs.Console.{next_reply}
use Rattle.esx_replies.specs.Replies.{reply_text}
use Rattle.esx_session.specs.declared.session.Entry.{Entry}
use Rattle.esx_check.specs.declared.check.Checked.TheVariants.{Differs}
use Rattle.esx_check.specs.Again.{made, replies_again}
use Rattle.esx_check.specs.Checks.{Checks, PartAt, replies_told}
use Rattle.esx_check.specs.Differences.{IsDifference}
use Rattle.esx_check.specs.Gates.{GoesTo}
use Rattle.esx_check.proofs.AgainLemmas.{replies_more, made_follow, text_of}

-- one more reply that stands with its call
pub same_more : (site : Config) (done : List Entry) (e : Entry) → replies_again site done ≡ replies_told done
    → reply_text (next_reply (made site done) e.call) ≡ e.reply → replies_again site (done ++ e ∷ []) ≡ replies_told (done ++ e ∷ [])
same_more site done e same is =
    replies_more site done e ∙ ap (λ v. v ++ reply_text (next_reply (made site done) e.call) ∷ []) same
    ∙ ap (λ r. replies_told done ++ r ∷ []) is ∙ sym (map-append (λ (x : Entry). x.reply) done (e ∷ []))

pub is_not : (same : Bool) (P : Type 0) → (IsTrue same ↔ P) → same ≡ false → P → ⊥
is_not same P is other p =
    let yes = is.1 p in cc

pub one_longer : (done : List Entry) (e : Entry) → length done + 1 ≡ length (done ++ e ∷ [])
one_longer done e = sym (length-append done (e ∷ []))

at_seam : {A : Type 0} (xs : List A) (y : A) (ys : List A) → slice_get (xs ++ y ∷ ys) (length xs) ≡ Some y
at_seam [] y ys = refl
at_seam (x ∷ xs) y ys = at_seam xs y ys

some_same : (x y : List ℕ) → Some x ≡ Some y → x ≡ y
some_same x y e = cc

part_at_seam : (xs ys zs : List (List ℕ)) (y z : List ℕ) → y ≢ z → PartAt (length xs) (xs ++ y ∷ ys) (xs ++ z ∷ zs)
part_at_seam xs ys zs y z other = record {
  before = take-append_seam xs (y ∷ ys) ∙ sym (take-append_seam xs (z ∷ zs));
  here = λ e. other (some_same y z (sym (at_seam xs y ys) ∙ e ∙ at_seam xs z zs));
}

part_of : (at : ℕ) (xs ys us vs : List (List ℕ)) → us ≡ xs → vs ≡ ys → PartAt at xs ys → PartAt at us vs
part_of at xs ys us vs e f p = rw (e, f) p

-- a call behind those whose replies are the same: the reply that stands with it, and the one that it has again
record Reached (site : Config) (entries done later : List Entry) (e : Entry) (count : ℕ) : Type 0 where
  more : List (List ℕ)
  told : replies_told entries ≡ replies_told done ++ e.reply ∷ replies_told later
  again : replies_again site entries ≡ replies_told done ++ reply_text (next_reply (made site done) e.call) ∷ more
  long : length (replies_told done) ≡ count

reached : (site : Config) (entries done later : List Entry) (e : Entry) (count : ℕ)
    → entries ≡ done ++ e ∷ later → replies_again site done ≡ replies_told done → count ≡ length done → Reached site entries done later e count
reached site entries done later e count split same is =
    let reply = reply_text (next_reply (made site done) e.call) in
    let follow = made_follow site (done ++ e ∷ []) later in
    let more = map text_of follow.more in
    record {
      more = more;
      told = ap replies_told split ∙ map-append (λ (x : Entry). x.reply) done (e ∷ later);
      again = ap (replies_again site) (split ∙ sym (append_assoc done (e ∷ []) later)) ∙ (ap (map text_of) follow.log ∙ map-append text_of (made site (done ++ e ∷ [])).log follow.more)
          ∙ ap (λ v. v ++ more) (replies_more site done e ∙ ap (λ v. v ++ reply ∷ []) same) ∙ append_assoc (replies_told done) (reply ∷ []) more;
      long = length-map done (λ (x : Entry). x.reply) ∙ sym is;
    }

-- the first reply that does not
pub differs_here : (site : Config) (entries done later : List Entry) (e : Entry) (count : ℕ)
    → entries ≡ done ++ e ∷ later → replies_again site done ≡ replies_told done
    → (reply_text (next_reply (made site done) e.call) ≡ e.reply → ⊥) → count ≡ length done → Checks site entries (Differs (count + 1))
differs_here site entries done later e count split same other is =
    let point = reached site entries done later e count split same is in
    let reply = reply_text (next_reply (made site done) e.call) in (
      count,
      refl,
      rw (← point.long) (part_of (length (replies_told done)) _ _ _ _ point.told point.again (part_at_seam (replies_told done) (replies_told later) point.more e.reply reply (λ e. other (sym e)))),
    )

-- the call itself, with both of its replies
pub difference_here : (site : Config) (entries done later : List Entry) (e : Entry) (count : ℕ) (reply : Reply)
    → entries ≡ done ++ e ∷ later → replies_again site done ≡ replies_told done
    → reply ≡ next_reply (made site done) e.call → (reply_text reply ≡ e.reply → ⊥) → count ≡ length done
    → IsDifference site entries (record { number = count + 1; entry = e; reply = reply })
difference_here site entries done later e count reply split same here other is =
    let place : count + 1 - 1 ≡ length done = omega (arith, is) in
    let before : take (count + 1 - 1) entries ≡ done =
    ap (λ (n : ℕ). take n entries) place ∙ ap (take (length done)) split ∙ take-append_seam done (e ∷ later) in
    record {
      first = differs_here site entries done later e count split same (λ is_told. other (ap reply_text here ∙ is_told)) is;
      told = ap (slice_get entries) place ∙ ap (λ (l : List Entry). slice_get l (length done)) split ∙ at_seam done e later;
      made_again = here ∙ ap (λ (l : List Entry). next_reply (made site l) e.call) (sym before);
    }

-- where each call that was made has its reply
pub goes_through : (site : Config) (done : List Entry) (count : ℕ) → replies_again site done ≡ replies_told done → count ≡ length done → GoesTo site done count
goes_through site done count same is = record { within = omega arith; same = ap (take (count - 1)) same }

-- where one more call was made, whatever its reply
pub goes_to_next : (site : Config) (entries done later : List Entry) (e : Entry) (count : ℕ)
    → entries ≡ done ++ e ∷ later → replies_again site done ≡ replies_told done → count ≡ length done → GoesTo site entries (count + 1)
goes_to_next site entries done later e count split same is =
    let point = reached site entries done later e count split same is in
    let reply = reply_text (next_reply (made site done) e.call) in
    let alike : take (length (replies_told done)) (replies_again site entries) ≡ take (length (replies_told done)) (replies_told entries) =
    ap (take (length (replies_told done))) point.again ∙ take-append_seam (replies_told done) (reply ∷ point.more)
    ∙ sym (ap (take (length (replies_told done))) point.told ∙ take-append_seam (replies_told done) (e.reply ∷ replies_told later)) in
    let one_less : count ≡ count + 1 - 1 = omega arith in
    let back : length (replies_told done) ≡ count + 1 - 1 = point.long ∙ one_less in
    let whole : length entries ≡ length done + length (e ∷ later) = ap length split ∙ length-append done (e ∷ later) in
    let within : count + 1 ≤ length entries = omega arith in
    record { within = within; same = subst (λ (n : ℕ). take n (replies_again site entries) ≡ take n (replies_told entries)) back alike }
