-- Sums of no event.
use Rattle.std.proofs.Common.{◌≡◌, ℕ, not, Bool, true, false, cond, List, [], ◌∷◌, length, map, count_by, replicate, refl, sym, ap, ◌∙◌, subst, arith}
use Rattle.std.specs.List.{range_with_len}
use Rattle.std.proofs.lemmas.List.{length-replicate}
use Rattle.std.proofs.lemmas.List.Sums.{sum_by-cons}
use Rattle.std.proofs.lemmas.List.FromFn.{length-range_with_len}
use Rattle.esx_types.specs.declared.config.TheConstants.{VM_NUMBERS}
use Rattle.esx_types.specs.declared.config.Config.{Config}
use Rattle.esx_types.specs.declared.table.FrameRow.{FrameRow}
use Rattle.esx_types.specs.declared.table.FrameRow.TheVariants as frames
use Rattle.esx_types.specs.Frames.{is_private, is_shared}
use Rattle.esx_model.specs.Replay.{opening}
use Rattle.esx_model.specs.Site.{is_named, free_count, all_places, all_overhead}
use Rattle.esx_model.specs.Show.{frame_row}
use Rattle.esx_model.specs.Readings.{sum_of}
use Rattle.esx_sums.specs.declared.tally.Tally.{Tally}
use Rattle.esx_sums.specs.declared.site.Extreme.{Extreme}
use Rattle.esx_sums.specs.Extremes.{most}
use Rattle.esx_sums.specs.Site.{free_in, private_in, shared_in, pages_in, slots_in, saved_in, IsSiteSums}
use Rattle.esx_sums.specs.Sums.{Sums, REFUSALS, blank, tally_in, no_site, nothing}
use Rattle.esx_sums.specs.Accounts.{IsSums}
use Rattle.esx_sums.specs.Few.{AreSmallSums}
use Rattle.esx_sums.proofs.Lists.{get_none}

count_all : {X : Type 0} (p : X → Bool) (xs : List X) → ((x : X) → p x ≡ true) → count_by p xs ≡ length xs
count_all p [] all = refl
count_all p (x ∷ xs) all =
    let a = sum_by-cons (λ y. cond (p y) 1 0) x xs in
    let one : cond (p x) 1 0 ≡ 1 = ap (λ b. let r : ℕ = cond b 1 0 in r) (all x) in
    let rest = count_all p xs all in
    omega (arith, a, one, rest)

count_none : {X : Type 0} (p : X → Bool) (xs : List X) → ((x : X) → p x ≡ false) → count_by p xs ≡ 0
count_none p [] all = refl
count_none p (x ∷ xs) all =
    let a = sum_by-cons (λ y. cond (p y) 1 0) x xs in
    let none : cond (p x) 1 0 ≡ 0 = ap (λ b. let r : ℕ = cond b 1 0 in r) (all x) in
    let rest = count_none p xs all in
    omega (arith, a, none, rest)

count_rows : (p : FrameRow → Bool) (row : ℕ → FrameRow) (ns : List ℕ) → ((n : ℕ) → p (row n) ≡ false) → count_by p (map row ns) ≡ 0
count_rows p row [] none = refl
count_rows p row (n ∷ ns) none =
    let a = sum_by-cons (λ y. cond (p y) 1 0) (row n) (map row ns) in
    let zero_is : cond (p (row n)) 1 0 ≡ 0 = ap (λ b. let r : ℕ = cond b 1 0 in r) (none n) in
    let rest = count_rows p row ns none in
    omega (arith, a, zero_is, rest)

none_named : (c : Config) (f : ℕ) → not (is_named (opening c).site f) ≡ true
none_named c f = refl

all_free : (c : Config) → free_in c (opening c) ≡ c.frames
unfolding free_count
all_free c = count_all (λ f. not (is_named (opening c).site f)) (range_with_len 0 c.frames) (none_named c) ∙ length-range_with_len 0 c.frames

free_rows : (c : Config) (f : ℕ) → frame_row (opening c).site f ≡ frames.Free
unfolding frame_row all_places all_overhead
free_rows c f = refl

none_private : (c : Config) → private_in c (opening c) ≡ 0
unfolding sum_of
none_private c = count_rows is_private (frame_row (opening c).site) (range_with_len 0 c.frames) (λ f. ap is_private (free_rows c f))

none_shared : (c : Config) → shared_in c (opening c) ≡ 0
unfolding sum_of
none_shared c = count_rows is_shared (frame_row (opening c).site) (range_with_len 0 c.frames) (λ f. ap is_shared (free_rows c f))

no_pages : (c : Config) → pages_in (opening c) ≡ 0
no_pages c = refl

no_slots : (c : Config) → slots_in (opening c) ≡ 0
no_slots c = refl

none_saved : (c : Config) → saved_in c (opening c) ≡ 0
none_saved c = (let none = no_pages c in omega (arith, none))

at_none : (v : ℕ) → v ≡ 0 → record { number = 0; event = 0 } ≡ most v []
at_none v is = ap (λ k. let e : Extreme = record { number = k; event = 0 } in e) (sym is)

site_opens : (c : Config) → IsSiteSums c [] (no_site c.frames)
site_opens c = record {
  events = refl;
  least_free = ap (λ k. let e : Extreme = record { number = k; event = 0 } in e) (sym (all_free c));
  most_pages = at_none (pages_in (opening c)) (no_pages c);
  most_saved = at_none (saved_in c (opening c)) (none_saved c);
  most_slots = at_none (slots_in (opening c)) (no_slots c);
  saved_sum = refl;
  rebalances = refl;
  revoked = refl;
  free = sym (all_free c);
  pages = sym (no_pages c);
  private = sym (none_private c);
  shared = sym (none_shared c);
  out = sym (no_slots c);
}

none_tallied : (n : ℕ) → tally_in (replicate VM_NUMBERS (blank 0)) n ≡ blank 0
none_tallied n = get_none VM_NUMBERS n (blank 0)

none_small : (c : Config) → AreSmallSums (nothing c.frames)
none_small c = record {
  saved = omega arith;
  revoked = omega arith;
  here = λ n. (let same : (tally_in (replicate VM_NUMBERS (blank 0)) n).stay.sum_here ≡ 0 = ap (λ (t : Tally). t.stay.sum_here) (none_tallied n) in omega (arith, same));
}

opens : (c : Config) → IsSums c [] [] (nothing c.frames)
opens c = record {
  site = site_opens c;
  level = refl;
  levels = refl;
  now = λ n below. none_tallied n;
  numbers = length-replicate VM_NUMBERS (blank 0);
  past = λ n below. refl;
  refused = λ k. get_none REFUSALS k 0;
  kinds = length-replicate {A = ℕ} REFUSALS 0;
  early = tt;
  small = none_small c;
}

pub opens_so : (c : Config) (s : Sums) → s ≡ nothing c.frames → IsSums c [] [] s
opens_so c s is = (let P : Sums → Type 0 = IsSums c [] [] in subst P (sym is) (opens c))
