-- What the frames and slots of a site keep where one page goes to another place, and where an overhead frame comes or goes.
use Rattle.std.proofs.Common.{◌≡◌, ◌≢◌, ℕ, ◌≤◌, ◌<◌, Bool, true, false, List, [], ◌∷◌, ◌++◌, refl, sym, ap, ◌∙◌, subst, arith, cond, Some, inl, inr, ◌==◌, ◌-◌, length, count_by, length-append, ◌||◌}
use Rattle.std.specs.List.{filter, AllByRecursion}
use Rattle.std.proofs.lemmas.Bool.{cases_eq, false≢true}
use Rattle.std.proofs.lemmas.Bool.Decides.{nat_tests}
use Rattle.esx_types.specs.declared.table.FrameRow.{FrameRow}
use Rattle.esx_types.specs.declared.table.FrameRow.TheVariants as frames
use Rattle.esx_types.specs.declared.table.SlotRow.{SlotRow}
use Rattle.esx_types.specs.declared.table.SlotRow.TheVariants as slots
use Rattle.esx_formulas.specs.Key.{content_key}
use Rattle.esx_model.specs.declared.scene.Place.{Place}
use Rattle.esx_model.specs.declared.scene.Place.TheVariants.{Untouched, Here, Out, Lent}
use Rattle.esx_model.specs.Places.{is_here_at, is_out_at}
use Rattle.esx_model.specs.Show.{in_frame, in_slot, is_listed, row_of, slot_of}
use Rattle.esx_model.specs.Moved.{less, more, FitsRow}
use Rattle.esx_model.specs.sound.Frames.{AreFrames, pages_for, pages_out_for, key_of_row}
use Rattle.esx_model.proofs.Lists.{Changed, filter_before, filter_after, filter_neither, eqb_same, eqb_other, not_none, Inserted, counted_more, all_fewer, none_listed, listed_more, one, all_more}
use Rattle.esx_model.proofs.Alike.{Stands, stands_alike, left_by, come_by, StandsOut, out_alike, left_out_by, come_out_by}

-- the same pages in each frame and slot
pub frames_same : (n : ℕ) (ps qs : List Place) (os : List ℕ) → AreFrames n ps os → ((f : ℕ) → in_frame f qs ≡ in_frame f ps) → ((i : ℕ) → in_slot i qs ≡ in_slot i ps) → AreFrames n qs os
frames_same n ps qs os fine here out = record {
  alike = λ f. here f ∙ fine.alike f ∙ ap (λ ps. pages_for f (row_of ps)) (sym (here f));
  single = λ i. out i ∙ fine.single i ∙ ap (λ ps. pages_out_for i (slot_of ps)) (sym (out i));
  below = fine.below;
  once = fine.once;
  apart = λ f h. here f ∙ fine.apart f h;
  keys = λ f g key a b. fine.keys f g key (ap (λ ps. key_of_row (row_of ps)) (sym (here f)) ∙ a) (ap (λ ps. key_of_row (row_of ps)) (sym (here g)) ∙ b);
}

-- the pages in frame f are others
pub record FrameMoves (ps qs : List Place) (f : ℕ) (row : FrameRow) : Type 0 where
  pub inside : Stands f (in_frame f qs) row
  pub others : (g : ℕ) → g ≢ f → in_frame g qs ≡ in_frame g ps
  pub slots : (i : ℕ) → in_slot i qs ≡ in_slot i ps

-- no other frame is shared under the key of a row
abbrev pub IsFresh : List Place → ℕ → FrameRow → Type 0
IsFresh ps f row = (g key : ℕ) → key_of_row row ≡ Some key → key_of_row (row_of (in_frame g ps)) ≡ Some key → g ≡ f

pub frames_move : (n : ℕ) (ps qs : List Place) (os : List ℕ) (f : ℕ) (row : FrameRow) → AreFrames n ps os → FrameMoves ps qs f row → is_listed f os ≡ false → IsFresh ps f row → AreFrames n qs os
frames_move n ps qs os f row fine moves clear fresh = record {
  alike = λ g. elim (cases_eq g f) [
    | inl e ↦ (let P : ℕ → Type 0 = λ k. in_frame k qs ≡ pages_for k (row_of (in_frame k qs)) in subst P (sym e) (stands_alike f (in_frame f qs) row moves.inside))
    | inr other ↦ moves.others g other ∙ fine.alike g ∙ ap (λ ps. pages_for g (row_of ps)) (sym (moves.others g other))
  ];
  single = λ i. moves.slots i ∙ fine.single i ∙ ap (λ ps. pages_out_for i (slot_of ps)) (sym (moves.slots i));
  below = fine.below;
  once = fine.once;
  apart = λ g h. elim (cases_eq g f) [
    | inl e ↦ absurd (false≢true (sym (ap (λ j. is_listed j os) e ∙ clear) ∙ h))
    | inr other ↦ moves.others g other ∙ fine.apart g h
  ];
  keys = λ g h key a b. elim (cases_eq g f) [
    | inl e ↦ elim (cases_eq h f) [
      | inl d ↦ e ∙ sym d
      | inr other ↦ e ∙ sym (fresh h key (here g key e a) (there h key other b))
    ]
    | inr mine ↦ elim (cases_eq h f) [
      | inl d ↦ fresh g key (here h key d b) (there g key mine a) ∙ sym d
      | inr other ↦ fine.keys g h key (there g key mine a) (there h key other b)
    ]
  ];
}
  where
    here : (g key : ℕ) → g ≡ f → key_of_row (row_of (in_frame g qs)) ≡ Some key → key_of_row row ≡ Some key
    here g key e a = ap key_of_row (sym moves.inside.is) ∙ ap (λ k. key_of_row (row_of (in_frame k qs))) (sym e) ∙ a

    there : (g key : ℕ) → g ≢ f → key_of_row (row_of (in_frame g qs)) ≡ Some key → key_of_row (row_of (in_frame g ps)) ≡ Some key
    there g key other a = ap (λ ps. key_of_row (row_of ps)) (sym (moves.others g other)) ∙ a

-- the page in slot i is another
pub record SlotMoves (ps qs : List Place) (i : ℕ) (row : SlotRow) : Type 0 where
  pub inside : StandsOut i (in_slot i qs) row
  pub others : (g : ℕ) → g ≢ i → in_slot g qs ≡ in_slot g ps
  pub frames : (f : ℕ) → in_frame f qs ≡ in_frame f ps

pub slots_move : (n : ℕ) (ps qs : List Place) (os : List ℕ) (i : ℕ) (row : SlotRow) → AreFrames n ps os → SlotMoves ps qs i row → AreFrames n qs os
slots_move n ps qs os i row fine moves = record {
  alike = λ f. moves.frames f ∙ fine.alike f ∙ ap (λ ps. pages_for f (row_of ps)) (sym (moves.frames f));
  single = λ g. elim (cases_eq g i) [
    | inl e ↦ (let P : ℕ → Type 0 = λ k. in_slot k qs ≡ pages_out_for k (slot_of (in_slot k qs)) in subst P (sym e) (out_alike i (in_slot i qs) row moves.inside))
    | inr other ↦ moves.others g other ∙ fine.single g ∙ ap (λ ps. pages_out_for g (slot_of ps)) (sym (moves.others g other))
  ];
  below = fine.below;
  once = fine.once;
  apart = λ f h. moves.frames f ∙ fine.apart f h;
  keys = λ f g key a b. fine.keys f g key (ap (λ ps. key_of_row (row_of ps)) (sym (moves.frames f)) ∙ a) (ap (λ ps. key_of_row (row_of ps)) (sym (moves.frames g)) ∙ b);
}

-- the page is in no frame and no slot
pub record IsNowhere (p : Place) : Type 0 where
  pub here : (f : ℕ) → is_here_at f p ≡ false
  pub out : (i : ℕ) → is_out_at i p ≡ false

pub untouched_nowhere : IsNowhere Untouched
untouched_nowhere = record { here = λ f. refl; out = λ i. refl }

pub lent_nowhere : (e : ℕ) → IsNowhere (Lent e)
lent_nowhere e = record { here = λ f. refl; out = λ i. refl }

-- a frame with a page is no overhead
pub clear_where : (n : ℕ) (ps : List Place) (os : List ℕ) (f : ℕ) (fs bs : List Place) (p : Place) → AreFrames n ps os → in_frame f ps ≡ fs ++ p ∷ bs → is_listed f os ≡ false
clear_where n ps os f fs bs p fine h = of (is_listed f os) refl
  where
    of : (b : Bool) → is_listed f os ≡ b → is_listed f os ≡ false
    of false e = e
    of true e = absurd (not_none fs bs p (sym h ∙ fine.apart f e))

less_key : (row : FrameRow) (key : ℕ) → key_of_row (less row) ≡ Some key → key_of_row row ≡ Some key
less_key frames.Free key h = h
less_key frames.Overhead key h = h
less_key (frames.Private bytes) key h = cc
less_key (frames.Shared count bytes) key h = of _ h
  where
    of : (b : Bool) → key_of_row (cond b (frames.Shared (count - 1) bytes) frames.Free) ≡ Some key → Some (content_key bytes) ≡ Some key
    of true e = e
    of false e = cc

pub frame_left : (n : ℕ) (ps qs : List Place) (os : List ℕ) (bytes : List ℕ) (f : ℕ) (shared : Bool) (q : Place) → AreFrames n ps os → Changed (Here bytes f shared) q ps qs → IsNowhere q
    → FrameMoves ps qs f (less (row_of (in_frame f ps)))
frame_left n ps qs os bytes f shared q fine ch away =
    let p : Place = Here bytes f shared in
    let fs = filter (is_here_at f) ch.front in
    let bs = filter (is_here_at f) ch.back in
    let before : in_frame f ps ≡ fs ++ p ∷ bs = filter_before (is_here_at f) p q ps qs ch ∙ ap (λ b. fs ++ cond b (p ∷ bs) bs) (eqb_same f) in
    let after : in_frame f qs ≡ fs ++ bs = filter_after (is_here_at f) p q ps qs ch ∙ ap (λ b. fs ++ cond b (q ∷ bs) bs) (away.here f) in
    let P : List Place → Type 0 = λ xs. Stands f xs (less (row_of (in_frame f ps))) in
    record {
      inside = subst P (sym after) (left_by f fs bs p (row_of (in_frame f ps)) (sym before ∙ fine.alike f));
      others = λ k other. filter_neither (is_here_at k) p q ps qs ch (eqb_other f k other) (away.here k);
      slots = λ i. filter_neither (is_out_at i) p q ps qs ch refl (away.out i);
    }

pub frame_before : (ps qs : List Place) (bytes : List ℕ) (f : ℕ) (shared : Bool) (q : Place) (ch : Changed (Here bytes f shared) q ps qs)
    → in_frame f ps ≡ filter (is_here_at f) ch.front ++ Here bytes f shared ∷ filter (is_here_at f) ch.back
frame_before ps qs bytes f shared q ch =
    let p : Place = Here bytes f shared in
    let fs = filter (is_here_at f) ch.front in
    let bs = filter (is_here_at f) ch.back in
    filter_before (is_here_at f) p q ps qs ch ∙ ap (λ b. fs ++ cond b (p ∷ bs) bs) (eqb_same f)

pub slot_left : (n : ℕ) (ps qs : List Place) (os : List ℕ) (bytes : List ℕ) (i : ℕ) (q : Place) → AreFrames n ps os → Changed (Out bytes i) q ps qs → IsNowhere q → SlotMoves ps qs i slots.Free
slot_left n ps qs os bytes i q fine ch away =
    let p : Place = Out bytes i in
    let fs = filter (is_out_at i) ch.front in
    let bs = filter (is_out_at i) ch.back in
    let before : in_slot i ps ≡ fs ++ p ∷ bs = filter_before (is_out_at i) p q ps qs ch ∙ ap (λ b. fs ++ cond b (p ∷ bs) bs) (eqb_same i) in
    let after : in_slot i qs ≡ fs ++ bs = filter_after (is_out_at i) p q ps qs ch ∙ ap (λ b. fs ++ cond b (q ∷ bs) bs) (away.out i) in
    let P : List Place → Type 0 = λ xs. StandsOut i xs slots.Free in
    record {
      inside = subst P (sym after) (left_out_by i fs bs p (slot_of (in_slot i ps)) (sym before ∙ fine.single i));
      others = λ k other. filter_neither (is_out_at k) p q ps qs ch (eqb_other i k other) (away.out k);
      frames = λ f. filter_neither (is_here_at f) p q ps qs ch refl (away.here f);
    }

-- a page leaves its place
pub page_leaves : (n : ℕ) (ps qs : List Place) (os : List ℕ) (p q : Place) → AreFrames n ps os → Changed p q ps qs → IsNowhere q → AreFrames n qs os
page_leaves n ps qs os Untouched q fine ch away =
    frames_same n ps qs os fine (λ f. filter_neither (is_here_at f) Untouched q ps qs ch refl (away.here f)) (λ i. filter_neither (is_out_at i) Untouched q ps qs ch refl (away.out i))
page_leaves n ps qs os (Lent e) q fine ch away =
    frames_same n ps qs os fine (λ f. filter_neither (is_here_at f) (Lent e) q ps qs ch refl (away.here f)) (λ i. filter_neither (is_out_at i) (Lent e) q ps qs ch refl (away.out i))
page_leaves n ps qs os (Here bytes f shared) q fine ch away =
    let row = row_of (in_frame f ps) in
    frames_move n ps qs os f (less row) fine (frame_left n ps qs os bytes f shared q fine ch away)
    (clear_where n ps os f (filter (is_here_at f) ch.front) (filter (is_here_at f) ch.back) (Here bytes f shared) fine (frame_before ps qs bytes f shared q ch))
    (λ g key a b. fine.keys g f key b (less_key row key a))
page_leaves n ps qs os (Out bytes i) q fine ch away = slots_move n ps qs os i slots.Free fine (slot_left n ps qs os bytes i q fine ch away)

-- there is room for a page
pub record FitsFrame (ps : List Place) (os : List ℕ) (bytes : List ℕ) (f : ℕ) (shared : Bool) : Type 0 where
  pub clear : is_listed f os ≡ false
  pub row : FitsRow bytes shared (row_of (in_frame f ps))
  pub fresh : shared ≡ true → (g : ℕ) → key_of_row (row_of (in_frame g ps)) ≡ Some (content_key bytes) → g ≡ f

abbrev pub FitsIn : List Place → List ℕ → Place → Type 0
FitsIn ps os Untouched = Unit {0}
FitsIn ps os (Here bytes f shared) = FitsFrame ps os bytes f shared
FitsIn ps os (Out bytes i) = slot_of (in_slot i ps) ≡ slots.Free
FitsIn ps os (Lent e) = Unit {0}

more_key : (bytes : List ℕ) (shared : Bool) (row : FrameRow) (key : ℕ) → FitsRow bytes shared row → key_of_row (more bytes shared row) ≡ Some key → (shared ≡ true) × (key ≡ content_key bytes)
more_key bytes false row key fits h = cc
more_key bytes true frames.Free key fits h = (refl, cc)
more_key bytes true frames.Overhead key fits h = absurd fits
more_key bytes true (frames.Private old) key fits h = absurd fits
more_key bytes true (frames.Shared count old) key fits h = (refl, (let e = fits.1 in let d = ap content_key e in cc))

pub frame_joined : (n : ℕ) (ps qs : List Place) (os : List ℕ) (p : Place) (bytes : List ℕ) (f : ℕ) (shared : Bool) → AreFrames n ps os → Changed p (Here bytes f shared) ps qs → IsNowhere p
    → FitsRow bytes shared (row_of (in_frame f ps)) → FrameMoves ps qs f (more bytes shared (row_of (in_frame f ps)))
frame_joined n ps qs os p bytes f shared fine ch away fits =
    let q : Place = Here bytes f shared in
    let fs = filter (is_here_at f) ch.front in
    let bs = filter (is_here_at f) ch.back in
    let before : in_frame f ps ≡ fs ++ bs = filter_before (is_here_at f) p q ps qs ch ∙ ap (λ b. fs ++ cond b (p ∷ bs) bs) (away.here f) in
    let after : in_frame f qs ≡ fs ++ q ∷ bs = filter_after (is_here_at f) p q ps qs ch ∙ ap (λ b. fs ++ cond b (q ∷ bs) bs) (eqb_same f) in
    let P : List Place → Type 0 = λ xs. Stands f xs (more bytes shared (row_of (in_frame f ps))) in
    record {
      inside = subst P (sym after) (come_by f fs bs bytes shared (row_of (in_frame f ps)) (sym before ∙ fine.alike f) fits);
      others = λ k other. filter_neither (is_here_at k) p q ps qs ch (away.here k) (eqb_other f k other);
      slots = λ i. filter_neither (is_out_at i) p q ps qs ch (away.out i) refl;
    }

pub slot_joined : (n : ℕ) (ps qs : List Place) (os : List ℕ) (p : Place) (bytes : List ℕ) (i : ℕ) → AreFrames n ps os → Changed p (Out bytes i) ps qs → IsNowhere p
    → slot_of (in_slot i ps) ≡ slots.Free → SlotMoves ps qs i (slots.Held bytes)
slot_joined n ps qs os p bytes i fine ch away free =
    let q : Place = Out bytes i in
    let fs = filter (is_out_at i) ch.front in
    let bs = filter (is_out_at i) ch.back in
    let before : in_slot i ps ≡ fs ++ bs = filter_before (is_out_at i) p q ps qs ch ∙ ap (λ b. fs ++ cond b (p ∷ bs) bs) (away.out i) in
    let after : in_slot i qs ≡ fs ++ q ∷ bs = filter_after (is_out_at i) p q ps qs ch ∙ ap (λ b. fs ++ cond b (q ∷ bs) bs) (eqb_same i) in
    let P : List Place → Type 0 = λ xs. StandsOut i xs (slots.Held bytes) in
    record {
      inside = subst P (sym after) (come_out_by i fs bs bytes (slot_of (in_slot i ps)) (sym before ∙ fine.single i) free);
      others = λ k other. filter_neither (is_out_at k) p q ps qs ch (away.out k) (eqb_other i k other);
      frames = λ f. filter_neither (is_here_at f) p q ps qs ch (away.here f) refl;
    }

-- a page that was nowhere comes to a place
pub page_joins : (n : ℕ) (ps qs : List Place) (os : List ℕ) (p q : Place) → AreFrames n ps os → Changed p q ps qs → IsNowhere p → FitsIn ps os q → AreFrames n qs os
page_joins n ps qs os p Untouched fine ch away fits =
    frames_same n ps qs os fine (λ f. filter_neither (is_here_at f) p Untouched ps qs ch (away.here f) refl) (λ i. filter_neither (is_out_at i) p Untouched ps qs ch (away.out i) refl)
page_joins n ps qs os p (Lent e) fine ch away fits =
    frames_same n ps qs os fine (λ f. filter_neither (is_here_at f) p (Lent e) ps qs ch (away.here f) refl) (λ i. filter_neither (is_out_at i) p (Lent e) ps qs ch (away.out i) refl)
page_joins n ps qs os p (Here bytes f shared) fine ch away fits =
    let row = row_of (in_frame f ps) in
    frames_move n ps qs os f (more bytes shared row) fine (frame_joined n ps qs os p bytes f shared fine ch away fits.row) fits.clear
    (λ g key a b. (let k = more_key bytes shared row key fits.row a in fits.fresh k.0 g (b ∙ ap Some k.1)))
page_joins n ps qs os p (Out bytes i) fine ch away fits = slots_move n ps qs os i (slots.Held bytes) fine (slot_joined n ps qs os p bytes i fine ch away fits)

-- Where a page goes from one place to another, by way of nowhere.

abbrev pub between : (p q : Place) (ps qs : List Place) → Changed p q ps qs → List Place
between p q ps qs ch = ch.front ++ Untouched ∷ ch.back

abbrev pub goes_off : (p q : Place) (ps qs : List Place) (ch : Changed p q ps qs) → Changed p Untouched ps (between p q ps qs ch)
goes_off p q ps qs ch = record { front = ch.front; back = ch.back; before = ch.before; after = refl }

abbrev pub comes_on : (p q : Place) (ps qs : List Place) (ch : Changed p q ps qs) → Changed Untouched q (between p q ps qs ch) qs
comes_on p q ps qs ch = record { front = ch.front; back = ch.back; before = refl; after = ch.after }

pub page_moves : (n : ℕ) (ps qs : List Place) (os : List ℕ) (p q : Place) (ch : Changed p q ps qs) → AreFrames n ps os
    → (AreFrames n (between p q ps qs ch) os → FitsIn (between p q ps qs ch) os q) → AreFrames n qs os
page_moves n ps qs os p q ch fine fits =
    let mid = between p q ps qs ch in
    let off = page_leaves n ps mid os p Untouched fine (goes_off p q ps qs ch) untouched_nowhere in
    page_joins n mid qs os Untouched q off (comes_on p q ps qs ch) untouched_nowhere (fits off)

-- what is in a frame and a slot on the way
pub on_the_way : (p q : Place) (ps qs : List Place) (ch : Changed p q ps qs) (f : ℕ)
    → in_frame f (between p q ps qs ch) ≡ filter (is_here_at f) ch.front ++ filter (is_here_at f) ch.back
on_the_way p q ps qs ch f = filter_after (is_here_at f) p Untouched ps (between p q ps qs ch) (goes_off p q ps qs ch)

none_either : {X : Type 0} (b : Bool) (x : X) (fs bs : List X) → fs ++ cond b (x ∷ bs) bs ≡ [] → fs ++ bs ≡ []
none_either true x fs bs h = absurd (not_none fs bs x h)
none_either false x fs bs h = h

pub none_on_the_way : (p q : Place) (ps qs : List Place) (ch : Changed p q ps qs) (f : ℕ) → in_frame f ps ≡ [] → in_frame f (between p q ps qs ch) ≡ []
none_on_the_way p q ps qs ch f none =
    on_the_way p q ps qs ch f ∙ none_either (is_here_at f p) p (filter (is_here_at f) ch.front) (filter (is_here_at f) ch.back) (sym (filter_before (is_here_at f) p q ps qs ch) ∙ none)

pub no_slot_on_the_way : (p q : Place) (ps qs : List Place) (ch : Changed p q ps qs) (i : ℕ) → in_slot i ps ≡ [] → in_slot i (between p q ps qs ch) ≡ []
no_slot_on_the_way p q ps qs ch i none =
    filter_after (is_out_at i) p Untouched ps (between p q ps qs ch) (goes_off p q ps qs ch)
    ∙ none_either (is_out_at i p) p (filter (is_out_at i) ch.front) (filter (is_out_at i) ch.back) (sym (filter_before (is_out_at i) p q ps qs ch) ∙ none)

pub one_left : {X : Type 0} (fs bs : List X) (x : X) → length (fs ++ x ∷ bs) ≤ 1 → fs ++ bs ≡ []
one_left [] [] x h = refl
one_left [] (b ∷ bs) x h = absurd (omega arith)
one_left (f ∷ fs) bs x h = absurd (let e = length-append fs (x ∷ bs) in omega arith)

-- a page that is alone in its frame leaves it free
pub alone_on_the_way : (b : List ℕ) (f : ℕ) (sh : Bool) (q : Place) (ps qs : List Place) (ch : Changed (Here b f sh) q ps qs) → length (in_frame f ps) ≤ 1
    → in_frame f (between (Here b f sh) q ps qs ch) ≡ []
alone_on_the_way b f sh q ps qs ch one =
    let P : List Place → Type 0 = λ xs. length xs ≤ 1 in
    on_the_way (Here b f sh) q ps qs ch f
    ∙ one_left (filter (is_here_at f) ch.front) (filter (is_here_at f) ch.back) (Here b f sh) (subst P (frame_before ps qs b f sh q ch) one)

-- other frames
pub others_on_the_way : (p q : Place) (ps qs : List Place) (ch : Changed p q ps qs) (f : ℕ) → is_here_at f p ≡ false → in_frame f (between p q ps qs ch) ≡ in_frame f ps
others_on_the_way p q ps qs ch f other = filter_neither (is_here_at f) p Untouched ps (between p q ps qs ch) (goes_off p q ps qs ch) other refl

-- into a frame that nobody is in
pub fits_free : (ps : List Place) (os : List ℕ) (bytes : List ℕ) (f : ℕ) → is_listed f os ≡ false → in_frame f ps ≡ [] → FitsFrame ps os bytes f false
fits_free ps os bytes f clear none =
    let P : List Place → Type 0 = λ xs. FitsRow bytes false (row_of xs) in
    record { clear = clear; row = subst P (sym none) tt; fresh = λ e. absurd (false≢true e) }

-- to be shared in a frame that nobody is in, where no frame is shared under the key
pub fits_new_share : (ps : List Place) (os : List ℕ) (bytes : List ℕ) (f : ℕ) → is_listed f os ≡ false → in_frame f ps ≡ []
    → ((g : ℕ) → key_of_row (row_of (in_frame g ps)) ≡ Some (content_key bytes) → g ≡ f) → FitsFrame ps os bytes f true
fits_new_share ps os bytes f clear none fresh =
    let P : List Place → Type 0 = λ xs. FitsRow bytes true (row_of xs) in
    record { clear = clear; row = subst P (sym none) tt; fresh = λ e. fresh }

-- into a frame that is shared with the same bytes
pub fits_share : (n : ℕ) (ps : List Place) (os : List ℕ) (bytes : List ℕ) (f count : ℕ) → AreFrames n ps os → is_listed f os ≡ false → row_of (in_frame f ps) ≡ frames.Shared count bytes
    → FitsFrame ps os bytes f true
fits_share n ps os bytes f count fine clear is =
    let P : FrameRow → Type 0 = FitsRow bytes true in
    record { clear = clear; row = subst P (sym is) (refl, refl); fresh = λ e g h. fine.keys g f (content_key bytes) h (ap key_of_row is) }

-- Overhead frames that come and go.

pub frames_listed : (n : ℕ) (ps : List Place) (os ns : List ℕ) → AreFrames n ps os → AllByRecursion (λ f. f < n) ns → ((f : ℕ) → count_by (λ g. g == f) ns ≤ 1)
    → ((f : ℕ) → is_listed f ns ≡ true → in_frame f ps ≡ []) → AreFrames n ps ns
frames_listed n ps os ns fine below once apart = record {
  alike = fine.alike;
  single = fine.single;
  below = below;
  once = once;
  apart = apart;
  keys = fine.keys;
}

or_nothing : (b : Bool) → b ≡ (b || false)
or_nothing true = refl
or_nothing false = refl

pub frames_more : (n : ℕ) (ps : List Place) (os ns : List ℕ) (f : ℕ) → AreFrames n ps os → Inserted f os ns → f < n → in_frame f ps ≡ [] → is_listed f os ≡ false → AreFrames n ps ns
frames_more n ps os ns f fine i below none clear = frames_listed n ps os ns fine (all_more (λ f. f < n) f os ns i below fine.below) (λ g. once g (f == g) refl) (λ g h. apart g (f == g) refl h)
  where
    once : (g : ℕ) (t : Bool) → (f == g) ≡ t → count_by (λ h. h == g) ns ≤ 1
    once g false e = (let more = counted_more (λ h. h == g) f os ns i in let none : one (f == g) ≡ 0 = ap one e in let old = fine.once g in omega (arith, more, none, old))
    once g true e =
        let same : f ≡ g = grind (arith, nat_tests) in
        let P : ℕ → Type 0 = λ k. is_listed k os ≡ false in
        let more = counted_more (λ h. h == g) f os ns i in
        let some : one (f == g) ≡ 1 = ap one e in
        let old = none_listed g os (subst P same clear) in
        omega (arith, more, some, old)

    apart : (g : ℕ) (t : Bool) → (f == g) ≡ t → is_listed g ns ≡ true → in_frame g ps ≡ []
    apart g true e h = (let same : f ≡ g = grind (arith, nat_tests) in let P : ℕ → Type 0 = λ k. in_frame k ps ≡ [] in subst P same none)
    apart g false e h = fine.apart g (or_nothing (is_listed g os) ∙ ap (λ b. is_listed g os || b) (sym e) ∙ sym (listed_more (λ h. h == g) f os ns i) ∙ h)

pub frames_fewer : (n : ℕ) (ps : List Place) (os ns : List ℕ) (f : ℕ) → AreFrames n ps os → Inserted f ns os → AreFrames n ps ns
frames_fewer n ps os ns f fine i = frames_listed n ps os ns fine (all_fewer (λ f. f < n) f ns os i fine.below) once
    (λ g h. fine.apart g (listed_more (λ h. h == g) f ns os i ∙ ap (λ b. b || (f == g)) h))
  where
    once : (g : ℕ) → count_by (λ h. h == g) ns ≤ 1
    once g = (let more = counted_more (λ h. h == g) f ns os i in let old = fine.once g in omega (arith, more, old))
