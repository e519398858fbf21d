-- The invariant of an index after a change, and its start.
use Rattle.std.proofs.Common.{◌≡◌, ℕ, ◌/◌, ◌%◌, ◌^◌, ◌<◌, Bool, not, eqb, List, length, get_or, set, sym, ap, ◌∙◌, arith}
use Rattle.std.proofs.lemmas.Bool.{le-ltb}
use Rattle.std.proofs.lemmas.List.{length-map, length-set, map-set}
use Rattle.std.proofs.Math.Seq.{map-set_same}
use Rattle.esx_index.specs.Index.{StandsOver, IsIndex}
use Rattle.esx_index.specs.Marks.{MarksFirst}
use Rattle.esx_index.specs.Places.{has_mark}
use Rattle.esx_index.specs.declared.free.Above.{Above}
use Rattle.esx_index.specs.declared.free.Above.TheVariants.{Top, Words}
use Rattle.esx_index.proofs.Marks.{Remarked, marked-set_other, marks_first}

pub has_mark-set : (words : List ℕ) (j w : ℕ) → has_mark (set words j w) ≡ set (has_mark words) j (not (eqb w 0))
has_mark-set words j w = map-set (λ v. not (eqb v 0)) words j w

pub length-has_mark : (words : List ℕ) → length (has_mark words) ≡ length words
length-has_mark words = length-map words (λ w. not (eqb w 0))

pub index_set : (before after : Above) (len : ℕ) (words : List ℕ) (at w : ℕ) (free : Bool) → IsIndex before len words → at < len → Remarked (get_or words (at / 64) 0) w (at % 64) free → StandsOver after (set words (at / 64) w) → IsIndex after len (set words (at / 64) w)
index_set before after len words at w free i h r over = record {
  fits = i.fits;
  enough = rw length-set i.enough;
  within = λ k l. let row : at / 64 < length words = (let e = i.enough in omega arith) in
      marked-set_other words at w k free row r (λ e. omega arith) ∙ i.within k l;
  over = over;
}

pub index_new : (above : Above) (len : ℕ) (words : List ℕ) → MarksFirst len words → len < 2 ^ 64 → StandsOver above words → IsIndex above len words
index_new above len words m small over = record {
  fits = small;
  enough = m.enough;
  within = λ k l. marks_first len words m k ∙ le-ltb k len l;
  over = over;
}

-- a word that has a mark where the one before it had one is told to nobody
pub StandsOver-kept : (above : Above) (words : List ℕ) (j w : ℕ) → eqb (get_or words j 0) 0 ≡ eqb w 0 → StandsOver above words → StandsOver above (set words j w)
StandsOver-kept Top words j w same over = rw length-set over
StandsOver-kept (Words index) words j w same over = (rw length-set over.0, over.1 ∙ sym (map-set_same (λ v. not (eqb v 0)) words j w 0 (sym (ap not same))))
