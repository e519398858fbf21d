-- Names, and the nodes that have them.
use Rattle.std.proofs.Common.{◌≡◌, ℕ, Bool, true, false, cond, ◌||◌, List, [], ◌∷◌, ◌++◌, Ok, Err, refl, sym, ap, ◌∙◌, Option, Some, None, option_map, is_some, find, bytes_eq}
use Rattle.std.specs.List.{list_any}
use Rattle.std.proofs.lemmas.Slice.Eq.{bytes_eq-Decides}
use Rattle.std.proofs.lemmas.List.Elements.{All-head, All-tail}
use Rattle.esx_events.specs.Names.{IsName, is_name}
use Rattle.esx_events.specs.declared.call.NameRow.{NameRow}
use Rattle.esx_events.specs.declared.event.Refusal.TheVariants.{NoSuchName, NameTaken}
use Rattle.esx_model.specs.Tree.{Move}
use Rattle.esx_model.specs.History.{History, cursor}
use Rattle.esx_model.specs.Branching.{named, go_to_mark, goto, visit, mark}
use Rattle.esx_journal.specs.Journal.{Kept, Aims}
use Rattle.esx_journal.specs.Marks.{node_named, AreNames}

either_way : (a b : List ℕ) → bytes_eq a b ≡ bytes_eq b a
either_way a b = of (bytes_eq a b) (bytes_eq b a) refl refl
  where
    of : (x y : Bool) → bytes_eq a b ≡ x → bytes_eq b a ≡ y → x ≡ y
    of true true p q = refl
    of false false p q = refl
    of true false p q = (let z = sym ((bytes_eq-Decides b a).1 (sym ((bytes_eq-Decides a b).0 p))) ∙ q in cc)
    of false true p q = (let z = sym p ∙ (bytes_eq-Decides a b).1 (sym ((bytes_eq-Decides b a).0 q)) in cc)

-- a name that is added behind the others is found, and the others as before
pub found_with : (name : List ℕ) (rows : List NameRow) (row : NameRow) → node_named row.name rows ≡ None
    → node_named name (rows ++ row ∷ []) ≡ cond (bytes_eq row.name name) (Some row.node) (node_named name rows)
found_with name [] row free = of (bytes_eq name row.name) ∙ ap (λ b. cond b (Some row.node) None) (either_way name row.name)
  where
    of : (b : Bool) → option_map (λ (r : NameRow). r.node) (cond b (Some row) None) ≡ cond b (Some row.node) None
    of true = refl
    of false = refl
found_with name (x ∷ rows) row free = of (bytes_eq name x.name) (bytes_eq row.name x.name) (bytes_eq row.name name) refl refl refl free (λ none. found_with name rows row none)
  where
    of : (a b c : Bool) → bytes_eq name x.name ≡ a → bytes_eq row.name x.name ≡ b → bytes_eq row.name name ≡ c
        → option_map (λ (r : NameRow). r.node) (cond b (Some x) (find (named row.name) rows)) ≡ None
        → (node_named row.name rows ≡ None → node_named name (rows ++ row ∷ []) ≡ cond (bytes_eq row.name name) (Some row.node) (node_named name rows))
        → option_map (λ (r : NameRow). r.node) (cond a (Some x) (find (named name) (rows ++ row ∷ [])))
        ≡ cond c (Some row.node) (option_map (λ (r : NameRow). r.node) (cond a (Some x) (find (named name) rows)))
    of a true c p q r none later = cc
    of false false c p q r none later = later none ∙ ap (λ z. cond z (Some row.node) (node_named name rows)) r
    of true false false p q r none later = refl
    of true false true p q r none later = (
        let one : name ≡ x.name = (bytes_eq-Decides name x.name).0 p in
        let two : row.name ≡ name = (bytes_eq-Decides row.name name).0 r in
        let z = sym q ∙ (bytes_eq-Decides row.name x.name).1 (two ∙ one) in cc)

-- what is no name, no row has
pub no_name : (name : List ℕ) (rows : List NameRow) → AreNames rows → is_name name ≡ false → node_named name rows ≡ None
no_name name [] all other = refl
no_name name (x ∷ rows) all other = of (bytes_eq name x.name) refl (no_name name rows (All-tail (λ (row : NameRow). IsName row.name) x rows all) other)
  where
    of : (b : Bool) → bytes_eq name x.name ≡ b → node_named name rows ≡ None → option_map (λ (row : NameRow). row.node) (cond b (Some x) (find (named name) rows)) ≡ None
    of false q rest = rest
    of true q rest = (let is : is_name name ≡ true = ap is_name ((bytes_eq-Decides name x.name).0 q) ∙ All-head (λ (row : NameRow). IsName row.name) x rows all in cc)

-- a name is taken where a node has it
pub taken : (name : List ℕ) (rows : List NameRow) → is_some (node_named name rows) ≡ list_any (named name) rows
taken name [] = refl
taken name (x ∷ rows) = of (named name x) (taken name rows)
  where
    of : (b : Bool) → is_some (node_named name rows) ≡ list_any (named name) rows
        → is_some (option_map (λ (row : NameRow). row.node) (cond b (Some x) (find (named name) rows))) ≡ (b || list_any (named name) rows)
    of true h = refl
    of false h = h

pub none_of : {A : Type 0} (o : Option A) → is_some o ≡ false → o ≡ None
none_of None h = refl
none_of (Some x) h = cc

pub visit_some : (name : List ℕ) (h : History) (n : ℕ) → node_named name h.marks ≡ Some n → visit name h ≡ goto n h
unfolding visit
visit_some name h n e = of (find (named name) h.marks) e
  where
    of : (o : Option NameRow) → option_map (λ (row : NameRow). row.node) o ≡ Some n → go_to_mark o h ≡ goto n h
    of None q = cc
    of (Some row) q = ap (λ k. goto k h) (let same : row.node ≡ n = cc in same)

pub visit_none : (name : List ℕ) (h : History) → node_named name h.marks ≡ None → visit name h ≡ Err NoSuchName
unfolding visit
visit_none name h e = of (find (named name) h.marks) e
  where
    of : (o : Option NameRow) → option_map (λ (row : NameRow). row.node) o ≡ None → go_to_mark o h ≡ Err NoSuchName
    of None q = refl
    of (Some row) q = cc

-- the history with a name for the cursor's node
abbrev pub with_name : List ℕ → History → History
with_name name h = record h { marks = h.marks ++ record { name = name; node = cursor h } ∷ [] }

pub mark_taken : (name : List ℕ) (h : History) → is_some (node_named name h.marks) ≡ true → mark name h ≡ Err NameTaken
unfolding mark
mark_taken name h e = ap (λ b. cond b (Err NameTaken) (Ok (with_name name h))) (sym (taken name h.marks) ∙ e)

pub mark_free : (name : List ℕ) (h : History) → is_some (node_named name h.marks) ≡ false → mark name h ≡ Ok (with_name name h)
unfolding mark
mark_free name h e = ap (λ b. cond b (Err NameTaken) (Ok (with_name name h))) (sym (taken name h.marks) ∙ e)

-- what is kept of the history with one more name
pub named_more : (j : Kept) (h : History) (aim : List Move) (name : List ℕ) (marks : List NameRow) → Aims j h aim → marks ≡ j.marks ++ record { name = name; node = j.cursor } ∷ []
    → Aims (record j { marks = marks }) (with_name name h) aim
named_more j h aim name marks k e = record {
  limit = k.limit;
  tree = k.tree;
  walk = k.walk;
  lasts = k.lasts;
  size = k.size;
  place = k.place;
  deep = k.deep;
  shows = k.shows;
  names = e ∙ ap (λ rows. rows ++ record { name = name; node = j.cursor } ∷ []) k.names ∙ ap (λ n. h.marks ++ record { name = name; node = n } ∷ []) k.place;
  whole = k.whole;
  way = k.way;
  each = λ n d fits. (let row = k.each n d fits in record { up = row.up; last = row.last; live = row.live; accepted = row.accepted; back = row.back });
}
