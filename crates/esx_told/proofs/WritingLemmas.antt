-- Texts of which a part is held when they are written.
use Rattle.std.proofs.Common.{ℕ, List, ◌++◌, Option, Result, Ok, Err, sym, ◌∙◌, ap, append_assoc}
use Rattle.esx_writing.proofs.WritingLemmas.{appends_more}
use Rattle.esx_writing.specs.Writing.{Writes, Passes}

-- what was held at first, and a text
pub writes_held : {T E : Type 0} (a b c : Option (List ℕ)) (before held text : List ℕ) (r : Result T E)
    → Passes a before b held text → Writes b c held r → Writes a c (before ++ text) r
writes_held a b c before held text (Ok v) p w = rw p.1 (appends_more a b c p.0 held p.2 w)
writes_held a b c before held text (Err e) p w =
    (p.0 ++ w.0, w.1, p.1 ∙ ap (λ v. p.0 ++ v) w.2 ∙ sym (append_assoc p.0 w.0 w.1), appends_more a b c p.0 w.0 p.2 w.3)
