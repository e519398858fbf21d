-- A session that was written before a flush.
use Rattle.std.proofs.Common.{ℕ, List, [], Option, Result, Ok, Err, sym, append-nil}
use Rattle.std.specs.Io.KnownBytes.{Appends, Keeps}
use Rattle.esx_writing.specs.Writing.{Writes}
use Rattle.esx_recording.proofs.QuestionLemmas.{appends_kept}

pub writes_kept : {T E : Type 0} (r : Result T E) (a b c : Option (List ℕ)) (text : List ℕ) → Appends a b text → Keeps b c → Writes a c text r
writes_kept (Ok v) a b c text p k = appends_kept a b c text p k
writes_kept (Err e) a b c text p k = (text, [], sym (append-nil text), appends_kept a b c text p k)
