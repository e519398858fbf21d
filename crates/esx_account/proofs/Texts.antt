-- The text of a session has no fault.
use Rattle.std.proofs.Common.{◌≡◌, ℕ, List, drop, map, refl, sym, subst, inl, inr}
use Rattle.std.specs.Str.Lines.{lines}
use Rattle.std.proofs.lemmas.List.{take-append-drop}
use Rattle.esx_types.specs.declared.config.Config.{Config}
use Rattle.esx_reading.specs.declared.fault.TextFault.{TextFault}
use Rattle.esx_reading.specs.declared.fault.TextFault.TheVariants.{NotToml, BadKey, BadLine, NotText, Differs, Read, Write, OutOfMemory}
use Rattle.esx_session.specs.declared.session.Entry.{Entry}
use Rattle.esx_session.specs.declared.session.Request.{Request}
use Rattle.esx_session.specs.Sessions.{Reads, Tells, StopsAt, IsRefused, request}
use Rattle.esx_paths.specs.declared.path.Path.{Path}
use Rattle.esx_account.specs.Surveying.{IsPathOf}
use Rattle.esx_account.specs.Texts.{IsPathIn}

never_stops : (n : ℕ) (told : List (List ℕ)) (site : Config) (entries : List Entry) → Tells told site entries → StopsAt n told → ⊥
never_stops n told site entries tells stops =
    elim stops.here [
      | inl within ↦ (let P : List (List ℕ) → Type 0 = λ ls. Tells ls site entries in within.1 (drop n told, site, entries, subst P (sym (take-append-drop n told)) tells))
      | inr none ↦ none.1 site entries tells
    ]

pub want_of_memory : (fault : TextFault) (text : List ℕ) (site : Config) (entries : List Entry) → Reads text site entries → IsRefused fault text → fault ≡ OutOfMemory
want_of_memory NotToml text site entries reads refused = absurd refused
want_of_memory (BadKey key) text site entries reads refused = absurd refused
want_of_memory (BadLine n) text site entries reads refused = absurd (never_stops n (lines text) site entries reads refused)
want_of_memory NotText text site entries reads refused = absurd refused
want_of_memory (Differs n) text site entries reads refused = absurd refused
want_of_memory Read text site entries reads refused = absurd refused
want_of_memory Write text site entries reads refused = absurd refused
want_of_memory OutOfMemory text site entries reads refused = refl

-- the calls that were read are those of the session
pub is_path : (text : List ℕ) (site : Config) (entries : List Entry) (requests : List Request) (told : Path) → requests ≡ map request entries → IsPathIn text site entries told → IsPathOf site entries requests told
is_path text site entries requests told calls is = record { calls = calls; path = is.path }

-- and so they are at the site that was read
pub is_path_there : (text : List ℕ) (site there : Config) (entries : List Entry) (requests : List Request) (told : Path) → there ≡ site → requests ≡ map request entries → IsPathIn text site entries told
    → IsPathOf there entries requests told
is_path_there text site there entries requests told same calls is =
    let P : Config → Type 0 = λ c. IsPathOf c entries requests told in
    subst P (sym same) (is_path text site entries requests told calls is)
