-- The line of a call: its fields, and that it has them of one call only.
use Rattle.std.proofs.Common.{◌≡◌, ◌<◌, ◌^◌, ℕ, List, [], ◌∷◌, ◌++◌, decimal, arith, refl, sym, ap, ◌∙◌}
use Rattle.std.proofs.Math.Dec.{eqb}
use Rattle.std.proofs.lemmas.List.Splits.{slice_split_at}
use Rattle.std.proofs.lemmas.Fmt.{decimal_injective}
use Rattle.esx_types.specs.declared.config.TheConstants.{CALLERS}
use Rattle.esx_types.specs.declared.version.Version.{Version}
use Rattle.esx_types.specs.declared.version.Version.TheVariants.{One, Two}
use Rattle.esx_types.specs.Versions.{callers}
use Rattle.esx_events.specs.declared.call.Call.{Call}
use Rattle.esx_reading.specs.Fields.{fields, joined}
use Rattle.esx_reading.proofs.FieldLemmas.{no_space_in_decimal, joined_of_fields, some_field, others_of}
use Rattle.esx_words.specs.Commands.{spelling, Spells}
use Rattle.esx_words.proofs.CommandLemmas.{one_call}
use Rattle.esx_session.specs.Reading.{SpellsCall}

pub small_caller : (n : ℕ) → n < CALLERS → n < 2 ^ 64
small_caller n h = omega (arith, h)

-- a caller of a version is one of all
pub known_caller : (version : Version) (n : ℕ) → n < callers version → n < CALLERS
known_caller One n h = omega (arith, h)
known_caller Two n h = h

pub small_known : (version : Version) (n : ℕ) → n < callers version → n < 2 ^ 64
small_known version n h = small_caller n (known_caller version n h)

-- the first field is the caller
pub fields_of_call : (version : Version) (line : List ℕ) (caller : ℕ) (call : Call) → SpellsCall version line caller call → fields line ≡ decimal caller ∷ fields (spelling call)
fields_of_call version line caller call is =
    ap fields is.spelled ∙ slice_split_at (λ b. eqb b 32) (decimal caller) 32 (spelling call) (no_space_in_decimal caller (small_known version caller is.known)).each refl

head_of : (x y : List ℕ) (xs ys : List (List ℕ)) → x ∷ xs ≡ y ∷ ys → x ≡ y
head_of x y xs ys e = cc

-- the two parts of the line
pub parts_of_call : (version : Version) (line number command : List ℕ) → fields line ≡ number ∷ fields command → (caller : ℕ) (call : Call) → SpellsCall version line caller call
    → (number ≡ decimal caller) × Spells command call
parts_of_call version line number command cut caller call is =
    let both = sym cut ∙ fields_of_call version line caller call is in (
      head_of _ _ _ _ both,
      record { range = is.range; spelled = sym (joined_of_fields command) ∙ ap joined (others_of _ _ _ _ both) ∙ joined_of_fields (spelling call) },
    )

-- a line by its first field and the text behind it
joined_more : (word : List ℕ) (words : List (List ℕ)) → (words ≡ [] → ⊥) → joined (word ∷ words) ≡ word ++ 32 ∷ joined words
joined_more word [] some = absurd (some refl)
joined_more word (next ∷ words) some = refl

pub line_of_parts : (line number command : List ℕ) → fields line ≡ number ∷ fields command → line ≡ number ++ 32 ∷ command
line_of_parts line number command cut =
    sym (joined_of_fields line) ∙ ap joined cut ∙ joined_more number (fields command) (some_field command) ∙ ap (λ v. number ++ 32 ∷ v) (joined_of_fields command)

-- a line is that of one call by one caller
pub one_spelled : (version : Version) (line : List ℕ) (caller other : ℕ) (call same : Call) → SpellsCall version line caller call → SpellsCall version line other same
    → (caller ≡ other) × (call ≡ same)
one_spelled version line caller other call same p q =
    let parts = parts_of_call version line (decimal caller) (spelling call) (fields_of_call version line caller call p) other same q in (
      decimal_injective caller other (small_known version caller p.known) (small_known version other q.known) parts.0,
      one_call (spelling call) call same (record { range = p.range; spelled = refl }) parts.1,
    )
