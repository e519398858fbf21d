-- The line of a call begins with a lower-case letter.
use Rattle.std.proofs.Common.{◌≡◌, ℕ, List, [], ◌∷◌, true}
use Rattle.esx_events.specs.Names.{starts_lower}
use Rattle.esx_events.specs.declared.call.Call.{Call}
use Rattle.esx_reading.specs.Fields.{joined}
use Rattle.esx_words.specs.Verbs.{verb_word}
use Rattle.esx_words.proofs.VerbLemmas.{verb_starts}
use Rattle.esx_words.specs.Commands.{verb, verb_form, operands, operand_words, Spells}

lower_joined : (w : List ℕ) (ws : List (List ℕ)) → starts_lower w ≡ true → starts_lower (joined (w ∷ ws)) ≡ true
lower_joined [] ws h = absurd (cc)
lower_joined (b ∷ bs) [] h = h
lower_joined (b ∷ bs) (v ∷ vs) h = h

pub lower_command : (text : List ℕ) (call : Call) → Spells text call → starts_lower text ≡ true
lower_command text call is = rw is.spelled (lower_joined (verb_word (verb call)) (operand_words (verb_form (verb call)) (operands call)) (verb_starts (verb call)))
