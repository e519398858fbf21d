-- One of two sinks.
use Rattle.std.specs.Prelude.{Bool, true, false}
use Rattle.esx_program.specs.declared.behind.End.{End}
use Rattle.esx_program.specs.declared.behind.End.TheVariants.{Writer, Questions}

-- what is known of the one that it is
abbrev pub of_end : {W Q A : Type 0} → (W → A) → (Q → A) → End W Q → A
of_end of_writer of_questions (Writer writer) = of_writer writer
of_end of_writer of_questions (Questions questions) = of_questions questions

-- it is the second
abbrev pub is_questions : {W Q : Type 0} → End W Q → Bool
is_questions (Writer writer) = false
is_questions (Questions questions) = true
