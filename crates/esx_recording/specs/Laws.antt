-- Which lines of a text are kept, and that none of a reply is.
use Rattle.std.specs.Prelude.{ℕ, Bool, false, List, [], ◌∷◌, ◌++◌, ◌≡◌, ◌==◌, if◌then◌else◌}
use Rattle.std.specs.List.{filter, flat_map}
use Rattle.esx_events.specs.declared.call.Reply.{Reply}
use Rattle.esx_replies.specs.Replies.{reply_text}
use Rattle.esx_replies.specs.Told.{HasNames}
use Rattle.esx_text.specs.Lines.{EndsIn}
use Rattle.esx_recording.specs.Questions.{question_lines}

-- the line begins with a question mark
abbrev pub asks : List ℕ → Bool
asks [] = false
asks (b ∷ bs) = b == 63

-- those of a text's lines that begin with a question mark are kept whole, also one that no line feed ends
abbrev pub KeepsQuestions : List ℕ → Type 0
KeepsQuestions text = (ended : List (List ℕ)) (rest : List ℕ) → EndsIn text ended rest
    → question_lines text ≡ flat_map (λ line. line ++ 10 ∷ []) (filter asks ended) ++ (if asks rest then rest else [])

-- no line of a reply begins with a question mark, where the names that it tells are names
abbrev pub DropsReply : Reply → Type 0
DropsReply reply = HasNames reply.said → question_lines (reply_text reply) ≡ []
