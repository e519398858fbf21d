-- The line by which a page goes out by its number: it is no call, and it makes a swap-out by the page's word.
use Rattle.std.specs.Prelude.{ℕ, List, [], ◌∷◌, ◌≡◌, ◌<◌, ◌^◌, codes, decimal, Result, Ok, Err}
use Rattle.esx_types.specs.declared.config.TheConstants.{VM_NUMBERS}
use Rattle.esx_events.specs.declared.event.Event.TheVariants.{SwapOut}
use Rattle.esx_events.specs.declared.event.Refusal.{Refusal}
use Rattle.esx_events.specs.declared.call.Call.{Call}
use Rattle.esx_events.specs.declared.call.Call.TheVariants.{Do}
use Rattle.esx_model.specs.Console.{Session, next_reply, lined}
use Rattle.esx_pageout.specs.Word.{word_of}
use Rattle.esx_reading.specs.Fields.{joined}
use Rattle.esx_replies.specs.Replies.{reply_text}
use Rattle.esx_replies.specs.Texts.{refusal_text}
use Rattle.esx_text.specs.Own.{site_of}

-- the words of the line for a page of machine n, and the line
abbrev pub pageout_words : ℕ → ℕ → List (List ℕ)
pageout_words n page = codes "pageout" ∷ decimal n ∷ decimal page ∷ []

abbrev pub pageout_line : ℕ → ℕ → List ℕ
pageout_line n page = joined (pageout_words n page)

-- the line asks that a page of machine n go out, with numbers that a line can have
pub record AsksOut (line : List ℕ) (n page : ℕ) : Type 0 where
  pub machine : n < VM_NUMBERS
  pub number : page < 2 ^ 32
  pub spelled : line ≡ pageout_line n page

-- the call that is made for a page with a word
abbrev pub pageout_call : ℕ → ℕ → Call
pageout_call n word = Do (SwapOut n word)

-- what is answered, and the session after it: of a page that has no word nothing is called
abbrev pub pageout_text : Session → ℕ → Result ℕ Refusal → List ℕ
pageout_text session n (Ok word) = reply_text (next_reply session (pageout_call n word))
pageout_text session n (Err refusal) = refusal_text refusal

abbrev pub pageout_after : Session → ℕ → ℕ → Result ℕ Refusal → Session
pageout_after session caller n (Ok word) = lined session caller (pageout_call n word)
pageout_after session caller n (Err refusal) = session

-- the word of a page of the site that a session has led to
abbrev pub word_after : Session → ℕ → ℕ → Result ℕ Refusal
word_after session n page = word_of (site_of session) n page
