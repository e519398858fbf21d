-- How one line is answered.
use Rattle.std.proofs.Common.{◌≡◌, ℕ, Bool, true, false, List, [], ◌∷◌, ◌++◌, arith, ◌↔◌, ◌<◌, length, Option, Result, Ok, Err, inl, inr, subst, sym}
use Rattle.std.specs.Str.{IsUtf8}
use Rattle.std.proofs.lemmas.Str.{IsUtf8-from_ascii}
use Rattle.esx_events.specs.declared.call.Call.{Call}
use Rattle.esx_events.specs.declared.event.Refusal.{Refusal}
use Rattle.esx_model.specs.Console.{Session, next_reply}
use Rattle.esx_replies.specs.Replies.{reply_text}
use Rattle.esx_text.specs.declared.answer.TheConstants.{LONGEST}
use Rattle.esx_text.specs.Lines.{IsSilent, Keeps}
use Rattle.esx_text.specs.declared.echo.Manner.{Manner}
use Rattle.esx_text.specs.declared.fault.ServeFault.{ServeFault}
use Rattle.esx_text.specs.declared.fault.ServeFault.TheVariants.{Read, Write, OutOfMemory}
use Rattle.esx_text.specs.Echo.{echo_in}
use Rattle.esx_text.specs.PageOut.{AsksOut, pageout_call, pageout_text, pageout_after, word_after}
use Rattle.esx_text.specs.Answers.{IsAsked, IsAnswered, IsMade, IsServed, MayWantMemory}
use Rattle.esx_text.specs.Answers.IsAnswered.{asked, pageout}
use Rattle.esx_text.proofs.EchoLemmas.{long_echo}
use Rattle.esx_text.proofs.PageOutLemmas.{pageout_is_short}
use Rattle.esx_words.proofs.CommandLemmas.{ascii_command}

pub asked_is_utf8 : (line : List ℕ) (call : Call) → IsAsked line call → IsUtf8 line
asked_is_utf8 line call is = IsUtf8-from_ascii line (ascii_command line call is.command)

-- any call may want memory
pub asked_may_want : (line : List ℕ) (call : Call) → IsAsked line call → MayWantMemory line
asked_may_want line call is = record { short = is.short; wants = inl (call, is) }

pub last_is_some : {A : Type 0} (xs : List A) (x : A) → xs ++ x ∷ [] ≡ [] → ⊥
last_is_some [] x e = cc
last_is_some (y ∷ xs) x e = cc

-- A call that was made for a line serves it.

pub asked_served : (echo : List ℕ) (n caller : ℕ) (before after : Session) (line : List ℕ) (call : Call) (old new : Option (List ℕ)) (result : Result Unit ServeFault)
    → IsAsked line call → IsMade echo caller call before after old new result → IsServed echo n caller before line after old new result
asked_served echo n caller before after line call old new (Ok done) is made = (reply_text (next_reply before call), rw made.0 (asked call is), made.1)
asked_served echo n caller before after line call old new (Err Read) is made = made
asked_served echo n caller before after line call old new (Err Write) is made = (reply_text (next_reply before call), rw made.0 (asked call is), made.1)
asked_served echo n caller before after line call old new (Err OutOfMemory) is made = (made.0, asked_may_want line call is, made.1)

pageout_may_want : (line : List ℕ) (m page : ℕ) → AsksOut line m page → MayWantMemory line
pageout_may_want line m page asks = record { short = pageout_is_short line m page asks; wants = inr (inr (inr (m, page, asks))) }

pub pageout_answered : (n caller : ℕ) (before : Session) (line : List ℕ) (m page : ℕ) (word : Result ℕ Refusal) → AsksOut line m page → word ≡ word_after before m page
    → IsAnswered n caller before line (pageout_text before m word) (pageout_after before caller m word)
pageout_answered n caller before line m page word asks is =
    subst (λ (w : Result ℕ Refusal). IsAnswered n caller before line (pageout_text before m w) (pageout_after before caller m w)) (sym is) (pageout m page asks)

pub pageout_served : (echo : List ℕ) (n caller : ℕ) (before after : Session) (line : List ℕ) (m page word : ℕ) (old new : Option (List ℕ)) (result : Result Unit ServeFault)
    → AsksOut line m page → Ok word ≡ word_after before m page → IsMade echo caller (pageout_call m word) before after old new result
    → IsServed echo n caller before line after old new result
pageout_served echo n caller before after line m page word old new (Ok done) asks is made =
    (pageout_text before m (Ok word), rw made.0 (pageout_answered n caller before line m page (Ok word) asks is), made.1)
pageout_served echo n caller before after line m page word old new (Err Read) asks is made = made
pageout_served echo n caller before after line m page word old new (Err Write) asks is made =
    (pageout_text before m (Ok word), rw made.0 (pageout_answered n caller before line m page (Ok word) asks is), made.1)
pageout_served echo n caller before after line m page word old new (Err OutOfMemory) asks is made = (made.0, pageout_may_want line m page asks, made.1)

-- the line is silent exactly where what is kept of it is
pub silent_as_kept : (kept : List ℕ) (long : Bool) (line : List ℕ) → Keeps kept long line → IsSilent line ↔ IsSilent kept
silent_as_kept kept true line k = k.1
silent_as_kept kept false line k = (λ s. rw k at s, λ s. rw k s)

pub long_line : (kept : List ℕ) (long : Bool) (line : List ℕ) → long ≡ true → Keeps kept long line → LONGEST < length line
long_line kept long line is k = let k' = rw is at k in k'.0

pub long_unasked : (kept : List ℕ) (long : Bool) (line : List ℕ) (call : Call) → long ≡ true → Keeps kept long line → IsAsked line call → ⊥
long_unasked kept long line call is k a = let k' = rw is at k in omega (arith, k'.0, a.short)

pub kept_whole : (kept : List ℕ) (long : Bool) (line : List ℕ) → long ≡ false → Keeps kept long line → line ≡ kept
kept_whole kept long line is k = rw is at k

-- nothing is echoed of a line that is too long
pub long_served : (manner : Manner) (n caller : ℕ) (before after : Session) (line : List ℕ) (old new : Option (List ℕ)) (result : Result Unit ServeFault)
    → LONGEST < length line → IsServed [] n caller before line after old new result → IsServed (echo_in manner line) n caller before line after old new result
long_served manner n caller before after line old new result long s =
    subst (λ echo. IsServed echo n caller before line after old new result) (sym (long_echo manner line long)) s
