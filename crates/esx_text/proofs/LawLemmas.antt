-- A text spells one call at most, and an input is served in one way.
use Rattle.std.proofs.Common.{◌≡◌, ◌+◌, ℕ, List, true, [], ◌∷◌, ◌++◌, refl, ap, sym, ◌∙◌, length}
use Rattle.esx_events.specs.Names.{starts_lower}
use Rattle.esx_events.specs.declared.call.Call.{Call}
use Rattle.esx_model.specs.Console.{Session, next_reply, lined}
use Rattle.esx_replies.specs.Replies.{reply_text}
use Rattle.esx_words.specs.Commands.{Spells}
use Rattle.esx_words.proofs.CommandLemmas.{one_call}
use Rattle.esx_words.proofs.LetterLemmas.{lower_command}
use Rattle.esx_text.specs.Lines.{IsSilent, lines}
use Rattle.esx_text.specs.declared.echo.Manner.{Manner}
use Rattle.esx_text.specs.Echo.{echo_in}
use Rattle.esx_text.specs.Answers.{IsAnswered, AreAnswered, ServesIn}
use Rattle.esx_text.specs.Answers.IsAnswered.{silent, asked, own, pageout, unknown}
use Rattle.esx_text.specs.PageOut.{pageout_text, pageout_after, word_after}
use Rattle.esx_text.proofs.OwnLemmas.{own_is_loud, own_spells_none, one_own_text}
use Rattle.esx_text.proofs.PageOutLemmas.{pageout_is_loud, pageout_spells_none, pageout_is_no_word, one_page}
use Rattle.esx_text.proofs.OneSplit.{one_split}

-- what begins with a small letter is answered
not_silent : (text : List ℕ) → starts_lower text ≡ true → IsSilent text → ⊥
not_silent [] h s = absurd (cc)
not_silent (b ∷ bs) h s = let t = rw s at h in absurd (cc)

pub no_silent_call : (text : List ℕ) → IsSilent text → (call : Call) → Spells text call → ⊥
no_silent_call text s call is = not_silent text (lower_command text call is) s

same_reply : (session : Session) (caller : ℕ) (a b : Call) → a ≡ b
    → (reply_text (next_reply session a) ≡ reply_text (next_reply session b)) × (lined session caller a ≡ lined session caller b)
same_reply session caller a b e = (ap (λ c. reply_text (next_reply session c)) e, ap (λ c. lined session caller c) e)

same_page : (session : Session) (caller m n page other : ℕ) → m ≡ n → page ≡ other
    → (pageout_text session m (word_after session m page) ≡ pageout_text session n (word_after session n other))
    × (pageout_after session caller m (word_after session m page) ≡ pageout_after session caller n (word_after session n other))
same_page session caller m n page other e f = (
  ap (λ k. pageout_text session k (word_after session k page)) e ∙ ap (λ p. pageout_text session n (word_after session n p)) f,
  ap (λ k. pageout_after session caller k (word_after session k page)) e ∙ ap (λ p. pageout_after session caller n (word_after session n p)) f,
)

one_line : (n caller : ℕ) (before : Session) (line text others : List ℕ) (after last : Session)
    → IsAnswered n caller before line text after → IsAnswered n caller before line others last → (text ≡ others) × (after ≡ last)
one_line n caller before line text others after last (silent s) (silent t) = (refl, refl)
one_line n caller before line text others after last (silent s) (asked call is) = absurd (no_silent_call line s call is.command)
one_line n caller before line text others after last (silent s) (own word other e t) = absurd (own_is_loud line word e s)
one_line n caller before line text others after last (silent s) (pageout m page asks) = absurd (pageout_is_loud line m page asks s)
one_line n caller before line text others after last (silent s) (unknown l m p none) = absurd (l s)
one_line n caller before line text others after last (asked call is) (silent s) = absurd (no_silent_call line s call is.command)
one_line n caller before line text others after last (asked call is) (asked other are) = same_reply before caller call other (one_call line call other is.command are.command)
one_line n caller before line text others after last (asked call is) (own word other e t) = absurd (own_spells_none line word e call is.command)
one_line n caller before line text others after last (asked call is) (pageout m page asks) = absurd (pageout_spells_none line m page asks call is.command)
one_line n caller before line text others after last (asked call is) (unknown l m p none) = absurd (none call is)
one_line n caller before line text others after last (own word own_text e t) (silent s) = absurd (own_is_loud line word e s)
one_line n caller before line text others after last (own word own_text e t) (asked call is) = absurd (own_spells_none line word e call is.command)
one_line n caller before line text others after last (own word x e t) (own other y f u) = (one_own_text before line word other x y e f t u, refl)
one_line n caller before line text others after last (own word own_text e t) (pageout m page asks) = absurd (pageout_is_no_word line m page word asks e)
one_line n caller before line text others after last (own word own_text e t) (unknown l m p none) = absurd (m word e)
one_line n caller before line text others after last (pageout m page asks) (silent s) = absurd (pageout_is_loud line m page asks s)
one_line n caller before line text others after last (pageout m page asks) (asked call is) = absurd (pageout_spells_none line m page asks call is.command)
one_line n caller before line text others after last (pageout m page asks) (own word other e t) = absurd (pageout_is_no_word line m page word asks e)
one_line n caller before line text others after last (pageout m page asks) (pageout k other ask) =
    let same = one_page line m page k other asks ask in
    same_page before caller m k page other same.0 same.1
one_line n caller before line text others after last (pageout m page asks) (unknown l w p none) = absurd (p m page asks)
one_line n caller before line text others after last (unknown l m p none) (silent s) = absurd (l s)
one_line n caller before line text others after last (unknown l m p none) (asked call is) = absurd (none call is)
one_line n caller before line text others after last (unknown l m p none) (own word other e t) = absurd (m word e)
one_line n caller before line text others after last (unknown l w p none) (pageout m page asks) = absurd (p m page asks)
one_line n caller before line text others after last (unknown l m p none) (unknown k j q nothing) = (refl, refl)

one_way : (manner : Manner) (n caller : ℕ) (before : Session) (ls : List (List ℕ)) (text others : List ℕ) (after last : Session)
    → AreAnswered manner n caller before ls text after → AreAnswered manner n caller before ls others last → (text ≡ others) × (after ≡ last)
one_way manner n caller before [] text others after last (t, a) (u, b) = (t ∙ sym u, a ∙ sym b)
one_way manner n caller before (line ∷ ls) text others after last (first, rest, middle, i, more, t) (first', rest', middle', i', more', t') =
    let here = one_line n caller before line first first' middle middle' i i' in
    let later = one_way manner (n + 1) caller middle ls rest rest' after last more (rw (← here.1) at more') in
    (t ∙ ap (λ v. (echo_in manner line ++ v) ++ rest) here.0 ∙ ap (λ v. (echo_in manner line ++ first') ++ v) later.0 ∙ sym t', later.1)

pub one_answer : {manner : Manner} (input : List ℕ) (caller count other : ℕ) (before after last : Session) (text others : List ℕ)
    → ServesIn manner caller count before input text after → ServesIn manner caller other before input others last
    → (count ≡ other) × (text ≡ others) × (after ≡ last)
one_answer {manner} input caller count other before after last text others a b =
    let same = one_split input a.ended b.ended a.rest b.rest a.split b.split in
    let ls : lines a.ended a.rest ≡ lines b.ended b.rest = ap (λ v. lines v a.rest) same.0 ∙ ap (λ v. lines b.ended v) same.1 in
    let way = one_way manner 1 caller before (lines b.ended b.rest) text others after last (rw ls at a.answered) b.answered in
    (a.count_is ∙ ap length ls ∙ sym b.count_is, way.0, way.1)
