-- How the console answers lines that are known, and others.
use Rattle.std.proofs.Common.{ℕ, List, ◌≡◌}
use Rattle.esx_events.specs.declared.call.Call.{Call}
use Rattle.esx_text.specs.declared.own.OwnWord.{OwnWord}
use Rattle.esx_text.specs.Lines.{IsSilent}
use Rattle.esx_text.specs.Own.{own_line}
use Rattle.esx_text.specs.PageOut.{AsksOut}
use Rattle.esx_model.specs.Console.{Session}
use Rattle.esx_text.specs.Answers.{IsAnswered, IsAsked}
use Rattle.esx_text.specs.Answers.IsAnswered.{silent as answer_silent, asked as answer_asked, own as answer_own, pageout as answer_pageout, unknown as answer_unknown}
use Rattle.esx_explained.specs.Known.{IsKnown}
use Rattle.esx_explained.specs.Known.IsOwn.{by_word, by_page}
use Rattle.esx_explained.specs.Known.IsKnown.{silent, own, asked}
use Rattle.esx_explained.specs.Laws.{IsAnsweredByNumber, IsAnsweredWithoutNumber}

pub answered_by_number : (line : List ℕ) → IsAnsweredByNumber line
answered_by_number line not n caller session =
    answer_unknown (λ s. not (silent s)) (λ w e. not (own (by_word w e))) (λ m p asks. not (own (by_page m p asks))) (λ call is. not (asked call is))

not_unknown : (line : List ℕ) → IsKnown line → (IsSilent line → ⊥) → ((w : OwnWord) → line ≡ own_line w → ⊥) → ((m p : ℕ) → AsksOut line m p → ⊥) → ((call : Call) → IsAsked line call → ⊥) → ⊥
not_unknown line (silent s) l o p a = l s
not_unknown line (own (by_word w e)) l o p a = o w e
not_unknown line (own (by_page m n asks)) l o p a = p m n asks
not_unknown line (asked call is) l o p a = a call is

answered_so : (line : List ℕ) (n other caller : ℕ) (session after : Session) (text : List ℕ) → IsKnown line → IsAnswered n caller session line text after
    → IsAnswered other caller session line text after
answered_so line n other caller session after text known (answer_silent s) = answer_silent s
answered_so line n other caller session after text known (answer_asked call is) = answer_asked call is
answered_so line n other caller session after text known (answer_own w t e u) = answer_own w t e u
answered_so line n other caller session after text known (answer_pageout m p asks) = answer_pageout m p asks
answered_so line n other caller session after text known (answer_unknown l o p a) = absurd (not_unknown line known l o p a)

pub answered_without_number : (line : List ℕ) → IsAnsweredWithoutNumber line
answered_without_number line known n other caller session after text is = answered_so line n other caller session after text known is
