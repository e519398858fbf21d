-- The line by which a page goes out is no call and no word of the console alone, and names one page.
use Rattle.std.proofs.Common.{◌≡◌, ◌<◌, ◌≤◌, ◌^◌, ℕ, List, [], ◌∷◌, refl, sym, ap, ◌∙◌, arith, length, length-append, codes, decimal, Option, None, Some}
use Rattle.std.specs.List.{AllByRecursion}
use Rattle.std.specs.Option.{IfNone, IfSome, MatchOption}
use Rattle.std.specs.Str.{IsUtf8}
use Rattle.std.proofs.lemmas.Fmt.{decimal_injective, length-decimal-le}
use Rattle.std.proofs.lemmas.Str.{IsUtf8-from_ascii}
use Rattle.std.proofs.lemmas.Str.Ascii.{IsAscii-from_all}
use Rattle.esx_types.specs.declared.config.TheConstants.{VM_NUMBERS}
use Rattle.esx_events.specs.declared.call.Call.{Call}
use Rattle.esx_reading.specs.Fields.{fields, joined}
use Rattle.esx_reading.proofs.FieldLemmas.{IsField, joined_of_fields, fields_of_joined, others_of, ascii_joined, no_space_in_decimal, no_space_in_known}
use Rattle.esx_words.specs.Verbs.{verb_word}
use Rattle.esx_words.specs.Commands.{verb, Spells}
use Rattle.esx_words.proofs.VerbLemmas.{verb_at, named, all_verbs, is_found}
use Rattle.esx_words.proofs.EventLemmas.{first_of}
use Rattle.esx_words.proofs.CommandLemmas.{fields_of_command}
use Rattle.esx_text.specs.declared.answer.TheConstants.{LONGEST}
use Rattle.esx_text.specs.declared.own.OwnWord.{OwnWord}
use Rattle.esx_text.specs.declared.own.OwnWord.TheVariants as own
use Rattle.esx_text.specs.Lines.{IsSilent}
use Rattle.esx_text.specs.Own.{own_line}
use Rattle.esx_text.specs.PageOut.{pageout_words, pageout_line, AsksOut}

-- the fields behind its first
abbrev numbers : ℕ → ℕ → List (List ℕ)
numbers n page = decimal n ∷ decimal page ∷ []

first_is_field : IsField (codes "pageout")
first_is_field = no_space_in_known (codes "pageout") refl

numbers_are_fields : (line : List ℕ) (n page : ℕ) → AsksOut line n page → AllByRecursion IsField (numbers n page)
numbers_are_fields line n page asks =
    let machine = asks.machine in
    let number = asks.number in
    (no_space_in_decimal n (omega (arith, machine)), (no_space_in_decimal page (omega (arith, number)), tt))

fields_of_line : (line : List ℕ) (n page : ℕ) → AsksOut line n page → fields line ≡ pageout_words n page
fields_of_line line n page asks =
    ap fields asks.spelled ∙ fields_of_joined (codes "pageout") (numbers n page) first_is_field (numbers_are_fields line n page asks)

-- The line asks that a page go out exactly where its fields do.

asks_out : (line : List ℕ) (n page : ℕ) → n < VM_NUMBERS → page < 2 ^ 32 → fields line ≡ pageout_words n page → AsksOut line n page
asks_out line n page machine number e = record { machine = machine; number = number; spelled = sym (joined_of_fields line) ∙ ap joined e }

pub asked_by_fields : (result : Option (ℕ × ℕ)) (line : List ℕ) (all : List (List ℕ)) → all ≡ fields line
    → IfSome result (λ p. (p.0 < VM_NUMBERS) × (p.1 < 2 ^ 32) × (all ≡ pageout_words p.0 p.1))
    → IfNone result ((n page : ℕ) → n < VM_NUMBERS → page < 2 ^ 32 → all ≡ pageout_words n page → ⊥)
    → MatchOption result ((n page : ℕ) → AsksOut line n page → ⊥) (λ p. AsksOut line p.0 p.1)
asked_by_fields None line all e some none = λ n page asks. none n page asks.machine asks.number (e ∙ fields_of_line line n page asks)
asked_by_fields (Some p) line all e some none = asks_out line p.0 p.1 some.0 some.1 (sym e ∙ some.2)

pub pageout_is_utf8 : (line : List ℕ) (n page : ℕ) → AsksOut line n page → IsUtf8 line
pageout_is_utf8 line n page asks = IsUtf8-from_ascii line
    (IsAscii-from_all line (rw asks.spelled (ascii_joined (codes "pageout") (numbers n page) first_is_field (numbers_are_fields line n page asks))))

pub pageout_is_short : (line : List ℕ) (n page : ℕ) → AsksOut line n page → length line ≤ LONGEST
pageout_is_short line n page asks =
    let machine = asks.machine in
    let number = asks.number in
    let three : length (decimal n) ≤ 3 = length-decimal-le 3 n (omega arith) (omega (arith, machine)) (omega (arith, machine)) in
    let ten : length (decimal page) ≤ 10 = length-decimal-le 10 page (omega arith) (omega (arith, number)) (omega (arith, number)) in
    rw asks.spelled (omega (arith, three, ten, length-append (decimal n) (32 ∷ decimal page)))

pub pageout_is_loud : (line : List ℕ) (n page : ℕ) → AsksOut line n page → IsSilent line → ⊥
pageout_is_loud line n page asks s = (let t = rw asks.spelled at s in omega (arith, t))

pub long_asks_none : (line : List ℕ) → LONGEST < length line → (n page : ℕ) → AsksOut line n page → ⊥
long_asks_none line long n page asks = (let short = pageout_is_short line n page asks in omega (arith, long, short))

-- It is no call: the verb that is found for its first field has another word.

found : verb_word (verb_at (codes "pageout")) ≡ codes "whatif"
unfolding verb_at named all_verbs
found = refl

not_found : codes "whatif" ≡ codes "pageout" → ⊥
not_found e = cc

pub pageout_spells_none : (line : List ℕ) (n page : ℕ) → AsksOut line n page → (call : Call) → Spells line call → ⊥
pageout_spells_none line n page asks call is =
    let first : verb_word (verb call) ≡ codes "pageout" = first_of _ _ _ _ (sym (fields_of_command line call is) ∙ fields_of_line line n page asks) in
    not_found (sym found ∙ is_found (verb call) (codes "pageout") first)

no_word : (word : OwnWord) (n page : ℕ) → own_line word ≡ pageout_line n page → ⊥
no_word own.Session n page e = cc
no_word own.Order n page e = cc

pub pageout_is_no_word : (line : List ℕ) (n page : ℕ) (word : OwnWord) → AsksOut line n page → line ≡ own_line word → ⊥
pageout_is_no_word line n page word asks e = no_word word n page (sym e ∙ asks.spelled)

-- It names one page.

pub one_page : (line : List ℕ) (n page m other : ℕ) → AsksOut line n page → AsksOut line m other → (n ≡ m) × (page ≡ other)
one_page line n page m other p q =
    let same : numbers n page ≡ numbers m other = others_of _ _ _ _ (sym (fields_of_line line n page p) ∙ fields_of_line line m other q) in
    let n_small = p.machine in
    let m_small = q.machine in
    let page_small = p.number in
    let other_small = q.number in (
      decimal_injective n m (omega (arith, n_small)) (omega (arith, m_small)) (first_of _ _ _ _ same),
      decimal_injective page other (omega (arith, page_small)) (omega (arith, other_small)) (first_of _ _ _ _ (others_of _ _ _ _ same)),
    )
