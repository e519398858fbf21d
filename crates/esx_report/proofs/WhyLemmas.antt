-- Sentences that are told one way or another.
use Rattle.std.proofs.Common.{◌≡◌, ◌++◌, ℕ, List, [], Option, Result, codes, decimal, ap, ◌∙◌, ◌==◌, if◌then◌else◌}
use Rattle.esx_writing.specs.Writing.{Puts}
use Rattle.esx_report.specs.Why.{waits_text, place_text}
use Rattle.esx_report.proofs.CommaLemmas.{not_match}

pub puts_same : {T E : Type 0} (a b : Option (List ℕ)) (h k x y : List ℕ) (r : Result T E) → y ≡ x → Puts a h b k x r → Puts a h b k y r
puts_same a b h k x y r e p = rw e p

pub many_waits : (n : ℕ) → (n ≡ 0 → ⊥) → (n ≡ 1 → ⊥) → waits_text n ≡ codes ", after " ++ (decimal n ++ codes " refused accesses")
many_waits n some more =
    ap (λ v. if v then [] else (if n == 1 then codes ", after 1 refused access" else codes ", after " ++ (decimal n ++ codes " refused accesses"))) (not_match n 0 some)
    ∙ ap (λ v. if v then codes ", after 1 refused access" else codes ", after " ++ (decimal n ++ codes " refused accesses")) (not_match n 1 more)

pub later_place : (rank above : ℕ) → (rank ≡ 1 → ⊥) → place_text rank above ≡ codes ": number " ++ (decimal rank ++ (codes " of " ++ (decimal above ++ codes " above target")))
later_place rank above other =
    ap (λ v. if v then codes ": the least of " ++ (decimal above ++ codes " above target") else codes ": number " ++ (decimal rank ++ (codes " of " ++ (decimal above ++ codes " above target")))) (not_match rank 1 other)
