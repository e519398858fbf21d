-- The line of a site.
use Rattle.std.proofs.Common.{◌≡◌, ◌<◌, ◌^◌, ℕ, List, [], ◌∷◌, decimal, codes, arith, refl, sym, ap, ◌∙◌}
use Rattle.std.specs.Prelude.{Result, Ok, Err, Option, IfSome, IfNone, IfOk, IsOk}
use Rattle.std.specs.Result.{result_ok}
use Rattle.std.proofs.lemmas.Fmt.{decimal_injective}
use Rattle.esx_types.specs.Ranges.{IsConfig}
use Rattle.esx_types.specs.declared.config.Config.{Config}
use Rattle.esx_reading.specs.Fields.{fields, joined}
use Rattle.esx_reading.proofs.FieldLemmas.{IsField, no_space_in_decimal, no_space_in_known, fields_of_joined, joined_of_fields}
use Rattle.esx_session.specs.Sessions.{site_words}
use Rattle.esx_session.specs.Reading.{IsSmall, SpellsSite}

-- the numbers of a site that is in range
pub small_site : (site : Config) → IsConfig site → IsSmall site
small_site site r = record {
  frames = omega (arith, r);
  page = omega (arith, r);
  slots = omega (arith, r);
  tau = omega (arith, r);
  high = omega (arith, r);
  soft = omega (arith, r);
  hard = omega (arith, r);
  low = omega (arith, r);
  nodes = omega (arith, r);
}

number_field : (n : ℕ) → n < 2 ^ 32 → IsField (decimal n)
number_field n h = no_space_in_decimal n (omega (arith, h))

pub fields_of_site : (site : Config) → IsConfig site → fields (joined (site_words site)) ≡ site_words site
fields_of_site site r =
    let s = small_site site r in
    fields_of_joined (codes "frames")
    (decimal site.frames ∷ codes "page" ∷ decimal site.page ∷ codes "slots" ∷ decimal site.slots ∷ codes "tau" ∷ decimal site.tau
    ∷ codes "levels" ∷ decimal site.high ∷ decimal site.soft ∷ decimal site.hard ∷ decimal site.low ∷ codes "nodes" ∷ decimal site.nodes ∷ [])
    (no_space_in_known (codes "frames") refl) (
      number_field site.frames s.frames,
      (
        no_space_in_known (codes "page") refl,
        (
          number_field site.page s.page,
          (
            no_space_in_known (codes "slots") refl,
            (
              number_field site.slots s.slots,
              (
                no_space_in_known (codes "tau") refl,
                (
                  number_field site.tau s.tau,
                  (
                    no_space_in_known (codes "levels") refl,
                    (
                      number_field site.high s.high,
                      (
                        number_field site.soft s.soft,
                        (number_field site.hard s.hard, (number_field site.low s.low, (no_space_in_known (codes "nodes") refl, (number_field site.nodes s.nodes, tt)))),
                      ),
                    ),
                  ),
                ),
              ),
            ),
          ),
        ),
      ),
    )

pub site_fields : (line : List ℕ) (site : Config) → SpellsSite line site → fields line ≡ site_words site
site_fields line site is = ap fields is.spelled ∙ fields_of_site site is.range

pub spells_site : (line : List ℕ) (site : Config) → IsConfig site → fields line ≡ site_words site → SpellsSite line site
spells_site line site r e = record { range = r; spelled = sym (joined_of_fields line) ∙ ap joined e }

pub after_six : (all : List (List ℕ)) (x y z u v w x' y' z' u' v' w' : List ℕ) (xs ys : List (List ℕ)) → all ≡ x ∷ y ∷ z ∷ u ∷ v ∷ w ∷ xs → all ≡ x' ∷ y' ∷ z' ∷ u' ∷ v' ∷ w' ∷ ys → xs ≡ ys
after_six all x y z u v w x' y' z' u' v' w' xs ys p q = cc

same_decimal : (a b : ℕ) → a < 2 ^ 32 → b < 2 ^ 32 → decimal a ≡ decimal b → a ≡ b
same_decimal a b small fits e = decimal_injective a b (omega (arith, small)) (omega (arith, fits)) e

-- two sites with the same words are the same
pub same_site : (a b : Config) → IsSmall a → IsSmall b → site_words a ≡ site_words b → a ≡ b
same_site a b p q e =
    let frames = same_decimal a.frames b.frames p.frames q.frames (cc) in
    let page = same_decimal a.page b.page p.page q.page (cc) in
    let slots = same_decimal a.slots b.slots p.slots q.slots (cc) in
    let tau = same_decimal a.tau b.tau p.tau q.tau (cc) in
    let high = same_decimal a.high b.high p.high q.high (cc) in
    let soft = same_decimal a.soft b.soft p.soft q.soft (cc) in
    let hard = same_decimal a.hard b.hard p.hard q.hard (cc) in
    let low = same_decimal a.low b.low p.low q.low (cc) in
    let nodes = same_decimal a.nodes b.nodes p.nodes q.nodes (cc) in
    λ i. record { frames = frames i; page = page i; slots = slots i; tau = tau i; high = high i; soft = soft i; hard = hard i; low = low i; nodes = nodes i }

-- a site that was checked
pub checked_some : {E : Type 0} (line : List ℕ) (site : Config) (r : Result Config E) (o : Option Config) → o ≡ result_ok r → (IsOk r → IsConfig site)
    → IfOk r (λ c. c ≡ site) → fields line ≡ site_words site → IfSome o (SpellsSite line)
checked_some line site (Ok c) o e range same cut = rw e (rw same (spells_site line site (range refl) cut))
checked_some line site (Err x) o e range same cut = rw e tt

pub checked_none : {E : Type 0} (line : List ℕ) (site : Config) (r : Result Config E) (o : Option Config) → o ≡ result_ok r → (IsConfig site → IsOk r)
    → IsSmall site → fields line ≡ site_words site → IfNone o ((other : Config) → SpellsSite line other → ⊥)
checked_none line site (Ok c) o e range small cut = rw e tt
checked_none line site (Err x) o e range small cut = rw e (λ other is.
    let same : other ≡ site = same_site other site (small_site other is.range) small (sym (site_fields line other is) ∙ cut) in
    let bad = range (rw same at is.range) in absurd (cc))
