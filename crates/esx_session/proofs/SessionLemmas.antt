-- A session's text by its lines, and that it is the text of one session.
use Rattle.std.proofs.Common.{◌≡◌, arith, ℕ, List, [], ◌∷◌, ◌++◌, length, refl, sym, ap, ◌∙◌, append_assoc, append-nil, codes}
use Rattle.std.specs.List.{AllByRecursion}
use Rattle.std.proofs.Math.Path.{subst}
use Rattle.esx_types.specs.Ranges.{IsConfig}
use Rattle.esx_types.specs.declared.config.Config.{Config}
use Rattle.esx_types.specs.declared.version.Version.{Version}
use Rattle.esx_types.specs.declared.version.Version.TheVariants.{One, Two}
use Rattle.esx_reading.specs.Fields.{fields, joined}
use Rattle.esx_session.specs.declared.session.Entry.{Entry}
use Rattle.esx_session.specs.Sessions.{site_words, head_line, end_text, version_text, IsEntryOf, Tells}
use Rattle.esx_session.specs.Reading.{HasNoFeed, calls_text}
use Rattle.esx_session.proofs.SiteLemmas.{small_site, fields_of_site, same_site}
use Rattle.esx_session.proofs.FeedLemmas.{AllStay, known_stay, joined_stay, decimal_stays, no_feed}
use Rattle.esx_session.proofs.FrontLemmas.{same_line, same_front, settled, body, no_quote_end, no_end_call}

abbrev pub site_line : Config → List ℕ
site_line site = joined (site_words site)

pub site_stays : (site : Config) → AllStay (site_line site)
site_stays site = joined_stay (site_words site) (
  known_stay (codes "frames") refl,
  (
    decimal_stays site.frames,
    (
      known_stay (codes "page") refl,
      (
        decimal_stays site.page,
        (
          known_stay (codes "slots") refl,
          (
            decimal_stays site.slots,
            (
              known_stay (codes "tau") refl,
              (
                decimal_stays site.tau,
                (
                  known_stay (codes "levels") refl,
                  (
                    decimal_stays site.high,
                    (
                      decimal_stays site.soft,
                      (
                        decimal_stays site.hard,
                        (
                          decimal_stays site.low,
                          (known_stay (codes "nodes") refl, (decimal_stays site.nodes, tt)),
                        ),
                      ),
                    ),
                  ),
                ),
              ),
            ),
          ),
        ),
      ),
    ),
  ),
)

pub no_feed_site : (site : Config) → HasNoFeed (site_line site)
no_feed_site site = no_feed (site_line site) (site_stays site)

pub head_stays : (version : Version) → AllStay (head_line version)
head_stays One = known_stay (head_line One) refl
head_stays Two = known_stay (head_line Two) refl

pub session_lines : (version : Version) (site : Config) (entries : List Entry)
    → version_text version site entries ≡ head_line version ++ 10 ∷ (site_line site ++ 10 ∷ calls_text entries)
session_lines version site entries =
    append_assoc (head_line version) (10 ∷ []) ((site_line site ++ 10 ∷ []) ++ calls_text entries)
    ∙ ap (λ t. head_line version ++ 10 ∷ t) (append_assoc (site_line site) (10 ∷ []) (calls_text entries))

-- the line of a site is that of one site
pub one_site : (a b : Config) → IsConfig a → IsConfig b → site_line a ≡ site_line b → a ≡ b
one_site a b p q e = same_site a b (small_site a p) (small_site b q) (sym (fields_of_site a p) ∙ ap fields e ∙ fields_of_site b q)

pub same_site_line : (a b : Config) (x y : List ℕ) → IsConfig a → IsConfig b → site_line a ++ 10 ∷ x ≡ site_line b ++ 10 ∷ y → (a ≡ b) × (x ≡ y)
same_site_line a b x y p q e =
    let both = same_line (site_line a) (site_line b) x y (no_feed_site a) (no_feed_site b) e in (one_site a b p q both.0, both.1)

-- texts of two versions differ in their first line
pub same_head : (v w : Version) (x y : List ℕ) → head_line v ++ 10 ∷ x ≡ head_line w ++ 10 ∷ y → (v ≡ w) × (x ≡ y)
same_head One One x y e = (refl, cc)
same_head One Two x y e = absurd (let digit : ◌≡◌ {A = ℕ} 49 50 = cc in omega (arith, digit))
same_head Two One x y e = absurd (let digit : ◌≡◌ {A = ℕ} 50 49 = cc in omega (arith, digit))
same_head Two Two x y e = (refl, cc)

module _ (version : Version) where
  -- behind all calls stands the end alone
  no_more : (count : ℕ) (others : List Entry) (number : ℕ) (text : List ℕ) → AllByRecursion (IsEntryOf version) others → body others ++ end_text count ≡ end_text number ++ text → others ≡ []
  no_more count [] number text p e = refl
  no_more count (y ∷ others) number text p e =
      absurd (no_end_call y (body others ++ end_text count) number text p.0.entry (sym (append_assoc _ (body others) (end_text count)) ∙ e))

  pub one_list : (xs ys : List Entry) → AllByRecursion (IsEntryOf version) xs → AllByRecursion (IsEntryOf version) ys → calls_text xs ≡ calls_text ys → xs ≡ ys
  one_list xs ys p q e =
      let front = same_front version xs ys (length ys) (end_text (length xs)) p q (settled xs (end_text (length xs)) (rw (sym (append-nil (end_text (length xs)))) (no_quote_end (length xs) []))) (sym e) in
      let none = no_more (length ys) front.0 (length xs) [] front.2 (front.3 ∙ sym (append-nil (end_text (length xs)))) in
      sym (front.1 ∙ ap (λ t. xs ++ t) none ∙ append-nil xs)

pub one_session : (told : List (List ℕ)) (site other : Config) (entries others : List Entry) → Tells told site entries → Tells told other others
    → (site ≡ other) × (entries ≡ others)
one_session told site other entries others p q =
    let whole = sym (session_lines p.version site entries) ∙ sym p.same ∙ q.same ∙ session_lines q.version other others in
    let heads = same_head p.version q.version _ _ whole in
    let both = same_site_line site other (calls_text entries) (calls_text others) p.opened q.opened heads.1 in
    let each = subst (λ (version : Version). AllByRecursion (IsEntryOf version) others) (sym heads.0) q.each in
    (both.0, one_list p.version entries others p.each each both.1)
