-- What is put of a session, part by part.
use Rattle.std.proofs.Common.{◌≡◌, Bool, true, false, ℕ, List, [], ◌∷◌, ◌++◌, refl, sym, codes, decimal, ◌==◌, ap, ◌∙◌, append_assoc, length, map}
use Rattle.std.proofs.lemmas.List.{length-map}
use Rattle.std.specs.List.{flat_map}
use Rattle.esx_types.specs.declared.config.Config.{Config}
use Rattle.esx_types.specs.declared.version.Version.TheVariants.{Two}
use Rattle.esx_events.specs.declared.call.Line.{Line}
use Rattle.esx_replies.specs.Signs.{signed_from, behind}
use Rattle.esx_session.specs.Sessions.{quoted, quoted_from, entry_text, head_text, site_text, end_text, session_text, logged}
use Rattle.esx_session.specs.Printing.{line_text}

-- a reply behind its signs
signed_quotes : (fresh : Bool) (t : List ℕ) → signed_from (codes "= ") fresh t ≡ quoted_from fresh t
signed_quotes fresh [] = refl
signed_quotes true (b ∷ bs) = ap (λ v. 61 ∷ 32 ∷ b ∷ v) (signed_quotes (b == 10) bs)
signed_quotes false (b ∷ bs) = ap (λ v. b ∷ v) (signed_quotes (b == 10) bs)

pub behind_quotes : (t : List ℕ) → behind (codes "= ") t ≡ quoted t
behind_quotes t = signed_quotes true t

lines_are : (log : List Line) → flat_map line_text log ≡ flat_map entry_text (map logged log)
lines_are [] = refl
lines_are (line ∷ later) = ap (λ v. line_text line ++ v) (lines_are later)

pub session_is : (site : Config) (log : List Line) → (head_text Two ++ site_text site) ++ (flat_map line_text log ++ end_text (length log)) ≡ session_text site (map logged log)
session_is site log =
    append_assoc (head_text Two) (site_text site) (flat_map line_text log ++ end_text (length log))
    ∙ ap (λ v. head_text Two ++ (site_text site ++ (v ++ end_text (length log)))) (lines_are log)
    ∙ ap (λ (n : ℕ). head_text Two ++ (site_text site ++ (flat_map entry_text (map logged log) ++ end_text n))) (sym (length-map log logged))

-- the opening, piece by piece
abbrev pub opening : Config → List ℕ
opening site =
    codes "esx session 2\nframes " ++ (decimal site.frames ++ (codes " page " ++ (decimal site.page ++ (codes " slots " ++ (decimal site.slots
    ++ (codes " tau " ++ (decimal site.tau ++ (codes " levels " ++ (decimal site.high ++ (codes " " ++ (decimal site.soft ++ (codes " "
    ++ (decimal site.hard ++ (codes " " ++ (decimal site.low ++ (codes " nodes " ++ (decimal site.nodes ++ 10 ∷ [])))))))))))))))))

pub opening_is : (site : Config) → opening site ≡ head_text Two ++ site_text site
opening_is site = simp append_assoc
