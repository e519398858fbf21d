-- A machine is told the same twice exactly where nothing differs.
use Rattle.std.proofs.Common.{◌≡◌, ◌&&◌, Bool, true, false, refl, ap, ◌∙◌, subst, Option, Some, None}
use Rattle.esx_model.proofs.Callers.{eqb_same}
use Rattle.esx_figures.specs.declared.figures.Figures.{Figures}
use Rattle.esx_figures.specs.Figures.{are_same, is_same_guest}
use Rattle.esx_figures.specs.Laws.{IsSameAlike}
use Rattle.esx_story.proofs.Bits.{equal}

pub first_of : (a b : Bool) → (a && b) ≡ true → (a ≡ true) × (b ≡ true)
first_of true b h = (refl, h)
first_of false b h = cc

alike : (a b : Figures) → are_same a b ≡ true → a ≡ b
alike a b h =
    let e1 = first_of _ _ h in
    let e2 = first_of _ _ e1.0 in
    let e3 = first_of _ _ e2.0 in
    let e4 = first_of _ _ e3.0 in
    let e5 = first_of _ _ e4.0 in
    ap (λ x. record a { here = x }) (equal a.here b.here e5.0)
    ∙ ap (λ x. record a { here = b.here; target = x }) (equal a.target b.target e5.1)
    ∙ ap (λ x. record a { here = b.here; target = b.target; active = x }) (equal a.active b.active e4.1)
    ∙ ap (λ x. record a { here = b.here; target = b.target; active = b.active; shared = x }) (equal a.shared b.shared e3.1)
    ∙ ap (λ x. record a { here = b.here; target = b.target; active = b.active; shared = b.shared; lent = x }) (equal a.lent b.lent e2.1)
    ∙ ap (λ x. record b { out = x }) (equal a.out b.out e1.1)

pub both : (a b : Bool) → a ≡ true → b ≡ true → (a && b) ≡ true
both true b x y = y
both false b x y = cc

same : (a : Figures) → are_same a a ≡ true
same a = both _ _ (both _ _ (both _ _ (both _ _ (both _ _ (eqb_same a.here) (eqb_same a.target)) (eqb_same a.active)) (eqb_same a.shared)) (eqb_same a.lent)) (eqb_same a.out)

there : (a b : Option Figures) → is_same_guest a b ≡ true → a ≡ b
there None None h = refl
there None (Some b) h = cc
there (Some a) None h = cc
there (Some a) (Some b) h = (let e = alike a b h in cc)

back : (a : Option Figures) → is_same_guest a a ≡ true
back None = refl
back (Some a) = same a

pub same_alike : IsSameAlike
same_alike a b = (there a b, λ e. subst (λ x. is_same_guest a x ≡ true) e (back a))
