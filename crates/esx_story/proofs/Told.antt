-- What is lost and gained in an event is what is told of it.
use Rattle.std.proofs.Common.{◌≡◌, ℕ, Bool, true, false, ◌||◌, ◌&&◌, not, get_or, refl, sym, ap, ◌∙◌, Option, Some, None, Ok, ◌==◌, ◌↔◌}
use Rattle.esx_types.specs.declared.config.Config.{Config}
use Rattle.esx_events.specs.declared.event.Event.{Event}
use Rattle.esx_events.specs.declared.event.Answer.{Answer}
use Rattle.esx_model.specs.declared.scene.Site.{Site}
use Rattle.esx_model.specs.declared.scene.Scene.{Scene}
use Rattle.esx_model.specs.Replay.{next}
use Rattle.esx_model.specs.sound.Sound.{IsSound}
use Rattle.esx_story.specs.Changes.{Change, change, has_here}
use Rattle.esx_story.specs.Losses.{lost, Loses}
use Rattle.esx_story.specs.Gains.{gained, Gains}
use Rattle.esx_story.specs.Laws.{Names}
use Rattle.esx_story.proofs.Bits.{bits_at, bit_is, named, equal}
use Rattle.esx_story.proofs.Moves.{Moves, is_that}
use Rattle.esx_story.proofs.Every.{every_event_moves}

both : (a b : Bool) → (a && b) ≡ true → (a ≡ true) × (b ≡ true)
both true b h = (refl, h)
both false b h = cc

that_names : (o : Option Change) (n page : ℕ) → is_that n page o ≡ true → Names o n page
that_names None n page h = cc
that_names (Some x) n page h =
    let two = both (x.vm == n) (x.page == page) h in
    (x.how, ap (λ k. Some (change k x.page x.how)) (equal x.vm n two.0) ∙ ap (λ k. Some (change n k x.how)) (equal x.page page two.1))

names_that : (o : Option Change) (n page : ℕ) → Names o n page → is_that n page o ≡ true
names_that o n page names = ap (is_that n page) names.1 ∙ ap (λ b. b && (page == page)) (named n n refl) ∙ named page page refl

must_go : (g b l : Bool) → b ≡ true → (g || (b && not l)) ≡ false → l ≡ true
must_go true b l e h = cc
must_go false true true e h = refl
must_go false true false e h = cc
must_go false false l e h = cc

must_come : (g b l : Bool) → b ≡ false → (g || (b && not l)) ≡ true → g ≡ true
must_come true b l e h = refl
must_come false true l e h = cc
must_come false false l e h = cc

goes : (g b l : Bool) → g ≡ false → l ≡ true → (g || (b && not l)) ≡ false
goes true b l e h = cc
goes false true true e h = refl
goes false true false e h = cc
goes false false l e h = refl

comes : (g b l : Bool) → g ≡ true → (g || (b && not l)) ≡ true
comes true b l e = refl
comes false b l e = cc

stays : (g b l : Bool) → g ≡ false → l ≡ false → (g || (b && not l)) ≡ b
stays true b l e h = cc
stays false true true e h = cc
stays false true false e h = refl
stays false false l e h = refl

pub is_not : (b : Bool) → (b ≡ true → ⊥) → b ≡ false
is_not true never = absurd (never refl)
is_not false never = refl

-- the page of a change was here, or away
was_here : (s t : Site) (l g : Option Change) (n page : ℕ) → Moves s t l g → is_that n page l ≡ true → get_or (bits_at s n) page false ≡ true
was_here s t l g n page moves h = (let names = that_names l n page h in moves.was (change n page names.0) names.1)

was_away : (s t : Site) (l g : Option Change) (n page : ℕ) → Moves s t l g → is_that n page g ≡ true → get_or (bits_at s n) page false ≡ false
was_away s t l g n page moves h = (let names = that_names g n page h in moves.away (change n page names.0) names.1)

pub loss_of : (s t : Site) (l g : Option Change) (n page : ℕ) → Moves s t l g → Loses s t n page ↔ Names l n page
loss_of s t l g n page moves = (
  λ loses. (let was = bit_is s n page ∙ loses.0 in
      let is = sym (moves.bit n page) ∙ bit_is t n page ∙ loses.1 in
      that_names l n page (must_go (is_that n page g) (get_or (bits_at s n) page false) (is_that n page l) was is)),
  λ names. (let that = names_that l n page names in
      let was = was_here s t l g n page moves that in
      let none = is_not (is_that n page g) (λ e. (let no : true ≡ false = sym was ∙ was_away s t l g n page moves e in cc)) in
      (sym (bit_is s n page) ∙ was, sym (bit_is t n page) ∙ moves.bit n page ∙ goes (is_that n page g) (get_or (bits_at s n) page false) (is_that n page l) none that)),
)

pub gain_of : (s t : Site) (l g : Option Change) (n page : ℕ) → Moves s t l g → Gains s t n page ↔ Names g n page
gain_of s t l g n page moves = (
  λ gains. (let was = bit_is s n page ∙ gains.0 in
      let is = sym (moves.bit n page) ∙ bit_is t n page ∙ gains.1 in
      that_names g n page (must_come (is_that n page g) (get_or (bits_at s n) page false) (is_that n page l) was is)),
  λ names. (let that = names_that g n page names in
      (sym (bit_is s n page) ∙ was_away s t l g n page moves that, sym (bit_is t n page) ∙ moves.bit n page ∙ comes (is_that n page g) (get_or (bits_at s n) page false) (is_that n page l) that)),
)

one_named : (o : Option Change) (n page m other : ℕ) → Names o n page → Names o m other → (n ≡ m) × (page ≡ other)
one_named o n page m other a b =
    let same : Some (change n page a.0) ≡ Some (change m other b.0) = sym a.1 ∙ b.1 in
    let is = inside (change n page a.0) (change m other b.0) same in
    (ap (λ (x : Change). x.vm) is, ap (λ (x : Change). x.page) is)
  where
    inside : (x y : Change) → Some x ≡ Some y → x ≡ y
    inside x y h = cc

-- The laws of an event.

pub loss_told : (c : Config) (t : Scene) (e : Event) (r : Answer × Scene) (n page : ℕ) → IsSound c t.site → next c t e ≡ Ok r → Loses t.site r.1.site n page ↔ Names (lost e r.0 t.site) n page
loss_told c t e r n page sound h = loss_of t.site r.1.site (lost e r.0 t.site) (gained e t.site) n page (every_event_moves c t e r sound h)

pub one_lost : (c : Config) (t : Scene) (e : Event) (r : Answer × Scene) (n page m other : ℕ) → IsSound c t.site → next c t e ≡ Ok r → Loses t.site r.1.site n page → Loses t.site r.1.site m other → (n ≡ m) × (page ≡ other)
one_lost c t e r n page m other sound h a b = one_named (lost e r.0 t.site) n page m other ((loss_told c t e r n page sound h).0 a) ((loss_told c t e r m other sound h).0 b)

pub gain_told : (c : Config) (t : Scene) (e : Event) (r : Answer × Scene) (n page : ℕ) → IsSound c t.site → next c t e ≡ Ok r → Gains t.site r.1.site n page ↔ Names (gained e t.site) n page
gain_told c t e r n page sound h = gain_of t.site r.1.site (lost e r.0 t.site) (gained e t.site) n page (every_event_moves c t e r sound h)

pub one_gained : (c : Config) (t : Scene) (e : Event) (r : Answer × Scene) (n page m other : ℕ) → IsSound c t.site → next c t e ≡ Ok r → Gains t.site r.1.site n page → Gains t.site r.1.site m other → (n ≡ m) × (page ≡ other)
one_gained c t e r n page m other sound h a b = one_named (gained e t.site) n page m other ((gain_told c t e r n page sound h).0 a) ((gain_told c t e r m other sound h).0 b)

pub others_stay : (c : Config) (t : Scene) (e : Event) (r : Answer × Scene) (n page : ℕ) → IsSound c t.site → next c t e ≡ Ok r → (Names (lost e r.0 t.site) n page → ⊥) → (Names (gained e t.site) n page → ⊥)
    → has_here r.1.site n page ≡ has_here t.site n page
others_stay c t e r n page sound h lose gain =
    let l = lost e r.0 t.site in
    let g = gained e t.site in
    let moves = every_event_moves c t e r sound h in
    sym (bit_is r.1.site n page) ∙ moves.bit n page
    ∙ stays (is_that n page g) (get_or (bits_at t.site n) page false) (is_that n page l) (is_not (is_that n page g) (λ x. gain (that_names g n page x))) (is_not (is_that n page l) (λ x. lose (that_names l n page x)))
    ∙ bit_is t.site n page
