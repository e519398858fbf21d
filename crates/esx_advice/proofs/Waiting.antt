-- Accesses that had to wait: they have an advice, and where it is to go reads go as well as writes.
use Rattle.std.proofs.Common.{◌≡◌, ℕ, ◌+◌, ◌<◌, ◌≤◌, ◌||◌, ◌==◌, nat_lt, nat_le, Bool, true, false, not, List, [], ◌∷◌, take, drop, length, refl, sym, ap, ◌∙◌, Option, Some, None, is_some, Result, Ok, Err}
use Rattle.std.specs.List.{list_any}
use Rattle.std.proofs.lemmas.Bool.{leb-false}
use Rattle.esx_types.specs.declared.config.Config.{Config}
use Rattle.esx_types.specs.declared.level.Level.{Level}
use Rattle.esx_events.specs.declared.call.Help.{Help}
use Rattle.esx_events.specs.declared.call.Help.TheVariants as helps
use Rattle.esx_events.specs.declared.event.Answer.{Answer}
use Rattle.esx_events.specs.declared.event.Answer.TheVariants as answers
use Rattle.esx_events.specs.declared.event.Event.{Event}
use Rattle.esx_events.specs.declared.event.Event.TheVariants.{Admit, Start, Read, Write, Ask, Lend, TakeBack, Sample, Rebalance, Scan, SwapOut, Replace, SetShares, SetTax, SetVmTax, Stop, DropPage, Gone}
use Rattle.esx_events.specs.declared.event.Refusal.{Refusal}
use Rattle.esx_events.specs.declared.event.Refusal.TheVariants.{NotRunning, OutOfRange, Held}
use Rattle.esx_formulas.specs.Targets.{first_claim}
use Rattle.esx_model.specs.declared.scene.Place.{Place}
use Rattle.esx_model.specs.declared.scene.Place.TheVariants.{Untouched, Here, Out, Lent}
use Rattle.esx_model.specs.declared.scene.Vm.{Vm}
use Rattle.esx_model.specs.declared.scene.Site.{Site}
use Rattle.esx_model.specs.declared.scene.Scene.{Scene}
use Rattle.esx_model.specs.Places.{is_shared, contents}
use Rattle.esx_model.specs.Site.{vm_at, place_at}
use Rattle.esx_model.specs.event.Outcome.{Outcome, Gate, at_vm, unless, standing, is_running}
use Rattle.esx_model.specs.event.Access.{is_blocked, access_gate, read_frame, write_frame, after_access, settle, read_at, read, write}
use Rattle.esx_model.specs.event.Paging.{is_above_min}
use Rattle.esx_model.specs.event.Rebalancing.{rows_of}
use Rattle.esx_model.specs.Advice.{can_write, target_of, help_for, advice}
use Rattle.esx_model.specs.Replay.{settled, next}
use Rattle.esx_model.specs.Debts.{IsAccepted}
use Rattle.esx_model.specs.Guests.{is_pressed}
use Rattle.esx_model.proofs.Callers.{within_page, not_true, Goes, passing}
use Rattle.esx_advice.specs.Advised.{IsAccessOf}
use Rattle.esx_advice.proofs.AdviceTaken.{advised, accepted_next, go_writes, both_true, some_of}
use Rattle.esx_advice.proofs.Following.{advice_is}

-- Where the advice is to go.

-- a page that may be written may be read
read_too : (c : Config) (s : Site) (p : Place) (f : ℕ) → write_frame c s p ≡ Some f → (g : ℕ) × (read_frame c s p ≡ Some g)
read_too c s Untouched f h = (f, h)
read_too c s (Here bytes g shared) f h = (g, refl)
read_too c s (Out bytes slot) f h = (f, h)
read_too c s (Lent e) f h = (f, h)

read_goes : (c : Config) (s : Site) (level : Level) (n page at len : ℕ) (v : Vm) (f : ℕ) → vm_at s n ≡ Some v → not (is_running v.state) ≡ false → nat_le v.spec.max page ≡ false
    → is_blocked level (standing v) ≡ false → read_frame c s (place_at v page) ≡ Some f → 0 < len → at + len ≤ c.page → Goes (read c s level n page at len)
unfolding read
read_goes c s level n page at len v f there runs below free found some fits =
    let gate : Gate = access_gate c level (standing v) page at len in
    let inside = within_page v.spec.max page c.page at len (leb-false v.spec.max page below) some fits in
    let bytes = contents c (place_at v page) in
    let answer : Answer = answers.Bytes (take len (drop at bytes)) in (
      (answer, after_access s n page (Here bytes f (is_shared (place_at v page)))),
      ap (λ o. at_vm o (λ w. unless (access_gate c level (standing w) page at len) (read_at c s n page at len (place_at w page)))) there
          ∙ passing gate (read_at c s n page at len (place_at v page)) (runs, (inside, (free, tt)))
          ∙ ap (settle s n page answer bytes (is_shared (place_at v page))) found,
    )

pub read_is_accepted : (c : Config) (t : Scene) (n page at len : ℕ) → advice c t n page ≡ Ok helps.Go → 0 < len → at + len ≤ c.page → IsAccepted c t (Read n page at len)
unfolding next
read_is_accepted c t n page at len e some fits =
    let a = advised c t n page helps.Go e in
    let can = go_writes (can_write c t a.vm page) (list_any is_above_min t.site.vms) (first_claim (rows_of target_of t.site)) a.help in
    let parts = both_true (not (is_blocked t.level (standing a.vm))) (is_some (write_frame c t.site (place_at a.vm page))) can in
    let f = some_of (write_frame c t.site (place_at a.vm page)) parts.1 in
    let g = read_too c t.site (place_at a.vm page) f.0 f.1 in
    accepted_next c t.level (read c t.site t.level n page at len) (read_goes c t.site t.level n page at len a.vm g.0 a.there a.runs a.below (not_true (is_blocked t.level (standing a.vm)) parts.0) g.1 some fits)

-- Where an access has to wait.

refused_step : (c : Config) (level : Level) (o : Outcome) (why : Refusal) → settled c level o ≡ Err why → o ≡ Err why
refused_step c level (Err e) why h = (let same : e ≡ why = cc in ap (λ x. let r : Outcome = Err x in r) same)
refused_step c level (Ok r) why h = cc

neither : (a b : Bool) → (a || b) ≡ false → (a ≡ false) × (b ≡ false)
neither true b h = cc
neither false b h = (refl, h)

-- an access of a machine that runs, and of one of its pages
passes_by : (a b d : Bool) (o : Outcome) (why : Refusal) → unless ((a, NotRunning) ∷ (b, OutOfRange) ∷ (d, Held) ∷ []) o ≡ Err why → is_pressed why ≡ true → (a ≡ false) × (b ≡ false)
passes_by true b d o why h p = (let same : NotRunning ≡ why = cc in let no = ap is_pressed same ∙ p in cc)
passes_by false true d o why h p = (let same : OutOfRange ≡ why = cc in let no = ap is_pressed same ∙ p in cc)
passes_by false false d o why h p = (refl, refl)

access_advised : (c : Config) (t : Scene) (n page at len : ℕ) (rest : Vm → Outcome) (o : Option Vm) (why : Refusal) → vm_at t.site n ≡ o
    → at_vm o (λ v. unless (access_gate c t.level (standing v) page at len) (rest v)) ≡ Err why → is_pressed why ≡ true → (h : Help) × (advice c t n page ≡ Ok h)
access_advised c t n page at len rest None why there h p = cc
access_advised c t n page at len rest (Some v) why there h p =
    let pass = passes_by (not (is_running v.state)) (nat_le v.spec.max page || (len == 0) || nat_lt c.page (at + len)) (is_blocked t.level (standing v)) (rest v) why h p in
    let below = neither (nat_le v.spec.max page) (len == 0) (neither (nat_le v.spec.max page || (len == 0)) (nat_lt c.page (at + len)) pass.1).0 in
    (help_for c t v page, advice_is c t n page v (help_for c t v page) there pass.0 below.0 refl)

read_advised : (c : Config) (t : Scene) (n page at len : ℕ) (why : Refusal) → read c t.site t.level n page at len ≡ Err why → is_pressed why ≡ true → (h : Help) × (advice c t n page ≡ Ok h)
unfolding read
read_advised c t n page at len why h p = access_advised c t n page at len _ (vm_at t.site n) why refl h p

write_advised : (c : Config) (t : Scene) (n page at : ℕ) (bytes : List ℕ) (why : Refusal) → write c t.site t.level n page at bytes ≡ Err why → is_pressed why ≡ true → (h : Help) × (advice c t n page ≡ Ok h)
unfolding write
write_advised c t n page at bytes why h p = access_advised c t n page at (length bytes) _ (vm_at t.site n) why refl h p

abbrev HasAdvice : Config → Scene → ℕ → ℕ → Type 0
HasAdvice c t n page = (h : Help) × (advice c t n page ≡ Ok h)

of_page : (c : Config) (t : Scene) (vm own n page : ℕ) → vm ≡ n → own ≡ page → HasAdvice c t vm own → HasAdvice c t n page
of_page c t vm own n page e d a = (a.0, ap (λ k. advice c t k page) (sym e) ∙ ap (advice c t vm) (sym d) ∙ a.1)

pub wait_advised : (c : Config) (t : Scene) (n page : ℕ) (e : Event) (why : Refusal) → IsAccessOf n page e → next c t e ≡ Err why → is_pressed why ≡ true → (h : Help) × (advice c t n page ≡ Ok h)
unfolding next
wait_advised c t n page (Read vm own at len) why is h p =
    of_page c t vm own n page is.0 is.1 (read_advised c t vm own at len why (refused_step c t.level (read c t.site t.level vm own at len) why h) p)
wait_advised c t n page (Write vm own at bytes) why is h p =
    of_page c t vm own n page is.0 is.1 (write_advised c t vm own at bytes why (refused_step c t.level (write c t.site t.level vm own at bytes) why h) p)
wait_advised c t n page (Admit vm spec) why is h p = absurd is
wait_advised c t n page (Start vm) why is h p = absurd is
wait_advised c t n page (Ask vm) why is h p = absurd is
wait_advised c t n page (Lend vm own) why is h p = absurd is
wait_advised c t n page (TakeBack vm own) why is h p = absurd is
wait_advised c t n page (Sample vm len words) why is h p = absurd is
wait_advised c t n page Rebalance why is h p = absurd is
wait_advised c t n page (Scan vm own) why is h p = absurd is
wait_advised c t n page (SwapOut vm word) why is h p = absurd is
wait_advised c t n page (Replace vm own word) why is h p = absurd is
wait_advised c t n page (SetShares vm shares) why is h p = absurd is
wait_advised c t n page (SetTax tau) why is h p = absurd is
wait_advised c t n page (SetVmTax vm tau) why is h p = absurd is
wait_advised c t n page (Stop vm) why is h p = absurd is
wait_advised c t n page (DropPage vm own) why is h p = absurd is
wait_advised c t n page (Gone vm) why is h p = absurd is
