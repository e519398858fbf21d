-- Advised events lead on to advice, and at last to the answer to go.
use Rattle.std.proofs.Common.{◌≡◌, zero, suc, ℕ, ◌+◌, ◌*◌, ◌≤◌, nat_le, true, not, List, [], ◌∷◌, ◌++◌, map, get_or, refl, sym, ap, ◌∙◌, subst, arith, Option, Some, None, Ok}
use Rattle.std.specs.Option.{option_map}
use Rattle.std.proofs.Math.Seq.{map-set_same}
use Rattle.std.proofs.Math.ListN as listn
use Rattle.esx_types.specs.declared.config.Config.{Config}
use Rattle.esx_types.specs.declared.level.Level.{Level}
use Rattle.esx_types.specs.declared.vm.VmState.{VmState}
use Rattle.esx_events.specs.declared.call.Help.{Help}
use Rattle.esx_events.specs.declared.call.Help.TheVariants as helps
use Rattle.esx_events.specs.declared.event.Answer.{Answer}
use Rattle.esx_events.specs.declared.event.Answer.TheVariants as answers
use Rattle.esx_events.specs.declared.event.Event.{Event}
use Rattle.esx_events.specs.declared.event.Event.TheVariants as events
use Rattle.esx_model.specs.declared.look.Look.{Look}
use Rattle.esx_model.specs.declared.look.Look.TheVariants.{Already, SharedFrame, OtherPage, Changed, OtherBytes, Nothing}
use Rattle.esx_model.specs.declared.scene.Place.{Place}
use Rattle.esx_model.specs.declared.scene.Place.TheVariants.{Here, Out}
use Rattle.esx_model.specs.declared.scene.Vm.{Vm}
use Rattle.esx_model.specs.declared.scene.Site.{Site}
use Rattle.esx_model.specs.declared.scene.Scene.{Scene}
use Rattle.esx_model.specs.Places.{contents}
use Rattle.esx_model.specs.Site.{vm_at, place_at, least_slot}
use Rattle.esx_model.specs.Hints.{with_place, placed}
use Rattle.esx_model.specs.event.Outcome.{standing, is_running}
use Rattle.esx_model.specs.event.Sharing.{look}
use Rattle.esx_model.specs.event.Paging.{victim, swap_out_gate, to_slot, leave_by, leave, swap_out}
use Rattle.esx_model.specs.Advice.{help_for, advice, IsNamedBy}
use Rattle.esx_model.specs.Replay.{next}
use Rattle.esx_model.specs.Debts.{debt_of, IsOnPath, IsAdvised}
use Rattle.esx_model.proofs.Callers.{of_vm, passed, same_site, some_same, step_of, run_one_more}
use Rattle.esx_advice.specs.Advised.{GoesWithin}
use Rattle.esx_advice.proofs.AdviceTaken.{advised, named_is_accepted}
use Rattle.esx_advice.proofs.Scenes.{path_fits}
use Rattle.esx_advice.proofs.Falls.{swap_out_falls, rebalance_stays}
use Rattle.esx_advice.proofs.Following.{advice_is, go_follows, swap_out_follows}

-- A page that leaves is no matter of whether machines run, and of how many pages they have.

abbrev Ground : Type 0
Ground = VmState × ℕ

abbrev ground : Vm → Ground
ground v = (v.state, v.spec.max)

abbrev grounds : Site → List (Option Ground)
grounds s = map (option_map ground) s.vms

moved_ground : (page : ℕ) (q : Place) (o : Option Vm) → option_map ground (option_map (with_place page q) o) ≡ option_map ground o
moved_ground page q None = refl
moved_ground page q (Some v) = refl

placed_grounds : (s : Site) (n page : ℕ) (q : Place) → grounds (placed s n page q) ≡ grounds s
unfolding placed
placed_grounds s n page q = map-set_same (option_map ground) s.vms n (option_map (with_place page q) (vm_at s n)) None (moved_ground page q (vm_at s n))

slot_grounds : (s : Site) (n page : ℕ) (bytes : List ℕ) (o : Option ℕ) (r : Answer × Site) → to_slot s n page bytes o ≡ Ok r → grounds r.1 ≡ grounds s
slot_grounds s n page bytes None r h = cc
slot_grounds s n page bytes (Some i) r h = ap grounds (sym (same_site (answers.PagedOut page i) (placed s n page (Out bytes i)) r h)) ∙ placed_grounds s n page (Out bytes i)

left_grounds : (c : Config) (s : Site) (n page : ℕ) (bytes : List ℕ) (l : Look) (r : Answer × Site) → leave_by c s n page bytes l ≡ Ok r → grounds r.1 ≡ grounds s
left_grounds c s n page bytes Already r h = slot_grounds s n page bytes (least_slot c.slots s) r h
left_grounds c s n page bytes (SharedFrame f) r h =
    let p : Place = Here bytes f true in
    ap grounds (sym (same_site (answers.SharedOut page f) (placed s n page p) r h)) ∙ placed_grounds s n page p
left_grounds c s n page bytes (OtherPage m q f) r h =
    let p : Place = Here bytes f true in
    ap grounds (sym (same_site (answers.SharedOut page f) (placed (placed s m q p) n page p) r h)) ∙ placed_grounds (placed s m q p) n page p ∙ placed_grounds s m q p
left_grounds c s n page bytes Changed r h = slot_grounds s n page bytes (least_slot c.slots s) r h
left_grounds c s n page bytes OtherBytes r h = slot_grounds s n page bytes (least_slot c.slots s) r h
left_grounds c s n page bytes Nothing r h = slot_grounds s n page bytes (least_slot c.slots s) r h

leave_grounds : (c : Config) (s : Site) (n : ℕ) (v : Vm) (o : Option ℕ) (r : Answer × Site) → leave c s n v o ≡ Ok r → grounds r.1 ≡ grounds s
leave_grounds c s n v None r h = cc
leave_grounds c s n v (Some page) r h = left_grounds c s n page (contents c (place_at v page)) (look s n page (place_at v page)) r h

swap_out_grounds : (c : Config) (s : Site) (level : Level) (n word : ℕ) (r : Answer × Site) → swap_out c s level n word ≡ Ok r → grounds r.1 ≡ grounds s
unfolding swap_out
swap_out_grounds c s level n word r h =
    let own = of_vm (vm_at s n) _ r h in
    let pass = passed (swap_out_gate level (standing own.vm)) _ r own.then in
    leave_grounds c s n own.vm (victim own.vm word) r pass.1

-- a machine that runs as it did, and has as many pages
record Stands (o : Option Vm) (v : Vm) : Type 0 where
  vm : Vm
  there : o ≡ Some vm
  state : vm.state ≡ v.state
  max : vm.spec.max ≡ v.spec.max

stands_by : (o : Option Vm) (v : Vm) → option_map ground o ≡ Some (ground v) → Stands o v
stands_by None v h = cc
stands_by (Some w) v h =
    let same = some_same (ground w) (ground v) h in
    record { vm = w; there = refl; state = ap (λ (x : Ground). x.0) same; max = ap (λ (x : Ground). x.1) same }

stands : (s t : Site) (n : ℕ) (v : Vm) → grounds t ≡ grounds s → vm_at s n ≡ Some v → Stands (vm_at t n) v
stands s t n v same there =
    stands_by (vm_at t n) v (sym (listn.get_or-map (option_map ground) t.vms n None) ∙ ap (λ xs. get_or xs n None) same ∙ listn.get_or-map (option_map ground) s.vms n None ∙ ap (option_map ground) there)

-- What is advised after an advised event.

abbrev HasAdvice : Config → Scene → ℕ → ℕ → Type 0
HasAdvice c t n page = (h : Help) × (advice c t n page ≡ Ok h)

advice_after_out : (c : Config) (t u : Scene) (n page m word : ℕ) (a : Answer) (h : Help) → advice c t n page ≡ Ok h → next c t (events.SwapOut m word) ≡ Ok (a, u) → HasAdvice c u n page
advice_after_out c t u n page m word a h given goes =
    let b = advised c t n page h given in
    let q = step_of c t (events.SwapOut m word) (a, u) goes in
    let w = stands t.site u.site n b.vm (ap grounds (sym q.3) ∙ swap_out_grounds c t.site t.level m word q.0 q.1) b.there in (
      help_for c u w.vm page,
      advice_is c u n page w.vm (help_for c u w.vm page) w.there (ap (λ x. not (is_running x)) w.state ∙ b.runs) (ap (λ k. nat_le k page) w.max ∙ b.below) refl,
    )

-- how many advised events may still stand before the answer to go
abbrev steps : Help → ℕ → ℕ
steps helps.Go debt = 0
steps (helps.SwapOut m) debt = 2 * debt + 1
steps helps.Rebalance debt = 2 * debt + 2
steps helps.Replace debt = 1

most_steps : (h : Help) (debt : ℕ) → steps h debt ≤ 2 * debt + 2
most_steps helps.Go debt = omega arith
most_steps (helps.SwapOut m) debt = omega arith
most_steps helps.Rebalance debt = omega arith
most_steps helps.Replace debt = omega arith

-- an advice that fewer steps follow
record Leads (c : Config) (n page : ℕ) (u : Scene) (left : ℕ) : Type 0 where
  help : Help
  given : advice c u n page ≡ Ok help
  fewer : steps help (debt_of c u) + 1 ≤ left

leads : (c : Config) (n page : ℕ) (t u : Scene) (h : Help) (e : Event) (a : Answer) → IsOnPath c t → advice c t n page ≡ Ok h → IsNamedBy n page h e → next c t e ≡ Ok (a, u) → Leads c n page u (steps h (debt_of c t))
leads c n page t u helps.Go e a on_path given named goes = absurd named
leads c n page t u (helps.SwapOut m) e a on_path given named goes =
    let P : Event → Type 0 = λ x. next c t x ≡ Ok (a, u) in
    let out = subst P named.1 goes in
    let less = swap_out_falls c t u m named.0 a (path_fits c t on_path) out in
    let k = advice_after_out c t u n page m named.0 a (helps.SwapOut m) given out in
    let most = most_steps k.0 (debt_of c u) in
    record { help = k.0; given = k.1; fewer = omega (arith, less, most) }
leads c n page t u helps.Rebalance e a on_path given named goes =
    let P : Event → Type 0 = λ x. next c t x ≡ Ok (a, u) in
    let anew = subst P named goes in
    let same = rebalance_stays c t u a (path_fits c t on_path) anew in
    let k = swap_out_follows c t u n page a (path_fits c t on_path) given anew in
    record { help = helps.SwapOut k.0; given = k.1; fewer = omega (arith, same) }
leads c n page t u helps.Replace e a on_path given named goes =
    let P : Event → Type 0 = λ x. next c t x ≡ Ok (a, u) in
    record { help = helps.Go; given = go_follows c t u n page named.0 a (path_fits c t on_path) (subst P named.1 goes); fewer = omega arith }

path_on : (c : Config) (t u : Scene) (e : Event) (a : Answer) → IsOnPath c t → next c t e ≡ Ok (a, u) → IsOnPath c u
path_on c t u e a p h = record { config = p.config; path = p.path ++ e ∷ []; runs = run_one_more c p.path e t u a p.runs h }

pub goes_on : (c : Config) (t u : Scene) (n page : ℕ) (e : Event) → IsOnPath c t → IsAdvised c n page e t u → IsOnPath c u × ((h : Help) × (advice c u n page ≡ Ok h))
goes_on c t u n page e on_path is =
    let k = leads c n page t u is.help e is.answer on_path is.given is.named is.goes in
    (path_on c t u e is.answer on_path is.goes, (k.help, k.given))

-- So it ends.

ends : (c : Config) (n page k : ℕ) (t : Scene) (h : Help) → IsOnPath c t → advice c t n page ≡ Ok h → steps h (debt_of c t) ≤ k → GoesWithin c n page k t
ends c n page zero t helps.Go on_path given few = given
ends c n page zero t (helps.SwapOut m) on_path given few = absurd (omega (arith, few))
ends c n page zero t helps.Rebalance on_path given few = absurd (omega (arith, few))
ends c n page zero t helps.Replace on_path given few = absurd (omega (arith, few))
ends c n page (suc k) t h on_path given few = (
  h,
  given,
  λ e named. (
      let goes = named_is_accepted c t n page h e on_path given named in
      let r = goes.0 in
      let more = leads c n page t r.1 h e r.0 on_path given named goes.1 in
      let fewer = more.fewer in
      (r, goes.1, ends c n page k r.1 more.help (path_on c t r.1 e r.0 on_path goes.1) more.given (omega (arith, few, fewer)))),
)

pub advice_leads_to_go : (c : Config) (t : Scene) (n page : ℕ) (h : Help) → IsOnPath c t → advice c t n page ≡ Ok h → GoesWithin c n page (2 * debt_of c t + 2) t
advice_leads_to_go c t n page h on_path given = ends c n page (2 * debt_of c t + 2) t h on_path given (most_steps h (debt_of c t))
