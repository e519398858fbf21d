-- The whole log: what opens it, and then the guest's lines among others'.
use Rattle.std.proofs.Common.{◌≡◌, ℕ, zero, suc, Bool, true, false, ◌==◌, List, [], ◌∷◌, ◌++◌, get_or, replicate, refl, sym, ap, ◌∙◌, subst, cond, Option, Some, None, ◌⊎◌, inl, inr, append-nil}
use Rattle.std.specs.List.{AllByRecursion}
use Rattle.std.specs.Option.{option_map}
use Rattle.std.proofs.lemmas.List.{length-map, length-replicate}
use Rattle.esx_types.specs.declared.config.Config.{Config}
use Rattle.esx_types.specs.declared.vm.VmSpec.{VmSpec}
use Rattle.esx_types.specs.declared.vm.VmState.{VmState}
use Rattle.esx_types.specs.declared.vm.VmState.TheVariants.{Starting, Running, Stopping}
use Rattle.esx_events.specs.declared.event.Event.{Event}
use Rattle.esx_events.specs.declared.event.Event.TheVariants.{Admit, Start, Read, Write, Ask, Lend, TakeBack, Sample, Rebalance, Scan, SwapOut, Replace, SetShares, SetTax, SetVmTax, Stop, DropPage, Gone}
use Rattle.esx_events.specs.declared.call.Call.{Call}
use Rattle.esx_events.specs.declared.call.Call.TheVariants as calls
use Rattle.esx_events.specs.declared.call.Line.{Line}
use Rattle.esx_model.specs.declared.scene.Place.TheVariants.{Untouched}
use Rattle.esx_model.specs.declared.scene.Vm.{Vm}
use Rattle.esx_model.specs.declared.scene.Scene.{Scene}
use Rattle.esx_model.specs.Places.{zeros, contents}
use Rattle.esx_model.specs.Site.{vm_at}
use Rattle.esx_model.specs.event.Admission.{admitted}
use Rattle.esx_model.specs.Replay.{opening}
use Rattle.esx_model.specs.History.{History, opened, scene_at}
use Rattle.esx_model.specs.Console.{Session, history, history_from, after, AreReplies}
use Rattle.esx_model.specs.Alone.{Contents, reads_from, alone}
use Rattle.esx_model.proofs.Callers.{chosen, some_same}
use Rattle.esx_model.specs.Memory.{Memory, memory_of, memory_at, bytes_at, memory_after, with_frame}
use Rattle.esx_model.specs.Guests.{IsTraceEvent, IsTrace, Stage, Send, left_of, stage_of, IsGuestRun, left_after, reads_answered, is_opening, Opens, lines_by, NeverFull}
use Rattle.esx_isolation.specs.Beside.{HasGuest}
use Rattle.esx_isolation.proofs.Turns.{bytes_are, memory_there}
use Rattle.esx_isolation.proofs.Every.{nobody}
use Rattle.esx_isolation.proofs.guest.Histories.{Stands, stands_at, opened_stands, Refuses, Accepts, hear, done_stands}
use Rattle.esx_isolation.proofs.guest.Dead.{IsDown, after_event, trace_left, IsDead, Down, Follows, follows_on, dead_reads}
use Rattle.esx_isolation.proofs.guest.Live.{IsLive, IsRest, Answered, line_by}

over_by : (c : Config) (n k : ℕ) (h : History) (x : Line) (later : List Line) (left : List Event) (stage : Stage) (b : Bool) → Follows n k h (x ∷ later) → IsTrace n left → IsGuestRun n left stage (cond b (x ∷ lines_by k later) (lines_by k later))
    → IsDead c (after h x.call) n → reads_answered (lines_by k later) ≡ []
over_by c n k h x later left stage true f trace run dead =
    dead_reads c n k later (after h x.call) (left_of left stage x.reply.said) (stage_of left stage x.reply.said) dead (follows_on n k h x later f) (trace_left (IsTraceEvent n) left stage x.reply.said trace) run.1
over_by c n k h x later left stage false f trace run dead = dead_reads c n k later (after h x.call) left stage dead (follows_on n k h x later f) trace run

live_reads : (c : Config) (n k max : ℕ) (later : List Line) (h : History) (t : Scene) (m : Contents) (left : List Event) (stage : Stage) → Follows n k h later → Stands c h t → IsLive c t n max m left → IsRest c n max left
    → IsGuestRun n left stage (lines_by k later) → Answered c left stage m (lines_by k later)
unfolding reads_from
live_reads c n k max [] h t m left stage f s l rest run = record { rest = reads_from left m; is = refl; all = λ never end. ap (λ e. reads_from e m) end }
live_reads c n k max (x ∷ later) h t m left stage f s l rest run =
    line_by c n k max h x later left stage m t (x.caller == k) refl
    (λ u m' left' stage' s' l' rest' run'. live_reads c n k max later (after h x.call) u m' left' stage' (follows_on n k h x later f) s' l' rest' run')
    (over_by c n k h x later left stage (x.caller == k) f rest.trace run) f s l rest run

-- What opens the log.

-- the machine, if it is there, has no bytes but zeros
abbrev IsFresh : Config → Option Memory → Type 0
IsFresh c o = (x : Memory) → o ≡ Some x → (q : ℕ) → bytes_at c x q ≡ zeros c

never_touched : (k q : ℕ) → get_or (replicate k Untouched) q Untouched ≡ Untouched
never_touched zero q = refl
never_touched (suc k) zero = refl
never_touched (suc k) (suc q) = never_touched k q

admitted_fresh : (c : Config) (spec : VmSpec) (x : Memory) (q : ℕ) → memory_of c (admitted spec) ≡ x → bytes_at c x q ≡ zeros c
admitted_fresh c spec x q is = ap (λ m. bytes_at c m q) (sym is) ∙ bytes_are c (admitted spec) q ∙ ap (contents c) (never_touched spec.max q)

started_fresh : (c : Config) (o : Option Memory) (x : Memory) (q : ℕ) → IsFresh c o → option_map with_frame o ≡ Some x → bytes_at c x q ≡ zeros c
started_fresh c None x q fresh h = cc
started_fresh c (Some y) x q fresh h = ap (λ m. bytes_at c m q) (sym (some_same (with_frame y) x h)) ∙ fresh y refl q

fresh_by : (c : Config) (n : ℕ) (e : Event) (o : Option Memory) → is_opening e ≡ true → IsFresh c o → IsFresh c (memory_after c n e o)
unfolding memory_after
fresh_by c n (Admit m spec) o is fresh x h q = elim (chosen (m == n) (Some (memory_of c (admitted spec))) o (Some x) h) [
  | inl w ↦ admitted_fresh c spec x q (some_same (memory_of c (admitted spec)) x w.1)
  | inr w ↦ fresh x w.1 q
]
fresh_by c n (Start m) o is fresh x h q = elim (chosen (m == n) (option_map with_frame o) o (Some x) h) [
  | inl w ↦ started_fresh c o x q fresh w.1
  | inr w ↦ fresh x w.1 q
]
fresh_by c n (Read m page at len) o is fresh x h q = cc
fresh_by c n (Write m page at new) o is fresh x h q = cc
fresh_by c n (Ask m) o is fresh x h q = cc
fresh_by c n (Lend m page) o is fresh x h q = cc
fresh_by c n (TakeBack m page) o is fresh x h q = cc
fresh_by c n (Sample m len words) o is fresh x h q = cc
fresh_by c n Rebalance o is fresh x h q = cc
fresh_by c n (Scan m page) o is fresh x h q = cc
fresh_by c n (SwapOut m word) o is fresh x h q = cc
fresh_by c n (Replace m page word) o is fresh x h q = cc
fresh_by c n (SetShares m shares) o is fresh x h q = cc
fresh_by c n (SetTax tau) o is fresh x h q = cc
fresh_by c n (SetVmTax m tau) o is fresh x h q = cc
fresh_by c n (Stop m) o is fresh x h q = cc
fresh_by c n (DropPage m page) o is fresh x h q = cc
fresh_by c n (Gone m) o is fresh x h q = cc

-- where it leads
record IsOpened (c : Config) (n : ℕ) (h : History) (later : List Line) : Type 0 where
  scene : Scene
  stands : Stands c h scene
  fresh : IsFresh c (memory_at c scene.site n)
  replies : AreReplies h later

opens_heard : (c : Config) (n : ℕ) (h : History) (t : Scene) (e : Event) → Stands c h t → IsFresh c (memory_at c t.site n) → is_opening e ≡ true → Refuses c h t e ⊎ Accepts c h t e
    → (u : Scene) × Stands c (after h (calls.Do e)) u × IsFresh c (memory_at c u.site n)
opens_heard c n h t e s fresh is (inl r) = (let P : History → Type 0 = λ w. Stands c w t in (t, subst P (sym r.stays) s, fresh))
opens_heard c n h t e s fresh is (inr a) =
    let P : History → Type 0 = λ w. Stands c w a.scene in
    (a.scene, subst P (sym a.goes) (done_stands c e h t a.scene a.answer s a.is), λ x k q. fresh_by c n e (memory_at c t.site n) is fresh x (after_event c t e (a.answer, a.scene) n x s.sound a.is k) q)

opens_one : (c : Config) (n : ℕ) (h : History) (t : Scene) (call : Call) → Stands c h t → IsFresh c (memory_at c t.site n) → Opens call → (u : Scene) × Stands c (after h call) u × IsFresh c (memory_at c u.site n)
opens_one c n h t (calls.Do e) s fresh is = opens_heard c n h t e s fresh is (hear c h t e s)
opens_one c n h t (calls.Undo k) s fresh is = absurd is
opens_one c n h t (calls.Redo k) s fresh is = absurd is
opens_one c n h t (calls.Goto k) s fresh is = absurd is
opens_one c n h t (calls.Visit name) s fresh is = absurd is
opens_one c n h t (calls.Mark name) s fresh is = absurd is
opens_one c n h t (calls.Prune k) s fresh is = absurd is
opens_one c n h t (calls.WhatIf es) s fresh is = absurd is
opens_one c n h t calls.Table s fresh is = absurd is
opens_one c n h t (calls.OfVm k) s fresh is = absurd is
opens_one c n h t (calls.Advise k page) s fresh is = absurd is
opens_one c n h t calls.Marks s fresh is = absurd is
opens_one c n h t calls.Sum s fresh is = absurd is
opens_one c n h t (calls.OfPage k page) s fresh is = absurd is
opens_one c n h t calls.Stand s fresh is = absurd is

opens_all : (c : Config) (n : ℕ) (lines later : List Line) (h : History) (t : Scene) → Stands c h t → IsFresh c (memory_at c t.site n) → AllByRecursion (λ x. Opens x.call) lines → AreReplies h (lines ++ later)
    → IsOpened c n (history_from h lines) later
unfolding history_from
opens_all c n [] later h t s fresh opens replies = record { scene = t; stands = s; fresh = fresh; replies = replies }
opens_all c n (x ∷ lines) later h t s fresh opens replies =
    let one = opens_one c n h t x.call s fresh opens.0 in
    opens_all c n lines later (after h x.call) one.0 one.1 one.2 opens.1 replies.1

none_fresh : (c : Config) (n : ℕ) → IsFresh c (memory_at c (opening c).site n)
none_fresh c n x h q = (let no = sym (nobody c n) ∙ h in cc)

opened_log : (s : Session) (n k : ℕ) (trace : List Event) (g : HasGuest s n k trace) → IsOpened s.site n (history (record s { log = g.opening })) g.later
opened_log s n k trace g =
    let P : List Line → Type 0 = AreReplies (opened s.site) in
    opens_all s.site n g.opening g.later (opened s.site) (opening s.site) (opened_stands s.site g.config) (none_fresh s.site n) g.opens (subst P g.log g.legal)

-- The laws.

-- where the machine runs
whole_by : (s : Session) (n k : ℕ) (trace : List Event) (g : HasGuest s n k trace) (o : IsOpened s.site n (history (record s { log = g.opening })) g.later) (v : Vm) → vm_at o.scene.site n ≡ Some v → v.state ≡ Running
    → Answered s.site trace Send (λ page. zeros s.site) (lines_by k g.later)
whole_by s n k trace g o v there runs =
    let c = s.site in
    let h = history (record s { log = g.opening }) in
    let same = stands_at c h o.scene o.stands in
    let memory = memory_there c o.scene.site n v there in
    let fine = o.stands.sound.each n v there in
    live_reads c n k v.spec.max g.later h o.scene (λ page. zeros c) trace Send (record { replies = o.replies; does = g.does; others = g.others }) o.stands
    (record {
      memory = memory_of c v;
      there = memory;
      up = runs;
      size = length-map v.places _ ∙ fine.pages;
      agrees = record { bytes = λ q. inl (o.fresh (memory_of c v) memory q); whole = λ q. length-replicate c.page 0 };
    })
    (record { trace = g.is_trace; within = g.within v (ap (λ (t : Scene). vm_at t.site n) same ∙ there); tidy = g.tidy }) g.run

none_by : (s : Session) (n k : ℕ) (trace : List Event) (g : HasGuest s n k trace) (o : IsOpened s.site n (history (record s { log = g.opening })) g.later) → IsDown (memory_at s.site o.scene.site n)
    → (rest : List (List ℕ)) × (reads_answered (lines_by k g.later) ++ rest ≡ alone s.site trace)
none_by s n k trace g o down =
    let none = dead_reads s.site n k g.later (history (record s { log = g.opening })) trace Send (Down o.scene o.stands down) (record { replies = o.replies; does = g.does; others = g.others }) g.is_trace g.run in
    (alone s.site trace, ap (λ xs. xs ++ alone s.site trace) none)

prefix_by : (s : Session) (n k : ℕ) (trace : List Event) (g : HasGuest s n k trace) (o : IsOpened s.site n (history (record s { log = g.opening })) g.later) (w : Option Vm) → vm_at o.scene.site n ≡ w
    → (rest : List (List ℕ)) × (reads_answered (lines_by k g.later) ++ rest ≡ alone s.site trace)
prefix_by s n k trace g o None there = none_by s n k trace g o (λ x h. (let no = sym (ap (option_map (memory_of s.site)) there) ∙ h in cc))
prefix_by s n k trace g o (Some v) there = of v.state refl
  where
    down : (v.state ≡ Running → ⊥) → IsDown (memory_at s.site o.scene.site n)
    down never x h up = never (ap (λ (m : Memory). m.state) (some_same (memory_of s.site v) x (sym (memory_there s.site o.scene.site n v there) ∙ h)) ∙ up)

    of : (state : VmState) → v.state ≡ state → (rest : List (List ℕ)) × (reads_answered (lines_by k g.later) ++ rest ≡ alone s.site trace)
    of Running e = (let a = whole_by s n k trace g o v there e in (a.rest, a.is))
    of Starting e = none_by s n k trace g o (down (λ r. (let no = sym e ∙ r in cc)))
    of Stopping e = none_by s n k trace g o (down (λ r. (let no = sym e ∙ r in cc)))

pub guest_alone : (s : Session) (n k : ℕ) (trace : List Event) (g : HasGuest s n k trace) → (rest : List (List ℕ)) × (reads_answered (lines_by k g.later) ++ rest ≡ alone s.site trace)
guest_alone s n k trace g = (let o = opened_log s n k trace g in prefix_by s n k trace g o (vm_at o.scene.site n) refl)

nil_back : (xs ys : List (List ℕ)) → ys ≡ [] → xs ++ ys ≡ xs
nil_back xs ys h = ap (λ zs. xs ++ zs) h ∙ append-nil xs

pub guest_whole : (s : Session) (n k : ℕ) (trace : List Event) (g : HasGuest s n k trace) (v : Vm) → vm_at (scene_at (history (record s { log = g.opening }))).site n ≡ Some v → v.state ≡ Running
    → NeverFull (lines_by k g.later) → left_after trace Send (lines_by k g.later) ≡ [] → reads_answered (lines_by k g.later) ≡ alone s.site trace
guest_whole s n k trace g v there runs never end =
    let o = opened_log s n k trace g in
    let same = stands_at s.site (history (record s { log = g.opening })) o.scene o.stands in
    let a = whole_by s n k trace g o v (ap (λ (t : Scene). vm_at t.site n) (sym same) ∙ there) runs in
    sym (nil_back (reads_answered (lines_by k g.later)) a.rest (a.all never end)) ∙ a.is
