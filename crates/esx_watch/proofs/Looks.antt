-- What is told of a machine by the tables.
use Rattle.std.proofs.Common.{◌≡◌, ℕ, refl, ap, ◌∙◌, Option, Some, None, Result, Ok, Err}
use Rattle.std.specs.Option.{option_map}
use Rattle.std.proofs.Math.ListN as listn
use Rattle.esx_types.specs.declared.config.Config.{Config}
use Rattle.esx_events.specs.declared.event.Refusal.{Refusal}
use Rattle.esx_events.specs.declared.call.Activity.{Activity}
use Rattle.esx_model.specs.declared.book.Book.{Book}
use Rattle.esx_model.specs.declared.book.VmRow.{VmRow}
use Rattle.esx_model.specs.declared.book.PeriodRow.{PeriodRow}
use Rattle.esx_model.specs.declared.look.Standing.{Standing}
use Rattle.esx_model.specs.declared.scene.Vm.{Vm}
use Rattle.esx_model.specs.declared.scene.Scene.{Scene}
use Rattle.esx_model.specs.Show.{shown, vm_row}
use Rattle.esx_model.specs.Site.{vm_at}
use Rattle.esx_model.specs.Readings.{activity, activity_of, activity_in, active_now}
use Rattle.esx_model.specs.event.Outcome.{standing}
use Rattle.esx_model.specs.event.Rebalancing.{active}
use Rattle.esx_machine.specs.Machine.{Kept, Shows, book_in}
use Rattle.esx_refinement.proofs.Ratios.{active_shown}
use Rattle.esx_figures.specs.declared.figures.Figures.{Figures}
use Rattle.esx_figures.specs.Figures.{figures}
use Rattle.esx_figures.specs.Sharing.{shared_in}
use Rattle.esx_watch.proofs.Going.{book_shown}

active_of : (v : VmRow) (o : Option PeriodRow) → (activity_in v o).active ≡ active_now v
active_of v None = refl
active_of v (Some p) = refl

told_at : (b : Book) (n : ℕ) (c : Config) (t : Scene) (v : Vm) → b ≡ shown c t → vm_at t.site n ≡ Some v → activity b n ≡ Ok (activity_in (vm_row v) (vm_row v).period)
unfolding activity
told_at b n c t v is there = ap (λ (x : Book). activity x n) is ∙ ap activity_of (listn.get_or-map (option_map vm_row) t.site.vms n None ∙ ap (option_map vm_row) there)

active_in : (a : Activity) (v : VmRow) (o : Option PeriodRow) → Ok a ≡ (let r : Result Activity Refusal = Ok (activity_in v o) in r) → a.active ≡ active_now v
active_in a v o is = (let same : a ≡ activity_in v o = cc in ap (λ (x : Activity). x.active) same ∙ active_of v o)

pub active_told : (k : Kept) (t : Scene) (n : ℕ) (v : Vm) (a : Activity) → Shows k t → vm_at t.site n ≡ Some v → Ok a ≡ activity (book_in k) n → a.active ≡ active v
active_told k t n v a shows there is = active_in a (vm_row v) (vm_row v).period (is ∙ told_at (book_in k) n k.config t v (book_shown k.config k t shows refl) there) ∙ active_shown v

no_refusal : (x : Refusal) (a : Activity) → (let r : Result Activity Refusal = Err x in r) ≡ Ok a → ⊥
no_refusal x a h = cc

pub not_refused : (k : Kept) (t : Scene) (n : ℕ) (v : Vm) (x : Refusal) → Shows k t → vm_at t.site n ≡ Some v → Err x ≡ activity (book_in k) n → ⊥
not_refused k t n v x shows there is = no_refusal x (activity_in (vm_row v) (vm_row v).period) (is ∙ told_at (book_in k) n k.config t v (book_shown k.config k t shows refl) there)

-- of a machine that is there, and of none
abbrev figures_by : Standing → ℕ → ℕ → Figures
figures_by st act shared = record { here = st.resident; target = st.target; active = act; shared = shared; lent = st.lent; out = st.out }

pub figures_told : (o : Option Vm) (st : Standing) (act shared : ℕ) → Some st ≡ option_map standing o → ((v : Vm) → o ≡ Some v → act ≡ active v) → shared ≡ shared_in o → Some (figures_by st act shared) ≡ option_map figures o
figures_told None st act shared is acts shares = cc
figures_told (Some v) st act shared is acts shares =
    let same : st ≡ standing v = cc in
    ap (λ (x : Standing). Some (figures_by x act shared)) same ∙ ap (λ x. Some (figures_by (standing v) x shared)) (acts v refl) ∙ ap (λ x. Some (figures_by (standing v) (active v) x)) shares

pub nobody_told : (o : Option Vm) → None ≡ option_map standing o → None ≡ option_map figures o
nobody_told None is = refl
nobody_told (Some v) is = cc
