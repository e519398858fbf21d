-- Advice by the raw tables is the advice of the scene that they show.
use Rattle.std.proofs.Common.{◌≡◌, ℕ, Bool, true, false, true≢false, ◌&&◌, not, nat_lt, List, refl, sym, ap, ◌∙◌, cond, Option, Some, None, Ok, Result}
use Rattle.std.specs.Option.{option_map, is_some}
use Rattle.std.specs.List.{list_any}
use Rattle.esx_types.specs.declared.config.Config.{Config}
use Rattle.esx_types.specs.declared.level.Level.{Level}
use Rattle.esx_types.specs.declared.table.FrameRow.{FrameRow}
use Rattle.esx_types.specs.Frames.{ref_count, least_frame}
use Rattle.esx_types.specs.Pages.{page_at}
use Rattle.esx_events.specs.declared.call.Help.{Help}
use Rattle.esx_events.specs.declared.call.Help.TheVariants as helps
use Rattle.esx_events.specs.declared.event.Refusal.{Refusal}
use Rattle.esx_formulas.specs.declared.targets.Row.{Row}
use Rattle.esx_formulas.specs.Targets.{first_claim}
use Rattle.esx_model.specs.declared.book.VmRow.{VmRow}
use Rattle.esx_model.specs.declared.look.Standing.{Standing}
use Rattle.esx_model.specs.declared.scene.Place.{Place}
use Rattle.esx_model.specs.declared.scene.Place.TheVariants.{Untouched, Here, Out, Lent}
use Rattle.esx_model.specs.declared.scene.Vm.{Vm}
use Rattle.esx_model.specs.declared.scene.Site.{Site}
use Rattle.esx_model.specs.declared.scene.Scene.{Scene}
use Rattle.esx_model.specs.declared.tables.Tables.{Tables}
use Rattle.esx_model.specs.Site.{vm_at, place_at, pages_at}
use Rattle.esx_model.specs.Tables.{raw_place, standing_of, vm_table, tables_of}
use Rattle.esx_model.specs.Advice.{can_write, help_by, target_of, help_for, help_at, advice}
use Rattle.esx_model.specs.event.Outcome.{unless, standing, page_gate}
use Rattle.esx_model.specs.event.Access.{is_blocked, write_frame}
use Rattle.esx_model.specs.event.Paging.{is_above_min}
use Rattle.esx_model.specs.event.Rebalancing.{rows_of}
use Rattle.esx_model.specs.sound.Sound.{IsSound}
use Rattle.esx_tables.specs.Readings.{row_at}
use Rattle.esx_changes.specs.Spare.{has_spare}
use Rattle.esx_refinement.proofs.Refining.{row_there, page_row, standing_shown}
use Rattle.esx_refinement.proofs.Found.{frame_found}
use Rattle.esx_refinement.proofs.Drawn.{spare_shown}
use Rattle.esx_refinement.proofs.Ratios.{rows_shown}
use Rattle.esx_machine.specs.Machine.{Kept, Shows}
use Rattle.esx_machine.specs.Questions.{written_frame, can_go, target_rows, help_from, advice_from}
use Rattle.esx_machine.proofs.Framed.{IsAt, private_at, shared_at}

-- The frame of a write.

frame_same : (c : Config) (s : Site) (n page : ℕ) (v : Vm) (p : Place) → IsSound c s → vm_at s n ≡ Some v → place_at v page ≡ p
    → written_frame (tables_of c s) (raw_place p) ≡ write_frame c s p
frame_same c s n page v Untouched sound there was = frame_found c s
frame_same c s n page v (Out bytes slot) sound there was = frame_found c s
frame_same c s n page v (Lent e) sound there was = frame_found c s
frame_same c s n page v (Here bytes f false) sound there was =
    let at : IsAt c s n page v bytes f false = record { sound = sound; there = there; was = was } in
    ap (λ (r : FrameRow). cond (nat_lt 1 (ref_count r)) (least_frame (tables_of c s).frames) (Some f)) (private_at c s n page v bytes f at)
frame_same c s n page v (Here bytes f true) sound there was =
    let at : IsAt c s n page v bytes f true = record { sound = sound; there = there; was = was } in
    ap (λ (r : FrameRow). cond (nat_lt 1 (ref_count r)) (least_frame (tables_of c s).frames) (Some f)) (shared_at c s n page v bytes f at)
    ∙ ap (λ (o : Option ℕ). cond (nat_lt 1 (pages_at f s)) o (Some f)) (frame_found c s)

go_same : (c : Config) (t : Scene) (n page : ℕ) (v : Vm) → IsSound c t.site → vm_at t.site n ≡ Some v → can_go (tables_of c t.site) t.level (vm_table v) page ≡ can_write c t v page
go_same c t n page v sound there =
    let s : Site = t.site in
    ap (λ (m : Standing). not (is_blocked t.level m) && is_some (written_frame (tables_of c s) (page_at (vm_table v).pages page))) (standing_shown v)
    ∙ ap (λ (o : Option ℕ). not (is_blocked t.level (standing v)) && is_some o) (ap (written_frame (tables_of c s)) (page_row v page) ∙ frame_same c s n page v (place_at v page) sound there refl)

-- Advice.

help_same : (c : Config) (t : Scene) (n page : ℕ) (v : Vm) → IsSound c t.site → vm_at t.site n ≡ Some v → help_from (tables_of c t.site) t.level (vm_table v) page ≡ help_for c t v page
help_same c t n page v sound there =
    let tables : Tables = tables_of c t.site in
    ap (λ (b : Bool). cond b helps.Go (help_by (list_any has_spare tables.vms) (first_claim (target_rows tables.tau 0 tables.vms)))) (go_same c t n page v sound there)
    ∙ ap (λ (b : Bool). cond (can_write c t v page) helps.Go (help_by b (first_claim (target_rows tables.tau 0 tables.vms)))) (spare_shown t.site.vms)
    ∙ ap (λ (rows : List Row). cond (can_write c t v page) helps.Go (help_by (list_any is_above_min t.site.vms) (first_claim rows))) (rows_shown (λ (w : VmRow). w.target) target_of (λ v. refl) c t.site)

advice_same : (c : Config) (t : Scene) (n page : ℕ) (o : Option Vm) → IsSound c t.site → vm_at t.site n ≡ o → advice_from (tables_of c t.site) t.level page (option_map vm_table o) ≡ help_at c t o page
advice_same c t n page None sound there = refl
advice_same c t n page (Some v) sound there =
    ap (λ (m : Standing). let d : Result Help Refusal = unless (page_gate m page) (Ok (help_from (tables_of c t.site) t.level (vm_table v) page)) in d) (standing_shown v)
    ∙ ap (λ (x : Help). let d : Result Help Refusal = unless (page_gate (standing v) page) (Ok x) in d) (help_same c t n page v sound there)

pub advice_shown : (k : Kept) (t : Scene) (n page : ℕ) → Shows k t → advice_from k.tables k.level page (row_at k.tables n) ≡ advice k.config t n page
unfolding advice
advice_shown k t n page shows =
    ap (λ (x : Tables). advice_from x k.level page (row_at x n)) shows.tables
    ∙ ap (λ (l : Level). advice_from (tables_of k.config t.site) l page (row_at (tables_of k.config t.site) n)) shows.level
    ∙ ap (advice_from (tables_of k.config t.site) t.level page) (row_there k.config t.site n)
    ∙ advice_same k.config t n page (vm_at t.site n) shows.sound refl

-- Rows by the targets, and what machines asked for.

pub targets_shown : (k : Kept) (t : Scene) → Shows k t → target_rows k.tables.tau 0 k.tables.vms ≡ rows_of target_of t.site
targets_shown k t shows =
    ap (λ (x : Tables). target_rows x.tau 0 x.vms) shows.tables ∙ rows_shown (λ (w : VmRow). w.target) target_of (λ v. refl) k.config t.site

same_spec : (o : Option Vm) → option_map (λ (w : VmRow). w.spec) (option_map vm_table o) ≡ option_map (λ (v : Vm). v.spec) o
same_spec None = refl
same_spec (Some v) = refl

pub spec_shown : (k : Kept) (t : Scene) (n : ℕ) → Shows k t → option_map (λ (w : VmRow). w.spec) (row_at k.tables n) ≡ option_map (λ (v : Vm). v.spec) (vm_at t.site n)
spec_shown k t n shows =
    ap (λ (x : Tables). option_map (λ (w : VmRow). w.spec) (row_at x n)) shows.tables
    ∙ ap (option_map (λ (w : VmRow). w.spec)) (row_there k.config t.site n)
    ∙ same_spec (vm_at t.site n)

same_target : (o : Option Vm) → option_map (λ (w : VmRow). w.target) (option_map vm_table o) ≡ option_map (λ (v : Vm). v.target) o
same_target None = refl
same_target (Some v) = refl

pub target_shown : (k : Kept) (t : Scene) (n : ℕ) → Shows k t → option_map (λ (w : VmRow). w.target) (row_at k.tables n) ≡ option_map (λ (v : Vm). v.target) (vm_at t.site n)
target_shown k t n shows =
    ap (λ (x : Tables). option_map (λ (w : VmRow). w.target) (row_at x n)) shows.tables
    ∙ ap (option_map (λ (w : VmRow). w.target)) (row_there k.config t.site n)
    ∙ same_target (vm_at t.site n)

same_some : (o : Option Vm) → is_some (option_map vm_table o) ≡ is_some o
same_some None = refl
same_some (Some v) = refl

-- a machine stands where there is a row, and nowhere else
pub some_same : (k : Kept) (t : Scene) (n : ℕ) → Shows k t → is_some (row_at k.tables n) ≡ is_some (vm_at t.site n)
some_same k t n shows =
    ap (λ (x : Tables). is_some (row_at x n)) shows.tables
    ∙ ap (λ (o : Option VmRow). is_some o) (row_there k.config t.site n)
    ∙ same_some (vm_at t.site n)

pub some_shown : (k : Kept) (t : Scene) (n : ℕ) → Shows k t → is_some (row_at k.tables n) ≡ true → is_some (vm_at t.site n) ≡ true
some_shown k t n shows is = sym (some_same k t n shows) ∙ is

no_vm : (o : Option Vm) → is_some o ≡ false → o ≡ None
no_vm None e = refl
no_vm (Some v) e = absurd (true≢false e)

pub none_shown : (k : Kept) (t : Scene) (n : ℕ) → Shows k t → row_at k.tables n ≡ None → vm_at t.site n ≡ None
none_shown k t n shows is = no_vm (vm_at t.site n) (sym (some_same k t n shows) ∙ ap (λ (o : Option VmRow). is_some o) is)

same_standing : (o : Option Vm) → option_map standing_of (option_map vm_table o) ≡ option_map standing o
same_standing None = refl
same_standing (Some v) = ap (λ (m : Standing). Some m) (standing_shown v)

pub standing_there : (k : Kept) (t : Scene) (n : ℕ) → Shows k t → option_map standing_of (row_at k.tables n) ≡ option_map standing (vm_at t.site n)
standing_there k t n shows =
    ap (λ (x : Tables). option_map standing_of (row_at x n)) shows.tables
    ∙ ap (option_map standing_of) (row_there k.config t.site n)
    ∙ same_standing (vm_at t.site n)
