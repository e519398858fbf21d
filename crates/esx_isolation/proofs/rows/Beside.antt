-- A worked example, by computation: a log in which a guest runs beside one that shares, fills and pages out.
use Rattle.std.specs.Prelude.{◌≡◌, ℕ, ◌==◌, false, List, [], ◌∷◌, ◌++◌, map, Some}
use Rattle.std.specs.List.{AllByRecursion}
use Rattle.std.proofs.Common.{refl, ap, subst, arith}
use Rattle.esx_events.specs.declared.call.Line.{Line}
use Rattle.esx_model.specs.declared.scene.Vm.{Vm}
use Rattle.esx_model.specs.History.{History, opened, scene_at}
use Rattle.esx_model.specs.Site.{vm_at}
use Rattle.esx_model.specs.Console.{Session, AreReplies, after, history_from, history}
use Rattle.esx_model.specs.Alone.{is_written_first}
use Rattle.esx_model.specs.Guests.{IsWithin, Leaves}
use Rattle.esx_model.proofs.Callers.{some_same}
use Rattle.esx_model.proofs.rows.Replies.{replies_from, replies_of}
use Rattle.esx_model.proofs.rows.Guests.{small, trace, opening, later, answered, runs, opens, does}
use Rattle.esx_isolation.specs.Beside.{HasGuest}

legal_by : (log : List Line) (h : History) → replies_from (map (λ (x : Line). x.call) log) h ≡ map (λ (x : Line). x.reply) log → AreReplies h log
legal_by [] h e = tt
legal_by (x ∷ log) h e = (cc, legal_by log (after h x.call) cc)

abbrev session : Session
session = record { site = small; log = opening ++ later }

-- each other line leaves the guest's machine
others : AllByRecursion (λ x. (x.caller == 0) ≡ false → Leaves 0 x.call) later
others =
    (λ h. cc, (λ h e. cc, (λ h e. cc, (λ h e. refl, (λ h e. cc, (λ h e. cc, (λ h e. cc, (λ h e. cc, (λ h. cc, (λ h. cc, (λ h. cc, (λ h. cc, (λ h. cc, (λ h e. refl, (λ h e. cc, (λ h. cc, (λ h e. cc, (λ h. cc, (λ h. cc, tt)))))))))))))))))))

abbrev OfPages : ℕ → Type 0
OfPages max = AllByRecursion (IsWithin small max) trace

within_six : OfPages 6
within_six = ((omega arith, omega arith, omega arith), ((omega arith, omega arith, omega arith), ((omega arith, omega arith, omega arith), ((omega arith, omega arith, omega arith), tt))))

within : (v : Vm) → vm_at (scene_at (history (record session { log = opening }))).site 0 ≡ Some v → OfPages v.spec.max
unfolding replies_of history_from
within v there = subst OfPages (ap (λ (w : Vm). w.spec.max) (some_same _ v there)) within_six

-- so what the law asks of a log can be had
guest : HasGuest session 0 0 trace
unfolding replies_of is_written_first
guest = record {
  config = record {
    least_frames = omega arith;
    most_frames = omega arith;
    least_page = omega arith;
    most_page = omega arith;
    whole_page = refl;
    most_slots = omega arith;
    most_tau = omega arith;
    least_low = omega arith;
    low_hard = omega arith;
    hard_soft = omega arith;
    soft_high = omega arith;
    most_high = omega arith;
    least_nodes = omega arith;
    most_nodes = omega arith;
  };
  legal = legal_by (opening ++ later) (opened small) answered;
  opening = opening;
  later = later;
  log = refl;
  opens = opens;
  does = does;
  others = others;
  is_trace = (refl, (refl, (refl, (refl, tt))));
  tidy = tt;
  within = within;
  run = runs;
}
