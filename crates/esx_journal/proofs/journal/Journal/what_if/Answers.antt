use Rattle.std.proofs.Common.{◌≡◌, ◌∙◌, ◌+◌, sym, ap, subst, arith, ◌++◌, length}
use Rattle.esx_types.specs.declared.config.TheConstants.{MAX_NODES}
use Rattle.esx_events.specs.declared.call.Sum.{Sum}
use Rattle.esx_events.specs.declared.call.Sides.{Sides}
use Rattle.esx_model.specs.declared.scene.Scene.{Scene}
use Rattle.esx_model.specs.Readings.{sum_of}
use Rattle.esx_model.specs.Show.{shown}
use Rattle.esx_model.specs.History.{History, scene_at, book_at}
use Rattle.esx_model.specs.WhatIf.{replies_to, scene_of, what_if}
use Rattle.esx_journal.specs.Journal.{Kept, Holds, kept_after}
use Rattle.esx_model.proofs.Callers.{later_within}
use Rattle.esx_journal.specs.Children.{no_row}
use Rattle.esx_journal.proofs.Grows.{shows_at, config_is, book_here, epochs_here}
use Rattle.esx_journal.proofs.Trying.{Replies}
use Rattle.esx_journal.proofs.journal.Journal.what_if.Goals as goal

pub try_events-requires-clause-shows : goal.try_events-requires-clause-shows
try_events-requires-clause-shows c =
    let k = c.self.invariant in
    let fits = k.fits in
    let limit = k.limit in (
      scene_at k.history,
      shows_at _ k.history no_row k.holds,
      later_within (length k.history.nodes) (MAX_NODES + 0) (scene_at k.history).site (omega arith) (epochs_here _ k.history no_row k.holds),
    )

pub returns-clause-sides : goal.returns-clause-sides
unfolding what_if kept_after
returns-clause-sides c =
    let old : Kept = record { machine = c.self.inside.machine; rows = c.self.inside.rows; cursor = c.self.inside.cursor; depth = c.self.inside.depth; nodes = c.self.inside.nodes; marks = c.self.inside.marks } in
    let P : History → Kept → Type 0 = λ h x. Holds x h in
    λ h holds. (
    let was : Holds old h = subst (P h) (sym c.self.view_is) holds in
    let t : Scene = scene_at h in
    let told = c.in_ok-after.ensures.tells t (shows_at old h no_row was) in
    let config : c.self.inside.machine.config ≡ h.config = config_is old h was in
    let es = c.args.events.now in
    let before : c.sum-before.result ≡ sum_of (book_at h) = c.sum-before.ensures.value ∙ ap sum_of (book_here old h no_row was) in
    let replies : c.from_vec.result ≡ replies_to h.config es t
    = c.from_vec.ensures ∙ told.replies ∙ ap (λ (xs : Replies). xs ++ replies_to c.self.inside.machine.config es t) c.new-replies.ensures.items ∙ ap (λ q. replies_to q es t) config in
    let after : c.in_ok-after.after ≡ sum_of (shown h.config (scene_of h.config es t)) = told.after ∙ ap (λ q. sum_of (shown q (scene_of q es t))) config in
    let S : Sum → Replies → Sum → Sides = λ b r a. record { given = length es; before = b; replies = r; after = a } in
    ap (λ b. S b c.from_vec.result c.in_ok-after.after) before ∙ ap (λ r. S (sum_of (book_at h)) r c.in_ok-after.after) replies ∙ ap (λ a. S (sum_of (book_at h)) (replies_to h.config es t) a) after)
