use Rattle.std.proofs.Common.{sym, ap, ◌∙◌, ◌++◌, ◌∷◌, []}
use Rattle.std.specs.declared.snapshot.Snapshot.{Snapshot}
use Rattle.esx_recording.specs.declared.noted.Noted.{Noted}
use Rattle.esx_recording.specs.declared.place.Place.{Place}
use Rattle.esx_recording.specs.declared.place.Place.TheVariants.{Start}
use Rattle.esx_recording.specs.Questions.{behind, place_after}
use Rattle.esx_recording.proofs.QuestionLemmas.{place_behind_more}
use Rattle.esx_recording.proofs.seen.Seen.push.Goals as goal

pub invariant_of-self : goal.invariant_of-self
invariant_of-self c =
    c.behind-self-inside.ensures
    ∙ ap (λ (p : Place). behind p c.args.byte) c.self.invariant
    ∙ sym (place_behind_more c.self.inside.text.value c.args.byte)
    ∙ ap (place_after Start) (sym (c.longer.ensures ∙ ap (λ (t : Snapshot Noted). t.value ++ c.args.byte ∷ []) c.replace.ensures.value))
