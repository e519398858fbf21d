use Rattle.std.proofs.Common.{◌≡◌, ◌∷◌, ◌++◌, [], List, sym, ap, subst, ◌∙◌, Ok}
use Rattle.esx_types.specs.declared.config.Config.{Config}
use Rattle.esx_events.specs.declared.event.Event.{Event}
use Rattle.esx_machine.specs.Machine.{Kept, Shows, book_in}
use Rattle.esx_model.specs.Replay.{next}
use Rattle.esx_course.specs.Looking.{passed_from}
use Rattle.esx_course.specs.Courses.{Coursed, IsCourse, MayGoOn, WentOn}
use Rattle.esx_course.proofs.Going.{course_more, told_of, can_rise}
use Rattle.esx_course.proofs.course.Course.go.Goals as goal

pub apply-requires : goal.apply-requires
apply-requires c = record { rise = can_rise (record { machine = c.self.inside.machine; epochs = c.self.inside.epochs }) (subst MayGoOn (sym c.self.view_is) c.requires.short) }

pub returns-in-Ok : goal.returns-in-Ok
returns-in-Ok c =
    let e : Event = c.args.event.now in
    let a = c.in-Ok.answer in
    let w : Coursed = record { machine = c.self.inside.machine; epochs = c.self.inside.epochs } in
    let v : Coursed = record { machine = c.moved-passages.new.machine; epochs = c.moved-passages.new.epochs } in
    let told = c.moved-passages.ensures in
    let P : Coursed → Type 0 = λ k. (site : Config) (es : List Event) → IsCourse site es k → WentOn site es e (Ok (a, c.moved-passages.result)) v in
    subst P c.self.view_is (λ site es course. (
    let t = course.scene in
    let x = c.in-Ok.ensures.event t course.shows in
    let goes : next site t e ≡ Ok (a, x.after) = ap (λ (q : Config). next q t e) (sym course.config) ∙ x.gives in
    let S : Kept → Type 0 = λ k. Shows k x.after in
    let shows = subst S (sym told.same) x.shows in (
      course_more site es e a w v x.after course goes shows (ap (λ (k : Kept). k.config) told.same ∙ x.config ∙ course.config) told.epochs told.within,
      told_of site es e a w v x.after c.equal_page-found.result c.moved-passages.result course goes shows told.within (c.equal_page-found.ensures t course.shows)
          (told.moved w.machine x.back ∙ ap (λ (k : Kept). passed_from e a c.equal_page-found.result (book_in w.machine) (book_in k) w.epochs) (sym told.same)),
    )))
