use Rattle.std.proofs.Common.{List, refl, sym, ap, subst, ◌∙◌}
use Rattle.esx_types.specs.declared.config.Config.{Config}
use Rattle.esx_events.specs.declared.event.Event.{Event}
use Rattle.esx_model.specs.declared.book.Book.{Book}
use Rattle.esx_model.specs.Show.{shown}
use Rattle.esx_story.specs.Moments.{moments}
use Rattle.esx_story.specs.Readings.{named_page, said_before}
use Rattle.esx_story.specs.Waits.{Met}
use Rattle.esx_walk.specs.Looking.{losing, IsPrepared}
use Rattle.esx_walk.specs.Making.{walked, IsReady}
use Rattle.esx_walk.specs.Walks.{Walked, IsWalk, MayGoOn, WentOn}
use Rattle.esx_walk.proofs.Walking.{short_account, can_rise, book_shown}
use Rattle.esx_walk.proofs.walk.Walk.go.Goals as goal

pub make-requires-clause-rise : goal.make-requires-clause-rise
make-requires-clause-rise c = can_rise (walked c.self.inside.machine c.self.inside.account) (subst MayGoOn (sym c.self.view_is) c.requires.short)

pub make-requires-clause-short : goal.make-requires-clause-short
make-requires-clause-short c =
    let s = short_account (walked c.self.inside.machine c.self.inside.account) (subst MayGoOn (sym c.self.view_is) c.requires.short) in
    record { config = s.config; moments = s.moments; mets = s.mets; site = s.site; account = c.prepare.ensures.same s.config s.moments s.mets s.site s.account; short = s.short }

pub returns-in-Ok : goal.returns-in-Ok
returns-in-Ok c =
    let k = c.self.inside.machine in
    let e : Event = c.args.event.now in
    let v : Walked = walked k c.prepare.new.account in
    let P : Walked → Type 0 = λ x. (site : Config) (es : List Event) (mets : List Met) → IsWalk site es mets x → WentOn site es mets e c.make.result (walked c.make.new.machine c.make.new.account) in
    subst P c.self.view_is (λ site es mets walk. (
    let t = walk.scene in
    let walks : IsWalk site es mets v = record {
      good = walk.good;
      config = walk.config;
      scene = t;
      runs = walk.runs;
      shows = walk.shows;
      account = c.prepare.ensures.same site (moments site es) mets t.site walk.account;
    } in
    let book = book_shown k t walk.shows ∙ ap (λ (q : Config). shown q t) walk.config in
    let before = c.in-Ok.before in
    let Q : Config → Type 0 = λ q. IsPrepared q t (losing e c.page_before-page.result) v.account.places before.seen in
    let ready : IsReady site t e c.page_before-page.result v.account.places before.seen before.held = record {
      read = c.page_before-page.ensures ∙ ap (λ (b : Book). said_before b (named_page e)) book;
      prepared = subst Q walk.config (c.in-Ok.ensures.ready t walk.shows walk.account.rows);
      holds = c.in-Ok.ensures.held t walk.shows;
    } in
    c.make.ensures site es mets walks ready))

pub returns-in-Err : goal.returns-in-Err
returns-in-Err c =
    let k = c.self.inside.machine in
    let v : Walked = walked k c.prepare.new.account in
    let P : Walked → Type 0 = λ x. (site : Config) (es : List Event) (mets : List Met) → IsWalk site es mets x → IsWalk site es mets v in
    let stays = subst P c.self.view_is (λ site es mets walk. record {
      good = walk.good;
      config = walk.config;
      scene = walk.scene;
      runs = walk.runs;
      shows = walk.shows;
      account = c.prepare.ensures.same site (moments site es) mets walk.scene.site walk.account;
    }) in
    λ site es mets walk. (stays site es mets walk, λ no. absurd (no refl))
