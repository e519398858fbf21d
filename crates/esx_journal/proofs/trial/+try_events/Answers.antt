use Rattle.std.proofs.Common.{rules, ℕ, ◌≡◌, ◌<◌, ◌≢◌, ◌++◌, ◌∷◌, [], drop, length, ◌∙◌, sym, ap, subst, arith, List, ◌+◌, suc, Ok, Err, is_ok, if◌then◌else◌}
use Rattle.std.proofs.Math.Seq.{drop-cons}
use Rattle.esx_types.specs.declared.config.Config.{Config}
use Rattle.esx_types.specs.declared.config.TheConstants.{MAX_NODES}
use Rattle.esx_events.specs.declared.event.Event.{Event}
use Rattle.esx_events.specs.declared.event.Refusal.TheVariants.{OutOfMemory}
use Rattle.esx_model.specs.Readings.{sum_of}
use Rattle.esx_machine.specs.Machine as machines
use Rattle.esx_machine.specs.Machine.{Trades, book_in}
use Rattle.esx_model.specs.Epochs.{AreEpochsWithin}
use Rattle.esx_model.proofs.Callers.{event_within}
use Rattle.esx_journal.proofs.Runs.{can_rise}
use Rattle.esx_journal.specs.Trial.{Told, Tells}
use Rattle.esx_journal.proofs.Trying.{Replies, no_more, sum_is, told_none, tells_more, told_refused}
use Rattle.esx_journal.proofs.trial.+try_events.Goals as goal

pub returns-then-at-events-clause-tells : goal.returns-then-at-events-clause-tells
returns-then-at-events-clause-tells t c = λ scene shows.
    let e = c.if-at-events.true in
    let P : List Event → Type 0 = λ es. Told c.args.machine.now.config scene es c.args.replies.now.items c.args.replies.now.items c.sum.result in
    subst P (sym (no_more c.args.events.now c.args.at (omega arith))) (told_none c.args.machine.now.config scene c.args.replies.now.items c.sum.result (sum_is c.args.machine.now scene c.sum.result shows c.sum.ensures.value))

pub apply-requires : goal.apply-requires
apply-requires t c =
    let s = c.requires.shows in
    let within = c.requires.within in
    let few = c.requires.few in
    record { rise = can_rise c.args.machine.now s.0 (MAX_NODES + c.args.at) s.1 s.2 (omega arith) }

pub try_events-after-requires : goal.try_events-after-requires
try_events-after-requires t c =
    let s = c.requires.shows in
    let x = c.in-Ok.ensures.event s.0 s.1 in
    let within = c.requires.within in
    let f = c.if-at-events.false in
    let next : (MAX_NODES + c.args.at) + 1 ≡ MAX_NODES + (c.args.at + 1) = omega arith in
    let P : ℕ → Type 0 = λ k. AreEpochsWithin k x.after.site in
    let epochs = subst P next (event_within c.args.machine.now.config (MAX_NODES + c.args.at) s.0 c.index-events-at.result (c.in-Ok.answer, x.after) s.2 x.gives) in
    (search rules, (omega arith, (c.requires.few, (x.after, x.shows, epochs))))

pub returns-in-Ok-clause-same : goal.returns-in-Ok-clause-same
returns-in-Ok-clause-same t c =
    let s = c.requires.shows in
    let x = c.in-Ok.ensures.event s.0 s.1 in
    let P : machines.Kept → Type 0 = λ k. Trades c.in-Ok.back k c.args.machine.now in
    c.revert.ensures c.args.machine.now (subst P (sym c.try_events-after.ensures.same) x.back)

pub returns-in-Ok-clause-tells : goal.returns-in-Ok-clause-tells
returns-in-Ok-clause-tells t c = λ scene shows.
    let k : machines.Kept = c.args.machine.now in
    let e = c.index-events-at.result in
    let es : List Event = c.args.events.now in
    let x = c.in-Ok.ensures.event scene shows in
    let within = c.requires.within in
    let less : c.args.at < length es = (let f = c.if-at-events.false in omega arith) in
    let next : suc c.args.at ≡ c.args.at + 1 = omega arith in
    let rest : drop c.args.at es ≡ e ∷ drop (c.args.at + 1) es = drop-cons es c.args.at e less ∙ ap (λ y. y ∷ drop (suc c.args.at) es) (sym c.index-events-at.is) ∙ ap (λ n. e ∷ drop n es) next in
    let pushed : c.push.new.self.items ≡ c.args.replies.now.items ++ Ok c.in-Ok.answer ∷ []
    = c.push.ensures.items ∙ ap (λ r. if is_ok r then c.reserve.new.self.items ++ Ok c.in-Ok.answer ∷ [] else c.reserve.new.self.items) c.unwrap.ensures ∙ ap (λ xs. xs ++ Ok c.in-Ok.answer ∷ []) c.reserve.ensures.items in
    let told = c.try_events-after.ensures.tells x.after x.shows in
    let P : List Event → Type 0 = λ l. Tells c.try_events-after.result k.config scene l c.args.replies.now.items c.try_events-after.new.replies.items in
    let Q : Config → Type 0 = λ q. Tells c.try_events-after.result q x.after (drop (c.args.at + 1) es) c.push.new.self.items c.try_events-after.new.replies.items in
    let R : Replies → Type 0 = λ q. Tells c.try_events-after.result k.config x.after (drop (c.args.at + 1) es) q c.try_events-after.new.replies.items in
    subst P (sym rest) (tells_more c.try_events-after.result k.config scene x.after e (drop (c.args.at + 1) es) c.in-Ok.answer c.args.replies.now.items c.try_events-after.new.replies.items x.gives (subst R pushed (subst Q x.config told)))

pub returns-in_default : goal.returns-in_default
returns-in_default t c =
    let s = c.requires.shows in
    let k : machines.Kept = c.args.machine.now in
    let e = c.index-events-at.result in
    let es : List Event = c.args.events.now in
    let same = (c.in-Err.ensures.event s.0 s.1).same in
    let no : c.in-Err.refusal ≢ OutOfMemory = c.in_default.not-OutOfMemory in
    let within = c.requires.within in
    let less : c.args.at < length es = (let f = c.if-at-events.false in omega arith) in
    let next : suc c.args.at ≡ c.args.at + 1 = omega arith in
    let rest : drop c.args.at es ≡ e ∷ drop (c.args.at + 1) es = drop-cons es c.args.at e less ∙ ap (λ y. y ∷ drop (suc c.args.at) es) (sym c.index-events-at.is) ∙ ap (λ n. e ∷ drop n es) next in
    let pushed : c.push-in_default.new.self.items ≡ c.args.replies.now.items ++ Err c.in-Err.refusal ∷ []
    = c.push-in_default.ensures.items ∙ ap (λ r. if is_ok r then c.reserve.new.self.items ++ Err c.in-Err.refusal ∷ [] else c.reserve.new.self.items) c.unwrap-in_default.ensures
    ∙ ap (λ xs. xs ++ Err c.in-Err.refusal ∷ []) c.reserve.ensures.items in
    record {
      same = same;
      tells = λ scene shows. (
          let sum = sum_is k scene c.sum-in_default.result shows (c.sum-in_default.ensures.value ∙ ap (λ (m : machines.Kept). sum_of (book_in m)) same) in
          let P : List Event → Type 0 = λ l. Told k.config scene l c.args.replies.now.items c.push-in_default.new.self.items c.sum-in_default.result in
          let R : Replies → Type 0 = λ q. Told k.config scene (e ∷ drop (c.args.at + 1) es) c.args.replies.now.items q c.sum-in_default.result in
          subst P (sym rest) (subst R (sym pushed) (told_refused k.config scene e (drop (c.args.at + 1) es) c.in-Err.refusal c.args.replies.now.items c.sum-in_default.result ((c.in-Err.ensures.event scene shows).why no) sum)));
    }
