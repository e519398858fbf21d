-- A command line with several words.
use Rattle.std.proofs.Common.{◌≡◌, Bool, true, false, List, Option, Some, None, Result, Ok, Err, ap, sym, ◌∙◌, refl, inr, ◌⊎◌, option_map}
use Rattle.std.specs.Result.{IfOk, IfErr, OnOk}
use Rattle.std.specs.Borrow.{Bor}
use Rattle.std.specs.Option.{ok_or}
use Rattle.std.proofs.lemmas.Option.{same_Some}
use Rattle.clap.specs.Words.{AddsSubcommand, App, Row, Text, app_of, with_subcommand}
use Rattle.clap.specs.Simple.{app_of_fields}
use Rattle.clap.specs.declared.builder.command.Command.{Command}
use Rattle.clap.specs.declared.builder.command.Command.TheViews.{out-Command as fields_of}
use Rattle.esx_program.specs.declared.words.Asked.{Asked}
use Rattle.esx_program.specs.declared.words.WordsFault.{WordsFault}
use Rattle.esx_program.specs.declared.words.WordsFault.TheVariants.{Wrong}
use Rattle.esx_program.specs.Words.{InFull, without_help, named_in_full}

pub no_help_of_its_own : (old new : Command) (a : App) → fields_of new ≡ record (fields_of old) { disable_help_subcommand = true } → app_of old ≡ a
    → app_of new ≡ without_help a
no_help_of_its_own old new a fields o = ap app_of_fields fields ∙ ap without_help o

pub one_more : (old sub new : Command) (a b : App) → AddsSubcommand old sub new → (fields_of sub).has_globals ≡ false
    → app_of old ≡ a → app_of sub ≡ b → app_of new ≡ with_subcommand a b.top
one_more old sub new a b adds local o s = adds.shape local ∙ ap (λ x. with_subcommand x (app_of sub).top) o ∙ ap (λ (x : App). with_subcommand a x.top) s

pub last_one : {E : Type 0} (r : Result Command E) (old sub : Command) (a b : App) → IfOk r (AddsSubcommand old sub) → (fields_of sub).has_globals ≡ false
    → app_of old ≡ a → app_of sub ≡ b → IfOk r (λ new. app_of new ≡ with_subcommand a b.top)
last_one (Ok new) old sub a b adds local o s = one_more old sub new a b adds local o s
last_one (Err e) old sub a b adds local o s = tt

-- the name and the rows of a subcommand are those of both
pub name_of : {A B C : Type 0} (g : A → B × C) (s : Option A) (x : B) → Some x ≡ option_map (λ a. (g a).0) s → Some x ≡ option_map (λ p. p.0) (option_map g s)
name_of g None x e = e
name_of g (Some a) x e = e

pub both_of : (o : Option (Text × List Row)) (name : Text) (rows : List Row) → Some name ≡ option_map (λ p. p.0) o → Some rows ≡ option_map (λ p. p.1) o → o ≡ Some (name, rows)
both_of None name rows e f = absurd (cc)
both_of (Some p) name rows e f = ap (λ x. Some (x, p.1)) (sym (same_Some _ _ e)) ∙ ap (λ x. Some (name, x)) (sym (same_Some _ _ f))

pub not_true : (b : Bool) → (b ≡ true → ⊥) → b ≡ false
not_true true h = absurd (h refl)
not_true false h = refl

-- what is asked for, if it is anything
module _ (r : Result (Asked (Bor Text)) WordsFault) where
  pub asked_ok : (o : Option (Asked (Bor Text))) (wanted : Option InFull) → r ≡ ok_or o Wrong → wanted ≡ option_map named_in_full o
      → IfOk r (λ asked. wanted ≡ Some (named_in_full asked))
  asked_ok None wanted e w = rw e tt
  asked_ok (Some asked) wanted e w = rw e w

  pub asked_not : (o : Option (Asked (Bor Text))) (wanted : Option InFull) → r ≡ ok_or o Wrong → wanted ≡ option_map named_in_full o
      → IfErr r (λ fault. fault ≡ Wrong → wanted ≡ None)
  asked_not None wanted e w = rw e (λ _. w)
  asked_not (Some asked) wanted e w = rw e tt

-- the same is wanted
pub asked_so : (r : Result (Asked (Bor Text)) WordsFault) (a b : Option InFull) → a ≡ b → IfOk r (λ asked. b ≡ Some (named_in_full asked))
    → IfOk r (λ asked. a ≡ Some (named_in_full asked))
asked_so (Ok asked) a b same ok = same ∙ ok
asked_so (Err e) a b same ok = tt

pub not_asked_so : (r : Result (Asked (Bor Text)) WordsFault) (P : Type 0) (a b : Option InFull) → a ≡ b → IfErr r (λ e. e ≡ Wrong → b ≡ None)
    → IfErr r (λ e. e ≡ Wrong → P ⊎ (a ≡ None))
not_asked_so (Ok asked) P a b same none = tt
not_asked_so (Err e) P a b same none = λ wrong. inr (same ∙ none wrong)

pub on_any : {A B : Type 0} (r : Result A B) (P : Type 0) → P → OnOk r P
on_any (Ok a) P p = p
on_any (Err e) P p = tt
