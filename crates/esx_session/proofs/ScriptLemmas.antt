-- The calls of a session as far as they were read, without their replies.
use Rattle.std.proofs.Common.{◌≡◌, ℕ, List, [], ◌∷◌, ◌++◌, ap, sym, ◌∙◌, map}
use Rattle.std.proofs.lemmas.List.{map-append}
use Rattle.esx_types.specs.declared.config.Config.{Config}
use Rattle.esx_session.specs.declared.session.Entry.{Entry}
use Rattle.esx_session.specs.declared.session.Request.{Request}
use Rattle.esx_session.specs.Sessions.{Reads, ReadsScript, request}
use Rattle.esx_session.specs.Reading.{Reader, Follows}

pub record IsScripted (text : List ℕ) (site : Config) (reader : Reader) (requests : List Request) : Type 0 where
  pub done : List Entry
  pub follows : Follows text site done reader
  pub scripted : requests ≡ map request done

pub nothing_scripted : (text : List ℕ) (site : Config) (reader : Reader) (requests : List Request) → Follows text site [] reader → requests ≡ []
    → IsScripted text site reader requests
nothing_scripted text site reader requests follows none = record { done = []; follows = follows; scripted = none }

pub one_more_scripted : (text : List ℕ) (site : Config) (reader next : Reader) (requests more : List Request) (e : Entry) (is : IsScripted text site reader requests)
    → Follows text site (is.done ++ e ∷ []) next → more ≡ requests ++ request e ∷ [] → IsScripted text site next more
one_more_scripted text site reader next requests more e is follows pushed = record {
  done = is.done ++ e ∷ [];
  follows = follows;
  scripted = pushed ∙ ap (λ v. v ++ request e ∷ []) is.scripted ∙ sym (map-append request is.done (e ∷ []));
}

pub scripted_whole : (text : List ℕ) (site : Config) (reader : Reader) (requests : List Request) (is : IsScripted text site reader requests) → Reads text site is.done
    → ReadsScript text site requests
scripted_whole text site reader requests is reads = (is.done, reads, is.scripted)
