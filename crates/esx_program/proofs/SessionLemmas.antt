-- What comes out of a replay through a buffer, and what is written where memory runs out.
use Rattle.std.proofs.Common.{inl, inr, ◌≡◌, ℕ, List, [], Option, Result, Ok, Err, refl}
use Rattle.std.specs.Result.{IfErr, IsErrOf, OnOk}
use Rattle.std.specs.Io.KnownBytes.{Appends, Keeps, append_known}
use Rattle.esx_types.specs.declared.config.Config.{Config}
use Rattle.esx_session.specs.declared.session.Entry.{Entry}
use Rattle.esx_check.specs.declared.fault.OutputFault.{OutputFault}
use Rattle.esx_check.specs.declared.fault.OutputFault.TheVariants.{Write, OutOfMemory}
use Rattle.esx_check.specs.Replays.{ReplayStops, replay_text, write_faults}
use Rattle.esx_program.specs.Sessions.{GivenOut, ReplayEnds, TellingStops, failed_writes}
use Rattle.esx_program.proofs.OutgoingLemmas.{appends_kept, appends_known, appends_nothing, none_wait}

pub text_comes_out : {T : Type 0} (r : Result T OutputFault) (a b : Option (List ℕ)) (first last text : List ℕ)
    → first ≡ [] → ((IsErrOf r Write → ⊥) → last ≡ []) → OnOk r (Appends (append_known a first) (append_known b last) text) → OnOk r (Appends a b text)
text_comes_out (Ok v) a b first last text e f s = rw (none_wait a first e) at (rw (none_wait b last (f (λ h. cc))) at s)
text_comes_out (Err d) a b first last text e f s = tt

pub stop_comes_out : {T : Type 0} (r : Result T OutputFault) (site : Config) (entries : List Entry) (a b : Option (List ℕ)) (first last : List ℕ)
    → first ≡ [] → ((IsErrOf r Write → ⊥) → last ≡ []) → IfErr r (λ e. ReplayStops e site entries (append_known a first) (append_known b last))
    → IfErr r (λ e. (taken : Option (List ℕ)) × ReplayEnds e site entries a taken × GivenOut e taken b)
stop_comes_out (Ok v) site entries a b first last e f s = tt
stop_comes_out (Err Write) site entries a b first last e f s = (append_known b last, inl (rw (none_wait a first e) at s), (last, appends_known b last))
stop_comes_out (Err OutOfMemory) site entries a b first last e f s = (b, inl (rw (none_wait a first e) at (rw (none_wait b last (f (λ h. cc))) at s)), refl)

-- how many writes failed, by the fault that an output comes to
pub faults_of : (e : OutputFault) → write_faults {T = Unit {0}} (Err e) ≡ failed_writes e
faults_of Write = refl
faults_of OutOfMemory = refl

-- nothing was written of a replay, and what waits was handed on, or could not be
pub no_replay : (e : OutputFault) (site : Config) (entries : List Entry) (a b : Option (List ℕ)) → Keeps a b
    → (taken : Option (List ℕ)) × ReplayEnds e site entries a taken × GivenOut e taken b
no_replay Write site entries a b k = (b, inl ([], replay_text site entries, refl, appends_kept a a b [] (appends_nothing a) k), ([], appends_nothing b))
no_replay OutOfMemory site entries a b k = (b, inr (refl, appends_kept a a b [] (appends_nothing a) k), refl)

-- the same of any text
pub no_telling : (e : OutputFault) (text : List ℕ) (a b : Option (List ℕ)) → Keeps a b → TellingStops e text a b
no_telling Write text a b k = ([], text, refl, appends_kept a a b [] (appends_nothing a) k)
no_telling OutOfMemory text a b k = appends_kept a a b [] (appends_nothing a) k
