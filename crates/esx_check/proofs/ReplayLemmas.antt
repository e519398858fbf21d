-- What a replay wrote on its way, and at its end.
use Rattle.std.proofs.Common.{refl, ◌≡◌, ℕ, List, [], ◌∷◌, ◌++◌, Option, Result, Ok, Err, sym, ◌∙◌, ap, append_assoc, append-nil, length, map, subst, take, drop, None, Some}
use Rattle.std.specs.List.{flat_map}
use Rattle.std.specs.Result.{IfErr, IsErrAnd, OnOk}
use Rattle.std.specs.Io.KnownBytes.{Appends, Keeps}
use Rattle.std.proofs.lemmas.Grind.{flat_map-append}
use Rattle.std.proofs.Math.Seq.{take-append_seam, take-length}
use Rattle.std.proofs.lemmas.List.{take-append-drop}
use Rattle.esx_types.specs.declared.config.Config.{Config}
use Rattle.esx_events.specs.declared.call.Call.{Call}
use Rattle.esx_events.specs.declared.call.Call.TheVariants.{Table}
use Rattle.esx_model.specs.Console.{Session, next_reply, lined}
use Rattle.esx_console.specs.Calls.{opened_session}
use Rattle.esx_console.specs.Unlogged.{Kept, AnswersAs}
use Rattle.esx_replies.specs.Replies.{reply_text}
use Rattle.esx_session.specs.declared.session.Entry.{Entry}
use Rattle.esx_session.specs.declared.session.Request.{Request}
use Rattle.esx_session.specs.Sessions.{request}
use Rattle.esx_writing.specs.Writing.{WritesFront}
use Rattle.esx_writing.proofs.WritingLemmas.{appends_nothing, appends_more}
use Rattle.esx_check.specs.declared.fault.OutputFault.{OutputFault}
use Rattle.esx_check.specs.declared.fault.OutputFault.TheVariants.{Write, OutOfMemory}
use Rattle.esx_check.specs.Again.{made}
use Rattle.esx_check.specs.Wants.{WantsMemory}
use Rattle.esx_check.specs.Replays.{replies_text, table_after, replay_text, ReplayStops, ReplyStops}
use Rattle.esx_check.proofs.AgainLemmas.{made_nothing, made_more, made_follow, text_of, first_again, again_more}

pub no_replies : (site : Config) (a : Option (List ℕ)) → Appends a a (replies_text site [])
no_replies site a = rw made_nothing (appends_nothing a)

pub one_reply_more : (site : Config) (done : List Entry) (e : Entry)
    → replies_text site (done ++ e ∷ []) ≡ replies_text site done ++ reply_text (next_reply (made site done) e.call)
one_reply_more site done e =
    ap (λ (s : Session). flat_map text_of s.log) (made_more site done e) ∙ flat_map-append text_of (made site done).log _
    ∙ ap (λ v. replies_text site done ++ v) (append-nil (reply_text (next_reply (made site done) e.call)))

pub writes_more : (site : Config) (done : List Entry) (e : Entry) (s : Session) (a b c : Option (List ℕ)) → s ≡ made site done
    → Appends a b (replies_text site done) → Appends b c (reply_text (next_reply s e.call)) → Appends a c (replies_text site (done ++ e ∷ []))
writes_more site done e s a b c is p q = rw one_reply_more (appends_more a b c (replies_text site done) _ p (rw is at q))

-- the replies to the first calls stand at the front of all
record Front (site : Config) (done all : List Entry) : Type 0 where
  rest : List ℕ
  text : replies_text site all ≡ replies_text site done ++ rest

front : (site : Config) (done later : List Entry) → Front site done (done ++ later)
front site done later =
    let follow = made_follow site done later in
    record { rest = flat_map text_of follow.more; text = ap (flat_map text_of) follow.log ∙ flat_map-append text_of (made site done).log follow.more }

-- a text before, and a front of the next
front_of_next : (a b c : Option (List ℕ)) (all before next rest : List ℕ) → all ≡ (before ++ next) ++ rest → Appends a b before → WritesFront b c next → WritesFront a c all
front_of_next a b c all before next rest e p w = (
  before ++ w.0,
  w.1 ++ rest,
  e ∙ ap (λ v. (before ++ v) ++ rest) w.2 ∙ ap (λ v. v ++ rest) (sym (append_assoc before w.0 w.1)) ∙ append_assoc (before ++ w.0) w.1 rest,
  appends_more a b c before w.0 p w.3,
)

stops_at : (fault : OutputFault) (site : Config) (entries done later : List Entry) (e : Entry) (a b c : Option (List ℕ))
    → entries ≡ done ++ e ∷ later → Appends a b (replies_text site done)
    → ReplyStops fault (reply_text (next_reply (made site done) e.call)) b c → (fault ≡ OutOfMemory → WantsMemory site done e.call) → ReplayStops fault site entries a c
stops_at Write site entries done later e a b c split p w out =
    let more = front site (done ++ e ∷ []) later in
    let whole : replay_text site entries ≡ (replies_text site done ++ reply_text (next_reply (made site done) e.call)) ++ (more.rest ++ table_after site entries) =
    ap (λ v. v ++ table_after site entries) (ap (replies_text site) (split ∙ sym (append_assoc done (e ∷ []) later)) ∙ more.text ∙ ap (λ v. v ++ more.rest) (one_reply_more site done e))
    ∙ append_assoc (replies_text site done ++ reply_text (next_reply (made site done) e.call)) more.rest (table_after site entries) in
    front_of_next a b c _ (replies_text site done) _ _ whole p w
stops_at OutOfMemory site entries done later e a b c split p w out =
    let first : take (length done) entries ≡ done = ap (take (length done)) split ∙ take-append_seam done (e ∷ later) in
    (length done, rw first (rw append-nil at (appends_more a b c (replies_text site done) [] p w)), record { done = done; later = e ∷ later; split = split; number = refl; wants = out refl })

whole_of : (entries done later : List Entry) → [] ≡ map request later → entries ≡ done ++ later → done ≡ entries
whole_of entries done [] none split = sym (split ∙ append-nil done)
whole_of entries done (x ∷ later) none split = absurd (cc)

-- the calls that were made so far, and those that are left
pub record Replayed (site : Config) (entries : List Entry) (rest : List Request) (console : Kept) (old new : Option (List ℕ)) : Type 0 where
  pub done : List Entry
  pub later : List Entry
  pub split : entries ≡ done ++ later
  pub left : rest ≡ map request later
  pub answers : AnswersAs console (made site done)
  pub written : Appends old new (replies_text site done)

pub nothing_replayed : (site : Config) (entries : List Entry) (requests rest : List Request) (console : Kept) (a : Option (List ℕ))
    → AnswersAs console (opened_session site) → requests ≡ map request entries → requests ≡ [] ++ rest → Replayed site entries rest console a a
nothing_replayed site entries requests rest console a answers are split = record {
  done = [];
  later = entries;
  split = refl;
  left = sym split ∙ are;
  answers = first_again site console answers;
  written = no_replies site a;
}

-- the entry of the next call
record Next (r : Request) (rest : List Request) (later : List Entry) : Type 0 where
  entry : Entry
  more : List Entry
  split : later ≡ entry ∷ more
  left : rest ≡ map request more
  is : r.call ≡ entry.call

next_of : (r : Request) (rest : List Request) (later : List Entry) → r ∷ rest ≡ map request later → Next r rest later
next_of r rest [] e = absurd (cc)
next_of r rest (x ∷ later) e = record { entry = x; more = later; split = refl; left = cc; is = let same : r ≡ request x = cc in ap (λ (q : Request). q.call) same }

module _ (site : Config) (entries : List Entry) (rest later : List Request) (r : Request) (console : Kept) (a b c : Option (List ℕ))
    (so_far : Replayed site entries rest console a b) (step : rest ≡ r ∷ later) where
  pub one_more_replayed : (after : Kept) → ((s : Session) (caller : ℕ) → AnswersAs console s → AnswersAs after (lined s caller r.call))
      → Appends b c (reply_text (next_reply (made site so_far.done) r.call)) → Replayed site entries later after a c
  one_more_replayed after makes written =
      let next = next_of r later so_far.later (sym step ∙ so_far.left) in
      let e = next.entry in
      let split : entries ≡ so_far.done ++ e ∷ next.more = so_far.split ∙ ap (λ v. so_far.done ++ v) next.split in
      record {
        done = so_far.done ++ e ∷ [];
        later = next.more;
        split = split ∙ sym (append_assoc so_far.done (e ∷ []) next.more);
        left = next.left;
        answers = again_more site so_far.done e after
            (subst (λ (call : Call). AnswersAs after (lined (made site so_far.done) e.caller call)) next.is (makes (made site so_far.done) e.caller so_far.answers));
        written = writes_more site so_far.done e (made site so_far.done) a b c refl so_far.written
            (subst (λ (call : Call). Appends b c (reply_text (next_reply (made site so_far.done) call))) next.is written);
      }

  pub stops_at_request : (fault : OutputFault) → ReplyStops fault (reply_text (next_reply (made site so_far.done) r.call)) b c
      → (fault ≡ OutOfMemory → WantsMemory site so_far.done r.call) → ReplayStops fault site entries a c
  stops_at_request fault stops wants =
      let next = next_of r later so_far.later (sym step ∙ so_far.left) in
      let split : entries ≡ so_far.done ++ next.entry ∷ next.more = so_far.split ∙ ap (λ v. so_far.done ++ v) next.split in
      stops_at fault site entries so_far.done next.more next.entry a b c split so_far.written
      (subst (λ (call : Call). ReplyStops fault (reply_text (next_reply (made site so_far.done) call)) b c) next.is stops)
      (subst (λ (call : Call). fault ≡ OutOfMemory → WantsMemory site so_far.done call) next.is wants)

-- no call is left
pub all_replayed : (site : Config) (entries : List Entry) (rest : List Request) (console : Kept) (a b : Option (List ℕ)) (so_far : Replayed site entries rest console a b) → rest ≡ []
    → so_far.done ≡ entries
all_replayed site entries rest console a b so_far none = whole_of entries so_far.done so_far.later (sym none ∙ so_far.left) so_far.split

stops_last : (fault : OutputFault) (site : Config) (entries : List Entry) (a b c : Option (List ℕ))
    → Appends a b (replies_text site entries) → ReplyStops fault (table_after site entries) b c → ReplayStops fault site entries a c
stops_last Write site entries a b c p w = front_of_next a b c _ (replies_text site entries) (table_after site entries) [] (sym (append-nil (replay_text site entries))) p w
stops_last OutOfMemory site entries a b c p w = (
  length entries,
  rw take-length (rw append-nil at (appends_more a b c (replies_text site entries) [] p w)),
  record { done = entries; later = []; split = sym (append-nil entries); number = refl; wants = record { may = tt; comes = tt } },
)

pub stops_at_table : {T : Type 0} (r : Result T OutputFault) (site : Config) (entries done : List Entry) (s : Session) (a b c : Option (List ℕ))
    → done ≡ entries → s ≡ made site done → Appends a b (replies_text site done)
    → IfErr r (λ fault. ReplyStops fault (reply_text (next_reply s Table)) b c) → IfErr r (λ fault. ReplayStops fault site entries a c)
stops_at_table (Ok v) site entries done s a b c all is p w = tt
stops_at_table (Err fault) site entries done s a b c all is p w = stops_last fault site entries a b c (rw all at p) (rw (is, all) at w)

pub writes_table : {T : Type 0} (r : Result T OutputFault) (site : Config) (entries done : List Entry) (s : Session) (a b c : Option (List ℕ))
    → done ≡ entries → s ≡ made site done → Appends a b (replies_text site done)
    → OnOk r (Appends b c (reply_text (next_reply s Table))) → OnOk r (Appends a c (replay_text site entries))
writes_table (Ok v) site entries done s a b c all is p q = appends_more a b c (replies_text site entries) (table_after site entries) (rw all at p) (rw (is, all) at q)
writes_table (Err fault) site entries done s a b c all is p q = tt

-- the exit of a `?` that hands on the error as it is
pub handed_on : {T E : Type 0} (r : Result T E) (x : E) (Q : E → Type 0) → IsErrAnd r (λ e. e ≡ x) → Q x → IfErr r Q
handed_on (Ok v) x Q h q = tt
handed_on (Err e) x Q h q = rw h q

keeps_on : (a b c : Option (List ℕ)) (text : List ℕ) → Appends a b text → Keeps b c → Appends a c text
keeps_on None b c text p k = tt
keeps_on (Some xs) None c text p k = absurd p
keeps_on (Some xs) (Some ys) None text p k = absurd k
keeps_on (Some xs) (Some ys) (Some zs) text p k = k ∙ p

-- a flush hands on what was written
pub text_flushed : {T : Type 0} (r : Result T OutputFault) (a b c : Option (List ℕ)) (text : List ℕ) → OnOk r (Appends a b text) → Keeps b c → OnOk r (Appends a c text)
text_flushed (Ok v) a b c text p k = keeps_on a b c text p k
text_flushed (Err e) a b c text p k = tt

pub stop_flushed : {T : Type 0} (r : Result T OutputFault) (site : Config) (entries : List Entry) (a b c : Option (List ℕ))
    → IfErr r (λ fault. ReplayStops fault site entries a b) → Keeps b c → IfErr r (λ fault. ReplayStops fault site entries a c)
stop_flushed (Ok v) site entries a b c w k = tt
stop_flushed (Err Write) site entries a b c w k = (w.0, w.1, w.2, keeps_on a b c _ w.3 k)
stop_flushed (Err OutOfMemory) site entries a b c w k = (w.0, keeps_on a b c _ w.1 k, w.2)

-- what was written is a front, also where memory ran out
pub flush_fails : {T : Type 0} (r : Result T OutputFault) (site : Config) (entries : List Entry) (a b c : Option (List ℕ))
    → OnOk r (Appends a b (replay_text site entries)) → IfErr r (λ fault. ReplayStops fault site entries a b) → Keeps b c → WritesFront a c (replay_text site entries)
flush_fails (Ok v) site entries a b c p w k = (replay_text site entries, [], sym (append-nil (replay_text site entries)), keeps_on a b c _ p k)
flush_fails (Err Write) site entries a b c p w k = (w.0, w.1, w.2, keeps_on a b c _ w.3 k)
flush_fails (Err OutOfMemory) site entries a b c p w k =
    let all = front site (take w.0 entries) (drop w.0 entries) in
    let whole : replies_text site entries ≡ replies_text site (take w.0 entries) ++ all.rest = ap (replies_text site) (sym (take-append-drop w.0 entries)) ∙ all.text in (
      replies_text site (take w.0 entries),
      all.rest ++ table_after site entries,
      ap (λ v. v ++ table_after site entries) whole ∙ append_assoc (replies_text site (take w.0 entries)) all.rest (table_after site entries),
      keeps_on a b c _ w.1 k,
    )
