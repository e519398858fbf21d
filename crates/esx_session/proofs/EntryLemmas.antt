-- A call with its reply.
use Rattle.std.proofs.Common.{◌≡◌, ℕ, List, [], ◌∷◌, ◌++◌, ap, ◌∙◌, append_assoc, decimal}
use Rattle.esx_events.specs.declared.call.Call.{Call}
use Rattle.esx_words.specs.Commands.{spelling}
use Rattle.esx_types.specs.declared.version.Version.{Version}
use Rattle.esx_session.specs.Sessions.{quoted}
use Rattle.esx_session.specs.Reading.{Place, SpellsCall, TakesReply, TakesEntry}
use Rattle.esx_session.proofs.CallLemmas.{known_caller}

pub call_line_text : (version : Version) (line : List ℕ) (caller : ℕ) (call : Call) (more : List ℕ) → SpellsCall version line caller call
    → (line ++ 10 ∷ []) ++ more ≡ (decimal caller ++ 32 ∷ (spelling call ++ 10 ∷ [])) ++ more
call_line_text version line caller call more is = ap (λ t. (t ++ 10 ∷ []) ++ more) is.spelled ∙ ap (λ t. t ++ more) (append_assoc (decimal caller) (32 ∷ spelling call) (10 ∷ []))

pub takes_entry : (version : Version) (line : List ℕ) (old new : Place) (caller : ℕ) (call : Call) (reply : List ℕ) → SpellsCall version line caller call → TakesReply old new reply
    → TakesEntry version line old new (record { caller = caller; call = call; reply = reply })
takes_entry version line old new caller call reply is takes = record {
  taken = takes.taken;
  left = takes.left;
  passed = takes.passed;
  text = ap (λ t. (line ++ 10 ∷ []) ++ t) takes.text ∙ call_line_text version line caller call (quoted reply) is;
  range = record {
    entry = record { caller = known_caller version caller is.known; call = is.range; reply = takes.some; ascii = takes.ascii };
    known = is.known;
    has = is.has;
  };
  next = takes.next;
}
