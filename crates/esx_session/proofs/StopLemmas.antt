-- Where a text stops being a session.
use Rattle.std.proofs.Common.{◌⊎◌, ◌≡◌, ◌≤◌, ◌+◌, ℕ, List, [], ◌∷◌, ◌++◌, length, take, drop, arith, refl, sym, ap, ◌∙◌, append_assoc, append-nil, length-append, inl, inr}
use Rattle.std.proofs.lemmas.List.{take-append-le, take-append-drop}
use Rattle.std.proofs.Math.Seq.{take-append_seam}
use Rattle.std.specs.List.{AllByRecursion}
use Rattle.std.specs.Str.Lines.{lines}
use Rattle.std.proofs.Math.Path.{subst}
use Rattle.esx_types.specs.Ranges.{IsConfig}
use Rattle.esx_types.specs.declared.config.Config.{Config}
use Rattle.esx_types.specs.declared.version.Version.{Version}
use Rattle.esx_types.specs.declared.version.Version.TheVariants.{Two}
use Rattle.esx_reading.specs.declared.fault.TextFault.{TextFault}
use Rattle.esx_reading.specs.declared.fault.TextFault.TheVariants.{NotToml, BadKey, BadLine, NotText, Differs, Read, Write, OutOfMemory}
use Rattle.esx_session.specs.declared.session.Entry.{Entry}
use Rattle.esx_session.specs.Sessions.{ended, head_line, end_text, IsEntryOf, Tells, Reads, TellsNone, Begins, StopsAt, IsRefused, HasOpening}
use Rattle.esx_session.specs.Reading.{Place, HasNoFeed, calls_text, TellsCalls, IsStuck, StopsCalls, LacksCalls, LacksHead, LacksSite, LacksOpening}
use Rattle.esx_session.proofs.FeedLemmas.{no_feed}
use Rattle.esx_session.proofs.FrontLemmas.{same_line}
use Rattle.esx_session.proofs.SessionLemmas.{site_line, no_feed_site, head_stays, session_lines, same_site_line, same_head}
use Rattle.esx_session.proofs.CallsLemmas.{end_line}

-- a session begins with each front of lines with which one begins
begins_front : (front others : List (List ℕ)) → Begins (front ++ others) → Begins front
begins_front front others b = (others ++ b.0, b.1, b.2, rw (sym (append_assoc front others b.0)) b.3)

-- behind some lines the next cannot stand, or they are none of a session
abbrev IsLost : List (List ℕ) → List (List ℕ) → Type 0
IsLost front [] = TellsNone front
IsLost front (line ∷ others) = Begins (front ++ line ∷ []) → ⊥

stops_here : (n : ℕ) (told front others : List (List ℕ)) → told ≡ front ++ others → n ≡ length front + 1 → IsLost front others
    → ((n ≤ length told) × (Begins (take n told) → ⊥)) ⊎ ((n ≡ length told + 1) × TellsNone told)
stops_here n told front [] whole at lost =
    let same : told ≡ front = whole ∙ append-nil front in
    inr (omega (arith, at, ap length same), rw same lost)
stops_here n told front (line ∷ others) whole at lost =
    let one : told ≡ (front ++ line ∷ []) ++ others = whole ∙ sym (append_assoc front (line ∷ []) others) in
    let count : n ≡ length (front ++ line ∷ []) = omega (arith, at, length-append front (line ∷ [])) in
    inl (
      omega (arith, count, ap length one, length-append (front ++ line ∷ []) others),
      λ b. lost (rw (one, count, take-append_seam (front ++ line ∷ []) others) at b),
    )

pub stops_at : (n : ℕ) (told front others : List (List ℕ)) → told ≡ front ++ others → n ≡ length front + 1 → Begins front → IsLost front others → StopsAt n told
stops_at n told front others whole at begins lost = record {
  before = λ k less.
      let small : k ≤ length front = omega (arith, less, at) in
      begins_front (take k told) (drop k front) (rw (whole, take-append-le k front others small, take-append-drop k front) begins);
  here = stops_here n told front others whole at lost;
}

-- a session by its first two lines and its calls
pub tells_session : (version : Version) (site : Config) (told : List (List ℕ)) (entries : List Entry) → IsConfig site → TellsCalls version told entries
    → Tells (head_line version ∷ site_line site ∷ told) site entries
tells_session version site told entries range is = record {
  version = version;
  opened = range;
  each = is.range;
  same = append_assoc (head_line version) (10 ∷ []) (ended (site_line site ∷ told)) ∙ ap (λ t. head_line version ++ 10 ∷ t) (append_assoc (site_line site) (10 ∷ []) (ended told))
      ∙ ap (λ t. head_line version ++ 10 ∷ (site_line site ++ 10 ∷ t)) is.same ∙ sym (session_lines version site entries);
}

pub reads_calls : (version : Version) (text : List ℕ) (site : Config) (told : List (List ℕ)) (entries : List Entry) → IsConfig site
    → lines text ≡ head_line version ∷ site_line site ∷ told → TellsCalls version told entries → Reads text site entries
reads_calls version text site told entries range whole is = rw whole (tells_session version site told entries range is)

-- the least session
abbrev least_site : Config
least_site = record { frames = 8; page = 16; slots = 0; tau = 0; high = 1; soft = 1; hard = 1; low = 1; nodes = 1 }

least_is_config : IsConfig least_site
least_is_config = record {
  least_frames = omega arith;
  most_frames = omega arith;
  least_page = omega arith;
  most_page = omega arith;
  whole_page = refl;
  most_slots = omega arith;
  most_tau = omega arith;
  least_low = omega arith;
  low_hard = omega arith;
  hard_soft = omega arith;
  soft_high = omega arith;
  most_high = omega arith;
  least_nodes = omega arith;
  most_nodes = omega arith;
}

no_calls : (version : Version) → TellsCalls version (end_line 0 ∷ []) []
no_calls version = record { range = tt; same = append-nil (end_text 0) }

least_session : (version : Version) → Tells (head_line version ∷ site_line least_site ∷ end_line 0 ∷ []) least_site []
least_session version = tells_session version least_site (end_line 0 ∷ []) [] least_is_config (no_calls version)

pub begins_nothing : Begins []
begins_nothing = (head_line Two ∷ site_line least_site ∷ end_line 0 ∷ [], least_site, [], least_session Two)

begins_head : (version : Version) → Begins (head_line version ∷ [])
begins_head version = (site_line least_site ∷ end_line 0 ∷ [], least_site, [], least_session version)

-- the first line is that of a version
head_of : (line : List ℕ) (others : List (List ℕ)) (site : Config) (entries : List Entry) → HasNoFeed line → (is : Tells (line ∷ others) site entries)
    → line ≡ head_line is.version
head_of line others site entries feed is =
    let whole = sym (append_assoc line (10 ∷ []) (ended others)) ∙ is.same ∙ session_lines is.version site entries in
    (same_line line (head_line is.version) (ended others) (site_line site ++ 10 ∷ calls_text entries) feed (no_feed (head_line is.version) (head_stays is.version)) whole).0

pub no_text : (text more : List ℕ) → [] ≡ text ++ 10 ∷ more → ⊥
no_text [] more e = cc
no_text (b ∷ text) more e = cc

lost_head : (told : List (List ℕ)) → LacksHead told → IsLost [] told
lost_head [] lacks = λ site entries is. no_text (head_line is.version) (site_line site ++ 10 ∷ calls_text entries) (is.same ∙ session_lines is.version site entries)
lost_head (line ∷ others) lacks = λ b. lacks.1 b.3.version (head_of line b.0 b.1 b.2 lacks.0 b.3)

pub no_head : (told : List (List ℕ)) → LacksHead told → StopsAt 1 told
no_head told lacks = stops_at 1 told [] told refl (omega arith) begins_nothing (lost_head told lacks)

-- the first line says the version, and what stands behind it
behind_first : (version : Version) (others : List (List ℕ)) (site : Config) (entries : List Entry) (is : Tells (head_line version ∷ others) site entries)
    → (version ≡ is.version) × (ended others ≡ site_line site ++ 10 ∷ calls_text entries)
behind_first version others site entries is =
    same_head version is.version (ended others) (site_line site ++ 10 ∷ calls_text entries)
    (sym (append_assoc (head_line version) (10 ∷ []) (ended others)) ∙ is.same ∙ session_lines is.version site entries)

lost_site : (version : Version) (left : List (List ℕ)) → LacksSite left → IsLost (head_line version ∷ []) left
lost_site version [] lacks = λ site entries is. no_text (site_line site) (calls_text entries) (behind_first version [] site entries is).1
lost_site version (line ∷ others) lacks = λ b.
    let whole = sym (append_assoc line (10 ∷ []) (ended b.0)) ∙ (behind_first version (line ∷ b.0) b.1 b.2 b.3).1 in
    let same = same_line line (site_line b.1) (ended b.0) (calls_text b.2) lacks.0 (no_feed_site b.1) whole in
    lacks.1 b.1 (record { range = b.3.opened; spelled = same.0 })

pub no_site : (version : Version) (told left : List (List ℕ)) → told ≡ head_line version ∷ left → LacksSite left → StopsAt 2 told
no_site version told left whole lacks = stops_at 2 told (head_line version ∷ []) left whole (omega arith) (begins_head version) (lost_site version left lacks)

pub no_opening : (fault : TextFault) (text : List ℕ) → LacksOpening fault (lines text) → IsRefused fault text
no_opening NotToml text h = absurd h
no_opening (BadKey path) text h = absurd h
no_opening (BadLine n) text (inl h) = rw h.0 (no_head (lines text) h.1)
no_opening (BadLine n) text (inr h) = rw h.0 (no_site h.1.0 (lines text) h.1.1 h.1.2 h.1.3)
no_opening NotText text h = absurd h
no_opening (Differs k) text h = absurd h
no_opening Read text h = absurd h
no_opening Write text h = absurd h
no_opening OutOfMemory text h = absurd h

-- neither of the first two lines of a session is wrong
lacks_head : (version : Version) (told others : List (List ℕ)) → told ≡ head_line version ∷ others → LacksHead told → ⊥
lacks_head version told others e lacks = (rw e at lacks).1 version refl

lacks_site : (left others : List (List ℕ)) (site : Config) → IsConfig site → left ≡ site_line site ∷ others → LacksSite left → ⊥
lacks_site left others site range e lacks = (rw e at lacks).1 site (record { range = range; spelled = refl })

abbrev behind_first_line : List (List ℕ) → List (List ℕ)
behind_first_line [] = []
behind_first_line (line ∷ others) = others

pub lost_opening : (fault : TextFault) (text : List ℕ) → LacksOpening fault (lines text) → HasOpening text → ⊥
lost_opening NotToml text h o = h
lost_opening (BadKey path) text h o = h
lost_opening (BadLine n) text (inl h) o = lacks_head o.0 (lines text) _ o.4 h.1
lost_opening (BadLine n) text (inr h) o = lacks_site h.1.1 o.2 o.1 o.3 (ap behind_first_line (sym h.1.2 ∙ o.4)) h.1.3
lost_opening NotText text h o = h
lost_opening (Differs k) text h o = h
lost_opening Read text h o = h
lost_opening Write text h o = h
lost_opening OutOfMemory text h o = h

-- the calls of a session with these first two lines
calls_of : (version : Version) (site other : Config) (told : List (List ℕ)) (entries : List Entry) → IsConfig site → Tells (head_line version ∷ site_line site ∷ told) other entries
    → TellsCalls version told entries
calls_of version site other told entries range is =
    let first = behind_first version (site_line site ∷ told) other entries is in
    let whole = sym (append_assoc (site_line site) (10 ∷ []) (ended told)) ∙ first.1 in
    record {
      range = subst (λ (v : Version). AllByRecursion (IsEntryOf v) entries) (sym first.0) is.each;
      same = (same_site_line site other (ended told) (calls_text entries) range is.opened whole).1;
    }

module _ (version : Version) where
  lost_calls : (site : Config) (front others : List (List ℕ)) → IsConfig site → IsStuck version front others → IsLost (head_line version ∷ site_line site ∷ front) others
  lost_calls site front [] range stuck = λ other entries is. stuck entries (calls_of version site other front entries range is)
  lost_calls site front (line ∷ others) range stuck = λ b. stuck (b.0, b.2, calls_of version site b.1 ((front ++ line ∷ []) ++ b.0) b.2 range b.3)

  stops_calls : (n m passed : ℕ) (site : Config) (told left : List (List ℕ)) → IsConfig site → told ≡ head_line version ∷ site_line site ∷ left → passed ≡ 2 → n ≡ passed + m + 1
      → StopsCalls version m left → StopsAt n told
  stops_calls n m passed site told left range whole two at stops =
      stops_at n told (head_line version ∷ site_line site ∷ stops.front) stops.others (whole ∙ ap (λ t. head_line version ∷ site_line site ∷ t) stops.whole) (omega (arith, two, at, stops.count))
      (stops.begins.0, site, stops.begins.1, tells_session version site (stops.front ++ stops.begins.0) stops.begins.1 range stops.begins.2)
      (lost_calls site stops.front stops.others range stops.stuck)

  pub no_session : (fault : TextFault) (text : List ℕ) (site : Config) (at : Place) → IsConfig site → lines text ≡ head_line version ∷ site_line site ∷ at.left → at.passed ≡ 2
      → LacksCalls version fault at → IsRefused fault text
  no_session NotToml text site at range whole two h = absurd h
  no_session (BadKey path) text site at range whole two h = absurd h
  no_session (BadLine n) text site at range whole two h = stops_calls n h.0 at.passed site (lines text) at.left range whole two h.1 h.2
  no_session NotText text site at range whole two h = absurd h
  no_session (Differs k) text site at range whole two h = absurd h
  no_session Read text site at range whole two h = absurd h
  no_session Write text site at range whole two h = absurd h
  no_session OutOfMemory text site at range whole two h = tt
