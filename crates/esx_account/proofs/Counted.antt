-- The counts of a path are small.
use Rattle.std.proofs.Common.{◌≡◌, ℕ, ◌+◌, ◌<◌, ◌≤◌, List, [], ◌∷◌, length, ◌∙◌, ap, arith, length-append, Option, Some, None}
use Rattle.esx_types.specs.declared.config.Config.{Config}
use Rattle.esx_types.specs.Ranges.{IsConfig}
use Rattle.esx_model.specs.Console.{history}
use Rattle.esx_session.specs.declared.session.Entry.{Entry}
use Rattle.esx_session.specs.declared.session.Request.{Request}
use Rattle.esx_check.specs.Again.{made}
use Rattle.esx_story.specs.declared.change.Change.{Change}
use Rattle.esx_story.specs.Losses.{lost_at}
use Rattle.esx_story.specs.Moments.{Moment}
use Rattle.esx_story.specs.Story.{told_at, told_from}
use Rattle.esx_story.specs.Waits as story
use Rattle.esx_paths.specs.declared.path.Path.{Path}
use Rattle.esx_report.specs.declared.site.PathSums.{PathSums}
use Rattle.esx_account.specs.Account.{path_counts, path_sums, moments_to, losses_to}
use Rattle.esx_account.specs.Surveying.{IsPathOf, events_to, mets_of}
use Rattle.esx_account.proofs.Accepted.{path_leads, path_fits, nodes_few}
use Rattle.esx_account.proofs.Asked.{log_long}
use Rattle.esx_account.proofs.Losses.{moments_long}
use Rattle.esx_account.proofs.Placed.{mets_few, elsewhere_few}

-- a path has at most one loss an event
one_at_most : (c : Config) (ms : List Moment) (mets : List story.Met) (i : ℕ) (x : Moment) (o : Option Change) → length (told_at c ms mets i x o) ≤ 1
one_at_most c ms mets i x None = omega arith
one_at_most c ms mets i x (Some y) = omega arith

told_few : (c : Config) (ms : List Moment) (mets : List story.Met) (i : ℕ) (xs : List Moment) → length (told_from c ms mets i xs) ≤ length xs
told_few c ms mets i [] = omega arith
told_few c ms mets i (x ∷ xs) =
    let here = one_at_most c ms mets i x (lost_at x) in
    let rest = told_few c ms mets (i + 1) xs in
    let both = length-append (told_at c ms mets i x (lost_at x)) (told_from c ms mets (i + 1) xs) in
    omega arith

pub losses_few : (site : Config) (entries : List Entry) (way : Path) → IsConfig site → length (losses_to site entries way) < 4294967296
losses_few site entries way good =
    let leads = path_leads site entries way.node in
    let many = moments_long site (events_to site entries way) leads.scene leads.runs in
    let short = path_fits site entries way.node good in
    let few = told_few site (moments_to site entries way) (mets_of way) 1 (moments_to site entries way) in
    omega arith

-- The nodes that a session made, and the refusals that were met on a path and elsewhere.
pub record AreFew (way : Path) : Type 0 where
  pub nodes : way.nodes ≤ 4294967295
  pub mets : length way.mets ≤ 4294967295
  pub elsewhere : way.elsewhere ≤ 4294967295

pub counts_few : (site : Config) (entries : List Entry) (requests : List Request) (way : Path) → IsConfig site → way.calls ≤ 4294967295 → IsPathOf site entries requests way → AreFew way
counts_few site entries requests way good fits is =
    let s = made site entries in
    let nodes = nodes_few site entries good in
    let made_is = is.path.nodes in
    let calls = is.path.calls in
    let met = mets_few s way.node in
    let met_is = ap length is.path.mets in
    let off = elsewhere_few s way.node in
    let off_is = is.path.elsewhere in
    record { nodes = omega arith; mets = omega arith; elsewhere = omega arith }

-- what the first pass told of the path is so
pub counts_are : (site : Config) (entries : List Entry) (requests : List Request) (way : Path) → IsPathOf site entries requests way → path_counts (length (events_to site entries way)) way ≡ path_sums site entries way
counts_are site entries requests way is =
    let counts : ℕ → ℕ → PathSums = λ (nodes calls : ℕ). record { events = length (events_to site entries way); made = nodes; node = way.node; calls = calls; refused = length way.mets; elsewhere = way.elsewhere } in
    ap (λ n. counts n way.calls) is.path.nodes ∙ ap (counts (length (history (made site entries)).nodes)) (is.path.calls ∙ log_long site entries)
