-- What a small record tells of its size.
use Rattle.std.proofs.Common.{◌≡◌, ℕ, ◌≤◌, List, ap, ◌∙◌, arith}
use Rattle.esx_types.specs.Ranges.{IsConfig}
use Rattle.esx_types.specs.declared.config.Config.{Config}
use Rattle.esx_types.specs.declared.config.TheConstants.{MAX_PAGE}
use Rattle.esx_tables.specs.declared.change.Change.{Change}
use Rattle.esx_tables.specs.declared.record.RecordSize.{RecordSize}
use Rattle.esx_tables.specs.Sizes.{size_of, fitting, capped}
use Rattle.esx_records.specs.Small.{IsSmall}

fits : (n : ℕ) → n ≤ MAX_PAGE → fitting n ≡ n
fits n h = omega (arith, h)

pub told : (c : Config) (most : ℕ) (changes : List Change) → IsConfig c → IsSmall c most changes → capped (size_of changes) ≡ size_of changes
told c most changes good s =
    let size : RecordSize = size_of changes in
    let page = good.most_page in
    let b = s.bytes in let r = s.rows in let m = s.marks in let t = s.targets in
    let of : ℕ → ℕ → ℕ → ℕ → RecordSize = λ w x y z. record { bytes = w; rows = x; marks = y; targets = z } in
    ap (λ n. of n (fitting size.rows) (fitting size.marks) (fitting size.targets)) (fits size.bytes (omega (arith, b, page)))
    ∙ ap (λ n. of size.bytes n (fitting size.marks) (fitting size.targets)) (fits size.rows (omega (arith, r)))
    ∙ ap (λ n. of size.bytes size.rows n (fitting size.targets)) (fits size.marks (omega (arith, m)))
    ∙ ap (λ n. of size.bytes size.rows size.marks n) (fits size.targets (omega (arith, t)))
