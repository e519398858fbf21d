-- What thresholds keep: each is that of the site's numbers.
use Rattle.std.specs.Prelude.{◌≡◌, ℕ}
use Rattle.esx_types.specs.declared.config.Config.{Config}
use Rattle.esx_types.specs.Ranges.{IsConfig}
use Rattle.esx_formulas.specs.Level.{high_threshold, soft_threshold, hard_threshold, low_threshold, margin}
use Rattle.esx_level.specs.declared.Thresholds.TheInside.{Inside}

pub record AreOfSite (a : Inside) : Type 0 where
  pub site : IsConfig a.config
  pub high : a.high ≡ high_threshold a.config
  pub soft : a.soft ≡ soft_threshold a.config
  pub hard : a.hard ≡ hard_threshold a.config
  pub low : a.low ≡ low_threshold a.config
  pub margin : a.margin ≡ margin a.config

-- the thresholds of a site
abbrev pub of_site : Config → Inside
of_site c = record { config = c; high = high_threshold c; soft = soft_threshold c; hard = hard_threshold c; low = low_threshold c; margin = margin c }

of_equal_parts : (c : Config) (high soft hard low gap high' soft' hard' low' gap' : ℕ) →
    high ≡ high' → soft ≡ soft' → hard ≡ hard' → low ≡ low' → gap ≡ gap' →
    let a : Inside = record { config = c; high = high'; soft = soft'; hard = hard'; low = low'; margin = gap' } in
    let b : Inside = record { config = c; high = high; soft = soft; hard = hard; low = low; margin = gap } in a ≡ b
of_equal_parts c high soft hard low gap high' soft' hard' low' gap' e1 e2 e3 e4 e5 = cc

pub of_site_is : (a : Inside) → AreOfSite a → of_site a.config ≡ a
of_site_is a h =
    of_equal_parts a.config a.high a.soft a.hard a.low a.margin _ _ _ _ _ h.high h.soft h.hard h.low h.margin
