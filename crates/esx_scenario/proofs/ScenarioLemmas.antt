-- The keys of a scenario, one after another.
use Rattle.std.proofs.Common.{◌≡◌, ◌≢◌, ℕ, List, Option, Ok, Err, refl, sym, ap, ◌∙◌, codes, ne_eqb}
use Rattle.toml.specs.Data.{Data, Members, get_member}
use Rattle.esx_reading.specs.declared.fault.TextFault.{TextFault}
use Rattle.esx_reading.specs.declared.fault.TextFault.TheVariants.{BadKey, OutOfMemory}
use Rattle.esx_types.specs.declared.config.Config.{Config}
use Rattle.esx_types.specs.declared.version.Version.{Version}
use Rattle.esx_types.specs.declared.version.Version.TheVariants.{Two}
use Rattle.esx_scenario.specs.declared.plan.Guest.{Guest}
use Rattle.esx_scenario.specs.declared.plan.Settings.{Settings}
use Rattle.esx_scenario.specs.Keys.{Gives, table_at}
use Rattle.esx_scenario.specs.Sites.{site_at, settings_at}
use Rattle.esx_scenario.specs.Guests.{guests_at}
use Rattle.esx_scenario.specs.Strange.{strange, least, none_strange}
use Rattle.esx_scenario.specs.Scenarios.{scenario_in, version_in, version_of}
use Rattle.esx_scenario.proofs.KeyLemmas.{then_ok, then_err}

-- the other of the two versions
pub other_version : (n : ℕ) → n ≢ 1 → version_of n ≡ Two
other_version n ne = rw (ne_eqb n 1 ne) refl

module _ (t : Members) where
  pub version_stop : (fault : TextFault) → Gives (version_in t) (Err fault) → Gives (scenario_in t) (Err fault)
  version_stop (BadKey path) g = then_err _ _ _ g
  version_stop OutOfMemory g = tt
  version_stop _ g = absurd g

  module _ (version : Version) (told : version_in t ≡ Ok version) (machine : Option Members) (at_machine : machine ≡ table_at t (codes "machine")) where
    pub site_stop : (fault : TextFault) → Gives (site_at machine) (Err fault) → Gives (scenario_in t) (Err fault)
    site_stop (BadKey path) g = then_ok _ _ _ _ told (then_err _ _ _ (ap site_at (sym at_machine) ∙ g))
    site_stop OutOfMemory g = tt
    site_stop _ g = absurd g

    module _ (site : Config) (good_site : site_at machine ≡ Ok site) (run : Option Data) (at_run : run ≡ get_member (codes "run") t) where
      pub settings_stop : (fault : TextFault) → Gives (settings_at run) (Err fault) → Gives (scenario_in t) (Err fault)
      settings_stop (BadKey path) g = then_ok _ _ _ _ told (then_ok _ _ _ _ (ap site_at (sym at_machine) ∙ good_site) (then_err _ _ _ (ap settings_at (sym at_run) ∙ g)))
      settings_stop OutOfMemory g = tt
      settings_stop _ g = absurd g

      module _ (settings : Settings) (good_settings : settings_at run ≡ Ok settings) (vm : Option Data) (at_vm : vm ≡ get_member (codes "vm") t) where
        pub guests_stop : (fault : TextFault) → Gives (guests_at version site vm) (Err fault) → Gives (scenario_in t) (Err fault)
        guests_stop (BadKey path) g =
            then_ok _ _ _ _ told (then_ok _ _ _ _ (ap site_at (sym at_machine) ∙ good_site) (then_ok _ _ _ _ (ap settings_at (sym at_run) ∙ good_settings)
            (then_err _ _ _ (ap (guests_at version site) (sym at_vm) ∙ g))))
        guests_stop OutOfMemory g = tt
        guests_stop _ g = absurd g

        module _ (guests : List Guest) (good_guests : guests_at version site vm ≡ Ok guests) where
          pub strange_stop : (fault : TextFault) → Gives (none_strange (least (strange version t))) (Err fault) → Gives (scenario_in t) (Err fault)
          strange_stop (BadKey path) g =
              then_ok _ _ _ _ told (then_ok _ _ _ _ (ap site_at (sym at_machine) ∙ good_site) (then_ok _ _ _ _ (ap settings_at (sym at_run) ∙ good_settings)
              (then_ok _ _ _ _ (ap (guests_at version site) (sym at_vm) ∙ good_guests) (then_err _ _ _ g))))
          strange_stop OutOfMemory g = tt
          strange_stop _ g = absurd g

          pub scenario_is : none_strange (least (strange version t)) ≡ Ok tt → scenario_in t ≡ Ok (record { site = site; settings = settings; guests = guests })
          scenario_is none =
              then_ok _ _ _ _ told (then_ok _ _ _ _ (ap site_at (sym at_machine) ∙ good_site) (then_ok _ _ _ _ (ap settings_at (sym at_run) ∙ good_settings)
              (then_ok _ _ _ _ (ap (guests_at version site) (sym at_vm) ∙ good_guests) (then_ok _ _ _ _ none refl))))
