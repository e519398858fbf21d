use Rattle.esx_scenario.proofs.GuestLemmas.{gives_on}
use Rattle.esx_scenario.proofs.ScenarioLemmas.{version_stop, site_stop, settings_stop, guests_stop, strange_stop, scenario_is}
use Rattle.esx_scenario.proofs.parse.scenario_of.Goals as goal

pub returns-in_err-version : goal.returns-in_err-version
returns-in_err-version c = gives_on _ _ _ c.from_residual.ensures.1 (version_stop _ c.in_err-version.field-0.0 c.in_err-version.ensures)

pub returns-in_err-config : goal.returns-in_err-config
returns-in_err-config c = gives_on _ _ _ c.from_residual-in_err-config.ensures.1 (site_stop _ _ c.in_ok-version.ensures _ c.table_of.ensures c.in_err-config.field-0.0 c.in_err-config.ensures.exact)

pub returns-in_err-settings : goal.returns-in_err-settings
returns-in_err-settings c = gives_on _ _ _ c.from_residual-in_err-settings.ensures.1 (settings_stop _ _ c.in_ok-version.ensures _ c.table_of.ensures _ c.in_ok-config.ensures.exact _ c.member.ensures c.in_err-settings.field-0.0 c.in_err-settings.ensures.exact)

pub returns-in_err-guests : goal.returns-in_err-guests
returns-in_err-guests c = gives_on _ _ _ c.from_residual-in_err-guests.ensures.1 (guests_stop _ _ c.in_ok-version.ensures _ c.table_of.ensures _ c.in_ok-config.ensures.exact _ c.member.ensures _ c.in_ok-settings.ensures.exact _ c.member-2.ensures c.in_err-guests.field-0.0 c.in_err-guests.ensures.exact)

pub returns-in_err-check_keys : goal.returns-in_err-check_keys
returns-in_err-check_keys c = gives_on _ _ _ c.from_residual-in_err-check_keys.ensures.1 (strange_stop _ _ c.in_ok-version.ensures _ c.table_of.ensures _ c.in_ok-config.ensures.exact _ c.member.ensures _ c.in_ok-settings.ensures.exact _ c.member-2.ensures _ c.in_ok-guests.ensures.exact c.in_err-check_keys.field-0.0 c.in_err-check_keys.ensures)

pub returns : goal.returns
returns c = rw c.new.ensures (scenario_is _ _ c.in_ok-version.ensures _ c.table_of.ensures _ c.in_ok-config.ensures.exact _ c.member.ensures _ c.in_ok-settings.ensures.exact _ c.member-2.ensures _ c.in_ok-guests.ensures.exact c.in_ok-check_keys.ensures)
