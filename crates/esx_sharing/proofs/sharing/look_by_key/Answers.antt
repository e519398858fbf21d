use Rattle.std.proofs.Common.{◌≡◌, ℕ, None, sym, ap, ◌∙◌}
use Rattle.std.specs.List.{position_from}
use Rattle.esx_types.specs.Listings.{is_shared_under, is_hinted_under}
use Rattle.esx_sharing.specs.Sharing.{look_at_hint, look_by_key}
use Rattle.esx_sharing.proofs.sharing.look_by_key.Goals as goal

pub returns-in-None : goal.returns-in-None
returns-in-None c =
    let t = c.args.tables.now in
    let n = c.args.vm in
    let page = c.args.page in
    let bytes = c.args.bytes.now in
    let none : position_from (is_shared_under c.args.key) 0 t.listings ≡ None = sym c.shared_under.ensures ∙ c.in-None.is in
    c.look_at_hint.ensures
    ∙ ap (look_at_hint t n page bytes c.short_of-short.result) c.hinted_under.ensures
    ∙ ap (λ (short : ℕ). look_at_hint t n page bytes short (position_from (is_hinted_under short) 0 t.listings)) c.short_of-short.ensures
    ∙ sym (ap (look_by_key t n page bytes c.args.key) none)
