use Rattle.std.proofs.Common.{◌≡◌, ◌∙◌, ap, sym, subst, [], ◌∷◌, ◌++◌, Some, cond, bytes_eq, ℕ, List}
use Rattle.std.specs.Prelude.{string_bytes}
use Rattle.std.specs.BTreeMap.{get, is_at}
use Rattle.std.proofs.lemmas.List.{map-append}
use Rattle.std.proofs.lemmas.List.Elements.{All-push}
use Rattle.esx_events.specs.Names.{IsName}
use Rattle.esx_events.specs.declared.call.NameRow.{NameRow}
use Rattle.esx_journal.specs.Marks.{rows_of, node_named, numbers_of, compared, AreNames}
use Rattle.esx_journal.proofs.Names.{found_with, none_of}
use Rattle.esx_journal.proofs.NameNumbers.{told_apart}
use Rattle.esx_journal.proofs.marks.Marks.add.Goals as goal

pub returns-clause-ok : goal.returns-clause-ok
returns-clause-ok c =
    let name : string_bytes c.in_ok-text.text ≡ c.args.name.now = c.in_ok-text.ensures.ok ∙ c.as_str.ensures.value in
    ap (rows_of string_bytes) (c.push_reserved.ensures.items ∙ ap (λ rows. rows ++ (c.in_ok-text.text, c.args.node) ∷ []) c.reserve.ensures.items)
    ∙ map-append _ c.self.inside.rows.items ((c.in_ok-text.text, c.args.node) ∷ [])
    ∙ ap (λ rows. rows ++ record { name = string_bytes c.in_ok-text.text; node = c.args.node } ∷ []) c.self.view_is
    ∙ ap (λ n. c.args.self.now ++ record { name = n; node = c.args.node } ∷ []) name

pub invariant_of-self-2 : goal.invariant_of-self-2
invariant_of-self-2 c =
    let old : List NameRow = c.args.self.now in
    let row : NameRow = record { name = c.args.name.now; node = c.args.node } in
    let named : IsName row.name = subst IsName c.as_str.ensures.value c.as_str.ensures.range in
    let rows = returns-clause-ok c in
    record {
      names = subst AreNames (sym rows) (All-push (λ (r : NameRow). IsName r.name) old row (subst AreNames c.self.view_is c.self.invariant.names) named);
      finds = λ name is. (
          let key : c.numbers_of.result ≡ numbers_of row.name = c.numbers_of.ensures ∙ ap numbers_of (c.as_bytes.ensures.value ∙ c.as_str-2.ensures.value) in
          let sets : get compared c.insert.new.self (numbers_of name) ≡ cond (bytes_eq row.name name) (Some c.args.node) (get compared c.self.inside.nodes (numbers_of name))
          = c.in_ok-insert.ensures.updates.0 (numbers_of name)
          ∙ ap (λ (k : (ℕ × ℕ) × (ℕ × ℕ)). cond (is_at (compared k) (numbers_of name)) (Some c.args.node) (get compared c.self.inside.nodes (numbers_of name))) key
          ∙ ap (λ b. cond b (Some c.args.node) (get compared c.self.inside.nodes (numbers_of name))) (told_apart row.name name named is) in
          sets ∙ ap (λ o. cond (bytes_eq row.name name) (Some c.args.node) o) (c.self.invariant.finds name is ∙ ap (node_named name) c.self.view_is)
          ∙ sym (found_with name old row (none_of (node_named row.name old) c.requires)) ∙ sym (ap (node_named name) rows));
    }
