use Rattle.std.proofs.Common.{◌∙◌, ap, sym, subst, IsTrue, ◌↔◌}
use Rattle.esx_events.specs.Names.{is_name}
use Rattle.esx_explained.specs.declared.operand.Operand.{Operand}
use Rattle.esx_explained.specs.Operands.{kind_of, IsValueWord}
use Rattle.esx_explained.proofs.WordLemmas.{other_operand}
use Rattle.esx_explained.proofs.ValueLemmas.{name_test}
use Rattle.esx_explained.proofs.operand.Operand.may_be.Goals as goal

pub returns-in-Vm : goal.returns-in-Vm
returns-in-Vm c = subst (λ (o : Operand). IsTrue c.is_below.result ↔ IsValueWord (kind_of o) c.args.word.now) (sym c.in-Vm.is) c.is_below.ensures

pub returns-in-Draw : goal.returns-in-Draw
returns-in-Draw c = subst (λ (o : Operand). IsTrue c.is_word.result ↔ IsValueWord (kind_of o) c.args.word.now) (sym c.in-Draw.is) c.is_word.ensures

pub returns-in-Bytes : goal.returns-in-Bytes
returns-in-Bytes c = subst (λ (o : Operand). IsTrue c.is_bytes.result ↔ IsValueWord (kind_of o) c.args.word.now) (sym c.in-Bytes.is) c.is_bytes.ensures

pub returns-in-Label : goal.returns-in-Label
returns-in-Label c = subst (λ (o : Operand). IsTrue c.is_name.result ↔ IsValueWord (kind_of o) c.args.word.now) (sym c.in-Label.is)
    (name_test c.args.word.now c.is_name.result (c.is_name.ensures ∙ ap is_name c.as_bytes.ensures.value))

pub returns-in_default : goal.returns-in_default
returns-in_default c = other_operand c.args.self c.args.word.now c.is_below-in_default.result c.in_default.not-Vm c.in_default.not-Draw c.in_default.not-Bytes c.in_default.not-Label c.is_below-in_default.ensures
