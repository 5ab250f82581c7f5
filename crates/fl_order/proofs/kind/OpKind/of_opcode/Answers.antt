use Rattle.std.proofs.Common.{◌==◌, ◌∙◌, sym, subst, rules, tests}
use Rattle.std.proofs.lemmas.Iterator.{YieldsList-from_slice}
use Rattle.std.proofs.lemmas.Iterator.Search.{find_from_yields_List}
use Rattle.fl_order.specs.OpKind.{all_kinds, opcode_for, IsFoundBy}
use Rattle.fl_order.proofs.Finding.{found_by_opcode}
use Rattle.fl_order.proofs.kind.OpKind.of_opcode.Goals as goal

pub returns-clause-value : goal.returns-clause-value
returns-clause-value c =
    c.copied.ensures ∙ find_from_yields_List (λ kind. opcode_for kind == c.args.opcode) _ _ _ c.find.ensures.ran (YieldsList-from_slice all_kinds cc)
    (λ x b q k. search (rules, tests))

pub returns-clause-inverse : goal.returns-clause-inverse
returns-clause-inverse c = subst (IsFoundBy opcode_for c.args.opcode) (sym (returns-clause-value c)) (found_by_opcode c.args.opcode)
