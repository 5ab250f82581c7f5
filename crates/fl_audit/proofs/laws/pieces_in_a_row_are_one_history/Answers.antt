use Rattle.std.proofs.Common.{◌++◌, ◌∷◌, [], sym, append_assoc}
use Rattle.fl_audit.proofs.Wholes.{row_leads}
use Rattle.fl_audit.proofs.laws.pieces_in_a_row_are_one_history.Goals as goal

pub returns : goal.returns
returns c front before last row all =
    row_leads (record {
      leads = c.a_legal_history_goes_on_by_orders.ensures.leads;
      rules = c.a_legal_history_goes_on_by_orders.ensures.rules;
      behind = c.no_head_comes_later.ensures.behind;
      piece = c.a_history_can_be_cut.ensures.piece;
    }) (front ++ (before ++ last ∷ [])) row front before last (sym (append_assoc front before (last ∷ []))) all
