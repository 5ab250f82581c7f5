use Rattle.fl_judge.proofs.Calm.{no_circles, stays_calm, headless_calm}
use Rattle.fl_judge.proofs.laws.quiet_histories_have_no_circle.Goals as goal

pub returns : goal.returns
returns c =
    let by = c.a_legal_history_goes_on_by_orders.ensures in
    record {
      calm = λ rules lines quiet calm.
          no_circles c.an_order_leads_on.ensures.step by.leads by.rules c.an_order_is_taken_in_stages.ensures rules lines quiet calm;
      stays = λ rules lines quiet calm.
          stays_calm c.an_order_leads_on.ensures.step by.leads by.rules c.an_order_is_taken_in_stages.ensures rules lines quiet calm;
      headless = headless_calm;
    }
