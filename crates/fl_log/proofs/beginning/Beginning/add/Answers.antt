use Rattle.std.proofs.Common.{sym, ◌∙◌, ap}
use Rattle.fl_log.proofs.Adding.{adds}
use Rattle.fl_log.proofs.beginning.Beginning.add.Goals as goal

pub compare_exchange-found-requires : goal.compare_exchange-found-requires
compare_exchange-found-requires g c =
    let word = c.args.log.now.counted in
    let offer = c.plain-offer.ensures in
    let pen = c.no_pen-pen.ensures in
    let entry = g.M.Plain.ask c.args.about.now in (
      ap (λ w. w.tracked) word,
      c.self.invariant.1 ∙ sym (ap (λ w. w.book) word),
      pen.0 ∙ (c.self.invariant.1 ∙ sym (ap (λ w. w.book) word)),
      offer.0,
      rw (ap (λ w. w.key) word, pen.1, offer.1, offer.3, c.requires.plain)
          (adds c.self.inside.seen.log entry c.self.inside.entries (sym c.self.invariant.0)),
    )
