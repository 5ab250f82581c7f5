use Rattle.std.proofs.Common.{◌∙◌, ap, sym}
use Rattle.fl_history.specs.Inside.Entries.{entries_of}
use Rattle.fl_history.specs.Recent.{recent}
use Rattle.fl_history.proofs.Recalling.{few_kept, kept_joined}
use Rattle.fl_history.proofs.recent.Recent.extend.Goals as goal

pub push_all-requires-clause-few : goal.push_all-requires-clause-few
push_all-requires-clause-few c = few_kept c.self.inside.past.items c.self.inside.entries.items c.self.invariant.0

pub invariant_of-self : goal.invariant_of-self
invariant_of-self c =
    let own = c.self.inside in
    let later = c.later.inside in (
      kept_joined own.past.items later.past.items own.entries.items later.entries.items _ c.self.invariant.0
          c.later.invariant.0 c.push_all.ensures.items
          ∙ ap (λ lines. entries_of (recent lines)) (sym c.followed_by-self-inside.ensures),
      c.push_all.ensures.room,
    )
