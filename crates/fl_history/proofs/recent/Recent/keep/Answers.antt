use Rattle.std.proofs.Common.{rules}
use Rattle.fl_history.proofs.Recalling.{few_kept, kept_more}
use Rattle.fl_history.proofs.recent.Recent.keep.Goals as goal

pub push_last-requires-clause-few : goal.push_last-requires-clause-few
push_last-requires-clause-few c = few_kept c.self.inside.past.items c.self.inside.entries.items c.self.invariant.0

pub invariant_of-self : goal.invariant_of-self
invariant_of-self c =
    search (
      rules,
      kept_more c.self.inside.past.items c.args.line.now c.args.entry c.self.inside.entries.items _ c.self.invariant.0
          c.push_last.ensures.items c.requires,
    )
