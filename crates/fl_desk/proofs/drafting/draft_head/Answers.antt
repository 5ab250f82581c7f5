use Rattle.std.proofs.Common.{◌∙◌}
use Rattle.fl_desk.proofs.Drafts.{drafted_head}
use Rattle.fl_desk.proofs.drafting.draft_head.Goals as goal

pub returns-clause-told : goal.returns-clause-told
returns-clause-told g c whole =
    (drafted_head c.args.core.now c.first_of-head.result _ _ _ _ c.first_of-head.ensures.rules c.first_of-head.ensures.node
    c.first_of-head.ensures.fh c.requires.none (c.push_state.ensures.draft c.if-not-push_state.false) c.draft_parts.ensures.front
    (c.draft_parts.ensures.told c.if-not-draft_parts.false) (c.push_state-2.ensures.draft whole)).told

pub returns-clause-same : goal.returns-clause-same
returns-clause-same g c whole =
    (drafted_head c.args.core.now c.first_of-head.result _ _ _ _ c.first_of-head.ensures.rules c.first_of-head.ensures.node
    c.first_of-head.ensures.fh c.requires.none (c.push_state.ensures.draft c.if-not-push_state.false) c.draft_parts.ensures.front
    (c.draft_parts.ensures.told c.if-not-draft_parts.false) (c.push_state-2.ensures.draft whole)).same

pub returns-clause-counted : goal.returns-clause-counted
returns-clause-counted g c whole =
    (drafted_head c.args.core.now c.first_of-head.result _ _ _ _ c.first_of-head.ensures.rules c.first_of-head.ensures.node
    c.first_of-head.ensures.fh c.requires.none (c.push_state.ensures.draft c.if-not-push_state.false) c.draft_parts.ensures.front
    (c.draft_parts.ensures.told c.if-not-draft_parts.false) (c.push_state-2.ensures.draft whole)).counted
    ∙ c.first_of-head.ensures.lines
