use Rattle.std.proofs.Common.{rules, ◌∙◌, ◌≤◌, ap, sym, subst, length, arith, true≢false}
use Rattle.std.proofs.lemmas.Grind.{common_steps}
use Rattle.std.proofs.lemmas.List.{take_all}
use Rattle.std.proofs.lemmas.Str.{IsUtf8-nil}
use Rattle.std.specs.Str.{IsUtf8}
use Rattle.fl_trace.specs.Text.{text_of}
use Rattle.fl_stream.proofs.Places.{text_more}
use Rattle.fl_stream.proofs.text.print_trace.Goals as goal

pub loop-at-init : goal.loop-at-init
loop-at-init c = (search rules, subst IsUtf8 (sym c.new-text.ensures.items) IsUtf8-nil)

pub loop-at-preserved : goal.loop-at-preserved
loop-at-preserved c = (
  text_more c.args.history.now c.loop-at.at c.line.result c.reserve.new.self.items _ (c.reserve.ensures.items ∙ c.loop-at.invariant.0) c.line.ensures
      c.push_line.ensures.bytes,
  c.push_line.ensures.utf8 (subst IsUtf8 (sym c.reserve.ensures.items) c.loop-at.invariant.1),
)

pub unreachable-requires : goal.unreachable-requires
unreachable-requires c =
    let ok = c.from_utf8.ensures.succeeds c.loop-at.invariant.1 in true≢false (sym (rw c.in_default.is at ok))

pub returns : goal.returns
returns c =
    let past : length c.args.history.now ≤ c.loop-at.at = grind (arith, common_steps) in
    ap (λ v. v.items) c.in-Ok.ensures.ok ∙ c.loop-at.invariant.0 ∙ ap text_of (take_all c.loop-at.at c.args.history.now past)
