use Rattle.std.proofs.Common.{◌≡◌, ◌∙◌, Option, List, ℕ, length, ap, subst, arith}
use Rattle.fl_audit.proofs.Listening.{read_first, all_of, ok_map}
use Rattle.fl_audit.proofs.reading.hear_all.Goals as goal
use Rattle.fl_audit.specs.First.{IsSoOfAll}
use Rattle.fl_audit.specs.Inside.Keeping.{Keeping, along}
use Rattle.fl_audit.specs.declared.listener.Listened.{Listened}
use Rattle.fl_audit.specs.Inside.Hearing.{Listens, HasRead, AreJudged, IsBad}

pub loop-reads-init : goal.loop-reads-init
loop-reads-init g c = record {
  room = c.in_ok-listener.ensures.room;
  few = (let none = ap (λ (h : Keeping). length h.lines) c.in_ok-listener.ensures.heard in omega (arith, none));
  bytes = (let none = c.in_ok-listener.ensures.bytes in omega (arith, none));
  rules = ap (λ (h : Keeping). h.rules) c.in_ok-listener.ensures.heard;
  most = c.in_ok-listener.ensures.most;
  along = ap (λ (h : Keeping). h.along) c.in_ok-listener.ensures.heard;
  read = read_first _ _ c.in_ok-listener.ensures.listens;
}

pub loop-reads-preserved : goal.loop-reads-preserved
loop-reads-preserved g c = record {
  room = c.read.ensures.room;
  few = (let before = c.loop-reads.invariant.few in let more = c.read.ensures.few in omega (arith, before, more));
  bytes = (let before = c.loop-reads.invariant.bytes in let more = c.read.ensures.bytes in omega (arith, before, more));
  rules = c.read.ensures.rules ∙ c.loop-reads.invariant.rules;
  most = c.read.ensures.most ∙ c.loop-reads.invariant.most;
  along = c.read.ensures.along ∙ c.loop-reads.invariant.along;
  read = c.read.ensures.reads _ c.loop-reads.invariant.read;
}

pub returns-then-not-more-clause-rules : goal.returns-then-not-more-clause-rules
returns-then-not-more-clause-rules g c =
    ok_map c.end.result (λ (heard : Listened). heard.judge.rules ≡ c.read.new.self.judge.rules) (λ heard. heard.judge.rules ≡ c.args.rules)
    (λ heard same. same ∙ c.read.ensures.rules ∙ c.loop-reads.invariant.rules) c.end.ensures.rules

pub returns-then-not-more-clause-heard : goal.returns-then-not-more-clause-heard
returns-then-not-more-clause-heard g c =
    let left : Option (List ℕ) = g.R.Read.remaining c.args.input.now in
    let now : Option (List ℕ) = g.R.Read.remaining c.read.new.input in
    let so : HasRead left now c.read.new.self = c.read.ensures.reads left c.loop-reads.invariant.read in
    let most : c.read.new.self.most ≡ c.args.most = c.read.ensures.most ∙ c.loop-reads.invariant.most in
    ok_map c.end.result
    (λ (heard : Listened). (text : List ℕ) → Listens text c.read.new.self → AreJudged c.read.new.self.most c.args.cut text heard.judge.lines heard.bytes)
    (λ heard. IsSoOfAll left (λ text. AreJudged c.args.most c.args.cut text heard.judge.lines heard.bytes))
    (λ heard said.
    all_of left now so.text (λ text. AreJudged c.args.most c.args.cut text heard.judge.lines heard.bytes) so.read (c.in_ok-more.ensures.end c.if-not-more.true)
    (subst (λ m. AreJudged m c.args.cut so.text heard.judge.lines heard.bytes) most (said so.text so.listens)))
    c.end.ensures.heard

pub returns-then-not-more-clause-bad : goal.returns-then-not-more-clause-bad
returns-then-not-more-clause-bad g c = λ n e.
    let left : Option (List ℕ) = g.R.Read.remaining c.args.input.now in
    let now : Option (List ℕ) = g.R.Read.remaining c.read.new.input in
    let so : HasRead left now c.read.new.self = c.read.ensures.reads left c.loop-reads.invariant.read in
    let most : c.read.new.self.most ≡ c.args.most = c.read.ensures.most ∙ c.loop-reads.invariant.most in
    all_of left now so.text (λ text. IsBad c.args.most c.args.cut text n) so.read (c.in_ok-more.ensures.end c.if-not-more.true)
    (subst (λ m. IsBad m c.args.cut so.text n) most (c.end.ensures.bad n e so.text so.listens))

pub returns-then-not-more-clause-along : goal.returns-then-not-more-clause-along
returns-then-not-more-clause-along g c =
    ok_map c.end.result (λ (heard : Listened). heard.judge.along ≡ c.read.new.self.judge.along) (λ heard. heard.judge.along ≡ along c.args.beside)
    (λ heard same. same ∙ c.read.ensures.along ∙ c.loop-reads.invariant.along) c.end.ensures.along
