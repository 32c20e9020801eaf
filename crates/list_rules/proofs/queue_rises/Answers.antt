use Rattle.std.specs.Prelude.{take, get_or, refl}
use Rattle.std.proofs.Common.{arith}
use Rattle.list_rules.proofs.Laws.{rising_start, queue_long, rising_more, rising_end}
use Rattle.list_rules.proofs.queue_rises.Goals as goal

pub returns-then-n-gt-QUEUE : goal.returns-then-n-gt-QUEUE
returns-then-n-gt-QUEUE c = queue_long c.args.waiters.now c.args.n c.args.last c.if-n-gt-QUEUE.true

pub loop-w-init : goal.loop-w-init
loop-w-init c = rising_start c.args.waiters.now c.args.last

pub loop-w-preserved : goal.loop-w-preserved
loop-w-preserved c =
    rising_more c.args.waiters.now c.args.n c.args.last c.loop-w.w-index c.loop-w.before c.loop-w.ok c.loop-w.invariant
    (get_or (take c.args.n c.args.waiters.now) c.loop-w.w-index 0) c.from-top.result c.loop-w-test.true refl c.from-top.ensures

pub returns : goal.returns
returns c =
    rising_end c.args.waiters.now c.args.n c.args.last c.loop-w.w-index c.loop-w.before c.loop-w.ok c.loop-w.invariant
    c.if-n-gt-QUEUE.false (omega arith) c.loop-w-test.false c.loop-w.auto.w-index-end
