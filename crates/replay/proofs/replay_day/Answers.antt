use Rattle.std.proofs.Common.{arith}
use Rattle.replay.specs.Exits.{day_done, day_left, day_short}
use Rattle.replay.proofs.replay_day.Goals as goal
use Rattle.replay.proofs.replay_day.Goals.{else-p-text-via-then-p-text+else-out-n-ge-ROOM_LINES, else-p-text-via-else-p-text}

pub overflow_add-result : goal.overflow_add-result
overflow_add-result c =
    omega (arith, c.finish-k.ensures.few, c.go_on-p.ensures.fits, c.if-out-n-ge-ROOM_LINES.true, c.go_on-p.auto.out)

pub returns-then-out-n-ge-ROOM_LINES : goal.returns-then-out-n-ge-ROOM_LINES
returns-then-out-n-ge-ROOM_LINES c =
    let a = c.args in
    let p = c.go_on-p in
    day_done a.budget a.text.now a.out.now p.new.out c.begin-s.result p.new.session p.result.read p.result.written c.begin-s.ensures p.ensures
    p.auto.out c.if-p-text.true c.if-out-n-ge-ROOM_LINES.true c.finish-k.new.out c.finish-k.result.used c.finish-k.result.written c.finish-k.ensures

pub returns : goal.returns
returns c =
    let a = c.args in
    let p = c.go_on-p in
    elim c.else-p-text.branch [
      | else-p-text-via-then-p-text+else-out-n-ge-ROOM_LINES w ↦
          day_short a.budget a.text.now a.out.now p.new.out c.begin-s.result p.new.session p.result.read p.result.written c.begin-s.ensures p.ensures
          p.auto.out w.if-out-n-ge-ROOM_LINES.false
      | else-p-text-via-else-p-text w ↦
          day_left a.budget a.text.now a.out.now p.new.out c.begin-s.result p.new.session p.result.read p.result.written c.begin-s.ensures p.ensures
          p.auto.out w.if-p-text.false
    ]
