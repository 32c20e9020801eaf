use Rattle.std.specs.Prelude.{refl}
use Rattle.std.proofs.Common.{sym, rules}
use Rattle.slots.specs.Parts.{worker_whole, generation_at}
use Rattle.check_in.specs.Exits.{checked_in, tested, in_closed, in_errored, in_stale, in_executing, in_kept}
use Rattle.check_in.proofs.check_in.Goals as goal

pub returns-then-is_closed : goal.returns-then-is_closed
returns-then-is_closed c = in_closed c.args.worker.now c.args.i c.args.errored c.args.executing c.args.let_go c.is_closed.ensures c.if-is_closed.true c.close_connection.ensures

pub returns-then-errored : goal.returns-then-errored
returns-then-errored c =
    let w = c.args.worker.now in
    let said = checked_in w c.args.i c.is_closed.ensures c.if-is_closed.false refl c.emit.ensures in
    in_errored w c.args.i c.args.errored c.args.executing c.args.let_go said c.if-errored.true c.close_connection-then-errored.ensures

pub returns-then-is_stale : goal.returns-then-is_stale
returns-then-is_stale c =
    let w = c.args.worker.now in
    let said = checked_in w c.args.i c.is_closed.ensures c.if-is_closed.false refl c.emit.ensures in
    let generation = sym (generation_at w (worker_whole w (search rules)) c.args.i c.requires.1.slot) in
    in_stale w c.args.i c.args.errored c.args.executing c.args.let_go said c.if-errored.false (tested w c.args.i c.is_stale.ensures generation c.if-is_stale.true) c.close_connection-then-is_stale.ensures

pub returns-then-executing : goal.returns-then-executing
returns-then-executing c =
    let w = c.args.worker.now in
    let said = checked_in w c.args.i c.is_closed.ensures c.if-is_closed.false refl c.emit.ensures in
    let generation = sym (generation_at w (worker_whole w (search rules)) c.args.i c.requires.1.slot) in
    in_executing w c.args.i c.args.errored c.args.executing c.args.let_go said c.if-errored.false (tested w c.args.i c.is_stale.ensures generation c.if-is_stale.false) c.if-executing.true c.close_connection-then-executing.ensures

pub returns-else-executing : goal.returns-else-executing
returns-else-executing c =
    let w = c.args.worker.now in
    let said = checked_in w c.args.i c.is_closed.ensures c.if-is_closed.false refl c.emit.ensures in
    let generation = sym (generation_at w (worker_whole w (search rules)) c.args.i c.requires.1.slot) in
    in_kept w c.args.i c.args.errored c.args.executing c.args.let_go said c.if-errored.false (tested w c.args.i c.is_stale.ensures generation c.if-is_stale.false) c.if-executing.false c.shelve.ensures
