use Rattle.std.proofs.Common.{arith}
use Prim.Native.Nat.{◌≤◌, ◌+◌}
use Rattle.definition.specs.Refusals.{room_records}
use Rattle.frame_lines.proofs.Exits.{few_records, said_refused, said_records}
use Rattle.frame_lines.proofs.say.Goals as goal

pub print_records-requires : goal.print_records-requires
print_records-requires c =
    let few : c.in-Ok.count ≤ room_records = few_records c.args.answer c.in-Ok.count c.in-Ok.is c.requires.0 in
    (omega arith, omega arith)

pub returns-in-Err : goal.returns-in-Err
returns-in-Err c =
    let a = c.args in
    said_refused a.answer a.scratch.now (a.used + 2) a.out.now c.print_refusal.new.o c.in-Err.refusal
    c.line_number.result c.in-Err.is c.line_number.ensures c.print_refusal.ensures

pub returns-in-Ok : goal.returns-in-Ok
returns-in-Ok c =
    said_records c.args.answer c.args.scratch.now (c.args.used + 2) c.args.out.now c.print_records.new.o c.in-Ok.count c.in-Ok.is
    c.requires.0 c.requires.1 c.print_records.ensures
