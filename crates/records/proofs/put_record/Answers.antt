use Rattle.std.proofs.Common.{arith, length-set, rules}
use Rattle.records.proofs.Laws.{record_laid}
use Rattle.records.proofs.put_record.Goals as goal

pub bounds-o-1 : goal.bounds-o-1
bounds-o-1 c = simp length-set (omega arith)

pub bounds-o-2 : goal.bounds-o-2
bounds-o-2 c = simp length-set (omega arith)

pub bounds-o-3 : goal.bounds-o-3
bounds-o-3 c = simp length-set (omega arith)

pub shape_of-o : goal.shape_of-o
shape_of-o c = simp length-set (search rules)

pub returns : goal.returns
returns c =
    record_laid c.args.kind c.args.reason c.args.serial c.args.id c.args.other c.args.o.now c.put_u32.new.o c.put_u32-2.new.o c.put_u32-3.new.o
    c.requires c.put_u32.ensures c.put_u32-2.ensures c.put_u32-3.ensures
