use Rattle.definition.specs.Bytes.{frame_bytes, frame_of}
use Rattle.laying.specs.Laws.{room_left, sum_small, lays_both, event_written}
use Rattle.laying.proofs.lay.Goals as goal

pub slice_bounds-lay_event-count : goal.slice_bounds-lay_event-count
slice_bounds-lay_event-count c =
    (room_left c.args.h c.args.out.now c.lay_first-n.new.out c.lay_first-n.result c.lay_first-n.ensures c.requires).0

pub lay_event-requires : goal.lay_event-requires
lay_event-requires c =
    (room_left c.args.h c.args.out.now c.lay_first-n.new.out c.lay_first-n.result c.lay_first-n.ensures c.requires).1

pub overflow_add-result : goal.overflow_add-result
overflow_add-result c =
    record { fits = sum_small c.args.h (frame_of (frame_bytes _ _)) _ _ _ _ c.lay_first-n.result c.lay_event.result c.lay_first-n.ensures c.lay_event.ensures }

pub returns-in-Event : goal.returns-in-Event
returns-in-Event c =
    event_written c.args.h c.args.t _ _ c.in-Event.is
    (lays_both _ _ c.args.out.now c.lay_first-n.new.out c.lay_event.new.out c.lay_first-n.result c.lay_event.result c.lay_first-n.ensures c.lay_event.ensures)
