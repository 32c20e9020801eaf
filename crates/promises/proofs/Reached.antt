-- What every pool that is reached is: within its maximum, its queue not too long, and as its state says.
use Rattle.std.specs.Prelude.{◌≡◌, refl, List, [], ◌∷◌, ℕ, ◌+◌, ◌≤◌, length}
use Rattle.std.specs.Prelude.{None as none}
use Rattle.std.proofs.Common.{arith, leb-false}
use Rattle.definition.specs.Laws.{not_first}
use Rattle.definition.specs.Pool.{Pool, queue_length, with_clock, fresh}
use Rattle.definition.specs.Steps.{◌>>◌}
use Rattle.definition.specs.Refusals.{first, kind_tests, Result, Call, after, run}
use Rattle.definition.specs.declared.Options.{Options}
use Rattle.definition.specs.declared.Event.{Event}
use Rattle.definition.specs.declared.Event.TheVariants.{CheckOut, WarmPool, Abandon, CheckIn, Clear, MarkAsReady, Succeeded, SucceededForPool, Failed, Maintenance, FillPool, Pin, ReturnToPinner, TakeFromPinner, Close}
use Rattle.definition.specs.declared.Frame.{Frame}
use Rattle.definition.specs.declared.Frame.TheVariants.{Good}
use Rattle.promises.specs.Runs.{arrivals, next}
use Rattle.promises.specs.Calls.{Stepped, no_step, a_step, stepped, passed_open, passed_kind, passed_named, passed_caused}
use Rattle.promises.specs.Flow.{Calm}
use Rattle.promises.proofs.Flow.{step_flow}
use Rattle.promises.proofs.Progress.{flow_lengths}
use Rattle.promises.proofs.Keeps.{step_options}
use Rattle.promises.specs.Bound.{Fits}
use Rattle.promises.proofs.Bound.{event_fits}
use Rattle.promises.specs.States.{Stated}
use Rattle.promises.proofs.States.{stated_calm, event_stated}
use Rattle.promises.specs.Reached.{Reached}

pub calm : (p : Pool) → Reached p → Calm p
calm p g = stated_calm p g.state

-- an accepted request finds room in the queue
kind_short : (p : Pool) (e : Event) (now : ℕ) → length p.waiting ≤ queue_length → first (kind_tests p e now) ≡ none
    → length p.waiting + length (arrivals e) ≤ queue_length
kind_short p (CheckOut n) now h k = omega (arith, leb-false queue_length (length p.waiting) (not_first _ _ _ (not_first _ _ _ k).1).0)
kind_short p (WarmPool n) now h k = omega (arith, leb-false queue_length (length p.waiting) (not_first _ _ _ (not_first _ _ _ k).1).0)
kind_short p (Abandon n) now h k = omega arith
kind_short p (CheckIn n errored executing let_go) now h k = omega arith
kind_short p (Clear timeout cause) now h k = omega arith
kind_short p MarkAsReady now h k = omega arith
kind_short p (Succeeded n) now h k = omega arith
kind_short p (SucceededForPool n opened) now h k = omega arith
kind_short p (Failed n) now h k = omega arith
kind_short p Maintenance now h k = omega arith
kind_short p FillPool now h k = omega arith
kind_short p (Pin n) now h k = omega arith
kind_short p (ReturnToPinner n) now h k = omega arith
kind_short p (TakeFromPinner n) now h k = omega arith
kind_short p Close now h k = omega arith

step_short : (p : Pool) (f : Frame) (room : ℕ) (r : Result) → Stepped p f room r → Reached p → length (after p r).pool.waiting ≤ queue_length
step_short p f room r (no_step n) g = g.short
step_short p f room r (a_step {e = e} {now = now} {room = room'} h) g =
    omega (arith, flow_lengths p _ (step_flow p (Good e now) room' _ (calm p g) (a_step h)), kind_short p e now g.short (passed_kind p e now room' h))

step_fits : (p : Pool) (f : Frame) (room : ℕ) (r : Result) → Stepped p f room r → Reached p → Fits p.options.maximum (after p r)
step_fits p f room r (no_step n) g = g.fits
step_fits p f room r (a_step {e = e} {now = now} {room = room'} h) g =
    event_fits e (with_clock p now) (passed_named p e now room' h) g.ordered g.fits

step_state : (p : Pool) (f : Frame) (room : ℕ) (r : Result) → Stepped p f room r → Stated p → Stated (after p r).pool
unfolding Stated
step_state p f room r (no_step n) h = h
step_state p f room r (a_step {e = e} {now = now} {room = room'} k) h =
    event_stated e (with_clock p now) (passed_named p e now room' k) (passed_open p e now room' k) (passed_caused p e now room' k) h

pub step_reached : (p : Pool) (f : Frame) (room : ℕ) (r : Result) → Stepped p f room r → Reached p → Reached (after p r).pool
step_reached p f room r s g = record {
  ordered = rw (step_options p f room r s) g.ordered;
  fits = rw (step_options p f room r s) (step_fits p f room r s g);
  short = step_short p f room r s g;
  state = step_state p f room r s g.state;
}

pub run_reached : (cs : List Call) (p : Pool) → Reached p → Reached (run cs p).pool
unfolding run ◌>>◌
run_reached [] p g = g
run_reached (c ∷ cs) p g = run_reached cs (next p c) (step_reached p c.frame c.room _ (stepped p c.frame c.room) g)

fresh_stated : (o : Options) → Stated (fresh o)
unfolding Stated
fresh_stated o = refl

pub fresh_reached : (o : Options) → o.minimum ≤ o.maximum → Reached (fresh o)
fresh_reached o h = record { ordered = h; fits = omega arith; short = omega arith; state = fresh_stated o }
