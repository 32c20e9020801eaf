-- One law for each exit of a frame's line: what the code knows there gives the line's answer.
use Rattle.std.specs.Prelude.{◌≡◌, refl, List, ◌++◌, ℕ, ◌+◌, ◌*◌, ◌%◌, ◌≤◌, length}
use Rattle.std.proofs.Math.Path.{sym, ap, subst}
use Rattle.std.proofs.Common.{◌∙◌, arith}
use Rattle.std.proofs.Math.ListN.{drop}
use Rattle.definition.specs.Records.{log_line_length}
use Rattle.definition.specs.Refusals.{enough_room, room_records}
use Rattle.definition.specs.Day.{entry_bytes}
use Rattle.definition.specs.declared.Frame.{Frame}
use Rattle.definition.specs.declared.Refusal.{Refusal}
use Rattle.slots.specs.View.{SlotPool}
use Rattle.slots.specs.Call.{World, world, call}
use Rattle.slots.specs.Outcome.{Outcome}
use Rattle.std.specs.declared.result.Result.TheVariants.{Ok, Err}
use Rattle.refinement.specs.Stands.{Formed}
use Rattle.refinement.proofs.Formed.{call_formed}
use Rattle.refinement.specs.RecordRoom.{FewIn}
use Rattle.refinement.proofs.RecordRoom.{call_few}
use Rattle.printing.specs.Printed.{printed, length_printed}
use Rattle.first_line.specs.declared.Phase.TheVariants.{Going}
use Rattle.first_line.specs.OnSlots.{Play}
use Rattle.first_line.specs.Code.{Lined}
use Rattle.first_line.specs.Exits.{length_refused}
use Rattle.frame_lines.specs.OnSlots.{said_of, answered}
use Rattle.frame_lines.specs.Code.{Said}
use Rattle.frame_lines.specs.Exits.{refused_bytes}

pub few_records : (x : Outcome) (n : ℕ) → x ≡ Ok n → FewIn x → n ≤ room_records
few_records x n e h = subst FewIn e h

module _ (x : Outcome) (l : List ℕ) (line : ℕ) (b a : List ℕ) where
  pub said_refused : (r : Refusal) (m : ℕ) → x ≡ Err r → m ≡ line % 4294967296 → a ≡ refused_bytes r m ++ drop log_line_length b
      → Said (said_of x l line) b a log_line_length
  unfolding entry_bytes
  said_refused r m k q e =
      subst (λ (y : Outcome). Said (said_of y l line) b a log_line_length) (sym k)
      (record {
        written = sym (length_refused r line);
        few = omega arith;
        laid = e ∙ ap (λ (z : ℕ). refused_bytes r z ++ drop log_line_length b) q;
      })

  pub said_records : (n : ℕ) → x ≡ Ok n → FewIn x → enough_room ≤ length l → a ≡ printed n l ++ drop (log_line_length * n) b
      → Said (said_of x l line) b a (n * log_line_length)
  said_records n k h m e =
      let few : n ≤ room_records = few_records x n k h in
      let long : length (printed n l) ≡ log_line_length * n = length_printed 16 n l (omega arith) in
      let s : n * log_line_length ≡ log_line_length * n = omega arith in
      subst (λ (y : Outcome). Said (said_of y l line) b a (n * log_line_length)) (sym k)
      (record { written = omega arith; few = omega arith; laid = e ∙ ap (λ (j : ℕ). printed n l ++ drop j b) (sym s) })

module _ (s : Play) (p' : SlotPool) (l' : List ℕ) (f : Frame) (c : Outcome) (e : world p' l' c ≡ call s.pool s.scratch f) (h : Formed s.pool) where
  pub call_fits : FewIn c
  call_fits = subst (λ (w : World). FewIn w.outcome) (sym e) (call_few s.pool h.lists s.scratch f h.stands)

  pub frame_said : (g : Frame) (b a : List ℕ) (n : ℕ) → f ≡ g → Said (said_of c l' (s.used + 2)) b a n
      → Lined (answered s (call s.pool s.scratch g)) b a (record { phase = Going; used = s.used + 1; budget = s.budget; pool = p'; scratch = l' }) n
  frame_said g b a n z k =
      let formed : Formed p' = subst (λ (w : World). Formed w.pool) (sym e) (call_formed s.pool s.scratch f h) in
      subst (λ (w : World). Lined (answered s w) b a (record { phase = Going; used = s.used + 1; budget = s.budget; pool = p'; scratch = l' }) n)
      (e ∙ ap (call s.pool s.scratch) z)
      (record { state = refl; written = k.written; few = k.few; laid = k.laid; able = formed })
