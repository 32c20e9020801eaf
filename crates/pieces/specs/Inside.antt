-- The buffer is what its first bytes say.
use Rattle.std.specs.Prelude.{◌≡◌, List, ℕ, ◌++◌, ◌-◌, length, take, drop, replicate}
use Rattle.std.proofs.Common.{sym, ap, ◌∙◌, arith, take-append-drop, length-take-le}
use Rattle.pieces.specs.Holds.{held_most, Holds}
use Rattle.pieces.specs.declared.Held.TheInside.{Inside}

pub held_back : (h : Inside) → Holds h.bytes h.count
    → record { bytes = take h.count h.bytes ++ replicate (held_most - length (take h.count h.bytes)) 0; count = length (take h.count h.bytes) } ≡ h
held_back h k =
    let l : length (take h.count h.bytes) ≡ h.count = length-take-le h.count h.bytes (omega (arith, k.few, k.long)) in
    let e : take h.count h.bytes ++ replicate (held_most - h.count) 0 ≡ h.bytes =
    ap (λ (x : List ℕ). take h.count h.bytes ++ x) (sym k.blank) ∙ take-append-drop h.count h.bytes in
    ap (λ (n : ℕ). record { bytes = take h.count h.bytes ++ replicate (held_most - n) 0; count = n }) l
    ∙ ap (λ (x : List ℕ). record { bytes = x; count = h.count }) e
