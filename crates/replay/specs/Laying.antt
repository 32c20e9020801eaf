-- Records laid at the front of a buffer are the bytes of a log's entries.
use Rattle.std.specs.Prelude.{◌≡◌, refl, List, [], ◌∷◌, ◌++◌, ℕ, suc, ◌+◌, ◌*◌, ◌≤◌, length, take, drop}
use Rattle.std.proofs.Common.{sym, ap, ◌∙◌, append_assoc, arith, take-append-drop, length-append, take_at, drop_at, drop-drop, length-take-le}
use Rattle.std.proofs.Math.Nat.{mod-add-mod}
use Rattle.slots.specs.OrderLaws.{length_record, length_laid}
use Rattle.definition.specs.Records.{fields_of}
use Rattle.definition.specs.declared.Record.{Record}
use Rattle.definition.specs.Bytes.{serial_of, record_bytes}
use Rattle.definition.specs.Day.{Entry, Said, entry_bytes, numbered, text_of}
use Rattle.records.specs.Laid.{laid}
use Rattle.slots.specs.Done.{lay}
use Rattle.printing.specs.Printed.{printed, entries_bytes, printed_entries}

pub length_numbered : (w : ℕ) (rs : List Record) → length (numbered w rs) ≡ length rs
unfolding numbered
length_numbered w [] = refl
length_numbered w (r ∷ rs) = ap suc (length_numbered (w + 1) rs)

-- one more behind what is laid
laid_front : (l : List ℕ) (off : ℕ) (bs : List ℕ) → off ≤ length l → take (off + length bs) (laid l off bs) ≡ take off l ++ bs
unfolding laid
laid_front l off bs h =
    let e : (take off l ++ bs) ++ drop (off + length bs) l ≡ take off l ++ (bs ++ drop (off + length bs) l) = append_assoc (take off l) bs _ in
    let n : length (take off l ++ bs) ≡ off + length bs = length-append (take off l) bs ∙ ap (λ (x : ℕ). x + length bs) (length-take-le off l h) in
    ap (take (off + length bs)) (sym e) ∙ take_at (take off l ++ bs) _ (off + length bs) n

laid_back : (l : List ℕ) (off : ℕ) (bs : List ℕ) (k : ℕ) → off ≤ length l → drop (off + length bs + k) (laid l off bs) ≡ drop (off + length bs + k) l
unfolding laid
laid_back l off bs k h =
    let e : (take off l ++ bs) ++ drop (off + length bs) l ≡ take off l ++ (bs ++ drop (off + length bs) l) = append_assoc (take off l) bs _ in
    let n : length (take off l ++ bs) ≡ off + length bs = length-append (take off l) bs ∙ ap (λ (x : ℕ). x + length bs) (length-take-le off l h) in
    sym (drop-drop k (off + length bs) _)
    ∙ ap (λ (x : List ℕ). drop k (drop (off + length bs) x)) (sym e) ∙ ap (drop k) (drop_at (take off l ++ bs) _ (off + length bs) n)
    ∙ drop-drop k (off + length bs) l

same_serial : (s w n : ℕ) → s ≡ serial_of w → serial_of (s + n) ≡ serial_of (w + n)
same_serial s w n e = ap (λ (x : ℕ). serial_of (x + n)) e ∙ mod-add-mod w 4294967296 n

lay_from : (s w n : ℕ) (rs : List Record) (l : List ℕ) → s ≡ serial_of w → 16 * (n + length rs) ≤ length l
    → lay s n rs l ≡ take (16 * n) l ++ (entries_bytes (numbered (w + n) rs) ++ drop (16 * (n + length rs)) l)
unfolding lay numbered entries_bytes entry_bytes
lay_from s w n [] l e h = let z : n + 0 ≡ n = omega arith in rw z (sym (take-append-drop (16 * n) l))
lay_from s w n (r ∷ rs) l e h =
    let bs = record_bytes (serial_of (s + n)) (fields_of r) in
    let k = laid l (16 * n) bs in
    let b : length bs ≡ 16 = length_record (serial_of (s + n)) (fields_of r) in
    let nk : length k ≡ length l = length_laid l (16 * n) bs (omega arith) in
    let ih = lay_from s w (n + 1) rs k e (omega arith) in
    let t : take (16 * (n + 1)) k ≡ take (16 * n) l ++ bs =
    (let z : 16 * (n + 1) ≡ 16 * n + length bs = omega arith in
    ap (λ (x : ℕ). take x k) z ∙ laid_front l (16 * n) bs (omega arith)) in
    let d : drop (16 * (n + 1 + length rs)) k ≡ drop (16 * (n + suc (length rs))) l =
    (let z : 16 * (n + 1 + length rs) ≡ 16 * n + length bs + 16 * length rs = omega arith in
    let y : 16 * n + length bs + 16 * length rs ≡ 16 * (n + suc (length rs)) = omega arith in
    ap (λ (x : ℕ). drop x k) z ∙ laid_back l (16 * n) bs (16 * length rs) (omega arith) ∙ ap (λ (x : ℕ). drop x l) y) in
    let v : w + (n + 1) ≡ w + n + 1 = omega arith in
    let rest = entries_bytes (numbered (w + n + 1) rs) in
    let tail = drop (16 * (n + suc (length rs))) l in
    ih
    ∙ rw (t, d, v, ← same_serial s w n e)
    (append_assoc (take (16 * n) l) bs (rest ++ tail) ∙ ap (λ (x : List ℕ). take (16 * n) l ++ x) (sym (append_assoc bs rest tail)))

-- an event's records
pub lay_entries : (s w : ℕ) (rs : List Record) (l : List ℕ) → s ≡ serial_of w → 16 * length rs ≤ length l
    → lay s 0 rs l ≡ entries_bytes (numbered w rs) ++ drop (16 * length rs) l
lay_entries s w rs l e h =
    let z : w + 0 ≡ w = omega arith in
    let y : 0 + length rs ≡ length rs = omega arith in
    rw (z, y) at (lay_from s w 0 rs l e (omega arith))

pub length_lay : (s n : ℕ) (rs : List Record) (l : List ℕ) → 16 * (n + length rs) ≤ length l → length (lay s n rs l) ≡ length l
unfolding lay
length_lay s n [] l h = refl
length_lay s n (r ∷ rs) l h =
    let bs = record_bytes (serial_of (s + n)) (fields_of r) in
    let b : length bs ≡ 16 = length_record (serial_of (s + n)) (fields_of r) in
    let nk : length (laid l (16 * n) bs) ≡ length l = length_laid l (16 * n) bs (omega arith) in
    length_lay s (n + 1) rs (laid l (16 * n) bs) (omega arith) ∙ nk

-- and printed they are the log's text
pub printed_lay : (s w : ℕ) (rs : List Record) (l : List ℕ) → s ≡ serial_of w → 16 * length rs ≤ length l
    → printed (length rs) (lay s 0 rs l) ≡ text_of (numbered w rs)
printed_lay s w rs l e h =
    rw (lay_entries s w rs l e h)
    (ap (λ (n : ℕ). printed n (entries_bytes (numbered w rs) ++ drop (16 * length rs) l)) (sym (length_numbered w rs)) ∙ printed_entries (numbered w rs) _)

-- ── Entries, one after the other ───────────────────────────────────────────────────────────────────────────────────────────

pub entries_length : (w : ℕ) (rs : List Record) → length (entries_bytes (numbered w rs)) ≡ 16 * length rs
unfolding entries_bytes numbered entry_bytes
entries_length w [] = refl
entries_length w (r ∷ rs) = length-append (record_bytes (serial_of w) (fields_of r)) _ ∙ omega (arith, length_record (serial_of w) (fields_of r), entries_length (w + 1) rs)

pub numbered_append : (w : ℕ) (xs ys : List Record) → numbered w (xs ++ ys) ≡ numbered w xs ++ numbered (w + length xs) ys
unfolding numbered
numbered_append w [] ys = let z : w + 0 ≡ w = omega arith in rw z
numbered_append w (x ∷ xs) ys =
    let z : w + 1 + length xs ≡ w + suc (length xs) = omega arith in
    ap (λ (es : List Entry). Said w x ∷ es) (numbered_append (w + 1) xs ys ∙ rw z)

pub entries_append : (xs ys : List Entry) → entries_bytes (xs ++ ys) ≡ entries_bytes xs ++ entries_bytes ys
unfolding entries_bytes
entries_append [] ys = refl
entries_append (e ∷ xs) ys = rw (entries_append xs ys, append_assoc)
